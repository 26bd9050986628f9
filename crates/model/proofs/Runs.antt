-- The opening world, one step and runs of steps, in terms of the values that the code has.
use Rattle.std.specs.Prelude.{nat_lt, nat_le, Result, Ok, IsErr, ◌↔◌}
use Rattle.std.proofs.Common.{◌≡◌, ℕ, zero, suc, ◌+◌, ◌-◌, ◌*◌, ◌^◌, ◌<◌, ◌≤◌, Bool, true, false, if◌then◌else◌, List, [], ◌∷◌, ◌++◌, length, drop, map, flat_map, set, get_or, Option, Some, None, refl, sym, ap, subst, ◌∙◌, append-nil, arith, lit<}
use Rattle.std.proofs.lemmas.Bool.{false≢true, ltb-true, ltb-false, and_parts, leb-true}
use Rattle.std.specs.List.{AllByRecursion as Every, slice_get}
use Rattle.std.proofs.Math.Nat.{one-le-pow, pow-le-pow_right, pow-succ', mul-le-mul_right, add-mul, one-mul}
use Rattle.std.proofs.lemmas.List.{map-append, length-map, get_or-map}
use Rattle.std.proofs.lemmas.List.Concat.{flat_map-append}
use Rattle.std.proofs.lemmas.List.Elements.{at_read}
use Rattle.eventkey.proofs.Bags.{time_from_at_most}
use Rattle.eventkey.proofs.Lists.{Every-set, Every-weaker}
use Rattle.eventkey.specs.Bag.{IsAscending, add, add_all}
use Rattle.eventkey.specs.Message.{IsAtMost, Message, is_before}
use Rattle.model.specs.Inside.{IsSimulation}
use Rattle.model.specs.Meaning.{IsAddressed, IsLawful, IsSend, Meaning, stamp, stamped}
use Rattle.model.specs.Runner.{Handles, IsIdle, IsLimited, IsRun, Simulation, is_due}
use Rattle.model.specs.World.{IsUpto, IsWorld, Reaches, World, below, given_or, handled, number_of, opening, opening_at, starting, state_of, step}
use Rattle.model.specs.declared.origin.Origin.{Origin}
use Rattle.model.specs.declared.Outgoing.{Outgoing}
use Rattle.model.specs.declared.WorldFault.{WorldFault}
use Rattle.model.proofs.Steps.{opening_IsReached, opening_is_upto, step_made}
use Rattle.model.proofs.Worlds.{handled_IsWorld, opening_IsWorld, step_is, words_at}

-- 1. The opening world

add_all-append : (ms ns xs : List Message) → add_all (ms ++ ns) xs ≡ add_all ns (add_all ms xs)
add_all-append [] ns xs = refl
add_all-append (m ∷ ms) ns xs = add_all-append ms ns (add m xs)

-- the values of one more process
pub map_below : {X : Type 0} (f : ℕ → X) (n : ℕ) (xs : List X) (x : X) → xs ≡ map f (below n) → x ≡ f n → xs ++ x ∷ [] ≡ map f (below (suc n))
map_below f n xs x e h = rw (e, h) (sym (map-append f (below n) (n ∷ [])))

abbrev pub started : Meaning → ℕ → List Message
started m lp = stamp lp 0 0 (m.start_sends lp)

pub pending_below : (m : Meaning) (n : ℕ) (xs : List Message) → xs ≡ add_all (flat_map (started m) (below n)) [] → add_all (started m n) xs ≡ add_all (flat_map (started m) (below (suc n))) []
pending_below m n xs e =
    ap (add_all (started m n)) e
    ∙ sym (add_all-append (flat_map (started m) (below n)) (started m n) [])
    ∙ ap (λ (ms : List Message). add_all ms []) (ap (λ (ms : List Message). flat_map (started m) (below n) ++ ms) (sym (append-nil (started m n))) ∙ sym (flat_map-append (started m) (below n) (n ∷ [])))

pub opening_holds : (m : Meaning) (end : ℕ) → IsLawful m → 1 ≤ end → end ≤ 2 ^ 40 → IsSimulation (record { end = end; world = opening m })
opening_holds m end law some short =
    let is = opening_IsReached m law in
    record { some = some; end = short; world = subst (λ (n : ℕ). IsWorld n (opening m)) (sym is.world.states) is.world; numbers = is.numbers }

-- a model with an origin begins with it
pub begun_at : (m : Meaning) (o : Origin) → m.origin ≡ Some o → opening_at o ≡ opening m
begun_at m o is = ap (λ (given : Option Origin). opening_at (given_or given (starting m))) (sym is)

pub begun_upto : (m : Meaning) (end : ℕ) (s : Simulation) → s ≡ record { end = end; world = opening m } → IsUpto m end 0 s.world
begun_upto m end s e = subst (λ (t : Simulation). IsUpto m end 0 t.world) (sym e) (opening_is_upto m end)

pub begun_lps : (m : Meaning) (end : ℕ) (s : Simulation) → IsLawful m → s ≡ record { end = end; world = opening m } → length s.world.states ≡ m.lps
begun_lps m end s law e = ap (λ (t : Simulation). length t.world.states) e ∙ (opening_IsWorld m law).states

five : {A B C D E : Type 0} {a a' : A} {b b' : B} {c c' : C} {d d' : D} {e e' : E} → a ≡ a' → b ≡ b' → c ≡ c' → d ≡ d' → e ≡ e' → ◌≡◌ {A = A × B × C × D × E} (a, b, c, d, e) (a', b', c', d', e')
five p q r s t = cc

pub same_world : (a b : World) → a.time ≡ b.time → a.states ≡ b.states → a.numbers ≡ b.numbers → a.pending ≡ b.pending → a.log ≡ b.log → a ≡ b
same_world a b p q r s t = ap (λ (v : ℕ × List (List ℕ) × List ℕ × List Message × List Message). record { time = v.0; states = v.1; numbers = v.2; pending = v.3; log = v.4 }) (five p q r s t)

-- 2. One step

-- the first element, if a look-up finds one
pub first_is : {X : Type 0} (xs : List X) (x : X) → Some x ≡ slice_get xs 0 → xs ≡ x ∷ drop 1 xs
first_is [] x e = cc
first_is (y ∷ ys) x e = cc

pub none_first : {X : Type 0} (xs : List X) → None ≡ slice_get xs 0 → xs ≡ []
none_first [] e = refl
none_first (y ∷ ys) e = cc

pub idle_late : (end : ℕ) (w : World) (x : Message) (rest : List Message) → IsAscending w.pending → w.pending ≡ x ∷ rest → end ≤ x.time → IsIdle end w
idle_late end w x rest up first late =
    let up' : IsAscending (x ∷ rest) = rw first at up in
    let all : Every (λ (y : Message). end ≤ y.time) (x ∷ rest) = (late, Every-weaker (IsAtMost x) (λ (y : Message). end ≤ y.time) (λ y h. let t = time_from_at_most x y h in omega arith) rest up'.0) in
    rw first all

pub not_idle : (end : ℕ) (w : World) (x : Message) (rest : List Message) → w.pending ≡ x ∷ rest → x.time < end → IsIdle end w → ⊥
not_idle end w x rest first early idle =
    let all : Every (λ (y : Message). end ≤ y.time) (x ∷ rest) = rw first at idle in
    let late = all.0 in
    omega arith

-- the receiver's send number after the message is handled
abbrev pub number_after : Meaning → World → Message → ℕ
number_after m w x = number_of w x.to + length (m.sends x.to (state_of w x.to) x)

head_of : List Message → Message → Message
head_of [] d = d
head_of (x ∷ xs) d = x

same_head : (x y : Message) (xs ys : List Message) → x ∷ xs ≡ y ∷ ys → x ≡ y
same_head x y xs ys e = cc

pub limited_over : (m : Meaning) (end : ℕ) (w : World) (x : Message) (rest : List Message) → w.pending ≡ x ∷ rest → IsLimited m end w → (x.time < end) × (2 ^ 63 < number_after m w x)
limited_over m end w x rest first h =
    let same : h.least ≡ x = same_head h.least x h.rest rest (sym h.pending ∙ first) in
    subst (λ (y : Message). (y.time < end) × (2 ^ 63 < number_after m w y)) same (h.early, h.over)

pub limited_none : (m : Meaning) (end : ℕ) (w : World) → w.pending ≡ [] → IsLimited m end w → ⊥
limited_none m end w none h = let e : h.least ∷ h.rest ≡ [] = sym h.pending ∙ none in cc

pub answered : (x y : Message) → ◌≡◌ {A = Result (Option Message) WorldFault} (Ok (Some x)) (Ok (Some y)) → x ≡ y
answered x y e = cc

pub err_not_ok : {T E : Type 0} (r : Result T E) (x : T) → IsErr r → r ≡ Ok x → ⊥
err_not_ok {T} {E} r x h e = let h' : IsErr {T = T} {E = E} (Ok x) = subst IsErr e h in false≢true h'

-- an element that was read, after a function is mapped over the list, with any default
pub read_map : {X Y : Type 0} (f : X → Y) (xs : List X) (i : ℕ) (x : X) (e : Y) → i < length (map f xs) → x ≡ get_or xs i x → f x ≡ get_or (map f xs) i e
read_map f xs i x e h r = ap f r ∙ sym (get_or-map f xs i x e (rw length-map at h))

pub read_any : {X : Type 0} (xs : List X) (i : ℕ) (x d : X) → i < length xs → x ≡ get_or xs i x → x ≡ get_or xs i d
read_any xs i x d h r = at_read xs (λ y. x ≡ y) i x h r refl d

-- the values that a step reads
pub record IsAt (m : Meaning) (w : World) (x : Message) (lp : ℕ) (state : List ℕ) (sent : List Outgoing) (number count : ℕ) : Type 0 where
  pub to_is : lp ≡ x.to
  pub state_is : state ≡ state_of w lp
  pub sent_is : sent ≡ m.sends lp state x
  pub number_is : number ≡ number_of w lp
  pub count_is : count ≡ length sent

pub after_is : (m : Meaning) (w : World) (x : Message) (lp : ℕ) (state : List ℕ) (sent : List Outgoing) (number count : ℕ) → IsAt m w x lp state sent number count → number_after m w x ≡ number + count
after_is m w x lp state sent number count at' =
    let l = at'.to_is in
    let s = rw l at at'.state_is in
    let e = rw l at at'.sent_is in
    let k = rw l at at'.number_is in
    rw (at'.count_is, e, s, k) refl

pub handled_is : (m : Meaning) (w : World) (x : Message) (rest : List Message) (lp : ℕ) (state words : List ℕ) (sent : List Outgoing) (number count time : ℕ) (new : World) → IsAt m w x lp state sent number count →
    words ≡ m.next_state lp state x → time ≡ x.time → new.time ≡ w.time → new.states ≡ set w.states lp words → new.numbers ≡ set w.numbers lp (number + count) →
    new.pending ≡ add_all (stamp lp time number sent) rest → new.log ≡ w.log ++ x ∷ [] → new ≡ handled m w x rest
handled_is m w x rest lp state words sent number count time new at' f h t st nu pe lo =
    let l = at'.to_is in
    let s' = rw l at at'.state_is in
    let e' = rw l at at'.sent_is in
    let k' = rw l at at'.number_is in
    let f' = rw l at f in
    let st' = rw l at st in
    let nu' = rw l at nu in
    let pe' = rw l at pe in
    same_world new (handled m w x rest) t (st' ∙ rw (f', s') refl) (nu' ∙ rw (at'.count_is, e', s', k') refl) (pe' ∙ rw (e', s', k', h) refl) lo

-- the least pending message goes to an existing process, and its numbers are in their ranges
pub first_addressed : (s : Simulation) (x : Message) (rest : List Message) → IsSimulation s → s.world.pending ≡ x ∷ rest → IsAddressed (length s.world.states) x
first_addressed s x rest is first = let all : Every (IsAddressed (length s.world.states)) (x ∷ rest) = rw first at is.world.addressed in all.0

-- a step keeps the invariant of worlds
pub handled_keeps : (m : Meaning) (s : Simulation) (x : Message) (rest : List Message) (new : World) → IsLawful m → length s.world.states ≡ m.lps → IsSimulation s → s.world.pending ≡ x ∷ rest → x.time < s.end →
    number_after m s.world x ≤ 2 ^ 63 → new ≡ handled m s.world x rest → IsSimulation (record { end = s.end; world = new })
handled_keeps m s x rest new law lps is first early fits e =
    let w = s.world in
    let short = is.end in
    let world : IsWorld m.lps w = subst (λ (n : ℕ). IsWorld n w) lps is.world in
    let up : IsAscending (x ∷ rest) = rw first at world.ascending in
    let to : Every (IsAddressed m.lps) (x ∷ rest) = rw first at world.addressed in
    let next : IsWorld m.lps (handled m w x rest) = handled_IsWorld m w x rest law world to.0 (omega arith) fits up.1 to.1 in
    let there : IsWorld (length (handled m w x rest).states) (handled m w x rest) = subst (λ (n : ℕ). IsWorld n (handled m w x rest)) (sym next.states) next in
    let numbers : Every (λ (n : ℕ). n ≤ 2 ^ 63) (handled m w x rest).numbers = Every-set (λ (n : ℕ). n ≤ 2 ^ 63) w.numbers x.to (number_after m w x) fits is.numbers in
    subst (λ (v : World). IsSimulation (record { end = s.end; world = v })) (sym e) (record { some = is.some; end = is.end; world = there; numbers = numbers })

-- 3. Runs

pub run_none : (m : Meaning) (bound : ℕ) (w : World) → IsRun m bound w w
run_none m bound w = record { steps = 0; reached = refl }

reaches_more : (m : Meaning) (bound n : ℕ) (old mid new : World) → Reaches m bound n old mid → step m bound mid ≡ Some new → Reaches m bound (suc n) old new
reaches_more m bound zero old mid new r s = (new, subst (λ (w : World). step m bound w ≡ Some new) r s, refl)
reaches_more m bound (suc n) old mid new r s = (r.0, r.1, reaches_more m bound n r.0 mid new r.2 s)

pub run_more : (m : Meaning) (bound : ℕ) (old mid new : World) → IsRun m bound old mid → step m bound mid ≡ Some new → IsRun m bound old new
run_more m bound old mid new r s = record { steps = suc r.steps; reached = reaches_more m bound r.steps old mid new r.reached s }

-- The amount of work before the bound: a handled message sends at most eight others, each with a
-- later time.
unfoldable pub weight : ℕ → List Message → ℕ
weight bound [] = 0
weight bound (x ∷ xs) = 9 ^ (bound - x.time) + weight bound xs

weight-cons : (b : ℕ) (x : Message) (xs : List Message) → weight b (x ∷ xs) ≡ 9 ^ (b - x.time) + weight b xs
unfolding weight
weight-cons b x xs = refl

weight-nil : (b : ℕ) → weight b [] ≡ 0
unfolding weight
weight-nil b = refl

weight-add : (b : ℕ) (m : Message) (xs : List Message) → weight b (add m xs) ≡ 9 ^ (b - m.time) + weight b xs
weight-add b m [] = weight-cons b m []
weight-add b m (x ∷ xs) = go (weight-add b m xs) (is_before m x)
  where
    go : weight b (add m xs) ≡ 9 ^ (b - m.time) + weight b xs → (v : Bool) → weight b (if v then m ∷ x ∷ xs else x ∷ add m xs) ≡ 9 ^ (b - m.time) + weight b (x ∷ xs)
    go h true = weight-cons b m (x ∷ xs)
    go h false = omega (arith, h, weight-cons b x (add m xs), weight-cons b x xs)

weight-add_all : (b : ℕ) (ms xs : List Message) → weight b (add_all ms xs) ≡ weight b ms + weight b xs
weight-add_all b [] xs = omega (arith, weight-nil b)
weight-add_all b (m ∷ ms) xs = let all = weight-add_all b ms (add m xs) in let one = weight-add b m xs in let front = weight-cons b m ms in all ∙ omega (arith, one, front)

weight-stamp : (b lps lp time n : ℕ) (os : List Outgoing) → time < b → Every (IsSend lps) os → weight b (stamp lp time n os) ≤ length os * 9 ^ (b - suc time)
weight-stamp b lps lp time n [] h all = omega (arith, weight-nil b)
weight-stamp b lps lp time n (o ∷ os) h all =
    let first = all.0.delay in
    let power : 9 ^ (b - (time + o.delay)) ≤ 9 ^ (b - suc time) = pow-le-pow_right (lit< tt) (omega (arith, first)) in
    let rest = weight-stamp b lps lp time (n + 1) os h all.1 in
    let front = weight-cons b (stamped lp time n o) (stamp lp time (n + 1) os) in
    let product : (length os + 1) * 9 ^ (b - suc time) ≡ length os * 9 ^ (b - suc time) + 9 ^ (b - suc time) = add-mul (length os) 1 (9 ^ (b - suc time)) ∙ ap (λ (k : ℕ). length os * 9 ^ (b - suc time) + k) (one-mul (9 ^ (b - suc time))) in
    let count : suc (length os) ≡ length os + 1 = omega arith in
    rw (count, product, front) (omega (arith, power, rest))

-- each step leaves less work
pub step_lighter : (m : Meaning) (b end : ℕ) (s : Simulation) (new : World) → IsLawful m → length s.world.states ≡ m.lps → IsSimulation s → is_due b s.world.pending ≡ true → step m end s.world ≡ Some new → weight b new.pending < weight b s.world.pending
step_lighter m b end s new law lps is due e =
    let w = s.world in
    let st = step_is m end w new e in
    let x = st.0 in
    let rest = st.1 in
    let due' : is_due b (x ∷ rest) ≡ true = subst (λ (xs : List Message). is_due b xs ≡ true) st.2 due in
    let early : x.time < b = ltb-true x.time b due' in
    let at = first_addressed s x rest is st.2 in
    let there : x.to < m.lps = subst (λ (n : ℕ). x.to < n) lps at.to in
    let words = words_at w x.to is.world.words in
    let sent = m.sends x.to (state_of w x.to) x in
    let few = law.few x.to (state_of w x.to) x there words at.ranged in
    let made = weight-stamp b m.lps x.to x.time (number_of w x.to) sent early (law.each x.to (state_of w x.to) x there words at.ranged) in
    let eight : length sent * 9 ^ (b - suc x.time) ≤ 8 * 9 ^ (b - suc x.time) = mul-le-mul_right (9 ^ (b - suc x.time)) few in
    let some : 1 ≤ 9 ^ (b - suc x.time) = one-le-pow (b - suc x.time) 9 (lit< tt) in
    let exponent : b - x.time ≡ suc (b - suc x.time) = omega arith in
    let nine : 9 ^ (b - x.time) ≡ 9 * 9 ^ (b - suc x.time) = ap (λ (k : ℕ). 9 ^ k) exponent ∙ pow-succ' 9 (b - suc x.time) in
    let all = weight-add_all b (stamp x.to x.time (number_of w x.to) sent) rest in
    let old : weight b w.pending ≡ 9 ^ (b - x.time) + weight b rest = ap (weight b) st.2 ∙ weight-cons b x rest in
    let new' : weight b new.pending ≡ weight b (handled m w x rest).pending = ap (λ (v : World). weight b v.pending) st.3 in
    omega (arith, made, eight, some, nine, all, old, new')

-- a step of a message before the bound is also a step with the bound as the end
pub step_below : (m : Meaning) (bound end : ℕ) (w new : World) → is_due bound w.pending ≡ true → step m end w ≡ Some new → step m bound w ≡ Some new
step_below m bound end w new due e =
    let s = step_is m end w new e in
    let due' : is_due bound (s.0 ∷ s.1) ≡ true = subst (λ (xs : List Message). is_due bound xs ≡ true) s.2 due in
    let can = and_parts (nat_lt s.0.time end) (nat_le (number_after m w s.0) (2 ^ 63)) s.4 in
    step_made m bound w s.0 s.1 s.2 (ltb-true s.0.time bound due') (leb-true (number_after m w s.0) (2 ^ 63) can.1) ∙ ap Some (sym s.3)

-- a world with a message before the bound is not idle
pub not_due : (bound : ℕ) (w : World) → is_due bound w.pending ≡ true → IsIdle bound w → ⊥
not_due bound w due idle = go w.pending refl
  where
    go : (xs : List Message) → w.pending ≡ xs → ⊥
    go [] e = let due' : false ≡ true = subst (λ (xs : List Message). is_due bound xs ≡ true) e due in false≢true due'
    go (x ∷ rest) e =
        let due' : is_due bound (x ∷ rest) ≡ true = subst (λ (xs : List Message). is_due bound xs ≡ true) e due in
        not_idle bound w x rest e (ltb-true x.time bound due') idle

-- a successful call of `step` made a step if a message is due before the bound
pub went : (m : Meaning) (bound end : ℕ) (old new : World) (r : Option Message) → bound ≤ end → is_due bound old.pending ≡ true →
    ((x : Message) → ◌≡◌ {A = Result (Option Message) WorldFault} (Ok r) (Ok (Some x)) → Handles m end old x new) → (◌≡◌ {A = Result (Option Message) WorldFault} (Ok r) (Ok None) ↔ IsIdle end old) → step m end old ≡ Some new
went m bound end old new None le due handled idle = absurd (not_due bound old due (Every-weaker (λ (x : Message). end ≤ x.time) (λ (x : Message). bound ≤ x.time) (λ x h. omega arith) old.pending (idle.0 refl)))
went m bound end old new (Some x) le due handled idle = (handled x refl).is

pub step_time : (m : Meaning) (end : ℕ) (w v : World) → step m end w ≡ Some v → v.time ≡ w.time
step_time m end w v e = ap (λ (u : World). u.time) (step_is m end w v e).3

-- if no message is due, nothing is pending before the bound
pub left_over : (bound : ℕ) (w : World) → IsAscending w.pending → is_due bound w.pending ≡ false → IsIdle bound w
left_over bound w up due = go w.pending refl
  where
    go : (xs : List Message) → w.pending ≡ xs → IsIdle bound w
    go [] e = rw e tt
    go (x ∷ rest) e =
        let due' : is_due bound (x ∷ rest) ≡ false = subst (λ (xs : List Message). is_due bound xs ≡ false) e due in
        idle_late bound w x rest up e (ltb-false x.time bound due')

-- a step that is refused at the limit is also refused with the bound as the end, if a message is due
pub limited_below : (m : Meaning) (bound end : ℕ) (w : World) → is_due bound w.pending ≡ true → IsLimited m end w → IsLimited m bound w
limited_below m bound end w due h =
    let due' : is_due bound (h.least ∷ h.rest) ≡ true = subst (λ (xs : List Message). is_due bound xs ≡ true) h.pending due in
    record { least = h.least; rest = h.rest; pending = h.pending; early = ltb-true h.least.time bound due'; over = h.over }
