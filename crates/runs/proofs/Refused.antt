-- Steps that begin a round, of which the next one is refused.
use Rattle.std.proofs.Common.{◌≡◌, ◌∙◌, ◌+◌, ◌<◌, ◌-◌, ℕ, zero, suc, Bool, List, Err, Ok, Result, false, true, [], ◌∷◌, ◌++◌, ap, append-nil, append_assoc, arith, refl, subst, sym}
use Rattle.std.proofs.Math.Nat.{le-max_right}
use Rattle.std.specs.Result.{IsErrAnd, IsErrOf}
use Rattle.coordinator.specs.Drives.{IsStep}
use Rattle.coordinator.specs.Session.{Session}
use Rattle.coordinator.specs.Steps.{move_of}
use Rattle.coordinator.specs.declared.SessionFault.{SessionFault}
use Rattle.coordinator.specs.declared.Step.{Step}
use Rattle.coordinator.specs.declared.Step.TheVariants as step
use Rattle.disk.specs.Disk.{DiskState}
use Rattle.model.specs.Meaning.{Meaning}
use Rattle.gvt.specs.Moves.{Move}
use Rattle.gvt.specs.Moves.Move.{Checkpoint, Commit, Post, Take}
use Rattle.gvt.specs.declared.Answer.{Answer}
use Rattle.gvt.specs.declared.Answer.TheVariants.{AlreadyAt}
use Rattle.wire.specs.Port.{PortState}
use Rattle.runs.proofs.Drives.{steps_join}
use Rattle.std.specs.Prelude.{None, Option, Some, get_or}
use Rattle.runs.proofs.Shapes.{first_then_next, is_post, one_next_more, one_post_more, one_take_more, one_turn_more, post_then_take, take_then_post, then_takes}
use Rattle.runs.specs.Driver.{AreAsked, AreFirst, AreNext, ArePosts, AreTurns, IsBudget, IsDrivenBy, IsNext, IsPost, IsPostIf, IsRefusedIn, IsRound, IsTurn, Made, closing_of, goes_on, least_answered, moves_of, steps_of, outstanding_after, reported_since, takes_of}
use Rattle.runs.specs.declared.rounds.Batch.{Batch}
use Rattle.runs.specs.declared.rounds.Batch.TheVariants.{Adjusting, Fixed}
use Rattle.runs.specs.declared.rounds.Plan.{Plan}
use Rattle.runs.specs.declared.rounds.Round.{Round}
use Rattle.runs.specs.declared.rounds.Schedule.TheVariants.{Overlapped, Together}
use Rattle.runs.specs.declared.rounds.RoundFault.{RoundFault}
use Rattle.runs.specs.declared.rounds.RoundFault.TheVariants.{Session as of_session}
use Rattle.runs.specs.declared.tally.Tally.{Tally}
use Rattle.runs.specs.Tallies.{Tallied}

-- 1. What is begun can be completed

abbrev step_of : Move → Step
step_of (Post node picks budget) = step.Post node picks budget
step_of (Take node) = step.Take node
step_of Commit = step.Commit
step_of Checkpoint = step.Checkpoint

same_move : (k : Move) → move_of (step_of k) ≡ k
same_move (Post node picks budget) = refl
same_move (Take node) = refl
same_move Commit = refl
same_move Checkpoint = refl

-- steps with these moves
abbrev pub made_for : List Move → List Made
made_for [] = []
made_for (k ∷ ks) = record { step = step_of k; transit = []; answer = AlreadyAt 0 } ∷ made_for ks

pub same_moves : (ks : List Move) → moves_of (made_for ks) ≡ ks
same_moves [] = refl
same_moves (k ∷ ks) = ap (λ (j : Move). j ∷ moves_of (made_for ks)) (same_move k) ∙ ap (λ (js : List Move). k ∷ js) (same_moves ks)

-- these steps
abbrev pub made_by : List Step → List Made
made_by [] = []
made_by (k ∷ ks) = record { step = k; transit = []; answer = AlreadyAt 0 } ∷ made_by ks

pub same_steps : (ks : List Step) → steps_of (made_by ks) ≡ ks
same_steps [] = refl
same_steps (k ∷ ks) = ap (λ (js : List Step). k ∷ js) (same_steps ks)

some_budget : (batch : Batch) → (budget : ℕ) × IsBudget batch budget
some_budget (Fixed messages) = (messages, refl)
some_budget (Adjusting most cheap) = (1, (omega arith, omega arith, le-max_right most 1))

-- `ls` after steps of one shape makes steps of the other
abbrev pub Completes : (List Made → Type 0) → (List Made → Type 0) → Type 0
Completes S T = (ks : List Made) → S ks → (ls : List Made) × T (ks ++ ls)

pub post_more : (plan : Plan) (node : ℕ) → (ls : List Made) × IsPost plan node ls
post_more plan node = (let b = some_budget plan.batch in (made_for (Post node [] b.0 ∷ []), is_post plan node b.0 [] (record { step = step.Post node [] b.0; transit = []; answer = AlreadyAt 0 }) refl (λ few. refl) b.1))

pub after_post : (plan : Plan) (node : ℕ) → Completes (IsPost plan node) (IsTurn plan node)
after_post plan node ks post = (made_for (Take node ∷ []), post_then_take plan node ks (made_for (Take node ∷ [])) post refl)

pub turn_more : (plan : Plan) (node : ℕ) → (ls : List Made) × IsTurn plan node ls
turn_more plan node = (let post = post_more plan node in let rest = after_post plan node post.0 post.1 in (post.0 ++ rest.0, rest.1))

-- one more for each node
module _ (F : ℕ → List Made → Type 0) (one : (node : ℕ) → Completes (F node) (F (node + 1))) where
  pub all_more : (n node nodes : ℕ) → nodes ≡ node + n → Completes (F node) (F nodes)
  all_more zero node nodes e ks is = (let same : node ≡ nodes = omega (arith, e) in ([], subst (F nodes) (sym (append-nil ks)) (subst (λ (i : ℕ). F i ks) same is)))
  all_more (suc n) node nodes e ks is =
      let next = one node ks is in
      let less : nodes ≡ (node + 1) + n = omega (arith, e) in
      let rest = all_more n (node + 1) nodes less (ks ++ next.0) next.1 in
      (next.0 ++ rest.0, subst (F nodes) (append_assoc ks next.0 rest.0) rest.1)

pub turns_more : (plan : Plan) (node : ℕ) → Completes (AreTurns plan node) (AreTurns plan (node + 1))
turns_more plan node ks is = (let turn = turn_more plan node in (turn.0, one_turn_more plan node ks turn.0 is turn.1))

pub posts_more : (plan : Plan) (node : ℕ) → Completes (ArePosts plan node) (ArePosts plan (node + 1))
posts_more plan node ks is = (let post = post_more plan node in (post.0, one_post_more plan node ks post.0 is post.1))

pub takes_more : (node : ℕ) → Completes (λ taken. moves_of taken ≡ takes_of node) (λ taken. moves_of taken ≡ takes_of (node + 1))
takes_more node ks is = (made_for (Take node ∷ []), one_take_more node ks (made_for (Take node ∷ [])) is refl)

pub after_posts : (round : Round) (outstanding : List (Option ℕ)) → Completes (ArePosts round.plan round.plan.nodes) (AreAsked Together round outstanding)
after_posts round outstanding ks is = (made_for (takes_of round.plan.nodes), then_takes round outstanding ks (made_for (takes_of round.plan.nodes)) is (same_moves (takes_of round.plan.nodes)))

some_post_if : (b : Bool) (plan : Plan) (node : ℕ) → (ls : List Made) × IsPostIf b plan node ls
some_post_if true plan node = post_more plan node
some_post_if false plan node = ([], refl)

pub after_take : (round : Round) (node floor : ℕ) → Completes (λ taken. moves_of taken ≡ Take node ∷ []) (IsNext round node (Some floor))
after_take round node floor ks take = (let post = some_post_if (goes_on round floor) round.plan node in (post.0, take_then_post round node floor ks post.0 take post.1))

some_next : (round : Round) (node : ℕ) (floor : Option ℕ) → (ls : List Made) × IsNext round node floor ls
some_next round node None = ([], refl)
some_next round node (Some floor) = (let rest = after_take round node floor (made_for (Take node ∷ [])) refl in (made_for (Take node ∷ []) ++ rest.0, rest.1))

pub next_more : (round : Round) (outstanding : List (Option ℕ)) (node : ℕ) → Completes (AreNext round outstanding node) (AreNext round outstanding (node + 1))
next_more round outstanding node ks is = (let next = some_next round node (get_or (outstanding_after outstanding ks) node None) in (next.0, one_next_more round outstanding node ks next.0 is next.1))

pub after_first : (round : Round) (outstanding : List (Option ℕ)) → Completes (AreFirst round.first round.plan) (AreAsked Overlapped round outstanding)
after_first round outstanding ks is =
    let now = outstanding_after outstanding ks in
    let next = all_more (AreNext round now) (next_more round now) round.plan.nodes 0 round.plan.nodes (omega arith) [] refl in
    (next.0, first_then_next round outstanding now ks next.0 refl is next.1)

pub after_asked : (round : Round) (reported commits : ℕ) (outstanding : List (Option ℕ)) → Completes (AreAsked round.plan.schedule round outstanding) (IsRound round reported commits outstanding)
after_asked round reported commits outstanding ks is =
    let steps = closing_of round (reported_since reported ks) (least_answered round.end outstanding ks) commits in
    (made_by steps, (ks, made_by steps, is, same_steps steps, refl))

-- 2. A fault that is passed on

pub same_fault : {T : Type 0} (r : Result T RoundFault) (e : RoundFault) (fault : SessionFault) → IsErrAnd r (λ x. x ≡ e) → IsErrOf r (of_session fault) → e ≡ of_session fault
same_fault (Ok x) e fault and is = absurd and
same_fault (Err x) e fault and is = (let whole : x ≡ of_session fault = cc in sym and ∙ whole)

-- of a call with a result of another type
pub passed_on : {T U : Type 0} (r : Result T RoundFault) (e : RoundFault) (fault : SessionFault) → IsErrAnd r (λ x. x ≡ e) → IsErrOf r (of_session fault) → IsErrOf {T = U} (Err e) (of_session fault)
passed_on r e fault and is = ap Err (same_fault r e fault and is)

-- of a session's step
pub of_step : {T : Type 0} (r : Result T RoundFault) (own fault : SessionFault) → IsErrAnd r (λ x. x ≡ of_session own) → IsErrOf r (of_session fault) → own ≡ fault
of_step r own fault and is = (let same = same_fault r (of_session own) fault and is in cc)

-- 3. Refused steps

module _ {M P D : Type 0} (meaning : M → Meaning) (state : P → PortState) (disk : D → DiskState) where
  pub refused_at_once : (S : List Made → Type 0) (next : Step) (answer : Answer) (more : List Made) (old new : Session M P D) (own fault : SessionFault) → S (record { step = next; transit = old.ledger.transit; answer = answer } ∷ more)
      → own ≡ fault → IsStep meaning state disk next old new (Err own) → IsRefusedIn meaning state disk S old new fault
  refused_at_once S next answer more old new own fault shape same is = record {
    steps = [];
    mid = old;
    made = refl;
    next = next;
    refused = subst (λ (f : SessionFault). IsStep meaning state disk next old new (Err f)) same is;
    answer = answer;
    more = more;
    shape = shape;
  }

  pub refused_first : (S T : List Made → Type 0) (old new : Session M P D) (fault : SessionFault) → Completes S T → IsRefusedIn meaning state disk S old new fault → IsRefusedIn meaning state disk T old new fault
  refused_first S T old new fault on is =
      let begun : List Made = record { step = is.next; transit = is.mid.ledger.transit; answer = is.answer } ∷ is.more in
      let rest = on (is.steps ++ begun) is.shape in
      record { steps = is.steps; mid = is.mid; made = is.made; next = is.next; refused = is.refused; answer = is.answer; more = is.more ++ rest.0; shape = subst T (append_assoc is.steps begun rest.0) rest.1 }

  pub refused_after : {b : Bool} (S T U : List Made → Type 0) (old mid new : Session M P D) (fault : SessionFault) (first : IsDrivenBy meaning state disk b S old mid) → ((ls : List Made) → T ls → U (first.steps ++ ls)) → IsRefusedIn meaning state disk T mid new fault
      → IsRefusedIn meaning state disk U old new fault
  refused_after {b} S T U old mid new fault first both is =
      let begun : List Made = record { step = is.next; transit = is.mid.ledger.transit; answer = is.answer } ∷ is.more in
      record {
        steps = first.steps ++ is.steps;
        mid = is.mid;
        made = steps_join meaning state disk first.steps is.steps old mid is.mid first.made is.made;
        next = is.next;
        refused = is.refused;
        answer = is.answer;
        more = is.more;
        shape = subst U (sym (append_assoc first.steps is.steps begun)) (both (is.steps ++ begun) is.shape);
      }

  -- the same if the first steps are counted; what follows may depend on the parcels outstanding after
  -- them
  pub refused_next : {b : Bool} {plan : Plan} {t u : Tally} (S T U : List Made → Type 0) (old mid new : Session M P D) (fault : SessionFault) → ((ks ls : List Made) → u.outstanding.items ≡ outstanding_after t.outstanding.items ks → S ks → T ls → U (ks ++ ls))
      → IsDrivenBy meaning state disk b (Tallied plan S t u) old mid → IsRefusedIn meaning state disk T mid new fault → IsRefusedIn meaning state disk U old new fault
  refused_next {b} {plan} {t} {u} S T U old mid new fault both first is = refused_after (Tallied plan S t u) T U old mid new fault first (λ ls rest. both first.steps ls first.shape.tally.outstanding first.shape.shape rest) is

  pub refused_then : {b : Bool} {plan : Plan} {t u : Tally} (S T U : List Made → Type 0) (old mid new : Session M P D) (fault : SessionFault) → ((ks ls : List Made) → S ks → T ls → U (ks ++ ls)) → IsDrivenBy meaning state disk b (Tallied plan S t u) old mid
      → IsRefusedIn meaning state disk T mid new fault → IsRefusedIn meaning state disk U old new fault
  refused_then {b} {plan} {t} {u} S T U old mid new fault both first is = refused_next {plan = plan} {t = t} {u = u} S T U old mid new fault (λ ks ls same. both ks ls) first is

  pub refused_so : (S T : List Made → Type 0) (old new : Session M P D) (fault : SessionFault) → ((ks : List Made) → S ks → T ks) → IsRefusedIn meaning state disk S old new fault → IsRefusedIn meaning state disk T old new fault
  refused_so S T old new fault so is =
      let begun : List Made = record { step = is.next; transit = is.mid.ledger.transit; answer = is.answer } ∷ is.more in
      record { steps = is.steps; mid = is.mid; made = is.made; next = is.next; refused = is.refused; answer = is.answer; more = is.more; shape = so (is.steps ++ begun) is.shape }

  -- while each node gets its turn
  pub refused_within : {b : Bool} {plan : Plan} {t u : Tally} (F : ℕ → List Made → Type 0) (S : List Made → Type 0) (node nodes : ℕ) (old mid new : Session M P D) (fault : SessionFault) → node < nodes → ((i : ℕ) → Completes (F i) (F (i + 1)))
      → ((ks ls : List Made) → u.outstanding.items ≡ outstanding_after t.outstanding.items ks → F node ks → S ls → F (node + 1) (ks ++ ls)) → IsDrivenBy meaning state disk b (Tallied plan (F node) t u) old mid → IsRefusedIn meaning state disk S mid new fault
      → IsRefusedIn meaning state disk (F nodes) old new fault
  refused_within {b} {plan} {t} {u} F S node nodes old mid new fault l one both first is =
      let left : nodes ≡ (node + 1) + (nodes - (node + 1)) = omega (arith, l) in
      refused_first (F (node + 1)) (F nodes) old new fault (all_more F one (nodes - (node + 1)) (node + 1) nodes left) (refused_next {plan = plan} {t = t} {u = u} (F node) S (F (node + 1)) old mid new fault both first is)
