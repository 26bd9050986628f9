use Rattle.std.proofs.Common.{◌≡◌, ℕ, ◌+◌, ◌<◌, ◌≤◌, ◌^◌, ◌∙◌, ◌++◌, List, Some, All, ap, arith, false, length, map, refl, subst, sym}
use Rattle.std.proofs.lemmas.List.Elements.{recursion_from_All}
use Rattle.eventkey.specs.Message.{Message}
use Rattle.eventkey.specs.Signed.{plus}
use Rattle.model.specs.Meaning.{IsWords, stamp}
use Rattle.process.proofs.Calls.{handled_done, handled_is, sent_long}
use Rattle.process.proofs.Sound.{done_ran, handled_sound, has_history, kept_unspent}
use Rattle.process.specs.Inside.{view_of}
use Rattle.process.specs.Process.{Process, handle, handling_of}
use Rattle.process.specs.View.{HasRun, IsSound, ProcessView}
use Rattle.queues.specs.Queue.{first_before}
use Rattle.queues.specs.Record.{Record}
use Rattle.process.proofs.logical.Process.run_one.Given as given
use Rattle.process.proofs.logical.Process.run_one.Goals as goal

-- the process that the code leaves, and the record that it appends
abbrev left_of : (g : given.Over) → goal.Joined-sends-6 g → ProcessView
left_of g c = view_of (record { alloc = c.self.inside.alloc; lp = c.self.inside.lp; floor = c.self.inside.floor; spent = false; queue = c.take_next.new.self; history = c.push.new.self })

abbrev new_of : (g : given.Over) → goal.Joined-sends-6 g → Process
new_of g c = (left_of g c).process

abbrev record_of : (g : given.Over) → goal.Joined-sends-6 g → Record
record_of g c = record { message = c.in-Some.message; before = c.self.inside.history.state; number_before = c.self.inside.history.number; sent = c.as_slice-4.result.now }

first_is : (g : given.Over) (c : goal.Joined-sends-6 g) → first_before c.args.end (view_of c.self.inside).process.waiting ≡ Some c.in-Some.message
first_is g c = ap (λ (v : ProcessView). first_before c.args.end v.process.waiting) c.self.view_is ∙ (sym c.next.ensures ∙ c.in-Some.is)

sends_is : (g : given.Over) (c : goal.Joined-sends-6 g) → c.handle_into.new.sends.items ≡ (g.M.Model.meaning c.args.model.now).sends c.self.inside.lp c.self.inside.history.state c.in-Some.message
sends_is g c = c.handle_into.ensures.sends ∙ ap (λ (u : List ℕ). (g.M.Model.meaning c.args.model.now).sends c.self.inside.lp u c.in-Some.message) c.words-2.ensures

count_is : (g : given.Over) (c : goal.Joined-sends-6 g) → c.len-count.result ≡ length ((g.M.Model.meaning c.args.model.now).sends c.self.inside.lp c.self.inside.history.state c.in-Some.message)
count_is g c = c.len-count.ensures.value ∙ ap length (sends_is g c)

state_is : (g : given.Over) (c : goal.Joined-sends-6 g) → c.push.new.self.state ≡ (g.M.Model.meaning c.args.model.now).next_state c.self.inside.lp c.self.inside.history.state c.in-Some.message
state_is g c =
    (c.in_ok-push.ensures.state ∙ (c.handle_into.ensures.state ∙ ap (λ (u : List ℕ). (g.M.Model.meaning c.args.model.now).next_state c.self.inside.lp u c.in-Some.message) c.words-2.ensures))

sent_is : (g : given.Over) (c : goal.Joined-sends-6 g) → c.in_ok-sent.sent ≡ (handling_of (g.M.Model.meaning c.args.model.now) c.self.inside.lp c.in-Some.message (view_of c.self.inside).process).sent
sent_is g c =
    c.in_ok-sent.ensures
    ∙ (ap (λ (n : ℕ). stamp c.self.inside.lp c.time.result n c.as_slice-2.result.now) c.number-number.ensures
    ∙ (ap (stamp c.self.inside.lp c.time.result c.self.inside.history.number) (c.as_slice-2.ensures ∙ sends_is g c)
    ∙ ap (λ (t : ℕ). stamp c.self.inside.lp t c.self.inside.history.number ((g.M.Model.meaning c.args.model.now).sends c.self.inside.lp c.self.inside.history.state c.in-Some.message)) c.time.ensures))

record_is : (g : given.Over) (c : goal.Joined-sends-6 g) → record_of g c ≡ handling_of (g.M.Model.meaning c.args.model.now) c.self.inside.lp c.in-Some.message (view_of c.self.inside).process
record_is g c =
    let sent = c.as_slice-4.ensures ∙ sent_is g c in
    λ i. record { message = c.in-Some.message; before = c.self.inside.history.state; number_before = c.self.inside.history.number; sent = sent i }

number_then : (g : given.Over) (c : goal.Joined-sends-6 g) → c.push.new.self.number ≡ c.self.inside.history.number + length ((g.M.Model.meaning c.args.model.now).sends c.self.inside.lp c.self.inside.history.state c.in-Some.message)
number_then g c =
    c.in_ok-push.ensures.number
    ∙ ap (λ (n : ℕ). c.self.inside.history.number + n) (sent_long _ _ _ c.as_slice-4.result.now c.in_ok-sent.sent c.as_slice-2.result.now _ c.as_slice-4.ensures c.in_ok-sent.ensures (c.as_slice-2.ensures ∙ sends_is g c))

new_is : (g : given.Over) (c : goal.Joined-sends-6 g) → new_of g c ≡ handle (g.M.Model.meaning c.args.model.now) c.self.inside.lp c.in-Some.message (view_of c.self.inside).process
new_is g c =
    let whole = c.self.invariant c.if-self.false in
    handled_is c.self.inside.queue (view_of c.self.inside).process whole.0 refl refl (g.M.Model.meaning c.args.model.now) c.self.inside.lp c.args.end c.in-Some.message (first_is g c) (new_of g c) c.take_next.new.self
    c.in_ok-take_next.ensures.taken (record_of g c) (record_is g c) c.in_ok-push.ensures.pushed refl refl (state_is g c) (number_then g c)

pub invariant_of-self-2 : goal.invariant_of-self-2
invariant_of-self-2 g c = λ _.
    let m = g.M.Model.meaning c.args.model.now in
    let v = view_of c.self.inside in
    let whole = c.self.invariant c.if-self.false in
    let here : v.lp < m.lps = subst (λ (w : ProcessView). w.lp < m.lps) (sym c.self.view_is) c.requires.lp in
    let words : IsWords v.process.state = (whole.1.few, recursion_from_All (λ (w : ℕ). w < 2 ^ 64) v.process.state (subst (λ (ws : List ℕ). All (λ (w : ℕ). w < 2 ^ 64) ws) (c.as_slice.ensures ∙ c.words.ensures) c.ranged-2.ensures)) in
    let fits = whole.1.number in
    let few = count_is g c in
    let room : v.process.number + length (m.sends v.lp v.process.state c.in-Some.message) ≤ 2 ^ 63 = omega arith in (
      handled_done c.self.inside.queue v.process whole.0 refl refl m v.lp c.args.end c.in-Some.message (first_is g c) (new_of g c) c.take_next.new.self
          c.in_ok-take_next.ensures.taken (record_of g c) (record_is g c) c.in_ok-push.ensures.pushed refl refl (state_is g c) (number_then g c),
      subst (λ (q : Process). IsSound (record { lp = v.lp; floor = v.floor; spent = false; process = q })) (sym (new_is g c))
          (handled_sound m c.args.end c.in-Some.message false v (g.met.M.Model.lawful c.args.model.now) here words c.ranged.ensures (first_is g c) room whole.1),
    )

pub returns-clause-ran : goal.returns-clause-ran
returns-clause-ran g c = λ _.
    let m = g.M.Model.meaning c.args.model.now in
    let v = view_of c.self.inside in
    let spent = sym c.if-self.false in
    let is = new_is g c in
    let now : left_of g c ≡ record v { process = handle m v.lp c.in-Some.message v.process } =
    λ i. record { lp = v.lp; floor = v.floor; spent = spent i; process = is i } in
    let out : c.append.new.out.items ≡ c.args.out.now.items ++ map plus (handling_of m v.lp c.in-Some.message v.process).sent =
    c.in_ok-append.ensures.out ∙ ap (λ (xs : List Message). c.args.out.now.items ++ map plus xs) (c.as_slice-3.ensures ∙ sent_is g c) in
    let ran : HasRun m c.args.end v (left_of g c) c.args.out.now.items c.append.new.out.items =
    record {
      message = c.in-Some.message;
      next = first_is g c;
      process = now;
      out = out;
      done = done_ran m c.in-Some.message v (left_of g c) now (invariant_of-self-2 g c refl).1.number;
    } in
    subst (λ (w : ProcessView). HasRun m c.args.end w (left_of g c) c.args.out.now.items c.append.new.out.items) c.self.view_is ran

pub returns-clause-kept : goal.returns-clause-kept
returns-clause-kept g c =
    let m = g.M.Model.meaning c.args.model.now in
    kept_unspent m c.args.self.now (left_of g c) (ap (λ (v : ProcessView). v.spent) (sym c.self.view_is) ∙ c.if-self.false) (ap (λ (v : ProcessView). v.lp) c.self.view_is)
    (λ before. has_history m (left_of g c) _ _ ((returns-clause-ran g c refl).done _ _ before))

-- what the history requires of a handling

sends_then : (g : given.Over) (c : goal.After-as_slice-4 g) → c.handle_into.new.sends.items ≡ (g.M.Model.meaning c.args.model.now).sends c.self.inside.lp c.self.inside.history.state c.in-Some.message
sends_then g c = c.handle_into.ensures.sends ∙ ap (λ (u : List ℕ). (g.M.Model.meaning c.args.model.now).sends c.self.inside.lp u c.in-Some.message) c.words-2.ensures

long_then : (g : given.Over) (c : goal.After-as_slice-4 g) → length c.as_slice-4.result.now ≡ length ((g.M.Model.meaning c.args.model.now).sends c.self.inside.lp c.self.inside.history.state c.in-Some.message)
long_then g c = sent_long _ _ _ c.as_slice-4.result.now c.in_ok-sent.sent c.as_slice-2.result.now _ c.as_slice-4.ensures c.in_ok-sent.ensures (c.as_slice-2.ensures ∙ sends_then g c)

words_then : (g : given.Over) (c : goal.After-as_slice-4 g) → IsWords c.self.inside.history.state
words_then g c = (
  (c.self.invariant c.if-self.false).1.few,
  recursion_from_All (λ (w : ℕ). w < 2 ^ 64) c.self.inside.history.state (subst (λ (ws : List ℕ). All (λ (w : ℕ). w < 2 ^ 64) ws) (c.as_slice.ensures ∙ c.words.ensures) c.ranged-2.ensures),
)

pub push-requires-clause-sent : goal.push-requires-clause-sent
push-requires-clause-sent g c =
    let m = g.M.Model.meaning c.args.model.now in
    let here : c.self.inside.lp < m.lps = subst (λ (w : ProcessView). w.lp < m.lps) (sym c.self.view_is) c.requires.lp in
    subst (λ (n : ℕ). n ≤ 8) (sym (long_then g c)) ((g.met.M.Model.lawful c.args.model.now).few c.self.inside.lp c.self.inside.history.state c.in-Some.message here (words_then g c) c.ranged.ensures)

pub push-requires-clause-after : goal.push-requires-clause-after
push-requires-clause-after g c =
    let m = g.M.Model.meaning c.args.model.now in
    let here : c.self.inside.lp < m.lps = subst (λ (w : ProcessView). w.lp < m.lps) (sym c.self.view_is) c.requires.lp in
    subst (λ (ws : List ℕ). length ws ≤ 16) (sym (c.handle_into.ensures.state ∙ ap (λ (u : List ℕ). m.next_state c.self.inside.lp u c.in-Some.message) c.words-2.ensures))
    ((g.met.M.Model.lawful c.args.model.now).words c.self.inside.lp c.self.inside.history.state c.in-Some.message here (words_then g c) c.ranged.ensures).0

pub push-requires-clause-room : goal.push-requires-clause-room
push-requires-clause-room g c =
    let long = long_then g c in
    let count = c.len-count.ensures.value ∙ ap length (sends_then g c) in
    let number = c.number-number.ensures in
    let fits = (c.self.invariant c.if-self.false).1.number in
    let room = c.if-count-number.false in
    omega arith
