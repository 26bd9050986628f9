use Rattle.std.proofs.Common.{◌≡◌, ◌≤◌, ◌∙◌, ℕ, List, ap, arith, length, subst, sym}
use Rattle.process.proofs.Courses.{length-records_of, number_undone, records_kept, state_undone}
use Rattle.process.specs.Course.{Course, records_of}
use Rattle.process.specs.Process.{number_after, state_after}
use Rattle.process.specs.declared.Done.{Done}
use Rattle.queues.proofs.Places.{but_last_none, last_of_none}
use Rattle.queues.specs.Queue.{but_last, last_of}
use Rattle.queues.specs.Record.{Record, number_before, state_before}
use Rattle.process.proofs.history.History.roll_back.Goals as goal

pub returns-then-count-eq0-clause-left : goal.returns-then-count-eq0-clause-left
returns-then-count-eq0-clause-left c =
    let none : c.args.count ≡ 0 = omega (arith, c.if-count-eq0.true) in
    sym (ap (λ (n : ℕ). but_last n c.args.self.now.done) none ∙ but_last_none c.args.self.now.done)

pub returns-then-count-eq0-clause-state : goal.returns-then-count-eq0-clause-state
returns-then-count-eq0-clause-state c =
    let none : c.args.count ≡ 0 = omega (arith, c.if-count-eq0.true) in
    sym (ap (λ (hs : List Record). state_before hs c.args.self.now.state) (ap (λ (n : ℕ). last_of n c.args.self.now.done) none ∙ last_of_none c.args.self.now.done))

pub returns-then-count-eq0-clause-number : goal.returns-then-count-eq0-clause-number
returns-then-count-eq0-clause-number c =
    let none : c.args.count ≡ 0 = omega (arith, c.if-count-eq0.true) in
    sym (ap (λ (hs : List Record). number_before hs c.args.self.now.number) (ap (λ (n : ℕ). last_of n c.args.self.now.done) none ∙ last_of_none c.args.self.now.done))

pub roll_back-requires : goal.roll_back-requires
roll_back-requires c =
    subst (λ (n : ℕ). c.args.count ≤ n) (ap (λ (h : Course). length h.done) (sym c.self.view_is) ∙ length-records_of c.self.inside.start.items c.self.inside.start_number c.self.inside.handlings) c.requires

pub returns-clause-left : goal.returns-clause-left
returns-clause-left c =
    let h = c.self.inside in
    subst (λ (k : Course). records_of h.start.items h.start_number c.roll_back.new.self ≡ but_last c.args.count k.done) c.self.view_is
    (ap (records_of h.start.items h.start_number) c.roll_back.ensures ∙ sym (records_kept c.args.count h.start.items h.start_number h.handlings))

pub returns-clause-state : goal.returns-clause-state
returns-clause-state c =
    let h = c.self.inside in
    let hs = records_of h.start.items h.start_number h.handlings in
    subst (λ (k : Course). c.after_all-words.result.0.items ≡ state_before (last_of c.args.count k.done) k.state) c.self.view_is
    ((c.after_all-words.ensures.words ∙ (ap (λ (ds : List Done). state_after ds h.start.items) c.roll_back.ensures
    ∙ (sym (state_undone c.args.count h.start.items h.start_number h.handlings) ∙ ap (λ (s : List ℕ). state_before (last_of c.args.count hs) s) (sym c.self.invariant.state)))))

pub returns-clause-number : goal.returns-clause-number
returns-clause-number c =
    let h = c.self.inside in
    let hs = records_of h.start.items h.start_number h.handlings in
    subst (λ (k : Course). c.after_all-words.result.1 ≡ number_before (last_of c.args.count k.done) k.number) c.self.view_is
    (c.after_all-words.ensures.number ∙ (ap (λ (ds : List Done). number_after ds h.start_number) c.roll_back.ensures
    ∙ (sym (number_undone c.args.count h.start.items h.start_number h.handlings) ∙ ap (λ (n : ℕ). number_before (last_of c.args.count hs) n) (sym c.self.invariant.number))))
