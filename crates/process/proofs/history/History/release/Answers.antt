use Rattle.std.proofs.Common.{◌≡◌, ◌≤◌, ◌∙◌, ◌++◌, ℕ, List, ap, drop, length, subst, sym, take}
use Rattle.process.proofs.Courses.{few_after, number_goes_on, records_left, reports_released, state_goes_on}
use Rattle.process.specs.Course.{Course, records_of}
use Rattle.process.specs.Process.{number_after, reported, state_after}
use Rattle.process.specs.declared.Done.{Done}
use Rattle.queues.specs.Record.{handled_before, handled_from, number_before, state_before}
use Rattle.process.proofs.history.History.release.Goals as goal

pub invariant_of-self-2 : goal.invariant_of-self-2
invariant_of-self-2 c =
    let h = c.self.inside in
    let n = c.count_before-count.result in
    let left = c.in_ok-release.ensures.left in
    let start : c.after_first-words.result.0.items ≡ state_after (take n h.handlings) h.start.items = c.after_first-words.ensures.words in
    let number = c.after_first-words.ensures.number in
    record {
      state = c.self.invariant.state ∙ sym ((λ i. state_after (left i) (start i)) ∙ state_goes_on n h.handlings h.start.items);
      number = c.self.invariant.number ∙ sym ((λ i. number_after (left i) (number i)) ∙ number_goes_on n h.handlings h.start_number);
      few = subst (λ (s : List ℕ). length s ≤ 16) (sym start) (few_after n h.handlings h.start.items c.ranged.ensures c.self.invariant.few);
    }

pub returns-clause-reported : goal.returns-clause-reported
returns-clause-reported c =
    let h = c.self.inside in
    let hs = records_of h.start.items h.start_number h.handlings in
    let state = sym c.self.invariant.state in
    let number = sym c.self.invariant.number in
    subst (λ (k : Course). c.release.new.fossils ≡ c.args.fossils.now ++ reported (handled_before c.args.floor k.done) (state_before (handled_from c.args.floor k.done) k.state) (number_before (handled_from c.args.floor k.done) k.number)) c.self.view_is
    (c.in_ok-release.ensures.released ∙ ap (λ (ds : List Done). c.args.fossils.now ++ ds)
    (ap (λ (n : ℕ). take n h.handlings) c.count_before-count.ensures.count ∙ (sym (reports_released c.args.floor h.start.items h.start_number h.handlings)
    ∙ (λ i. reported (handled_before c.args.floor hs) (state_before (handled_from c.args.floor hs) (state i)) (number_before (handled_from c.args.floor hs) (number i))))))

pub returns-clause-left : goal.returns-clause-left
returns-clause-left c =
    let h = c.self.inside in
    let left = c.in_ok-release.ensures.left in
    let start : c.after_first-words.result.0.items ≡ state_after (take c.count_before-count.result h.handlings) h.start.items = c.after_first-words.ensures.words in
    let number = c.after_first-words.ensures.number in
    let counted = c.count_before-count.ensures.count in
    subst (λ (k : Course). records_of c.after_first-words.result.0.items c.after_first-words.result.1 c.release.new.self ≡ handled_from c.args.floor k.done) c.self.view_is
    ((λ i. records_of (start i) (number i) (left i))
    ∙ (ap (λ (n : ℕ). records_of (state_after (take n h.handlings) h.start.items) (number_after (take n h.handlings) h.start_number) (drop n h.handlings)) counted ∙ sym (records_left c.args.floor h.start.items h.start_number h.handlings)))
