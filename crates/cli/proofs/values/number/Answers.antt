use Rattle.std.proofs.Common.{arith, ◌∙◌}
use Rattle.std.specs.Str.Parse.{ExplainsUnsignedError, HasUnsignedDigitsIfOk, ParsesUnsigned}
use Rattle.clap.specs.Words.{found_of, one_of, rows_of}
use Rattle.clap.proofs.WalkLemmas.{one_text-rows}
use Rattle.cli.proofs.Lines.{chosen_high, chosen_in, chosen_low, chosen_none, number_read}
use Rattle.cli.proofs.values.number.Goals as goal

pub returns-in-Some-clause-value : goal.returns-in-Some-clause-value
returns-in-Some-clause-value c =
    let f = found_of c.args.values.now in
    let read = number_read (λ bs r. ParsesUnsigned 64 10 bs r × ExplainsUnsignedError 10 bs r × HasUnsignedDigitsIfOk bs r) (λ u x h. h.0)
    c.args.least c.args.most c.ranges.most.fits (one_of c.args.id.now (rows_of f)) c.get_one.result
    (λ e. c.get_one.ensures.none (one_text-rows f c.args.id.now ∙ e)) (λ t e. c.get_one.ensures.value t (one_text-rows f c.args.id.now ∙ e)) in
    chosen_in _ _ _ c.get_one.result c.in-Some.is c.if-least-number.true c.if-number-most.true ∙ read

pub returns-in_default-clause-value : goal.returns-in_default-clause-value
returns-in_default-clause-value c =
    let f = found_of c.args.values.now in
    let read = number_read (λ bs r. ParsesUnsigned 64 10 bs r × ExplainsUnsignedError 10 bs r × HasUnsignedDigitsIfOk bs r) (λ u x h. h.0)
    c.args.least c.args.most c.ranges.most.fits (one_of c.args.id.now (rows_of f)) c.get_one.result
    (λ e. c.get_one.ensures.none (one_text-rows f c.args.id.now ∙ e)) (λ t e. c.get_one.ensures.value t (one_text-rows f c.args.id.now ∙ e)) in
    chosen_high _ _ _ c.get_one.result c.in-Some.is (omega (arith, c.if-number-most.false)) ∙ read

pub returns-in_default-2-clause-value : goal.returns-in_default-2-clause-value
returns-in_default-2-clause-value c =
    let f = found_of c.args.values.now in
    let read = number_read (λ bs r. ParsesUnsigned 64 10 bs r × ExplainsUnsignedError 10 bs r × HasUnsignedDigitsIfOk bs r) (λ u x h. h.0)
    c.args.least c.args.most c.ranges.most.fits (one_of c.args.id.now (rows_of f)) c.get_one.result
    (λ e. c.get_one.ensures.none (one_text-rows f c.args.id.now ∙ e)) (λ t e. c.get_one.ensures.value t (one_text-rows f c.args.id.now ∙ e)) in
    chosen_low _ _ _ c.get_one.result c.in-Some.is (omega (arith, c.if-least-number.false)) ∙ read

pub returns-in_default-3-clause-value : goal.returns-in_default-3-clause-value
returns-in_default-3-clause-value c =
    let f = found_of c.args.values.now in
    let read = number_read (λ bs r. ParsesUnsigned 64 10 bs r × ExplainsUnsignedError 10 bs r × HasUnsignedDigitsIfOk bs r) (λ u x h. h.0)
    c.args.least c.args.most c.ranges.most.fits (one_of c.args.id.now (rows_of f)) c.get_one.result
    (λ e. c.get_one.ensures.none (one_text-rows f c.args.id.now ∙ e)) (λ t e. c.get_one.ensures.value t (one_text-rows f c.args.id.now ∙ e)) in
    chosen_none _ _ c.get_one.result c.in_default.is ∙ read
