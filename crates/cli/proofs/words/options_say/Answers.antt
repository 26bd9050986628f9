use Rattle.std.proofs.Common.{ap, map, drop, sym, ◌+◌, ◌∷◌, ◌≡◌, ◌∙◌}
use Rattle.std.proofs.lemmas.List.{at_drop_all, at_drop_more}
use Rattle.cli.specs.Command.{says_flag}
use Rattle.cli.proofs.Flags.{flag_met, flag_more, flag_none}
use Rattle.cli.proofs.words.options_say.Goals as goal

pub returns-then-decides : goal.returns-then-decides
returns-then-decides g c =
    let text = g.S.AsStr.text in
    let words = c.args.words.now in
    let i = c.loop-word.word-index in
    let word = c.as_str-word.result.now in
    let rest = map text (drop (i + 1) words) in
    let here : map text (drop i words) ≡ word ∷ rest =
    at_drop_more (map text) words i c.word-item.result c.loop-word-test.true ∙ ap (λ w. w ∷ rest) (ap text (sym c.word-item.is) ∙ sym c.as_str-word.ensures) in
    c.ne.ensures ∙ sym (c.loop-word.invariant ∙ ap (says_flag c.args.flag.now) here ∙ flag_met c.args.flag.now word rest (sym c.decides.ensures ∙ c.if-decides.true))

pub loop-word-preserved : goal.loop-word-preserved
loop-word-preserved g c =
    let text = g.S.AsStr.text in
    let words = c.args.words.now in
    let i = c.loop-word.word-index in
    let word = c.as_str-word.result.now in
    let rest = map text (drop (i + 1) words) in
    let here : map text (drop i words) ≡ word ∷ rest =
    at_drop_more (map text) words i c.word-item.result c.loop-word-test.true ∙ ap (λ w. w ∷ rest) (ap text (sym c.word-item.is) ∙ sym c.as_str-word.ensures) in
    c.loop-word.invariant ∙ ap (says_flag c.args.flag.now) here ∙ flag_more c.args.flag.now word rest (sym c.decides.ensures ∙ c.if-decides.false)

pub returns : goal.returns
returns g c =
    sym (c.loop-word.invariant ∙ at_drop_all (λ ws. says_flag c.args.flag.now (map g.S.AsStr.text ws)) c.args.words.now c.loop-word.word-index c.loop-word-test.false ∙ flag_none c.args.flag.now)
