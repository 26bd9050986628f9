use Rattle.std.proofs.Common.{ap, map, drop, rules, sym, ◌+◌, ◌++◌, ◌∷◌, ◌≡◌, ◌∙◌}
use Rattle.std.proofs.lemmas.List.{append-nil, at_drop_all, at_drop_more}
use Rattle.cli.specs.Command.{Setting, settings_after}
use Rattle.cli.proofs.Givens.{set_end, set_more, set_none}
use Rattle.cli.proofs.settings.settings_among.Goals as goal

pub returns-then-is_end : goal.returns-then-is_end
returns-then-is_end g c =
    let text = g.S.AsStr.text in
    let words = c.args.words.now in
    let i = c.loop-word.word-index in
    let word = c.as_str-word.result.now in
    let rest = map text (drop (i + 1) words) in
    let done = map {B = Setting} (λ s. (s.0.now, s.1.now)) c.loop-word.set.items in
    let here : map text (drop i words) ≡ word ∷ rest =
    at_drop_more (map text) words i c.word-item.result c.loop-word-test.true ∙ ap (λ w. w ∷ rest) (ap text (sym c.word-item.is) ∙ sym c.as_str-word.ensures) in
    sym (append-nil done) ∙ ap (λ n. done ++ n) (sym (set_end c.loop-word.before.now word rest (sym c.is_end.ensures ∙ c.if-is_end.true)))
    ∙ ap (λ ws. done ++ settings_after c.loop-word.before.now ws) (sym here) ∙ c.loop-word.invariant.done

pub loop-word-preserved : goal.loop-word-preserved
loop-word-preserved g c =
    let text = g.S.AsStr.text in
    let words = c.args.words.now in
    let i = c.loop-word.word-index in
    let word = c.as_str-word.result.now in
    let rest = map text (drop (i + 1) words) in
    let done = map {B = Setting} (λ s. (s.0.now, s.1.now)) c.loop-word.set.items in
    let here : map text (drop i words) ≡ word ∷ rest =
    at_drop_more (map text) words i c.word-item.result c.loop-word-test.true ∙ ap (λ w. w ∷ rest) (ap text (sym c.word-item.is) ∙ sym c.as_str-word.ensures) in
    record {
      text = search rules;
      done = set_more done _ c.loop-word.before.now word rest _ (sym c.is_end.ensures ∙ c.if-is_end.false) c.set_by.ensures c.in_ok-add.ensures
          ∙ ap (λ ws. done ++ settings_after c.loop-word.before.now ws) (sym here) ∙ c.loop-word.invariant.done;
    }

pub returns : goal.returns
returns g c =
    let done = map {B = Setting} (λ s. (s.0.now, s.1.now)) c.loop-word.set.items in
    sym (append-nil done) ∙ ap (λ n. done ++ n) (sym (set_none c.loop-word.before.now))
    ∙ sym (at_drop_all (λ ws. done ++ settings_after c.loop-word.before.now (map g.S.AsStr.text ws)) c.args.words.now c.loop-word.word-index c.loop-word-test.false) ∙ c.loop-word.invariant.done
