use Rattle.std.proofs.Common.{ap, inl, subst, ◌≡◌, ◌∷◌, [], ◌∙◌}
use Rattle.clap.specs.Words.{HasKind, app_of, fault_of, is_simple_and_free}
use Rattle.clap.specs.Values.{refused_kind}
use Rattle.cli.proofs.Readings.{refusing_is_free, refusing_refuses}
use Rattle.cli.proofs.values.no_value.Goals as goal

pub unreachable-requires : goal.unreachable-requires
unreachable-requires c =
    let e = c.in-Ok.ensures.0 in
    let free = refusing_is_free c.args.option.now c.args.parser c.args.text.now in
    let refuses : fault_of (app_of c.in-Ok.command) [] ≡ refused_kind c.args.parser ∷ [] = ap (λ a. fault_of a []) e ∙ refusing_refuses c.args.option.now c.args.parser c.args.text.now c.requires in
    let passes : fault_of (app_of c.in-Ok.command) [] ≡ [] = c.in-Ok-try_get_matches_from.ensures.kinds (ap is_simple_and_free e ∙ free) in
    cc

pub returns-in-Err : goal.returns-in-Err
returns-in-Err c = inl c.from.ensures

pub returns : goal.returns
returns c =
    let e = c.in-Ok.ensures.0 in
    let free = refusing_is_free c.args.option.now c.args.parser c.args.text.now in
    let refuses : fault_of (app_of c.in-Ok.command) [] ≡ refused_kind c.args.parser ∷ [] = ap (λ a. fault_of a []) e ∙ refusing_refuses c.args.option.now c.args.parser c.args.text.now c.requires in
    subst (λ ks. HasKind ks c.in-Err-try_get_matches_from.error) refuses (c.in-Err-try_get_matches_from.ensures.kinds (ap is_simple_and_free e ∙ free))
