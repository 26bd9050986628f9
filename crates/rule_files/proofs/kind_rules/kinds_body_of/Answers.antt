use Rattle.std.proofs.Common.{◌≡◌, Some, map, subst, sym}
use Rattle.toml.specs.View.{table_view}
use Rattle.rule_files.specs.KindViews.{kinds_view, rules_view}
use Rattle.rule_files.specs.Kinds.{AreKinds, AreWithin, kinds_of}
use Rattle.rule_files.proofs.Choice.{handle_within, start_within}
use Rattle.rule_files.proofs.kind_rules.kinds_body_of.Goals as goal

pub returns-clause-within : goal.returns-clause-within
returns-clause-within c =
    let t = table_view c.args.table.now in
    let slice = c.as_slice-2.result.now in
    let ks = kinds_view c.in-Some.kinds.all.items in
    let rs = map rules_view c.in-Ok.read.0.items in
    let is : kinds_of t ≡ Some ks = sym (rw c.in-Some.is at c.in_ok-kinds.ensures.kinds) in
    let read : AreKinds t (kinds_view slice) (kinds_view slice) rs = rw c.in-Ok.is at c.in_ok-read.ensures.ok in
    let are : AreKinds t ks ks rs = subst (λ l. AreKinds t (kinds_view l) (kinds_view l) rs) c.as_slice-2.ensures.value read in
    let within : AreWithin rs = rw c.in-Ok.is at c.in_ok-read.ensures.within in (
      start_within t ks rs c.in_ok-start.field-0.start.items is are within c.in_ok-start.ensures.start,
      handle_within t ks rs c.in_ok-start.field-0.handle.items is are within c.in_ok-start.ensures.handle,
    )
