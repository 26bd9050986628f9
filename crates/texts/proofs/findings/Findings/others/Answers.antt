use Rattle.std.proofs.Common.{◌++◌, map}
use Rattle.texts.specs.ModelFile.{unknown_wrong}
use Rattle.texts.proofs.Tables.{found_all, found_more}
use Rattle.toml.specs.View.{table_view}
use Rattle.texts.proofs.findings.Findings.others.Goals as goal

pub keys-preserved : goal.keys-preserved
keys-preserved c =
    found_more (map (λ k. k.now) c.args.keys.now) c.keys.key-iterator c.next.new.self c.in-Some.key.now c.in-Some.value.now c.as_str.result.now
    c.in-Some.ensures.steps c.as_str.ensures.value c.keys.self c.other.new.self
    (c.args.self.now ++ unknown_wrong (map (λ k. k.now) c.args.keys.now) (table_view c.args.table.now)) c.in_ok-other.ensures c.keys.invariant

pub returns : goal.returns
returns c =
    found_all (map (λ k. k.now) c.args.keys.now) c.keys.key-iterator c.in-None.ensures.steps.0 c.keys.self
    (c.args.self.now ++ unknown_wrong (map (λ k. k.now) c.args.keys.now) (table_view c.args.table.now)) c.keys.invariant
