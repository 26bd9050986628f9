-- The kinds of a file that contracts see.
use Rattle.std.specs.Prelude.{List, map}
use Rattle.rule_files.specs.Kinds.{KindRules}
use Rattle.rule_files.specs.RuleFile.{Kind, Setting, kind_view}
use Rattle.rule_files.specs.declared.entries.Among.{Among}
use Rattle.rule_files.specs.declared.kind_rules.KindRead.{KindRead}
use Rattle.rule_files.specs.declared.kinds.KindTable.{KindTable}
use Rattle.toml.specs.Data.{Members}
use Rattle.toml.specs.View.{table_view}

abbrev pub pair_view : KindTable → Kind × Members
pair_view k = (kind_view k.head, table_view k.table.now)

abbrev pub kinds_view : List KindTable → List (Kind × Members)
kinds_view kinds = map pair_view kinds

abbrev pub setting_view : Among → Setting
setting_view at = record {
  keyed = at.keyed;
  kinds = map (λ k. kind_view k.head) at.kinds.now;
  own = at.own;
}

abbrev pub rules_view : KindRead → KindRules
rules_view r = record {
  end = r.end;
  width = r.width;
  start = r.start.items;
  handle = r.handle.items;
}
