-- The meaning of a model that a model file describes, and its laws.
use Rattle.model.specs.Meaning.{IsLawful, Meaning}
use Rattle.models.specs.Any.{any_lawful, any_meaning}
use Rattle.rule_files.specs.declared.file_model.FileModel.{FileModel}
use Rattle.rule_files.specs.declared.file_model.FileModel.TheVariants.{BuiltIn, Rules}
use Rattle.rules.specs.RuleLaws.{rules_lawful}
use Rattle.rules.specs.Rules.{rules_meaning}

abbrev pub file_meaning : FileModel → Meaning
file_meaning (BuiltIn m) = any_meaning m
file_meaning (Rules r names) = rules_meaning r.description

pub file_lawful : (m : FileModel) → IsLawful (file_meaning m)
file_lawful (BuiltIn m) = any_lawful m
file_lawful (Rules r names) = rules_lawful r
