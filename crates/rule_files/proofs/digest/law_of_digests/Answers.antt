use Rattle.rule_files.proofs.Apart.{tells_apart}
use Rattle.rule_files.proofs.Limited.{files_keep_limits, kinds_keep_limits}
use Rattle.rule_files.proofs.digest.law_of_digests.Goals as goal

pub returns-clause-apart : goal.returns-clause-apart
returns-clause-apart c = tells_apart

pub returns-clause-limits : goal.returns-clause-limits
returns-clause-limits c = files_keep_limits

pub returns-clause-limits_of_kinds : goal.returns-clause-limits_of_kinds
returns-clause-limits_of_kinds c = kinds_keep_limits
