use Rattle.std.proofs.Common.{drop}
use Rattle.rule_files.specs.Digest.{ActsFit, acts_bytes}
use Rattle.rule_files.proofs.Hashed.{IsAhead}
use Rattle.rule_files.specs.Statements.{acts_of}
use Rattle.rule_files.proofs.digest.+put_statements.Given as goal

abbrev pub invariant-put_block-statements : goal.invariant-put_block-statements
invariant-put_block-statements l = record {
  bytes : IsAhead l.initial.hasher l.hasher (acts_bytes (acts_of (drop l.statement-index l.block))) (acts_bytes (acts_of l.block));
  fits : ActsFit (acts_of (drop l.statement-index l.block)) → ActsFit (acts_of l.block);
}
