use Rattle.std.proofs.Common.{subst}
use Rattle.sha2.specs.Hashers.{Holds256}
use Rattle.rule_files.specs.Digest.{tree_bytes}
use Rattle.rule_files.specs.Grammar.{tree_of}
use Rattle.rule_files.proofs.Hashed.{joined6}
use Rattle.rule_files.proofs.digest.put_sending.Goals as goal

pub returns-clause-bytes : goal.returns-clause-bytes
returns-clause-bytes c = λ m held.
    let x = c.args.sending.now in
    subst (λ l. Holds256 c.put_expression-6.new.hasher l)
    (joined6 m (tree_bytes (tree_of x.to)) (tree_bytes (tree_of x.after)) (tree_bytes (tree_of x.a)) (tree_bytes (tree_of x.b)) (tree_bytes (tree_of x.c)) (tree_bytes (tree_of x.d)))
    (c.put_expression-6.ensures.bytes _ (c.put_expression-5.ensures.bytes _ (c.put_expression-4.ensures.bytes _
    (c.put_expression-3.ensures.bytes _ (c.put_expression-2.ensures.bytes _ (c.put_expression.ensures.bytes m held))))))
