use Rattle.rule_files.proofs.Right.{on_ok}
use Rattle.rule_files.proofs.printed.+put_value.Goals as goal

pub returns-in_ok-put_value-in-Triangular-3 : goal.returns-in_ok-put_value-in-Triangular-3
returns-in_ok-put_value-in-Triangular-3 t c =
    on_ok c.put-in-Triangular-4.result _ _ c.put-in-Triangular-4.ensures (λ last.
    rw (
      last,
      c.in_ok-put_value-in-Triangular-3.ensures,
      c.in_ok-put-in-Triangular-3.ensures,
      c.in_ok-put_value-in-Triangular-2.ensures,
      c.in_ok-put-in-Triangular-2.ensures,
      c.in_ok-put_value-in-Triangular.ensures,
      c.in_ok-put-in-Triangular.ensures,
      c.deref-in-Triangular.ensures,
      c.deref-in-Triangular-2.ensures,
      c.deref-in-Triangular-3.ensures,
      c.in-Triangular.is,
    ))
