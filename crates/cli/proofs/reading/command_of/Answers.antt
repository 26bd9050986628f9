use Rattle.std.proofs.Common.{inl, inr}
use Rattle.cli.proofs.reading.command_of.Goals as goal

pub returns-in_default-clause-says : goal.returns-in_default-clause-says
returns-in_default-clause-says c = (
  elim c.requires [
    | inl e ↦ absurd (c.in_default.not-new e)
    | inr (inl e) ↦ absurd (c.in_default.not-run e)
    | inr (inr (inl e)) ↦ absurd (c.in_default.not-extend e)
    | inr (inr (inr (inl e))) ↦ absurd (c.in_default.not-grow e)
    | inr (inr (inr (inr (inl e)))) ↦ absurd (c.in_default.not-migrate e)
    | inr (inr (inr (inr (inr (inl e))))) ↦ absurd (c.in_default.not-reopen e)
    | inr (inr (inr (inr (inr (inr (inl e)))))) ↦ absurd (c.in_default.not-cut e)
    | inr (inr (inr (inr (inr (inr (inr (inl e))))))) ↦ absurd (c.in_default.not-recover e)
    | inr (inr (inr (inr (inr (inr (inr (inr (inl e)))))))) ↦ absurd (c.in_default.not-status e)
    | inr (inr (inr (inr (inr (inr (inr (inr (inr (inl e))))))))) ↦ absurd (c.in_default.not-info e)
    | inr (inr (inr (inr (inr (inr (inr (inr (inr (inr (inl e)))))))))) ↦ absurd (c.in_default.not-verify e)
    | inr (inr (inr (inr (inr (inr (inr (inr (inr (inr (inr (inl e))))))))))) ↦ absurd (c.in_default.not-log e)
    | inr (inr (inr (inr (inr (inr (inr (inr (inr (inr (inr (inr (inl e)))))))))))) ↦ absurd (c.in_default.not-show e)
    | inr (inr (inr (inr (inr (inr (inr (inr (inr (inr (inr (inr (inr (inl e))))))))))))) ↦ absurd (c.in_default.not-stats e)
    | inr (inr (inr (inr (inr (inr (inr (inr (inr (inr (inr (inr (inr (inr (inl e)))))))))))))) ↦ absurd (c.in_default.not-draw e)
    | inr (inr (inr (inr (inr (inr (inr (inr (inr (inr (inr (inr (inr (inr (inr (inl e))))))))))))))) ↦ absurd (c.in_default.not-seq e)
    | inr (inr (inr (inr (inr (inr (inr (inr (inr (inr (inr (inr (inr (inr (inr (inr (inl e)))))))))))))))) ↦ absurd (c.in_default.not-check e)
    | inr (inr (inr (inr (inr (inr (inr (inr (inr (inr (inr (inr (inr (inr (inr (inr (inr e)))))))))))))))) ↦ e
  ],
  c.node_args.ensures.says,
)
