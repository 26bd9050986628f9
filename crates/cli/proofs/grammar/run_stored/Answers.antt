use Rattle.cli.proofs.Lines.{option_added}
use Rattle.cli.proofs.grammar.run_stored.Goals as goal

pub returns : goal.returns
returns c =
    option_added _ _ _ _ _ c.with_option-2.ensures
    (option_added _ _ _ _ _ c.with_option-command-5.ensures
    (option_added _ _ _ _ _ c.with_option.ensures
    (option_added _ _ _ _ _ c.with_option-command-4.ensures
    (option_added _ _ _ _ _ c.with_option-command-3.ensures
    (option_added _ _ _ _ _ c.with_option-command-2.ensures
    (option_added _ _ _ _ _ c.with_option-command.ensures
    c.run_kept.ensures c.flag-create.ensures.rule)
    c.created_option.ensures.rule)
    c.reserved_option.ensures.rule)
    c.kept_option.ensures.rule)
    c.flag-archive.ensures.rule)
    c.optional_number-keep.ensures.rule)
    c.flag-grow.ensures.rule
