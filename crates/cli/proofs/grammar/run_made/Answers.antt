use Rattle.cli.proofs.Lines.{option_added}
use Rattle.cli.proofs.grammar.run_made.Goals as goal

pub returns : goal.returns
returns c =
    option_added _ _ _ _ _ c.with_option.ensures
    (option_added _ _ _ _ _ c.with_option-command-4.ensures
    (option_added _ _ _ _ _ c.with_option-command-3.ensures
    (option_added _ _ _ _ _ c.with_option-command-2.ensures
    (option_added _ _ _ _ _ c.with_option-command.ensures
    c.on_disk.ensures c.optional_number-nodes.ensures.rule)
    c.any_text-batch.ensures.rule)
    c.flag.ensures.rule)
    c.flag-2.ensures.rule)
    c.flag-3.ensures.rule
