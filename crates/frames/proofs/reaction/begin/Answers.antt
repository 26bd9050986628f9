use Rattle.std.proofs.Common.{Ok, Err, refl, sym, ap, ◌∙◌}
use Rattle.frames.specs.Bodies.{load_in}
use Rattle.frames.specs.declared.reaction.Begun.TheVariants.{Loaded, Refused}
use Rattle.frames.proofs.Reacting.{begin_bad_body, begin_bad_kind, begin_made, begin_no_memory, fault_unwritten, loaded_processes, part_ready, some_load}
use Rattle.frames.proofs.reaction.begin.Goals as goal

pub returns-in_default-clause-begins : goal.returns-in_default-clause-begins
returns-in_default-clause-begins g c = begin_bad_kind _ _ c.in_default.not-Load

pub returns-in_default-2-clause-begins : goal.returns-in_default-2-clause-begins
returns-in_default-2-clause-begins g c = begin_bad_body _ _ c.in-Load.is (ap load_in (sym c.as_slice.ensures) ∙ sym c.in_ok-load.ensures.read ∙ c.in_default-2.is)

pub load-requires-clause-parts : goal.load-requires-clause-parts
load-requires-clause-parts g c = part_ready _ (some_load _ c.in-Some.load c.in_ok-load.ensures.range c.in-Some.is).parts

pub returns-in_err-frame-in-Err-clause-begins : goal.returns-in_err-frame-in-Err-clause-begins
returns-in_err-frame-in-Err-clause-begins g c =
    begin_no_memory _ _ _ (fault_unwritten c.in-Err.fault c.in_err-frame-in-Err.field-0.0 c.from_residual-in_err-frame-in-Err.result c.from_residual-in_err-frame-in-Err.ensures.1 c.in_err-frame-in-Err.ensures)

pub returns-in-Ok-clause-begins : goal.returns-in-Ok-clause-begins
returns-in-Ok-clause-begins g c =
    begin_made _ _ c.in-Some.load (Ok c.in-Ok.node) (Loaded c.in-Ok.node) c.in-Load.is (ap load_in (sym c.as_slice.ensures) ∙ sym c.in_ok-load.ensures.read ∙ c.in-Some.is) c.in-Ok.ensures.loaded refl

pub returns-in-Ok-clause-lps : goal.returns-in-Ok-clause-lps
returns-in-Ok-clause-lps g c = loaded_processes _ c.in-Some.load c.in-Ok.node c.in-Ok.ensures.loaded

pub returns-in_ok-frame-in-Err-clause-begins : goal.returns-in_ok-frame-in-Err-clause-begins
returns-in_ok-frame-in-Err-clause-begins g c =
    begin_made _ _ c.in-Some.load (Err c.in-Err.fault) (Refused c.from_vec.result) c.in-Load.is (ap load_in (sym c.as_slice.ensures) ∙ sym c.in_ok-load.ensures.read ∙ c.in-Some.is) c.in-Err.ensures.loaded
    (ap Refused (c.from_vec.ensures ∙ c.in_ok-frame-in-Err.ensures.1))
