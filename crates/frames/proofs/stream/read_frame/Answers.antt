use Rattle.frames.specs.Cutting.{frame_cut}
use Rattle.frames.proofs.Cuts.{within_found}
use Rattle.frames.proofs.Halfway.{cut_memory}
use Rattle.frames.proofs.stream.read_frame.Goals as goal

pub returns-in_err-frame : goal.returns-in_err-frame
returns-in_err-frame g c = cut_memory frame_cut _ _ c.from_residual-in_err-frame.result c.from_residual-in_err-frame.ensures.1 (within_found _ _ _ c.in_ok-raw.ensures)
