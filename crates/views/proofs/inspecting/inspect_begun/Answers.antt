use Rattle.std.proofs.Common.{rules}
use Rattle.std.specs.Option.{option_map}
use Rattle.model.specs.Origins.{continued}
use Rattle.views.proofs.Segments.{shown_origin}
use Rattle.views.proofs.inspecting.inspect_begun.Goals as goal

pub returns : goal.returns
returns g c = record {
  image = (g.D.SectorDisk.state c.args.begun.disk).reads;
  origin = c.args.begun.origin;
  on = continued (g.M.Model.meaning c.new-on.result.model.now) (option_map (λ o. o.now) c.new-on.result.origin);
  is_on = (c.requires.begins, search rules);
  inspected = c.in_ok-found.ensures.inspected;
  lines_are = shown_origin _ _ _ _ _ c.requires.begins c.requires.at c.lines_of-lines.ensures.none c.lines_of-lines.ensures.some;
}
