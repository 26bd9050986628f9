use Rattle.std.proofs.Common.{◌∙◌, ◌≡◌, arith, length, refl, rules, sym}
use Rattle.std.proofs.lemmas.List.{length-map}
use Rattle.frames.proofs.Alike.{judged_alike}
use Rattle.runs.proofs.Ports.{all_fresh, so_many}
use Rattle.tests_nodes.proofs.judged.judged.Goals as goal

pub open-requires : goal.open-requires
open-requires c =
    let alike = judged_alike _ _ _ c.in_ok-ports.ports.items c.in_ok-loop_ports.field-0.items 3 _ c.in_ok-ports.ensures c.in_ok-loop_ports.ensures in
    let many : length c.in_ok-ports.ports.items ≡ 3 = sym (length-map c.in_ok-ports.ports.items _) ∙ so_many 3 _ _ alike in
    record {
      possible = record {
        run = record { some = omega (arith, many); few = omega (arith, many); ends = search rules };
        fresh = all_fresh 3 _ _ alike refl;
      };
    }
