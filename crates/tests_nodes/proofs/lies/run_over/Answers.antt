use Rattle.std.proofs.Common.{◌∙◌, ◌≡◌, arith, length, refl, rules, sym}
use Rattle.std.proofs.lemmas.List.{length-map}
use Rattle.runs.proofs.Ports.{all_fresh, so_many}
use Rattle.tests_nodes.proofs.lies.run_over.Goals as goal

pub open-requires : goal.open-requires
open-requires g c =
    let many : length c.in_ok-ports.ports.items ≡ 3 = sym (length-map c.in_ok-ports.ports.items _) ∙ so_many 3 _ _ c.in_ok-ports.ensures in
    record {
      possible = record {
        run = record { some = omega (arith, many); few = omega (arith, many); ends = search rules };
        fresh = all_fresh 3 _ _ c.in_ok-ports.ensures refl;
      };
    }
