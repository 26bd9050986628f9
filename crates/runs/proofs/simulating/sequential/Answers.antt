use Rattle.std.proofs.Common.{length, subst, sym, ◌≡◌}
use Rattle.model.proofs.Worlds.{opening_IsWorld}
use Rattle.runs.proofs.simulating.sequential.Goals as goal

pub run_to-requires : goal.run_to-requires
run_to-requires g c =
    let m = g.M.Model.meaning c.args.model.now in
    subst (λ s. length s.world.states ≡ m.lps) (sym c.in_ok-world.ensures.ok)
    (opening_IsWorld m (g.met.M.Model.lawful c.args.model.now)).states
