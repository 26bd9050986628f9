use Rattle.std.proofs.Common.{◌≡◌, ◌∙◌, IfOk, arith, length, map, subst}
use Rattle.std.specs.Prelude.{replicate}
use Rattle.frames.specs.Socket.{state_of}
use Rattle.frames.specs.declared.port.Held.TheVariants.{Fresh}
use Rattle.node_programs.proofs.nodes.meet.Goals as goal

pub returns : goal.returns
returns g c =
    let whole : length c.gather.new.met ≡ c.args.nodes = omega (arith, c.gather.auto.met, c.as_mut_slice-met.ensures.len, c.nodes.met.ok, c.nodes.invariant, c.nodes-test.false, c.nodes.auto.node-end) in
    subst (λ n. IfOk c.ports_of.result (λ ports. map (λ p. state_of p.held) ports.items ≡ replicate n (state_of Fresh))) (c.in_ok-streams.ensures ∙ whole) c.ports_of.ensures
