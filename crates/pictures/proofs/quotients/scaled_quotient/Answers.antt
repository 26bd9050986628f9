use Rattle.std.proofs.Common.{◌≡◌, ◌*◌, ◌/◌, ◌%◌, ap, arith}
use Rattle.pictures.proofs.Roots.{scaled_division}
use Rattle.pictures.proofs.quotients.scaled_quotient.Goals as goal

pub returns : goal.returns
returns c =
    let rest : c.in_ok-rest.field-0 ≡ c.args.number % c.args.by * 1000000000000 = omega arith in
    omega (arith, ap (λ z. z / c.args.by) rest, scaled_division 1000000000000 c.args.number c.args.by (omega arith))
