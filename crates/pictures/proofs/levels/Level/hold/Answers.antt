use Rattle.std.proofs.Common.{◌≡◌, ◌*◌, arith, refl}
use Rattle.pictures.proofs.Values.{level_held, level_kept}
use Rattle.pictures.proofs.levels.Level.hold.Goals as goal

pub returns-clause-held : goal.returns-clause-held
returns-clause-held c = λ values is.
    let added : c.from-ticks.result * c.from.result ≡ c.saturating_sub.result * c.args.self.now.value = cc in
    level_held values c.args.time c.saturating_sub.result c.args.self.now _ is (omega arith) (omega arith) refl (omega arith) (omega (arith, added)) (omega arith) (omega arith)

pub returns-then-ticks-eq0-clause-held : goal.returns-then-ticks-eq0-clause-held
returns-then-ticks-eq0-clause-held c = λ values is. level_kept values c.args.time c.args.self.now _ is (omega arith) refl (omega arith) refl refl refl
