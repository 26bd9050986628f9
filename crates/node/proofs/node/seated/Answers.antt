use Rattle.std.proofs.Common.{◌≡◌, ◌≤◌, Err, ap, sym, subst, List}
use Rattle.std.specs.List.{AllByRecursion as Every}
use Rattle.std.proofs.lemmas.Result.{err_from_is_err_and}
use Rattle.eventkey.specs.Message.{Message}
use Rattle.node.proofs.Deliveries.{memory_left}
use Rattle.node.proofs.Loads.{none_early, none_foreign}
use Rattle.node.proofs.node.seated.Goals as goal

pub returns-in_err-process-clause-memory : goal.returns-in_err-process-clause-memory
returns-in_err-process-clause-memory c =
    let p = err_from_is_err_and c.from_residual.result c.from_residual.ensures.1 in
    let same : c.into_vec.result.items ≡ c.args.part.pending = c.into_vec.ensures in
    rw (p.1, p.2)
    (memory_left c.in_err-process.field-0.0
    (λ e. none_foreign c.args.part.lp c.into_vec.result.items (subst (λ (xs : List Message). Every (λ (x : Message). x.to ≡ c.args.part.lp) xs) (sym same) c.requires.own) (c.in_err-process.ensures.not_mine.0 (ap Err e)))
    (λ e. none_early c.args.floor c.into_vec.result.items (subst (λ (xs : List Message). Every (λ (x : Message). c.args.floor ≤ x.time) xs) (sym same) c.requires.late) (c.in_err-process.ensures.below_floor.0 (ap Err e)).1)
    (λ e. c.in_err-process.ensures.unlimited (ap Err e))
    (λ e. c.in_err-process.ensures.unspent (ap Err e)))
