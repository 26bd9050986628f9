use Rattle.std.proofs.Common.{◌<◌, ◌≤◌, ⊎_elim, inl, inr, [], arith}
use Rattle.std.proofs.lemmas.Bool.{cases_lt}
use Rattle.std.proofs.lemmas.List.{ext_get_or}
use Rattle.disk.proofs.Spans.{outside}
use Rattle.disk.proofs.storing.copy_dirty.Goals as goal

pub loop-n-init : goal.loop-n-init
loop-n-init c =
    let image = c.args.image.now in
    record {
      size = c.requires.each;
      in_sync = c.requires.in_sync;
      done = λ k before. c.requires.in_sync k (outside image.first image.end image.dirty.items k image.span (inl before));
    }

pub returns : goal.returns
returns c =
    let so = c.loop-n.invariant in
    let image = c.args.image.now in
    ext_get_or [] _ _ so.size (λ k within. ⊎_elim (λ (before : k < c.loop-n.n). so.done k before) (λ (past : c.loop-n.n ≤ k). so.in_sync k (outside image.first image.end image.dirty.items k image.span (inr (omega arith)))) (cases_lt k c.loop-n.n))
