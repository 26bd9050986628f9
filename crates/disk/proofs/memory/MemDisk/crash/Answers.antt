use Rattle.std.proofs.Common.{List, ℕ, ◌≡◌, ◌+◌, ◌*◌, ◌≢◌, ◌∙◌, ⊎_elim, [], get_or, length, ap, sym, subst, arith}
use Rattle.std.proofs.lemmas.Bool.{cases_eq}
use Rattle.std.specs.Simd.{first_chunks}
use Rattle.disk.specs.Disk.{IsSector, image_of}
use Rattle.disk.specs.Memory.{MemoryState, crash_content, IsCrashed}
use Rattle.disk.proofs.Crashes.{content_more, image_crashed, crash_may_leave}
use Rattle.disk.proofs.memory.MemDisk.crash.Goals as goal
use Rattle.disk.proofs.memory.MemDisk.crash.Goals.{After-loop-n}

pub loop-n-preserved : goal.loop-n-preserved
loop-n-preserved c =
    let so = c.loop-n.invariant in
    let content : ℕ → List ℕ = crash_content c.args.torn c.args.self.now in
    let here = c.left_in.ensures in
    record {
      size = omega (arith, so.size, c.in_ok-extend_from_slice.ensures.len, here.whole.size, c.extend_from_slice.new.self.ok.0, c.loop-n.bytes.ok.0);
      so_far = λ k small.
          ap (λ (l : List ℕ). get_or (first_chunks 512 (c.loop-n.n + 1) l) k []) c.in_ok-extend_from_slice.ensures.items
          ∙ content_more content c.loop-n.n c.loop-n.bytes.items c.left_in.result so.size here.whole.size here.content so.so_far k small;
      whole = λ k small. ⊎_elim (λ (same : k ≡ c.loop-n.n). subst (λ n. IsSector (content n)) (sym same) (subst IsSector here.content here.whole)) (λ (other : k ≢ c.loop-n.n). so.whole k (omega (arith, small, other))) (cases_eq k c.loop-n.n);
    }

-- after the loop all sectors are done
through : (c : After-loop-n) → c.loop-n.n ≡ length c.args.self.now.reads
through c = omega (arith, c.loop-n.auto.n-end, c.loop-n-test.false, c.count-count.ensures, ap (λ (disk : MemoryState). length disk.reads) c.self.view_is)

crashed : (c : After-loop-n) → IsCrashed c.args.torn c.args.self.now (image_of c.loop-n.bytes.items)
crashed c =
    let so = c.loop-n.invariant in
    image_crashed c.args.torn c.args.self.now c.loop-n.bytes.items (so.size ∙ ap (λ n. n * 512) (through c))
    (λ k within. ap (λ n. get_or (first_chunks 512 n c.loop-n.bytes.items) k []) (sym (through c)) ∙ so.so_far k (omega (arith, within, through c)))

pub returns-clause-image : goal.returns-clause-image
returns-clause-image c = crashed c

pub returns-clause-left : goal.returns-clause-left
returns-clause-left c =
    let each = ap (λ (disk : MemoryState). length disk.dirty) c.self.view_is in
    let reads = ap (λ (disk : MemoryState). length disk.reads) c.self.view_is in
    crash_may_leave c.args.torn c.args.self.now (image_of c.loop-n.bytes.items) (sym each ∙ c.self.inside.image.each ∙ reads) (λ n within. c.loop-n.invariant.whole n (omega (arith, within, through c))) (crashed c)
