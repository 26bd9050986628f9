use Rattle.std.proofs.Common.{◌≡◌, ◌∙◌, ◌+◌, ◌-◌, List, arith, ap, flat_map, length, take, ℕ}
use Rattle.std.proofs.lemmas.List.{take_all}
use Rattle.process.specs.Reports.{done_bytes}
use Rattle.process.specs.declared.Done.{Done}
use Rattle.process.proofs.HandlingBytes.{last_encode}
use Rattle.process.proofs.handlings.Handlings.last_reports.Goals as goal

pub from_bytes-requires : goal.from_bytes-requires
from_bytes-requires c =
    let ds = c.args.self.now in
    let all = c.len-all.result in
    let kept : ℕ = all - c.args.count in
    let left : kept ≡ length ds - c.args.count = ap (λ (n : ℕ). n - c.args.count) c.len-all.ensures in
    let many : length (flat_map done_bytes (take kept ds)) + c.size_between-size.result ≡ length (flat_map done_bytes ds) = c.size_between-size.ensures ∙ ap (λ (xs : List Done). length (flat_map done_bytes xs)) (take_all all ds (omega (arith, c.len-all.ensures))) in
    (last_encode c.args.count c.size_between-size.result ds c.parts.ensures.ranged c.parts.result.1.now c.parts.ensures.bytes kept c.requires left many c.split_at.result.1.now c.split_at.ensures.back).are

pub returns : goal.returns
returns c =
    let ds = c.args.self.now in
    let all = c.len-all.result in
    let kept : ℕ = all - c.args.count in
    let left : kept ≡ length ds - c.args.count = ap (λ (n : ℕ). n - c.args.count) c.len-all.ensures in
    let many : length (flat_map done_bytes (take kept ds)) + c.size_between-size.result ≡ length (flat_map done_bytes ds) = c.size_between-size.ensures ∙ ap (λ (xs : List Done). length (flat_map done_bytes xs)) (take_all all ds (omega (arith, c.len-all.ensures))) in
    c.from_bytes.ensures ∙ (last_encode c.args.count c.size_between-size.result ds c.parts.ensures.ranged c.parts.result.1.now c.parts.ensures.bytes kept c.requires left many c.split_at.result.1.now c.split_at.ensures.back).value
