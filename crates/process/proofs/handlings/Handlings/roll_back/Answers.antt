use Rattle.std.proofs.Common.{◌≡◌, ◌∙◌, ◌+◌, ◌-◌, List, arith, ap, flat_map, length, rules, take, ℕ}
use Rattle.std.proofs.lemmas.List.{take_all}
use Rattle.process.specs.Reports.{done_bytes}
use Rattle.process.specs.declared.Done.{Done}
use Rattle.process.proofs.HandlingBytes.{holds, kept_left, rolled_back}
use Rattle.process.proofs.handlings.Handlings.roll_back.Goals as goal

pub invariant_of-self : goal.invariant_of-self
invariant_of-self c =
    let s = c.self.inside in
    let ds = c.args.self.now in
    let kept : ℕ = c.len.result - c.args.count in
    let many : length (flat_map done_bytes (take kept ds)) + c.size_between-size.result ≡ length (flat_map done_bytes ds) = c.size_between-size.ensures ∙ ap (λ (xs : List Done). length (flat_map done_bytes xs)) (take_all c.len-2.result ds (omega (arith, c.len-2.ensures))) in
    let long : c.len-end.result ≡ length s.bytes.items = search rules in
    (rolled_back s.start s.lengths.items s.bytes.items ds (holds s.start s.lengths.items s.bytes.items ds c.self.invariant c.self.view_is) kept c.size_between-size.result c.truncate.new.self.items c.truncate-2.new.self.items many c.truncate.ensures.items
    (c.truncate-2.ensures.items ∙ ap (λ (n : ℕ). take (n - c.size_between-size.result) s.bytes.items) long)).are

pub returns : goal.returns
returns c =
    let s = c.self.inside in
    let ds = c.args.self.now in
    let kept : ℕ = c.len.result - c.args.count in
    let left : kept ≡ length ds - c.args.count = ap (λ (n : ℕ). n - c.args.count) c.len.ensures in
    let many : length (flat_map done_bytes (take kept ds)) + c.size_between-size.result ≡ length (flat_map done_bytes ds) = c.size_between-size.ensures ∙ ap (λ (xs : List Done). length (flat_map done_bytes xs)) (take_all c.len-2.result ds (omega (arith, c.len-2.ensures))) in
    let long : c.len-end.result ≡ length s.bytes.items = search rules in
    (rolled_back s.start s.lengths.items s.bytes.items ds (holds s.start s.lengths.items s.bytes.items ds c.self.invariant c.self.view_is) kept c.size_between-size.result c.truncate.new.self.items c.truncate-2.new.self.items many c.truncate.ensures.items
    (c.truncate-2.ensures.items ∙ ap (λ (n : ℕ). take (n - c.size_between-size.result) s.bytes.items) long)).value
    ∙ kept_left c.args.count kept ds c.requires left
