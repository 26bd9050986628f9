use Rattle.std.proofs.Common.{◌≡◌, ◌∙◌, ◌+◌, ◌++◌, List, arith, ap, flat_map, length, refl, take}
use Rattle.process.specs.Reports.{done_bytes}
use Rattle.process.specs.declared.Done.{Done}
use Rattle.process.proofs.HandlingBytes.{first_encode, holds, released, size_within}
use Rattle.process.proofs.handlings.Handlings.release.Goals as goal

pub split_at-requires : goal.split_at-requires
split_at-requires c =
    let many : c.size_between-size.result ≡ length (flat_map done_bytes (take c.args.count c.args.self.now)) = omega (arith, c.size_between-size.ensures) in
    size_within c.args.count c.size_between-size.result c.args.self.now c.parts.result.1.now many c.parts.ensures.bytes

pub push_bytes-requires : goal.push_bytes-requires
push_bytes-requires c =
    let many : c.size_between-size.result ≡ length (flat_map done_bytes (take c.args.count c.args.self.now)) = omega (arith, c.size_between-size.ensures) in
    (first_encode c.args.count c.size_between-size.result c.args.self.now c.parts.ensures.ranged c.parts.result.1.now c.parts.ensures.bytes c.requires many c.split_at.result.0.now c.split_at.ensures.front).are

pub invariant_of-self : goal.invariant_of-self
invariant_of-self c =
    let s = c.self.inside in
    let ds = c.args.self.now in
    let size = c.size_between-size.result in
    let many : size ≡ length (flat_map done_bytes (take c.args.count ds)) = omega (arith, c.size_between-size.ensures) in
    (released s.start s.lengths.items s.bytes.items ds (holds s.start s.lengths.items s.bytes.items ds c.self.invariant c.self.view_is) c.args.count size (s.start + size) c.let_go.new.numbers.items many refl c.let_go.ensures).are

pub returns-clause-released : goal.returns-clause-released
returns-clause-released c =
    let many : c.size_between-size.result ≡ length (flat_map done_bytes (take c.args.count c.args.self.now)) = omega (arith, c.size_between-size.ensures) in
    c.in_ok-push_bytes.ensures.appended
    ∙ ap (λ (ds : List Done). c.args.fossils.now ++ ds)
    (first_encode c.args.count c.size_between-size.result c.args.self.now c.parts.ensures.ranged c.parts.result.1.now c.parts.ensures.bytes c.requires many c.split_at.result.0.now c.split_at.ensures.front).value

pub returns-clause-left : goal.returns-clause-left
returns-clause-left c =
    let s = c.self.inside in
    let ds = c.args.self.now in
    let size = c.size_between-size.result in
    let many : size ≡ length (flat_map done_bytes (take c.args.count ds)) = omega (arith, c.size_between-size.ensures) in
    c.compact.ensures
    ∙ (released s.start s.lengths.items s.bytes.items ds (holds s.start s.lengths.items s.bytes.items ds c.self.invariant c.self.view_is) c.args.count size (s.start + size) c.let_go.new.numbers.items many refl c.let_go.ensures).value
