use Rattle.std.proofs.Common.{◌≡◌, ◌∙◌, arith, sym, map, length, ℕ, List}
use Rattle.std.proofs.lemmas.Bool.{le-leb, leb-true}
use Rattle.std.proofs.lemmas.List.{length-map}
use Rattle.node.proofs.Loads.{lp_at, own_all, own_far, own_here, own_more}
use Rattle.node.specs.declared.Part.{Part}
use Rattle.node.proofs.node.are_own.Goals as goal

pub returns-then-part-next : goal.returns-then-part-next
returns-then-part-next c =
    let lps : List ℕ = map (λ (p : Part). p.lp) c.args.parts.now in
    let size = length-map c.args.parts.now (λ (p : Part). p.lp) in (
      λ t. (cc),
      λ e. absurd (
          let here = own_here c.args.node c.args.nodes c.args.lps c.requires.node lps c.loop-part.part-index c.loop-part.next (omega (arith, c.loop-part-test.true)) c.loop-part.invariant e in
          c.if-part-next.true (sym (lp_at c.args.parts.now c.loop-part.part-index c.part-item.result c.loop-part-test.true c.part-item.is) ∙ here.0)),
    )

pub returns-then-next-lps : goal.returns-then-next-lps
returns-then-next-lps c =
    let lps : List ℕ = map (λ (p : Part). p.lp) c.args.parts.now in
    let size = length-map c.args.parts.now (λ (p : Part). p.lp) in (
      λ t. (cc),
      λ e. absurd (
          let here = (own_here c.args.node c.args.nodes c.args.lps c.requires.node lps c.loop-part.part-index c.loop-part.next (omega (arith, c.loop-part-test.true)) c.loop-part.invariant e).1 in
          let past = c.if-next-lps.true in omega arith),
    )

pub loop-part-preserved : goal.loop-part-preserved
loop-part-preserved c =
    let here = c.if-part-next.false in
    own_more c.args.node c.args.nodes c.args.lps (map (λ (p : Part). p.lp) c.args.parts.now) c.loop-part.part-index c.loop-part.next
    (lp_at c.args.parts.now c.loop-part.part-index c.part-item.result c.loop-part-test.true c.part-item.is ∙ here) c.if-next-lps.false c.loop-part.invariant

pub returns : goal.returns
returns c =
    let lps : List ℕ = map (λ (p : Part). p.lp) c.args.parts.now in
    let size = length-map c.args.parts.now (λ (p : Part). p.lp) in
    let all : length lps ≡ c.loop-part.part-index = omega (arith, c.loop-part-test.false, c.loop-part.auto.part-index-end) in (
      λ t. own_all c.args.node c.args.nodes c.args.lps c.requires.node lps c.loop-part.part-index c.loop-part.next all (leb-true c.args.lps c.loop-part.next t) c.loop-part.invariant,
      λ e. (let far = own_far c.args.node c.args.nodes c.args.lps c.requires.node lps c.loop-part.part-index c.loop-part.next all c.loop-part.invariant e in le-leb c.args.lps c.loop-part.next far),
    )
