use Rattle.std.proofs.Common.{drop, ◌≡◌, ◌+◌, ◌∙◌, ◌<◌, List, ℕ, [], ◌++◌, length, length-set, get_or, replicate, arith, ap, subst, sym, refl}
use Rattle.std.proofs.lemmas.List.{length-map, map-set}
use Rattle.eventkey.proofs.Lists.{Every-get_or}
use Rattle.model.specs.Meaning.{IsAddressed}
use Rattle.model.proofs.Runs.{read_map}
use Rattle.pictures.specs.Inside.{lists}
use Rattle.pictures.specs.Run.{sent_in}
use Rattle.pictures.proofs.Sendings.{row_kept}
use Rattle.pictures.proofs.traced.times_of.Goals as goal

pub loop-place-preserved : goal.loop-place-preserved
loop-place-preserved c =
    let lps = length c.args.first.now in
    let x = c.index-events-place.result in
    let lp = c.to.result in
    let rows : List (List ℕ) = lists c.loop-place.rows.items in
    let i = c.loop-place.place in
    let at : IsAddressed lps x = subst (IsAddressed lps) (sym c.index-events-place.is) (Every-get_or (IsAddressed lps) c.args.events.now i x (omega arith) c.requires.events) in
    let there = at.to in
    let inside : lp < length rows = omega (arith, length-map c.loop-place.rows.items (λ r. r.items), c.loop-place.invariant.rows, c.to.ensures) in
    let after = map-set (λ r. r.items) c.loop-place.rows.items lp c.add_times.new.row in
    let row : c.index_mut.result.now.items ≡ get_or rows lp [] = read_map (λ r. r.items) c.loop-place.rows.items lp c.index_mut.result.now [] inside c.index_mut.ensures.value in
    let row_is = c.in_ok-add_times.ensures ∙ ap (λ r. r ++ replicate (get_or c.args.sends.now i 0) c.time.result) row ∙ ap (λ t. get_or rows lp [] ++ replicate (get_or c.args.sends.now i 0) t) c.time.ensures in
    record {
      rows = length-set c.loop-place.rows.items lp c.add_times.new.row ∙ c.loop-place.invariant.rows;
      times = λ k. ap (λ r. get_or r k [] ++ sent_in k (drop (i + 1) c.args.events.now) (drop (i + 1) c.args.sends.now)) after
          ∙ row_kept rows c.args.events.now c.args.sends.now i lp k (get_or c.args.sends.now i 0) x c.add_times.new.row.items (replicate (get_or c.args.first.now k 0) 0 ++ sent_in k c.args.events.now c.args.sends.now) (omega arith) (omega (arith, c.requires.sends)) c.index-events-place.is inside c.to.ensures refl row_is (c.loop-place.invariant.times k);
    }
