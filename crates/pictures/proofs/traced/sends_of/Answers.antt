use Rattle.std.proofs.Common.{◌≡◌, ◌+◌, ◌∙◌, ◌<◌, List, ℕ, [], ◌++◌, length, length-set, map, get_or, set, drop, arith, ap, subst, sym}
use Rattle.std.specs.List.{AllByRecursion as Every}
use Rattle.std.proofs.lemmas.List.{length-map, map-set}
use Rattle.eventkey.proofs.Lists.{Every-get_or, Every-get_or-default, Every-set}
use Rattle.model.specs.Meaning.{IsAddressed, IsWords}
use Rattle.model.proofs.Runs.{read_map}
use Rattle.pictures.specs.Run.{sends_of}
use Rattle.pictures.proofs.Sendings.{sends_none, sends_read}
use Rattle.pictures.proofs.traced.sends_of.Goals as goal

pub loop-event-preserved : goal.loop-event-preserved
loop-event-preserved g c =
    let m = g.M.Model.meaning c.args.model.now in
    let law = g.met.M.Model.lawful c.args.model.now in
    let x = c.event-item.result in
    let lp = c.to-lp.result in
    let states : List (List ℕ) = map (λ s. s.items) c.loop-event.now.items in
    let i = c.loop-event.event-index in
    let at : IsAddressed m.lps x = subst (IsAddressed m.lps) (sym c.event-item.is) (Every-get_or (IsAddressed m.lps) c.args.log.now i x (omega arith) c.requires.log) in
    let there = at.to in
    let in_range : lp < m.lps = omega (arith, c.to-lp.ensures) in
    let inside : lp < length states = omega (arith, length-map c.loop-event.now.items (λ s. s.items), c.loop-event.invariant.states) in
    let state : c.index.result.now.items ≡ get_or states lp [] = read_map (λ s. s.items) c.loop-event.now.items lp c.index.result.now [] inside c.index.ensures in
    let words : IsWords c.index.result.now.items = subst IsWords (sym state) (Every-get_or-default IsWords states lp [] c.loop-event.invariant.words (omega arith, tt)) in
    let after = map-set (λ s. s.items) c.loop-event.now.items lp c.handle-words.result.0 in
    let next : IsWords c.handle-words.result.0.items = subst IsWords (sym c.handle-words.ensures.state) (law.words lp c.index.result.now.items x in_range words at.ranged) in
    record {
      states = length-set c.loop-event.now.items lp c.handle-words.result.0 ∙ c.loop-event.invariant.states;
      words = subst (Every IsWords) (sym after) (Every-set IsWords states lp c.handle-words.result.0.items next c.loop-event.invariant.words);
      counts = ap (λ s. c.push.new.self.items ++ sends_of m s (drop (i + 1) c.args.log.now)) after
          ∙ ap (λ d. d ++ sends_of m (set states lp c.handle-words.result.0.items) (drop (i + 1) c.args.log.now)) c.in_ok-push.ensures.items
          ∙ sends_read m states c.args.log.now i x lp c.len.result c.index.result.now.items c.handle-words.result.0.items c.loop-event.counts.items _ (omega arith) c.event-item.is
          c.to-lp.ensures state (c.len.ensures.value ∙ ap length c.handle-words.ensures.sends) c.handle-words.ensures.state c.loop-event.invariant.counts;
    }

pub returns : goal.returns
returns g c =
    let m = g.M.Model.meaning c.args.model.now in
    sends_none m (map (λ s. s.items) c.loop-event.now.items) c.args.log.now c.loop-event.event-index c.loop-event.counts.items _ (omega arith) c.loop-event.invariant.counts
