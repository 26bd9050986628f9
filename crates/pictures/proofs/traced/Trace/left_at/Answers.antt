use Rattle.std.specs.List.{AllByRecursion as Every}
use Rattle.std.proofs.Common.{◌≡◌, ◌∙◌, ap, filter, length, subst, sym}
use Rattle.eventkey.proofs.Lists.{Every-filter}
use Rattle.model.specs.Meaning.{IsAddressed}
use Rattle.pictures.specs.Run.{is_from}
use Rattle.pictures.proofs.traced.Trace.left_at.Goals as goal

pub invariant_of-result : goal.invariant_of-result
invariant_of-result c =
    let was = c.self.invariant.whole in
    let all = Every (IsAddressed (length c.self.inside.first.items)) in
    let late : c.in_ok-pending.pending.items ≡ filter (is_from c.args.time) c.self.inside.pending.items = c.in_ok-pending.ensures ∙ ap (filter (is_from c.args.time)) c.as_slice.ensures.value in
    record {
      whole = record {
        time = c.requires;
        few = was.few;
        sends = was.sends;
        events = was.events;
        pending = subst all (sym late) (Every-filter (IsAddressed (length c.self.inside.first.items)) (is_from c.args.time) c.self.inside.pending.items was.pending);
      };
      times = c.self.invariant.times;
    }
