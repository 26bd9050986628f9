use Rattle.std.proofs.Common.{◌∙◌, sym}
use Rattle.node.proofs.Histories.{have_histories, modelled_where_accepted}
use Rattle.node.specs.Roster.{place_of}
use Rattle.node.proofs.node.Node.handle.Goals as goal

pub returns-clause-histories : goal.returns-clause-histories
returns-clause-histories g c histories =
    let m = g.M.Model.meaning c.args.model.now in
    have_histories m (place_of c.handle.new.self) c.handle.new.self.processes.items c.handle.new.self.summaries c.in_ok-reply.ensures.ready
    (c.in_ok-reply.ensures.modelled (modelled_where_accepted m c.args.parcel c.self.inside.spent c.self.inside.roster c.args.self.now c.self.view_is (sym c.refusal.ensures ∙ c.in_default.is) c.self.invariant c.requires.lps histories))
