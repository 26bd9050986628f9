use Rattle.eventkey.proofs.Lists.{Every-weaker}
use Rattle.pictures.specs.Senders.{HaveTime}
use Rattle.pictures.proofs.senders.shortened.Goals as goal

pub returns-clause-senders : goal.returns-clause-senders
returns-clause-senders c = λ r are pending others.
    let none = c.in_ok-short.ensures r are in
    let first = c.in_ok-keep_times.ensures.kept r are none pending in
    (c.in_ok-keep_times-2.ensures.kept r are first.senders others).senders

pub returns-clause-pending : goal.returns-clause-pending
returns-clause-pending c = λ r are pending others.
    let none = c.in_ok-short.ensures r are in
    let first = c.in_ok-keep_times.ensures.kept r are none pending in
    let both = c.in_ok-keep_times-2.ensures.kept r are first.senders others in
    Every-weaker (HaveTime r c.keep_times.new.short.items) (HaveTime r c.keep_times-2.new.short.items) both.found c.args.pending.now (c.in_ok-keep_times.ensures.found r are none pending)

pub returns-clause-others : goal.returns-clause-others
returns-clause-others c = λ r are pending others.
    let none = c.in_ok-short.ensures r are in
    let first = c.in_ok-keep_times.ensures.kept r are none pending in
    c.in_ok-keep_times-2.ensures.found r are first.senders others
