-- The laws of a process, from the invariants that each of its moves keeps.
use Rattle.std.proofs.Common.{refl}
use Rattle.process.proofs.Arrivals.{arrive_held, arrive_none, arrive_sent, history_arrive, cancelled_later, reported_arrive}
use Rattle.process.proofs.HandlingLaws.{handle_held, handle_sent, history_handle, history_release, release_held, release_sent, report_is_fold, reported_handle, reported_release}
use Rattle.process.specs.Consistent.{ArrivalIsBalanced, ArrivalStaysConsistent, ArrivalLooksAhead, ArrivalCancelsSends, HandlingIsBalanced, HandlingStaysConsistent, HistoriesAreKept, ReportIsBalanced, ReportsStayConsistent, ReportsFollowModel}
use Rattle.process.specs.View.{HistoriesBegin}

pub histories_begin : HistoriesBegin
histories_begin m lp state number pending = (refl, refl)

pub histories_are_kept : HistoriesAreKept
histories_are_kept m lp q h = (λ s. history_arrive m lp s q h, λ x room. history_handle m lp x q room h, λ floor. history_release m lp floor q h)

pub reports_follow_model : ReportsFollowModel
reports_follow_model = report_is_fold

pub arrival_stays_consistent : ArrivalStaysConsistent
arrival_stays_consistent = reported_arrive

pub arrival_is_balanced : ArrivalIsBalanced
arrival_is_balanced = arrive_held

pub arrival_cancels_sends : ArrivalCancelsSends
arrival_cancels_sends x s q = (arrive_sent x s q, arrive_none x s q)

pub arrival_looks_ahead : ArrivalLooksAhead
arrival_looks_ahead = cancelled_later

pub handling_stays_consistent : HandlingStaysConsistent
handling_stays_consistent = reported_handle

pub handling_is_balanced : HandlingIsBalanced
handling_is_balanced m lp x q y rest w = (handle_held m lp x q y rest w, handle_sent m lp x q y)

pub reports_stay_consistent : ReportsStayConsistent
reports_stay_consistent = reported_release

pub report_is_balanced : ReportIsBalanced
report_is_balanced x floor q = (release_held x floor q, release_sent x floor q)
