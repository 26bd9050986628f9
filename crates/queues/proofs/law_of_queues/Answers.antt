use Rattle.queues.proofs.Releases.{records_part}
use Rattle.queues.proofs.Queues.{arrivals_count_undone, queues_arrive_by_cases, queues_count, queues_stay_apart, queues_stay_in_order}
use Rattle.queues.proofs.law_of_queues.Goals as goal

pub returns-clause-cases : goal.returns-clause-cases
returns-clause-cases c = queues_arrive_by_cases

pub returns-clause-apart : goal.returns-clause-apart
returns-clause-apart c = queues_stay_apart

pub returns-clause-in_order : goal.returns-clause-in_order
returns-clause-in_order c = queues_stay_in_order

pub returns-clause-count : goal.returns-clause-count
returns-clause-count c = queues_count

pub returns-clause-back : goal.returns-clause-back
returns-clause-back c = arrivals_count_undone

pub returns-clause-parts : goal.returns-clause-parts
returns-clause-parts c = records_part
