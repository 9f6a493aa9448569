use Rattle.part_laws.proofs.FileWork.Order.{calls_left, calls_told, same_told, turn_first, finished_first}
use Rattle.part_laws.proofs.file_work.calls_take_effect_in_order.Goals as goal

pub returns-clause-left : goal.returns-clause-left
returns-clause-left c = calls_left

pub returns-clause-told : goal.returns-clause-told
returns-clause-told c = calls_told

pub returns-clause-same : goal.returns-clause-same
returns-clause-same c = same_told

pub returns-clause-turn_first : goal.returns-clause-turn_first
returns-clause-turn_first c = turn_first

pub returns-clause-finished_first : goal.returns-clause-finished_first
returns-clause-finished_first c = finished_first
