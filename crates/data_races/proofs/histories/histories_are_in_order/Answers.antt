use Rattle.data_races.proofs.Counted.{is_history}
use Rattle.data_races.proofs.histories.histories_are_in_order.Goals as goal

pub returns : goal.returns
returns c = is_history
