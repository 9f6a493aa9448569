use Rattle.data_races.proofs.Plain.{plain_edges, plain_entries}
use Rattle.data_races.proofs.histories.plain_steps_order_nothing.Goals as goal

pub returns : goal.returns
returns c = record { edges = plain_edges; entries = plain_entries }
