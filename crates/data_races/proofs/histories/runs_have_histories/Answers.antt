use Rattle.data_races.specs.Ledger.{first_ledger}
use Rattle.data_races.proofs.Counted.{goes_back, goes_on}
use Rattle.data_races.proofs.histories.runs_have_histories.Goals as goal

pub returns : goal.returns
returns c = record { history = goes_on 1 first_ledger; run = goes_back 1 first_ledger }
