use Rattle.event_laws.proofs.Ownership.Giving.{given_away_is_shared}
use Rattle.event_laws.proofs.owners.giving_away_breaks.Goals as goal

pub returns : goal.returns
returns c = given_away_is_shared
