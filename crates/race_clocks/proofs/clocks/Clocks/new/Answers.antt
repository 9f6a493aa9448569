-- No process knows anything.
use Rattle.race_clocks.proofs.Joining.{nothing_known, zip_same}
use Rattle.race_clocks.proofs.clocks.Clocks.new.Goals as goal

pub returns-clause-nothing : goal.returns-clause-nothing
returns-clause-nothing c v u = rw (c.in_ok-knows.ensures.items_if_clones_equal (λ y same. zip_same _ y same.whole)) (nothing_known v u)
