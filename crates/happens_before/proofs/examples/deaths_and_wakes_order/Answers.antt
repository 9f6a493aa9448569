use Rattle.std.proofs.Common.{◌<◌, refl, arith}
use Rattle.happens_before.specs.Clocks.{clocks_after}
use Rattle.happens_before.proofs.examples.deaths_and_wakes_order.Goals as goal

pub returns-clause-death : goal.returns-clause-death
unfolding clocks_after
returns-clause-death c = refl

pub returns-clause-killed : goal.returns-clause-killed
unfolding clocks_after
returns-clause-killed c = λ told. let unknown : 1 < 1 = told.unknown in omega arith

pub returns-clause-wake : goal.returns-clause-wake
unfolding clocks_after
returns-clause-wake c = refl

pub returns-clause-woken : goal.returns-clause-woken
unfolding clocks_after
returns-clause-woken c = λ told. let unknown : 1 < 1 = told.unknown in omega arith
