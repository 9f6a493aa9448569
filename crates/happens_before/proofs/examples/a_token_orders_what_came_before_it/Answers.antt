use Rattle.std.proofs.Common.{refl, arith}
use Rattle.happens_before.specs.Clocks.{clocks_after}
use Rattle.happens_before.specs.Told.{entries_after, entries_at, entries_in}
use Rattle.happens_before.proofs.examples.a_token_orders_what_came_before_it.Goals as goal

pub returns-clause-clock : goal.returns-clause-clock
unfolding clocks_after
returns-clause-clock c = refl

pub returns-clause-later : goal.returns-clause-later
unfolding clocks_after entries_after entries_at entries_in
returns-clause-later c = record { made = refl; entry = refl; others = λ h. omega (arith, h); store = refl; unknown = omega arith }
