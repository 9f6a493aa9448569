use Rattle.std.proofs.Common.{refl, arith}
use Rattle.happens_before.specs.Clocks.{clocks_after}
use Rattle.happens_before.specs.Told.{entries_after, entries_at, entries_in}
use Rattle.happens_before.proofs.examples.a_counter_is_told.Goals as goal

pub returns-clause-load : goal.returns-clause-load
unfolding clocks_after entries_after entries_at entries_in
returns-clause-load c = record { made = refl; entry = refl; others = λ h. omega (arith, h); store = refl; unknown = omega arith }

pub returns-clause-other : goal.returns-clause-other
unfolding clocks_after entries_after entries_at entries_in
returns-clause-other c = record { made = refl; entry = refl; others = λ h. omega (arith, h); store = refl; unknown = omega arith }

pub returns-clause-store : goal.returns-clause-store
unfolding clocks_after entries_after entries_at entries_in
returns-clause-store c = record { made = refl; entry = refl; others = λ h. omega (arith, h); store = refl; unknown = omega arith }
