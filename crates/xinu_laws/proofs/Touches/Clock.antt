-- What the calls on the clock touch.
use Rattle.std.proofs.Common.{zero, suc, ◌+◌, ◌*◌, refl, ℤ, pos, negsuc}
use Rattle.std.specs.Prelude.{nat_lt}
use Rattle.xinu_base.specs.declared.processes.Rest.TheVariants.{Nothing}
use Rattle.xinu_base.specs.declared.processes.State.TheVariants.{Sleeping}
use Rattle.xinu_model.specs.Clock.{sleep, sleepms, clktime, yield}
use Rattle.xinu_model.specs.Footprints.{on_tables}
use Rattle.xinu_model.specs.Machine.{refused}
use Rattle.xinu_model.specs.Tables.{InSleepers}
use Rattle.xinu_laws.proofs.Touches.{StaysIn, touches_refl, touches_either}
use Rattle.xinu_laws.proofs.Touches.Moves.{touches_blocked}

-- Call 6.
pub yield_touches : StaysIn on_tables yield
yield_touches s i = touches_refl s

-- Call 26.
pub sleepms_touches : (ticks : ℤ) → StaysIn on_tables (sleepms ticks)
sleepms_touches (negsuc n) s i = touches_refl s
sleepms_touches (pos zero) s i = touches_refl s
sleepms_touches (pos (suc n)) s i = touches_blocked Sleeping Nothing (InSleepers (s.tables.ticks + suc n)) s i.tables.runs tt refl refl

-- Call 25.
pub sleep_touches : (seconds : ℤ) → StaysIn on_tables (sleep seconds)
sleep_touches (negsuc n) s i = touches_refl s
sleep_touches (pos n) s i =
    touches_either s (nat_lt 2147483 n) (refused s) (sleepms (pos (1000 * n)) s) (λ _. touches_refl s)
    (λ _. sleepms_touches (pos (1000 * n)) s i)

-- Call 27.
pub clktime_touches : StaysIn on_tables clktime
clktime_touches s i = touches_refl s
