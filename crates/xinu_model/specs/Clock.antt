-- The clock: sleepers, the quantum, and what a tick does (book, chapter 13).
use Rattle.std.specs.Prelude.{ℕ, zero, suc, ◌+◌, ◌-◌, ◌*◌, ◌/◌, ◌==◌, nat_lt, Bool, true, false, if◌then◌else◌, List, [], map, filter, ℤ, pos, negsuc, ◌∷◌}
use Rattle.xinu_base.specs.Constants.{QUANTUM, OK}
use Rattle.xinu_base.specs.declared.processes.Rest.TheVariants.{Nothing}
use Rattle.xinu_base.specs.declared.processes.State.TheVariants.{Sleeping}
use Rattle.xinu_model.specs.Machine.{Xinu, CallState, CallResult, EventResult, start, unblock_all, returns, refused, blocked, event_result}
use Rattle.xinu_model.specs.Process.Scheduling.{resched}
use Rattle.xinu_model.specs.Tables.{Tables, InSleepers}
use Rattle.xinu_model.specs.Footprints.{on_tables}
use Rattle.xinu_model.specs.Rows.{Status, CallRow, row}
use Rattle.xinu_model.specs.Words.{signed}

-- the processes that wake at a tick, in the order in which they lie down
abbrev pub due : ℕ → List (ℕ × ℕ) → List ℕ
due tick sleepers = map (λ e. e.0) (filter (λ e. e.1 == tick) sleepers)

-- the quantum falls by one; if it comes to 0 it is 2 again, and there is a resched
abbrev pub quantum_falls : Tables → Tables
quantum_falls t =
    if nat_lt 1 t.quantum then (record t { quantum = t.quantum - 1 }) else resched (record t { quantum = QUANTUM })

-- those whose tick has come are released
abbrev pub wakeup : Xinu → CallState
wakeup s = unblock_all (due (s.tables.ticks + 1) s.tables.sleepers) (start s)

-- the tables one tick later, with a resched if one is owed
abbrev pub a_tick_later : Bool → Tables → Tables
a_tick_later owes t =
    let later = record t { ticks = t.ticks + 1 } in if owes then resched later else later

-- A tick of the clock: those whose tick has come are released, with a resched if there were any; then the quantum falls.
abbrev pub ticked : Xinu → EventResult
ticked s =
    let d = wakeup s in
    event_result s.tables.current [] d.released (quantum_falls (a_tick_later d.owes_resched d.state.tables)) d.state false

-- call 6: the caller lets the others run
abbrev pub yield : Xinu → CallResult
yield s = returns (record (start s) { owes_resched = true }) OK

-- call 26: the caller sleeps n ticks, for 0 it yields; refused if n is negative
abbrev pub sleepms : ℤ → Xinu → CallResult
sleepms (negsuc n) s = refused s
sleepms (pos zero) s = yield s
sleepms (pos (suc n)) s = blocked Sleeping Nothing (InSleepers (s.tables.ticks + suc n)) s

-- call 25: the caller sleeps n seconds; refused if n is negative or above 2147483
abbrev pub sleep : ℤ → Xinu → CallResult
sleep (negsuc n) s = refused s
sleep (pos n) s = if nat_lt 2147483 n then refused s else sleepms (pos (1000 * n)) s

-- call 27: the seconds since the start
abbrev pub clktime : Xinu → CallResult
clktime s = returns (start s) (pos (s.tables.ticks / 1000))

-- the calls on the clock
abbrev pub clock_calls : List CallRow
clock_calls =
    row 25 on_tables Status (λ a s. sleep (signed (a 0)) s) ∷
    row 26 on_tables Status (λ a s. sleepms (signed (a 0)) s) ∷
    row 27 on_tables Status (λ a s. clktime s) ∷
    []
