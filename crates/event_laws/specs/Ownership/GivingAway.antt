-- When memory is given away: a process gives back addresses that a pool or a stack has.
use Rattle.std.specs.Prelude.{◌≡◌, ◌≢◌, ℕ, ◌<◌, ◌==◌, Bool, true, false, ◌||◌, List, [], ◌∷◌, None}
use Rattle.xinu_base.specs.declared.events.Event.{Event}
use Rattle.xinu_base.specs.declared.events.Event.TheVariants.{Step}
use Rattle.xinu_base.specs.declared.lines.TranscriptLine.{TranscriptLine}
use Rattle.xinu_base.specs.declared.processes.Rest.TheVariants.{Nothing}
use Rattle.xinu_base.specs.declared.registers.Outcome.TheVariants.{Call}
use Rattle.event_laws.specs.Ownership.Apart.{holders}
use Rattle.part_laws.specs.FreeCells.{is_in_free}
use Rattle.xinu_model.specs.Events.{call_of, panics_in, Happens}
use Rattle.xinu_model.specs.Isa.Exec.{Executed, exec}
use Rattle.xinu_model.specs.Machine.{Xinu, current_hart}
use Rattle.xinu_model.specs.Runs.{is_over, end_with}
use Rattle.xinu_model.specs.Tables.{process_at}

-- what the next instruction of the current process does
abbrev pub next : Xinu → Executed
next s = exec (current_hart s) s.memory

-- whether the call of a number gives memory back: `freemem` and `freestk` do
abbrev pub gives_back : ℕ → Bool
gives_back number = (number == 11) || (number == 13)

-- The event is a call of `freemem` or `freestk` by the current process, and an address is free after it that wasn't free before it,
-- and that a pool or a stack has.
pub record GivesAway (old : Xinu) (e : Event) (new : Xinu) : Type 0 where
  pub step : e ≡ Step
  pub runs : old.tables.current ≢ 0
  pub rest : (process_at old.tables old.tables.current).rest ≡ Nothing
  pub call : (next old).outcome ≡ Call
  pub number : gives_back (call_of (next old).hart).number ≡ true
  pub address : ℕ
  pub taken : is_in_free address old.parts.heap ≡ false
  pub free : is_in_free address new.parts.heap ≡ true
  pub held : 0 < holders old address

-- In a run of these events nothing that is held is given away, as long as it goes on.
abbrev pub GivesNothingAway : Xinu → List Event → Type 0
GivesNothingAway old [] = Unit {0}
GivesNothingAway old (e ∷ events) =
    (lines : List TranscriptLine) (mid : Xinu) → Happens old e lines mid → (GivesAway old e mid → ⊥) × (end_with (panics_in old e) (is_over mid) ≡ None → GivesNothingAway mid events)
