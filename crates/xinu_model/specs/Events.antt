-- The events: what each may print, and which state it may leave. Interrupts come between instructions (book, chapter 12).
use Rattle.std.specs.Prelude.{◌≡◌, ◌≤◌, ℕ, zero, suc, ◌-◌, ◌==◌, nat_lt, Bool, true, false, if◌then◌else◌, List, [], ◌∷◌, drop, map, take, slice_index, slice_set, Option, Some, None, is_some}
use Rattle.xinu_base.specs.declared.syscalls.Call.{Call}
use Rattle.xinu_base.specs.declared.events.Event.{Event}
use Rattle.xinu_base.specs.declared.events.Event.TheVariants.{Step, Tick, Key, Tx, Disk0, Disk1, Fail0, Dump}
use Rattle.xinu_base.specs.declared.lines.TranscriptLine.{TranscriptLine}
use Rattle.xinu_base.specs.declared.lines.TranscriptLine.TheVariants as line
use Rattle.xinu_base.specs.declared.processes.Rest.{Rest}
use Rattle.xinu_base.specs.declared.processes.Rest.TheVariants.{Nothing}
use Rattle.xinu_base.specs.declared.registers.Hart.{Hart}
use Rattle.xinu_base.specs.declared.registers.Outcome.{Outcome}
use Rattle.xinu_base.specs.declared.registers.Outcome.TheVariants as outcome
use Rattle.xinu_model.specs.Calls.{called, continued}
use Rattle.xinu_model.specs.Clock.{ticked}
use Rattle.xinu_model.specs.Console.Signals.{keyed, transmits}
use Rattle.xinu_model.specs.Files.Syscalls.{files_of, file_line, files_complete, at_once}
use Rattle.xinu_model.specs.Files.Work.{FileRequest, least_effects, most_effects, issued}
use Rattle.xinu_model.specs.Isa.Exec.{Executed, exec}
use Rattle.xinu_model.specs.Machine.{Xinu, current_hart, EventResult, nothing_happens, end_of_event}
use Rattle.xinu_model.specs.Process.Death.{exit}
use Rattle.xinu_model.specs.RawDisk.Callers.{is_caller}
use Rattle.xinu_model.specs.RawDisk.Calls.{disk_completes}
use Rattle.xinu_model.specs.Tables.{process_at}
use Rattle.xinu_model.specs.Text.{tables_of}

-- the call that a process's registers ask for
abbrev pub call_of : Hart → Call
call_of hart = record { number = slice_index hart.regs 17; args = take 6 (drop 10 hart.regs) }

-- the line of a call by the current process
abbrev pub call_line : Xinu → Call → TranscriptLine
call_line s call = line.Call s.tables.current call

-- the call `exit`, as the return from a process's first function makes it
abbrev pub exit_call : Hart → Call
exit_call hart = record (call_of hart) { number = 9 }

-- the machine after an instruction of the current process
abbrev pub with_executed : Executed → Xinu → Xinu
with_executed did s =
    record s { harts = slice_set s.harts s.tables.current did.hart; memory = did.memory }

-- what comes of an instruction, in the state that it left
abbrev pub reacted : Outcome → Xinu → EventResult
reacted outcome.Went s = nothing_happens s
reacted outcome.Call s =
    let call = call_of (current_hart s) in end_of_event s.tables.current (call_line s call ∷ []) (called call.number call.args s)
reacted outcome.Exit s = end_of_event s.tables.current (call_line s (exit_call (current_hart s)) ∷ []) (exit s)
reacted (outcome.Trap cause) s = end_of_event s.tables.current (line.Trap s.tables.current cause ∷ []) (exit s)

-- one instruction of the current process
abbrev pub instruction_step : Xinu → EventResult
instruction_step s = let did = exec (current_hart s) s.memory in reacted did.outcome (with_executed did s)

-- whether nothing is left of a call
abbrev pub is_done : Rest → Bool
is_done Nothing = true
is_done _ = false

-- A machine step: nothing if the null process is current; else what is left of the call that the current process waits in; else
-- an instruction.
abbrev pub stepped : Xinu → EventResult
stepped s =
    let rest = (process_at s.tables s.tables.current).rest in
    if s.tables.current == 0 then nothing_happens s
    else (if is_done rest then instruction_step s
    else end_of_event s.tables.current [] (continued rest s))

-- the call on files that process p made in a step, if none is before it
abbrev pub made_first : ℕ → List FileRequest → List FileRequest → Option FileRequest
made_first p [] (a ∷ calls) = if is_caller p a.caller then Some a else None
made_first p _ _ = None

-- The call on files that the current process makes in the next step, if none is before it: it may take effect as it is made.
unfoldable pub next_file_call : Xinu → Option FileRequest
next_file_call s = made_first s.tables.current (files_of s).calls (files_of (stepped s).state).calls

-- the machine step in which it takes effect as it is made
abbrev pub step_at_once : FileRequest → Xinu → EventResult
step_at_once a old =
    let s = with_executed (exec (current_hart old) old.memory) old in
    let x = issued 1 a s.memory (files_of s) in
    end_of_event s.tables.current (call_line s (call_of (current_hart s)) ∷ map file_line x.notes) (at_once a s)

-- a machine step in which a call on files takes effect as it is made, if one is chosen to and there is one that may
abbrev pub step_with : ℕ → Option FileRequest → Xinu → EventResult
step_with zero found s = stepped s
step_with (suc choice) None s = stepped s
step_with (suc choice) (Some a) s = step_at_once a s

-- What an event prints and leaves, if this many calls on files more take effect in it than have to.
abbrev pub effect_of : Xinu → Event → ℕ → EventResult
effect_of s Step choice = step_with choice (next_file_call s) s
effect_of s Tick choice = ticked s
effect_of s (Key b) choice = keyed b s
effect_of s Tx choice = transmits s
effect_of s Disk0 choice = disk_completes true s
effect_of s Fail0 choice = disk_completes false s
effect_of s Disk1 choice = files_complete choice s
effect_of s Dump choice = record { lines = tables_of s; state = s; panics = false }
effect_of s _ choice = nothing_happens s

-- how many calls on files may take effect in an event, more than have to
abbrev pub most_chosen : Xinu → Event → ℕ
most_chosen s Step = if is_some (next_file_call s) then 1 else 0
most_chosen s Disk1 = most_effects (files_of s) - least_effects (files_of s).calls (files_of s)
most_chosen s _ = 0

-- whether something is chosen in an event
abbrev pub chooses : Xinu → Event → Bool
chooses s e = nat_lt 0 (most_chosen s e)

-- so many may
abbrev pub MayChoose : Xinu → Event → ℕ → Type 0
MayChoose s e choice = choice ≤ most_chosen s e

-- whether the kernel panics in an event
abbrev pub panics_in : Xinu → Event → Bool
panics_in s e = (effect_of s e 0).panics

-- From old, the event may print these lines and go on to new.
pub record Happens (old : Xinu) (e : Event) (lines : List TranscriptLine) (new : Xinu) : Type 0 where
  pub choice : ℕ
  pub allowed : MayChoose old e choice
  pub effect : effect_of old e choice ≡ record { lines = lines; state = new; panics = panics_in old e }
