-- The calls that are refused in an event, by the state ahead of it, and those of a run. Read `refusals_of`, at the end, first.
use Rattle.std.specs.Prelude.{◌+◌, ◌-◌, ◌%◌, ◌^◌, ◌==◌, ℕ, Bool, true, false, if◌then◌else◌, ◌||◌, List, [], ◌∷◌, ◌++◌, length, map, slice_get, slice_index, slice_index_or, Option, Some, None}
use Rattle.refusal_reasons.specs.Later.{completion_reason, later_reason}
use Rattle.refusal_reasons.specs.Reasons.{reason}
use Rattle.refusal_reasons.specs.declared.reasons.Reason.{Reason}
use Rattle.refusal_reasons.specs.declared.reasons.Reason.TheVariants as why
use Rattle.refused_calls.specs.declared.refused.Refused.{Refused}
use Rattle.xinu_base.specs.declared.devices.Kind.{Kind}
use Rattle.xinu_base.specs.declared.devices.Kind.TheVariants as kind
use Rattle.xinu_base.specs.declared.events.Event.{Event}
use Rattle.xinu_base.specs.declared.events.Event.TheVariants.{Step, Fail0}
use Rattle.xinu_base.specs.declared.registers.Hart.{Hart}
use Rattle.xinu_base.specs.declared.registers.Outcome.{Outcome}
use Rattle.xinu_base.specs.declared.registers.Outcome.TheVariants as outcome
use Rattle.xinu_base.specs.declared.syscalls.Call.{Call}
use Rattle.xinu_model.specs.Devices.Table.{kind_of}
use Rattle.xinu_model.specs.Events.{call_of, is_done}
use Rattle.xinu_model.specs.Isa.Exec.{exec}
use Rattle.xinu_model.specs.Machine.{Xinu, current_hart, no_hart}
use Rattle.xinu_model.specs.RawDisk.Calls.{disk_of}
use Rattle.xinu_model.specs.RawDisk.Requests.{Request}
use Rattle.xinu_model.specs.Tables.{process_at, semaphore_at}

-- the registers of a process
abbrev pub hart_at : Xinu → ℕ → Hart
hart_at s p = slice_index_or s.harts p no_hart

-- the address of the instruction that makes a call, or that made it if its caller waited: then the caller goes on one word after it
abbrev pub place_of : Hart → Bool → ℕ
place_of hart waited = if waited then (hart.pc + 2 ^ 32 - 4) % 2 ^ 32 else hart.pc

-- The call in the registers of a process is refused in an event to which so many led: as it is made, or after its caller waited.
abbrev pub refused : ℕ → Xinu → ℕ → Bool → Reason → Refused
refused taken s p waited reason = record {
  taken = taken;
  process = p;
  pc = place_of (hart_at s p) waited;
  call = call_of (hart_at s p);
  reason = reason;
}

-- whether a call isn't refused for this reason, but answers a value that is -1
abbrev pub is_answer : Reason → Bool
is_answer why.PriorityIsMinusOne = true
is_answer why.CountIsMinusOne = true
is_answer why.MessageIsMinusOne = true
is_answer _ = false

-- whether a device is the raw disk
abbrev pub is_raw_disk : Option Kind → Bool
is_raw_disk (Some kind.RawDisk) = true
is_raw_disk _ = false

-- whether a call was refused before its caller goes on: by a completion of the raw disk that failed, if it is on that
abbrev pub was_refused : Reason → Call → Bool
was_refused why.DiskRefused call = is_raw_disk (kind_of (slice_index call.args 0))
was_refused _ call = false

-- whether a call that goes on isn't told for this reason
abbrev pub is_hidden : Reason → Call → Bool
is_hidden reason call = is_answer reason || was_refused reason call

-- a refused call, unless it isn't told
abbrev pub unless : Bool → Refused → List Refused
unless hidden r = if hidden then [] else r ∷ []

-- the calls of these processes, which waited
abbrev pub all_refused : ℕ → Xinu → Reason → List ℕ → List Refused
all_refused taken s reason ps = map (λ p. refused taken s p true reason) ps

-- who waits on a semaphore is refused if it is deleted, by call 15
abbrev pub refused_waiters : ℕ → Xinu → Call → List Refused
refused_waiters taken s call =
    if call.number == 15 then all_refused taken s why.SemaphoreDeleted (semaphore_at s.tables (slice_index call.args 0)).waiters else []

-- a step that makes a call, which is refused if it has a reason; else others may be refused by it
abbrev pub refused_made : ℕ → Xinu → Option Reason → List Refused
refused_made taken s None = refused_waiters taken s (call_of (current_hart s))
refused_made taken s (Some reason) = unless (is_answer reason) (refused taken s s.tables.current false reason)

-- a step in which a call goes on that waited
abbrev pub refused_later : ℕ → Xinu → Option Reason → List Refused
refused_later taken s None = []
refused_later taken s (Some reason) =
    unless (is_hidden reason (call_of (current_hart s))) (refused taken s s.tables.current true reason)

-- whether an instruction is a call
abbrev pub is_call : Outcome → Bool
is_call outcome.Call = true
is_call _ = false

-- whether the next instruction of the process that runs is one
abbrev pub makes_call : Xinu → Bool
makes_call s = is_call (exec (current_hart s) s.memory).outcome

-- the reason of the call in its registers
abbrev pub call_reason : Xinu → Call → Option Reason
call_reason s call = reason call.number call.args s

-- a step: of the null process, of a process that goes on in a call, or of one that executes an instruction
abbrev pub refused_in_step : ℕ → Xinu → List Refused
refused_in_step taken s =
    let rest = (process_at s.tables s.tables.current).rest in
    if s.tables.current == 0 then []
    else (if is_done rest then (if makes_call s then refused_made taken s (call_reason s (call_of (current_hart s))) else [])
    else refused_later taken s (later_reason rest s))

-- the caller of the first request, if there is one and it lives
abbrev pub first_caller : List Request → Option ℕ
first_caller [] = None
first_caller (r ∷ requests) = r.caller

-- the caller of a request, if it lives and the request is refused
abbrev pub refused_caller : ℕ → Xinu → Option ℕ → Option Reason → List Refused
refused_caller taken s None reason = []
refused_caller taken s (Some p) None = []
refused_caller taken s (Some p) (Some reason) = refused taken s p true reason ∷ []

-- a completion of the raw disk that fails refuses the first request
abbrev pub refused_first : ℕ → Xinu → List Request → List Refused
refused_first taken s requests = refused_caller taken s (first_caller requests) (completion_reason false)

-- The calls that are refused in an event to which so many led, by the state ahead of it, in order.
abbrev pub refused_in : Option Event → ℕ → Xinu → List Refused
refused_in (Some Step) taken s = refused_in_step taken s
refused_in (Some Fail0) taken s = refused_first taken s (disk_of s).requests
refused_in _ taken s = []

-- The calls that are refused in the first events of a run, by the states ahead of them, the latest one first.
unfoldable pub refusals_of : List Event → List Xinu → List Refused
refusals_of events [] = []
refusals_of events (s ∷ earlier) = refusals_of events earlier ++ refused_in (slice_get events (length earlier)) (length earlier) s
