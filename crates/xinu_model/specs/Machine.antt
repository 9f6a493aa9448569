-- The whole state of the machine, and what is under way inside an event (book, chapters 5, 6 and 12: rescheduling is deferred to its end).
use Rattle.std.specs.Prelude.{ℕ, ◌==◌, Bool, true, false, if◌then◌else◌, ◌||◌, List, [], ◌∷◌, ◌++◌, map, replicate, slice_index_or, slice_set, Option, ℤ}
use Rattle.xinu_base.specs.Constants.{OK, SYSERR}
use Rattle.xinu_base.specs.declared.processes.Rest.{Rest}
use Rattle.xinu_base.specs.declared.processes.Rest.TheVariants.{Nothing}
use Rattle.xinu_base.specs.declared.processes.State.{State}
use Rattle.xinu_base.specs.declared.registers.Hart.{Hart}
use Rattle.xinu_base.specs.declared.lines.TranscriptLine.{TranscriptLine}
use Rattle.xinu_base.specs.declared.lines.TranscriptLine.TheVariants.{Return, Switch}
use Rattle.xinu_model.specs.Devices.State.{Devices, first_devices}
use Rattle.xinu_model.specs.Heap.Cells.{Heap}
use Rattle.xinu_model.specs.Process.Scheduling.{resched, ready}
use Rattle.xinu_model.specs.Pools.Buffers.{BufferPool}
use Rattle.xinu_model.specs.Ports.Queues.{MessagePort, first_ports}
use Rattle.xinu_model.specs.Tables.{Tables, process_at, message_at, Place, Nowhere, move_to}
use Rattle.xinu_model.specs.Words.{word}

-- The parts of the state besides tables, registers and RAM: the heap, the pools in the order in which they were made, the ports by
-- number, the port at which the next search begins, and the devices.
pub record Parts : Type 0 where
  pub heap : Heap
  pub pools : List BufferPool
  pub ports : List MessagePort
  pub next_port : ℕ
  pub devices : Devices

-- the parts at the start, with this heap: no pool was made, no port is in use, and the devices are as at the start
abbrev pub first_parts : Heap → Parts
first_parts heap = record { heap = heap; pools = []; ports = first_ports; next_port = 0; devices = first_devices }

-- The tables, the registers of each process by number, RAM, and the other parts.
pub record Xinu : Type 0 where
  pub tables : Tables
  pub harts : List Hart
  pub memory : List ℕ
  pub parts : Parts

-- the registers at a free number
abbrev pub no_hart : Hart
no_hart = record { regs = replicate 32 0; pc = 0 }

-- the registers of the current process
abbrev pub current_hart : Xinu → Hart
current_hart s = slice_index_or s.harts s.tables.current no_hart

-- How a call goes: its caller gets a reply, waits, or is gone; or the kernel panics. If there was no call nothing is answered.
pub data Answer : Type 0 where
  Returns : (value : ℤ) → Answer
  Waits : Answer
  Gone : Answer
  Panics : Answer
  Silent : Answer

-- The state inside an event, the replies to released processes so far, and whether a resched is owed.
pub record CallState : Type 0 where
  pub state : Xinu
  pub released : List (ℕ × ℤ)
  pub owes_resched : Bool

-- what came of a call before the event is closed
pub record CallResult : Type 0 where
  pub call : CallState
  pub answer : Answer

-- nothing is done yet
abbrev pub start : Xinu → CallState
start s = record { state = s; released = []; owes_resched = false }

-- the same with other tables
abbrev pub with_tables : Tables → CallState → CallState
with_tables t d = record d { state = record d.state { tables = t } }

-- p becomes ready, and a resched is owed
abbrev pub ready_later : ℕ → CallState → CallState
ready_later p d = record (with_tables (ready p d.state.tables) d) { owes_resched = true }

-- A process of which nothing is left of its call is answered when it is released. The others go on by themselves.
abbrev pub reply_at_unblock : ℤ → ℕ → Rest → List (ℕ × ℤ)
reply_at_unblock value p Nothing = (p, value) ∷ []
reply_at_unblock value p _ = []

-- p, which waited or slept, becomes ready; this value is the answer if it is answered now
abbrev pub unblock_with : ℤ → ℕ → CallState → CallState
unblock_with value p d =
    record (ready_later p d) { released = d.released ++ reply_at_unblock value p (process_at d.state.tables p).rest }

-- these processes become ready, one after another, with this answer
abbrev pub unblock_all_with : ℤ → List ℕ → CallState → CallState
unblock_all_with value [] d = d
unblock_all_with value (p ∷ ps) d = unblock_all_with value ps (unblock_with value p d)

-- p becomes ready, and its call succeeded
abbrev pub unblock : ℕ → CallState → CallState
unblock p d = unblock_with OK p d

-- the same of these processes, one after another
abbrev pub unblock_all : List ℕ → CallState → CallState
unblock_all ps d = unblock_all_with OK ps d

-- the caller gets a reply
abbrev pub returns : CallState → ℤ → CallResult
returns d value = record { call = d; answer = Returns value }

-- a refused call changes nothing, and its caller gets -1
abbrev pub refused : Xinu → CallResult
refused s = returns (start s) SYSERR

-- the caller goes to a place in another state, with this left of its call
abbrev pub blocked : State → Rest → Place → Xinu → CallResult
blocked state rest place s =
    let t = s.tables in
    let x = process_at t t.current in
    record {
      call = with_tables (move_to t.current (record x { state = state; rest = rest }) (message_at t t.current) place t) (start s);
      answer = Waits;
    }

-- the caller goes on with this message in its slot, and nothing is left of its call
abbrev pub goes_on : Option ℕ → Xinu → Xinu
goes_on message s =
    let t = s.tables in
    record s { tables = move_to t.current (record (process_at t t.current) { rest = Nothing }) message Nowhere t }

-- whether the caller runs no longer
abbrev pub is_off : Answer → Bool
is_off Waits = true
is_off Gone = true
is_off (Returns value) = false
is_off Panics = false
is_off Silent = false

-- the one resched of an event, if one is owed or the caller runs no longer
abbrev pub closed : CallResult → Tables
closed result =
    if result.call.owes_resched || is_off result.answer then resched result.call.state.tables else result.call.state.tables

-- a reply in register a0 of a process
abbrev pub with_reply : List Hart → ℕ × ℤ → List Hart
with_reply harts reply =
    let hart = slice_index_or harts reply.0 no_hart in
    slice_set harts reply.0 (record hart { regs = slice_set hart.regs 10 (word reply.1) })

-- the replies, one after another
abbrev pub with_replies : List (ℕ × ℤ) → List Hart → List Hart
with_replies [] harts = harts
with_replies (reply ∷ replies) harts = with_replies replies (with_reply harts reply)

-- the replies of released processes, and then the caller's
abbrev pub and_callers : Answer → ℕ → List (ℕ × ℤ) → List (ℕ × ℤ)
and_callers (Returns value) caller replies = replies ++ (caller, value) ∷ []
and_callers Waits caller replies = replies
and_callers Gone caller replies = replies
and_callers Panics caller replies = replies
and_callers Silent caller replies = replies

abbrev pub replies_of : CallResult → List (ℕ × ℤ)
replies_of result = and_callers result.answer result.call.state.tables.current result.call.released

-- the line of a reply
abbrev pub return_line : ℕ × ℤ → TranscriptLine
return_line reply = Return reply.0 reply.1

-- the line of a switch
abbrev pub switched : ℕ → ℕ → List TranscriptLine
switched was is = if was == is then [] else Switch is ∷ []

-- what an event prints, the state after it, and whether the kernel panicked
pub record EventResult : Type 0 where
  pub lines : List TranscriptLine
  pub state : Xinu
  pub panics : Bool

-- an event that changes and prints nothing
abbrev pub nothing_happens : Xinu → EventResult
nothing_happens s = record { lines = []; state = s; panics = false }

-- whether an answer is a panic
abbrev pub is_panic : Answer → Bool
is_panic Panics = true
is_panic (Returns value) = false
is_panic Waits = false
is_panic Gone = false
is_panic Silent = false

-- What is printed of replies and a switch after the first lines, and the state with these replies and tables.
abbrev pub event_result : ℕ → List TranscriptLine → List (ℕ × ℤ) → Tables → Xinu → Bool → EventResult
event_result was first replies tables s panics = record {
  lines = first ++ map return_line replies ++ switched was tables.current;
  state = record s { tables = tables; harts = with_replies replies s.harts };
  panics = panics;
}

-- The end of an event: the resched, the replies and the line of the switch, after the first lines.
abbrev pub end_of_event : ℕ → List TranscriptLine → CallResult → EventResult
end_of_event was first result =
    event_result was first (replies_of result) (closed result) result.call.state (is_panic result.answer)
