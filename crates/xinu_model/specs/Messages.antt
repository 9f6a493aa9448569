-- Messages: each process has a slot for one word (book, chapter 8).
use Rattle.std.specs.Prelude.{ℕ, ◌+◌, max, Bool, true, false, not, if◌then◌else◌, ◌&&◌, slice_set, Option, Some, None, is_some, ℤ, pos, negsuc, List, [], ◌∷◌}
use Rattle.xinu_base.specs.Constants.{OK, TIMEOUT}
use Rattle.xinu_base.specs.declared.processes.Rest.TheVariants as rest
use Rattle.xinu_base.specs.declared.processes.State.{State}
use Rattle.xinu_base.specs.declared.processes.State.TheVariants.{Ready, Receiving, Timed}
use Rattle.xinu_model.specs.Machine.{Xinu, CallState, CallResult, start, with_tables, returns, refused, blocked, goes_on}
use Rattle.xinu_model.specs.Process.Scheduling.{in_state}
use Rattle.xinu_model.specs.Tables.{Tables, process_at, state_at, message_at, is_free, move_to, Nowhere, InReady, InSleepers}
use Rattle.xinu_model.specs.Words.{signed}
use Rattle.xinu_model.specs.Footprints.{on_tables}
use Rattle.xinu_model.specs.Rows.{Status, Message, CallRow, row}

-- whether a process of this state waits for a message
abbrev pub listens : State → Bool
listens Receiving = true
listens Timed = true
listens _ = false

-- whether p can be sent a message: it lives and holds none
abbrev pub can_get : ℕ → Tables → Bool
can_get p t = not (is_free (state_at t p)) && not (is_some (message_at t p))

-- p holds a message, and becomes ready if it waits for one
abbrev pub delivered : ℕ → ℕ → CallState → CallState
delivered p message d =
    let t = d.state.tables in
    if listens (state_at t p) then (record (with_tables (move_to p (in_state Ready (process_at t p)) (Some message) InReady t) d) { owes_resched = true })
    else with_tables (record t { messages = slice_set t.messages p (Some message) }) d

-- p is sent a message; a refusal is ignored
abbrev pub sent : ℕ → ℕ → CallState → CallState
sent p message d = if can_get p d.state.tables then delivered p message d else d

-- the caller's message is taken and answered; if it holds none it goes another way
abbrev pub received : Option ℕ → CallResult → Xinu → CallResult
received None otherwise s = otherwise
received (Some message) otherwise s = returns (start (goes_on None s)) (signed message)

-- the message that the caller holds
abbrev pub held : Xinu → Option ℕ
held s = message_at s.tables s.tables.current

-- call 21: p is sent a message; refused if p is free or holds one
abbrev pub send : ℕ → ℕ → Xinu → CallResult
send p message s =
    if can_get p s.tables then returns (delivered p message (start s)) OK else refused s

-- call 22: the caller's message, for which it waits
abbrev pub receive : Xinu → CallResult
receive s = received (held s) (blocked Receiving rest.Receive Nowhere s) s

-- call 23: the caller's message, or 0
abbrev pub recvclr : Xinu → CallResult
recvclr s = received (held s) (returns (start s) OK) s

-- call 24: the caller's message, for which it waits n ticks, at least one; refused if n is negative
abbrev pub recvtime : ℤ → Xinu → CallResult
recvtime (negsuc n) s = refused s
recvtime (pos n) s =
    received (held s) (blocked Timed rest.Timed (InSleepers (s.tables.ticks + max 1 n)) s) s

-- the call goes on: the message that came, or that the time ran out
abbrev pub go_on_receive : Xinu → CallResult
go_on_receive s = received (held s) (returns (start (goes_on None s)) TIMEOUT) s

-- the calls on messages
abbrev pub message_calls : List CallRow
message_calls =
    row 21 on_tables Status (λ a s. send (a 0) (a 1) s) ∷
    row 22 on_tables Message (λ a s. receive s) ∷
    row 23 on_tables Message (λ a s. recvclr s) ∷
    row 24 on_tables Message (λ a s. recvtime (signed (a 0)) s) ∷
    []
