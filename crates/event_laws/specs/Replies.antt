-- Which answers tell that a call was refused, and what else a call that waited answers.
use Rattle.std.specs.Prelude.{◌≡◌, ◌≢◌, ℕ, ◌≤◌, false, List, [], ◌∷◌, Option, None, Some, option_map, slice_set, ℤ}
use Rattle.xinu_base.specs.Constants.{SYSERR}
use Rattle.xinu_base.specs.declared.lines.FileMoment.TheVariants.{Finished}
use Rattle.xinu_base.specs.declared.lines.TranscriptLine.{TranscriptLine}
use Rattle.xinu_base.specs.declared.lines.TranscriptLine.TheVariants as line
use Rattle.xinu_base.specs.declared.processes.Rest.{Rest}
use Rattle.xinu_base.specs.declared.processes.Rest.TheVariants.{Nothing, Receive, Timed, SelfSuspend, PtSend, PtRecv, Disk}
use Rattle.xinu_base.specs.declared.registers.Outcome.TheVariants.{Call}
use Rattle.event_laws.specs.Ownership.GivingAway.{next}
use Rattle.xinu_model.specs.Calls.{calls, called}
use Rattle.xinu_model.specs.Events.{call_of, with_executed}
use Rattle.xinu_model.specs.Isa.Effects.{following}
use Rattle.xinu_model.specs.Machine.{Xinu, Answer, Returns, current_hart, refused}
use Rattle.xinu_model.specs.Messages.{held}
use Rattle.xinu_model.specs.Ports.Queues.{PortQueue, is_stale, most_nodes, nodes, port_at, queued}
use Rattle.xinu_model.specs.Rows.{ReplyKind, Status, Address, Priority, Count, Message, PortMessage, CallRow, found_in}
use Rattle.xinu_model.specs.Semaphores.Counts.{count_of}
use Rattle.xinu_model.specs.Tables.{process_at, semaphore_at}
use Rattle.xinu_model.specs.Words.{signed, word}

-- the first of some messages
abbrev pub first_of : List ℕ → Option ℕ
first_of [] = None
first_of (message ∷ messages) = Some message

-- What a call of this kind answers of the state, unless it is refused: the priority of a process, the count of a semaphore, the message that
-- the caller holds, or the first message of a port. A status, a number or an address is never -1.
abbrev pub value_of : ReplyKind → (ℕ → ℕ) → Xinu → Option ℤ
value_of Priority a s = Some (process_at s.tables (a 0)).priority
value_of Count a s = Some (count_of (semaphore_at s.tables (a 0)))
value_of Message a s = option_map signed (held s)
value_of PortMessage a s = option_map signed (first_of (queued (port_at s.parts.ports (a 0)).queue))
value_of Status a s = None
value_of Address a s = None

-- the same of a row, if there is one
abbrev pub row_value : Option CallRow → (ℕ → ℕ) → Xinu → Option ℤ
row_value None a s = None
row_value (Some r) a s = value_of r.reply a s

-- and of the call of a number
abbrev pub value_told : ℕ → (ℕ → ℕ) → Xinu → Option ℤ
value_told number a s = row_value (found_in calls number) a s

-- The answer is the first message that a port holds.
abbrev pub AnswersFirst : Option PortQueue → Answer → Type 0
AnswersFirst queue answer = (message : ℕ) × (messages : List ℕ) × (queued queue ≡ message ∷ messages) × (answer ≡ Returns (signed message))

-- The next thing that the current process does is a call.
pub record IsCalling (old : Xinu) : Type 0 where
  pub runs : old.tables.current ≢ 0
  pub rest : (process_at old.tables old.tables.current).rest ≡ Nothing
  pub call : (next old).outcome ≡ Call

-- the call that it makes is refused
abbrev pub IsRefused : Xinu → Type 0
IsRefused old =
    let call = call_of (current_hart old) in
    called call.number call.args (with_executed (next old) old) ≡ refused (with_executed (next old) old)

-- What an event leaves and prints in which a call is refused: of the state the caller's a0 and pc alone are changed, and the lines are that
-- of the call and that of its reply.
pub record LeavesRefused (old : Xinu) (printed : List TranscriptLine) (new : Xinu) : Type 0 where
  pub tables : new.tables ≡ old.tables
  pub parts : new.parts ≡ old.parts
  pub memory : new.memory ≡ old.memory
  pub harts : new.harts ≡ slice_set old.harts old.tables.current (record { regs = slice_set (current_hart old).regs 10 (word SYSERR); pc = following (current_hart old) })
  pub lines : printed ≡ line.Call old.tables.current (call_of (current_hart old)) ∷ line.Return old.tables.current SYSERR ∷ []

-- The same of an event in which a call on files takes effect as it is made, and is refused then: it has a line of its own, before the reply.
pub record LeavesRefusedEffect (old : Xinu) (printed : List TranscriptLine) (new : Xinu) : Type 0 where
  pub tables : new.tables ≡ old.tables
  pub parts : new.parts ≡ old.parts
  pub memory : new.memory ≡ old.memory
  pub harts : new.harts ≡ slice_set old.harts old.tables.current (record { regs = slice_set (current_hart old).regs 10 (word SYSERR); pc = following (current_hart old) })
  pub lines : printed ≡ line.Call old.tables.current (call_of (current_hart old)) ∷ line.File old.tables.current Finished ∷ line.Return old.tables.current SYSERR ∷ []

-- What is left of the call is a send whose ticket isn't stale, while all ports together hold as many messages as they can.
abbrev pub IsFullSend : Rest → Xinu → Type 0
IsFullSend (PtSend ticket message) s = (is_stale ticket s.parts.ports ≡ false) × (most_nodes ≤ nodes s.parts.ports)
IsFullSend _ s = ⊥

-- The current process calls `ptsend`, while all ports together hold as many messages as they can.
pub record IsFullCall (old : Xinu) : Type 0 where
  pub calling : IsCalling old
  pub number : (call_of (current_hart (with_executed (next old) old))).number ≡ 34
  pub full : most_nodes ≤ nodes old.parts.ports

-- What a call that waited answers as it goes on, if it isn't refused: the message that came, the priority of a process that suspended itself, the
-- first message of a port, or the reply that a completion kept for it. The others answer what they counted, read or took.
abbrev pub value_kept : Rest → Xinu → Option ℤ
value_kept Receive s = option_map signed (held s)
value_kept Timed s = option_map signed (held s)
value_kept SelfSuspend s = Some (process_at s.tables s.tables.current).priority
value_kept (PtRecv ticket) s = option_map signed (first_of (queued (port_at s.parts.ports ticket.port).queue))
value_kept (Disk reply) s = reply
value_kept _ s = None
