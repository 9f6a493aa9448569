-- Why a call is refused later: as one that waited goes on, as a call on files takes effect, and as the raw disk completes a request.
use Rattle.std.specs.Prelude.{◌≢◌, ℕ, ◌==◌, nat_le, nat_lt, Bool, true, false, not, ◌&&◌, List, [], ◌∷◌, length, Option, None, Some, is_some, ℤ, pos, int_lt}
use Rattle.event_laws.specs.Replies.{first_of}
use Rattle.refusal_reasons.specs.Causes.{cause, first_reason, is_minus_one, is_minus_one_message, is_negative}
use Rattle.refusal_reasons.specs.declared.reasons.Cause.{Cause}
use Rattle.refusal_reasons.specs.declared.reasons.Reason.{Reason}
use Rattle.refusal_reasons.specs.declared.reasons.Reason.TheVariants as why
use Rattle.xinu_base.specs.declared.files.OpenMode.{OpenMode}
use Rattle.xinu_base.specs.declared.processes.PortTicket.{PortTicket}
use Rattle.xinu_base.specs.declared.processes.Rest.{Rest}
use Rattle.xinu_base.specs.declared.processes.Rest.TheVariants as rest
use Rattle.xinu_model.specs.Files.Calls.{FileCall, Open, Delete, Close, Read, Write, Getc, Putc, Seek, Truncate, Size}
use Rattle.xinu_model.specs.Files.Constants.{LF_NUM_DIR_ENT, Nlfl}
use Rattle.xinu_model.specs.Files.Stored.{file_named}
use Rattle.xinu_model.specs.Files.Systems.{OpenFile, FileSystem, free_device, is_open, open_at, open_bytes}
use Rattle.xinu_model.specs.Files.Writing.{fitting, have_room}
use Rattle.xinu_model.specs.Machine.{Xinu}
use Rattle.xinu_model.specs.Messages.{held}
use Rattle.xinu_model.specs.Pools.Buffers.{pool_at}
use Rattle.xinu_model.specs.Ports.Queues.{is_stale, port_at, queued}
use Rattle.xinu_model.specs.Tables.{process_at}

-- whether there is nothing in a list
abbrev pub is_empty : List ℕ → Bool
is_empty [] = true
is_empty (x ∷ xs) = false

-- whether a reply was kept, and is -1
abbrev pub is_minus_one_reply : Option ℤ → Bool
is_minus_one_reply None = false
is_minus_one_reply (Some reply) = is_minus_one reply

-- the port of a call was reset, deleted or made anew since the call began
abbrev pub renewed : PortTicket → Xinu → Cause
renewed ticket s = cause why.PortRenewed (is_stale ticket s.parts.ports)

-- What is left of a call, as it goes on. A pool or a port without what was waited for is never reached in a sound state.
abbrev pub later_causes : Rest → Xinu → List Cause
later_causes rest.Receive s = cause why.MessageIsMinusOne (is_minus_one_message (held s)) ∷ []
later_causes rest.Timed s = cause why.MessageIsMinusOne (is_minus_one_message (held s)) ∷ []
later_causes rest.SelfSuspend s = cause why.PriorityIsMinusOne (is_minus_one (process_at s.tables s.tables.current).priority) ∷ []
later_causes (rest.GetBuf i) s = cause why.NoFreeBuffer (is_empty (pool_at s.parts.pools i).free) ∷ []
later_causes (rest.PtSend ticket message) s = renewed ticket s ∷ []
later_causes (rest.PtRecv ticket) s =
    let messages = queued (port_at s.parts.ports ticket.port).queue in
    renewed ticket s ∷ cause why.NoMessage (is_empty messages) ∷ cause why.MessageIsMinusOne (is_minus_one_message (first_of messages)) ∷ []
later_causes (rest.Disk reply) s = cause why.DiskRefused (is_minus_one_reply reply) ∷ []
later_causes _ s = []

-- Why a call that waited is answered -1 as it goes on, if it is.
abbrev pub later_reason : Rest → Xinu → Option Reason
later_reason left s = first_reason (later_causes left s)

-- In its next step the current process goes on in a call: it isn't the null process, and something is left of its call.
pub record GoesOn (s : Xinu) : Type 0 where
  pub runs : s.tables.current ≢ 0
  pub left : (process_at s.tables s.tables.current).rest ≢ rest.Nothing

-- whether a device has a file open that may be read, or written
abbrev pub may_read : Option OpenFile → Bool
may_read None = false
may_read (Some f) = f.may_read

abbrev pub may_write : Option OpenFile → Bool
may_write None = false
may_write (Some f) = f.may_write

-- whether there is no room for the first of some bytes, or for one byte
abbrev pub has_no_room : List ℕ → Option OpenFile → FileSystem → Bool
has_no_room bytes None s = false
has_no_room bytes (Some f) s = nat_lt 0 (length bytes) && (fitting f bytes s == 0)

abbrev pub has_no_place : ℕ → Option OpenFile → FileSystem → Bool
has_no_place b None s = false
has_no_place b (Some f) s = not (have_room f (b ∷ []) s)

-- whether a position is beyond the end
abbrev pub is_beyond : ℤ → Option OpenFile → FileSystem → Bool
is_beyond n None s = false
is_beyond n (Some f) s = int_lt (pos (length (open_bytes f s))) n

-- `open`: a file that there is, or that there isn't
abbrev pub open_effect_causes : List ℕ → OpenMode → FileSystem → List Cause
open_effect_causes name mode s =
    let there = is_some (file_named name s.files) in
    cause why.FileIsOpen (is_open name s)
    ∷ cause why.SixOpen (nat_le Nlfl (free_device s.devices))
    ∷ cause why.FileExists (there && mode.only_new)
    ∷ cause why.NoFile (not there && mode.only_old)
    ∷ cause why.TooManyFiles (not there && nat_le LF_NUM_DIR_ENT (length s.files))
    ∷ []

-- the device has no file open
abbrev pub not_open : ℕ → FileSystem → Cause
not_open d s = cause why.NotOpen (not (is_some (open_at s d)))

-- A call on files as it takes effect, with its bytes if it writes.
abbrev pub effect_causes : FileCall → List ℕ → FileSystem → List Cause
effect_causes (Open name mode) bytes s = open_effect_causes name mode s
effect_causes (Delete name) bytes s = cause why.FileIsOpen (is_open name s) ∷ cause why.NoFile (not (is_some (file_named name s.files))) ∷ []
effect_causes (Close d) bytes s = not_open d s ∷ []
effect_causes (Read d n) bytes s = not_open d s ∷ cause why.NotReadable (not (may_read (open_at s d))) ∷ []
effect_causes (Write d n) bytes s =
    not_open d s ∷ cause why.NotWritable (not (may_write (open_at s d))) ∷ cause why.NoRoom (has_no_room bytes (open_at s d) s) ∷ []
effect_causes (Getc d) bytes s = not_open d s ∷ cause why.NotReadable (not (may_read (open_at s d))) ∷ []
effect_causes (Putc d b) bytes s =
    not_open d s ∷ cause why.NotWritable (not (may_write (open_at s d))) ∷ cause why.NoRoom (has_no_place b (open_at s d) s) ∷ []
effect_causes (Seek d n) bytes s =
    not_open d s ∷ cause why.NegativePosition (is_negative n) ∷ cause why.BeyondEnd (is_beyond n (open_at s d) s) ∷ []
effect_causes (Truncate d) bytes s = not_open d s ∷ cause why.NotWritable (not (may_write (open_at s d))) ∷ []
effect_causes (Size d) bytes s = not_open d s ∷ []

-- Why a call on files is answered -1 as it takes effect, if it is.
abbrev pub effect_reason : FileCall → List ℕ → FileSystem → Option Reason
effect_reason call bytes s = first_reason (effect_causes call bytes s)

-- Why a request of the raw disk is answered -1 by its completion, if it is.
abbrev pub completion_reason : Bool → Option Reason
completion_reason good = first_reason (cause why.CompletionFailed (not good) ∷ [])
