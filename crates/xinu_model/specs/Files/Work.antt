-- Calls on files under way, one at a time in the order in which they were made. When the first takes effect is the machine's one free
-- choice.
use Rattle.std.specs.Prelude.{ℕ, zero, suc, ◌+◌, ◌*◌, nat_lt, if◌then◌else◌, List, [], ◌∷◌, ◌++◌, length, Option, Some, None, ℤ}
use Rattle.xinu_base.specs.declared.lines.FileMoment.{FileMoment}
use Rattle.xinu_base.specs.declared.lines.FileMoment.TheVariants.{Turn, Finished, Next}
use Rattle.xinu_model.specs.Files.Calls.{FileCall, Open, Delete, Close, Read, Write, Getc, Putc, Seek, Truncate, Size, file_effect}
use Rattle.xinu_model.specs.Files.Room.{data_blocks, index_blocks}
use Rattle.xinu_model.specs.Files.Stored.{file_named, bytes_in}
use Rattle.xinu_model.specs.Files.Systems.{OpenFile, FileSystem, open_at, open_bytes}
use Rattle.xinu_model.specs.Memory.{bytes_from, with_bytes}
use Rattle.xinu_model.specs.RawDisk.Callers as callers

-- A call under way: who waits for it, unless that was killed; the call; and the address of its bytes in RAM.
pub record FileRequest : Type 0 where
  pub caller : Option ℕ
  pub call : FileCall
  pub at : ℕ

-- The file system, and the calls under way in their order; of the first, how many good completions of the disk it has had, and the bytes
-- of its write, as they were in RAM when it became the first. If there is no call, those are 0 and nothing.
pub record FileWork : Type 0 where
  pub system : FileSystem
  pub calls : List FileRequest
  pub turns : ℕ
  pub bytes : List ℕ

-- What happened to a call: who made it, if that lives; whether it had a turn or took effect; and its reply, if it took effect.
pub record FileNote : Type 0 where
  pub caller : Option ℕ
  pub moment : FileMoment
  pub reply : Option ℤ

-- The calls under way and RAM in the middle of an event, and what has happened in it.
pub record FileStep : Type 0 where
  pub work : FileWork
  pub memory : List ℕ
  pub notes : List FileNote

-- how many bytes a call takes or puts
abbrev pub byte_count : FileCall → ℕ
byte_count (Read d n) = n
byte_count (Write d n) = n
byte_count (Getc d) = 1
byte_count (Putc d b) = 1
byte_count _ = 0

-- the size of the file that a call names or has open
abbrev pub size_at : Option OpenFile → FileSystem → ℕ
size_at None s = 0
size_at (Some f) s = length (open_bytes f s)

abbrev pub size_for : FileCall → FileSystem → ℕ
size_for (Open name mode) s = length (bytes_in (file_named name s.files))
size_for (Delete name) s = length (bytes_in (file_named name s.files))
size_for (Close d) s = size_at (open_at s d) s
size_for (Read d n) s = size_at (open_at s d) s
size_for (Write d n) s = size_at (open_at s d) s
size_for (Getc d) s = size_at (open_at s d) s
size_for (Putc d b) s = size_at (open_at s d) s
size_for (Seek d n) s = size_at (open_at s d) s
size_for (Truncate d) s = size_at (open_at s d) s
size_for (Size d) s = size_at (open_at s d) s

-- The bound: a call that is the first takes effect after at most this many good completions.
abbrev pub most_turns : FileCall → FileSystem → ℕ
most_turns call s =
    32 + 8 * (data_blocks (size_for call s) + index_blocks (size_for call s) + data_blocks (byte_count call))

-- the bytes of a write in RAM
abbrev pub bytes_written : FileCall → ℕ → List ℕ → List ℕ
bytes_written (Write d n) at memory = bytes_from memory at n
bytes_written _ at memory = []

-- the first of these calls becomes the first, with its bytes
abbrev pub with_first : List FileRequest → List ℕ → FileSystem → FileWork
with_first [] memory s = record { system = s; calls = []; turns = 0; bytes = [] }
with_first (a ∷ calls) memory s =
    record { system = s; calls = a ∷ calls; turns = 0; bytes = bytes_written a.call a.at memory }

-- the bytes of a read go to RAM, if its caller lives
abbrev pub copied : Option ℕ → ℕ → List ℕ → List ℕ → List ℕ
copied None at bytes memory = memory
copied (Some p) at bytes memory = with_bytes memory at (length bytes) bytes

-- a call took effect, or had a turn
abbrev pub took_effect : FileRequest → FileMoment → ℤ → FileNote
took_effect a moment reply = record { caller = a.caller; moment = moment; reply = Some reply }

abbrev pub had_turn : FileRequest → FileNote
had_turn a = record { caller = a.caller; moment = Turn; reply = None }

-- the first of the calls takes effect, and the next one becomes the first
abbrev pub first_effect : List FileRequest → FileMoment → FileStep → FileStep
first_effect [] moment x = x
first_effect (a ∷ calls) moment x =
    let e = file_effect a.call x.work.bytes x.work.system in
    let memory = copied a.caller a.at e.bytes x.memory in
    record { work = with_first calls memory e.system; memory = memory; notes = x.notes ++ took_effect a moment e.reply ∷ [] }

-- this many further calls take effect, each as it becomes the first
abbrev pub next_effects : ℕ → FileStep → FileStep
next_effects zero x = x
next_effects (suc k) x = next_effects k (first_effect x.work.calls Next x)

-- the first call has a turn
abbrev pub turned : List FileRequest → FileStep → FileStep
turned [] x = x
turned (a ∷ calls) x = record x { work = record x.work { turns = x.work.turns + 1 }; notes = x.notes ++ had_turn a ∷ [] }

-- A good completion of the disk, at which this many calls take effect; if none does, the first has a turn. A failed one does nothing.
abbrev pub calls_completed : ℕ → FileStep → FileStep
calls_completed zero x = turned x.work.calls x
calls_completed (suc k) x = next_effects k (first_effect x.work.calls Finished x)

-- at least this many calls take effect at a good completion; at most all do
abbrev pub least_effects : List FileRequest → FileWork → ℕ
least_effects [] w = 0
least_effects (a ∷ calls) w = if nat_lt (w.turns + 1) (most_turns a.call w.system) then 0 else 1

abbrev pub most_effects : FileWork → ℕ
most_effects w = length w.calls

-- a call goes after the others; if there is none it becomes the first
abbrev pub queued_after : List FileRequest → FileRequest → List ℕ → FileWork → FileWork
queued_after [] a memory w = with_first (a ∷ []) memory w.system
queued_after (b ∷ calls) a memory w = record w { calls = (b ∷ calls) ++ a ∷ [] }

abbrev pub enqueued : FileRequest → List ℕ → FileWork → FileWork
enqueued a memory w = queued_after w.calls a memory w

-- A call is made: it waits, or takes effect at once, which only one that becomes the first may do.
abbrev pub issued : ℕ → FileRequest → List ℕ → FileWork → FileStep
issued zero a memory w = record { work = enqueued a memory w; memory = memory; notes = [] }
issued (suc choice) a memory w =
    first_effect (a ∷ []) Finished (record { work = enqueued a memory w; memory = memory; notes = [] })

-- at most this many calls take effect as one is made
abbrev pub most_at_issue : List FileRequest → ℕ
most_at_issue [] = 1
most_at_issue (a ∷ calls) = 0

-- a call without its caller
abbrev pub orphaned_call : FileRequest → FileRequest
orphaned_call a = record a { caller = None }

-- the living callers of calls
abbrev pub callers_waiting : List FileRequest → List ℕ
callers_waiting calls = callers.callers (λ (a : FileRequest). a.caller) calls

-- p was killed
abbrev pub calls_given_up : ℕ → FileWork → FileWork
calls_given_up p w = record w { calls = callers.given_up (λ (a : FileRequest). a.caller) orphaned_call p w.calls }
