-- Files as processes call them, and the good completions of their disk (book, chapter 19, `lfilesys.h`).
use Rattle.std.specs.Prelude.{ℕ, ◌+◌, List, [], ◌∷◌, map, Option, Some, None, unwrap_or, ℤ}
use Rattle.xinu_base.specs.declared.lines.TranscriptLine.{TranscriptLine}
use Rattle.xinu_base.specs.declared.lines.TranscriptLine.TheVariants as line
use Rattle.xinu_base.specs.declared.processes.Rest.TheVariants.{Disk}
use Rattle.xinu_base.specs.declared.processes.State.TheVariants.{Waiting}
use Rattle.xinu_model.specs.Files.Calls.{FileCall}
use Rattle.xinu_model.specs.Files.Work.{FileRequest, FileWork, FileNote, FileStep, calls_completed, least_effects, enqueued, issued}
use Rattle.xinu_model.specs.Machine.{Xinu, Answer, Returns, Silent, CallState, CallResult, EventResult, start, refused, blocked, nothing_happens, end_of_event}
use Rattle.xinu_model.specs.RawDisk.Calls.{reply_kept}
use Rattle.xinu_model.specs.Tables.{InSemaphore}

-- the semaphore on which the callers of files wait, without a token
abbrev pub LF_SEM : ℕ
LF_SEM = 3

-- the files of a state with the calls on them, and the state with others
abbrev pub files_of : Xinu → FileWork
files_of s = s.parts.devices.files

abbrev pub with_files : FileWork → Xinu → Xinu
with_files w s = record s { parts = record s.parts { devices = record s.parts.devices { files = w } } }

-- the current process's call, with the address of its bytes
abbrev pub request_for : FileCall → ℕ → Xinu → FileRequest
request_for call at s = record { caller = Some s.tables.current; call = call; at = at }

-- the caller makes a call, and waits until it takes effect
abbrev pub awaits_files : FileCall → ℕ → Xinu → CallResult
awaits_files call at s =
    blocked Waiting (Disk None) (InSemaphore LF_SEM) (with_files (enqueued (request_for call at s) s.memory (files_of s)) s)

-- The same of the call that its arguments say, with the address of its bytes; refused if they say none.
abbrev pub asks_files : Option FileCall → ℕ → Xinu → CallResult
asks_files None at s = refused s
asks_files (Some call) at s = awaits_files call at s

-- the calls and RAM before anything happens in an event, and the state after it
abbrev pub file_step : Xinu → FileStep
file_step s = record { work = files_of s; memory = s.memory; notes = [] }

abbrev pub with_step : FileStep → Xinu → Xinu
with_step x s = record (with_files x.work s) { memory = x.memory }

-- the line of what happened to a call; of one whose caller was killed it names process 0
abbrev pub file_line : FileNote → TranscriptLine
file_line n = line.File (unwrap_or n.caller 0) n.moment

-- the caller of a call that took effect becomes ready, and its reply is kept for it
abbrev pub told : Option ℤ → Option ℕ → CallState → CallState
told None caller d = d
told (Some reply) caller d = reply_kept caller reply d

abbrev pub all_told : List FileNote → CallState → CallState
all_told [] d = d
all_told (n ∷ notes) d = all_told notes (told n.reply n.caller d)

-- Some calls took effect, or the first had a turn.
abbrev pub after_step : FileStep → Xinu → CallState
after_step x s = all_told x.notes (start (with_step x s))

abbrev pub completing : FileStep → Xinu → CallResult
completing x s = record { call = after_step x s; answer = Silent }

-- the event in which the disk completes well, with these calls under way
abbrev pub completed_in : List FileRequest → ℕ → Xinu → EventResult
completed_in [] choice s = nothing_happens s
completed_in (a ∷ calls) choice s =
    let x = calls_completed (least_effects (a ∷ calls) (files_of s) + choice) (file_step s) in
    end_of_event s.tables.current (map file_line x.notes) (completing x s)

-- A good completion of the files' disk, at which this many calls more take effect than have to.
abbrev pub files_complete : ℕ → Xinu → EventResult
files_complete choice s = completed_in (files_of s).calls choice s

-- the answer to the one call that took effect as it was made
abbrev pub answer_kept : Option ℤ → Answer
answer_kept None = Silent
answer_kept (Some reply) = Returns reply

abbrev pub answer_told : List FileNote → Answer
answer_told [] = Silent
answer_told (n ∷ notes) = answer_kept n.reply

-- A call takes effect as it is made: its caller doesn't wait.
abbrev pub at_once : FileRequest → Xinu → CallResult
at_once a s =
    let x = issued 1 a s.memory (files_of s) in record { call = start (with_step x s); answer = answer_told x.notes }
