-- The raw disk as processes call it, and its completions (book, chapter 18, `rdsread.c`, `rdswrite.c`, `rdscontrol.c`).
use Rattle.std.specs.Prelude.{ℕ, ◌==◌, Bool, ◌&&◌, true, if◌then◌else◌, List, [], length, Option, Some, None, ℤ, pos}
use Rattle.xinu_base.specs.declared.processes.Rest.TheVariants.{Disk}
use Rattle.xinu_base.specs.declared.processes.State.TheVariants.{Ready, Waiting}
use Rattle.xinu_model.specs.Files.Work.{copied}
use Rattle.xinu_model.specs.Machine.{Xinu, Silent, CallState, CallResult, EventResult, start, with_tables, refused, blocked, goes_on, nothing_happens, end_of_event}
use Rattle.xinu_model.specs.Memory.{in_ram, bytes_from}
use Rattle.xinu_model.specs.Messages.{held}
use Rattle.xinu_model.specs.RawDisk.Completions.{Served, raw_completed}
use Rattle.xinu_model.specs.RawDisk.Constants.{RD_BLKSIZ, RD_CTL_SIZE}
use Rattle.xinu_model.specs.RawDisk.Requests.{Request, RawDisk, has_block, requested}
use Rattle.xinu_model.specs.Semaphores.Calls.{answers}
use Rattle.xinu_model.specs.Tables.{process_at, message_at, InReady, InSemaphore, move_to}

-- the semaphore on which the callers of the raw disk wait, without a token
abbrev pub RD_SEM : ℕ
RD_SEM = 2

-- the raw disk of a state, and the state with another one
abbrev pub disk_of : Xinu → RawDisk
disk_of s = s.parts.devices.disk

abbrev pub with_disk : RawDisk → Xinu → Xinu
with_disk d s = record s { parts = record s.parts { devices = record s.parts.devices { disk = d } } }

-- the current process's request for a block, with the address of its bytes, and the bytes if they are written
abbrev pub request_of : Option (List ℕ) → ℕ → ℕ → Xinu → Request
request_of written at block s = record { caller = Some s.tables.current; at = at; block = block; written = written }

-- the caller makes a request, and waits until it is completed
abbrev pub awaits_disk : Option (List ℕ) → ℕ → ℕ → Xinu → CallResult
awaits_disk written at block s =
    blocked Waiting (Disk None) (InSemaphore RD_SEM) (with_disk (requested (request_of written at block s) (disk_of s)) s)

-- whether there is a block, and the bytes of one at an address are in RAM
abbrev pub may_request : ℕ → ℕ → Xinu → Bool
may_request at block s = in_ram at RD_BLKSIZ && has_block block (disk_of s)

-- `read`: a block to an address; refused if there is no such block or it would leave RAM, and if its own completion fails
abbrev pub disk_read : ℕ → ℕ → Xinu → CallResult
disk_read at block s = if may_request at block s then awaits_disk None at block s else refused s

-- `write`: a block from an address, with the bytes that are there as the call is made; refused as `read`
abbrev pub disk_write : ℕ → ℕ → Xinu → CallResult
disk_write at block s =
    if may_request at block s then awaits_disk (Some (bytes_from s.memory at RD_BLKSIZ)) at block s else refused s

-- `control`: how many blocks there are; refused if there is no such function
abbrev pub disk_control : ℕ → Xinu → CallResult
disk_control f s = if f == RD_CTL_SIZE then answers (pos (length (disk_of s).blocks)) s else refused s

-- The caller goes on with the reply that was kept for it. Who goes on has one, so the other case is never reached.
abbrev pub go_on_disk : Option ℤ → Xinu → CallResult
go_on_disk None s = record { call = start s; answer = Silent }
go_on_disk (Some reply) s = answers reply (goes_on (held s) s)

-- the caller of a request or a call on files becomes ready, and its reply is kept for it
abbrev pub keep_reply : ℕ → ℤ → CallState → CallState
keep_reply p reply d =
    let t = d.state.tables in
    record (with_tables (move_to p (record (process_at t p) { state = Ready; rest = Disk (Some reply) }) (message_at t p) InReady t) d) { owes_resched = true }

-- the same, if the caller lives
abbrev pub reply_kept : Option ℕ → ℤ → CallState → CallState
reply_kept None reply d = d
reply_kept (Some p) reply d = keep_reply p reply d

-- A request was served: its bytes go to RAM and its reply to its caller, if that lives.
abbrev pub after_served : Served → Xinu → CallState
after_served x s =
    let r = x.request in
    reply_kept r.caller x.reply (start (record (with_disk x.disk s) { memory = copied r.caller r.at x.bytes s.memory }))

abbrev pub serving : Served → Xinu → CallResult
serving x s = record { call = after_served x s; answer = Silent }

-- the event in which the raw disk completes a request, well or badly
abbrev pub served_in : Option Served → Xinu → EventResult
served_in None s = nothing_happens s
served_in (Some x) s = end_of_event s.tables.current [] (serving x s)

abbrev pub disk_completes : Bool → Xinu → EventResult
disk_completes good s = served_in (raw_completed good (disk_of s)) s
