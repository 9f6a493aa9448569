-- The lines of a transcript as bytes, and the tables of a state as lines.
use Rattle.std.specs.Prelude.{ℕ, ◌+◌, nat_lt, ◌||◌, Bool, true, false, if◌then◌else◌, List, [], ◌∷◌, ◌++◌, map, length, take, Option, Some, None, slice_index_or, codes, ℤ}
use Rattle.std.specs.Fmt.{decimal, signed_decimal}
use Rattle.xinu_base.specs.Syscalls.{name_of, args_of, is_call}
use Rattle.xinu_base.specs.Names.{state_name, cause_name, end_name, moment_name, mode_name}
use Rattle.xinu_base.specs.Hexadecimal.{hex_byte, hex_of}
use Rattle.xinu_base.specs.declared.syscalls.Call.{Call}
use Rattle.xinu_base.specs.declared.lines.TranscriptLine.{TranscriptLine}
use Rattle.xinu_base.specs.declared.lines.TranscriptLine.TheVariants as line
use Rattle.xinu_base.specs.declared.processes.Process.{Process}
use Rattle.xinu_model.specs.Console.State.{Console}
use Rattle.xinu_model.specs.Devices.State.{Devices}
use Rattle.xinu_model.specs.Files.Constants.{LFILE0}
use Rattle.xinu_model.specs.Files.Rest.{is_busy}
use Rattle.xinu_model.specs.Files.Systems.{OpenFile, FileSystem, open_bytes}
use Rattle.xinu_model.specs.Heap.Cells.{free_blocks}
use Rattle.xinu_model.specs.Machine.{Xinu}
use Rattle.xinu_model.specs.Pools.Buffers.{BufferPool, held_in}
use Rattle.xinu_model.specs.Ports.Queues.{PortQueue, MessagePort}
use Rattle.xinu_base.specs.Texts.{before_zero}
use Rattle.xinu_model.specs.Semaphores.Counts.{count_of, is_images}
use Rattle.xinu_model.specs.Tables.{Semaphore, is_free}
use Rattle.xinu_model.specs.Words.{signed}

-- a field after a line, after a blank unless the line is empty
abbrev pub with_field : List ℕ → List ℕ → List ℕ
with_field [] field = field
with_field (b ∷ line) field = b ∷ line ++ 32 ∷ field

-- fields after a line, a blank between each two
abbrev pub with_fields : List ℕ → List (List ℕ) → List ℕ
with_fields line [] = line
with_fields line (field ∷ fields) = with_fields (with_field line field) fields

-- a word of 32 bits as a signed decimal number
abbrev pub signed_field : ℕ → List ℕ
signed_field n = signed_decimal (signed n)

-- a text, or a hyphen for the empty one
abbrev pub or_hyphen : List ℕ → List ℕ
or_hyphen [] = codes "-"
or_hyphen (b ∷ bytes) = b ∷ bytes

-- the name of a process in hexadecimal digits
abbrev pub name_field : List ℕ → List ℕ
name_field name = or_hyphen (hex_of (before_zero name))

-- the message that a process holds
abbrev pub message_field : Option ℕ → List ℕ
message_field None = codes "-"
message_field (Some message) = signed_field message

-- whether the output of the console is held
abbrev pub held_name : Bool → List ℕ
held_name true = codes "held"
held_name false = codes "run"

-- whether the file system is busy
abbrev pub busy_name : Bool → List ℕ
busy_name true = codes "busy"
busy_name false = codes "clean"

-- the name of a call and its arguments; of a number without a call the number
abbrev pub call_fields : Call → List (List ℕ)
call_fields call =
    if is_call call.number then name_of call.number ∷ map signed_field (take (args_of call.number) call.args)
    else codes "unknown" ∷ signed_field call.number ∷ []

-- the fields of a line
abbrev pub line_fields : TranscriptLine → List (List ℕ)
line_fields (line.Call p call) = codes "call" ∷ decimal p ∷ call_fields call
line_fields (line.File p moment) = codes "file" ∷ decimal p ∷ moment_name moment ∷ []
line_fields (line.Trap p cause) = codes "trap" ∷ decimal p ∷ cause_name cause ∷ []
line_fields (line.Return p value) = codes "ret" ∷ decimal p ∷ signed_decimal value ∷ []
line_fields (line.Con b) = codes "con" ∷ hex_byte b ∷ []
line_fields (line.Switch p) = codes "run" ∷ decimal p ∷ []
line_fields (line.Now ticks quantum) = codes "now" ∷ decimal ticks ∷ decimal quantum ∷ []
line_fields (line.Process p state priority parent message name) =
    codes "proc" ∷ decimal p ∷ state_name state ∷ signed_decimal priority ∷ decimal parent ∷ message_field message ∷ name_field name ∷ []
line_fields (line.Ready p key) = codes "ready" ∷ decimal p ∷ signed_decimal key ∷ []
line_fields (line.Semaphore sem count) = codes "sem" ∷ decimal sem ∷ signed_decimal count ∷ []
line_fields (line.Waiter sem p) = codes "wait" ∷ decimal sem ∷ decimal p ∷ []
line_fields (line.Sleeper p wake) = codes "sleep" ∷ decimal p ∷ decimal wake ∷ []
line_fields (line.Free address bytes) = codes "free" ∷ decimal address ∷ decimal bytes ∷ []
line_fields (line.Pool i size free held) = codes "pool" ∷ decimal i ∷ decimal size ∷ decimal free ∷ decimal held ∷ []
line_fields (line.Buffer i address) = codes "buf" ∷ decimal i ∷ decimal address ∷ []
line_fields (line.Port q seq messages) = codes "port" ∷ decimal q ∷ decimal seq ∷ decimal messages ∷ []
line_fields (line.Node q message) = codes "node" ∷ decimal q ∷ signed_field message ∷ []
line_fields (line.Console mode committed line output echo held) =
    codes "console" ∷ mode_name mode ∷ decimal committed ∷ decimal line ∷ decimal output ∷ decimal echo ∷ held_name held ∷ []
line_fields (line.Disk0 requests) = codes "disk0" ∷ decimal requests ∷ []
line_fields (line.OpenFile dev position size) = codes "lfile" ∷ decimal dev ∷ decimal position ∷ decimal size ∷ []
line_fields (line.Disk1 busy) = codes "disk1" ∷ busy_name busy ∷ []
line_fields (line.End end) = codes "end" ∷ end_name end ∷ []

-- a line as bytes
abbrev pub line_text : TranscriptLine → List ℕ
line_text line = with_fields [] (line_fields line) ++ 10 ∷ []

-- lines as bytes
abbrev pub text : List TranscriptLine → List ℕ
text [] = []
text (line ∷ lines) = line_text line ++ text lines

-- the byte that the console sent, if the line is of one
abbrev pub sent_byte : TranscriptLine → List ℕ
sent_byte (line.Con b) = b ∷ []
sent_byte _ = []

-- the bytes that the console sent
abbrev pub sent_bytes : List TranscriptLine → List ℕ
sent_bytes [] = []
sent_bytes (line ∷ lines) = sent_byte line ++ sent_bytes lines

-- what is printed of lines: all of them, or if the output is plain the bytes that the console sent
abbrev pub shown : Bool → List TranscriptLine → List ℕ
shown true lines = sent_bytes lines
shown false lines = text lines

-- the line of an entry of the process table, unless its number is free
abbrev pub process_line : ℕ → Process → Option ℕ → List TranscriptLine
process_line p x message =
    if is_free x.state then [] else line.Process p x.state x.priority x.parent message x.name ∷ []

-- the lines of the entries from number p on
abbrev pub process_lines : ℕ → List Process → List (Option ℕ) → List TranscriptLine
process_lines p [] messages = []
process_lines p (x ∷ processes) messages =
    process_line p x (slice_index_or messages p None) ++ process_lines (p + 1) processes messages

-- the line of an entry of the ready list
abbrev pub ready_line : ℕ × ℤ → TranscriptLine
ready_line entry = line.Ready entry.0 entry.1

-- whether a semaphore is shown: it is a process's own, or somebody waits on it
abbrev pub is_shown : Semaphore → Bool
is_shown x = is_images x.owner || nat_lt 0 (length x.waiters)

-- the lines of a semaphore and its waiters
abbrev pub semaphore_line : ℕ → Semaphore → List TranscriptLine
semaphore_line sem x =
    if is_shown x then line.Semaphore sem (count_of x) ∷ map (line.Waiter sem) x.waiters else []

-- the lines of the semaphores from number sem on
abbrev pub semaphore_lines : ℕ → List Semaphore → List TranscriptLine
semaphore_lines sem [] = []
semaphore_lines sem (x ∷ semaphores) = semaphore_line sem x ++ semaphore_lines (sem + 1) semaphores

-- the line of a sleeper
abbrev pub sleeper_line : ℕ × ℕ → TranscriptLine
sleeper_line entry = line.Sleeper entry.0 entry.1

-- the line of a free block of the heap
abbrev pub free_line : ℕ × ℕ → TranscriptLine
free_line block = line.Free block.0 block.1

-- the lines of a pool and its free buffers
abbrev pub pool_line : ℕ → BufferPool → List TranscriptLine
pool_line i pool =
    line.Pool i pool.size (length pool.free) (held_in pool) ∷ map (line.Buffer i) pool.free

-- the lines of the pools from number i on
abbrev pub pool_lines : ℕ → List BufferPool → List TranscriptLine
pool_lines i [] = []
pool_lines i (pool ∷ pools) = pool_line i pool ++ pool_lines (i + 1) pools

-- the lines of a port in use and its messages
abbrev pub port_line : ℕ → ℕ → Option PortQueue → List TranscriptLine
port_line q seq None = []
port_line q seq (Some queue) = line.Port q seq (length queue.messages) ∷ map (line.Node q) queue.messages

-- the lines of the ports from number q on
abbrev pub port_lines : ℕ → List MessagePort → List TranscriptLine
port_lines q [] = []
port_lines q (port ∷ ports) = port_line q port.seq port.queue ++ port_lines (q + 1) ports

-- the line of the console
abbrev pub console_line : Console → TranscriptLine
console_line c = line.Console c.mode (length c.committed) (length c.line) (length c.output) (length c.echo) c.is_held

-- the line of a file device, if it has a file open
abbrev pub open_file_line : ℕ → Option OpenFile → FileSystem → List TranscriptLine
open_file_line dev None s = []
open_file_line dev (Some f) s = line.OpenFile dev f.position (length (open_bytes f s)) ∷ []

-- the lines of the file devices from number dev on
abbrev pub open_file_lines : ℕ → List (Option OpenFile) → FileSystem → List TranscriptLine
open_file_lines dev [] s = []
open_file_lines dev (x ∷ devices) s = open_file_line dev x s ++ open_file_lines (dev + 1) devices s

-- the lines of the devices
abbrev pub device_lines : Devices → List TranscriptLine
device_lines d =
    console_line d.console
    ∷ line.Disk0 (length d.disk.requests)
    ∷ open_file_lines LFILE0 d.files.system.devices d.files.system ++ line.Disk1 (is_busy d.files) ∷ []

-- the tables of a state
abbrev pub tables_of : Xinu → List TranscriptLine
tables_of s =
    line.Now s.tables.ticks s.tables.quantum
    ∷ process_lines 0 s.tables.processes s.tables.messages
    ++ map ready_line s.tables.ready
    ++ semaphore_lines 0 s.tables.semaphores
    ++ map sleeper_line s.tables.sleepers
    ++ map free_line (free_blocks s.parts.heap)
    ++ pool_lines 0 s.parts.pools
    ++ port_lines 0 s.parts.ports
    ++ device_lines s.parts.devices
