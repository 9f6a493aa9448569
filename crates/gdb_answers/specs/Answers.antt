-- What each packet that looks is answered, by the state of the run and the process that is looked at.
use Rattle.std.specs.Prelude.{ℕ, List, [], Option, Some, None, codes}
use Rattle.gdb_answers.specs.Checksums.{checksum_text}
use Rattle.gdb_answers.specs.Descriptions.{features, part}
use Rattle.gdb_answers.specs.Registers.{hart_of, memory_text, register_text, registers_text}
use Rattle.gdb_answers.specs.Threads.{alive_text, thread_list}
use Rattle.gdb_packets.specs.declared.commands.Command.{Command}
use Rattle.gdb_packets.specs.declared.commands.Command.TheVariants as command
use Rattle.gdb_packets.specs.declared.commands.Object.{Object}
use Rattle.gdb_packets.specs.declared.commands.Object.TheVariants as object
use Rattle.xinu_model.specs.Machine.{Xinu}

-- what the program supports
abbrev pub supported : List ℕ
supported = codes "PacketSize=4000;QStartNoAckMode+;qXfer:features:read+;qXfer:threads:read+;ReverseStep+;ReverseContinue+;vContSupported+"

-- what is always answered the same: a change is refused, and a name that isn't known has the empty answer
abbrev pub fixed : Command → Option (List ℕ)
fixed command.Change = Some (codes "E01")
fixed command.Malformed = Some (codes "E01")
fixed command.Unknown = Some []
fixed command.NoAcks = Some (codes "OK")
fixed command.Attached = Some (codes "1")
fixed command.Resumptions = Some (codes "vCont;c;C;s;S")
fixed command.Supported = Some supported
fixed _ = None

-- the text of an object that is read in parts
abbrev pub object_text : Xinu → Object → List ℕ
object_text s object.Features = features
object_text s object.Threads = thread_list s.tables

-- the answer that depends on the state, if process p is looked at
abbrev pub state_answer : Xinu → ℕ → Command → Option (List ℕ)
state_answer s p command.Registers = Some (registers_text (hart_of s p))
state_answer s p (command.Register n) = Some (register_text (hart_of s p) n)
state_answer s p (command.Memory address count) = Some (memory_text s.memory address count)
state_answer s p (command.Checksum address count) = Some (checksum_text s.memory address count)
state_answer s p (command.IsAlive thread) = Some (alive_text s.tables thread)
state_answer s p (command.Read object at count) = Some (part (object_text s object) at count)
state_answer s p _ = None

-- the first of two answers that there is
abbrev pub or_else : Option (List ℕ) → Option (List ℕ) → Option (List ℕ)
or_else (Some text) other = Some text
or_else None other = other

-- the answer in a state, if process p is looked at; there is none to a packet that moves the run or the session
abbrev pub answer : Xinu → ℕ → Command → Option (List ℕ)
answer s p command = or_else (fixed command) (state_answer s p command)
