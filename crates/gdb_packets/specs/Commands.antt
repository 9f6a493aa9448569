-- What a packet asks for: tables of the names with which packets begin.
use Rattle.std.specs.Prelude.{ℕ, List, [], ◌∷◌, Option, Some, None, codes, unwrap_or}
use Rattle.gdb_packets.specs.Actions.{resumption}
use Rattle.gdb_packets.specs.Digits.{bytes_of}
use Rattle.gdb_packets.specs.Names.{Row, by_tables, rest_after}
use Rattle.gdb_packets.specs.Operands.{alone, always, of_number, of_threads, of_two}
use Rattle.gdb_packets.specs.declared.commands.Command.{Command}
use Rattle.gdb_packets.specs.declared.commands.Command.TheVariants as command
use Rattle.gdb_packets.specs.declared.commands.Object.TheVariants as object
use Rattle.gdb_packets.specs.declared.commands.PointKind.{PointKind}
use Rattle.gdb_packets.specs.declared.commands.PointKind.TheVariants as kind
use Rattle.gdb_packets.specs.declared.commands.Threads.TheVariants as threads

-- packets that look at the run
abbrev pub looks : List Row
looks =
    (codes "?", alone command.Why)
    ∷ (codes "g", alone command.Registers)
    ∷ (codes "p", of_number command.Register)
    ∷ (codes "m", of_two command.Memory)
    ∷ (codes "Hg", of_threads command.Look)
    ∷ (codes "Hc", of_threads command.Go)
    ∷ (codes "T", of_number command.IsAlive)
    ∷ []

-- packets that would change the state of the run
abbrev pub changes : List Row
changes =
    (codes "G", always command.Change)
    ∷ (codes "P", always command.Change)
    ∷ (codes "M", always command.Change)
    ∷ (codes "X", always command.Change)
    ∷ []

-- the run is to stop, or no longer to stop, at so many bytes from an address on
abbrev pub set : PointKind → ℕ → ℕ → Command
set kind at count = command.Set (record { kind = kind; at = at; count = count })

abbrev pub clear : PointKind → ℕ → ℕ → Command
clear kind at count = command.Clear (record { kind = kind; at = at; count = count })

-- packets that say where the run is to stop
abbrev pub points : List Row
points =
    (codes "Z0,", of_two (set kind.Break))
    ∷ (codes "Z1,", of_two (set kind.Break))
    ∷ (codes "Z2,", of_two (set kind.Write))
    ∷ (codes "z0,", of_two (clear kind.Break))
    ∷ (codes "z1,", of_two (clear kind.Break))
    ∷ (codes "z2,", of_two (clear kind.Write))
    ∷ []

-- packets that let the run go on, or back
abbrev pub moves : List Row
moves =
    (codes "s", alone (command.Step threads.Any))
    ∷ (codes "S", always (command.Step threads.Any))
    ∷ (codes "c", alone command.Continue)
    ∷ (codes "C", always command.Continue)
    ∷ (codes "bs", alone command.StepBack)
    ∷ (codes "bc", alone command.ContinueBack)
    ∷ (codes "vCont?", alone command.Resumptions)
    ∷ (codes "vCont;", resumption)
    ∷ []

-- packets that end the session
abbrev pub endings : List Row
endings =
    (codes "vKill", always command.Kill)
    ∷ (codes "k", always command.Kill)
    ∷ (codes "D", always command.Detach)
    ∷ []

-- packets that ask about the program that answers
abbrev pub queries : List Row
queries =
    (codes "qSupported", always command.Supported)
    ∷ (codes "QStartNoAckMode", alone command.NoAcks)
    ∷ (codes "qAttached", always command.Attached)
    ∷ (codes "qCRC:", of_two command.Checksum)
    ∷ (codes "qC", alone command.CurrentThread)
    ∷ (codes "qRcmd,", always command.Monitor)
    ∷ (codes "qXfer:features:read:target.xml:", of_two (command.Read object.Features))
    ∷ (codes "qXfer:threads:read::", of_two (command.Read object.Threads))
    ∷ []

-- what a packet asks for
abbrev pub command_of : List ℕ → Command
command_of payload =
    unwrap_or
    (by_tables (looks ∷ changes ∷ points ∷ moves ∷ endings ∷ queries ∷ []) payload)
    command.Unknown

-- the words after gdb's `monitor`, if digits write them
abbrev pub words_by : Option (List ℕ) → Option (List ℕ)
words_by None = None
words_by (Some digits) = bytes_of digits

abbrev pub monitor_words : List ℕ → Option (List ℕ)
monitor_words payload = words_by (rest_after (codes "qRcmd,") payload)
