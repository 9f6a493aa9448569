-- What the debugger's `monitor` asks for, and what it says.
use Rattle.std.specs.Prelude.{ℕ, ◌+◌, ◌-◌, ◌*◌, ◌&&◌, nat_lt, if◌then◌else◌, List, [], ◌∷◌, ◌++◌, take, drop, Option, Some, None, codes, slice_get}
use Rattle.std.specs.Fmt.{decimal}
use Rattle.std.specs.List.{flat_map}
use Rattle.std.specs.Str.{bytes_eq}
use Rattle.gdb_command.specs.declared.asked.Asked.{Asked}
use Rattle.gdb_command.specs.declared.asked.Asked.TheVariants as asked
use Rattle.gdb_packets.specs.Digits.{is_between}
use Rattle.printed_runs.specs.Names.{named_line}
use Rattle.replayed_run.specs.Replayed.{Replayed, is_at_end}
use Rattle.text_lines.specs.Lines.{lines_of}
use Rattle.xinu_base.specs.declared.events.Event.{Event}
use Rattle.xinu_base.specs.declared.events.Event.TheVariants as event
use Rattle.xinu_model.specs.Machine.{Xinu}
use Rattle.xinu_model.specs.Text.{tables_of, text}

-- a number, and a digit after it, if it is one and the number has 32 bits
abbrev pub one_more : ℕ → ℕ → Option ℕ
one_more n b = if is_between 48 57 b && nat_lt (10 * n + (b - 48)) 4294967296 then Some (10 * n + (b - 48)) else None

-- the number that decimal digits write after those of another one
abbrev pub count_after : Option ℕ → List ℕ → Option ℕ
count_after None digits = None
count_after (Some n) [] = Some n
count_after (Some n) (b ∷ digits) = count_after (one_more n b) digits

-- the number that decimal digits write, if there is a digit and the number has 32 bits
abbrev pub count_in : List ℕ → Option ℕ
count_in [] = None
count_in (b ∷ digits) = count_after (Some 0) (b ∷ digits)

-- so many events are to be taken, if a number is named
abbrev pub place_by : Option ℕ → Asked
place_by None = asked.Help
place_by (Some count) = asked.Goto count

-- to go to a place, if words ask for that
abbrev pub going_to : List ℕ → Asked
going_to words = if bytes_eq (take 5 words) (codes "goto ") then place_by (count_in (drop 5 words)) else asked.Help

-- what words ask for: help, if it is nothing else
abbrev pub asked_in : List ℕ → Asked
asked_in words =
    if bytes_eq words (codes "event") then asked.Event
    else if bytes_eq words (codes "tables") then asked.Tables
    else if bytes_eq words (codes "transcript") then asked.Transcript
    else going_to words

-- what is asked for by words, if digits write them
abbrev pub asked_by : Option (List ℕ) → Asked
asked_by None = asked.Help
asked_by (Some words) = asked_in words

-- what can be asked for
abbrev pub help : List ℕ
help = codes "monitor event\nmonitor tables\nmonitor transcript\nmonitor goto NUMBER\n"

-- the event that comes next, if any does
abbrev pub next_event : Replayed → Option Event
next_event r = if is_at_end r then None else slice_get r.events r.taken

-- the word of an event
abbrev pub event_word : Option Event → List ℕ
event_word None = codes "the end"
event_word (Some event.Step) = codes "step"
event_word (Some event.Tick) = codes "tick"
event_word (Some (event.Key byte)) = codes "type"
event_word (Some event.Tx) = codes "tx"
event_word (Some event.Disk0) = codes "disk0"
event_word (Some event.Disk1) = codes "disk1"
event_word (Some event.Fail0) = codes "fail0"
event_word (Some event.Fail1) = codes "fail1"
event_word (Some event.Dump) = codes "dump"

-- how many events were taken, and which comes next
abbrev pub event_text : Replayed → List ℕ
event_text r = decimal r.taken ++ codes " events were taken; next: " ++ event_word (next_event r) ++ codes "\n"

-- a line with the name of a process as a text after it, and a line feed
abbrev pub named_and_fed : List ℕ → List ℕ
named_and_fed line = named_line line ++ codes "\n"

-- the lines of a text so, none left out
unfoldable pub named_lines : List ℕ → List ℕ
named_lines text = flat_map named_and_fed (lines_of text)

-- the lines of the tables, with the names of the processes as texts
abbrev pub tables_text : Xinu → List ℕ
tables_text s = named_lines (text (tables_of s))
