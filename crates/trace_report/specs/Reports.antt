-- What is told of a text that should be the transcript of a run. Read `report`, at the end, first.
use Rattle.std.specs.Prelude.{ℕ, ◌+◌, ◌-◌, ◌==◌, ◌&&◌, nat_le, nat_lt, if◌then◌else◌, List, [], ◌++◌, length, map, take, Option, Some, None, codes}
use Rattle.std.specs.Fmt.{decimal}
use Rattle.std.specs.List.{count_by, position}
use Rattle.std.specs.Option.{unwrap_or}
use Rattle.trace_places.specs.declared.mistakes.Mistake.{Mistake}
use Rattle.trace_places.specs.declared.mistakes.When.{When}
use Rattle.trace_places.specs.declared.mistakes.When.TheVariants as when
use Rattle.trace_report.specs.EventNames.{event_name}
use Rattle.xinu_base.specs.declared.events.Event.{Event}
use Rattle.xinu_base.specs.declared.events.Event.TheVariants.{Step}
use Rattle.xinu_base.specs.declared.lines.TranscriptLine.{TranscriptLine}
use Rattle.xinu_model.specs.Text.{line_text}

-- words, and a number after them
abbrev pub numbered : List ℕ → ℕ → List ℕ
numbered words n = words ++ decimal n

-- how many line feeds there are
abbrev pub line_feeds : List ℕ → ℕ
line_feeds bytes = count_by (λ b. b == 10) bytes

-- the number of the line with which the rest of a text begins, counted from 1: one more than there are line feeds before it
abbrev pub line_number : List ℕ → List ℕ → ℕ
line_number text rest = 1 + line_feeds (take (length text - length rest) text)

-- the place of the first line feed of bytes, or of their end
abbrev pub line_end : List ℕ → ℕ
line_end bytes = unwrap_or (position (λ b. b == 10) bytes) (length bytes)

-- what bytes have before their first line feed, or all of them
abbrev pub first_line : List ℕ → List ℕ
first_line bytes = take (line_end bytes) bytes

-- a byte as it is shown: a printable character of ASCII, or a question mark
abbrev pub shown_byte : ℕ → ℕ
shown_byte b = if nat_le 32 b && nat_lt b 127 then b else 63

-- a line as it is shown: after 60 bytes it is cut
abbrev pub shown_line : List ℕ → List ℕ
shown_line line = if nat_le (length line) 60 then map shown_byte line else map shown_byte (take 60 line) ++ codes ".."

-- the first line of bytes, in quotes
unfoldable pub quoted : List ℕ → List ℕ
quoted bytes = codes "\"" ++ shown_line (first_line bytes) ++ codes "\""

-- what is said of a line that has no line feed
unfoldable pub unended : List ℕ → List ℕ
unended bytes = if line_end bytes == length bytes then codes " without a line feed" else []

-- what a text has from its mistake on: nothing, or a line
unfoldable pub found_text : List ℕ → List ℕ
found_text rest = if length rest == 0 then codes "ends" else codes "has " ++ quoted rest ++ unended rest

-- an event as it is told: of a step the process that was current ahead of it, of another its name
unfoldable pub happening_text : Event → ℕ → List ℕ
happening_text Step p = numbered (codes ", a step of process ") p
happening_text event p = codes ", " ++ event_name event

-- when a run prints a line
unfoldable pub when_text : When → List ℕ
when_text when.Start = codes " (before the first event)"
when_text (when.In m) = numbered (codes " (event ") m.number ++ happening_text m.event m.process ++ codes ")"
when_text when.End = codes " (after the last event)"

-- a line that is due, and when a run prints it
unfoldable pub due_line : List ℕ → When → List ℕ
due_line line w = codes "; a run has " ++ quoted line ++ when_text w

-- what a run has there: the line that is due, or nothing since it has ended
unfoldable pub due_text : Option TranscriptLine → When → List ℕ
due_text None w = codes "; the run has ended"
due_text (Some line) w = due_line (line_text line) w

-- the line that tells where a text goes wrong
abbrev pub mistake_line : List ℕ → Mistake → List ℕ
mistake_line text m =
    numbered (codes "line ") (line_number text m.left.now) ++ codes ": the text " ++ found_text m.left.now ++ due_text m.due m.when ++ codes "\n"

-- what is told of a text by what was found of it
abbrev pub report : List ℕ → Option Mistake → List ℕ
report text None = codes "yes\n"
report text (Some m) = mistake_line text m
