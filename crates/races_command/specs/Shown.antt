-- The parts of a printed table: numbers, the bytes that the console sent, lines.
use Rattle.std.specs.Prelude.{◌==◌, ◌&&◌, ℕ, Bool, not, nat_le, if◌then◌else◌, List, [], ◌∷◌, ◌++◌, codes, length}
use Rattle.std.specs.List.{flat_map}
use Rattle.std.specs.Fmt.{decimal}
use Rattle.std.specs.Option.{option_map_or}
use Rattle.preemptions.specs.Moments.{moments}
use Rattle.printed_runs.specs.Names.{named_line}
use Rattle.schedule_file.specs.Numbers.{byte_in}
use Rattle.text_lines.specs.Lines.{lines_of, tokens_of}
use Rattle.xinu_base.specs.Hexadecimal.{hex_byte}
use Rattle.xinu_base.specs.declared.events.Event.{Event}

-- what is added to the name of a thing if there isn't one of it
abbrev pub plural : ℕ → List ℕ
plural n = if n == 1 then [] else codes "s"

-- so many of a thing
unfoldable pub number_of : ℕ → List ℕ → List ℕ
number_of n thing = decimal n ++ codes " " ++ thing ++ plural n

-- a place of a placement
abbrev pub place_text : ℕ → List ℕ
place_text place = codes " " ++ decimal place

-- the places of a placement
unfoldable pub places_text : List ℕ → List ℕ
places_text [] = codes " none"
places_text (place ∷ places) = flat_map place_text (place ∷ places)

-- when preemptions at these places of a schedule come: how many events come before each
unfoldable pub moments_text : List ℕ → List Event → List ℕ
moments_text places base =
    if length places == 0 then [] else codes ", at event" ++ plural (length places) ++ flat_map place_text (moments places base)

-- a byte as it is shown: a printable one as it is, and others behind a backslash
unfoldable pub shown_byte : ℕ → List ℕ
shown_byte b =
    if b == 10 then codes "\\n"
    else if b == 13 then codes "\\r"
    else if b == 34 then codes "\\\""
    else if b == 92 then codes "\\\\"
    else if nat_le 32 b && nat_le b 126 then b ∷ []
    else codes "\\x" ++ hex_byte b

-- the byte of a line of the transcript that says what the console sent, as `con 61`
abbrev pub shown_line : List (List ℕ) → List ℕ
shown_line (word ∷ digits ∷ rest) = option_map_or shown_byte (byte_in digits) []
shown_line tokens = []

-- the bytes of such lines
unfoldable pub shown_console : List ℕ → List ℕ
shown_console lines = flat_map (λ line. shown_line (tokens_of line)) (lines_of lines)

-- a line behind two blanks, with the name of a process as a text after it
abbrev pub indented : List ℕ → List ℕ
indented line = codes "  " ++ named_line line ++ codes "\n"

-- the lines of a text, none left out
unfoldable pub listed : List ℕ → List ℕ
listed text = flat_map indented (lines_of text)

-- whether a byte is neither a line feed nor a carriage return
abbrev pub is_plain : ℕ → Bool
is_plain b = not (b == 10) && not (b == 13)
