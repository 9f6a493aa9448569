-- What the lines of a transcript say, by their words.
use Rattle.std.specs.Prelude.{ℕ, ◌&&◌, nat_le, nat_lt, Bool, if◌then◌else◌, List, [], ◌∷◌, codes, drop, length, Option, None, Some}
use Rattle.std.specs.Char.{is_ascii_digit}
use Rattle.std.specs.List.{list_all}
use Rattle.std.specs.Str.{bytes_eq}
use Rattle.std.specs.Str.Parse.{digits_value}
use Rattle.printed_runs.specs.declared.notes.Asked.{Asked}
use Rattle.printed_runs.specs.declared.notes.Asked.TheVariants as asked
use Rattle.printed_runs.specs.declared.notes.Note.{Note}
use Rattle.printed_runs.specs.declared.notes.Note.TheVariants as note
use Rattle.text_lines.specs.Lines.{tokens_of}

-- one to nine decimal digits
abbrev pub is_number : List ℕ → Bool
is_number word = list_all is_ascii_digit word && (nat_lt 0 (length word) && nat_le (length word) 9)

-- the number that they give
abbrev pub number : List ℕ → Option ℕ
number word = if is_number word then Some (digits_value 10 word) else None

-- a number that is below a bound
abbrev pub below : ℕ → Option ℕ → Option ℕ
below bound None = None
below bound (Some n) = if nat_lt n bound then Some n else None

-- what a call of this name asks of a semaphore
abbrev pub asked_of : List ℕ → Option ℕ → Asked
asked_of name None = asked.Other
asked_of name (Some s) =
    if bytes_eq name (codes "wait") then asked.Wait s
    else if bytes_eq name (codes "signal") then asked.Signal s
    else if bytes_eq name (codes "signaln") then asked.SignalMany s
    else if bytes_eq name (codes "semreset") then asked.Reset s
    else asked.Other

-- what a call of this name asks for with a number as its first argument
abbrev pub asked_with : List ℕ → Option ℕ → Asked
asked_with name None = asked.Other
asked_with name (Some n) =
    if bytes_eq name (codes "semcreate") then asked.Semaphore n
    else if bytes_eq name (codes "getbuf") then asked.Buffer n
    else if bytes_eq name (codes "ptsend") then asked.Message n
    else if bytes_eq name (codes "ptrecv") then asked.Message n
    else asked_of name (below 128 (Some n))

-- what a call of this name asks for with this first argument
abbrev pub asked_by : List ℕ → List ℕ → Asked
asked_by name argument = if bytes_eq name (codes "create") then asked.Process else asked_with name (number argument)

-- the reply of a process, if it is told
abbrev pub answered : ℕ → Option ℕ → Note
answered p None = note.Other
answered p (Some v) = note.Answered p v

-- what a line of this kind says of a process, by its third word and its fourth
abbrev pub said_of : List ℕ → Option ℕ → List ℕ → List ℕ → Note
said_of kind None word argument = note.Other
said_of kind (Some p) word argument =
    if bytes_eq kind (codes "call") then note.Called p (asked_by word argument)
    else if bytes_eq kind (codes "ret") then answered p (number word)
    else note.Other

-- the first word; none at all if there is none
abbrev pub first_word : List (List ℕ) → List ℕ
first_word [] = []
first_word (word ∷ words) = word

-- what a line says
abbrev pub note_of : List ℕ → Note
note_of line =
    let words = tokens_of line in
    said_of (first_word words) (below 64 (number (first_word (drop 1 words)))) (first_word (drop 2 words)) (first_word (drop 3 words))

-- what was said once these lines were said too: the latest first
abbrev pub said_after : List (List ℕ) → List Note → List Note
said_after [] said = said
said_after (line ∷ lines) said = said_after lines (note_of line ∷ said)
