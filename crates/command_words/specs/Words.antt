-- What the words of a command say by the table of its options, or what is wrong with them.
use Rattle.std.specs.Prelude.{◌&&◌, not, nat_lt, nat_le, if◌then◌else◌, List, [], ◌∷◌, length, map, Option, Some, None, Result, Ok, Err}
use Rattle.std.specs.List.{list_all}
use Rattle.command_line.specs.Reading.{ReadingFault, Taken, Text, is_given, option_value, reading}
use Rattle.command_line.specs.RunArgs.{is_file_name, most_images}
use Rattle.command_words.specs.Tools.{Need, Needed, Optional, With, Without, WithoutBoth, ValueRow, option_of}
use Rattle.command_words.specs.ValueKinds.{is_value}
use Rattle.command_words.specs.declared.value_kinds.Kind.{Kind}

-- what is wrong with the words of a command
pub data WordsFault : Type 0 where
  -- they can't be read
  Unreadable : ReadingFault → WordsFault
  -- the value of this option isn't one of its kind
  BadValue : (name : Text) → (kind : Kind) → WordsFault
  -- this option isn't given
  Missing : (name : Text) → WordsFault
  -- the first option is given without the other
  GoesWith : (name other : Text) → WordsFault
  -- the first option is given with the other
  NotWith : (name other : Text) → WordsFault
  -- no image is named, or too many are, or the name of one is empty
  NoImage : WordsFault
  ManyImages : WordsFault
  NamelessImage : WordsFault

-- the first of two faults, if there is one
abbrev pub or_fault : Option WordsFault → Option WordsFault → Option WordsFault
or_fault (Some fault) later = Some fault
or_fault None later = later

-- an option's value is one of its kind, if it is given
abbrev pub value_fault : ValueRow → Option Text → Option WordsFault
value_fault r None = None
value_fault r (Some value) = if is_value r.kind value then None else Some (BadValue r.name r.kind)

-- the first option isn't given with the other
abbrev pub pair_fault : (name other : Text) → Taken → Option WordsFault
pair_fault name other t = if is_given name t && is_given other t then Some (NotWith name other) else None

-- an option is given when it is to be given
abbrev pub need_fault : Need → Text → Taken → Option WordsFault
need_fault Needed name t = if is_given name t then None else Some (Missing name)
need_fault Optional name t = None
need_fault (With other) name t = if is_given name t && not (is_given other t) then Some (GoesWith name other) else None
need_fault (Without other) name t = pair_fault name other t
need_fault (WithoutBoth one two) name t = or_fault (pair_fault name one t) (pair_fault name two t)

-- what is wrong with the values of the options, in the order of the table
abbrev pub values_fault : Taken → List ValueRow → Option WordsFault
values_fault t [] = None
values_fault t (r ∷ rows) = or_fault (value_fault r (option_value r.name t)) (values_fault t rows)

-- what is wrong with the choice of options, in the order of the table
abbrev pub needs_fault : Taken → List ValueRow → Option WordsFault
needs_fault t [] = None
needs_fault t (r ∷ rows) = or_fault (need_fault r.need r.name t) (needs_fault t rows)

-- one to eight images are named, and no name is empty
abbrev pub images_fault : List Text → Option WordsFault
images_fault images =
    if nat_lt 0 (length images)
    then (if nat_le (length images) most_images then (if list_all is_file_name images then None else Some NamelessImage) else Some ManyImages)
    else Some NoImage

-- what is wrong with what was taken from the words: first with a value, then with the choice of options, then with the images
abbrev pub taken_fault : List ValueRow → Taken → Option WordsFault
taken_fault rows t = or_fault (values_fault t rows) (or_fault (needs_fault t rows) (images_fault t.positional))

-- what was taken, unless something is wrong with it
abbrev pub unless_fault : Option WordsFault → Taken → Result Taken WordsFault
unless_fault None t = Ok t
unless_fault (Some fault) t = Err fault

-- what was read of the words, judged by the table
abbrev pub judged : List ValueRow → Result Taken ReadingFault → Result Taken WordsFault
judged rows (Ok t) = unless_fault (taken_fault rows t) t
judged rows (Err fault) = Err (Unreadable fault)

-- What the words say by a table of options, or what is wrong with them: the first that can't be read, from the left; else a value, an option
-- that is missing or has no place, or the images.
unfoldable pub words_of : List ValueRow → List Text → Result Taken WordsFault
words_of rows words = judged rows (reading (map option_of rows) words)
