-- The values of the code as those of the definitions: the rows of a table, what was taken from arguments, and what is wrong with them.
use Rattle.std.specs.Prelude.{Result, Ok, Err, map}
use Rattle.command_line.specs.Reading.{ReadingFault as Fault, State as ReadingState, Taken as TakenWords, OptionRow, Text, Unknown, Twice, NoValue, TakesNone, choosing, wanting, listing, refused, value_option}
use Rattle.command_words.specs.Tools.{Need as NeedOf, Needed, Optional, With, Without, WithoutBoth, ValueRow as Row}
use Rattle.command_words.specs.Words as words
use Rattle.command_words.specs.declared.tools.Need.{Need}
use Rattle.command_words.specs.declared.tools.Need.TheVariants as need
use Rattle.command_words.specs.declared.tools.ValueRow.{ValueRow}
use Rattle.command_words.specs.declared.taken.Given.{Given}
use Rattle.command_words.specs.declared.taken.Taken.{Taken}
use Rattle.command_words.specs.declared.words_fault.ReadingFault.{ReadingFault}
use Rattle.command_words.specs.declared.words_fault.ReadingFault.TheVariants as fault
use Rattle.command_words.specs.declared.words_fault.WordsFault.{WordsFault}
use Rattle.command_words.specs.declared.words_fault.WordsFault.TheVariants as cause
use Rattle.command_words.specs.declared.reader.State.{State}
use Rattle.command_words.specs.declared.reader.State.TheVariants as state

abbrev pub need_of : Need → NeedOf
need_of need.Needed = Needed
need_of need.Optional = Optional
need_of (need.With other) = With other.now
need_of (need.Without other) = Without other.now
need_of (need.WithoutBoth one two) = WithoutBoth one.now two.now

-- a row of a table
abbrev pub value_row : ValueRow → Row
value_row r = record { name = r.name.now; kind = r.kind; need = need_of r.need }

-- an option that was given, with its value: none, if it takes none
abbrev pub given_pair : Given → OptionRow × Text
given_pair g = (record { name = g.name.now; takes_value = g.takes_value }, g.value.now)

-- what was taken from arguments
abbrev pub taken_words : Taken → TakenWords
taken_words t = record { options = map given_pair t.options.items; positional = map (λ s. s.now) t.images.items }

-- why arguments can't be read
abbrev pub fault_of : ReadingFault → Fault
fault_of (fault.Unknown arg) = Unknown arg.now
fault_of (fault.Twice name) = Twice name.now
fault_of (fault.NoValue name) = NoValue name.now
fault_of (fault.TakesNone name) = TakesNone name.now

-- the state of the reading
abbrev pub state_of : State → ReadingState
state_of (state.Choosing t) = choosing (taken_words t)
state_of (state.Wanting name t) = wanting (value_option name.now) (taken_words t)
state_of (state.Listing t) = listing (taken_words t)
state_of (state.Refused fault) = refused (fault_of fault)

-- what is wrong with words
abbrev pub cause_of : WordsFault → words.WordsFault
cause_of (cause.Unreadable fault) = words.Unreadable (fault_of fault)
cause_of (cause.BadValue name kind) = words.BadValue name.now kind
cause_of (cause.Missing name) = words.Missing name.now
cause_of (cause.GoesWith name other) = words.GoesWith name.now other.now
cause_of (cause.NotWith name other) = words.NotWith name.now other.now
cause_of cause.NoImage = words.NoImage
cause_of cause.ManyImages = words.ManyImages
cause_of cause.NamelessImage = words.NamelessImage

-- the words that were read, or what is wrong with them
abbrev pub words_read : Result Taken WordsFault → Result TakenWords words.WordsFault
words_read (Ok t) = Ok (taken_words t)
words_read (Err cause) = Err (cause_of cause)
