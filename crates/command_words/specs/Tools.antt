-- The commands that say in words what is wrong with their arguments, each with the table of its options.
use Rattle.std.specs.Prelude.{Bool, true, false, List, [], ◌∷◌, codes}
use Rattle.command_line.specs.Reading.{OptionRow, Text}
use Rattle.command_words.specs.declared.tools.Tool.{Tool}
use Rattle.command_words.specs.declared.tools.Tool.TheVariants.{Explain, Timeline, Races, Judge, Gdb}
use Rattle.command_words.specs.declared.value_kinds.Kind.{Kind}
use Rattle.command_words.specs.declared.value_kinds.Kind.TheVariants.{File, Number, Span, Title, Flag}

-- when an option is to be given
pub data Need : Type 0 where
  -- always
  Needed : Need
  -- or not
  Optional : Need
  -- only with another one
  With : Text → Need
  -- only without another one
  Without : Text → Need
  -- only without either of two others
  WithoutBoth : Text → Text → Need

-- an option: the name after its two hyphens, what its value has to be, if it takes one, and when it is to be given
pub record ValueRow : Type 0 where
  pub name : Text
  pub kind : Kind
  pub need : Need

abbrev pub row : Text → Kind → Need → ValueRow
row name kind need = record { name = name; kind = kind; need = need }

-- the options of the inputs of a run
abbrev pub input_rows : List ValueRow
input_rows = row (codes "schedule") File Needed ∷ row (codes "disk0") File Optional ∷ row (codes "disk1") File Optional ∷ []

-- `explain [--steps A..B | --trace FILE | --at N] [--refused] --schedule FILE [--disk0 FILE] [--disk1 FILE] IMAGE ..`
abbrev pub explain_rows : List ValueRow
explain_rows = row (codes "steps") (Span 1000000000 10000) (Without (codes "trace")) ∷ row (codes "trace") File (Without (codes "at"))
    ∷ row (codes "at") (Number 1 1000000000) (Without (codes "steps")) ∷ row (codes "refused") Flag (WithoutBoth (codes "trace") (codes "at")) ∷ input_rows

-- `timeline [--from EVENT] [--events N] [--title TEXT] --schedule FILE [--disk0 FILE] [--disk1 FILE] IMAGE ..`
abbrev pub timeline_rows : List ValueRow
timeline_rows = row (codes "from") (Number 1 1000000000) Optional ∷ row (codes "events") (Number 1 2000) Optional
    ∷ row (codes "title") (Title 90) Optional ∷ input_rows

-- `races --preemptions P --within N [--from M] [--found FILE [--outcome K]] --schedule FILE [--disk0 FILE] [--disk1 FILE] IMAGE ..`
abbrev pub races_rows : List ValueRow
races_rows = row (codes "preemptions") (Number 0 9999999999) Needed ∷ row (codes "within") (Number 0 9999999999) Needed
    ∷ row (codes "from") (Number 0 9999999999) Optional ∷ row (codes "found") File Optional ∷ row (codes "outcome") (Number 1 9999999999) (With (codes "found")) ∷ input_rows

-- `judge [--atomic NAME,..] [--pairs] --schedule FILE [--disk0 FILE] [--disk1 FILE] IMAGE ..`
abbrev pub judge_rows : List ValueRow
judge_rows = row (codes "atomic") (Title 255) Optional ∷ row (codes "pairs") Flag Optional ∷ input_rows

-- the options of a command
abbrev pub rows_of : Tool → List ValueRow
rows_of Explain = explain_rows
rows_of Timeline = timeline_rows
rows_of Races = races_rows
rows_of Judge = judge_rows
rows_of Gdb = input_rows

-- whether an option of a kind takes a value
abbrev pub takes_value : Kind → Bool
takes_value File = true
takes_value (Number least most) = true
takes_value (Span greatest most) = true
takes_value (Title most) = true
takes_value Flag = false

-- the same as a row of a table by which arguments are read
abbrev pub option_of : ValueRow → OptionRow
option_of r = record { name = r.name; takes_value = takes_value r.kind }
