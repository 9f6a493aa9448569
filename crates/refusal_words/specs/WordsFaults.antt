-- What is wrong with the words of a command, in words.
use Rattle.std.specs.Prelude.{ℕ, List, ◌++◌, codes}
use Rattle.std.specs.Fmt.{decimal}
use Rattle.command_line.specs.Reading.{ReadingFault, Unknown, Twice, NoValue, TakesNone}
use Rattle.command_words.specs.Words.{WordsFault, Unreadable, BadValue, Missing, GoesWith, NotWith, NoImage, ManyImages, NamelessImage}
use Rattle.command_words.specs.declared.value_kinds.Kind.{Kind}
use Rattle.command_words.specs.declared.value_kinds.Kind.TheVariants.{File, Number, Span, Title, Flag}

-- three parts of a line
abbrev pub joined : List ℕ → List ℕ → List ℕ → List ℕ
joined before middle after = before ++ middle ++ after

-- a number in a text
unfoldable pub around : List ℕ → ℕ → List ℕ → List ℕ
around before n after = before ++ decimal n ++ after

-- what the value of an option has to be
unfoldable pub kind_text : Kind → List ℕ
kind_text File = codes "the name of a file"
kind_text (Number least most) = around (codes "a number from ") least (codes " to ") ++ around (codes "") most (codes "")
kind_text (Span greatest most) = around (codes "A..B, two numbers from 1 to ") greatest (codes ", at most ") ++ around (codes "") most (codes " events")
kind_text (Title most) = around (codes "a text of 1 to ") most (codes " bytes")
kind_text Flag = codes "nothing"

-- an option, and what is said of it
abbrev pub option_text : List ℕ → List ℕ → List ℕ
option_text name said = joined (codes "--") name said

-- why words can't be read
unfoldable pub reading_text : ReadingFault → List ℕ
reading_text (Unknown arg) = joined (codes "there is no option ") arg (codes "\n")
reading_text (Twice name) = option_text name (codes " is given twice\n")
reading_text (NoValue name) = option_text name (codes " has no value\n")
reading_text (TakesNone name) = option_text name (codes " takes no value\n")

-- what is wrong with words
unfoldable pub words_text : WordsFault → List ℕ
words_text (Unreadable fault) = reading_text fault
words_text (BadValue name kind) = option_text name (codes " is ") ++ kind_text kind ++ codes "\n"
words_text (Missing name) = option_text name (codes " is missing\n")
words_text (GoesWith name other) = option_text name (codes " goes with --") ++ other ++ codes "\n"
words_text (NotWith name other) = option_text name (codes " doesn't go with --") ++ other ++ codes "\n"
words_text NoImage = codes "no image is named\n"
words_text ManyImages = codes "over eight images are named\n"
words_text NamelessImage = codes "the name of an image is empty\n"
