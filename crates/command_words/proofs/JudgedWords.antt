-- The words of a command, by what was read of them.
use Rattle.std.proofs.Common.{◌≡◌, ◌∙◌, List, ap, map}
use Rattle.std.specs.Prelude.{Result}
use Rattle.command_line.specs.Reading.{ReadingFault, Taken, Text, reading}
use Rattle.command_words.specs.Tools.{ValueRow, option_of}
use Rattle.command_words.specs.Words.{judged, words_of}

-- what was read by the rows of a table is judged by them
pub words_are : (rows table : List ValueRow) (words : List Text) (read : Result Taken ReadingFault) → rows ≡ table → read ≡ reading (map option_of rows) words
    → judged rows read ≡ words_of table words
unfolding words_of
words_are rows table words read same is = ap (judged rows) is ∙ ap (λ (t : List ValueRow). judged t (reading (map option_of t) words)) same
