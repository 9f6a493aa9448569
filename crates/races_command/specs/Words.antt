-- What the arguments of the command ask.
use Rattle.std.specs.Prelude.{ℕ, min, List, Option, Result, codes, option_and_then}
use Rattle.std.specs.Option.{unwrap_or}
use Rattle.command_line.specs.Reading.{Taken, Text, option_value}
use Rattle.command_words.specs.Tools.{rows_of}
use Rattle.command_words.specs.ValueKinds.{number_in}
use Rattle.command_words.specs.Words.{WordsFault, words_of}
use Rattle.command_words.specs.declared.tools.Tool.TheVariants.{Races}
use Rattle.preemptions.specs.declared.stretches.Stretch.{Stretch}
use Rattle.run_inputs.specs.InputFiles.{InputFiles}
use Rattle.run_inputs.specs.Words.{inputs_in}

-- What is asked: the files of the inputs; at most how many quantum ends are put in, and where; the file for the schedule of a row, if one is named,
-- and the number of that row.
pub record Asked : Type 0 where
  pub inputs : InputFiles
  pub most : ℕ
  pub stretch : Stretch
  pub found : Option Text
  pub outcome : ℕ

-- the number that an option has as its value, or this one if it isn't given
abbrev pub number_of : Text → ℕ → Taken → ℕ
number_of name default t = unwrap_or (option_and_then number_in (option_value name t)) default

-- the places after so many steps within so many: none if the first number isn't below the second
abbrev pub stretch_of : ℕ → ℕ → Stretch
stretch_of from within = record { after = min from within; within = within }

-- what the words ask: the row is the second if no number of one is given
abbrev pub asked_in : Taken → Asked
asked_in t = record {
  inputs = inputs_in t;
  most = number_of (codes "preemptions") 0 t;
  stretch = stretch_of (number_of (codes "from") 0 t) (number_of (codes "within") 0 t);
  found = option_value (codes "found") t;
  outcome = number_of (codes "outcome") 2 t;
}

-- the words of the command by the table of its options, or what is wrong with them
abbrev pub read : List Text → Result Taken WordsFault
read args = words_of (rows_of Races) args
