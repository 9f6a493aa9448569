-- The inputs that the words of a command name.
use Rattle.std.specs.Prelude.{◌≡◌, [], Result, Err, codes}
use Rattle.std.specs.Option.{unwrap_or}
use Rattle.command_line.specs.Reading.{Taken, option_value}
use Rattle.command_words.specs.ToolNames.{cause_of}
use Rattle.command_words.specs.Words as words
use Rattle.run_inputs.specs.InputFiles.{InputFiles}
use Rattle.run_inputs.specs.declared.causes.Cause.{Cause}
use Rattle.run_inputs.specs.declared.causes.Cause.TheVariants as cause
use Rattle.run_inputs.specs.declared.refusals.Refusal.TheVariants as refusal

-- the inputs that were taken from words: each command needs a schedule
abbrev pub inputs_in : Taken → InputFiles
inputs_in t = record {
  schedule = unwrap_or (option_value (codes "schedule") t) [];
  disk0 = option_value (codes "disk0") t;
  disk1 = option_value (codes "disk1") t;
  images = t.positional;
}

-- Words aren't read for what is wrong with them, or since memory ran out.
abbrev pub IsWordsCause : Result Taken words.WordsFault → Cause → Type 0
IsWordsCause read (cause.Words fault) = read ≡ Err (cause_of fault)
IsWordsCause read (cause.Refused refusal.NoMemory) = Unit {0}
IsWordsCause read _ = ⊥
