-- The statement of what the command does. Read `Answers`, at the end, first; what is told of a text is in Traces.antt, and what is told of a run in
-- Stories.antt.
use Rattle.std.specs.Prelude.{◌≡◌, ◌⊎◌, ℕ, List, Option, Some, None, Result, Ok, Err, IfErr, codes}
use Rattle.command_line.specs.Reading.{Taken, Text, option_value}
use Rattle.command_words.specs.ToolNames.{cause_of}
use Rattle.command_words.specs.Tools.{rows_of}
use Rattle.command_words.specs.Words.{WordsFault, words_of}
use Rattle.command_words.specs.declared.tools.Tool.TheVariants.{Explain}
use Rattle.command_words.specs.declared.words_fault.WordsFault.{WordsFault as WordsFaultValue}
use Rattle.explain_command.specs.Stories.{TellsRun}
use Rattle.explain_command.specs.Traces.{Compares}
use Rattle.explain_command.specs.Words.{Asked, asked_in}
use Rattle.host_port.specs.Outside.{Outside}
use Rattle.refusal_words.specs.Meanings.{cause_meaning}
use Rattle.refusal_words.specs.Tellings.{TellsInWords}
use Rattle.run_inputs.specs.Causes.{NamesLast, refusal_in, refused}
use Rattle.run_inputs.specs.Reading.{ReadsInputs}
use Rattle.run_inputs.specs.Words.{inputs_in}
use Rattle.run_inputs.specs.declared.causes.Cause.{Cause}
use Rattle.run_inputs.specs.declared.causes.Cause.TheVariants as cause
use Rattle.run_inputs.specs.declared.inputs.Inputs.{Inputs}
use Rattle.run_inputs.specs.declared.refusals.Refusal.TheVariants as refusal

-- With accepted inputs a trace was compared, if one is named; else the run was told.
abbrev pub Goes : Option Text → Asked → Inputs → Result ℕ Cause → Outside → Outside → Type 0
Goes (Some name) a x ended old new = Compares name x ended old new
Goes None a x ended old new = TellsRun a x ended old new

-- The refusal of the inputs is that of the command, and then nothing was done; accepted ones were gone on with.
abbrev pub Continues : Taken → Result Inputs Cause → Result ℕ Cause → Outside → Outside → Type 0
Continues t (Err c) ended old new = (ended ≡ Err c) × (new ≡ old)
Continues t (Ok x) ended old new = Goes (option_value (codes "trace") t) (asked_in t) x ended old new

-- The inputs were fetched and judged as `run` does it, a file that can't be read is the last that was fetched, and the command went on with them.
pub record Obeys (t : Taken) (ended : Result ℕ Cause) (old new : Outside) : Type 0 where
  pub inputs : Result Inputs Cause
  pub read : Outside
  pub reads : ReadsInputs (inputs_in t) (refused inputs) old read
  pub last : IfErr inputs (λ c. NamesLast c read)
  pub continues : Continues t inputs ended read new

-- Memory ran out before anything was done.
pub record HasNoMemory (ended : Result ℕ Cause) (old new : Outside) : Type 0 where
  pub cause : ended ≡ Err (cause.Refused refusal.NoMemory)
  pub same : new ≡ old

-- The arguments are wrong, it is told in which way, and nothing was done.
pub record AsksNothing (wrong : WordsFault) (ended : Result ℕ Cause) (old new : Outside) : Type 0 where
  pub told : WordsFaultValue
  pub is : wrong ≡ cause_of told
  pub cause : ended ≡ Err (cause.Words told)
  pub same : new ≡ old

-- The command was carried out as its words ask, if nothing is wrong with them.
abbrev pub Carries : Result Taken WordsFault → Result ℕ Cause → Outside → Outside → Type 0
Carries (Err wrong) ended old new = AsksNothing wrong ended old new ⊎ HasNoMemory ended old new
Carries (Ok t) ended old new = Obeys t ended old new ⊎ HasNoMemory ended old new

-- the words of the command
abbrev pub usage : List ℕ
usage = codes "[--steps A..B | --trace FILE | --at N] [--refused] --schedule FILE [--disk0 FILE] [--disk1 FILE] IMAGE .."

-- The status is that with which the command ended, or that of the cause, which is told by its text and lines after it.
abbrev pub Tells : Result ℕ Cause → ℕ → Outside → Outside → Type 0
Tells (Ok status) exit mid new = (exit ≡ status) × (new ≡ mid)
Tells (Err c) exit mid new = TellsInWords (refusal_in c) (cause_meaning usage c) exit mid new

-- The theorem. The command was carried out as its arguments ask (`carries`): what was sent tells a text, or a run, of the inputs that the files gave.
-- Then, in the world that this left, its end was told by a status, and a cause by its text and lines after it.
pub record Answers (exit : ℕ) (args : List Text) (old new : Outside) : Type 0 where
  pub ended : Result ℕ Cause
  pub mid : Outside
  pub carries : Carries (words_of (rows_of Explain) args) ended old mid
  pub tells : Tells ended exit mid new
