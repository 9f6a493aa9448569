-- What else is told of a process that is left: when it wakes, how long it is ready, and how what it waits for was used.
use Rattle.std.specs.Prelude.{ℕ, ◌-◌, nat_le, Bool, if◌then◌else◌, List, [], ◌++◌, Option, Some, None, codes}
use Rattle.std.specs.Fmt.{decimal}
use Rattle.process_lives.specs.declared.lives.Life.{Life}
use Rattle.process_waits.specs.Waiting.{wake_in}
use Rattle.xinu_base.specs.declared.processes.State.{State}
use Rattle.xinu_base.specs.declared.processes.State.TheVariants.{Ready, Sleeping, Timed, Waiting}
use Rattle.xinu_model.specs.Tables.{Tables}

-- a number between two texts
unfoldable pub between : List ℕ → ℕ → List ℕ → List ℕ
between before n after = before ++ decimal n ++ after

-- the tick at which a process wakes, after a text
abbrev pub wake_text : List ℕ → Option ℕ → List ℕ
wake_text before None = []
wake_text before (Some tick) = between before tick []

-- whether a process that is ready for long ran before
abbrev pub ran_text : Bool → List ℕ
ran_text has_run = if has_run then codes " ticks and didn't run" else codes " ticks and never ran"

-- for how many ticks a process is ready, if these are at least four
abbrev pub ready_text : ℕ → Bool → List ℕ
ready_text ticks has_run = if nat_le 4 ticks then between (codes ": it was ready for ") ticks (ran_text has_run) else []

-- What else is told of process p in a state, by its life and how what it waits for was used.
abbrev pub more_text : State → Tables → ℕ → Life → List ℕ → List ℕ
more_text Timed t p life usage = wake_text (codes ", at most to tick ") (wake_in p t.sleepers)
more_text Sleeping t p life usage = wake_text (codes ", to tick ") (wake_in p t.sleepers)
more_text Ready t p life usage = ready_text (t.ticks - life.tick) life.has_run
more_text Waiting t p life usage = usage
more_text _ t p life usage = []
