-- The line of a process that is left.
use Rattle.std.specs.Prelude.{ℕ, List, [], ◌++◌, codes}
use Rattle.std.specs.Fmt.{decimal}
use Rattle.xinu_base.specs.declared.processes.State.{State}
use Rattle.xinu_base.specs.declared.processes.State.TheVariants.{Free, Current, Ready, Receiving, Sleeping, Suspended, Timed, Waiting}

-- what a process in a state does, with the word for what it waits for
unfoldable pub state_text : State → List ℕ → List ℕ
state_text Free awaited = []
state_text Current awaited = codes " runs,"
state_text Ready awaited = codes " is ready"
state_text Receiving awaited = codes " waits for a message"
state_text Timed awaited = codes " waits for a message"
state_text Sleeping awaited = codes " sleeps"
state_text Suspended awaited = codes " is suspended"
state_text Waiting awaited = codes " waits for " ++ awaited

-- the number and the name of a process
unfoldable pub who_text : List ℕ → ℕ → List ℕ → List ℕ
who_text before p name = before ++ decimal p ++ name

-- since which event it does so, and what else is told
unfoldable pub since_text : List ℕ → ℕ → List ℕ → List ℕ → List ℕ
since_text before since more after = before ++ decimal since ++ more ++ after

-- the line that tells of a process what it does, and since which event
unfoldable pub left_line : ℕ → State → List ℕ → List ℕ → ℕ → List ℕ → List ℕ
left_line p state name awaited since more = who_text (codes "  ") p name ++ state_text state awaited ++ since_text (codes " since event ") since more (codes ".\n")
