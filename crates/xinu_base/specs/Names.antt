-- The words by which a transcript names states, causes of traps, moments of file calls, modes of the console and ends of runs.
use Rattle.std.specs.Prelude.{ℕ, List, codes}
use Rattle.xinu_base.specs.declared.console.TtyMode.{TtyMode}
use Rattle.xinu_base.specs.declared.console.TtyMode.TheVariants.{Raw, Cbreak, Cooked}
use Rattle.xinu_base.specs.declared.events.End.{End}
use Rattle.xinu_base.specs.declared.events.End.TheVariants.{Schedule, Done, Panic}
use Rattle.xinu_base.specs.declared.lines.FileMoment.{FileMoment}
use Rattle.xinu_base.specs.declared.lines.FileMoment.TheVariants.{Turn, Finished, Next}
use Rattle.xinu_base.specs.declared.processes.State.{State}
use Rattle.xinu_base.specs.declared.processes.State.TheVariants.{Free, Current, Ready, Receiving, Sleeping, Suspended, Waiting, Timed}
use Rattle.xinu_base.specs.declared.registers.Cause.{Cause}
use Rattle.xinu_base.specs.declared.registers.Cause.TheVariants.{Fetch, Illegal, Break, Target, Load, Store}

-- the state of a process
abbrev pub state_name : State → List ℕ
state_name Free = codes "free"
state_name Current = codes "current"
state_name Ready = codes "ready"
state_name Receiving = codes "receive"
state_name Sleeping = codes "sleep"
state_name Suspended = codes "suspend"
state_name Waiting = codes "wait"
state_name Timed = codes "timed"

-- the cause of a trap
abbrev pub cause_name : Cause → List ℕ
cause_name Fetch = codes "fetch"
cause_name Illegal = codes "illegal"
cause_name Break = codes "break"
cause_name Target = codes "target"
cause_name Load = codes "load"
cause_name Store = codes "store"

-- how a run ended
abbrev pub end_name : End → List ℕ
end_name Schedule = codes "schedule"
end_name Done = codes "done"
end_name Panic = codes "panic"

-- what became of a file call
abbrev pub moment_name : FileMoment → List ℕ
moment_name Turn = codes "turn"
moment_name Finished = codes "done"
moment_name Next = codes "next"

-- the mode of the console
abbrev pub mode_name : TtyMode → List ℕ
mode_name Raw = codes "raw"
mode_name Cbreak = codes "cbreak"
mode_name Cooked = codes "cooked"
