-- Who becomes ready, and who runs (book, chapter 5).
use Rattle.std.specs.Prelude.{ℕ, Bool, true, false, if◌then◌else◌, ◌&&◌, List, [], ◌∷◌, ℤ, int_lt}
use Rattle.xinu_base.specs.Constants.{QUANTUM}
use Rattle.xinu_base.specs.declared.processes.Process.{Process}
use Rattle.xinu_base.specs.declared.processes.State.{State}
use Rattle.xinu_base.specs.declared.processes.State.TheVariants.{Current, Ready}
use Rattle.xinu_model.specs.Tables.{Tables, process_at, state_at, message_at, move_to, Nowhere, InReady}

-- whether a process of this state runs
abbrev pub is_current : State → Bool
is_current Current = true
is_current _ = false

-- the same process in another state
abbrev pub in_state : State → Process → Process
in_state state x = record x { state = state }

-- p becomes ready
abbrev pub ready : ℕ → Tables → Tables
ready p t = move_to p (in_state Ready (process_at t p)) (message_at t p) InReady t

-- these processes become ready, one after another
abbrev pub ready_all : List ℕ → Tables → Tables
ready_all [] t = t
ready_all (p ∷ ps) t = ready_all ps (ready p t)

-- p becomes the current process, with a fresh quantum
abbrev pub dispatch : ℕ → Tables → Tables
dispatch p t = move_to p (in_state Current (process_at t p)) (message_at t p) Nowhere (record t { current = p; quantum = QUANTUM })

-- the first of a ready list becomes the current process
abbrev pub dispatch_first : List (ℕ × ℤ) → Tables → Tables
dispatch_first [] t = t
dispatch_first (e ∷ es) t = dispatch e.0 t

-- the current process is preempted: if it still runs, it becomes ready
abbrev pub preempt : Tables → Tables
preempt t = if is_current (state_at t t.current) then ready t.current t else t

-- whether the current process stays with this ready list: it is empty, or its first key is less than the current priority
abbrev pub keeps_cpu : List (ℕ × ℤ) → Tables → Bool
keeps_cpu [] t = true
keeps_cpu (e ∷ es) t = is_current (state_at t t.current) && int_lt e.1 (process_at t t.current).priority

-- the current process gives way to the first of the ready list, unless it stays
abbrev pub resched : Tables → Tables
resched t = if keeps_cpu t.ready t then t else dispatch_first (preempt t).ready (preempt t)
