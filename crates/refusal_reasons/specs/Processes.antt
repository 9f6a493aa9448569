-- Why the calls on processes are refused (book, chapters 4 to 6).
use Rattle.std.specs.Prelude.{ℕ, ◌==◌, nat_lt, not, ◌&&◌, List, [], ◌∷◌, pos, int_lt}
use Rattle.refusal_reasons.specs.Causes.{cause, CauseRow, row, is_minus_one}
use Rattle.refusal_reasons.specs.declared.reasons.Cause.{Cause}
use Rattle.refusal_reasons.specs.Memory.{no_block}
use Rattle.refusal_reasons.specs.declared.reasons.Reason.TheVariants.{NoProcess, NullProcess, NotSuspended, NotReady, PriorityBelowOne, PriorityIsMinusOne, NameOutsideRam, NoFreeProcess}
use Rattle.xinu_base.specs.declared.processes.Process.{Process}
use Rattle.xinu_model.specs.Machine.{Xinu}
use Rattle.xinu_model.specs.Memory.{in_ram}
use Rattle.xinu_model.specs.Process.Calls.{is_ready, is_suspended}
use Rattle.xinu_model.specs.Process.Creation.{stack_size}
use Rattle.xinu_model.specs.Sound.Tables.{times}
use Rattle.xinu_model.specs.Tables.{Tables, process_at, state_at, is_free}
use Rattle.xinu_model.specs.Words.{half}

-- how many numbers have no process
abbrev pub free_processes : Tables → ℕ
free_processes t = times (λ (x : Process). is_free x.state) t.processes

-- no process has this number
abbrev pub no_process : ℕ → Xinu → Cause
no_process p s = cause NoProcess (is_free (state_at s.tables p))

-- the priority of p is answered, and is -1
abbrev pub priority_told : ℕ → Xinu → Cause
priority_told p s = cause PriorityIsMinusOne (is_minus_one (process_at s.tables p).priority)

-- each number has a process
abbrev pub no_free_process : Xinu → Cause
no_free_process s = cause NoFreeProcess (nat_lt (free_processes s.tables) 1)

-- `create`: a stack of this size, a priority, and the address of a name
abbrev pub create_causes : ℕ → ℕ → ℕ → Xinu → List Cause
create_causes size priority name s =
    cause PriorityBelowOne (int_lt (half priority) (pos 1))
    ∷ cause NameOutsideRam (not (in_ram name 16))
    ∷ no_free_process s
    ∷ no_block (stack_size size) s
    ∷ []

-- `resume`
abbrev pub resume_causes : ℕ → Xinu → List Cause
resume_causes p s = no_process p s ∷ cause NotSuspended (not (is_suspended (state_at s.tables p))) ∷ priority_told p s ∷ []

-- `suspend`: who suspends itself is answered later
abbrev pub suspend_causes : ℕ → Xinu → List Cause
suspend_causes p s =
    cause NullProcess (p == 0)
    ∷ no_process p s
    ∷ cause NotReady (not (is_ready (state_at s.tables p)) && not (p == s.tables.current))
    ∷ cause PriorityIsMinusOne (is_ready (state_at s.tables p) && is_minus_one (process_at s.tables p).priority)
    ∷ []

-- `kill`
abbrev pub kill_causes : ℕ → Xinu → List Cause
kill_causes p s = cause NullProcess (p == 0) ∷ no_process p s ∷ []

-- `chprio` and `getprio`: the priority that p had, or has, is answered
abbrev pub priority_causes : ℕ → Xinu → List Cause
priority_causes p s = no_process p s ∷ priority_told p s ∷ []

-- the calls on processes
abbrev pub process_causes : List CauseRow
process_causes =
    row 1 (λ a s. []) ∷
    row 2 (λ a s. create_causes (a 1) (a 2) (a 3) s) ∷
    row 3 (λ a s. resume_causes (a 0) s) ∷
    row 4 (λ a s. suspend_causes (a 0) s) ∷
    row 5 (λ a s. kill_causes (a 0) s) ∷
    row 6 (λ a s. []) ∷
    row 7 (λ a s. priority_causes (a 0) s) ∷
    row 8 (λ a s. priority_causes (a 0) s) ∷
    row 9 (λ a s. []) ∷
    []
