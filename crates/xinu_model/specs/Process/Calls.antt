-- Processes: how they are made, run, stopped and ended (book, chapters 4 to 6).
use Rattle.std.specs.Prelude.{ℕ, ◌==◌, Bool, true, false, not, if◌then◌else◌, ◌||◌, List, take, drop, slice_set, Option, Some, None, ℤ, pos, int_lt, [], ◌∷◌}
use Rattle.xinu_base.specs.Constants.{OK}
use Rattle.xinu_base.specs.declared.processes.Rest.TheVariants.{SelfSuspend}
use Rattle.xinu_base.specs.declared.processes.State.{State}
use Rattle.xinu_base.specs.declared.processes.State.TheVariants.{Ready, Suspended}
use Rattle.xinu_model.specs.Heap.Cells.{Stack, take_stack}
use Rattle.xinu_model.specs.Machine.{Xinu, CallResult, start, with_tables, ready_later, returns, refused, blocked, goes_on}
use Rattle.xinu_model.specs.Memory.{in_ram}
use Rattle.xinu_model.specs.Messages.{held}
use Rattle.xinu_model.specs.Process.Scheduling.{is_current, in_state}
use Rattle.xinu_model.specs.Tables.{Tables, process_at, state_at, message_at, is_free, move_to, Nowhere, InReady}
use Rattle.xinu_model.specs.Process.Creation.{stack_size, new_hart, process_name, new_process, free_process, make_process}
use Rattle.xinu_model.specs.Process.Death.{killed, exit}
use Rattle.xinu_model.specs.Footprints.{on_tables, on_processes, on_deaths}
use Rattle.xinu_model.specs.Rows.{Status, Priority, CallRow, row}
use Rattle.xinu_model.specs.Words.{half}
use Rattle.xinu_model.specs.Clock.{yield}

-- whether a process of this state is suspended
abbrev pub is_suspended : State → Bool
is_suspended Suspended = true
is_suspended _ = false

-- whether a process of this state is ready
abbrev pub is_ready : State → Bool
is_ready Ready = true
is_ready _ = false

-- call 1: the number of the caller
abbrev pub getpid : Xinu → CallResult
getpid s = returns (start s) (pos s.tables.current)

-- a process that is created, if a number and a stack are found
abbrev pub created : Option ℕ → Option Stack → ℕ → ℕ → ℤ → List ℕ → ℕ → ℕ → Xinu → CallResult
created (Some p) (Some stack) entry size priority name x y s =
    returns (start (make_process p (new_process name priority s.tables.current stack.top size) (new_hart entry stack.top x y) stack s)) (pos p)
created (Some p) None entry size priority name x y s = refused s
created None stack entry size priority name x y s = refused s

-- Call 2: a new process with this entry, stack and priority, named by the text at an address; it begins with x and y in a0 and a1.
-- It is refused if the priority is below 1, the name doesn't lie in RAM, no number is free or the heap has no such stack.
abbrev pub create : ℕ → ℕ → ℤ → ℕ → ℕ → ℕ → Xinu → CallResult
create entry size priority name x y s =
    if int_lt priority (pos 1) || not (in_ram name 16) then refused s
    else created (free_process s.tables) (take_stack (stack_size size) s.parts.heap) entry (stack_size size) priority (process_name (take 16 (drop name s.memory))) x y s

-- call 3: p becomes ready; its priority; refused if p isn't suspended
abbrev pub resume : ℕ → Xinu → CallResult
resume p s =
    if is_suspended (state_at s.tables p) then returns (ready_later p (start s)) (process_at s.tables p).priority else refused s

-- call 4: p is suspended, or the caller itself; its priority; refused if p is the null process, or neither ready nor current
abbrev pub suspend : ℕ → Xinu → CallResult
suspend p s =
    let t = s.tables in
    let x = process_at t p in
    if p == 0 then refused s
    else (if is_ready x.state then returns (with_tables (move_to p (in_state Suspended x) (message_at t p) Nowhere t) (start s)) x.priority
    else (if p == t.current then blocked Suspended SelfSuspend Nowhere s
    else refused s))

-- call 5: p dies; refused if p is the null process or free
abbrev pub kill : ℕ → Xinu → CallResult
kill p s =
    if (p == 0) || is_free (state_at s.tables p) then refused s
    else (if p == s.tables.current then exit s
    else returns (killed p (start s)) OK)

-- p has another priority; if it is ready it leaves the ready list and enters it again by this key
abbrev pub with_priority : ℕ → ℤ → Tables → Tables
with_priority p priority t =
    let x = record (process_at t p) { priority = priority } in
    if is_ready x.state then move_to p x (message_at t p) InReady t else record t { processes = slice_set t.processes p x }

-- call 7: p gets this priority, and a resched is owed if p is ready or current; the answer is the one before; refused if p is free
abbrev pub chprio : ℕ → ℤ → Xinu → CallResult
chprio p priority s =
    let t = s.tables in
    let x = process_at t p in
    if is_free x.state then refused s
    else returns (record (with_tables (with_priority p priority t) (start s)) { owes_resched = is_ready x.state || is_current x.state }) x.priority

-- call 8: the priority of p; refused if p is free
abbrev pub getprio : ℕ → Xinu → CallResult
getprio p s =
    if is_free (state_at s.tables p) then refused s else returns (start s) (process_at s.tables p).priority

-- the caller goes on after it suspended itself
abbrev pub go_on_suspend : Xinu → CallResult
go_on_suspend s = returns (start (goes_on (held s) s)) (process_at s.tables s.tables.current).priority

-- the calls on processes
abbrev pub process_calls : List CallRow
process_calls =
    row 1 on_tables Status (λ a s. getpid s) ∷
    row 2 on_processes Status (λ a s. create (a 0) (a 1) (half (a 2)) (a 3) (a 4) (a 5) s) ∷
    row 3 on_tables Priority (λ a s. resume (a 0) s) ∷
    row 4 on_tables Priority (λ a s. suspend (a 0) s) ∷
    row 5 on_deaths Status (λ a s. kill (a 0) s) ∷
    row 6 on_tables Status (λ a s. yield s) ∷
    row 7 on_tables Priority (λ a s. chprio (a 0) (half (a 1)) s) ∷
    row 8 on_tables Priority (λ a s. getprio (a 0) s) ∷
    row 9 on_deaths Status (λ a s. exit s) ∷
    []
