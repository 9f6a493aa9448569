-- The current process waits or is suspended, goes on, and spends its quantum.
use Rattle.std.proofs.Common.{◌≡◌, ◌∙◌, ℕ, ◌-◌, ◌<◌, Bool, true, false, not, cond, nat_lt, List, set, length, Option, Some, None, refl, sym, ap, inl, inr, get_or-set_same, get_or, ℤ, pos, negsuc, ◌≤ℤ◌, arith}
use Rattle.std.specs.Prelude.{IfSome}
use Rattle.std.proofs.lemmas.Bool.{cases_lt}
use Rattle.std.proofs.lemmas.Int.{ints}
use Rattle.std.proofs.lemmas.List.{get_or_past, set-get_or}
use Rattle.process_core.proofs.Moves.{move_twice}
use Rattle.queue_table.specs.Lists.{Entry}
use Rattle.process_core.specs.Fits.{Fits}
use Rattle.process_core.specs.Tables.{Beside, process_in, ProcessTable, tables_of, with_process, wake_tick}
use Rattle.process_core.proofs.Fitting.{current_nowhere, fits_same_state, running_within}
use Rattle.process_core.proofs.Removals.{changed_quietly}
use Rattle.process_core.proofs.Steps.{entry_then_moved}
use Rattle.xinu_base.specs.declared.processes.Process.{Process}
use Rattle.xinu_base.specs.declared.processes.Rest.{Rest}
use Rattle.xinu_base.specs.declared.processes.Rest.TheVariants.{Nothing}
use Rattle.xinu_base.specs.declared.processes.State.{State}
use Rattle.xinu_base.specs.declared.processes.State.TheVariants.{Current, Free}
use Rattle.xinu_model.specs.Clock.{quantum_falls}
use Rattle.xinu_model.specs.Process.Scheduling.{in_state, resched}
use Rattle.xinu_model.specs.Tables.{message_at, move_to, Place, no_process, Nowhere, process_at, state_at, Tables}

-- a process that runs is in the table
running_listed : (ps : List Process) (p : ℕ) → (process_in ps p).state ≡ Current → p < length ps
running_listed ps p e = elim (cases_lt p (length ps)) [
  | inl lt ↦ lt
  | inr le ↦ (let past : Free ≡ Current = sym (ap (λ (x : Process). x.state) (get_or_past ps p no_process le)) ∙ e in absurd (cc))
]

-- the current process with another rest
abbrev pub rested : Rest → ProcessTable → Process
rested r s = record (process_in s.processes s.current) { rest = r }

-- lists and processes still fit then
pub fits_rested : (ls : List (List Entry)) (s : ProcessTable) (r : Rest) → Fits ls s.processes
    → (process_in s.processes s.current).state ≡ Current
    → Fits ls (with_process s.current (rested r s) s).processes
fits_rested ls s r f e = fits_same_state ls s.processes s.current (rested r s) f (running_within ls s.processes s.current f e) refl

-- and it still runs
pub runs_rested : (s : ProcessTable) (r : Rest) → (process_in s.processes s.current).state ≡ Current
    → process_in (with_process s.current (rested r s) s).processes s.current ≡ rested r s
runs_rested s r e = get_or-set_same s.processes s.current (rested r s) no_process (running_listed s.processes s.current e)

-- blocked after that, it has moved once
pub blocked_once : (ls : List (List Entry)) (s : ProcessTable) (b : Beside) (state : State) (rest : Rest)
    → (process_in s.processes s.current).state ≡ Current
    → (let t = tables_of ls (with_process s.current (rested rest s) s) b in move_to t.current (in_state state (process_at t t.current))
    (message_at t t.current) Nowhere t)
    ≡ (let t = tables_of ls s b in move_to t.current (record (process_at t t.current) { state = state; rest = rest })
    (message_at t t.current) Nowhere t)
unfolding tables_of
blocked_once ls s b state rest e =
    let x = rested rest s in
    let t = tables_of ls s b in
    let m = message_at t s.current in
    ap (λ y. move_to s.current (in_state state y) m Nowhere (record t { processes = set s.processes s.current x })) (runs_rested s rest e)
    ∙ entry_then_moved s.current x (in_state state x) m Nowhere t

-- a process that runs and has nothing left to do has moved nowhere
pub goes_on_once : (ls : List (List Entry)) (s : ProcessTable) (b : Beside) → Fits ls s.processes
    → (process_in s.processes s.current).state ≡ Current
    → tables_of ls (with_process s.current (rested Nothing s) s) b
    ≡ (let t = tables_of ls s b in move_to t.current (record (process_at t t.current) { rest = Nothing })
    (message_at t t.current) Nowhere t)
unfolding tables_of
goes_on_once ls s b f e = changed_quietly ls s b s.current (rested Nothing s) (current_nowhere ls s.processes s.current f e)

-- the quantum falls and isn't over
pub quantum_goes : (t : Tables) → not (nat_lt 1 t.quantum) ≡ false
    → record t { quantum = cond (nat_lt 1 t.quantum) (t.quantum - 1) 2 } ≡ quantum_falls t
quantum_goes t h = go (nat_lt 1 t.quantum) h
  where
    go : (b : Bool) → not b ≡ false
        → record t { quantum = cond b (t.quantum - 1) 2 }
        ≡ cond b (record t { quantum = t.quantum - 1 }) (resched (record t { quantum = 2 }))
    go true h = refl
    go false h = absurd (cc)

-- it is over, and there is a resched
pub quantum_ends : (t : Tables) → not (nat_lt 1 t.quantum) ≡ true
    → resched (record t { quantum = cond (nat_lt 1 t.quantum) (t.quantum - 1) 2 }) ≡ quantum_falls t
quantum_ends t h = go (nat_lt 1 t.quantum) h
  where
    go : (b : Bool) → not b ≡ true → resched (record t { quantum = cond b (t.quantum - 1) 2 })
        ≡ cond b (record t { quantum = t.quantum - 1 }) (resched (record t { quantum = 2 }))
    go false h = refl
    go true h = absurd (cc)

-- the tables with the quantum that a tick leaves
pub with_quantum : (ls : List (List Entry)) (s : ProcessTable) (b : Beside)
    → tables_of ls (record s { quantum = cond (nat_lt 1 s.quantum) (s.quantum - 1) 2 }) b
    ≡ (let t = tables_of ls s b in record t { quantum = cond (nat_lt 1 t.quantum) (t.quantum - 1) 2 })
unfolding tables_of
with_quantum ls s b = refl

-- whether it is over, by the process table and by the tables
pub quantum_of : (ls : List (List Entry)) (s : ProcessTable) (b : Beside) (e : Bool) → not (nat_lt 1 s.quantum) ≡ e
    → not (nat_lt 1 (tables_of ls s b).quantum) ≡ e
unfolding tables_of
quantum_of ls s b e h = h

-- who runs, by the process table
pub current_in : (ls : List (List Entry)) (s : ProcessTable) (b : Beside)
    → state_at (tables_of ls s b) (tables_of ls s b).current ≡ Current → (process_in s.processes s.current).state ≡ Current
unfolding tables_of
current_in ls s b h = h

-- the ticks, by what is beside lists and processes
pub few_ticks : (ls : List (List Entry)) (s : ProcessTable) (b : Beside) (n : ℕ) → (tables_of ls s b).ticks < n → b.ticks < n
unfolding tables_of
few_ticks ls s b n h = h

-- what holds anyway holds if there is something
pub if_some : (o : Option ℕ) (P : Type 0) → P → IfSome o (λ _. P)
if_some None P h = tt
if_some (Some m) P h = h

-- a process that has left its list as it is to be goes to its place: it has moved once
pub moved_on : (t : Tables) (x : Process) (place : Place) → t.current < length t.processes
    → (let u = move_to t.current x (message_at t t.current) Nowhere t in move_to t.current (process_at u t.current)
    (message_at u t.current) place u)
    ≡ move_to t.current x (message_at t t.current) place t
moved_on t x place lt =
    let c = t.current in
    let m = message_at t c in
    let u = move_to c x m Nowhere t in
    ap (λ y. move_to c y (message_at u c) place u) (get_or-set_same t.processes c x no_process lt)
    ∙ ap (λ (l : List (Option ℕ)). move_to c x (get_or l c None) place u) (set-get_or t.messages c None)
    ∙ move_twice c x x m m place t

-- a delay of at least 1 ends later
pub later_tick : (ticks : ℕ) (delay : ℤ) → pos 1 ≤ℤ delay → ticks < wake_tick ticks delay
later_tick ticks (pos n) le = omega (arith, ints, le)
later_tick ticks (negsuc n) le = absurd (omega (arith, ints, le))

-- the current process is in the table of processes
pub current_listed : (ls : List (List Entry)) (s : ProcessTable) (b : Beside) → (process_in s.processes s.current).state ≡ Current
    → (tables_of ls s b).current < length (tables_of ls s b).processes
unfolding tables_of
current_listed ls s b e = running_listed s.processes s.current e

-- the process that is current, by the tables
pub current_of : (ls : List (List Entry)) (s : ProcessTable) (b : Beside) (p : ℕ) → p ≡ s.current → p ≡ (tables_of ls s b).current
unfolding tables_of
current_of ls s b p e = e

-- the tick at which it wakes
pub wakes_at : (ls : List (List Entry)) (s : ProcessTable) (b : Beside) (delay : ℤ)
    → wake_tick b.ticks delay ≡ wake_tick (tables_of ls s b).ticks delay
unfolding tables_of
wakes_at ls s b delay = refl
