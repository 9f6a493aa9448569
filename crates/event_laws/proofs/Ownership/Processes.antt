-- A process that is made has a stack that was free, and one that dies leaves its stack free: each address stays claimed at most once.
use Rattle.std.proofs.Common.{◌≡◌, ℕ, zero, suc, ◌+◌, ◌*◌, ◌==◌, ◌≤◌, true, not, ◌||◌, cond, List, [], ◌∷◌, set, get_or, take, drop, Option, Some, None, refl, sym, ap, ◌∙◌, arith, ℤ, pos, inl, inr, ⊎_elim, length}
use Rattle.std.specs.Prelude.{int_lt, unwrap_or}
use Rattle.std.proofs.lemmas.Bool.{cond_both}
use Rattle.xinu_base.specs.declared.processes.Process.{Process}
use Rattle.xinu_base.specs.declared.registers.Hart.{Hart}
use Rattle.event_laws.specs.Ownership.Apart.{is_in_stack, HasStackIn, IsApart}
use Rattle.xinu_model.specs.Devices.State.{given_up}
use Rattle.xinu_model.specs.Heap.Cells.{Heap, cells_for, Stack, take_stack, free_stack}
use Rattle.xinu_model.specs.Machine.{Xinu, no_hart, CallState, CallResult, start, returns, refused}
use Rattle.xinu_model.specs.Memory.{in_ram}
use Rattle.xinu_model.specs.Messages.{sent}
use Rattle.xinu_model.specs.Process.Creation.{stack_size, new_hart, process_name, new_process, free_process, make_process}
use Rattle.xinu_model.specs.Process.Death.{reap, killed, exit}
use Rattle.xinu_model.specs.Process.Calls.{created, create, kill}
use Rattle.xinu_model.specs.Tables.{no_process, process_at, state_at, is_free, Nowhere, move_to}
use Rattle.event_laws.proofs.Ownership.Claims.{stack_at, apart_kept, stack_stays, low_stays, stack_parts, stack_from, empty_stack, InCells, claim_taken, claim_freed}
use Rattle.xinu_model.specs.Footprints.{on_tables}
use Rattle.xinu_laws.specs.Touches.{reach, stack_of, KeepsPlaces, Touches}
use Rattle.xinu_laws.proofs.Touches.Kept.{keeps_places}
use Rattle.xinu_laws.proofs.Touches.Moves.{touches_sent}
use Rattle.table_laws.proofs.Lists.Maps.{one, times_set}
use Rattle.part_laws.proofs.HeapCells.Marked.{as_many_cells}
use Rattle.part_laws.proofs.HeapCells.Taken.{getstk_finds, freestk_frees}

-- what holds of what is written, and of each element, holds of each element after the write
each_set : {A : Type 0} (P : A → Type 0) (l : List A) (i : ℕ) (x d : A) → P x → ((j : ℕ) → P (get_or l j d)) → (j : ℕ)
    → P (get_or (set l i x) j d)
each_set P [] i x d new old j = old j
each_set P (y ∷ l) zero x d new old zero = new
each_set P (y ∷ l) zero x d new old (suc j) = old (suc j)
each_set P (y ∷ l) (suc i) x d new old zero = old zero
each_set P (y ∷ l) (suc i) x d new old (suc j) = each_set P l i x d new (λ k. old (suc k)) j

-- a stack is whole cells
whole_stack : (wanted : ℕ) → stack_size wanted ≡ 8 * cells_for (stack_size wanted)
whole_stack wanted = omega arith

-- the stack of a new process is whole cells of the heap
new_stack : (h : Heap) (stack : Stack) (wanted : ℕ) (x : Process) → take_stack (stack_size wanted) h ≡ Some stack
    → stack_of x ≡ (stack.top, stack_size wanted) → HasStackIn stack.heap x
new_stack h stack wanted x e same =
    let g = getstk_finds (stack_size wanted) h stack e in
    let k = cells_for (stack_size wanted) in
    let whole = whole_stack wanted in
    let top : x.stack ≡ stack.top = ap (λ (y : ℕ × ℕ). y.0) same in
    let size : x.stack_size ≡ stack_size wanted = ap (λ (y : ℕ × ℕ). y.1) same in
    let high = g.top in
    let low = g.taken.low in
    let many = as_many_cells g.taken in
    let room = g.taken.before.within in
    inr (g.start, k, omega arith, omega arith, omega arith)

-- A process is made on a stack of the heap.
pub apart_made : (p : ℕ) (x : Process) (hart : Hart) (stack : Stack) (wanted : ℕ) (s : Xinu)
    → take_stack (stack_size wanted) s.parts.heap ≡ Some stack → stack_of x ≡ (stack.top, stack_size wanted) → IsApart s
    → IsApart (make_process p x hart stack s)
apart_made p x hart stack wanted s e same apart =
    let g = getstk_finds (stack_size wanted) s.parts.heap stack e in
    let l = s.tables.processes in
    record {
      low = low_stays s.parts.heap stack.heap g.taken.low apart.low;
      stacks = each_set (HasStackIn stack.heap) l p x no_process
          (new_stack s.parts.heap stack wanted x e same)
          (λ q. stack_stays s.parts.heap stack.heap (process_at s.tables q) g.taken.low (as_many_cells g.taken) (apart.stacks q));
      claims = λ a.
          let within : is_in_stack a x ≡ true → InCells s.parts.heap.low g.start (cells_for (stack_size wanted)) a = λ h.
          (let parts = stack_parts a x h in
          let at = g.top in
          let whole = whole_stack wanted in
          let top : x.stack ≡ stack.top = ap (λ (y : ℕ × ℕ). y.0) same in
          let size : x.stack_size ≡ stack_size wanted = ap (λ (y : ℕ × ℕ). y.1) same in
          (omega arith, omega arith)) in
          let less = claim_taken g.taken a (is_in_stack a x) within in
          let set = times_set (is_in_stack a) l p x no_process (empty_stack a no_process refl) in
          let few = apart.claims a in
          omega arith;
    }

-- call 2
apart_created : (number : Option ℕ) (found : Option Stack) (entry wanted : ℕ) (priority : ℤ) (name : List ℕ) (x y : ℕ) (s : Xinu)
    → take_stack (stack_size wanted) s.parts.heap ≡ found → IsApart s
    → IsApart (created number found entry (stack_size wanted) priority name x y s).call.state
apart_created (Some p) (Some stack) entry wanted priority name x y s e apart =
    apart_made p (new_process name priority s.tables.current stack.top (stack_size wanted))
    (new_hart entry stack.top x y) stack wanted s e refl apart
apart_created (Some p) None entry wanted priority name x y s e apart = apart
apart_created None found entry wanted priority name x y s e apart = apart

pub apart_create : (entry size : ℕ) (priority : ℤ) (name x y : ℕ) (s : Xinu) → IsApart s
    → IsApart (create entry size priority name x y s).call.state
apart_create entry size priority name x y s apart =
    let bytes = process_name (take 16 (drop name s.memory)) in
    cond_both (int_lt priority (pos 1) || not (in_ram name 16)) (refused s)
    (created (free_process s.tables) (take_stack (stack_size size) s.parts.heap) entry (stack_size size) priority bytes x y s)
    (λ (h : CallResult). IsApart h.call.state)
    (λ _. apart)
    (λ _. apart_created (free_process s.tables) (take_stack (stack_size size) s.parts.heap) entry size priority bytes x y s refl apart)

-- the machine without process p and what it asked of disks, with a heap
abbrev without : ℕ → Heap → Xinu → Xinu
without p u s =
    record s { tables = move_to p no_process None Nowhere s.tables; harts = set s.harts p no_hart; parts = record s.parts { heap = u; devices = given_up p s.parts.devices } }

-- a dead process leaves its stack as it is, if the heap refuses it
apart_left : (p : ℕ) (s : Xinu) → IsApart s → IsApart (without p s.parts.heap s)
apart_left p s apart =
    let l = s.tables.processes in
    record {
      low = apart.low;
      stacks = each_set (HasStackIn s.parts.heap) l p no_process no_process (inl refl) apart.stacks;
      claims = λ a.
          let set = times_set (is_in_stack a) l p no_process no_process (empty_stack a no_process refl) in
          let none = ap one (empty_stack a no_process refl) in
          let few = apart.claims a in
          omega arith;
    }

-- a stack that is empty, or whole cells, is as large as its cells
stack_fills : (h : Heap) (x : Process) → HasStackIn h x → x.stack_size ≡ 8 * cells_for x.stack_size
stack_fills h x has =
    ⊎_elim
    (λ (none : x.stack_size ≡ 0). omega arith)
    (λ (some : (k : ℕ) × (n : ℕ) × (x.stack + 4 ≡ h.low + 8 * (k + n)) × (x.stack_size ≡ 8 * n) × (k + n ≤ length h.cells)). let e = some.3 in omega arith)
    has

-- and leaves it free, if the heap takes it
apart_without : (p : ℕ) (u : Heap) (s : Xinu)
    → free_stack (process_at s.tables p).stack (process_at s.tables p).stack_size s.parts.heap ≡ Some u → IsApart s
    → IsApart (without p u s)
apart_without p u s e apart =
    let l = s.tables.processes in
    let x = process_at s.tables p in
    let f = freestk_frees x.stack x.stack_size s.parts.heap u apart.low e in
    let fills = stack_fills s.parts.heap x (apart.stacks p) in
    record {
      low = low_stays s.parts.heap u f.freed.low apart.low;
      stacks = each_set (HasStackIn u) l p no_process no_process (inl refl)
          (λ q. stack_stays s.parts.heap u (process_at s.tables q) f.freed.low (as_many_cells f.freed) (apart.stacks q));
      claims = λ a.
          let within : InCells s.parts.heap.low f.start (cells_for x.stack_size) a → is_in_stack a x ≡ true = λ i.
          (let at = f.place in stack_from a x (let high = i.1 in omega arith) (let low = i.0 in omega arith)) in
          let more = claim_freed f.freed a (is_in_stack a x) within in
          let set = times_set (is_in_stack a) l p no_process no_process (empty_stack a no_process refl) in
          let none = ap one (empty_stack a no_process refl) in
          let few = apart.claims a in
          omega arith;
    }

-- a dead process, whether the heap takes its stack or not
apart_either : (p : ℕ) (found : Option Heap) (s : Xinu)
    → free_stack (process_at s.tables p).stack (process_at s.tables p).stack_size s.parts.heap ≡ found → IsApart s
    → IsApart (without p (unwrap_or found s.parts.heap) s)
apart_either p None s e apart = apart_left p s apart
apart_either p (Some u) s e apart = apart_without p u s e apart

-- A process is reaped.
pub apart_reap : (p : ℕ) (x : Process) (d : CallState) → stack_of x ≡ stack_of (process_at d.state.tables p) → IsApart d.state
    → IsApart (reap p x d).state
apart_reap p x d same apart =
    let h = d.state.parts.heap in
    let e : free_stack (process_at d.state.tables p).stack
    (process_at d.state.tables p).stack_size h ≡ free_stack x.stack x.stack_size h = sym (ap (λ (y : ℕ × ℕ). free_stack y.0 y.1 h) same) in
    apart_either p (free_stack x.stack x.stack_size h) d.state e apart

-- A process dies.
pub apart_killed : (p : ℕ) (d : CallState) → IsApart d.state → IsApart (killed p d).state
apart_killed p d apart =
    let x = process_at d.state.tables p in
    let told = sent x.parent p d in
    let touches : Touches (reach on_tables) d.state told.state = touches_sent x.parent p d in
    let kept : KeepsPlaces d.state told.state = keeps_places touches refl refl refl in
    let same = stack_at d.state.tables p ∙ ap (λ l. get_or l p (0, 0)) (sym kept.stacks) ∙ sym (stack_at told.state.tables p) in
    apart_reap p x told same (apart_kept kept apart)

-- call 9, a trap, and the return from a process's first function
pub apart_exit : (s : Xinu) → IsApart s → IsApart (exit s).call.state
apart_exit s apart = apart_killed s.tables.current (start s) apart

-- call 5
pub apart_kill : (p : ℕ) (s : Xinu) → IsApart s → IsApart (kill p s).call.state
apart_kill p s apart =
    let other = returns (killed p (start s)) (pos 0) in
    cond_both ((p == 0) || is_free (state_at s.tables p)) (refused s) (cond (p == s.tables.current) (exit s) other)
    (λ (h : CallResult). IsApart h.call.state)
    (λ _. apart)
    (λ _. cond_both (p == s.tables.current) (exit s) other (λ (h : CallResult). IsApart h.call.state) (λ _. apart_exit s apart)
    (λ _. apart_killed p (start s) apart))
