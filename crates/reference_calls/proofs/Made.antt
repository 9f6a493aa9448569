-- How a process is made on a stack, and how one is killed.
use Rattle.std.proofs.Common.{◌≡◌, ◌∙◌, ◌==◌, ℕ, ℤ, pos, Bool, false, if◌then◌else◌, List, None, Some, sym, ap}
use Rattle.std.specs.Prelude.{◌||◌, slice_set}
use Rattle.xinu_base.specs.Constants.{OK}
use Rattle.xinu_base.specs.declared.processes.Process.{Process}
use Rattle.xinu_base.specs.declared.registers.Hart.{Hart}
use Rattle.xinu_model.specs.Heap.Cells.{Heap, take_stack}
use Rattle.xinu_model.specs.Machine.{CallResult, CallState, refused, returns, start, Xinu}
use Rattle.xinu_model.specs.Process.Calls.{created, kill}
use Rattle.xinu_model.specs.Process.Creation.{new_hart, new_process, stack_size}
use Rattle.xinu_model.specs.Process.Death.{exit, killed}
use Rattle.xinu_model.specs.Tables.{is_free, move_to, Nowhere, state_at}
use Rattle.reference_calls.specs.Heaps.{with_heap}

-- the state with a process and its registers, the last that was made
abbrev pub with_process : ℕ → Process → Hart → CallState → CallState
with_process p x hart d = record d {
  state = record d.state {
    tables = record (move_to p x None Nowhere d.state.tables) { last_process = p };
    harts = slice_set d.state.harts p hart;
  };
}

-- step by step, the heap first
pub created_on : (p pc n top a b : ℕ) (priority : ℤ) (name : List ℕ) (heap : Heap) (x : Process) (hart : Hart) (s : Xinu)
    (d d1 d2 : CallState) → d ≡ start s → take_stack (stack_size n) s.parts.heap ≡ Some (record { top = top; heap = heap }) → d1 ≡ with_heap heap d
    → d2 ≡ with_process p x hart d1 → x ≡ new_process name priority s.tables.current top (stack_size n) → hart ≡ new_hart pc top a b
    → returns d2 (pos p) ≡ created (Some p) (take_stack (stack_size n) s.parts.heap) pc (stack_size n) priority name a b s
created_on p pc n top a b priority name heap x hart s d d1 d2 begins found taken made is has =
    let new = new_process name priority s.tables.current top (stack_size n) in
    ap (λ d. returns d (pos p))
    (made ∙ ap (with_process p x hart) (taken ∙ ap (with_heap heap) begins)
    ∙ ap (λ x. with_process p x hart (with_heap heap (start s))) is
    ∙ ap (λ hart. with_process p new hart (with_heap heap (start s))) has)
    ∙ ap (λ o. created (Some p) o pc (stack_size n) priority name a b s) (sym found)

-- a process that is killed by another
pub kill_other : (p : ℕ) (s : Xinu) (d d1 : CallState) → d ≡ start s → (p == 0) ≡ false → is_free (state_at s.tables p) ≡ false
    → (p == s.tables.current) ≡ false → d1 ≡ killed p d → returns d1 OK ≡ kill p s
kill_other p s d d1 begins some lives other dead =
    let by : Bool → Bool → Bool → CallResult =
    λ z f c. if z || f then refused s else (if c then exit s else returns (killed p (start s)) OK) in
    ap (λ d. returns d OK) (dead ∙ ap (killed p) begins)
    ∙ ap (by false false) (sym other)
    ∙ ap (λ f. by false f (p == s.tables.current)) (sym lives)
    ∙ ap (λ z. by z (is_free (state_at s.tables p)) (p == s.tables.current)) (sym some)
