-- Pools and stacks come only from what was free: a pool or a process that is made has memory of the heap, and nothing else gives them any.
use Rattle.std.proofs.Common.{◌≡◌, ℕ, ◌≤◌, ◌==◌, true, false, not, ◌&&◌, ◌||◌, cond, List, [], ◌∷◌, length, map, take, drop, Option, Some, None, refl, ap, subst, arith, ℤ, pos, ⊎_elim}
use Rattle.std.specs.Prelude.{int_lt, nat_lt}
use Rattle.std.proofs.lemmas.Bool.{cases_Bool, cond_both}
use Rattle.xinu_base.specs.declared.processes.Process.{Process}
use Rattle.xinu_base.specs.declared.registers.Hart.{Hart}
use Rattle.event_laws.specs.Ownership.Apart.{is_in_pool, is_in_stack, holders}
use Rattle.part_laws.specs.FreeCells.{is_in_free}
use Rattle.event_laws.specs.Ownership.Grants.{GivesOnlyFree}
use Rattle.xinu_model.specs.Footprints.{on_tables}
use Rattle.xinu_model.specs.Heap.Cells.{Grant, Stack, take_memory, take_stack}
use Rattle.xinu_model.specs.Machine.{Xinu, CallState, CallResult, start, refused, returns}
use Rattle.xinu_model.specs.Memory.{in_ram}
use Rattle.xinu_model.specs.Messages.{sent}
use Rattle.xinu_model.specs.Pools.Buffers.{most_pools, pool_bytes, whole_words, new_pool, meets_pool}
use Rattle.xinu_model.specs.Pools.Calls.{with_pool, made_pool, is_pool_size, mkbufpool}
use Rattle.xinu_model.specs.Process.Calls.{created, create, kill}
use Rattle.xinu_model.specs.Process.Creation.{stack_size, new_hart, process_name, new_process, free_process, make_process}
use Rattle.xinu_model.specs.Process.Death.{killed, exit}
use Rattle.xinu_model.specs.Semaphores.Counts.{free_semaphore}
use Rattle.xinu_model.specs.Tables.{no_process, process_at, state_at, is_free}
use Rattle.part_laws.proofs.HeapCells.Taken.{grants_were_free, stacks_were_free}
use Rattle.table_laws.proofs.Lists.Counts.{times-append}
use Rattle.table_laws.proofs.Lists.Maps.{one, times_first, times_set}
use Rattle.event_laws.proofs.Ownership.Claims.{empty_stack, holders_kept, pool_parts, stack_parts}
use Rattle.xinu_laws.specs.Touches.{reach, range_of, stacks_of, KeepsPlaces, Touches}
use Rattle.xinu_laws.proofs.Touches.Moves.{touches_sent}

-- where no address has more holders nothing is given
pub gives_nothing : (s u : Xinu) → ((a : ℕ) → holders u a ≤ holders s a) → GivesOnlyFree s u
gives_nothing s u few a more = let f = few a in absurd (omega arith)

-- nor if all places stay as they are
pub gives_kept : {s u : Xinu} → KeepsPlaces s u → GivesOnlyFree s u
gives_kept {s} {u} k = gives_nothing s u (λ a. let e = holders_kept s u k.ranges k.stacks a in omega arith)

-- nor if the pools' ranges and the stacks do
pub gives_within : (s u : Xinu) → map range_of u.parts.pools ≡ map range_of s.parts.pools → stacks_of u.tables ≡ stacks_of s.tables
    → GivesOnlyFree s u
gives_within s u ranges stacks = gives_nothing s u (λ a. let e = holders_kept s u ranges stacks a in omega arith)

-- what is given before the places stay, or after it
pub gives_before : (s u v : Xinu) → GivesOnlyFree s u → KeepsPlaces u v → GivesOnlyFree s v
gives_before s u v g k a more = let e = holders_kept u v k.ranges k.stacks a in g a (omega arith)

pub gives_after : (s u v : Xinu) → KeepsPlaces s u → GivesOnlyFree u v → GivesOnlyFree s v
gives_after s u v k g a more =
    let e = holders_kept s u k.ranges k.stacks a in subst (λ h. is_in_free a h ≡ true) k.heap (g a (omega arith))

-- A process is made on a stack that was free.
gives_made : (p : ℕ) (x : Process) (hart : Hart) (stack : Stack) (wanted : ℕ) (s : Xinu) → take_stack wanted s.parts.heap ≡ Some stack
    → x.stack ≡ stack.top → x.stack_size ≡ wanted → GivesOnlyFree s (make_process p x hart stack s)
gives_made p x hart stack wanted s e top size a more =
    let set = times_set (is_in_stack a) s.tables.processes p x no_process (empty_stack a no_process refl) in
    ⊎_elim
    (λ (inside : is_in_stack a x ≡ true). let parts = stack_parts a x inside in (stacks_were_free wanted s.parts.heap stack e a
    (omega arith) (omega arith)).0)
    (λ (outside : is_in_stack a x ≡ false). let no = ap one outside in absurd (omega arith))
    (cases_Bool (is_in_stack a x))

gives_created : (number : Option ℕ) (found : Option Stack) (entry size : ℕ) (priority : ℤ) (name : List ℕ) (x y : ℕ) (s : Xinu)
    → take_stack size s.parts.heap ≡ found → GivesOnlyFree s (created number found entry size priority name x y s).call.state
gives_created (Some p) (Some stack) entry size priority name x y s e =
    gives_made p (new_process name priority s.tables.current stack.top size) (new_hart entry stack.top x y) stack size s e refl refl
gives_created (Some p) None entry size priority name x y s e = gives_nothing s s (λ a. omega arith)
gives_created None found entry size priority name x y s e = gives_nothing s s (λ a. omega arith)

-- call 2
pub gives_create : (entry size : ℕ) (priority : ℤ) (name x y : ℕ) (s : Xinu)
    → GivesOnlyFree s (create entry size priority name x y s).call.state
gives_create entry size priority name x y s =
    let bytes = process_name (take 16 (drop name s.memory)) in
    let found = take_stack (stack_size size) s.parts.heap in
    cond_both (int_lt priority (pos 1) || not (in_ram name 16)) (refused s)
    (created (free_process s.tables) found entry (stack_size size) priority bytes x y s)
    (λ (h : CallResult). GivesOnlyFree s h.call.state)
    (λ _. gives_nothing s s (λ a. omega arith))
    (λ _. gives_created (free_process s.tables) found entry (stack_size size) priority bytes x y s refl)

-- A process that dies gives nothing.
gives_killed : (p : ℕ) (d : CallState) → GivesOnlyFree d.state (killed p d).state
gives_killed p d =
    let x = process_at d.state.tables p in
    let told = sent x.parent p d in
    let touches : Touches (reach on_tables) d.state told.state = touches_sent x.parent p d in
    gives_nothing d.state (killed p d).state (λ a.
    let kept = holders_kept d.state told.state (touches.parts.ranges refl) (touches.stacks refl) a in
    let set = times_set (is_in_stack a) told.state.tables.processes p no_process no_process (empty_stack a no_process refl) in
    let none = ap one (empty_stack a no_process refl) in
    omega arith)

-- call 9, a trap, and the return from a process's first function
pub gives_exit : (s : Xinu) → GivesOnlyFree s (exit s).call.state
gives_exit s = gives_killed s.tables.current (start s)

-- call 5
pub gives_kill : (p : ℕ) (s : Xinu) → GivesOnlyFree s (kill p s).call.state
gives_kill p s =
    let other = returns (killed p (start s)) (pos 0) in
    cond_both ((p == 0) || is_free (state_at s.tables p)) (refused s) (cond (p == s.tables.current) (exit s) other)
    (λ (h : CallResult). GivesOnlyFree s h.call.state)
    (λ _. gives_nothing s s (λ a. omega arith))
    (λ _. cond_both (p == s.tables.current) (exit s) other (λ (h : CallResult). GivesOnlyFree s h.call.state) (λ _. gives_exit s)
    (λ _. gives_killed p (start s)))

-- A pool is made of memory that was free.
gives_with_pool : (grant : Grant) (sem size n : ℕ) (s : Xinu) → take_memory (pool_bytes size n) s.parts.heap ≡ Some grant
    → GivesOnlyFree s (with_pool grant sem size n s).call.state
gives_with_pool grant sem size n s e a more =
    let pool = new_pool grant.address size n sem in
    let both = times-append (is_in_pool a) s.parts.pools (pool ∷ []) in
    let new = times_first (is_in_pool a) pool [] in
    ⊎_elim
    (λ (inside : is_in_pool a pool ≡ true). let parts = pool_parts a pool inside in (grants_were_free (pool_bytes size n) s.parts.heap grant e a parts.0 parts.1).0)
    (λ (outside : is_in_pool a pool ≡ false). let no = ap one outside in absurd (omega arith))
    (cases_Bool (is_in_pool a pool))

gives_made_pool : (found : Option Grant) (sem : Option ℕ) (size n : ℕ) (s : Xinu) → take_memory (pool_bytes size n) s.parts.heap ≡ found
    → GivesOnlyFree s (made_pool found sem size n s).call.state
gives_made_pool (Some grant) (Some sem) size n s e =
    cond_both (meets_pool grant.address (pool_bytes size n) s.parts.pools) (refused s) (with_pool grant sem size n s)
    (λ (h : CallResult). GivesOnlyFree s h.call.state)
    (λ _. gives_nothing s s (λ a. omega arith)) (λ _. gives_with_pool grant sem size n s e)
gives_made_pool (Some grant) None size n s e = gives_nothing s s (λ a. omega arith)
gives_made_pool None sem size n s e = gives_nothing s s (λ a. omega arith)

-- call 28
pub gives_mkbufpool : (size n : ℕ) (s : Xinu) → GivesOnlyFree s (mkbufpool size n s).call.state
gives_mkbufpool size n s =
    let bytes = pool_bytes (whole_words size) n in
    cond_both (is_pool_size size n && nat_lt (length s.parts.pools) most_pools)
    (made_pool (take_memory bytes s.parts.heap) (free_semaphore s.tables) (whole_words size) n s) (refused s)
    (λ (h : CallResult). GivesOnlyFree s h.call.state)
    (λ _. gives_made_pool (take_memory bytes s.parts.heap) (free_semaphore s.tables) (whole_words size) n s refl)
    (λ _. gives_nothing s s (λ a. omega arith))
