-- What a removal from a list leaves of the tables: the process has moved out of all lists.
use Rattle.std.proofs.Common.{◌≡◌, ◌≢◌, ◌∙◌, ℕ, zero, suc, ◌<◌, true, false, not, eqb, cond, List, [], ◌∷◌, map, get_or, take, refl, sym, ap, arith, Option, None, Some, ℤ}
use Rattle.std.proofs.lemmas.Bool.Decides.{nat_tests}
use Rattle.std.proofs.lemmas.List.{set-get_or, set-set, take-map}
use Rattle.xinu_base.specs.Insert.{ready_insert}
use Rattle.xinu_base.specs.declared.processes.Process.{Process}
use Rattle.queue_table.specs.declared.table.QueueTable.{QueueTable}
use Rattle.queue_table.specs.Table.{lists}
use Rattle.queue_table.specs.Lists.{Entry, is_listed, list_at, place, with_list, without, all_without, all_delta_without, delta_without}
use Rattle.queue_table.proofs.Laws.{all_without_none, disjoint, first_placed, list_at-same, list_at_without, list_at_delta_without, place-none, place-some, queues_of}
use Rattle.queue_table.proofs.Deltas.{delta_without-absent}
use Rattle.queue_table.proofs.Places.{map-with, without-absent}
use Rattle.xinu_model.specs.Tables.{process_at, message_at, move_to, Nowhere, entries_without, waits_without}
use Rattle.process_core.specs.Tables.{ProcessTable, Beside, semaphores_of, sleepers_of, tables_of, process_in, with_process, with_message}
use Rattle.process_core.proofs.Without.{without_is, semaphores-without}
use Rattle.process_core.proofs.Sleepers.{sleepers_without}

-- no message moves if p keeps the one that it holds
pub message_kept : (p : ℕ) (b : Beside) → with_message p (get_or b.messages p None) b ≡ b
message_kept p b = ap (λ l. record b { messages = l }) (set-get_or b.messages p None)

-- the sleepers of a list in which p isn't
sleepers_absent : (p t : ℕ) (l : List Entry) → is_listed p l ≡ false → entries_without p (sleepers_of t l) ≡ sleepers_of t l
sleepers_absent p t l h = sym (sleepers_without p t l) ∙ ap (sleepers_of t) (delta_without-absent p l h)

-- p, which is no sleeper, is taken out of its list, and becomes x with message m
pub taken : (ls : List (List Entry)) (s : ProcessTable) (b : Beside) (p : ℕ) (x : Process) (m : Option ℕ)
    → is_listed p (list_at ls 129) ≡ false
    → tables_of (all_without p ls) (with_process p x s) (with_message p m b) ≡ move_to p x m Nowhere (tables_of ls s b)
unfolding tables_of all_without
taken ls s b p x m h =
    let ready : list_at (map (without p) ls) 128 ≡ entries_without p (list_at ls 128)
    = list_at_without ls p 128 ∙ without_is p (list_at ls 128) in
    let sleep : list_at (map (without p) ls) 129 ≡ list_at ls 129 = list_at_without ls p 129 ∙ without-absent p (list_at ls 129) h in
    let sems : semaphores_of (take 128 (map (without p) ls)) b.marks ≡ waits_without p (semaphores_of (take 128 ls) b.marks)
    = ap (λ l. semaphores_of l b.marks) (take-map (without p) 128 ls) ∙ semaphores-without p (take 128 ls) b.marks in
    let z : entries_without p (sleepers_of b.ticks (list_at ls 129)) ≡ sleepers_of b.ticks (list_at ls 129)
    = sleepers_absent p b.ticks (list_at ls 129) h in
    rw (ready, sleep, sems, z) refl

-- the first lists, of which p is taken out as out of delta lists, if it is in none of them
first_same : (p n : ℕ) (ls : List (List Entry)) → ((q : ℕ) → q < n → list_at (map (delta_without p) ls) q ≡ without p (list_at ls q))
    → take n (map (delta_without p) ls) ≡ map (without p) (take n ls)
first_same p zero ls e = refl
first_same p (suc n) [] e = refl
first_same p (suc n) (l ∷ ls) e =
    ap (λ y. y ∷ take n (map (delta_without p) ls)) (e 0 (omega arith))
    ∙ ap (λ m. without p l ∷ m) (first_same p n ls (λ q lt. e (suc q) (omega (arith, lt))))

-- p, which is in no list but perhaps the sleepers, is taken out of them, and becomes x with message m
pub taken_sleeper : (ls : List (List Entry)) (s : ProcessTable) (b : Beside) (p : ℕ) (x : Process) (m : Option ℕ)
    → ((q : ℕ) → q ≢ 129 → is_listed p (list_at ls q) ≡ false)
    → tables_of (all_delta_without p ls) (with_process p x s) (with_message p m b) ≡ move_to p x m Nowhere (tables_of ls s b)
unfolding tables_of all_delta_without
taken_sleeper ls s b p x m h =
    let other : (q : ℕ) → q ≢ 129 → list_at (map (delta_without p) ls) q ≡ without p (list_at ls q)
    = λ q n. list_at_delta_without ls p q ∙ delta_without-absent p (list_at ls q) (h q n) ∙ sym (without-absent p (list_at ls q) (h q n)) in
    let ready : list_at (map (delta_without p) ls) 128 ≡ entries_without p (list_at ls 128)
    = other 128 (λ x. omega arith) ∙ without_is p (list_at ls 128) in
    let sleep : sleepers_of b.ticks (list_at (map (delta_without p) ls) 129) ≡ entries_without p (sleepers_of b.ticks (list_at ls 129))
    = ap (sleepers_of b.ticks) (list_at_delta_without ls p 129) ∙ sleepers_without p b.ticks (list_at ls 129) in
    let sems : semaphores_of (take 128 (map (delta_without p) ls)) b.marks ≡ waits_without p (semaphores_of (take 128 ls) b.marks)
    = ap (λ l. semaphores_of l b.marks) (first_same p 128 ls (λ q lt. other q (λ x. omega arith)))
    ∙ semaphores-without p (take 128 ls) b.marks in
    rw (ready, sleep, sems) refl

-- p, which is in no list, becomes x with message m
pub changed : (ls : List (List Entry)) (s : ProcessTable) (b : Beside) (p : ℕ) (x : Process) (m : Option ℕ) → place ls p ≡ None
    → tables_of ls (with_process p x s) (with_message p m b) ≡ move_to p x m Nowhere (tables_of ls s b)
changed ls s b p x m none =
    ap (λ l. tables_of l (with_process p x s) (with_message p m b)) (sym (all_without_none ls p none))
    ∙ taken ls s b p x m (place-none ls p none 129)

-- the same if p keeps its message
pub taken_quietly : (ls : List (List Entry)) (s : ProcessTable) (b : Beside) (p : ℕ) (x : Process) → is_listed p (list_at ls 129) ≡ false
    → tables_of (all_without p ls) (with_process p x s) b ≡ move_to p x (message_at (tables_of ls s b) p) Nowhere (tables_of ls s b)
unfolding tables_of
taken_quietly ls s b p x h =
    ap (tables_of (all_without p ls) (with_process p x s)) (sym (message_kept p b)) ∙ taken ls s b p x (get_or b.messages p None) h

pub taken_sleeper_quietly : (ls : List (List Entry)) (s : ProcessTable) (b : Beside) (p : ℕ) (x : Process)
    → ((q : ℕ) → q ≢ 129 → is_listed p (list_at ls q) ≡ false)
    → tables_of (all_delta_without p ls) (with_process p x s) b ≡ move_to p x (message_at (tables_of ls s b) p) Nowhere (tables_of ls s b)
unfolding tables_of
taken_sleeper_quietly ls s b p x h =
    ap (tables_of (all_delta_without p ls) (with_process p x s)) (sym (message_kept p b))
    ∙ taken_sleeper ls s b p x (get_or b.messages p None) h

pub changed_quietly : (ls : List (List Entry)) (s : ProcessTable) (b : Beside) (p : ℕ) (x : Process) → place ls p ≡ None
    → tables_of ls (with_process p x s) b ≡ move_to p x (message_at (tables_of ls s b) p) Nowhere (tables_of ls s b)
unfolding tables_of
changed_quietly ls s b p x none =
    ap (tables_of ls (with_process p x s)) (sym (message_kept p b)) ∙ changed ls s b p x (get_or b.messages p None) none

-- a process keeps its entry if the entry is written again
pub entry_kept : (s : ProcessTable) (p : ℕ) → with_process p (process_in s.processes p) s ≡ s
entry_kept s p = ap (λ l. record s { processes = l }) (set-get_or s.processes p _)

-- p, which is no sleeper, is taken out of its list, and stays as it is
pub left : (ls : List (List Entry)) (s : ProcessTable) (b : Beside) (p : ℕ) → is_listed p (list_at ls 129) ≡ false
    → tables_of (all_without p ls) s b ≡ (let t = tables_of ls s b in move_to p (process_at t p) (message_at t p) Nowhere t)
unfolding tables_of
left ls s b p h = ap (λ u. tables_of (all_without p ls) u b) (sym (entry_kept s p)) ∙ taken_quietly ls s b p (process_in s.processes p) h

-- the same of a sleeper
pub left_sleepers : (ls : List (List Entry)) (s : ProcessTable) (b : Beside) (p : ℕ)
    → ((q : ℕ) → q ≢ 129 → is_listed p (list_at ls q) ≡ false)
    → tables_of (all_delta_without p ls) s b ≡ (let t = tables_of ls s b in move_to p (process_at t p) (message_at t p) Nowhere t)
unfolding tables_of
left_sleepers ls s b p h = ap (λ u. tables_of (all_delta_without p ls) u b) (sym (entry_kept s p))
    ∙ taken_sleeper_quietly ls s b p (process_in s.processes p) h

-- to take a process out of all lists is to take it out of the one in which it is
pub all_without_at : (t : QueueTable 64 130) (p q : ℕ) → place (lists t) p ≡ Some q
    → all_without p (lists t) ≡ with_list (lists t) q (without p (list_at (lists t) q))
unfolding all_without
all_without_at t p q at =
    map-with (without p) (lists t) q (without p (list_at (lists t) q)) (place-some (lists t) p q at).0 refl
    (λ i n. without-absent p (list_at (lists t) i) (disjoint t p q i at (λ e. n (sym e))))

-- to take out the first of a list is to take its process out of all lists
pub rest_is_without : (t : QueueTable 64 130) (q : ℕ) (e : Entry) (l : List Entry) → q < 130 → list_at (lists t) q ≡ e ∷ l
    → with_list (lists t) q l ≡ all_without e.0 (lists t)
rest_is_without t q e l lt is =
    let f = first_placed t q e l lt is in
    let same : eqb e.0 e.0 ≡ true = grind (arith, nat_tests) in
    let w : without e.0 (list_at (lists t) q) ≡ l
    = ap (without e.0) is ∙ ap (λ c. cond (not c) (e ∷ without e.0 l) (without e.0 l)) same ∙ without-absent e.0 l f.1 in
    ap (with_list (lists t) q) (sym w) ∙ sym (all_without_at t e.0 q f.0)

-- to take a ready process out and to insert it anew changes the ready list alone
pub reinserted : (t : QueueTable 64 130) (p : ℕ) (k : ℤ) → place (lists t) p ≡ Some 128
    → with_list (all_without p (lists t)) 128 (ready_insert p k (list_at (all_without p (lists t)) 128))
    ≡ with_list (lists t) 128 (ready_insert p k (without p (list_at (lists t) 128)))
reinserted t p k at =
    let w = without p (list_at (lists t) 128) in
    ap (λ ls. with_list ls 128 (ready_insert p k (list_at ls 128))) (all_without_at t p 128 at)
    ∙ ap (λ l. with_list (with_list (lists t) 128 w) 128 (ready_insert p k l)) (list_at-same (lists t) 128 w (omega (arith, queues_of t)))
    ∙ set-set (lists t) 128 w (ready_insert p k w)
