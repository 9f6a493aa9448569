-- A process that has left its list goes to its place: once put into a list it has moved there.
use Rattle.std.proofs.Common.{◌≡◌, ◌∙◌, ℕ, ◌+◌, ◌<◌, Bool, true, false, not, eqb, cond, List, [], ◌∷◌, ◌++◌, length, set, get_or, take, refl, sym, ap, arith, Option, None, ℤ, pos}
use Rattle.std.specs.List.{filter}
use Rattle.std.proofs.lemmas.List.{set-get_or, set-set, length-take}
use Rattle.xinu_base.specs.Insert.{ready_insert, sleeper_insert}
use Rattle.xinu_base.specs.declared.processes.Process.{Process}
use Rattle.xinu_base.specs.declared.processes.State.TheVariants.{Ready}
use Rattle.queue_table.specs.Lists.{Entry, IsDelta, delta_insert, list_at, with_list}
use Rattle.queue_table.proofs.Laws.{list_at-same, list_at-other}
use Rattle.xinu_model.specs.Process.Scheduling.{in_state, ready}
use Rattle.xinu_model.specs.Tables.{Semaphore, Tables, Place, Nowhere, InReady, InSemaphore, InSleepers, process_at, message_at, move_to, no_process, entries_without, semaphore_without, semaphores_in, waits_without, with_waiter}
use Rattle.process_core.specs.Tables.{ProcessTable, Beside, numbers, semaphores_of, sleepers_of, tables_of}
use Rattle.process_core.proofs.Semaphores.{no_mark, get_or-take, numbers-last, semaphores-get, semaphores-list, take-set, take-set_past}
use Rattle.process_core.proofs.Sleepers.{sleepers_insert}

-- the tables if the ready list is another
pub tables-ready : (ls : List (List Entry)) (s : ProcessTable) (b : Beside) (l : List Entry) → length ls ≡ 130
    → tables_of (with_list ls 128 l) s b ≡ record (tables_of ls s b) { ready = l }
unfolding tables_of
tables-ready ls s b l n =
    let here : list_at (with_list ls 128 l) 128 ≡ l = list_at-same ls 128 l (omega (arith, n)) in
    let sleep : list_at (with_list ls 128 l) 129 ≡ list_at ls 129 = list_at-other ls 128 l 129 (λ x. omega arith) in
    let first : take 128 (with_list ls 128 l) ≡ take 128 ls = take-set_past 128 128 ls l (omega arith) in
    rw (here, sleep, first) refl

-- the tables if p is put last into the queue of a semaphore
pub tables-waiting : (ls : List (List Entry)) (s : ProcessTable) (b : Beside) (sem p : ℕ) (k : ℤ) → sem < 128 → sem < length b.marks
    → length ls ≡ 130
    → tables_of (with_list ls sem (list_at ls sem ++ (p, k) ∷ [])) s b
    ≡ record (tables_of ls s b) { semaphores = semaphores_in (InSemaphore sem) p (tables_of ls s b).semaphores }
unfolding tables_of
tables-waiting ls s b sem p k lt marked n =
    let l = list_at ls sem ++ (p, k) ∷ [] in
    let ready : list_at (with_list ls sem l) 128 ≡ list_at ls 128 = list_at-other ls sem l 128 (λ x. omega arith) in
    let sleep : list_at (with_list ls sem l) 129 ≡ list_at ls 129 = list_at-other ls sem l 129 (λ x. omega arith) in
    let first : take 128 (with_list ls sem l) ≡ with_list (take 128 ls) sem l = take-set 128 sem ls l lt in
    let short : sem < length (take 128 ls) = omega (arith, length-take 128 ls) in
    let mark = get_or b.marks sem no_mark in
    let put : semaphores_of (with_list (take 128 ls) sem l) b.marks ≡ semaphores_in (InSemaphore sem) p (semaphores_of (take 128 ls) b.marks)
    = semaphores-list sem (take 128 ls) b.marks l short
    ∙ ap (λ w. set (semaphores_of (take 128 ls) b.marks) sem (record { owner = mark.owner; tokens = mark.tokens; waiters = w }))
    (numbers-last (list_at ls sem) (p, k) ∙ ap (λ x. numbers x ++ p ∷ []) (sym (get_or-take 128 sem ls [] lt)))
    ∙ ap (λ x. set (semaphores_of (take 128 ls) b.marks) sem (with_waiter p x)) (sym (semaphores-get sem (take 128 ls) b.marks marked)) in
    rw (ready, sleep, first) (ap (λ x. record {
      processes = s.processes;
      messages = b.messages;
      current = s.current;
      quantum = s.quantum;
      ready = list_at ls 128;
      semaphores = x;
      sleepers = sleepers_of b.ticks (list_at ls 129);
      ticks = b.ticks;
      last_process = s.last_process;
      last_semaphore = b.last_semaphore;
    }) put)

-- the tables if the list of the sleepers is another
pub tables-sleeping : (ls : List (List Entry)) (s : ProcessTable) (b : Beside) (l : List Entry) → length ls ≡ 130
    → tables_of (with_list ls 129 l) s b ≡ record (tables_of ls s b) { sleepers = sleepers_of b.ticks l }
unfolding tables_of
tables-sleeping ls s b l n =
    let here : list_at (with_list ls 129 l) 129 ≡ l = list_at-same ls 129 l (omega (arith, n)) in
    let ready : list_at (with_list ls 129 l) 128 ≡ list_at ls 128 = list_at-other ls 129 l 128 (λ x. omega arith) in
    let first : take 128 (with_list ls 129 l) ≡ take 128 ls = take-set_past 128 129 ls l (omega arith) in
    rw (here, ready, first) refl

-- p has left its list; inserted into the ready list by its priority it has moved there
pub then_ready : (ls : List (List Entry)) (s : ProcessTable) (b : Beside) (t : Tables) (p : ℕ) (x : Process) (m : Option ℕ) (k : ℤ)
    → length ls ≡ 130 → k ≡ x.priority
    → tables_of ls s b ≡ move_to p x m Nowhere t
    → tables_of (with_list ls 128 (ready_insert p k (list_at ls 128))) s b ≡ move_to p x m InReady t
unfolding tables_of
then_ready ls s b t p x m k n e h =
    tables-ready ls s b (ready_insert p k (list_at ls 128)) n
    ∙ ap (λ (u : Tables). record u { ready = ready_insert p k u.ready }) h
    ∙ ap (λ k. record (move_to p x m Nowhere t) { ready = ready_insert p k (entries_without p t.ready) }) e

-- put last into the queue of a semaphore it has moved there
pub then_waits : (ls : List (List Entry)) (s : ProcessTable) (b : Beside) (t : Tables) (p : ℕ) (x : Process) (m : Option ℕ) (sem : ℕ) (k : ℤ) → sem < 128 → sem < length b.marks → length ls ≡ 130
    → tables_of ls s b ≡ move_to p x m Nowhere t
    → tables_of (with_list ls sem (list_at ls sem ++ (p, k) ∷ [])) s b ≡ move_to p x m (InSemaphore sem) t
then_waits ls s b t p x m sem k lt marked n h =
    tables-waiting ls s b sem p k lt marked n
    ∙ ap (λ (u : Tables). record u { semaphores = semaphores_in (InSemaphore sem) p u.semaphores }) h

-- inserted into the delta list by a delay it has moved to the sleepers, to the tick that is so many ticks away
pub then_sleeps : (ls : List (List Entry)) (s : ProcessTable) (b : Beside) (t : Tables) (p : ℕ) (x : Process) (m : Option ℕ) (n : ℕ)
    → IsDelta (list_at ls 129) → length ls ≡ 130
    → tables_of ls s b ≡ move_to p x m Nowhere t
    → tables_of (with_list ls 129 (delta_insert p (pos n) (list_at ls 129))) s b ≡ move_to p x m (InSleepers (b.ticks + n)) t
unfolding tables_of
then_sleeps ls s b t p x m n d size h =
    tables-sleeping ls s b (delta_insert p (pos n) (list_at ls 129)) size
    ∙ ap (λ l. record (tables_of ls s b) { sleepers = l }) (sleepers_insert p n b.ticks (list_at ls 129) d)
    ∙ ap (λ (u : Tables). record u { sleepers = sleeper_insert p (b.ticks + n) u.sleepers }) h

-- a filter twice
filter_twice : {A : Type 0} (test : A → Bool) (l : List A) → filter test (filter test l) ≡ filter test l
filter_twice test [] = refl
filter_twice test (x ∷ l) = by (filter_twice test l) (test x) refl
  where
    by : filter test (filter test l) ≡ filter test l → (b : Bool) → test x ≡ b → filter test (cond b (x ∷ filter test l) (filter test l)) ≡ cond b (x ∷ filter test l) (filter test l)
    by i true e = ap (λ c. cond c (x ∷ filter test (filter test l)) (filter test (filter test l))) e ∙ ap (λ m. x ∷ m) i
    by i false e = i

-- whoever waits on no semaphore leaves none
waits_twice : (p : ℕ) (l : List Semaphore) → waits_without p (waits_without p l) ≡ waits_without p l
waits_twice p [] = refl
waits_twice p (x ∷ l) =
    ap (λ w. record { owner = x.owner; tokens = x.tokens; waiters = w } ∷ waits_without p (waits_without p l)) (filter_twice (λ y. not (eqb y p)) x.waiters)
    ∙ ap (λ m. semaphore_without p x ∷ m) (waits_twice p l)

-- a process that leaves its list first and goes to its place then has moved once
pub move_twice : (p : ℕ) (x y : Process) (m n : Option ℕ) (place : Place) (t : Tables)
    → move_to p y n place (move_to p x m Nowhere t) ≡ move_to p y n place t
move_twice p x y m n place t =
    let a = set-set t.processes p x y in
    let b = set-set t.messages p m n in
    let r : entries_without p (entries_without p t.ready) ≡ entries_without p t.ready
    = filter_twice (λ (e : ℕ × ℤ). not (eqb e.0 p)) t.ready in
    let w = waits_twice p t.semaphores in
    let z : entries_without p (entries_without p t.sleepers) ≡ entries_without p t.sleepers
    = filter_twice (λ (e : ℕ × ℕ). not (eqb e.0 p)) t.sleepers in
    rw (a, b, r, w, z) refl

-- whether a process has left its list before it becomes ready makes no difference
pub ready-left : (p : ℕ) (t : Tables) → ready p (move_to p (process_at t p) (message_at t p) Nowhere t) ≡ ready p t
ready-left p t =
    let x = process_at t p in
    let m = message_at t p in
    let a : set t.processes p x ≡ t.processes = set-get_or t.processes p _ in
    let b : set t.messages p m ≡ t.messages = set-get_or t.messages p None in
    let F : List Process → List (Option ℕ) → Tables
    = λ l k. move_to p (in_state Ready (get_or l p no_process)) (get_or k p None) InReady (move_to p x m Nowhere t) in
    ap (λ l. F l (set t.messages p m)) a ∙ ap (F t.processes) b ∙ move_twice p x (in_state Ready x) m m InReady t
