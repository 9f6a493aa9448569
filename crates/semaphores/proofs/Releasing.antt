-- The first waiters of a semaphore become ready, one after another.
use Rattle.std.proofs.Common.{◌≡◌, ◌≢◌, ◌∙◌, ℕ, zero, suc, ◌+◌, ◌-◌, ◌<◌, ◌≤◌, List, [], ◌∷◌, ◌++◌, length, take, drop, Some, refl, sym, ap, subst, arith}
use Rattle.std.proofs.lemmas.List.{append_assoc}
use Rattle.xinu_base.specs.declared.processes.Process.{Process}
use Rattle.xinu_base.specs.declared.processes.State.TheVariants.{Ready}
use Rattle.queue_table.specs.declared.table.QueueTable.{QueueTable}
use Rattle.queue_table.specs.Table.{lists}
use Rattle.queue_table.specs.Lists.{Entry, first_process, list_at, place, rest_of, with_list}
use Rattle.queue_table.proofs.Laws.{below_P, disjoint, first_is, first_placed, place-some}
use Rattle.xinu_model.specs.Process.Scheduling.{ready_all}
use Rattle.xinu_model.specs.Tables.{Nowhere, message_at, move_to, process_at}
use Rattle.process_core.proofs.Lengths.{short}
use Rattle.process_core.specs.Fits.{Fits}
use Rattle.process_core.specs.Tables.{Beside, ProcessTable, numbers, process_in, tables_of}
use Rattle.process_core.proofs.Fitting.{may_be_in}
use Rattle.process_core.proofs.Removals.{left, rest_is_without}
use Rattle.process_core.proofs.Steps.{fits_left}

-- whoever waits on a semaphore isn't ready
pub waiting_not_ready : (ls : List (List Entry)) (ps : List Process) (p q : ℕ) → Fits ls ps → place ls p ≡ Some q → q < 128
    → (process_in ps p).state ≢ Ready
waiting_not_ready ls ps p q f at lt is =
    let m : q ≡ 128 = may_be_in q (process_in ps p).state Ready is (f.placed p q at) in omega (arith, m, lt)

-- the first waiter has left the queue, and everything fits
pub first_left_fits : (t : QueueTable 64 130) (ps : List Process) (sem : ℕ) (e : Entry) (l : List Entry) → sem < 128
    → list_at (lists t) sem ≡ e ∷ l → Fits (lists t) ps
    → Fits (with_list (lists t) sem l) ps
first_left_fits t ps sem e l lt is f =
    let at = (first_placed t sem e l (omega arith) is).0 in
    let F : List (List Entry) → Type 0 = λ ls. Fits ls ps in
    subst F (sym (rest_is_without t sem e l (omega arith) is))
    (fits_left (lists t) ps e.0 f (below_P t e.0 sem (place-some (lists t) e.0 sem at).1) (waiting_not_ready (lists t) ps e.0 sem f at lt))

-- it has moved out of all lists then
pub first_left : (t : QueueTable 64 130) (s : ProcessTable) (b : Beside) (sem : ℕ) (e : Entry) (l : List Entry) → sem < 128
    → list_at (lists t) sem ≡ e ∷ l
    → tables_of (with_list (lists t) sem l) s b ≡ (let u = tables_of (lists t) s b in move_to e.0 (process_at u e.0)
    (message_at u e.0) Nowhere u)
first_left t s b sem e l lt is =
    let at = (first_placed t sem e l (omega arith) is).0 in
    ap (λ ls. tables_of ls s b) (rest_is_without t sem e l (omega arith) is)
    ∙ left (lists t) s b e.0 (disjoint t e.0 sem 129 at (λ x. omega (arith, x)))

-- one has left the list, or nobody was there
pub length-rest : (l : List Entry) → length (rest_of l) ≡ length l - 1
length-rest [] = refl
length-rest (e ∷ l) = omega arith

-- What holds while the first waiters of a semaphore, but at most so many, become ready.
pub record IsReleasing (ls0 : List (List Entry)) (s0 : ProcessTable) (sem most : ℕ) (ls : List (List Entry)) (s : ProcessTable)
    (done : List ℕ) (n : ℕ)
    : Type 0 where
  pub within : n ≤ most
  pub released : done ++ take (most - n) (numbers (list_at ls sem)) ≡ take most (numbers (list_at ls0 sem))
  pub tables : (b : Beside) → ready_all (take (most - n) (numbers (list_at ls sem))) (tables_of ls s b)
      ≡ ready_all (take most (numbers (list_at ls0 sem))) (tables_of ls0 s0 b)
  pub rest : drop (most - n) (list_at ls sem) ≡ drop most (list_at ls0 sem)
  pub others : (q : ℕ) → q ≢ sem → q ≢ 128 → list_at ls q ≡ list_at ls0 q
  pub fits : Fits ls s.processes
  pub room : n + length (list_at ls sem) ≤ 64

-- one step of the loop: k more may be released
step_released : (k j : ℕ) (done : List ℕ) (e : Entry) (l : List Entry) (all : List ℕ) → j ≡ suc k
    → done ++ take j (numbers (e ∷ l)) ≡ all → (done ++ e.0 ∷ []) ++ take k (numbers l) ≡ all
step_released k zero done e l all i h = absurd (omega (arith, i))
step_released k (suc j) done e l all i h =
    let s : k ≡ j = omega (arith, i) in
    append_assoc done (e.0 ∷ []) (take k (numbers l)) ∙ ap (λ n. done ++ e.0 ∷ take n (numbers l)) s ∙ h

-- the first of them becomes ready
step_ready : (k j : ℕ) (l : List ℕ) (p : ℕ) (t : Rattle.xinu_model.specs.Tables.Tables) → j ≡ suc k
    → ready_all (take k l) (ready_all (take 1 (p ∷ l)) t) ≡ ready_all (take j (p ∷ l)) t
step_ready k zero l p t i = absurd (omega (arith, i))
step_ready k (suc j) l p t i = let s : k ≡ j = omega (arith, i) in ap (λ n. ready_all (take n l) (ready_all (take 1 (p ∷ l)) t)) s

-- what is left of the list
step_rest : (k j : ℕ) (e : Entry) (l : List Entry) → j ≡ suc k → drop k l ≡ drop j (e ∷ l)
step_rest k zero e l i = absurd (omega (arith, i))
step_rest k (suc j) e l i = let s : k ≡ j = omega (arith, i) in ap (λ n. drop n l) s

-- one more has become ready
pub released_one : (ls0 : List (List Entry)) (s0 : ProcessTable) (sem most : ℕ) (ls : List (List Entry)) (s : ProcessTable)
    (done : List ℕ) (n : ℕ)
    (ls' : List (List Entry)) (s' : ProcessTable) (p : ℕ)
    → IsReleasing ls0 s0 sem most ls s done n → n < most → Some p ≡ first_process (list_at ls sem)
    → ((b : Beside) → tables_of ls' s' b ≡ ready_all (take 1 (numbers (list_at ls sem))) (tables_of ls s b))
    → list_at ls' sem ≡ rest_of (list_at ls sem)
    → ((q : ℕ) → q ≢ sem → q ≢ 128 → list_at ls' q ≡ list_at ls q)
    → Fits ls' s'.processes
    → IsReleasing ls0 s0 sem most ls' s' (done ++ p ∷ []) (n + 1)
released_one ls0 s0 sem most ls s done n ls' s' p r lt first readied rest others fits =
    let f = first_is (list_at ls sem) p first in
    let l = rest_of (list_at ls sem) in
    let i : most - n ≡ suc (most - (n + 1)) = omega (arith, lt) in
    let k = most - (n + 1) in
    record {
      within = omega (arith, lt);
      released = ap (λ x. (done ++ p ∷ []) ++ take k (numbers x)) rest
          ∙ step_released k (most - n) done (p, f.0) l (take most (numbers (list_at ls0 sem))) i
          (ap (λ x. done ++ take (most - n) (numbers x)) (sym f.1) ∙ r.released);
      tables = λ b. ap (λ x. ready_all (take k (numbers x)) (tables_of ls' s' b)) rest
          ∙ ap (ready_all (take k (numbers l))) (readied b ∙ ap (λ x. ready_all (take 1 (numbers x)) (tables_of ls s b)) f.1)
          ∙ step_ready k (most - n) (numbers l) p (tables_of ls s b) i
          ∙ ap (λ x. ready_all (take (most - n) (numbers x)) (tables_of ls s b)) (sym f.1) ∙ r.tables b;
      rest = ap (drop k) rest ∙ step_rest k (most - n) (p, f.0) l i ∙ ap (drop (most - n)) (sym f.1) ∙ r.rest;
      others = λ q a c. others q a c ∙ r.others q a c;
      fits = fits;
      room = (let e : length (list_at ls sem) ≡ suc (length l) = ap length f.1 in let d = ap length rest in omega (arith, e, d, r.room));
    }

-- nobody has become ready yet
pub none_released : (t : QueueTable 64 130) (s : ProcessTable) (sem most : ℕ) → Fits (lists t) s.processes
    → IsReleasing (lists t) s sem most (lists t) s [] 0
none_released t s sem most f =
    let z : most - 0 ≡ most = omega arith in
    let l = list_at (lists t) sem in
    record {
      within = omega arith;
      released = ap (λ n. take n (numbers l)) z;
      tables = λ b. ap (λ n. ready_all (take n (numbers l)) (tables_of (lists t) s b)) z;
      rest = ap (λ n. drop n l) z;
      others = λ q a c. refl;
      fits = f;
      room = omega (arith, short t sem);
    }
