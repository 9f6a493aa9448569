-- Lists and processes still fit after one process has moved.
use Rattle.std.proofs.Common.{◌≡◌, ◌≢◌, ◌∙◌, ℕ, ◌<◌, ℤ, false, Option, Some, None, List, [], ◌∷◌, ◌++◌, length, set, refl, sym, ap, subst, inl, inr, arith, get_or-set_same, get_or-set_other}
use Rattle.std.proofs.Math.ListN.{length-set}
use Rattle.std.proofs.lemmas.Bool.{cases_eq, cases_lt}
use Rattle.std.proofs.lemmas.List.{get_or_past, length-map}
use Rattle.xinu_base.specs.Insert.{ready_insert}
use Rattle.xinu_base.specs.declared.processes.Process.{Process}
use Rattle.xinu_base.specs.declared.processes.State.{State}
use Rattle.xinu_base.specs.declared.processes.State.TheVariants.{Free, Current, Ready, Suspended, Waiting}
use Rattle.queue_table.specs.Lists.{Entry, IsByKey, all_delta_without, all_without, delta_insert, is_listed, list_at, place, with_list, without}
use Rattle.queue_table.proofs.Laws.{IsByKey-filter, IsByKey-insert, list_at-same, list_at-other, list_at_delta_without, list_at_without, place_delayed, place_delta_without_other, place_delta_without_same, place_inserted, place_pushed, place_without_other, place_without_same}
use Rattle.queue_table.proofs.Deltas.{delta_without-absent}
use Rattle.xinu_model.specs.Process.Calls.{is_ready}
use Rattle.xinu_model.specs.Tables.{no_process}
use Rattle.process_core.specs.Tables.{process_in}
use Rattle.process_core.specs.Fits.{Fits, IsBlocked, MayBeIn}

-- p alone moves, to a queue or out of all, and becomes x
pub fits_moved : (ls ls' : List (List Entry)) (ps : List Process) (p : ℕ) (x : Process) (o : Option ℕ)
    → Fits ls ps → p < 64 → IsByKey (list_at ls' 128) → place ls' p ≡ o → ((r : ℕ) → r ≢ p → place ls' r ≡ place ls r)
    → ((q : ℕ) → o ≡ Some q → MayBeIn q x.state) → (x.state ≡ Ready → o ≡ Some 128) → Fits ls' (set ps p x)
fits_moved ls ls' ps p x o f lt by here others may is_ready =
    let same : process_in (set ps p x) p ≡ x = get_or-set_same ps p x no_process (omega (arith, f.size)) in
    let M : ℕ → Process → Type 0 = λ q y. MayBeIn q y.state in
    record {
      size = length-set ps p x ∙ f.size;
      by_key = by;
      placed = λ r q at. elim (cases_eq r p) [
        | inl e ↦ (let F : ℕ → Type 0 = λ r. MayBeIn q (process_in (set ps p x) r).state in
            subst F (sym e) (subst (M q) (sym same) (may q (sym here ∙ ap (place ls') (sym e) ∙ at))))
        | inr n ↦ subst (M q) (sym (get_or-set_other ps p r x no_process n)) (f.placed r q (sym (others r n) ∙ at))
      ];
      ready = λ r is. elim (cases_eq r p) [
        | inl e ↦ ap (place ls') e ∙ here
            ∙ is_ready (sym (ap (λ (y : Process). y.state) same) ∙ ap (λ r. (process_in (set ps p x) r).state) (sym e) ∙ is)
        | inr n ↦ others r n ∙ f.ready r (sym (ap (λ (y : Process). y.state) (get_or-set_other ps p r x no_process n)) ∙ is)
      ];
    }

-- who may be in a queue by another state that is equal
pub may_be_in : (q : ℕ) (a b : State) → a ≡ b → MayBeIn q a → MayBeIn q b
may_be_in q a b e m = let F : State → Type 0 = λ s. MayBeIn q s in subst F e m

-- as many lists as before
pub length_without : (p : ℕ) (ls : List (List Entry)) → length (all_without p ls) ≡ length ls
unfolding all_without
length_without p ls = length-map ls (without p)

-- p, which is in no list, is inserted into the ready list, and is ready
pub fits_ready : (ls : List (List Entry)) (ps : List Process) (p : ℕ) (x : Process) (k : ℤ) → Fits ls ps → length ls ≡ 130 → p < 64
    → place ls p ≡ None → x.state ≡ Ready
    → Fits (with_list ls 128 (ready_insert p k (list_at ls 128))) (set ps p x)
fits_ready ls ps p x k f size lt none is =
    let l : List Entry = ready_insert p k (list_at ls 128) in
    let B : List Entry → Type 0 = λ l. IsByKey l in
    let at = place_inserted ls 128 p k none (omega (arith, size)) in
    fits_moved ls (with_list ls 128 l) ps p x (Some 128) f lt
    (subst B (sym (list_at-same ls 128 l (omega (arith, size)))) (IsByKey-insert (list_at ls 128) p k f.by_key))
    at.0 at.1 (λ q e. may_be_in q Ready x.state (sym is) (let d : 128 ≡ q = cc in sym d)) (λ _. refl)

-- p, which is in no list, is put last into the queue of a semaphore, and waits
pub fits_waiting : (ls : List (List Entry)) (ps : List Process) (p sem : ℕ) (k : ℤ) (x : Process) → Fits ls ps → length ls ≡ 130 → p < 64
    → sem < 128 → x.state ≡ Waiting → place ls p ≡ None
    → Fits (with_list ls sem (list_at ls sem ++ (p, k) ∷ [])) (set ps p x)
fits_waiting ls ps p sem k x f size lt below is none =
    let l : List Entry = list_at ls sem ++ (p, k) ∷ [] in
    let B : List Entry → Type 0 = λ l. IsByKey l in
    let at = place_pushed ls sem p k none (omega (arith, size)) in
    fits_moved ls (with_list ls sem l) ps p x (Some sem) f lt
    (subst B (sym (list_at-other ls sem l 128 (λ x. omega arith))) f.by_key)
    at.0 at.1 (λ q e. may_be_in q Waiting x.state (sym is) (let d : sem ≡ q = cc in omega (arith, d)))
    (λ e. (let c : Ready ≡ Waiting = sym e ∙ is in absurd (cc)))

-- p, which is in no list, is inserted into the delta list of the sleepers, and sleeps, perhaps for a message
pub fits_sleeping : (ls : List (List Entry)) (ps : List Process) (p : ℕ) (d : ℤ) (x : Process) → Fits ls ps → length ls ≡ 130 → p < 64
    → MayBeIn 129 x.state → place ls p ≡ None
    → Fits (with_list ls 129 (delta_insert p d (list_at ls 129))) (set ps p x)
fits_sleeping ls ps p d x f size lt may none =
    let l : List Entry = delta_insert p d (list_at ls 129) in
    let B : List Entry → Type 0 = λ l. IsByKey l in
    let at = place_delayed ls 129 p d none (omega (arith, size)) in
    fits_moved ls (with_list ls 129 l) ps p x (Some 129) f lt
    (subst B (sym (list_at-other ls 129 l 128 (λ x. omega arith))) f.by_key)
    at.0 at.1 (λ q e. (let d : 129 ≡ q = cc in let F : ℕ → Type 0 = λ q. MayBeIn q x.state in subst F d may))
    (λ e. (let F : State → Type 0 = λ s. MayBeIn 129 s in let m : 129 ≡ 128 = subst F e may in absurd (omega (arith, m))))

-- p is taken out of its list, and isn't ready
pub fits_taken : (ls : List (List Entry)) (ps : List Process) (p : ℕ) (x : Process) → Fits ls ps → p < 64 → x.state ≢ Ready
    → Fits (all_without p ls) (set ps p x)
fits_taken ls ps p x f lt n =
    let B : List Entry → Type 0 = λ l. IsByKey l in
    fits_moved ls (all_without p ls) ps p x None f lt
    (subst B (sym (list_at_without ls p 128)) (IsByKey-filter _ (list_at ls 128) f.by_key))
    (place_without_same ls p) (λ r d. place_without_other ls p r d) (λ q e. absurd (cc)) (λ e. absurd (n e))

-- p, which is ready, leaves the ready list and is inserted anew
pub fits_reinserted : (ls : List (List Entry)) (ps : List Process) (p : ℕ) (x : Process) (k : ℤ) → Fits ls ps → length ls ≡ 130 → p < 64
    → x.state ≡ Ready
    → Fits (with_list (all_without p ls) 128 (ready_insert p k (list_at (all_without p ls) 128))) (set ps p x)
fits_reinserted ls ps p x k f size lt is =
    let ws = all_without p ls in
    let l : List Entry = ready_insert p k (list_at ws 128) in
    let B : List Entry → Type 0 = λ l. IsByKey l in
    let n : length ws ≡ 130 = length_without p ls ∙ size in
    let at = place_inserted ws 128 p k (place_without_same ls p) (omega (arith, n)) in
    fits_moved ls (with_list ws 128 l) ps p x (Some 128) f lt
    (subst B (sym (list_at-same ws 128 l (omega (arith, n)))) (IsByKey-insert (list_at ws 128) p k (subst B (sym (list_at_without ls p 128)) (IsByKey-filter _ (list_at ls 128) f.by_key))))
    at.0 (λ r d. at.1 r d ∙ place_without_other ls p r d) (λ q e. may_be_in q Ready x.state (sym is) (let d : 128 ≡ q = cc in sym d)) (λ _. refl)

-- p, which isn't in the ready list, is taken out of the sleepers, and isn't ready
pub fits_taken_sleeper : (ls : List (List Entry)) (ps : List Process) (p : ℕ) (x : Process) → Fits ls ps → p < 64
    → is_listed p (list_at ls 128) ≡ false → x.state ≢ Ready
    → Fits (all_delta_without p ls) (set ps p x)
fits_taken_sleeper ls ps p x f lt away n =
    let B : List Entry → Type 0 = λ l. IsByKey l in
    fits_moved ls (all_delta_without p ls) ps p x None f lt
    (subst B (sym (list_at_delta_without ls p 128 ∙ delta_without-absent p (list_at ls 128) away)) f.by_key)
    (place_delta_without_same ls p) (λ r d. place_delta_without_other ls p r d) (λ q e. absurd (cc)) (λ e. absurd (n e))

-- p, which is in no list, becomes x, which isn't ready
pub fits_changed : (ls : List (List Entry)) (ps : List Process) (p : ℕ) (x : Process) → Fits ls ps → p < 64 → place ls p ≡ None
    → x.state ≢ Ready → Fits ls (set ps p x)
fits_changed ls ps p x f lt none n = fits_moved ls ls ps p x None f lt f.by_key none (λ r d. refl) (λ q e. absurd (cc)) (λ e. absurd (n e))

-- p becomes x, which is in the same state
pub fits_same_state : (ls : List (List Entry)) (ps : List Process) (p : ℕ) (x : Process) → Fits ls ps → p < 64
    → x.state ≡ (process_in ps p).state → Fits ls (set ps p x)
fits_same_state ls ps p x f lt e =
    fits_moved ls ls ps p x (place ls p) f lt f.by_key refl (λ r d. refl)
    (λ q at. may_be_in q (process_in ps p).state x.state (sym e) (f.placed p q at)) (λ is. f.ready p (sym e ∙ is))

-- a process in a state that is in no queue is in no list
pub nowhere : (ls : List (List Entry)) (ps : List Process) (p : ℕ) → Fits ls ps → ((q : ℕ) → MayBeIn q (process_in ps p).state → ⊥)
    → place ls p ≡ None
nowhere ls ps p f none = go (place ls p) refl
  where
    go : (o : Option ℕ) → place ls p ≡ o → place ls p ≡ None
    go None e = e
    go (Some q) e = absurd (none q (f.placed p q e))

-- a process that runs is in no list
pub current_nowhere : (ls : List (List Entry)) (ps : List Process) (p : ℕ) → Fits ls ps → (process_in ps p).state ≡ Current
    → place ls p ≡ None
current_nowhere ls ps p f e = nowhere ls ps p f (λ q m. may_be_in q (process_in ps p).state Current e m)

-- a free number is in no list
pub free_nowhere : (ls : List (List Entry)) (ps : List Process) (p : ℕ) → Fits ls ps → (process_in ps p).state ≡ Free → place ls p ≡ None
free_nowhere ls ps p f e = nowhere ls ps p f (λ q m. may_be_in q (process_in ps p).state Free e m)

-- a suspended process is in no list
pub suspended_nowhere : (ls : List (List Entry)) (ps : List Process) (p : ℕ) → Fits ls ps → (process_in ps p).state ≡ Suspended
    → place ls p ≡ None
suspended_nowhere ls ps p f e = nowhere ls ps p f (λ q m. may_be_in q (process_in ps p).state Suspended e m)

-- whoever is blocked isn't ready
pub blocked_not_ready : (s : State) → IsBlocked s → s ≢ Ready
blocked_not_ready s b e = let F : State → Type 0 = λ s. IsBlocked s in subst F e b

-- a process that runs has a number of the table
pub running_within : (ls : List (List Entry)) (ps : List Process) (p : ℕ) → Fits ls ps → (process_in ps p).state ≡ Current → p < 64
running_within ls ps p f e = elim (cases_lt p 64) [
  | inl lt ↦ lt
  | inr le ↦ (let past : Free ≡ Current = sym (ap (λ (x : Process). x.state) (get_or_past ps p no_process (omega (arith, f.size)))) ∙ e in absurd (cc))
]
