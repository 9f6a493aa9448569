-- A walk along a list in which each process stands at most once, and along the ready list. The other lists are in WalkingQueues.antt.
use Rattle.std.proofs.Common.{◌≡◌, ◌≢◌, ◌∙◌, ℕ, suc, ◌<◌, ◌≤◌, Bool, true, false, cond, List, [], ◌∷◌, Option, Some, None, refl, sym, ap, subst, nat_eq, arith}
use Rattle.std.proofs.lemmas.Bool.{cond_both, eq-eqb, eqb-true, ne_eqb}
use Rattle.std.specs.Prelude.{IfSome}
use Rattle.queue_table.specs.Lists.{after_in, Entry, first_process, is_listed, key_in, list_at}
use Rattle.process_core.specs.Tables.{Beside, ProcessTable, process_in, tables_of}
use Rattle.xinu_base.specs.declared.processes.Process.{Process}
use Rattle.xinu_base.specs.declared.processes.State.{State}
use Rattle.xinu_base.specs.declared.processes.State.TheVariants.{Free, Current, Ready, Receiving, Sleeping, Suspended, Waiting, Timed}
use Rattle.xinu_model.specs.Sound.Tables.{entries_of, HaveKeys, IsInside, ready_places}
use Rattle.xinu_model.specs.Tables.{process_at, state_at, Tables}
use Rattle.process_core.proofs.Inside.{uncounted}
use Rattle.kernel_tables.specs.Walks.{entries_from}
use Rattle.xinu_model.proofs.States.{ready_of}

-- each process is in the list at most once
abbrev pub Once : List Entry → Type 0
Once l = (r : ℕ) → entries_of r l ≤ 1

-- the first one is in no other place
first_alone : (e : Entry) (l : List Entry) → Once (e ∷ l) → entries_of e.0 l ≡ 0
first_alone e l once =
    let h = once e.0 in
    let c = ap (λ b. cond b (suc (entries_of e.0 l)) (entries_of e.0 l)) (eq-eqb e.0 e.0 refl) in omega arith

-- without the first one the others still do
pub rest_once : (e : Entry) (l : List Entry) → Once (e ∷ l) → Once l
rest_once e l once r =
    let h = once r in
    let P : ℕ → Type 0 = λ n. n ≤ 1 → entries_of r l ≤ 1 in
    cond_both (nat_eq e.0 r) (suc (entries_of r l)) (entries_of r l) P (λ _ n. omega arith) (λ _ n. n) h

-- one of the others isn't the first
pub other_than_first : (e : Entry) (l : List Entry) (r : ℕ) → Once (e ∷ l) → 0 < entries_of r l → r ≢ e.0
other_than_first e l r once some same =
    let alone = first_alone e l once in
    let P : ℕ → Type 0 = λ n. 0 < entries_of n l in
    let there = subst P same some in
    absurd (omega arith)

-- passing the first one
passed : (e : Entry) (l : List Entry) (r : ℕ) → r ≢ e.0 → entries_from (Some r) (e ∷ l) ≡ entries_from (Some r) l
passed e l r other = ap (λ b. cond b (e ∷ l) (entries_from (Some r) l)) (ne_eqb r e.0 other)

-- the walk begins with the whole list
pub from_first : (l : List Entry) → entries_from (first_process l) l ≡ l
from_first [] = refl
from_first (e ∷ l) = ap (λ b. cond b (e ∷ l) (entries_from (Some e.0) l)) (eq-eqb e.0 e.0 refl)

-- after the first one the rest is left
from_second : (e : Entry) (l : List Entry) → Once (e ∷ l) → entries_from (first_process l) (e ∷ l) ≡ l
from_second e [] once = refl
from_second e (f ∷ l) once =
    let here : 0 < entries_of f.0 (f ∷ l) = (let c = ap (λ b. cond b (suc (entries_of f.0 l)) (entries_of f.0 l)) (eq-eqb f.0 f.0 refl) in omega arith) in
    passed e (f ∷ l) f.0 (other_than_first e (f ∷ l) f.0 once here) ∙ from_first (f ∷ l)

-- the process after another is in the list
pub after_counted : (p : ℕ) (l : List Entry) (r : ℕ) → after_in p l ≡ Some r → 0 < entries_of r l
after_counted p [] r h = absurd (cc)
after_counted p (e ∷ l) r h = go (λ a. after_counted p l r a) (nat_eq p e.0) refl
  where
    behind : 0 < entries_of r l → 0 < entries_of r (e ∷ l)
    behind some = cond_both (nat_eq e.0 r) (suc (entries_of r l)) (entries_of r l) (λ n. 0 < n) (λ _. omega arith) (λ _. some)

    first : (m : List Entry) → first_process m ≡ Some r → 0 < entries_of r m
    first [] f = absurd (cc)
    first (x ∷ m) f =
        let same : x.0 ≡ r = cc in
        let c = ap (λ b. cond b (suc (entries_of r m)) (entries_of r m)) (eq-eqb x.0 r same) in omega arith

    go : (after_in p l ≡ Some r → 0 < entries_of r l) → (b : Bool) → nat_eq p e.0 ≡ b → 0 < entries_of r (e ∷ l)
    go later true t = behind (first l (sym (ap (λ b. cond b (first_process l) (after_in p l)) t) ∙ h))
    go later false t = behind (later (sym (ap (λ b. cond b (first_process l) (after_in p l)) t) ∙ h))

-- the walk goes on from one process to the next
pub from_next : (p : ℕ) (l : List Entry) → Once l → is_listed p l ≡ true → entries_from (Some p) l ≡ (p, key_in p l) ∷ entries_from (after_in p l) l
from_next p [] once h = absurd (cc)
from_next p (e ∷ l) once h = go (λ f. from_next p l (rest_once e l once) f) (nat_eq p e.0) refl
  where
    skipped : (o : Option ℕ) → after_in p l ≡ o → entries_from o (e ∷ l) ≡ entries_from o l
    skipped None a = refl
    skipped (Some r) a = passed e l r (other_than_first e l r once (after_counted p l r a))

    go : (is_listed p l ≡ true → entries_from (Some p) l ≡ (p, key_in p l) ∷ entries_from (after_in p l) l) → (b : Bool) → nat_eq p e.0 ≡ b
        → entries_from (Some p) (e ∷ l) ≡ (p, key_in p (e ∷ l)) ∷ entries_from (after_in p (e ∷ l)) (e ∷ l)
    go later true t = rw t (ap (λ n. (n, e.1) ∷ l) (sym (eqb-true p e.0 t)) ∙ ap (λ m. (p, e.1) ∷ m) (sym (from_second e l once)))
    go later false t =
        rw t (later (sym (ap (λ b. cond b true (is_listed p l)) t) ∙ h)
        ∙ ap (λ m. (p, key_in p l) ∷ m) (sym (skipped (after_in p l) refl)))

-- the ready list of the tables is queue 128
pub ready_list : (ls : List (List Entry)) (s : ProcessTable) (b : Beside) → (tables_of ls s b).ready ≡ list_at ls 128
unfolding tables_of
ready_list ls s b = refl

-- a process has at most one place in the ready list
places_least : (s : State) → ready_places s ≤ 1
places_least Ready = omega arith
places_least Free = omega arith
places_least Current = omega arith
places_least Receiving = omega arith
places_least Sleeping = omega arith
places_least Suspended = omega arith
places_least Waiting = omega arith
places_least Timed = omega arith

-- each process is in the ready list at most once
ready_once : (t : Tables) → IsInside t → Once t.ready
ready_once t k r = let e = k.ready r in let l = places_least (state_at t r) in omega arith

-- who is in it is ready
counted_ready : (t : Tables) → IsInside t → (p : ℕ) → 0 < entries_of p t.ready → state_at t p ≡ Ready
counted_ready t k p some = ready_of (state_at t p) (let e = k.ready p in omega arith)

-- who is ready is in it
ready_listed : (t : Tables) → IsInside t → (p : ℕ) → state_at t p ≡ Ready → is_listed p t.ready ≡ true
ready_listed t k p h = go (is_listed p t.ready) refl
  where
    go : (b : Bool) → is_listed p t.ready ≡ b → is_listed p t.ready ≡ true
    go true e = e
    go false e = (let none = uncounted p t.ready e in let one = k.ready p ∙ ap ready_places h in absurd (omega arith))

-- with its priority as its key
key_kept : (ps : List Process) (p : ℕ) (l : List Entry) → HaveKeys ps l → is_listed p l ≡ true → key_in p l ≡ (process_in ps p).priority
key_kept ps p [] keys h = absurd (cc)
key_kept ps p (e ∷ l) keys h = go (λ f. key_kept ps p l keys.1 f) (nat_eq p e.0) refl
  where
    go : (is_listed p l ≡ true → key_in p l ≡ (process_in ps p).priority) → (b : Bool) → nat_eq p e.0 ≡ b → key_in p (e ∷ l) ≡ (process_in ps p).priority
    go later true t = rw t (keys.0 ∙ ap (λ q. (process_in ps q).priority) (sym (eqb-true p e.0 t)))
    go later false t = rw t (later (sym (ap (λ b. cond b true (is_listed p l)) t) ∙ h))

-- the first process of the ready list is ready
pub first_is_ready : (t : Tables) → IsInside t → IfSome (first_process t.ready) (λ p. state_at t p ≡ Ready)
first_is_ready t k = go t.ready refl
  where
    go : (l : List Entry) → t.ready ≡ l → IfSome (first_process l) (λ p. state_at t p ≡ Ready)
    go [] e = tt
    go (x ∷ l) e = counted_ready t k x.0 (let P : List Entry → Type 0 = λ l. 0 < entries_of x.0 l in subst P (sym e) (let c = ap (λ b. cond b (suc (entries_of x.0 l)) (entries_of x.0 l)) (eq-eqb x.0 x.0 refl) in omega arith))

-- so is the one after another
pub next_is_ready : (t : Tables) (p : ℕ) → IsInside t → IfSome (after_in p t.ready) (λ q. state_at t q ≡ Ready)
next_is_ready t p k = go (after_in p t.ready) refl
  where
    go : (o : Option ℕ) → after_in p t.ready ≡ o → IfSome o (λ q. state_at t q ≡ Ready)
    go None e = tt
    go (Some q) e = counted_ready t k q (after_counted p t.ready q e)

-- the walk along the ready list goes on from one process to the next
pub ready_from_next : (t : Tables) (p : ℕ) → IsInside t → state_at t p ≡ Ready
    → entries_from (Some p) t.ready ≡ (p, (process_at t p).priority) ∷ entries_from (after_in p t.ready) t.ready
ready_from_next t p k h =
    let there = ready_listed t k p h in
    from_next p t.ready (ready_once t k) there ∙ ap (λ n. (p, n) ∷ entries_from (after_in p t.ready) t.ready) (key_kept t.processes p t.ready k.keys there)
