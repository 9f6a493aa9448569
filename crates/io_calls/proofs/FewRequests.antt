-- Fewer requests wait for the raw disk, and fewer calls on files are under way, than there is room for: the callers are processes that wait,
-- each once, and the null process and the current one don't wait.
use Rattle.std.proofs.Common.{◌≡◌, ◌≢◌, ◌∙◌, ℕ, zero, suc, ◌+◌, ◌<◌, ◌≤◌, ◌==◌, Bool, true, false, not, cond, List, [], ◌∷◌, ◌++◌, length, filter, Option, Some, None, refl, sym, ap, subst, arith, ⊎_elim}
use Rattle.std.specs.Prelude.{IsSome}
use Rattle.std.specs.List.{AllByRecursion}
use Rattle.std.proofs.lemmas.Bool.{cond_both, eqb-true}
use Rattle.table_laws.proofs.Lists.Counts.{first_is_counted, get_or-le-total, numbers_without_same, numbers_without_other}
use Rattle.table_laws.proofs.Tables.MoveTo.{by_number, within_table}
use Rattle.table_laws.proofs.Tables.Unblock.{waiter_waits}
use Rattle.xinu_base.specs.declared.processes.State.TheVariants.{Current, Ready}
use Rattle.xinu_model.specs.Files.Work.{FileRequest, FileWork}
use Rattle.xinu_model.specs.RawDisk.Callers.{callers, HaveCallers, living}
use Rattle.xinu_model.specs.RawDisk.Requests.{RawDisk, Request}
use Rattle.xinu_model.specs.Sound.Disks.{IsFileDisk, IsRawDisk}
use Rattle.xinu_model.specs.Sound.Tables.{count_in, IsInside, IsSoundTables, times, waiting_places}
use Rattle.xinu_model.specs.Tables.{no_semaphore, numbers_without, Semaphore, semaphore_at, state_at, Tables}
use Rattle.table_laws.proofs.Tables.Signals.{at_most_one}

-- one element more passes a test or is one of the others
one_more : {A : Type 0} (b : Bool) (x : A) (others : List A) (passed all : ℕ) → all ≡ passed + length others
    → suc all ≡ cond b (suc passed) passed + length (cond (not b) (x ∷ others) others)
one_more true x others passed all e = omega (arith, e)
one_more false x others passed all e = omega (arith, e)

-- elements are those that pass a test and the others
length_parts : {A : Type 0} (test : A → Bool) (l : List A) → length l ≡ times test l + length (filter (λ x. not (test x)) l)
length_parts test [] = refl
length_parts test (x ∷ l) = one_more (test x) x (filter (λ y. not (test y)) l) (times test l) (length l) (length_parts test l)

-- Numbers below n, none of them twice, are at most n.
few_numbers : (n : ℕ) (l : List ℕ) → ((p : ℕ) → count_in p l ≤ 1) → ((p : ℕ) → 0 < count_in p l → p < n) → length l ≤ n
few_numbers zero [] once below = omega arith
few_numbers zero (x ∷ l) once below = let f = below x (first_is_counted x l) in absurd (omega (arith, f))
few_numbers (suc n) l once below =
    let m = numbers_without n l in
    let all = length_parts (λ x. x == n) l in
    let one = once n in
    let left = few_numbers n m
    (λ p. by_number p n (λ r. count_in r m ≤ 1) (let none = numbers_without_same n l in omega (arith, none))
    (λ other. let same = numbers_without_other p n l other in let first = once p in omega (arith, same, first)))
    (λ p counted. by_number p n (λ r. 0 < count_in r m → r < n) (λ some. let none = numbers_without_same n l in absurd (omega (arith, none, some)))
    (λ other some. let same = numbers_without_other p n l other in let low = below p (omega (arith, same, some)) in by_order p n other low) counted) in
    omega (arith, all, one, left)
  where
    by_order : (p n : ℕ) → p ≢ n → p < suc n → p < n
    by_order p n other low = omega (arith, other, low)

-- one number more, which isn't among them
more_once : (a : ℕ) (l : List ℕ) → count_in a l ≡ 0 → ((p : ℕ) → count_in p l ≤ 1) → (p : ℕ) → count_in p (a ∷ l) ≤ 1
more_once a l none once p =
    cond_both (a == p) (suc (count_in p l)) (count_in p l) (λ n. n ≤ 1)
    (λ e. let same : count_in p l ≡ 0 = ap (λ q. count_in q l) (sym (eqb-true a p e)) ∙ none in omega (arith, same))
    (λ _. once p)

more_below : (n a : ℕ) (l : List ℕ) → a < n → ((p : ℕ) → 0 < count_in p l → p < n) → (p : ℕ) → 0 < count_in p (a ∷ l) → p < n
more_below n a l low below p =
    cond_both (a == p) (suc (count_in p l)) (count_in p l) (λ k. 0 < k → p < n)
    (λ e _. subst (λ q. q < n) (eqb-true a p e) low) (λ _. below p)

-- Of 64 numbers two aren't among these.
pub two_missing : (a b : ℕ) (l : List ℕ) → a ≢ b → a < 64 → b < 64 → count_in a l ≡ 0 → count_in b l ≡ 0
    → ((p : ℕ) → count_in p l ≤ 1) → ((p : ℕ) → 0 < count_in p l → p < 64) → length l < 63
two_missing a b l other low_a low_b none_a none_b once below =
    let none : count_in a (b ∷ l) ≡ 0 = cond_both (b == a) (suc (count_in a l)) (count_in a l) (λ n. n ≡ 0)
    (λ e. absurd (other (sym (eqb-true b a e)))) (λ _. none_a) in
    let all = few_numbers 64 (a ∷ b ∷ l) (more_once a (b ∷ l) none (more_once b l none_b once)) (more_below 64 a (b ∷ l) low_a (more_below 64 b l low_b below)) in
    omega (arith, all)

-- What of a request is its caller.
module _ {A : Type 0} (caller : A → Option ℕ) where
  -- a request that has a caller has one
  one_has : (o : Option ℕ) (others : List ℕ) (n : ℕ) → IsSome o → length others ≡ n → length (living o ++ others) ≡ suc n
  one_has None others n some e = absurd (cc)
  one_has (Some p) others n some e = ap suc e

  -- those of whom all have callers have as many
  all_have : (l : List A) → AllByRecursion (λ a. IsSome (caller a)) l → length (callers caller l) ≡ length l
  all_have [] h = refl
  all_have (a ∷ l) h = one_has (caller a) (callers caller l) (length l) h.0 (all_have l h.1)

  first_has : (o : Option ℕ) (others : List ℕ) (n : ℕ) → length others ≡ n → suc n ≤ suc (length (living o ++ others))
  first_has None others n e = omega (arith, e)
  first_has (Some p) others n e = omega (arith, e)

  few_have : (l : List A) → HaveCallers caller l → length l ≤ suc (length (callers caller l))
  few_have [] h = omega arith
  few_have (a ∷ l) h = first_has (caller a) (callers caller l) (length l) (all_have l h)

-- how often a process is among the waiters of a semaphore
waits_there : (t : Tables) (p sem : ℕ) → IsInside t → count_in p (semaphore_at t sem).waiters ≤ waiting_places (state_at t p)
waits_there t p sem o =
    let all = o.waiting p in
    let one = get_or-le-total (λ (x : Semaphore). count_in p x.waiters) t.semaphores sem no_semaphore refl in
    omega (arith, all, one)

-- On no semaphore wait more than 62 processes while one calls.
few_wait : (t : Tables) (sem : ℕ) → IsSoundTables t → t.current ≢ 0 → length (semaphore_at t sem).waiters < 63
few_wait t sem k not_null =
    let o = k.inside in
    let ws = (semaphore_at t sem).waiters in
    let once : (p : ℕ) → count_in p ws ≤ 1 = λ p. (let a = waits_there t p sem o in let b = at_most_one (state_at t p) in omega (arith, a, b)) in
    let below : (p : ℕ) → 0 < count_in p ws → p < 64
    = λ p some. within_table t p o.processes (λ f. let g = sym (waiter_waits t sem p o some) ∙ f in cc) in
    let none_current : count_in t.current ws ≡ 0
    = (let a = waits_there t t.current sem o in let b : waiting_places (state_at t t.current) ≡ 0 = ap waiting_places k.runs in omega (arith, a, b)) in
    let none_null : count_in 0 ws ≡ 0
    = ⊎_elim (λ (e : state_at t 0 ≡ Current). let a = waits_there t 0 sem o in let b : waiting_places (state_at t 0) ≡ 0 = ap waiting_places e in omega (arith, a, b))
    (λ (e : state_at t 0 ≡ Ready). let a = waits_there t 0 sem o in let b : waiting_places (state_at t 0) ≡ 0 = ap waiting_places e in omega (arith, a, b)) o.null in
    let low : t.current < 64 = within_table t t.current o.processes (λ f. let g = sym k.runs ∙ f in cc) in
    two_missing 0 t.current ws (λ e. not_null (sym e)) (omega arith) low none_null none_current once below

-- Who may call finds room for its request,
pub few_requests : (t : Tables) (d : RawDisk) → IsSoundTables t → t.current ≢ 0 → IsRawDisk t d → length d.requests < 64
few_requests t d k not_null disk =
    let waiters = few_wait t 2 k not_null in
    let same = ap length disk.waiters in
    let few = few_have (λ (r : Request). r.caller) d.requests disk.itself.callers in
    omega (arith, waiters, same, few)

-- and for its call on files.
pub few_calls : (t : Tables) (w : FileWork) → IsSoundTables t → t.current ≢ 0 → IsFileDisk t w → length w.calls < 64
few_calls t w k not_null files =
    let waiters = few_wait t 3 k not_null in
    let same = ap length files.waiters in
    let few = few_have (λ (a : FileRequest). a.caller) w.calls files.itself.callers in
    omega (arith, waiters, same, few)
