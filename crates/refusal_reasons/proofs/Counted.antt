-- A search finds a free number if and only if one is counted.
use Rattle.std.proofs.Common.{◌≡◌, ◌∙◌, ℕ, zero, suc, ◌+◌, ◌-◌, ◌<◌, Bool, true, false, not, cond, List, [], ◌∷◌, length, get_or, refl, sym, ap, subst, arith, Option, Some, None, inl, inr, take}
use Rattle.std.specs.List.{find}
use Rattle.std.specs.Option.{option_or}
use Rattle.std.specs.Prelude.{is_some, nat_lt, min}
use Rattle.std.proofs.lemmas.Bool.{cases_lt, cond_both, le-ltb, lt-ltb}
use Rattle.std.proofs.lemmas.List.{length-set}
use Rattle.std.proofs.lemmas.List.Folds.{find-append}
use Rattle.refusal_reasons.proofs.Blocks.{opposite}
use Rattle.refusal_reasons.specs.Ports.{free_ports}
use Rattle.refusal_reasons.specs.Processes.{free_processes}
use Rattle.refusal_reasons.specs.Semaphores.{free_semaphores}
use Rattle.table_laws.proofs.Lists.Counts.{times-set}
use Rattle.table_laws.proofs.Lists.Searches.{search_passes, search_within}
use Rattle.xinu_base.specs.declared.processes.Process.{Process}
use Rattle.xinu_base.specs.declared.semaphores.Owner.{Owner}
use Rattle.xinu_model.proofs.Searches.{find_none}
use Rattle.xinu_model.specs.Machine.{Xinu}
use Rattle.xinu_model.specs.Ports.Calls.{free_port}
use Rattle.xinu_model.specs.Ports.Queues.{MessagePort, is_used, no_port, port_at, most_ports}
use Rattle.xinu_model.specs.Process.Creation.{free_process}
use Rattle.xinu_model.specs.Searches.{numbers_from, search}
use Rattle.xinu_model.specs.Semaphores.Counts.{free_semaphore, make_semaphore}
use Rattle.xinu_model.specs.Sound.Tables.{times}
use Rattle.xinu_model.specs.Tables.{Semaphore, Tables, is_free, no_process, no_semaphore}

-- an element that passes is counted
pub passes_counted : {A : Type 0} (test : A → Bool) (l : List A) (i : ℕ) (d : A) → i < length l → test (get_or l i d) ≡ true
    → 0 < times test l
passes_counted test [] i d lt e = absurd (omega arith)
passes_counted test (x ∷ l) zero d lt e = subst (λ b. 0 < cond b (suc (times test l)) (times test l)) (sym e) (omega arith)
passes_counted test (x ∷ l) (suc i) d lt e =
    let more = passes_counted test l i d (omega arith) e in
    cond_both (test x) (suc (times test l)) (times test l) (λ n. 0 < n) (λ _. omega arith) (λ _. more)

-- if none passes the count is zero
pub none_counted : {A : Type 0} (test : A → Bool) (l : List A) (d : A) → ((i : ℕ) → i < length l → test (get_or l i d) ≡ false)
    → times test l ≡ 0
none_counted test [] d h = refl
none_counted test (x ∷ l) d h =
    ap (λ b. cond b (suc (times test l)) (times test l)) (h 0 (omega arith))
    ∙ none_counted test l d (λ i lt. h (suc i) (omega arith))

-- none of two
both_none : (a b : Option ℕ) → option_or a b ≡ None → (a ≡ None) × (b ≡ None)
both_none None b e = (refl, e)
both_none (Some x) b e = absurd (cc)

-- if a search finds none, none passes
pub search_none : (test : ℕ → Bool) (size first : ℕ) → search test size first ≡ None → (i : ℕ) → i < size → test i ≡ false
search_none test size first e i lt =
    let h = both_none (find test (numbers_from first (size - first))) (find test (numbers_from 0 (min first size)))
    (sym (find-append test (numbers_from first (size - first)) (numbers_from 0 (min first size))) ∙ e) in
    elim (cases_lt i first) [
      | inl below ↦ find_none test 0 (min first size) h.1 i (omega arith) (omega arith)
      | inr above ↦ find_none test first (size - first) h.0 i above (omega arith)
    ]

-- A search finds none if and only if less than one is counted.
pub search_counts : {A : Type 0} (test : A → Bool) (l : List A) (d : A) (size first : ℕ) → length l ≡ size
    → nat_lt (times test l) 1 ≡ not (is_some (search (λ n. test (get_or l n d)) size first))
search_counts test l d size first e = by_found (search (λ n. test (get_or l n d)) size first) refl
  where
    some_counted : (n : ℕ) → 0 < n → nat_lt n 1 ≡ false
    some_counted n h = le-ltb n 1 (omega arith)

    by_found : (found : Option ℕ) → search (λ n. test (get_or l n d)) size first ≡ found → nat_lt (times test l) 1 ≡ not (is_some found)
    by_found None f =
        ap (λ n. nat_lt n 1) (none_counted test l d (λ i lt. search_none (λ n. test (get_or l n d)) size first f i (omega arith)))
    by_found (Some n) f =
        let lt = search_within (λ k. test (get_or l k d)) size first n f in
        some_counted (times test l) (passes_counted test l n d (omega arith) (search_passes (λ k. test (get_or l k d)) size first n f))

-- the numbers of processes, of semaphores and of ports
pub process_counts : (t : Tables) → length t.processes ≡ 64 → nat_lt (free_processes t) 1 ≡ not (is_some (free_process t))
process_counts t e = search_counts (λ (x : Process). is_free x.state) t.processes no_process 64 (t.last_process + 1) e

pub semaphore_counts : (t : Tables) → length t.semaphores ≡ 128 → nat_lt (free_semaphores t) 1 ≡ not (is_some (free_semaphore t))
semaphore_counts t e = search_counts (λ (x : Semaphore). not (is_some x.owner)) t.semaphores no_semaphore 128 (t.last_semaphore + 1) e

pub port_counts : (s : Xinu) → length s.parts.ports ≡ 30 → nat_lt (free_ports s.parts.ports) 1 ≡ not (is_some (free_port s))
port_counts s e = search_counts (λ (x : MessagePort). not (is_used x)) s.parts.ports no_port 30 s.parts.next_port e

-- after a free semaphore is made there is one less
pub second_counts : (t : Tables) (sem : ℕ) (by : Owner) (n : ℕ) → length t.semaphores ≡ 128 → free_semaphore t ≡ Some sem
    → nat_lt (free_semaphores t) 2 ≡ not (is_some (free_semaphore (make_semaphore sem by n t)))
second_counts t sem by n e f =
    let test : Semaphore → Bool = λ x. not (is_some x.owner) in
    let made = make_semaphore sem by n t in
    let lt = search_within (λ k. test (get_or t.semaphores k no_semaphore)) 128 (t.last_semaphore + 1) sem f in
    let was = search_passes (λ k. test (get_or t.semaphores k no_semaphore)) 128 (t.last_semaphore + 1) sem f in
    let step = times-set test t.semaphores sem (record { owner = Some by; tokens = n; waiters = [] }) no_semaphore (omega arith) in
    one_less (free_semaphores t) (free_semaphores made) (exchanged (test (get_or t.semaphores sem no_semaphore)) _ _ was step) ∙ semaphore_counts made (length-set t.semaphores sem _ ∙ e)
  where
    exchanged : (b : Bool) (n k : ℕ) → b ≡ true → n + cond b 1 0 ≡ k + 0 → k ≡ suc n
    exchanged true n k e f = omega arith
    exchanged false n k e f = absurd (cc)

    one_less : (n k : ℕ) → n ≡ suc k → nat_lt n 2 ≡ nat_lt k 1
    one_less n zero e = lt-ltb n 2 (omega arith)
    one_less n (suc k) e = le-ltb n 2 (omega arith) ∙ sym (le-ltb (suc k) 1 (omega arith))

-- a number that is sought and not found
pub no_process_free : (t : Tables) (o : Option ℕ) (b : Bool) → length t.processes ≡ 64 → o ≡ free_process t → is_some o ≡ not b
    → b ≡ nat_lt (free_processes t) 1
no_process_free t o b e f g = opposite (is_some o) b g ∙ ap (λ x. not (is_some x)) f ∙ sym (process_counts t e)

pub no_port_free : (ports : List MessagePort) (first : ℕ) (o : Option ℕ) (b : Bool) → length ports ≡ 30
    → o ≡ search (λ q. not (is_used (port_at ports q))) most_ports first → is_some o ≡ not b → b ≡ nat_lt (free_ports ports) 1
no_port_free ports first o b e f g =
    opposite (is_some o) b g ∙ ap (λ x. not (is_some x)) f ∙ sym (search_counts (λ (x : MessagePort). not (is_used x)) ports no_port 30 first e)

-- a count goes on with the next element
times_next : {A : Type 0} (test : A → Bool) (l : List A) (i : ℕ) (d : A) → i < length l
    → times test (take (suc i) l) ≡ times test (take i l) + cond (test (get_or l i d)) 1 0
times_next test [] i d lt = absurd (omega arith)
times_next test (x ∷ l) zero d lt = by_test (test x)
  where
    by_test : (b : Bool) → cond b 1 0 ≡ 0 + cond b 1 0
    by_test true = refl
    by_test false = refl
times_next test (x ∷ l) (suc i) d lt =
    by_test (test x) (times test (take (suc i) l)) (times test (take i l)) (cond (test (get_or l i d)) 1 0) (times_next test l i d (omega arith))
  where
    by_test : (b : Bool) (m n k : ℕ) → m ≡ n + k → cond b (suc m) m ≡ cond b (suc n) n + k
    by_test true m n k e = omega (arith, e)
    by_test false m n k e = e

pub times_more : {A : Type 0} (test : A → Bool) (l : List A) (i : ℕ) (d : A) → i < length l
    → times test (take (i + 1) l) ≡ times test (take i l) + cond (test (get_or l i d)) 1 0
times_more test l i d lt = let one : i + 1 ≡ suc i = omega arith in ap (λ n. times test (take n l)) one ∙ times_next test l i d lt
