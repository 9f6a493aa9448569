-- What is known of semaphores after one line more.
use Rattle.std.proofs.Common.{◌≡◌, ◌∙◌, ◌<◌, ◌==◌, ◌&&◌, ⊎_elim, ◌++◌, take, drop, ℕ, zero, suc, Bool, true, false, if◌then◌else◌, List, [], ◌∷◌, length, map, replicate, Option, Some, None, arith, refl, sym, ap, subst}
use Rattle.std.specs.Prelude.{slice_index_or, slice_set, nat_lt}
use Rattle.std.proofs.Math.ListN.{length-set, length-map}
use Rattle.std.proofs.lemmas.Bool.{cases_Bool, cases_eq}
use Rattle.std.proofs.lemmas.Bool.Decides.{nat_tests}
use Rattle.std.proofs.lemmas.List.{get_or-set_same, get_or-set_other}
use Rattle.printed_runs.specs.Semaphores.{Knows, after_call, after_reply, asked_last, called_for, is_for, made_with, passed, used_by}
use Rattle.printed_runs.specs.declared.notes.Asked.{Asked}
use Rattle.printed_runs.specs.declared.notes.Asked.TheVariants as asked
use Rattle.printed_runs.specs.declared.notes.Note.{Note}
use Rattle.printed_runs.specs.declared.notes.Note.TheVariants as note
use Rattle.printed_runs.specs.declared.usages.Usage.{Usage}
use Rattle.printed_runs.specs.declared.usages.Usages.{Usages}

-- a test of two equal numbers, and of two that differ
same_number : (i j : ℕ) → i ≡ j → (i == j) ≡ true
same_number i j e = grind (arith, nat_tests)

other_number : (i j : ℕ) → (j ≡ i → ⊥) → (i == j) ≡ false
other_number i j e = grind (arith, nat_tests)

-- a read of a list after a write
pub read-write : {A : Type 0} (xs : List A) (i : ℕ) (v : A) (j : ℕ) (d : A) → j < length xs
    → slice_index_or (slice_set xs i v) j d ≡ (if i == j then v else slice_index_or xs j d)
read-write {A} xs i v j d inside =
    let rest = slice_index_or xs j d in
    ⊎_elim
    (λ (same : j ≡ i).
    ap (λ k. slice_index_or (slice_set xs i v) k d) same ∙ get_or-set_same xs i v d (subst (λ k. k < length xs) same inside)
    ∙ sym (ap (λ b. if b then v else rest) (same_number i j (sym same))))
    (λ other. get_or-set_other xs i j v d other ∙ sym (ap (λ b. if b then v else rest) (other_number i j other)))
    (cases_eq j i)

-- what a list has at one of its places doesn't depend on what stands for the others
pub same_place : {A : Type 0} (xs : List A) (i : ℕ) (d e : A) → i < length xs → slice_index_or xs i d ≡ slice_index_or xs i e
same_place [] i d e inside = absurd (omega arith)
same_place (x ∷ xs) zero d e inside = refl
same_place (x ∷ xs) (suc i) d e inside = same_place xs i d e (omega arith)

-- a read of a list in which a value was changed
pub changed_at : {A : Type 0} (xs : List A) (f : A → A) (i j : ℕ) (d : A) → j < length xs
    → slice_index_or (slice_set xs i (f (slice_index_or xs i d))) j d ≡ (if i == j then f (slice_index_or xs j d) else slice_index_or xs j d)
changed_at xs f i j d inside =
    let rest = slice_index_or xs j d in
    read-write xs i (f (slice_index_or xs i d)) j d inside
    ∙ ⊎_elim
    (λ (same : j ≡ i). ap (λ k. if i == j then f (slice_index_or xs k d) else rest) (sym same))
    (λ other. ap (λ b. if b then f (slice_index_or xs i d) else rest) (other_number i j other)
    ∙ sym (ap (λ b. if b then f rest else rest) (other_number i j other)))
    (cases_eq j i)

-- a list of one value
read-replicate : {A : Type 0} (n i : ℕ) (d : A) → slice_index_or (replicate n d) i d ≡ d
read-replicate zero i d = refl
read-replicate (suc n) zero d = refl
read-replicate (suc n) (suc i) d = read-replicate n i d

-- a function that leaves the value of no place is read behind it
read-map : {A : Type 0} (f : A → A) (xs : List A) (i : ℕ) (d : A) → f d ≡ d → slice_index_or (map f xs) i d ≡ f (slice_index_or xs i d)
read-map f [] i d e = sym e
read-map f (x ∷ xs) zero d e = refl
read-map f (x ∷ xs) (suc i) d e = read-map f xs i d e

-- a function that changes each value of a list, after one more
pub one_more : {A : Type 0} (f : A → A) (xs : List A) (i : ℕ) (d : A)
    → slice_set (map f (take i xs) ++ drop i xs) i (f (slice_index_or xs i d)) ≡ map f (take (suc i) xs) ++ drop (suc i) xs
one_more f [] zero d = refl
one_more f [] (suc i) d = refl
one_more f (x ∷ xs) zero d = refl
one_more f (x ∷ xs) (suc i) d = ap (λ y. f x ∷ y) (one_more f xs i d)

-- the values that aren't changed yet
pub not_yet : {A : Type 0} (f : A → A) (xs : List A) (i : ℕ) (d : A) → slice_index_or (map f (take i xs) ++ drop i xs) i d ≡ slice_index_or xs i d
not_yet f [] zero d = refl
not_yet f [] (suc i) d = refl
not_yet f (x ∷ xs) zero d = refl
not_yet f (x ∷ xs) (suc i) d = not_yet f xs i d

-- nothing was said
pub nothing_said : (t : Usages) → t.asked ≡ replicate 64 asked.Other → t.all ≡ replicate 128 (made_with 0) → Knows [] t
nothing_said t none nobody = record {
  processes = ap length none;
  semaphores = ap length nobody;
  asked = λ p h. ap (λ xs. slice_index_or xs p asked.Other) none ∙ read-replicate 64 p asked.Other;
  used = λ s h. ap (λ xs. slice_index_or xs s (made_with 0)) nobody ∙ read-replicate 128 s (made_with 0);
}

-- nothing was said that is told
pub other_said : (said : List Note) (t : Usages) → Knows said t → Knows (note.Other ∷ said) t
other_said said t k = record { processes = k.processes; semaphores = k.semaphores; asked = k.asked; used = k.used }

-- a process made a call, and the semaphores are kept as that says
call_said : (said : List Note) (t : Usages) (all : List Usage) (p i : ℕ) (a : Asked) → Knows said t → i ≡ p → length all ≡ 128
    → ((s : ℕ) → s < 128 → slice_index_or all s (made_with 0)
    ≡ (if is_for (called_for a) s then after_call a p (slice_index_or t.all s (made_with 0)) else slice_index_or t.all s (made_with 0)))
    → Knows (note.Called p a ∷ said) (record { asked = slice_set t.asked i a; all = all })
call_said said t all p i a k same many each =
    subst (λ n. Knows (note.Called p a ∷ said) (record { asked = slice_set t.asked n a; all = all })) (sym same) (record {
      processes = length-set t.asked p a ∙ k.processes;
      semaphores = many;
      asked = λ q g. read-write t.asked p a q asked.Other (subst (λ n. q < n) (sym k.processes) g)
          ∙ ap (λ b. if p == q then a else b) (k.asked q g);
      used = λ s g. each s g ∙ ap (λ u. if is_for (called_for a) s then after_call a p u else u) (k.used s g);
    })

-- a process made a call for a semaphore
pub signal_said : (said : List Note) (t : Usages) (p i s j : ℕ) (a : Asked) (x : Option ℕ) (d u : Usage) → Knows said t → i ≡ p
    → x ≡ called_for a → x ≡ Some s → j ≡ s → j < 128 → u ≡ after_call a p (slice_index_or t.all j d)
    → Knows (note.Called p a ∷ said) (record { asked = slice_set t.asked i a; all = slice_set t.all j u })
signal_said said t p i s j a x d u k same for is_s at h after =
    let inside : j < length t.all = subst (λ n. j < n) (sym k.semaphores) h in
    let e : u ≡ after_call a p (slice_index_or t.all j (made_with 0)) = after ∙ ap (after_call a p) (same_place t.all j d (made_with 0) inside) in
    let names : called_for a ≡ Some j = sym for ∙ is_s ∙ ap Some (sym at) in
    call_said said t _ p i a k same (length-set t.all j u ∙ k.semaphores)
    (λ r g. ap (λ w. slice_index_or (slice_set t.all j w) r (made_with 0)) e
    ∙ changed_at t.all (after_call a p) j r (made_with 0) (subst (λ n. r < n) (sym k.semaphores) g)
    ∙ sym (ap (λ o. if is_for o r then after_call a p (slice_index_or t.all r (made_with 0)) else slice_index_or t.all r (made_with 0)) names))

-- an option that is none of some value
pub none_of : {A : Type 0} (x : Option A) → ((a : A) → x ≡ Some a → ⊥) → x ≡ None
none_of None not = refl
none_of (Some a) not = absurd (not a refl)

-- a process made another call
pub plain_said : (said : List Note) (t : Usages) (p i : ℕ) (a : Asked) (x : Option ℕ) → Knows said t → i ≡ p → x ≡ called_for a → x ≡ None
    → Knows (note.Called p a ∷ said) (record { asked = slice_set t.asked i a; all = t.all })
plain_said said t p i a x k same for none =
    call_said said t t.all p i a k same k.semaphores
    (λ r g. sym (ap (λ o. if is_for o r then after_call a p (slice_index_or t.all r (made_with 0)) else slice_index_or t.all r (made_with 0))
    (sym for ∙ none)))

-- a process got a reply, and the semaphores are kept as that says
reply_said : (said : List Note) (t u : Usages) (all : List Usage) (p v i : ℕ) (d a : Asked) → Knows said t → u ≡ record t { all = all }
    → i ≡ p → i < 64 → slice_index_or t.asked i d ≡ a → length all ≡ 128
    → ((s : ℕ) → s < 128 → slice_index_or all s (made_with 0) ≡ after_reply a p v s (slice_index_or t.all s (made_with 0)))
    → Knows (note.Answered p v ∷ said) u
reply_said said t u all p v i d a k e same h is many each =
    let inside : i < length t.asked = subst (λ n. i < n) (sym k.processes) h in
    let asks : a ≡ asked_last said p = sym is ∙ same_place t.asked i d asked.Other inside ∙ k.asked i h ∙ ap (asked_last said) same in
    subst (Knows (note.Answered p v ∷ said)) (sym e) (record {
      processes = k.processes;
      semaphores = many;
      asked = k.asked;
      used = λ s g. each s g ∙ ap (λ x. after_reply x p v s (slice_index_or t.all s (made_with 0))) asks
          ∙ ap (λ x. after_reply (asked_last said p) p v s x) (k.used s g);
    })

-- a list has as many values after a write that may be made
same_many : {A : Type 0} (b : Bool) (xs : List A) (i : ℕ) (v : A) → length (if b then slice_set xs i v else xs) ≡ length xs
same_many true xs i v = length-set xs i v
same_many false xs i v = refl

-- a wait was answered
took_each : (all : List Usage) (s p v j : ℕ) → length all ≡ 128 → j < 128
    → slice_index_or (if v == 0 then slice_set all s (record (slice_index_or all s (made_with 0)) { taker = used_by p; is_held = true }) else all) j (made_with 0)
    ≡ after_reply (asked.Wait s) p v j (slice_index_or all j (made_with 0))
took_each all s p v j many h =
    let inside : j < length all = subst (λ n. j < n) (sym many) h in
    let taken : Usage → Usage = λ u. record u { taker = used_by p; is_held = true } in
    elim (v == 0)
    as (λ b. slice_index_or (if b then slice_set all s (taken (slice_index_or all s (made_with 0))) else all) j (made_with 0)
    ≡ (if b && (s == j) then taken (slice_index_or all j (made_with 0)) else slice_index_or all j (made_with 0))) [
      | true ↦ changed_at all taken s j (made_with 0) inside
      | false ↦ refl
    ]

-- a semaphore was made
made_each : (all : List Usage) (p v n j : ℕ) → length all ≡ 128 → j < 128
    → slice_index_or (if nat_lt v 128 then slice_set all v (made_with n) else all) j (made_with 0)
    ≡ after_reply (asked.Semaphore n) p v j (slice_index_or all j (made_with 0))
made_each all p v n j many h =
    let was = slice_index_or all j (made_with 0) in
    ⊎_elim
    (λ (in_use : nat_lt v 128 ≡ true).
    ap (λ b. slice_index_or (if b then slice_set all v (made_with n) else all) j (made_with 0)) in_use
    ∙ read-write all v (made_with n) j (made_with 0) (subst (λ n. j < n) (sym many) h))
    (λ (outside : nat_lt v 128 ≡ false).
    let differs : v == j ≡ false = grind (arith, nat_tests) in
    ap (λ b. slice_index_or (if b then slice_set all v (made_with n) else all) j (made_with 0)) outside
    ∙ sym (ap (λ b. if b then made_with n else was) differs))
    (cases_Bool (nat_lt v 128))

-- it isn't one of the calls after which a semaphore is another by its reply
other_each : (a : Asked) (p v j : ℕ) (was : Usage) → ((s : ℕ) → a ≡ asked.Wait s → ⊥) → ((n : ℕ) → a ≡ asked.Semaphore n → ⊥)
    → (a ≡ asked.Process → ⊥) → after_reply a p v j was ≡ was
other_each (asked.Wait s) p v j was nw ns np = absurd (nw s refl)
other_each (asked.Semaphore n) p v j was nw ns np = absurd (ns n refl)
other_each asked.Process p v j was nw ns np = absurd (np refl)
other_each (asked.Signal n) p v j was nw ns np = refl
other_each (asked.SignalMany n) p v j was nw ns np = refl
other_each (asked.Reset n) p v j was nw ns np = refl
other_each (asked.Buffer n) p v j was nw ns np = refl
other_each (asked.Message n) p v j was nw ns np = refl
other_each asked.Other p v j was nw ns np = refl

-- a wait was answered
pub took_said : (said : List Note) (t u : Usages) (s p v i : ℕ) (d : Asked) → Knows said t
    → u ≡ record t { all = if v == 0 then slice_set t.all s (record (slice_index_or t.all s (made_with 0)) { taker = used_by p; is_held = true }) else t.all }
    → i ≡ p → i < 64 → slice_index_or t.asked i d ≡ asked.Wait s → Knows (note.Answered p v ∷ said) u
took_said said t u s p v i d k e same h is =
    let taken : Usage = record (slice_index_or t.all s (made_with 0)) { taker = used_by p; is_held = true } in
    reply_said said t u _ p v i d (asked.Wait s) k e same h is (same_many (v == 0) t.all s taken ∙ k.semaphores)
    (λ j g. took_each t.all s p v j k.semaphores g)

-- a semaphore was made
pub made_said : (said : List Note) (t u : Usages) (p v n i : ℕ) (d : Asked) → Knows said t
    → u ≡ record t { all = if nat_lt v 128 then slice_set t.all v (made_with n) else t.all }
    → i ≡ p → i < 64 → slice_index_or t.asked i d ≡ asked.Semaphore n → Knows (note.Answered p v ∷ said) u
made_said said t u p v n i d k e same h is =
    reply_said said t u _ p v i d (asked.Semaphore n) k e same h is (same_many (nat_lt v 128) t.all v (made_with n) ∙ k.semaphores)
    (λ j g. made_each t.all p v n j k.semaphores g)

-- a process was made
pub process_said : (said : List Note) (t : Usages) (all : List Usage) (p v i : ℕ) (d : Asked) → Knows said t
    → all ≡ map (passed v) t.all → i ≡ p → i < 64 → slice_index_or t.asked i d ≡ asked.Process
    → Knows (note.Answered p v ∷ said) (record t { all = all })
process_said said t all p v i d k e same h is =
    reply_said said t _ all p v i d asked.Process k refl same h is (ap length e ∙ length-map t.all (passed v) ∙ k.semaphores)
    (λ j g. ap (λ xs. slice_index_or xs j (made_with 0)) e ∙ read-map (passed v) t.all j (made_with 0) refl)

-- something else was answered
pub rest_said : (said : List Note) (t : Usages) (p v i : ℕ) (d : Asked) → Knows said t → i ≡ p → i < 64
    → ((s : ℕ) → slice_index_or t.asked i d ≡ asked.Wait s → ⊥) → ((n : ℕ) → slice_index_or t.asked i d ≡ asked.Semaphore n → ⊥)
    → (slice_index_or t.asked i d ≡ asked.Process → ⊥) → Knows (note.Answered p v ∷ said) t
rest_said said t p v i d k same h nw ns np =
    reply_said said t t t.all p v i d _ k refl same h refl k.semaphores (λ j g. sym (other_each _ p v j _ nw ns np))
