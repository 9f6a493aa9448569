-- The laws that callers use of the lists of a table: none names an entry.
use Rattle.std.proofs.Common.{int_lt, int_le, ◌≡◌, ◌≢◌, ℕ, zero, suc, map, not, replicate, ◌+◌, ◌<◌, ℤ, true, false, cond, eqb, Some, None, List, [], ◌∷◌, ◌++◌, length, refl, sym, ap, ◌∙◌, subst, inl, inr, arith}
use Rattle.std.proofs.lemmas.Bool.{cases_eq, cases_lt, false≢true}
use Rattle.std.proofs.lemmas.Bool.Decides.{nat_tests}
use Rattle.std.proofs.lemmas.List.{get_or_past, set-get_or}
use Rattle.xinu_base.specs.Insert.{ready_insert}
use Rattle.queue_table.specs.declared.table.QueueTable.{QueueTable}
use Rattle.queue_table.specs.Lists.{Entry, IsDelta, all_delta_without, all_without, delay_insert, delays, delta_insert, delta_sooner, delta_without, differences, first_process, is_listed, list_at, place, place_from, rest_of, sooner, with_list, without}
use Rattle.queue_table.specs.Table.{lists}
use Rattle.queue_table.specs.Entries.{Chain, head_of, tail_of}
use Rattle.queue_table.proofs.Insertions.{is_listed-first, is_listed-rest, or-swap}
use Rattle.queue_table.proofs.Places.{map-same, without-absent}
use Rattle.queue_table.proofs.Deltas.{IsDelta-cut, delta_without-absent, is_listed-delays, is_listed-differences}
use Rattle.queue_table.proofs.Paths.{Path-below, is_listed-cons}
use Rattle.queue_table.proofs.Chains.{alone_rest}
use Rattle.queue_table.proofs.Tables.{chained_of, front_of, placed, rest_of_placed}
pub use Rattle.queue_table.proofs.Orders.{IsByKey-insert, IsByKey-filter}
pub use Rattle.queue_table.proofs.Deltas.{IsDelta-insert, IsDelta-sooner, IsDelta-rest, delays-differences, differences-delays, delays-insert, delays-without, delays-sooner}
pub use Rattle.queue_table.proofs.Places.{place-none, none-place, place-some, some-place, place-with, list_of-placed}
pub use Rattle.queue_table.proofs.Changes.{list_at-same, list_at-other}
pub use Rattle.queue_table.proofs.Insertions.{is_listed-append, is_listed-insert}
pub use Rattle.queue_table.proofs.Linked.{linked_of}

-- a table has Q lists
pub queues_of : {P Q : ℕ} → (t : QueueTable P Q) → length (lists t) ≡ Q
queues_of t = (chained_of t).queues

-- the lists of a table hold processes below P
pub below_P : {P Q : ℕ} → (t : QueueTable P Q) (p q : ℕ) → is_listed p (list_at (lists t) q) ≡ true → p < P
below_P {P} {Q} t p q h = elim (cases_lt q Q) [
  | inl lt ↦ Path-below P t.entries.items (head_of P q) (list_at (lists t) q) ((chained_of t).chains q lt).path p h
  | inr le ↦ (let F : List Entry → Type 0 = λ l. is_listed p l ≡ true in
      absurd (false≢true (subst F (get_or_past (lists t) q [] (omega (arith, (chained_of t).queues))) h)))
]

-- a process that is in the list of a queue is in no other list of the table
pub disjoint : {P Q : ℕ} → (t : QueueTable P Q) (p q r : ℕ) → place (lists t) p ≡ Some q → q ≢ r → is_listed p (list_at (lists t) r) ≡ false
disjoint t p q r at n = (linked_of t).apart q r p n (place-some (lists t) p q at).1

-- the first process of a list is in it, and not in the rest
pub first_placed : {P Q : ℕ} → (t : QueueTable P Q) (q : ℕ) (e : Entry) (l : List Entry) → q < Q → list_at (lists t) q ≡ e ∷ l → (place (lists t) e.0 ≡ Some q) × (is_listed e.0 l ≡ false)
first_placed {P} {Q} t q e l lt is =
    let C : List Entry → Type 0 = λ l. Chain P t.entries.items (head_of P q) l (tail_of P q) in
    let c : Chain P t.entries.items (head_of P q) (e ∷ l) (tail_of P q) = subst C is ((chained_of t).chains q lt) in
    let F : List Entry → Type 0 = λ l. is_listed e.0 l ≡ true in
    let first : is_listed e.0 (list_at (lists t) q) ≡ true = subst F (sym is) (is_listed-first e l) in (
      some-place (lists t) e.0 q (λ j lj. (linked_of t).apart q j e.0 (omega arith) first) first,
      alone_rest P t.entries.items (head_of P q) [] e l (omega arith) c.path,
    )

-- once the first of a list is taken out it is nowhere, and every other process where it was
pub place_rest : {P Q : ℕ} → (t : QueueTable P Q) (q : ℕ) (e : Entry) (l : List Entry) → q < Q → list_at (lists t) q ≡ e ∷ l
    → (place (with_list (lists t) q l) e.0 ≡ None) × ((r : ℕ) → r ≢ e.0 → place (with_list (lists t) q l) r ≡ place (lists t) r)
place_rest t q e l lt is =
    let f = first_placed t q e l lt is in
    let G : List Entry → Type 0 = λ l. is_listed e.0 l ≡ false in (
      none-place (with_list (lists t) q l) e.0 (λ i. elim (cases_eq i q) [
        | inl s ↦ (let H : ℕ → Type 0 = λ i. is_listed e.0 (list_at (with_list (lists t) q l) i) ≡ false in subst H (sym s) (subst G (sym (list_at-same (lists t) q l (omega (arith, queues_of t)))) f.1))
        | inr n ↦ subst G (sym (list_at-other (lists t) q l i n)) (disjoint t e.0 q i f.0 (λ s. n (sym s)))
      ]),
      λ r n. place-with (lists t) q l r (sym (ap (is_listed r) is ∙ is_listed-rest r e l n)),
    )

-- a process that was nowhere is in the queue whose list it was put into
pub place_put : (ls : List (List Entry)) (q p : ℕ) (l : List Entry) → place ls p ≡ None → q < length ls → is_listed p l ≡ true → place (with_list ls q l) p ≡ Some q
place_put ls q p l none lt h =
    let F : List Entry → Type 0 = λ l. is_listed p l ≡ true in
    let G : List Entry → Type 0 = λ l. is_listed p l ≡ false in
    some-place (with_list ls q l) p q (λ j lj. subst G (sym (list_at-other ls q l j (omega arith))) (place-none ls p none j)) (subst F (sym (list_at-same ls q l lt)) h)

-- a change of a list that adds p, which was nowhere, and nobody else puts p there and leaves every other process where it was
place_added : (ls : List (List Entry)) (q p : ℕ) (k : ℤ) (l : List Entry) → place ls p ≡ None → q < length ls → ((r : ℕ) → is_listed r l ≡ is_listed r ((p, k) ∷ list_at ls q))
    → (place (with_list ls q l) p ≡ Some q) × ((r : ℕ) → r ≢ p → place (with_list ls q l) r ≡ place ls r)
place_added ls q p k l none lt h = (
  place_put ls q p l none lt (h p ∙ is_listed-first (p, k) (list_at ls q)),
  λ r n. place-with ls q l r (h r ∙ is_listed-rest r (p, k) (list_at ls q) n),
)

-- an entry put last is added
is_listed-last : (l : List Entry) (e : Entry) (r : ℕ) → is_listed r (l ++ e ∷ []) ≡ is_listed r (e ∷ l)
is_listed-last [] e r = refl
is_listed-last (f ∷ l) e r =
    ap (λ b. cond (eqb r f.0) true b) (is_listed-last l e r) ∙ or-swap (eqb r f.0) (eqb r e.0) (is_listed r l)

-- a process put last into a list is there, and every other where it was
pub place_pushed : (ls : List (List Entry)) (q p : ℕ) (k : ℤ) → place ls p ≡ None → q < length ls
    → (place (with_list ls q (list_at ls q ++ (p, k) ∷ [])) p ≡ Some q) × ((r : ℕ) → r ≢ p → place (with_list ls q (list_at ls q ++ (p, k) ∷ [])) r ≡ place ls r)
place_pushed ls q p k none lt = place_added ls q p k (list_at ls q ++ (p, k) ∷ []) none lt (is_listed-last (list_at ls q) (p, k))

-- a process inserted by key into a list is there, and every other where it was
pub place_inserted : (ls : List (List Entry)) (q p : ℕ) (k : ℤ) → place ls p ≡ None → q < length ls
    → (place (with_list ls q (ready_insert p k (list_at ls q))) p ≡ Some q) × ((r : ℕ) → r ≢ p → place (with_list ls q (ready_insert p k (list_at ls q))) r ≡ place ls r)
place_inserted ls q p k none lt = place_added ls q p k (ready_insert p k (list_at ls q)) none lt (is_listed-insert (λ x. not (int_lt x.1 k)) (p, k) (list_at ls q))

-- an insertion into a delta list adds its process and nobody else
is_listed-delta_insert : (p : ℕ) (d : ℤ) (l : List Entry) (r : ℕ) → is_listed r (delta_insert p d l) ≡ is_listed r ((p, d) ∷ l)
is_listed-delta_insert p d l r =
    is_listed-differences r (delay_insert p d (delays l)) ∙ is_listed-insert (λ x. int_le x.1 d) (p, d) (delays l) r ∙ ap (λ b. cond (eqb r p) true b) (is_listed-delays r l)

-- a process put into a delta list is there, and every other where it was
pub place_delayed : (ls : List (List Entry)) (q p : ℕ) (d : ℤ) → place ls p ≡ None → q < length ls
    → (place (with_list ls q (delta_insert p d (list_at ls q))) p ≡ Some q) × ((r : ℕ) → r ≢ p → place (with_list ls q (delta_insert p d (list_at ls q))) r ≡ place ls r)
place_delayed ls q p d none lt = place_added ls q p d (delta_insert p d (list_at ls q)) none lt (is_listed-delta_insert p d (list_at ls q))

-- lowering the delays of a list adds nobody and takes nobody out
is_listed-sooner : (r : ℕ) (l : List Entry) → is_listed r (sooner l) ≡ is_listed r l
unfolding sooner
is_listed-sooner r [] = refl
is_listed-sooner r (e ∷ l) = ap (λ b. cond (eqb r e.0) true b) (is_listed-sooner r l)

-- lowering the delays of a list leaves every process where it was
pub place_sooner : (ls : List (List Entry)) (q r : ℕ) → place (with_list ls q (delta_sooner (list_at ls q))) r ≡ place ls r
place_sooner ls q r =
    place-with ls q (delta_sooner (list_at ls q)) r (is_listed-differences r (sooner (delays (list_at ls q))) ∙ is_listed-sooner r (delays (list_at ls q)) ∙ is_listed-delays r (list_at ls q))

-- a list that p is taken out of doesn't have p
is_listed-without_same : (p : ℕ) (l : List Entry) → is_listed p (without p l) ≡ false
is_listed-without_same p [] = refl
is_listed-without_same p (e ∷ l) = let i : is_listed p (without p l) ≡ false = is_listed-without_same p l in let F : List Entry → Type 0 = λ l. is_listed p l ≡ false in
    elim (cases_eq p e.0) [
      | inl s ↦ (let b : eqb p e.0 ≡ true = grind (arith, nat_tests) in subst F (sym (ap (λ b. cond (not b) (e ∷ without p l) (without p l)) b)) i)
      | inr n ↦ (let b : eqb p e.0 ≡ false = grind (arith, nat_tests) in subst F (sym (ap (λ b. cond (not b) (e ∷ without p l) (without p l)) b)) (is_listed-cons p e (without p l) n i))
    ]

-- a list that p is taken out of has the other processes as before
is_listed-without_other : (p r : ℕ) (l : List Entry) → r ≢ p → is_listed r (without p l) ≡ is_listed r l
is_listed-without_other p r [] n = refl
is_listed-without_other p r (e ∷ l) n = let i : is_listed r (without p l) ≡ is_listed r l = is_listed-without_other p r l n in
    elim (cases_eq p e.0) [
      | inl s ↦ (let b : eqb p e.0 ≡ true = grind (arith, nat_tests) in let d : r ≢ e.0 = λ x. n (x ∙ sym s) in
          ap (λ b. is_listed r (cond (not b) (e ∷ without p l) (without p l))) b ∙ i ∙ sym (is_listed-rest r e l d))
      | inr d ↦ (let b : eqb p e.0 ≡ false = grind (arith, nat_tests) in
          ap (λ b. is_listed r (cond (not b) (e ∷ without p l) (without p l))) b ∙ ap (λ b. cond (eqb r e.0) true b) i)
    ]

-- a change of every list alike leaves a process where it was, if it leaves it in each list in which it was
place_mapped : (f : List Entry → List Entry) (r from : ℕ) (ls : List (List Entry)) → ((l : List Entry) → is_listed r (f l) ≡ is_listed r l) → place_from from (map f ls) r ≡ place_from from ls r
place_mapped f r from [] h = refl
place_mapped f r from (l ∷ ls) h =
    ap (λ b. cond b (Some from) (place_from (from + 1) (map f ls) r)) (h l) ∙ ap (λ o. cond (is_listed r l) (Some from) o) (place_mapped f r (from + 1) ls h)

-- the list of each queue is the one that p is taken out of
pub list_at_without : (ls : List (List Entry)) (p i : ℕ) → list_at (all_without p ls) i ≡ without p (list_at ls i)
unfolding all_without
list_at_without [] p i = refl
list_at_without (l ∷ ls) p zero = refl
list_at_without (l ∷ ls) p (suc i) = list_at_without ls p i

-- a process that is taken out is nowhere
pub place_without_same : (ls : List (List Entry)) (p : ℕ) → place (all_without p ls) p ≡ None
place_without_same ls p = none-place (all_without p ls) p (λ i. ap (is_listed p) (list_at_without ls p i) ∙ is_listed-without_same p (list_at ls i))

-- once p is taken out every other process is where it was
pub place_without_other : (ls : List (List Entry)) (p r : ℕ) → r ≢ p → place (all_without p ls) r ≡ place ls r
unfolding all_without place
place_without_other ls p r n = place_mapped (without p) r 0 ls (λ l. is_listed-without_other p r l n)

-- the lists stay as they are if p, which is nowhere, is taken out
pub all_without_none : (ls : List (List Entry)) (p : ℕ) → place ls p ≡ None → all_without p ls ≡ ls
unfolding all_without
all_without_none ls p h = map-same (without p) ls (λ i. without-absent p (list_at ls i) (place-none ls p h i))

-- the list of each queue is the one that p is taken out of, with the other delays as they were
pub list_at_delta_without : (ls : List (List Entry)) (p i : ℕ) → list_at (all_delta_without p ls) i ≡ delta_without p (list_at ls i)
unfolding all_delta_without delays differences
list_at_delta_without [] p i = refl
list_at_delta_without (l ∷ ls) p zero = refl
list_at_delta_without (l ∷ ls) p (suc i) = list_at_delta_without ls p i

-- a delta list that p is taken out of has of the processes what the list without p has
is_listed-delta_without : (p r : ℕ) (l : List Entry) → is_listed r (delta_without p l) ≡ is_listed r (without p (delays l))
is_listed-delta_without p r l = is_listed-differences r (without p (delays l))

-- a process that is taken out of its delta list is nowhere
pub place_delta_without_same : (ls : List (List Entry)) (p : ℕ) → place (all_delta_without p ls) p ≡ None
place_delta_without_same ls p = none-place (all_delta_without p ls) p (λ i. ap (is_listed p) (list_at_delta_without ls p i) ∙ is_listed-delta_without p p (list_at ls i) ∙ is_listed-without_same p (delays (list_at ls i)))

-- once p is taken out of its delta list every other process is where it was
pub place_delta_without_other : (ls : List (List Entry)) (p r : ℕ) → r ≢ p → place (all_delta_without p ls) r ≡ place ls r
unfolding all_delta_without place
place_delta_without_other ls p r n = place_mapped (delta_without p) r 0 ls (λ l. is_listed-delta_without p r l ∙ is_listed-without_other p r (delays l) n ∙ is_listed-delays r l)

-- a delta list of a table stays one when a process is taken out
pub IsDelta-without : {P Q : ℕ} → (t : QueueTable P Q) (p q r : ℕ) → place (lists t) p ≡ Some q → IsDelta (list_at (lists t) r) → IsDelta (delta_without p (list_at (lists t) r))
IsDelta-without {P} {Q} t p q r at h = elim (cases_eq q r) [
  | inl s ↦ (
      let d = placed t p q at in
      let D : List Entry → Type 0 = λ l. IsDelta l in
      let R : ℕ → Type 0 = λ r. IsDelta (delta_without p (list_at (lists t) r)) in
      let W : List Entry → Type 0 = λ l. IsDelta (delta_without p l) in
      let H : ℕ → Type 0 = λ r. IsDelta (list_at (lists t) r) in
      subst R s (subst W (sym d.is) (IsDelta-cut d.before p d.key d.behind
      (front_of d)
      (rest_of_placed d) (subst D d.is (subst H (sym s) h)))))
  | inr n ↦ (let D : List Entry → Type 0 = λ l. IsDelta l in subst D (sym (delta_without-absent p (list_at (lists t) r) (disjoint t p q r at n))) h)
]

-- if the first process is p the list is p and the rest
pub first_is : (l : List Entry) (p : ℕ) → Some p ≡ first_process l → (k : ℤ) × (l ≡ (p, k) ∷ rest_of l)
first_is [] p h = absurd (cc)
first_is (e ∷ l) p h = let s : p ≡ e.0 = cc in (e.1, (let F : ℕ → Type 0 = λ n. e ∷ l ≡ (n, e.1) ∷ l in subst F (sym s) refl))

-- a list without a first process is empty
pub first_none : (l : List Entry) → None ≡ first_process l → l ≡ []
first_none [] h = refl
first_none (e ∷ l) h = absurd (cc)

-- the lists stay as they are if the first of an empty list is taken out
pub rest_of_none : (ls : List (List Entry)) (q : ℕ) → None ≡ first_process (list_at ls q) → with_list ls q (rest_of (list_at ls q)) ≡ ls
rest_of_none ls q h =
    let e : list_at ls q ≡ [] = first_none (list_at ls q) h in
    ap (λ l. with_list ls q (rest_of l)) e ∙ ap (λ l. with_list ls q l) (sym e) ∙ set-get_or ls q []

-- a process is nowhere in empty lists, counted from any queue
place_from_fresh : (from n p : ℕ) → place_from from (replicate n []) p ≡ None
place_from_fresh from zero p = refl
place_from_fresh from (suc n) p = place_from_fresh (from + 1) n p

-- no process is in a list of a new table
pub place_fresh : (n p : ℕ) → place (replicate n []) p ≡ None
unfolding place
place_fresh n p = place_from_fresh 0 n p
