-- Order is kept by a filter and by an insertion.
use Rattle.std.proofs.Common.{◌≡◌, ℕ, ◌<◌, ◌≤◌, Bool, true, false, not, List, [], ◌∷◌, ◌++◌, ◌==◌, filter, map, arith, ℤ, ◌≤ℤ◌}
use Rattle.std.specs.Prelude.{int_lt, nat_le}
use Rattle.std.specs.List.{AllByRecursion}
use Rattle.std.proofs.lemmas.Bool.{cond_both, not-true, not-false, leb-true, leb-false}
use Rattle.std.proofs.lemmas.Int.{ints}
use Rattle.xinu_base.specs.Insert.{insert}
use Rattle.xinu_model.specs.Sound.Tables.{IsInOrder, IsFalling, IsRising, entries_of}
use Rattle.table_laws.proofs.Lists.Counts.{first_has_entry, entries_behind}
use Rattle.xinu_model.specs.Tables.{entries_without, Place, Nowhere, InReady, InSemaphore, InSleepers, ready_in, sleepers_in}

-- what holds of all holds of those that a filter keeps
pub all_filter : {A : Type 0} (P : A → Type 0) (kept : A → Bool) (l : List A) → AllByRecursion P l → AllByRecursion P (filter kept l)
all_filter P kept [] h = tt
all_filter P kept (x ∷ xs) h =
    cond_both (kept x) (x ∷ filter kept xs) (filter kept xs) (AllByRecursion P) (λ _. (h.0, all_filter P kept xs h.1))
    (λ _. all_filter P kept xs h.1)

-- what holds of all of two lists holds of all of them joined
pub all_append : {A : Type 0} (P : A → Type 0) (xs ys : List A) → AllByRecursion P xs → AllByRecursion P ys → AllByRecursion P (xs ++ ys)
all_append P [] ys h k = k
all_append P (x ∷ xs) ys h k = (h.0, all_append P xs ys h.1 k)

-- what follows from what holds of all holds of all
pub all_weaker : {A : Type 0} (P Q : A → Type 0) → ((x : A) → P x → Q x) → (xs : List A) → AllByRecursion P xs → AllByRecursion Q xs
all_weaker P Q f [] h = tt
all_weaker P Q f (x ∷ xs) h = (f x h.0, all_weaker P Q f xs h.1)

-- all that a filter keeps pass its test
pub all_passes : {A : Type 0} (kept : A → Bool) (l : List A) → AllByRecursion (λ x. kept x ≡ true) (filter kept l)
all_passes kept [] = tt
all_passes kept (x ∷ xs) =
    cond_both (kept x) (x ∷ filter kept xs) (filter kept xs) (AllByRecursion (λ y. kept y ≡ true)) (λ e. (e, all_passes kept xs))
    (λ _. all_passes kept xs)

-- a filter keeps an order
pub order_filter : {A : Type 0} (R : A → A → Type 0) (kept : A → Bool) (l : List A) → IsInOrder R l → IsInOrder R (filter kept l)
order_filter R kept [] h = tt
order_filter R kept (x ∷ xs) h =
    cond_both (kept x) (x ∷ filter kept xs) (filter kept xs) (IsInOrder R) (λ _. (all_filter (R x) kept xs h.0, order_filter R kept xs h.1))
    (λ _. order_filter R kept xs h.1)

-- two lists in order are in order one after another, where each of the first is in the relation to each of the second
pub order_append : {A : Type 0} (R : A → A → Type 0) (xs ys : List A) → IsInOrder R xs → IsInOrder R ys
    → AllByRecursion (λ x. AllByRecursion (R x) ys) xs → IsInOrder R (xs ++ ys)
order_append R [] ys h k across = k
order_append R (x ∷ xs) ys h k across = (all_append (R x) xs ys h.0 across.0, order_append R xs ys h.1 k across.1)

-- An insertion keeps an order whose relation holds from what goes before to the new element, from this to the others,
-- and from what goes before to the others.
pub order_insert : {A : Type 0} (R : A → A → Type 0) (before : A → Bool) (e : A) (l : List A)
    → ((x : A) → before x ≡ true → R x e) → ((x : A) → before x ≡ false → R e x) → ((x y : A) → before x ≡ true → before y ≡ false → R x y)
    → IsInOrder R l → IsInOrder R (insert before e l)
order_insert R before e l to from across h =
    let others = filter (λ x. not (before x)) l in
    let behind = all_passes (λ x. not (before x)) l in
    order_append R (filter before l) (e ∷ others) (order_filter R before l h) (
      all_weaker (λ x. not (before x) ≡ true) (R e) (λ x n. from x (not-true (before x) n)) others behind,
      order_filter R
          (λ x. not (before x)) l h,
    )
    (all_weaker (λ x. before x ≡ true) (λ x. AllByRecursion (R x) (e ∷ others))
    (λ x b. (to x b, all_weaker (λ y. not (before y) ≡ true) (R x) (λ y n. across x y b (not-true (before y) n)) others behind))
    (filter before l) (all_passes before l))

-- what holds of all and of a new element holds of all after its insertion
pub all_insert : {A : Type 0} (P : A → Type 0) (before : A → Bool) (e : A) (l : List A) → P e → AllByRecursion P l
    → AllByRecursion P (insert before e l)
all_insert P before e l new h =
    all_append P (filter before l) (e ∷ filter (λ x. not (before x)) l) (all_filter P before l h)
    (new, all_filter P (λ x. not (before x)) l h)

-- a key that isn't less
not_less : (a k : ℤ) → not (int_lt a k) ≡ true → k ≤ℤ a
not_less a k h = let e = not-true (int_lt a k) h in grind (arith, ints)

-- a key that is less
less : (a k : ℤ) → not (int_lt a k) ≡ false → a ≤ℤ k
less a k h = let e = not-false (int_lt a k) h in grind (arith, ints)

-- one that isn't, and one that is
less_across : (a c k : ℤ) → not (int_lt a k) ≡ true → not (int_lt c k) ≡ false → c ≤ℤ a
less_across a c k h i = let e = not_less a k h in let f = less c k i in grind (arith, ints)

-- the ready list falls after a process went to its place
pub falling_in : (place : Place) (p : ℕ) (key : ℤ) (l : List (ℕ × ℤ)) → IsFalling l → IsFalling (ready_in place p key l)
falling_in InReady p key l h =
    order_insert (λ a b. b.1 ≤ℤ a.1) (λ x. not (int_lt x.1 key)) (p, key) l (λ x e. not_less x.1 key e) (λ x e. less x.1 key e)
    (λ x y e f. less_across x.1 y.1 key e f) h
falling_in Nowhere p key l h = h
falling_in (InSemaphore s) p key l h = h
falling_in (InSleepers wake) p key l h = h

-- what holds of all of the ready list and of a process's new entry holds of all after it went to its place
pub all_ready_in : (P : ℕ × ℤ → Type 0) (place : Place) (p : ℕ) (key : ℤ) (l : List (ℕ × ℤ)) → P (p, key) → AllByRecursion P l
    → AllByRecursion P (ready_in place p key l)
all_ready_in P InReady p key l new h = all_insert P (λ x. not (int_lt x.1 key)) (p, key) l new h
all_ready_in P Nowhere p key l new h = h
all_ready_in P (InSemaphore s) p key l new h = h
all_ready_in P (InSleepers wake) p key l new h = h

-- and after one left it
pub falling_without : (p : ℕ) (l : List (ℕ × ℤ)) → IsFalling l → IsFalling (entries_without p l)
falling_without p l h = order_filter (λ a b. b.1 ≤ℤ a.1) (λ e. not (e.0 == p)) l h

-- the sleepers rise after a process went to its place
pub rising_in : (place : Place) (p : ℕ) (l : List (ℕ × ℕ)) → IsRising l → IsRising (sleepers_in place p l)
rising_in (InSleepers wake) p l h =
    order_insert (λ a b. a.1 ≤ b.1) (λ x. nat_le x.1 wake) (p, wake) l (λ x e. leb-true x.1 wake e)
    (λ x e. let n = leb-false x.1 wake e in omega arith)
    (λ x y e f. let m = leb-true x.1 wake e in let n = leb-false y.1 wake f in omega arith) h
rising_in Nowhere p l h = h
rising_in InReady p l h = h
rising_in (InSemaphore s) p l h = h

-- and after one left them
pub rising_without : (p : ℕ) (l : List (ℕ × ℕ)) → IsRising l → IsRising (entries_without p l)
rising_without p l h = order_filter (λ a b. a.1 ≤ b.1) (λ e. not (e.0 == p)) l h

-- a place among the sleepers is for a later tick
abbrev pub IsLater : ℕ → Place → Type 0
IsLater ticks (InSleepers wake) = ticks < wake
IsLater ticks _ = Unit {0}

-- the sleepers wake later after a process went to a place for a later tick
pub later_in : (ticks : ℕ) (place : Place) (p : ℕ) (l : List (ℕ × ℕ)) → IsLater ticks place
    → AllByRecursion (λ e. ticks < e.1) l → AllByRecursion (λ e. ticks < e.1) (sleepers_in place p l)
later_in ticks (InSleepers wake) p l i h = all_insert (λ e. ticks < e.1) (λ x. nat_le x.1 wake) (p, wake) l i h
later_in ticks Nowhere p l i h = h
later_in ticks InReady p l i h = h
later_in ticks (InSemaphore s) p l i h = h

-- what holds of all of a list's images holds of all of the list that is mapped
pub all_map : {A B : Type 0} (P : B → Type 0) (f : A → B) (l : List A) → AllByRecursion (λ x. P (f x)) l → AllByRecursion P (map f l)
all_map P f [] h = tt
all_map P f (x ∷ xs) h = (h.0, all_map P f xs h.1)

-- two facts of all
pub all_both : {A : Type 0} (P Q : A → Type 0) (l : List A) → AllByRecursion P l → AllByRecursion Q l → AllByRecursion (λ x. P x × Q x) l
all_both P Q [] h k = tt
all_both P Q (x ∷ xs) h k = ((h.0, k.0), all_both P Q xs h.1 k.1)

-- each entry of a list is counted in it
pub all_have_entries : {K : Type 0} (l : List (ℕ × K)) → AllByRecursion (λ e. 0 < entries_of e.0 l) l
all_have_entries [] = tt
all_have_entries (x ∷ xs) = (
  first_has_entry x xs,
  all_weaker (λ e. 0 < entries_of e.0 xs) (λ e. 0 < entries_of e.0 (x ∷ xs)) (λ e h. entries_behind e.0 x xs h) xs
      (all_have_entries xs),
)
