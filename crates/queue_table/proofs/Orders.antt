-- The insertion by key, as two filters and as a walk finds it.
use Rattle.std.proofs.Common.{◌≡◌, ℕ, ℤ, ◌≤ℤ◌, ◌<ℤ◌, int_le, int_lt, Bool, true, false, not, List, [], ◌∷◌, ◌++◌, refl, sym, ap, subst, inl, inr, ◌⊎◌, arith}
use Rattle.std.specs.List.{filter}
use Rattle.std.proofs.lemmas.Int.{ints, by_lt_z}
use Rattle.std.proofs.lemmas.Bool.{cases_Bool}
use Rattle.xinu_base.specs.Insert.{ready_insert}
use Rattle.queue_table.specs.Lists.{Entry, IsByKey, KeysAtLeast, KeysAtMost, KeysBelow}
use Rattle.queue_table.proofs.Insertions.{AllAre, filter-drops, filter-keeps, insert-split}

-- the test at most holds if it is so
pub int_le-true : (a b : ℤ) → a ≤ℤ b → int_le a b ≡ true
int_le-true a b h = grind (arith, ints)

-- the test at most fails if it isn't so
pub int_le-false : (a b : ℤ) → b <ℤ a → int_le a b ≡ false
int_le-false a b h = grind (arith, ints)

-- the test less holds if it is so
pub int_lt-true : (a b : ℤ) → a <ℤ b → int_lt a b ≡ true
int_lt-true a b h = grind (arith, ints)

-- the test less fails if it isn't so
pub int_lt-false : (a b : ℤ) → b ≤ℤ a → int_lt a b ≡ false
int_lt-false a b h = grind (arith, ints)

-- an insertion by key goes after each key that is not less
before_kept : (k : ℤ) (l : List Entry) → KeysAtLeast k l → AllAre (λ e. not (int_lt e.1 k)) true l
before_kept k [] h = tt
before_kept k (e ∷ l) h = (ap not (int_lt-false e.1 k h.0), before_kept k l h.1)

-- an insertion by key goes before each key that is less
behind_kept : (k : ℤ) (l : List Entry) → KeysBelow k l → AllAre (λ e. not (int_lt e.1 k)) false l
behind_kept k [] h = tt
behind_kept k (e ∷ l) h = (ap not (int_lt-true e.1 k h.0), behind_kept k l h.1)

-- the insertion by key, if the list falls into the keys that are not less and those that are
pub ready_insert-split : (pre post : List Entry) (p : ℕ) (k : ℤ) → KeysAtLeast k pre → KeysBelow k post → ready_insert p k (pre ++ post) ≡ pre ++ (p, k) ∷ post
ready_insert-split pre post p k a b = insert-split (λ e. not (int_lt e.1 k)) (p, k) pre post (before_kept k pre a) (behind_kept k post b)

-- no key is less than k, if none was and the one put last isn't
pub KeysAtLeast-push : (k : ℤ) (l : List Entry) (e : Entry) → KeysAtLeast k l → k ≤ℤ e.1 → KeysAtLeast k (l ++ e ∷ [])
KeysAtLeast-push k [] e h le = (le, tt)
KeysAtLeast-push k (f ∷ l) e h le = (h.0, KeysAtLeast-push k l e h.1 le)

-- keys that are at most j are less than what is greater than j
KeysBelow-from : (j k : ℤ) (l : List Entry) → KeysAtMost j l → j <ℤ k → KeysBelow k l
KeysBelow-from j k [] h lt = tt
KeysBelow-from j k (e ∷ l) h lt = (omega (arith, ints, h.0, lt), KeysBelow-from j k l h.1 lt)

-- a part at the end of a list that is kept by key is kept by key
IsByKey-behind : (l m : List Entry) → IsByKey (l ++ m) → IsByKey m
IsByKey-behind [] m h = h
IsByKey-behind (e ∷ l) m h = IsByKey-behind l m h.1

-- if a walk stops, the rest of an ordered list has lower keys
pub KeysBelow-rest : (pre : List Entry) (e : Entry) (post : List Entry) (k : ℤ) → IsByKey (pre ++ e ∷ post) → e.1 <ℤ k → KeysBelow k (e ∷ post)
KeysBelow-rest pre e post k h lt = (lt, KeysBelow-from e.1 k post (IsByKey-behind pre (e ∷ post) h).0 lt)

-- no key of two lists put together is greater than j, if none of either is
KeysAtMost-append : (j : ℤ) (l m : List Entry) → KeysAtMost j l → KeysAtMost j m → KeysAtMost j (l ++ m)
KeysAtMost-append j [] m a b = b
KeysAtMost-append j (e ∷ l) m a b = (a.0, KeysAtMost-append j l m a.1 b)

-- no key of some entries of a list is greater than j, if none of the list is
KeysAtMost-filter : (j : ℤ) (test : Entry → Bool) (l : List Entry) → KeysAtMost j l → KeysAtMost j (filter test l)
KeysAtMost-filter j test [] h = tt
KeysAtMost-filter j test (e ∷ l) h = let F : List Entry → Type 0 = λ l. KeysAtMost j l in elim (cases_Bool (test e)) [
  | inl t ↦ subst F (sym (filter-keeps test e l (filter test l) t refl)) (h.0, KeysAtMost-filter j test l h.1)
  | inr f ↦ subst F (sym (filter-drops test e l (filter test l) f refl)) (KeysAtMost-filter j test l h.1)
]

-- of two numbers the first is less, or the second isn't greater
pub cases_ℤ : (a b : ℤ) → (a <ℤ b) ⊎ (b ≤ℤ a)
cases_ℤ a b = by_lt_z a b inl inr

-- an ordered list falls into the entries of a key not less, and the rest
pub by_key_split : (l : List Entry) (k : ℤ) → IsByKey l → (pre : List Entry) × (post : List Entry) × (l ≡ pre ++ post) × KeysAtLeast k pre × KeysBelow k post
by_key_split [] k h = ([], [], refl, tt, tt)
by_key_split (e ∷ l) k h = elim (cases_ℤ e.1 k) [
  | inl lt ↦ ([], e ∷ l, refl, tt, (lt, KeysBelow-from e.1 k l h.0 lt))
  | inr le ↦ (let r = by_key_split l k h.1 in (e ∷ r.0, r.1, ap (λ l. e ∷ l) r.2, (le, r.3), r.4))
]

-- no key of the first part of a list is greater than j, if none of the list is
KeysAtMost-left : (j : ℤ) (l m : List Entry) → KeysAtMost j (l ++ m) → KeysAtMost j l
KeysAtMost-left j [] m h = tt
KeysAtMost-left j (e ∷ l) m h = (h.0, KeysAtMost-left j l m h.1)

-- no key of the second part of a list is greater than j, if none of the list is
KeysAtMost-right : (j : ℤ) (l m : List Entry) → KeysAtMost j (l ++ m) → KeysAtMost j m
KeysAtMost-right j [] m h = h
KeysAtMost-right j (e ∷ l) m h = KeysAtMost-right j l m h.1

-- keys that are less than k are at most k
KeysBelow-at_most : (k : ℤ) (l : List Entry) → KeysBelow k l → KeysAtMost k l
KeysBelow-at_most k [] h = tt
KeysBelow-at_most k (e ∷ l) h = (omega (arith, ints, h.0), KeysBelow-at_most k l h.1)

-- a list stays kept by key if an entry goes in between the keys that are not less and those that are
IsByKey-between : (pre post : List Entry) (p : ℕ) (k : ℤ) → IsByKey (pre ++ post) → KeysAtLeast k pre → KeysBelow k post → IsByKey (pre ++ (p, k) ∷ post)
IsByKey-between [] post p k h a b = (KeysBelow-at_most k post b, h)
IsByKey-between (e ∷ pre) post p k h a b =
    (KeysAtMost-append e.1 pre ((p, k) ∷ post) (KeysAtMost-left e.1 pre post h.0) (a.0, KeysAtMost-right e.1 pre post h.0), IsByKey-between pre post p k h.1 a.1 b)

-- an insertion by key leaves a list kept by key
pub IsByKey-insert : (l : List Entry) (p : ℕ) (k : ℤ) → IsByKey l → IsByKey (ready_insert p k l)
IsByKey-insert l p k h =
    let s = by_key_split l k h in
    let F : List Entry → Type 0 = λ l. IsByKey l in
    let G : List Entry → Type 0 = λ l. IsByKey (ready_insert p k l) in
    subst G (sym s.2) (subst F (sym (ready_insert-split s.0 s.1 p k s.3 s.4)) (IsByKey-between s.0 s.1 p k (subst F s.2 h) s.3 s.4))

-- taking entries out leaves a list kept by key
pub IsByKey-filter : (test : Entry → Bool) (l : List Entry) → IsByKey l → IsByKey (filter test l)
IsByKey-filter test [] h = tt
IsByKey-filter test (e ∷ l) h = let F : List Entry → Type 0 = λ l. IsByKey l in elim (cases_Bool (test e)) [
  | inl t ↦ subst F (sym (filter-keeps test e l (filter test l) t refl)) (KeysAtMost-filter e.1 test l h.0, IsByKey-filter test l h.1)
  | inr f ↦ subst F (sym (filter-drops test e l (filter test l) f refl)) (IsByKey-filter test l h.1)
]
