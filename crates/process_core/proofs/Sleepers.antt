-- The sleepers, as the calls on a delta list leave them.
use Rattle.std.proofs.Common.{◌≡◌, ◌∙◌, ℕ, ◌+◌, ℤ, pos, negsuc, ◌+ℤ◌, ◌-ℤ◌, ◌≤ℤ◌, int_le, nat_le, Bool, not, eqb, cond, List, [], ◌∷◌, ◌++◌, map, refl, sym, ap, inl, inr, arith}
use Rattle.std.specs.List.{AllByRecursion, filter}
use Rattle.std.proofs.lemmas.Bool.{cases_Bool}
use Rattle.std.proofs.lemmas.Bool.Decides.{nat_tests}
use Rattle.std.proofs.lemmas.Int.{ints}
use Rattle.std.proofs.lemmas.List.{map-append}
use Rattle.xinu_base.specs.Insert.{sleeper_insert}
use Rattle.queue_table.specs.Lists.{Entry, IsDelta, KeysAtLeast, delays, delays_from, delta_insert, delta_sooner, delta_without, sooner}
use Rattle.queue_table.proofs.Laws.{delays-insert, delays-sooner, delays-without}
use Rattle.xinu_model.specs.Tables.{entries_without}
use Rattle.process_core.specs.Tables.{sleepers_of, wake_tick}
use Rattle.process_core.proofs.Without.{swapped}

-- an entry with its tick
abbrev pub at_tick : ℕ → Entry → ℕ × ℕ
at_tick t e = (e.0, wake_tick t e.1)

-- no delay of a delta list is less than the ones ahead of it
delays_from_least : (s : ℤ) (l : List Entry) → KeysAtLeast (pos 0) l → (k : ℤ) → k ≤ℤ s → KeysAtLeast k (delays_from s l)
delays_from_least s [] h k le = tt
delays_from_least s (e ∷ l) h k le =
    let a = h.0 in
    let b : k ≤ℤ (s +ℤ e.1) = omega (arith, ints, a, le) in
    (b, delays_from_least (s +ℤ e.1) l h.1 k b)

-- no delay of a delta list is below 0
pub delays_least : (l : List Entry) → IsDelta l → KeysAtLeast (pos 0) (delays l)
unfolding delays
delays_least l d = delays_from_least (pos 0) l d.differences (pos 0) (omega (arith, ints))

-- if the first key is at least 1, so is each delay
pub delays_least_due : (e : Entry) (l : List Entry) → IsDelta (e ∷ l) → pos 1 ≤ℤ e.1 → KeysAtLeast (pos 1) (delays (e ∷ l))
unfolding delays
delays_least_due e l d h =
    let b : pos 1 ≤ℤ (pos 0 +ℤ e.1) = omega (arith, ints, h) in
    (b, delays_from_least (pos 0 +ℤ e.1) l d.differences.1 (pos 1) b)

-- a filter of what a map gives, by the same test of what it is given
filter-map : {A B : Type 0} (f : A → B) (a : A → Bool) (b : B → Bool) (l : List A) (P : A → Type 0) → ((x : A) → P x → a x ≡ b (f x))
    → AllByRecursion P l
    → map f (filter a l) ≡ filter b (map f l)
filter-map f a b [] P h all = refl
filter-map f a b (x ∷ l) P h all = elim (cases_Bool (b (f x))) [
  | inl t ↦ ap (λ c. map f (cond c (x ∷ filter a l) (filter a l))) (h x all.0 ∙ t) ∙ ap (λ m. f x ∷ m) (filter-map f a b l P h all.1)
      ∙ sym (ap (λ c. cond c (f x ∷ filter b (map f l)) (filter b (map f l))) t)
  | inr t ↦ ap (λ c. map f (cond c (x ∷ filter a l) (filter a l))) (h x all.0 ∙ t) ∙ filter-map f a b l P h all.1
      ∙ sym (ap (λ c. cond c (f x ∷ filter b (map f l)) (filter b (map f l))) t)
]

-- what holds of the keys holds of the entries
all_least : (k : ℤ) (l : List Entry) → KeysAtLeast k l → AllByRecursion (λ (e : Entry). k ≤ℤ e.1) l
all_least k [] h = tt
all_least k (e ∷ l) h = (h.0, all_least k l h.1)

-- nothing is asked of the entries
all_entries : (l : List Entry) → AllByRecursion (λ (e : Entry). Unit {0}) l
all_entries [] = tt
all_entries (e ∷ l) = (tt, all_entries l)

-- a delay is at most n if and only if its tick is at most n ticks away
tick_test : (t n : ℕ) (z : ℤ) → pos 0 ≤ℤ z → int_le z (pos n) ≡ nat_le (wake_tick t z) (t + n)
tick_test t n (pos k) h = grind (arith, ints, nat_tests)
tick_test t n (negsuc k) h = absurd (omega (arith, ints, h))

-- an insertion by delay is one by tick
pub sleepers_insert : (p n t : ℕ) (l : List Entry) → IsDelta l
    → sleepers_of t (delta_insert p (pos n) l) ≡ sleeper_insert p (t + n) (sleepers_of t l)
sleepers_insert p n t l d =
    let m = delays l in
    let a = all_least (pos 0) m (delays_least l d) in
    ap (map (at_tick t)) (delays-insert p (pos n) l)
    ∙ map-append (at_tick t) (filter (λ (x : Entry). int_le x.1 (pos n)) m) ((p, pos n) ∷ filter (λ (x : Entry). not (int_le x.1 (pos n))) m)
    ∙ ap (λ x. x ++ (p, t + n) ∷ map (at_tick t) (filter (λ (x : Entry). not (int_le x.1 (pos n))) m))
    (filter-map (at_tick t) (λ (x : Entry). int_le x.1 (pos n)) (λ (x : ℕ × ℕ). nat_le x.1 (t + n)) m (λ (e : Entry). pos 0 ≤ℤ e.1) (λ x h. tick_test t n x.1 h) a)
    ∙ ap (λ x. filter (λ (x : ℕ × ℕ). nat_le x.1 (t + n)) (map (at_tick t) m) ++ (p, t + n) ∷ x)
    (filter-map (at_tick t) (λ (x : Entry). not (int_le x.1 (pos n))) (λ (x : ℕ × ℕ). not (nat_le x.1 (t + n))) m (λ (e : Entry). pos 0 ≤ℤ e.1) (λ x h. ap not (tick_test t n x.1 h)) a)

-- whoever is taken out of the delta list is no sleeper
pub sleepers_without : (p t : ℕ) (l : List Entry) → sleepers_of t (delta_without p l) ≡ entries_without p (sleepers_of t l)
sleepers_without p t l =
    ap (map (at_tick t)) (delays-without p l)
    ∙ filter-map (at_tick t) (λ (e : Entry). not (eqb p e.0)) (λ (e : ℕ × ℕ). not (eqb e.0 p)) (delays l) (λ e. Unit {0}) (λ x h. swapped p x.0) (all_entries (delays l))

-- a tick later a delay that is less by one ends at the same tick
one_later : (t : ℕ) (z y : ℤ) → y ≡ z -ℤ pos 1 → pos 1 ≤ℤ z → wake_tick (t + 1) y ≡ wake_tick t z
one_later t (pos k) (pos j) e h = omega (arith, ints, e, h)
one_later t (pos k) (negsuc j) e h = absurd (omega (arith, ints, e, h))
one_later t (negsuc k) y e h = absurd (omega (arith, ints, h))

-- and so do all
later_by_one : (t : ℕ) (l : List Entry) → KeysAtLeast (pos 1) l → map (at_tick (t + 1)) (sooner l) ≡ map (at_tick t) l
unfolding sooner
later_by_one t [] h = refl
later_by_one t (e ∷ l) h =
    ap (λ w. (e.0, w) ∷ map (at_tick (t + 1)) (sooner l)) (one_later t e.1 (e.1 -ℤ pos 1) refl h.0)
    ∙ ap (λ m. at_tick t e ∷ m) (later_by_one t l h.1)

-- the sleepers stay as they are if a tick passes and their delays are lowered
pub sleepers_sooner : (t : ℕ) (e : Entry) (l : List Entry) → IsDelta (e ∷ l) → pos 1 ≤ℤ e.1
    → sleepers_of (t + 1) (delta_sooner (e ∷ l)) ≡ sleepers_of t (e ∷ l)
sleepers_sooner t e l d h = ap (map (at_tick (t + 1))) (delays-sooner (e ∷ l)) ∙ later_by_one t (delays (e ∷ l)) (delays_least_due e l d h)
