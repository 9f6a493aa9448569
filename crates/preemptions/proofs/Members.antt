-- Which lists are among the placements.
use Rattle.std.proofs.Common.{◌≡◌, ◌≢◌, ℕ, zero, suc, ◌+◌, ◌-◌, ◌<◌, ◌≤◌, List, [], ◌∷◌, ◌++◌, length, map, drop, get_or, refl, ap, subst, arith, ⊎_elim}
use Rattle.std.specs.Prelude.{slice_index_or}
use Rattle.std.specs.List.{All, AllPairs, Contains}
use Rattle.std.proofs.lemmas.Bool.{cases_lt}
use Rattle.std.proofs.lemmas.List.{length-map}
use Rattle.std.proofs.lemmas.List.Elements.{All-append, All-cons, All-head, All-map, All-nil, All-tail, Contains-append_left, Contains-append_right}
use Rattle.std.proofs.lemmas.List.Kept.{AllPairs-cons}
use Rattle.preemptions.specs.Placements.{ascending_from, placements_from, placements, IsAscending, IsPlacement}
use Rattle.preemptions.specs.declared.stretches.Stretch.{Stretch}
use Rattle.preemptions.proofs.Unfolded.{ascending_from-zero, ascending_from-none, ascending_from-suc, placements_from-zero, placements_from-suc}

-- ---- each is a placement

-- n ascending numbers out of so many from the first on
pub record Ascends (n first numbers : ℕ) (places : List ℕ) : Type 0 where
  pub size : length places ≡ n
  pub ascending : IsAscending places
  pub inside : All (λ k. (first ≤ k) × (k < first + numbers)) places

weaker : (P Q : ℕ → Type 0) → ((k : ℕ) → P k → Q k) → (xs : List ℕ) → All P xs → All Q xs
weaker P Q gives xs all = λ k d within. gives (slice_index_or xs k d) (all k d within)

weaker_lists : (P Q : List ℕ → Type 0) → ((x : List ℕ) → P x → Q x) → (xs : List (List ℕ)) → All P xs → All Q xs
weaker_lists P Q gives xs all = λ k d within. gives (slice_index_or xs k d) (all k d within)

with_first : (n first numbers : ℕ) (places : List ℕ) → Ascends n (first + 1) numbers places → Ascends (suc n) first (suc numbers) (first ∷ places)
with_first n first numbers places is = record {
  size = omega (arith, is.size);
  ascending = (
    weaker (λ k. (first + 1 ≤ k) × (k < first + 1 + numbers)) (λ k. first < k) (λ k at. omega (arith, at.0)) places is.inside,
    is.ascending,
  );
  inside = All-cons (λ k. (first ≤ k) × (k < first + suc numbers)) first places (omega arith, omega arith)
      (weaker (λ k. (first + 1 ≤ k) × (k < first + 1 + numbers)) (λ k. (first ≤ k) × (k < first + suc numbers))
      (λ k at. (omega (arith, at.0), omega (arith, at.1))) places is.inside);
}

without_first : (n first numbers : ℕ) (places : List ℕ) → Ascends n (first + 1) numbers places → Ascends n first (suc numbers) places
without_first n first numbers places is = record {
  size = is.size;
  ascending = is.ascending;
  inside = weaker (λ k. (first + 1 ≤ k) × (k < first + 1 + numbers)) (λ k. (first ≤ k) × (k < first + suc numbers))
      (λ k at. (omega (arith, at.0), omega (arith, at.1))) places is.inside;
}

pub all_ascend : (n first numbers : ℕ) → All (Ascends n first numbers) (ascending_from n first numbers)
all_ascend zero first numbers =
    rw (ascending_from-zero first numbers)
    (All-cons (Ascends 0 first numbers) [] [] (record { size = refl; ascending = tt; inside = All-nil (λ k. (first ≤ k) × (k < first + numbers)) })
    (All-nil (Ascends 0 first numbers)))
all_ascend (suc n) first zero = rw (ascending_from-none n first) (All-nil (Ascends (suc n) first 0))
all_ascend (suc n) first (suc numbers) =
    rw (ascending_from-suc n first numbers)
    (All-append (Ascends (suc n) first (suc numbers)) (map (λ places. first ∷ places) (ascending_from n (first + 1) numbers)) (ascending_from (suc n) (first + 1) numbers)
    (All-map (Ascends (suc n) first (suc numbers)) (λ places. first ∷ places) (ascending_from n (first + 1) numbers)
    (weaker_lists (Ascends n (first + 1) numbers) (λ places. Ascends (suc n) first (suc numbers) (first ∷ places)) (with_first n first numbers)
    (ascending_from n (first + 1) numbers) (all_ascend n (first + 1) numbers)))
    (weaker_lists (Ascends (suc n) (first + 1) numbers) (Ascends (suc n) first (suc numbers)) (without_first (suc n) first numbers)
    (ascending_from (suc n) (first + 1) numbers) (all_ascend (suc n) (first + 1) numbers)))

-- a placement with at least n places
record IsLarge (n most : ℕ) (s : Stretch) (places : List ℕ) : Type 0 where
  pub many : n ≤ length places
  pub is : IsPlacement most s places

large : (n most : ℕ) (s : Stretch) (places : List ℕ) → n ≤ most → Ascends n (s.after + 1) (s.within - s.after) places → IsLarge n most s places
large n most s places few is = record {
  many = omega (arith, is.size);
  is = record {
    few = omega (arith, is.size);
    ascending = is.ascending;
    inside = weaker (λ k. (s.after + 1 ≤ k) × (k < s.after + 1 + (s.within - s.after))) (λ k. (s.after < k) × (k ≤ s.within))
        (λ k at. (omega (arith, at.0), omega (arith, at.0, at.1))) places is.inside;
  };
}

larger : (n most : ℕ) (s : Stretch) (places : List ℕ) → IsLarge (n + 1) most s places → IsLarge n most s places
larger n most s places is = record { many = omega (arith, is.many); is = is.is }

all_large : (sizes n most : ℕ) (s : Stretch) → n + sizes ≤ most + 1 → All (IsLarge n most s) (placements_from sizes n s)
all_large zero n most s few = rw (placements_from-zero n s) (All-nil (IsLarge n most s))
all_large (suc sizes) n most s few =
    rw (placements_from-suc sizes n s)
    (All-append (IsLarge n most s) (ascending_from n (s.after + 1) (s.within - s.after)) (placements_from sizes (n + 1) s)
    (weaker_lists (Ascends n (s.after + 1) (s.within - s.after)) (IsLarge n most s) (λ places is. large n most s places (omega arith) is) (ascending_from n (s.after + 1) (s.within - s.after)) (all_ascend n (s.after + 1) (s.within - s.after)))
    (weaker_lists (IsLarge (n + 1) most s) (IsLarge n most s) (larger n most s) (placements_from sizes (n + 1) s)
    (all_large sizes (n + 1) most s (omega arith))))

-- each of the placements is one
pub all_placements : (most : ℕ) (s : Stretch) → All (IsPlacement most s) (placements most s)
all_placements most s =
    weaker_lists (IsLarge 0 most s) (IsPlacement most s) (λ places is. is.is) (placements most s) (all_large (most + 1) 0 most s (omega arith))

pub is_placement : (most : ℕ) (s : Stretch) (places : List ℕ) → Contains (placements most s) places → IsPlacement most s places
is_placement most s places among = subst (IsPlacement most s) among.2 (all_placements most s among.0 places among.1)

-- ---- each placement is among them

mapped_at : (k : ℕ) (x : List ℕ) (xs : List (List ℕ)) (i : ℕ) → i < length xs → slice_index_or xs i x ≡ x
    → slice_index_or (map (λ places. k ∷ places) xs) i (k ∷ x) ≡ k ∷ x
mapped_at k x [] i within is = absurd (omega arith)
mapped_at k x (y ∷ xs) zero within is = ap (λ (z : List ℕ). k ∷ z) is
mapped_at k x (y ∷ xs) (suc i) within is = mapped_at k x xs i (omega arith) is

contains_first : (k : ℕ) (x : List ℕ) (xs : List (List ℕ)) → Contains xs x → Contains (map (λ places. k ∷ places) xs) (k ∷ x)
contains_first k x xs among = (
  among.0,
  omega (arith, among.1, length-map xs (λ (places : List ℕ). k ∷ places)),
  mapped_at k x xs among.0 among.1 among.2,
)

-- the places after the first, above which they are
after_first : (n first numbers k : ℕ) (places : List ℕ) → Ascends (suc n) first (suc numbers) (k ∷ places)
    → All (λ j. (k < j) × (j < first + 1 + numbers)) places
after_first n first numbers k places is =
    let above = is.ascending.0 in
    let below = All-tail (λ j. (first ≤ j) × (j < first + suc numbers)) k places is.inside in
    λ j d within. (above j d within, omega (arith, (below j d within).1))

among_ascending : (numbers n first : ℕ) (places : List ℕ) → Ascends n first numbers places → Contains (ascending_from n first numbers) places
among_ascending numbers zero first [] is = rw (ascending_from-zero first numbers) (0, omega arith, refl)
among_ascending numbers zero first (k ∷ places) is = absurd (omega (arith, is.size))
among_ascending numbers (suc n) first [] is = absurd (omega (arith, is.size))
among_ascending zero (suc n) first (k ∷ places) is =
    let at = All-head (λ k. (first ≤ k) × (k < first + 0)) k places is.inside in absurd (omega (arith, at.0, at.1))
among_ascending (suc numbers) (suc n) first (k ∷ places) is =
    let P : ℕ → Type 0 = λ j. (k < j) × (j < first + 1 + numbers) in
    let Q : ℕ → Type 0 = λ j. (first + 1 ≤ j) × (j < first + 1 + numbers) in
    let at = All-head (λ j. (first ≤ j) × (j < first + suc numbers)) k places is.inside in
    let low : first ≤ k = at.0 in
    let high : k < first + suc numbers = at.1 in
    let rest : All Q places = weaker P Q (λ j in_reach. (omega (arith, in_reach.0, low), in_reach.1)) places (after_first n first numbers k places is) in
    let one = map (λ (places : List ℕ). first ∷ places) (ascending_from n (first + 1) numbers) in
    let other = ascending_from (suc n) (first + 1) numbers in
    rw (ascending_from-suc n first numbers)
    (⊎_elim
    (λ (above : first < k). Contains-append_right one other (k ∷ places)
    (among_ascending numbers (suc n) (first + 1) (k ∷ places)
    (record { size = is.size; ascending = is.ascending; inside = All-cons Q k places (omega arith, omega arith) rest })))
    (λ (below : k ≤ first).
    let equal : first ≡ k = omega arith in
    Contains-append_left one other (k ∷ places)
    (subst (λ (j : ℕ). Contains one (j ∷ places)) equal
    (contains_first first places (ascending_from n (first + 1) numbers)
    (among_ascending numbers n (first + 1) places (record { size = omega (arith, is.size); ascending = is.ascending.1; inside = rest })))))
    (cases_lt first k))

among_sizes : (sizes n : ℕ) (s : Stretch) (places : List ℕ) → n ≤ length places → length places < n + sizes → Ascends (length places) (s.after + 1) (s.within - s.after) places
    → Contains (placements_from sizes n s) places
among_sizes zero n s places many few is = absurd (omega arith)
among_sizes (suc sizes) n s places many few is =
    let one = ascending_from n (s.after + 1) (s.within - s.after) in
    let other = placements_from sizes (n + 1) s in
    rw (placements_from-suc sizes n s)
    (⊎_elim
    (λ (above : n < length places). Contains-append_right one other places (among_sizes sizes (n + 1) s places (omega arith) (omega arith) is))
    (λ (below : length places ≤ n).
    let equal : length places ≡ n = omega arith in
    Contains-append_left one other places
    (subst (λ (m : ℕ). Contains (ascending_from m (s.after + 1) (s.within - s.after)) places) equal (among_ascending (s.within - s.after) (length places) (s.after + 1) places is)))
    (cases_lt n (length places)))

pub is_among : (most : ℕ) (s : Stretch) (places : List ℕ) → IsPlacement most s places → Contains (placements most s) places
is_among most s places is =
    among_sizes (most + 1) 0 s places (omega arith) (omega (arith, is.few)) (record {
      size = refl;
      ascending = is.ascending;
      inside = weaker (λ k. (s.after < k) × (k ≤ s.within)) (λ k. (s.after + 1 ≤ k) × (k < s.after + 1 + (s.within - s.after)))
          (λ k at. (omega (arith, at.0), omega (arith, at.0, at.1))) places is.inside;
    })

-- ---- no two are equal

abbrev Differ : List ℕ → List ℕ → Type 0
Differ one other = one ≢ other

pairs_append : (xs ys : List (List ℕ)) → AllPairs Differ xs → AllPairs Differ ys → All (λ x. All (Differ x) ys) xs → AllPairs Differ (xs ++ ys)
pairs_append [] ys one other across = other
pairs_append (x ∷ xs) ys one other across =
    AllPairs-cons Differ x (xs ++ ys)
    (All-append (Differ x) xs ys (λ k d within. one 0 (suc k) d (omega arith) (omega arith)) (All-head (λ x. All (Differ x) ys) x xs across))
    (pairs_append xs ys (λ i j d below within. one (suc i) (suc j) d (omega arith) (omega arith)) other (All-tail (λ x. All (Differ x) ys) x xs across))

pairs_first : (k : ℕ) (xs : List (List ℕ)) → AllPairs Differ xs → AllPairs Differ (map (λ places. k ∷ places) xs)
pairs_first k [] pairs = λ i j d below within. absurd (omega arith)
pairs_first k (x ∷ xs) pairs =
    AllPairs-cons Differ (k ∷ x) (map (λ places. k ∷ places) xs)
    (All-map (Differ (k ∷ x)) (λ places. k ∷ places) xs (λ j d within same. pairs 0 (suc j) d (omega arith) (omega arith) (ap (λ (ys : List ℕ). drop 1 ys) same)))
    (pairs_first k xs (λ i j d below within. pairs (suc i) (suc j) d (omega arith) (omega arith)))

differs_first : (n first numbers : ℕ) (p y : List ℕ) → Ascends (suc n) (first + 1) numbers y → Differ (first ∷ p) y
differs_first n first numbers p [] is same = absurd (omega (arith, is.size))
differs_first n first numbers p (k ∷ q) is same =
    let head : first ≡ k = ap (λ (ys : List ℕ). get_or ys 0 0) same in
    let at = All-head (λ j. (first + 1 ≤ j) × (j < first + 1 + numbers)) k q is.inside in
    absurd (omega (arith, head, at.0))

pairs_ascending : (numbers n first : ℕ) → AllPairs Differ (ascending_from n first numbers)
pairs_ascending numbers zero first = rw (ascending_from-zero first numbers) (λ i j d below within. absurd (omega arith))
pairs_ascending zero (suc n) first = rw (ascending_from-none n first) (λ i j d below within. absurd (omega arith))
pairs_ascending (suc numbers) (suc n) first =
    let fewer = ascending_from n (first + 1) numbers in
    let other = ascending_from (suc n) (first + 1) numbers in
    rw (ascending_from-suc n first numbers)
    (pairs_append (map (λ places. first ∷ places) fewer) other (pairs_first first fewer (pairs_ascending numbers n (first + 1))) (pairs_ascending numbers (suc n) (first + 1))
    (All-map (λ x. All (Differ x) other) (λ places. first ∷ places) fewer
    (λ j d within. weaker_lists (Ascends (suc n) (first + 1) numbers) (Differ (first ∷ slice_index_or fewer j d)) (differs_first n first numbers (slice_index_or fewer j d))
    other (all_ascend (suc n) (first + 1) numbers))))

differs_larger : (n most : ℕ) (s : Stretch) (x y : List ℕ) → length x ≡ n → IsLarge (n + 1) most s y → Differ x y
differs_larger n most s x y size is same = absurd (omega (arith, size, ap (λ (ys : List ℕ). length ys) same, is.many))

pairs_sizes : (sizes n : ℕ) (s : Stretch) → AllPairs Differ (placements_from sizes n s)
pairs_sizes zero n s = rw (placements_from-zero n s) (λ i j d below within_list. absurd (omega arith))
pairs_sizes (suc sizes) n s =
    let one = ascending_from n (s.after + 1) (s.within - s.after) in
    let other = placements_from sizes (n + 1) s in
    rw (placements_from-suc sizes n s)
    (pairs_append one other (pairs_ascending (s.within - s.after) n (s.after + 1)) (pairs_sizes sizes (n + 1) s)
    (weaker_lists (Ascends n (s.after + 1) (s.within - s.after)) (λ x. All (Differ x) other)
    (λ x is. weaker_lists (IsLarge (n + 1) (n + sizes) s) (Differ x) (λ y large_one. differs_larger n (n + sizes) s x y is.size large_one) other
    (all_large sizes (n + 1) (n + sizes) s (omega arith)))
    one (all_ascend n (s.after + 1) (s.within - s.after))))

pub all_differ : (most : ℕ) (s : Stretch) → AllPairs (λ one other. one ≢ other) (placements most s)
all_differ most s = pairs_sizes (most + 1) 0 s
