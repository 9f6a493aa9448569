-- Which placement comes next.
use Rattle.std.proofs.Common.{◌≡◌, ◌∙◌, ℕ, zero, suc, ◌+◌, ◌-◌, ◌<◌, ◌≤◌, List, [], ◌∷◌, ◌++◌, length, map, sym, ap, arith, length-append}
use Rattle.std.specs.List.{range_with_len}
use Rattle.std.proofs.lemmas.List.FromFn.{length-range_with_len}
use Rattle.preemptions.specs.Placements.{ascending_from, later, placements_from, placements_after}
use Rattle.preemptions.specs.declared.stretches.Stretch.{Stretch}
use Rattle.preemptions.proofs.Unfolded.{ascending_from-zero, ascending_from-none, ascending_from-suc, placements_from-zero, placements_from-suc, later-nil, later-cons}

-- there aren't more places than numbers
pub none_of : (n first numbers : ℕ) → numbers < n → ascending_from n first numbers ≡ []
none_of zero first numbers few = absurd (omega arith)
none_of (suc n) first zero few = ascending_from-none n first
none_of (suc n) first (suc numbers) few =
    ascending_from-suc n first numbers
    ∙ ap (λ (xs : List (List ℕ)). map (λ (places : List ℕ). first ∷ places) xs ++ ascending_from (suc n) (first + 1) numbers) (none_of n (first + 1) numbers (omega arith))
    ∙ none_of (suc n) (first + 1) numbers (omega arith)

-- the first list is that of the first numbers
pub first_of : (n first numbers within : ℕ) → n ≤ numbers → first + numbers ≡ within + 1
    → ascending_from n first numbers ≡ range_with_len first n ∷ later within (range_with_len first n)
first_of zero first numbers within enough is =
    ascending_from-zero first numbers ∙ ap (λ (xs : List (List ℕ)). [] ∷ xs) (sym (later-nil within))
first_of (suc n) first zero within enough is = absurd (omega arith)
first_of (suc n) first (suc numbers) within enough is =
    let rest = range_with_len (first + 1) n in
    let size : length rest + 1 ≡ suc n = omega (arith, length-range_with_len (first + 1) n) in
    let left : within - first ≡ numbers = omega arith in
    ascending_from-suc n first numbers
    ∙ ap (λ (xs : List (List ℕ)). map (λ (places : List ℕ). first ∷ places) xs ++ ascending_from (suc n) (first + 1) numbers)
    (first_of n (first + 1) numbers within (omega arith) (omega arith))
    ∙ ap (λ (xs : List (List ℕ)). (first ∷ rest) ∷ xs)
    (ap (λ (m : ℕ). map (λ (places : List ℕ). first ∷ places) (later within rest) ++ ascending_from m (first + 1) numbers) (sym size)
    ∙ ap (λ (m : ℕ). map (λ (places : List ℕ). first ∷ places) (later within rest) ++ ascending_from (length rest + 1) (first + 1) m) (sym left)
    ∙ sym (later-cons within first rest))

-- places of which none can move stay so with one that can't move before them
pub stays_full : (within k : ℕ) (places : List ℕ) → later within places ≡ [] → within ≤ k + length places → later within (k ∷ places) ≡ []
stays_full within k places full close =
    later-cons within k places
    ∙ ap (λ (xs : List (List ℕ)). map (λ (later_places : List ℕ). k ∷ later_places) xs ++ ascending_from (length places + 1) (k + 1) (within - k)) full
    ∙ none_of (length places + 1) (k + 1) (within - k) (omega arith)

-- one that can move before them moves by one step, and they follow it
pub moves : (within k : ℕ) (places : List ℕ) → later within places ≡ [] → k + length places < within
    → later within (k ∷ places) ≡ range_with_len (k + 1) (length places + 1) ∷ later within (range_with_len (k + 1) (length places + 1))
moves within k places full room =
    later-cons within k places
    ∙ ap (λ (xs : List (List ℕ)). map (λ (later_places : List ℕ). k ∷ later_places) xs ++ ascending_from (length places + 1) (k + 1) (within - k)) full
    ∙ first_of (length places + 1) (k + 1) (within - k) within (omega arith) (omega arith)

-- with other places before them
pub moves_behind : (within : ℕ) (front places next : List ℕ) → length places ≡ length next → later within places ≡ next ∷ later within next
    → later within (front ++ places) ≡ (front ++ next) ∷ later within (front ++ next)
moves_behind within [] places next size moved = moved
moves_behind within (k ∷ front) places next size moved =
    let sizes : length (front ++ places) + 1 ≡ length (front ++ next) + 1 = omega (arith, size, length-append front places, length-append front next) in
    later-cons within k (front ++ places)
    ∙ ap (λ (xs : List (List ℕ)). map (λ (later_places : List ℕ). k ∷ later_places) xs ++ ascending_from (length (front ++ places) + 1) (k + 1) (within - k))
    (moves_behind within front places next size moved)
    ∙ ap (λ (xs : List (List ℕ)). (k ∷ front ++ next) ∷ xs)
    (ap (λ (m : ℕ). map (λ (later_places : List ℕ). k ∷ later_places) (later within (front ++ next)) ++ ascending_from m (k + 1) (within - k)) sizes
    ∙ sym (later-cons within k (front ++ next)))

-- no size is left
pub no_larger : (sizes n : ℕ) (s : Stretch) → s.within - s.after < n → placements_from sizes n s ≡ []
no_larger zero n s many = placements_from-zero n s
no_larger (suc sizes) n s many =
    placements_from-suc sizes n s
    ∙ ap (λ (xs : List (List ℕ)). xs ++ placements_from sizes (n + 1) s) (none_of n (s.after + 1) (s.within - s.after) many)
    ∙ no_larger sizes (n + 1) s (omega arith)

-- the last of all
pub is_last : (most : ℕ) (s : Stretch) (places : List ℕ) → later s.within places ≡ [] → most ≤ length places → placements_after most s places ≡ []
is_last most s places full many =
    let none : most - length places ≡ 0 = omega arith in
    ap (λ (xs : List (List ℕ)). xs ++ placements_from (most - length places) (length places + 1) s) full
    ∙ ap (λ (m : ℕ). placements_from m (length places + 1) s) none
    ∙ placements_from-zero (length places + 1) s

pub is_widest : (most : ℕ) (s : Stretch) (places : List ℕ) → later s.within places ≡ [] → s.within - s.after ≤ length places
    → placements_after most s places ≡ []
is_widest most s places full many =
    ap (λ (xs : List (List ℕ)). xs ++ placements_from (most - length places) (length places + 1) s) full
    ∙ no_larger (most - length places) (length places + 1) s (omega arith)

-- the first of the next size
pub grows : (most n : ℕ) (s : Stretch) (places : List ℕ) → later s.within places ≡ [] → length places < most → length places < s.within - s.after
    → n ≡ length places + 1
    → placements_after most s places ≡ range_with_len (s.after + 1) n ∷ placements_after most s (range_with_len (s.after + 1) n)
grows most n s places full few room is =
    let next = range_with_len (s.after + 1) n in
    let more : most - length places ≡ suc (most - n) = omega arith in
    let size : length next ≡ n = length-range_with_len (s.after + 1) n in
    ap (λ (xs : List (List ℕ)). xs ++ placements_from (most - length places) (length places + 1) s) full
    ∙ ap (λ (m : ℕ). placements_from m (length places + 1) s) more
    ∙ ap (λ (m : ℕ). placements_from (suc (most - n)) m s) (sym is)
    ∙ placements_from-suc (most - n) n s
    ∙ ap (λ (xs : List (List ℕ)). xs ++ placements_from (most - n) (n + 1) s)
    (first_of n (s.after + 1) (s.within - s.after) s.within (omega arith) (omega (arith, room)))
    ∙ ap (λ (m : ℕ). next ∷ (later s.within next ++ placements_from (most - m) (m + 1) s)) (sym size)

-- the next one of the same size
pub goes_on : (most : ℕ) (s : Stretch) (places next : List ℕ) → length next ≡ length places → later s.within places ≡ next ∷ later s.within next
    → placements_after most s places ≡ next ∷ placements_after most s next
goes_on most s places next size moved =
    ap (λ (xs : List (List ℕ)). xs ++ placements_from (most - length places) (length places + 1) s) moved
    ∙ ap (λ (m : ℕ). next ∷ (later s.within next ++ placements_from (most - m) (m + 1) s)) (sym size)

-- all are the first one and those after it
pub starts : (most : ℕ) (s : Stretch) (places : List ℕ) → places ≡ [] → places ∷ placements_after most s places ≡ placements_from (most + 1) 0 s
starts most s places none =
    let more : most + 1 ≡ suc most = omega arith in
    let all : most - 0 ≡ most = omega arith in
    rw (none, all)
    (sym
    (ap (λ (m : ℕ). placements_from m 0 s) more
    ∙ placements_from-suc most 0 s
    ∙ ap (λ (xs : List (List ℕ)). xs ++ placements_from most 1 s) (ascending_from-zero (s.after + 1) (s.within - s.after))
    ∙ ap (λ (xs : List (List ℕ)). [] ∷ (xs ++ placements_from most 1 s)) (sym (later-nil s.within))))

-- numbers that follow one another
pub range_with_len-more : (first n : ℕ) → range_with_len first (n + 1) ≡ range_with_len first n ++ (first + n) ∷ []
range_with_len-more first zero = ap (λ (k : ℕ). k ∷ []) (omega arith)
range_with_len-more first (suc n) =
    let same : first + 1 + n ≡ first + suc n = omega arith in
    let more : suc n + 1 ≡ suc (n + 1) = omega arith in
    ap (range_with_len first) more
    ∙ ap (λ (xs : List ℕ). first ∷ xs) (range_with_len-more (first + 1) n ∙ ap (λ (k : ℕ). range_with_len (first + 1) n ++ k ∷ []) same)
