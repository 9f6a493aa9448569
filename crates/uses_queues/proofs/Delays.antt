-- What the calls on the queue leave of the delays.
use Rattle.std.proofs.Common.{◌≡◌, ◌≢◌, ◌∙◌, ℕ, ℤ, pos, ◌≤ℤ◌, ◌+ℤ◌, Some, None, List, [], ◌∷◌, length, replicate, refl, sym, ap, subst, arith, Option, true, is_some}
use Rattle.std.proofs.lemmas.Bool.{false≢true}
use Rattle.std.proofs.lemmas.Int.{ints}
use Rattle.queue_table.specs.Lists.{Entry, IsDelta, KeysAtLeast, delay_insert, delays, delays_from, delta_insert, delta_sooner, first_key_of, first_process, list_at, rest_of, sooner, with_list, is_listed, place}
use Rattle.queue_table.proofs.Deltas.{is_listed-delays}
use Rattle.queue_table.proofs.Laws.{IsDelta-insert, IsDelta-rest, IsDelta-sooner, delays-insert, delays-sooner, list_at-same, place-some}

-- What a queue became: a delta list with these delays.
pub record HasDelays (ls : List (List Entry)) (to : List Entry) : Type 0 where
  pub delta : IsDelta (list_at ls 0)
  pub delays_are : delays (list_at ls 0) ≡ to

-- it is, if its list is
has_delays : (ls ls' : List (List Entry)) (l to : List Entry) → length ls ≡ 1 → ls' ≡ with_list ls 0 l → IsDelta l → delays l ≡ to → HasDelays ls' to
has_delays ls ls' l to one is delta same =
    let at : list_at ls' 0 ≡ l = ap (λ m. list_at m 0) is ∙ list_at-same ls 0 l (omega (arith, one)) in
    record { delta = subst (λ (m : List Entry). IsDelta m) (sym at) delta; delays_are = ap delays at ∙ same }

-- no timer runs in a new table
pub fresh : (ls : List (List Entry)) → ls ≡ replicate 1 [] → HasDelays ls []
unfolding delays
fresh ls is =
    let at : list_at ls 0 ≡ [] = ap (λ m. list_at m 0) is in
    record {
      delta = subst (λ (m : List Entry). IsDelta m) (sym at) (record { differences = tt; bounded = omega (arith, ints) });
      delays_are = ap delays at;
    }

-- a timer more
pub inserted : (ls ls' : List (List Entry)) (p : ℕ) (d : ℤ) → length ls ≡ 1 → IsDelta (list_at ls 0) → pos 1 ≤ℤ d → d ≤ℤ pos 2147483647
    → ls' ≡ with_list ls 0 (delta_insert p d (list_at ls 0)) → HasDelays ls' (delay_insert p d (delays (list_at ls 0)))
inserted ls ls' p d one delta low high is =
    has_delays ls ls' (delta_insert p d (list_at ls 0)) _ one is (IsDelta-insert (list_at ls 0) p d delta (omega (arith, ints, low)) high)
    (delays-insert p d (list_at ls 0))

-- the first delay of a delta list is its first key, which isn't below 0
pub first_least : (l : List Entry) (k : ℤ) → first_key_of l ≡ Some k → IsDelta l → (pos 0 ≤ℤ k) × (first_key_of (delays l) ≡ Some k)
unfolding delays
first_least [] k at d = absurd (cc)
first_least (e ∷ l) k at d =
    let is : e.1 ≡ k = cc in
    let low = d.differences.0 in
    let zero_more : pos 0 +ℤ e.1 ≡ k = omega (arith, ints, is) in
    (omega (arith, ints, is, low), ap Some zero_more)

-- a tick less for each, if the first isn't due
pub lowered : (ls ls' : List (List Entry)) (k : ℤ) → length ls ≡ 1 → IsDelta (list_at ls 0) → first_key_of (list_at ls 0) ≡ Some k → k ≢ pos 0
    → ls' ≡ with_list ls 0 (delta_sooner (list_at ls 0)) → HasDelays ls' (sooner (delays (list_at ls 0)))
lowered ls ls' k one delta at some is =
    has_delays ls ls' (delta_sooner (list_at ls 0)) _ one is (go (list_at ls 0) delta at) (delays-sooner (list_at ls 0))
  where
    go : (l : List Entry) → IsDelta l → first_key_of l ≡ Some k → IsDelta (delta_sooner l)
    go [] d e = absurd (cc)
    go (x ∷ l) d e =
        let same : x.1 ≡ k = cc in
        let low = d.differences.0 in
        let other : x.1 ≢ pos 0 = λ z. some (sym same ∙ z) in
        IsDelta-sooner x l d (grind (arith, ints))

-- no timer runs, and a tick passes
pub none_sooner : (l : List Entry) → first_key_of l ≡ None → delays l ≡ sooner (delays l)
unfolding delays sooner
none_sooner [] at = refl
none_sooner (e ∷ l) at = absurd (cc)

-- the first is due, and it is taken out
pub taken : (ls ls' : List (List Entry)) (p : ℕ) → length ls ≡ 1 → IsDelta (list_at ls 0) → first_key_of (list_at ls 0) ≡ Some (pos 0)
    → first_process (list_at ls 0) ≡ Some p → ls' ≡ with_list ls 0 (rest_of (list_at ls 0))
    → IsDelta (list_at ls' 0) × (delays (list_at ls 0) ≡ (p, pos 0) ∷ delays (list_at ls' 0))
unfolding delays
taken ls ls' p one delta at first is =
    let both = go (list_at ls 0) delta at first in
    let has = has_delays ls ls' (rest_of (list_at ls 0)) _ one is both.0 refl in
    (has.delta, both.1 ∙ ap (λ m. (p, pos 0) ∷ m) (sym has.delays_are))
  where
    go : (l : List Entry) → IsDelta l → first_key_of l ≡ Some (pos 0) → first_process l ≡ Some p
        → IsDelta (rest_of l) × (delays l ≡ (p, pos 0) ∷ delays (rest_of l))
    go [] d k f = absurd (cc)
    go (e ∷ l) d k f =
        let zero_key : e.1 ≡ pos 0 = cc in
        let is_first : e.0 ≡ p = cc in
        let none_left : pos 0 +ℤ e.1 ≡ pos 0 = omega (arith, ints, zero_key) in
        (IsDelta-rest e l d, ap (λ q. (q, pos 0 +ℤ e.1) ∷ delays_from (pos 0 +ℤ e.1) l) is_first ∙ ap (λ z. (p, z) ∷ delays_from z l) none_left)

-- delays that count from at least 1 are at least 1
later_from : (s : ℤ) (l : List Entry) → pos 1 ≤ℤ s → KeysAtLeast (pos 0) l → KeysAtLeast (pos 1) (delays_from s l)
later_from s [] low least = tt
later_from s (e ∷ l) low least =
    let more = least.0 in
    let next : pos 1 ≤ℤ (s +ℤ e.1) = omega (arith, ints, low, more) in
    (next, later_from (s +ℤ e.1) l next least.1)

-- each timer has a tick left, if the first has one
pub later : (l : List Entry) → IsDelta l → first_key_of l ≢ Some (pos 0) → KeysAtLeast (pos 1) (delays l)
unfolding delays
later [] d some = tt
later (e ∷ l) d some =
    let low = d.differences.0 in
    let other : e.1 ≢ pos 0 = λ z. some (ap Some z) in
    let next : pos 1 ≤ℤ (pos 0 +ℤ e.1) = grind (arith, ints) in
    (next, later_from (pos 0 +ℤ e.1) l next d.differences.1)

-- a list that has a first key has a first process
pub first_there : (l : List Entry) (k : ℤ) → first_key_of l ≡ Some k → (p : ℕ) × (first_process l ≡ Some p)
first_there [] k at = absurd (cc)
first_there (e ∷ l) k at = (e.0, refl)

-- a timer that has a place runs
pub runs : (ls : List (List Entry)) (p : ℕ) (o : Option ℕ) → length ls ≡ 1 → o ≡ place ls p → is_some o ≡ true
    → is_listed p (delays (list_at ls 0)) ≡ true
runs ls p None one is some = absurd (false≢true some)
runs ls p (Some q) one is some =
    let at = place-some ls p q (sym is) in
    let low = at.0 in
    let first : q ≡ 0 = omega (arith, one, low) in
    is_listed-delays p (list_at ls 0) ∙ subst (λ (i : ℕ). is_listed p (list_at ls i) ≡ true) first at.1
