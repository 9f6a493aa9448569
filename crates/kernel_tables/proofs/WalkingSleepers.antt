-- A walk along the sleepers, whose ticks are the sums of the differences so far.
use Rattle.std.proofs.Common.{◌≡◌, ◌≢◌, ◌∙◌, ℕ, suc, ◌+◌, ◌<◌, ◌≤◌, Bool, true, false, cond, List, [], ◌∷◌, map, Option, Some, None, ℤ, pos, negsuc, nat_abs, ◌+ℤ◌, ◌≤ℤ◌, refl, sym, ap, subst, nat_eq, arith}
use Rattle.std.proofs.lemmas.Bool.{eq-eqb, false≢true, ne_eqb}
use Rattle.std.proofs.lemmas.Int.{ints}
use Rattle.process_core.proofs.Inside.{sleepers_counted}
use Rattle.process_core.specs.Tables.{sleepers_of, wake_tick}
use Rattle.queue_table.specs.Lists.{after_in, delays, delays_from, Entry, first_process, is_listed, IsDelta, key_in, key_sum, KeysAtLeast}
use Rattle.queue_table.proofs.Deltas.{key_sum-least}
use Rattle.xinu_model.specs.Sound.Tables.{entries_of, IsInside}
use Rattle.xinu_model.specs.Tables.{state_at, Tables}
use Rattle.kernel_tables.specs.Walks.{entries_from, StandsAt}
use Rattle.kernel_tables.proofs.Walking.{after_counted, from_first, from_next, Once, other_than_first, rest_once}
use Rattle.kernel_tables.proofs.WalkingQueues.{counted_listed, sleeping_least}

-- delays stand in the order of their list
delays_first : (s : ℤ) (l : List Entry) → first_process (delays_from s l) ≡ first_process l
delays_first s [] = refl
delays_first s (e ∷ l) = refl

delays_after : (s : ℤ) (p : ℕ) (l : List Entry) → after_in p (delays_from s l) ≡ after_in p l
delays_after s p [] = refl
delays_after s p (e ∷ l) =
    ap (λ o. cond (nat_eq p e.0) o (after_in p (delays_from (s +ℤ e.1) l))) (delays_first (s +ℤ e.1) l)
    ∙ ap (λ o. cond (nat_eq p e.0) (first_process l) o) (delays_after (s +ℤ e.1) p l)

delays_listed : (s : ℤ) (p : ℕ) (l : List Entry) → is_listed p (delays_from s l) ≡ is_listed p l
delays_listed s p [] = refl
delays_listed s p (e ∷ l) = ap (λ b. cond (nat_eq p e.0) true b) (delays_listed (s +ℤ e.1) p l)

delays_counted : (s : ℤ) (p : ℕ) (l : List Entry) → entries_of p (delays_from s l) ≡ entries_of p l
delays_counted s p [] = refl
delays_counted s p (e ∷ l) = ap (λ n. cond (nat_eq e.0 p) (suc n) n) (delays_counted (s +ℤ e.1) p l)

-- a walk along entries with other keys
mapped_walk : (f : ℤ → ℕ) (o : Option ℕ) (l : List Entry) → entries_from o (map (λ e. (e.0, f e.1)) l) ≡ map (λ e. (e.0, f e.1)) (entries_from o l)
mapped_walk f None l = refl
mapped_walk f (Some p) [] = refl
mapped_walk f (Some p) (e ∷ l) = go (mapped_walk f (Some p) l) (nat_eq p e.0) refl
  where
    go : entries_from (Some p) (map (λ e. (e.0, f e.1)) l) ≡ map (λ e. (e.0, f e.1)) (entries_from (Some p) l) → (b : Bool) → nat_eq p e.0 ≡ b
        → entries_from (Some p) (map (λ e. (e.0, f e.1)) (e ∷ l)) ≡ map (λ e. (e.0, f e.1)) (entries_from (Some p) (e ∷ l))
    go later true t = rw t refl
    go later false t = rw t later

-- the delay of the process after another is that of the other and its own difference
delay_after : (s : ℤ) (p n : ℕ) (l : List Entry) → Once l → after_in p l ≡ Some n → key_in n (delays_from s l) ≡ key_in p (delays_from s l) +ℤ key_in n l
delay_after s p n [] once h = absurd (cc)
delay_after s p n (e ∷ l) once h = go (λ a. delay_after (s +ℤ e.1) p n l (rest_once e l once) a) (nat_eq p e.0) refl
  where
    skip : n ≢ e.0 → (b : ℤ) (m : List Entry) → key_in n ((e.0, b) ∷ m) ≡ key_in n m
    skip other b m = ap (λ t. cond t b (key_in n m)) (ne_eqb n e.0 other)

    first : (m : List Entry) → Once (e ∷ m) → first_process m ≡ Some n → key_in n (delays_from s (e ∷ m)) ≡ (s +ℤ e.1) +ℤ key_in n (e ∷ m)
    first [] o f = absurd (cc)
    first (x ∷ m) o f =
        let same : x.0 ≡ n = cc in
        let here : 0 < entries_of n (x ∷ m) = (let c = ap (λ b. cond b (suc (entries_of n m)) (entries_of n m)) (eq-eqb x.0 n same) in omega arith) in
        let other = other_than_first e (x ∷ m) n o here in
        let test = eq-eqb n x.0 (sym same) in
        skip other (s +ℤ e.1) (delays_from (s +ℤ e.1) (x ∷ m)) ∙ ap (λ t. cond t ((s +ℤ e.1) +ℤ x.1) (key_in n (delays_from ((s +ℤ e.1) +ℤ x.1) m))) test
        ∙ sym (ap (λ k. (s +ℤ e.1) +ℤ k) (skip other e.1 (x ∷ m) ∙ ap (λ t. cond t x.1 (key_in n m)) test))

    go : (after_in p l ≡ Some n → key_in n (delays_from (s +ℤ e.1) l) ≡ key_in p (delays_from (s +ℤ e.1) l) +ℤ key_in n l) → (b : Bool) → nat_eq p e.0 ≡ b
        → key_in n (delays_from s (e ∷ l)) ≡ key_in p (delays_from s (e ∷ l)) +ℤ key_in n (e ∷ l)
    go later true t =
        let a = sym (ap (λ b. cond b (first_process l) (after_in p l)) t) ∙ h in
        first l once a ∙ sym (ap (λ b. cond b (s +ℤ e.1) (key_in p (delays_from (s +ℤ e.1) l)) +ℤ key_in n (e ∷ l)) t)
    go later false t =
        let a = sym (ap (λ b. cond b (first_process l) (after_in p l)) t) ∙ h in
        let other = other_than_first e l n once (after_counted p l n a) in
        skip other (s +ℤ e.1) (delays_from (s +ℤ e.1) l) ∙ later a ∙ ap (λ k. key_in p (delays_from (s +ℤ e.1) l) +ℤ k) (sym (skip other e.1 l))
        ∙ sym (ap (λ b. cond b (s +ℤ e.1) (key_in p (delays_from (s +ℤ e.1) l)) +ℤ key_in n (e ∷ l)) t)

-- the delay of the first process is its difference
delay_first : (n : ℕ) (l : List Entry) → first_process l ≡ Some n → key_in n (delays_from (pos 0) l) ≡ key_in n l
delay_first n [] h = absurd (cc)
delay_first n (e ∷ l) h =
    let same : e.0 ≡ n = cc in
    let test = eq-eqb n e.0 (sym same) in
    let zero : pos 0 +ℤ e.1 ≡ e.1 = omega (arith, ints) in
    ap (λ t. cond t (pos 0 +ℤ e.1) (key_in n (delays_from (pos 0 +ℤ e.1) l))) test ∙ zero ∙ sym (ap (λ t. cond t e.1 (key_in n l)) test)

-- a key is at least what all are
key_least : (k : ℤ) (n : ℕ) (l : List Entry) → KeysAtLeast k l → is_listed n l ≡ true → k ≤ℤ key_in n l
key_least k n [] least h = absurd (cc)
key_least k n (e ∷ l) least h = go (λ f. key_least k n l least.1 f) (nat_eq n e.0) refl
  where
    go : (is_listed n l ≡ true → k ≤ℤ key_in n l) → (b : Bool) → nat_eq n e.0 ≡ b → k ≤ℤ key_in n (e ∷ l)
    go later true t = rw t least.0
    go later false t = rw t (later (sym (ap (λ b. cond b true (is_listed n l)) t) ∙ h))

-- no delay is above the sum
delay_most : (s : ℤ) (n : ℕ) (l : List Entry) → KeysAtLeast (pos 0) l → is_listed n l ≡ true → (s ≤ℤ key_in n (delays_from s l)) × (key_in n (delays_from s l) ≤ℤ (s +ℤ key_sum l))
delay_most s n [] least h = absurd (cc)
delay_most s n (e ∷ l) least h = go (λ f. delay_most (s +ℤ e.1) n l least.1 f) (nat_eq n e.0) refl
  where
    go : (is_listed n l ≡ true → ((s +ℤ e.1) ≤ℤ key_in n (delays_from (s +ℤ e.1) l)) × (key_in n (delays_from (s +ℤ e.1) l) ≤ℤ ((s +ℤ e.1) +ℤ key_sum l))) → (b : Bool) → nat_eq n e.0 ≡ b
        → (s ≤ℤ key_in n (delays_from s (e ∷ l))) × (key_in n (delays_from s (e ∷ l)) ≤ℤ (s +ℤ key_sum (e ∷ l)))
    go later true t = rw t (let a = least.0 in let b = key_sum-least l least.1 in (omega (arith, ints), omega (arith, ints)))
    go later false t = rw t (let a = least.0 in let b = later (sym (ap (λ b. cond b true (is_listed n l)) t) ∙ h) in let c = b.0 in let d = b.1 in (omega (arith, ints), omega (arith, ints)))

-- the tick at which one wakes after a delay
pub tick_after : (t : ℕ) (z : ℤ) → pos 0 ≤ℤ z → wake_tick t z ≡ t + nat_abs z
tick_after t (pos n) h = refl
tick_after t (negsuc n) h = absurd (omega (arith, ints, h))

-- the first process of a list is listed
pub first_listed : (n : ℕ) (l : List Entry) → first_process l ≡ Some n → is_listed n l ≡ true
first_listed n [] h = absurd (cc)
first_listed n (e ∷ l) h = let same : e.0 ≡ n = cc in ap (λ b. cond b true (is_listed n l)) (eq-eqb n e.0 (sym same))

-- a walk from a process that isn't listed has nothing
unlisted_walk : (p : ℕ) (l : List Entry) → is_listed p l ≡ false → entries_from (Some p) l ≡ []
unlisted_walk p [] h = refl
unlisted_walk p (e ∷ l) h = go (λ f. unlisted_walk p l f) (nat_eq p e.0) refl
  where
    go : (is_listed p l ≡ false → entries_from (Some p) l ≡ []) → (b : Bool) → nat_eq p e.0 ≡ b → entries_from (Some p) (e ∷ l) ≡ []
    go later true t = absurd (false≢true (sym h ∙ ap (λ b. cond b true (is_listed p l)) t))
    go later false t = rw t (later (sym (ap (λ b. cond b true (is_listed p l)) t) ∙ h))

-- each sleeper is in its list at most once
pub sleepers_once : (t : Tables) (ticks : ℕ) (l : List Entry) → IsInside t → t.sleepers ≡ sleepers_of ticks l → Once l
unfolding delays
sleepers_once t ticks l k e r =
    let a = ap (entries_of r) e ∙ sleepers_counted r ticks l ∙ delays_counted (pos 0) r l in
    let c = k.sleeping r in
    let d = sleeping_least (state_at t r) in omega arith

-- the walk along the sleepers begins with all of them
pub sleepers_from_first : (ticks : ℕ) (l : List Entry) → entries_from (first_process l) (sleepers_of ticks l) ≡ sleepers_of ticks l
unfolding delays
sleepers_from_first ticks l =
    let d = delays_from (pos 0) l in
    mapped_walk (wake_tick ticks) (first_process l) d ∙ ap (λ o. map (λ (e : Entry). (e.0, wake_tick ticks e.1)) (entries_from o d)) (sym (delays_first (pos 0) l))
    ∙ ap (map (λ (e : Entry). (e.0, wake_tick ticks e.1))) (from_first d)

-- and goes on from one to the next
sleepers_from_next : (ticks n : ℕ) (l : List Entry) → Once l → is_listed n l ≡ true
    → entries_from (Some n) (sleepers_of ticks l) ≡ (n, wake_tick ticks (key_in n (delays_from (pos 0) l))) ∷ entries_from (after_in n l) (sleepers_of ticks l)
unfolding delays
sleepers_from_next ticks n l once h =
    let d = delays_from (pos 0) l in
    let f = wake_tick ticks in
    let many : Once d = λ r. subst (λ m. m ≤ 1) (sym (delays_counted (pos 0) r l)) (once r) in
    mapped_walk f (Some n) d ∙ ap (map (λ (e : Entry). (e.0, f e.1))) (from_next n d many (delays_listed (pos 0) n l ∙ h))
    ∙ ap (λ r. (n, f (key_in n d)) ∷ r) (sym (mapped_walk f (after_in n d) d))
    ∙ ap (λ o. (n, f (key_in n d)) ∷ entries_from o (map (λ (e : Entry). (e.0, f e.1)) d)) (delays_after (pos 0) n l)

-- the tick of the first of some sleepers
abbrev first_wake : List (ℕ × ℕ) → ℕ
first_wake [] = 0
first_wake (e ∷ l) = e.1

-- who stands among the sleepers is listed, and wakes after its delay
stood : (ticks p wake : ℕ) (l : List Entry) → Once l → StandsAt p wake (sleepers_of ticks l)
    → (is_listed p l ≡ true) × (wake ≡ wake_tick ticks (key_in p (delays_from (pos 0) l)))
unfolding delays
stood ticks p wake l once at = go (is_listed p l) refl
  where
    go : (b : Bool) → is_listed p l ≡ b → (is_listed p l ≡ true) × (wake ≡ wake_tick ticks (key_in p (delays_from (pos 0) l)))
    go true h = (h, ap first_wake (sym at.1 ∙ sleepers_from_next ticks p l once h))
    go false h = (let e = sym at.1 ∙ mapped_walk (wake_tick ticks) (Some p) (delays_from (pos 0) l)
        ∙ ap (map (λ (e : Entry). (e.0, wake_tick ticks e.1))) (unlisted_walk p (delays_from (pos 0) l) (delays_listed (pos 0) p l ∙ h)) in absurd (cc))

-- Who stands among the sleepers is listed.
pub stands_listed : (ticks p wake : ℕ) (l : List Entry) → Once l → StandsAt p wake (sleepers_of ticks l) → is_listed p l ≡ true
stands_listed ticks p wake l once at = (stood ticks p wake l once at).0

-- The first sleeper wakes after its difference.
pub first_stands : (ticks n d : ℕ) (l : List Entry) → IsDelta l → Once l → first_process l ≡ Some n → d ≡ nat_abs (key_in n l)
    → StandsAt n (ticks + d) (sleepers_of ticks l) × (d ≤ 2147483647)
unfolding delays
first_stands ticks n d l delta once h e =
    let there = first_listed n l h in
    let least = key_least (pos 0) n l delta.differences there in
    let k = delay_first n l h in
    let most = delay_most (pos 0) n l delta.differences there in
    let high = most.1 in
    let bound = delta.bounded in
    let tick : wake_tick ticks (key_in n (delays_from (pos 0) l)) ≡ ticks + d =
    ap (wake_tick ticks) k ∙ tick_after ticks (key_in n l) least ∙ ap (λ m. ticks + m) (sym e) in (
      (
        entries_from (after_in n l) (sleepers_of ticks l),
        sleepers_from_next ticks n l once there ∙ ap (λ w. (n, w) ∷ entries_from (after_in n l) (sleepers_of ticks l)) tick,
      ),
      small (key_in n l) d e least (omega (arith, ints, high, bound, k)),
    )
  where
    small : (z : ℤ) (d : ℕ) → d ≡ nat_abs z → pos 0 ≤ℤ z → z ≤ℤ pos 2147483647 → d ≤ 2147483647
    small (pos m) d e a b = omega (arith, ints, e, b)
    small (negsuc m) d e a b = absurd (omega (arith, ints, a))

-- The sleeper after another wakes its difference later.
pub next_stands : (ticks p wake n d : ℕ) (l : List Entry) → IsDelta l → Once l → StandsAt p wake (sleepers_of ticks l) → after_in p l ≡ Some n → d ≡ nat_abs (key_in n l)
    → StandsAt n (wake + d) (sleepers_of ticks l) × (wake + d ≤ ticks + 2147483647)
unfolding delays
next_stands ticks p wake n d l delta once at h e =
    let is = stood ticks p wake l once at in
    let there = counted_listed n l (after_counted p l n h) in
    let least = key_least (pos 0) n l delta.differences there in
    let k = delay_after (pos 0) p n l once h in
    let low = (delay_most (pos 0) p l delta.differences is.0).0 in
    let high = (delay_most (pos 0) n l delta.differences there).1 in
    let bound = delta.bounded in
    let sum : ((key_in p (delays_from (pos 0) l)) +ℤ (key_in n l)) ≤ℤ pos 2147483647 = omega (arith, ints, high, bound, k) in
    let both = ticks_add ticks wake d (key_in p (delays_from (pos 0) l)) (key_in n l) low least is.1 e sum in (
      (
        entries_from (after_in n l) (sleepers_of ticks l),
        sleepers_from_next ticks n l once there ∙ ap (λ w. (n, w) ∷ entries_from (after_in n l) (sleepers_of ticks l)) (ap (wake_tick ticks) k ∙ both.0),
      ),
      both.1,
    )
  where
    ticks_add : (ticks wake d : ℕ) (a b : ℤ) → pos 0 ≤ℤ a → pos 0 ≤ℤ b → wake ≡ wake_tick ticks a → d ≡ nat_abs b → (a +ℤ b) ≤ℤ pos 2147483647
        → (wake_tick ticks (a +ℤ b) ≡ wake + d) × (wake + d ≤ ticks + 2147483647)
    ticks_add ticks wake d (pos x) (pos y) low least w e sum = (omega (arith, ints, w, e), omega (arith, ints, w, e, sum))
    ticks_add ticks wake d (negsuc x) b low least w e sum = absurd (omega (arith, ints, low))
    ticks_add ticks wake d (pos x) (negsuc y) low least w e sum = absurd (omega (arith, ints, least))

-- The walk goes on from a sleeper to the one after it.
pub sleepers_walk : (ticks p wake : ℕ) (l : List Entry) → Once l → StandsAt p wake (sleepers_of ticks l)
    → entries_from (Some p) (sleepers_of ticks l) ≡ (p, wake) ∷ entries_from (after_in p l) (sleepers_of ticks l)
sleepers_walk ticks p wake l once at =
    let is = stood ticks p wake l once at in
    sleepers_from_next ticks p l once is.0 ∙ ap (λ w. (p, w) ∷ entries_from (after_in p l) (sleepers_of ticks l)) (sym is.1)
