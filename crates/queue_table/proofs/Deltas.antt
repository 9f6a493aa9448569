-- Lists of differences, and the delays that they give.
use Rattle.std.proofs.Common.{subst, inl, inr, ◌≡◌, ℕ, ℤ, pos, negsuc, neg_ℤ, ◌≤ℤ◌, ◌<ℤ◌, ◌+ℤ◌, ◌-ℤ◌, int_le, true, false, cond, eqb, List, [], ◌∷◌, ◌++◌, map, refl, sym, ap, ◌∙◌, arith}
use Rattle.std.proofs.lemmas.Int.{ints}
use Rattle.queue_table.specs.Lists.{Entry, IsDelta, KeysAbove, KeysAtLeast, KeysAtMost, delay_insert, delays, delays_from, delta_insert, delta_sooner, delta_without, differences, differences_from, is_listed, key_sum, sooner, without}
use Rattle.queue_table.specs.Walks.{FirstAbove, first_raised}
use Rattle.queue_table.proofs.Insertions.{AllAre, insert-split}
use Rattle.queue_table.proofs.Orders.{cases_ℤ, int_le-false, int_le-true}
use Rattle.queue_table.proofs.Places.{without-absent, without-split}

-- two lists are the same if their first keys and their rests are
entry_is : (p : ℕ) (a b : ℤ) (l m : List Entry) → a ≡ b → l ≡ m → (p, a) ∷ l ≡ (p, b) ∷ m
entry_is p a b l m x y = ap (λ a. (p, a) ∷ l) x ∙ ap (λ l. (p, b) ∷ l) y

-- the differences of the delays are the keys, counted from any start
differences-delays_from : (s : ℤ) (l : List Entry) → differences_from s (delays_from s l) ≡ l
differences-delays_from s [] = refl
differences-delays_from s (e ∷ l) = entry_is e.0 _ _ _ _ (omega (arith, ints)) (differences-delays_from (s +ℤ e.1) l)

-- the delays of the differences are the delays, counted from any start
delays-differences_from : (s : ℤ) (l : List Entry) → delays_from s (differences_from s l) ≡ l
delays-differences_from s [] = refl
delays-differences_from s (e ∷ l) =
    let x : s +ℤ (e.1 -ℤ s) ≡ e.1 = omega (arith, ints) in
    entry_is e.0 _ _ _ _ x (ap (λ z. delays_from z (differences_from e.1 l)) x ∙ delays-differences_from e.1 l)

-- the delta list of its own delays is the list
pub differences-delays : (l : List Entry) → differences (delays l) ≡ l
unfolding differences delays
differences-delays l = differences-delays_from (pos 0) l

-- the delays of the delta list with given delays are these
pub delays-differences : (l : List Entry) → delays (differences l) ≡ l
unfolding differences delays
delays-differences l = delays-differences_from (pos 0) l

-- after the first of two parts the delays of the second count on from its sum
delays_from-append : (s : ℤ) (pre post : List Entry) → delays_from s (pre ++ post) ≡ delays_from s pre ++ delays_from (s +ℤ key_sum pre) post
delays_from-append s [] post = let x : s ≡ s +ℤ pos 0 = omega (arith, ints) in ap (λ z. delays_from z post) x
delays_from-append s (e ∷ pre) post =
    let x : s +ℤ e.1 +ℤ key_sum pre ≡ s +ℤ (e.1 +ℤ key_sum pre) = omega (arith, ints) in
    ap (λ l. (e.0, s +ℤ e.1) ∷ l) (delays_from-append (s +ℤ e.1) pre post ∙ ap (λ z. delays_from (s +ℤ e.1) pre ++ delays_from z post) x)

-- the sum of keys that are at least 0 is at least 0
pub key_sum-least : (l : List Entry) → KeysAtLeast (pos 0) l → pos 0 ≤ℤ key_sum l
key_sum-least [] h = omega (arith, ints)
key_sum-least (e ∷ l) h = omega (arith, ints, h.0, key_sum-least l h.1)

-- no delay is greater than the start and the sum of the keys
early : (s d : ℤ) (l : List Entry) → KeysAtLeast (pos 0) l → (s +ℤ key_sum l) ≤ℤ d → KeysAtMost d (delays_from s l)
early s d [] h le = tt
early s d (e ∷ l) h le = (omega (arith, ints, h.0, key_sum-least l h.1, le), early (s +ℤ e.1) d l h.1 (omega (arith, ints, le)))

-- every delay is greater than what is less than the start
late : (s d : ℤ) (l : List Entry) → KeysAtLeast (pos 0) l → d <ℤ s → KeysAbove d (delays_from s l)
late s d [] h lt = tt
late s d (e ∷ l) h lt = (omega (arith, ints, h.0, lt), late (s +ℤ e.1) d l h.1 (omega (arith, ints, h.0, lt)))

-- an insertion by delay goes after each delay that is not greater
early_kept : (d : ℤ) (l : List Entry) → KeysAtMost d l → AllAre (λ e. int_le e.1 d) true l
early_kept d [] h = tt
early_kept d (e ∷ l) h = (int_le-true e.1 d h.0, early_kept d l h.1)

-- an insertion by delay goes before each delay that is greater
late_kept : (d : ℤ) (l : List Entry) → KeysAbove d l → AllAre (λ e. int_le e.1 d) false l
late_kept d [] h = tt
late_kept d (e ∷ l) h = (int_le-false e.1 d h.0, late_kept d l h.1)

-- the insertion by delay, if the list falls into the delays that are not greater and those that are
pub delay_insert-split : (pre post : List Entry) (p : ℕ) (d : ℤ) → KeysAtMost d pre → KeysAbove d post → delay_insert p d (pre ++ post) ≡ pre ++ (p, d) ∷ post
delay_insert-split pre post p d a b = insert-split (λ e. int_le e.1 d) (p, d) pre post (early_kept d pre a) (late_kept d post b)

-- if the first key is above what is left of a delay, each delay from there on is greater
rest_late : (s left d : ℤ) (post : List Entry) → KeysAtLeast (pos 0) post → FirstAbove left post → s +ℤ left ≡ d → KeysAbove d (delays_from s post)
rest_late s left d [] h f e = tt
rest_late s left d (x ∷ l) h f e = (omega (arith, ints, f, e), late (s +ℤ x.1) d l h.1 (omega (arith, ints, f, e)))

-- an entry put in ahead takes from the first key what it adds, and the delays after it stay
rest_shifted : (s left : ℤ) (post : List Entry) → delays_from (s +ℤ left) (first_raised (neg_ℤ left) post) ≡ delays_from s post
rest_shifted s left [] = refl
rest_shifted s left (x ∷ l) =
    let e : s +ℤ left +ℤ (x.1 +ℤ neg_ℤ left) ≡ s +ℤ x.1 = omega (arith, ints) in
    entry_is x.0 _ _ _ _ e (ap (λ z. delays_from z l) e)

-- no key of the first part of a list is less than k, if none of the list is
pub KeysAtLeast-left : (k : ℤ) (l m : List Entry) → KeysAtLeast k (l ++ m) → KeysAtLeast k l
KeysAtLeast-left k [] m h = tt
KeysAtLeast-left k (e ∷ l) m h = (h.0, KeysAtLeast-left k l m h.1)

-- no key of the second part of a list is less than k, if none of the list is
pub KeysAtLeast-right : (k : ℤ) (l m : List Entry) → KeysAtLeast k (l ++ m) → KeysAtLeast k m
KeysAtLeast-right k [] m h = h
KeysAtLeast-right k (e ∷ l) m h = KeysAtLeast-right k l m h.1

-- what a walk by differences finds is the insertion by delay
pub delta_insert-walked : (pre post : List Entry) (p : ℕ) (d left : ℤ) → KeysAtLeast (pos 0) (pre ++ post) → pos 0 ≤ℤ left → left +ℤ key_sum pre ≡ d → FirstAbove left post
    → pre ++ (p, left) ∷ first_raised (neg_ℤ left) post ≡ delta_insert p d (pre ++ post)
unfolding delays
delta_insert-walked pre post p d left h le e f =
    let s : ℤ = pos 0 +ℤ key_sum pre in
    let ahead : List Entry = delays_from (pos 0) pre in
    let behind : List Entry = delays_from s post in
    let e' : s +ℤ left ≡ d = omega (arith, ints, e) in
    let whole : delays_from (pos 0) (pre ++ post) ≡ ahead ++ behind = delays_from-append (pos 0) pre post in
    let target : delay_insert p d (delays_from (pos 0) (pre ++ post)) ≡ ahead ++ (p, d) ∷ behind = ap (delay_insert p d) whole
    ∙ delay_insert-split ahead behind p d (early (pos 0) d pre (KeysAtLeast-left (pos 0) pre post h) (omega (arith, ints, e, le))) (rest_late s left d post (KeysAtLeast-right (pos 0) pre post h) f e') in
    let made : delays_from (pos 0) (pre ++ (p, left) ∷ first_raised (neg_ℤ left) post) ≡ ahead ++ (p, d) ∷ behind =
    delays_from-append (pos 0) pre ((p, left) ∷ first_raised (neg_ℤ left) post) ∙ ap (λ l. ahead ++ l) (entry_is p _ _ _ _ e' (rest_shifted s left post)) in
    sym (ap differences (target ∙ sym made) ∙ differences-delays (pre ++ (p, left) ∷ first_raised (neg_ℤ left) post))

-- a list and its delays have the same processes, counted from any start
is_listed-delays_from : (p : ℕ) (s : ℤ) (l : List Entry) → is_listed p (delays_from s l) ≡ is_listed p l
is_listed-delays_from p s [] = refl
is_listed-delays_from p s (e ∷ l) = ap (λ b. cond (eqb p e.0) true b) (is_listed-delays_from p (s +ℤ e.1) l)

-- a list and its delays have the same processes
pub is_listed-delays : (p : ℕ) (l : List Entry) → is_listed p (delays l) ≡ is_listed p l
unfolding delays
is_listed-delays p l = is_listed-delays_from p (pos 0) l

-- a list of delays and its differences have the same processes, counted from any start
is_listed-differences_from : (p : ℕ) (s : ℤ) (l : List Entry) → is_listed p (differences_from s l) ≡ is_listed p l
is_listed-differences_from p s [] = refl
is_listed-differences_from p s (e ∷ l) = ap (λ b. cond (eqb p e.0) true b) (is_listed-differences_from p e.1 l)

-- a list of delays and its delta list have the same processes
pub is_listed-differences : (p : ℕ) (l : List Entry) → is_listed p (differences l) ≡ is_listed p l
unfolding differences
is_listed-differences p l = is_listed-differences_from p (pos 0) l

-- the delays after an insertion are those before it, and the new one
pub delays-insert : (p : ℕ) (d : ℤ) (l : List Entry) → delays (delta_insert p d l) ≡ delay_insert p d (delays l)
delays-insert p d l = delays-differences (delay_insert p d (delays l))

-- the delays after p is taken out are those before, without its own
pub delays-without : (p : ℕ) (l : List Entry) → delays (delta_without p l) ≡ without p (delays l)
delays-without p l = delays-differences (without p (delays l))

-- the delays after a tick are those before, each less by one
pub delays-sooner : (l : List Entry) → delays (delta_sooner l) ≡ sooner (delays l)
delays-sooner l = delays-differences (sooner (delays l))

-- a delta list without p is left alone by taking p out
pub delta_without-absent : (p : ℕ) (l : List Entry) → is_listed p l ≡ false → delta_without p l ≡ l
delta_without-absent p l h = ap differences (without-absent p (delays l) (is_listed-delays p l ∙ h)) ∙ differences-delays l

-- a first key that is more by k makes each delay more by k
raised_shift : (s k : ℤ) (post : List Entry) → delays_from s (first_raised k post) ≡ delays_from (s +ℤ k) post
raised_shift s k [] = refl
raised_shift s k (x ∷ l) = let e : s +ℤ (x.1 +ℤ k) ≡ s +ℤ k +ℤ x.1 = omega (arith, ints) in entry_is x.0 _ _ _ _ e (ap (λ z. delays_from z l) e)

-- taking p out, with its key added to the entry after it, takes its delay out
pub delta_without-cut : (pre : List Entry) (p : ℕ) (k : ℤ) (post : List Entry) → is_listed p pre ≡ false → is_listed p post ≡ false
    → pre ++ first_raised k post ≡ delta_without p (pre ++ (p, k) ∷ post)
unfolding delays
delta_without-cut pre p k post a b =
    let s : ℤ = pos 0 +ℤ key_sum pre in
    let ahead : List Entry = delays_from (pos 0) pre in
    let behind : List Entry = delays_from (s +ℤ k) post in
    let target : without p (delays_from (pos 0) (pre ++ (p, k) ∷ post)) ≡ ahead ++ behind =
    ap (without p) (delays_from-append (pos 0) pre ((p, k) ∷ post)) ∙ without-split p ahead (s +ℤ k) behind (is_listed-delays_from p (pos 0) pre ∙ a) (is_listed-delays_from p (s +ℤ k) post ∙ b) in
    let made : delays_from (pos 0) (pre ++ first_raised k post) ≡ ahead ++ behind = delays_from-append (pos 0) pre (first_raised k post) ∙ ap (λ l. ahead ++ l) (raised_shift s k post) in
    sym (ap differences (target ∙ sym made) ∙ differences-delays (pre ++ first_raised k post))

-- delays that count from one less are each less by one
sooner_from : (s : ℤ) (l : List Entry) → delays_from (s -ℤ pos 1) l ≡ map (λ e. (e.0, e.1 -ℤ pos 1)) (delays_from s l)
sooner_from s [] = refl
sooner_from s (e ∷ l) = let x : s -ℤ pos 1 +ℤ e.1 ≡ s +ℤ e.1 -ℤ pos 1 = omega (arith, ints) in
    entry_is e.0 _ _ _ _ x (ap (λ z. delays_from z l) x ∙ sooner_from (s +ℤ e.1) l)

-- lowering the first key lowers all delays
pub delta_sooner-first : (e : Entry) (l : List Entry) → first_raised (negsuc 0) (e ∷ l) ≡ delta_sooner (e ∷ l)
unfolding delays sooner
delta_sooner-first e l =
    let x : pos 0 +ℤ (e.1 +ℤ negsuc 0) ≡ pos 0 +ℤ e.1 -ℤ pos 1 = omega (arith, ints) in
    let made : delays_from (pos 0) (first_raised (negsuc 0) (e ∷ l)) ≡ map (λ e. (e.0, e.1 -ℤ pos 1)) (delays_from (pos 0) (e ∷ l)) =
    entry_is e.0 _ _ _ _ x (ap (λ z. delays_from z l) x ∙ sooner_from (pos 0 +ℤ e.1) l) in
    sym (ap differences (sym made) ∙ differences-delays (first_raised (negsuc 0) (e ∷ l)))

-- the keys of two lists put together add up to both sums
pub key_sum-append : (l m : List Entry) → key_sum (l ++ m) ≡ key_sum l +ℤ key_sum m
key_sum-append [] m = omega (arith, ints)
key_sum-append (e ∷ l) m = omega (arith, ints, key_sum-append l m)

-- a delta list falls into the entries whose delay is not greater than d and the rest, and `left` is what of d is left between them
pub record Walked (l : List Entry) (d : ℤ) : Type 0 where
  pub pre : List Entry
  pub post : List Entry
  pub left : ℤ
  pub is : l ≡ pre ++ post
  pub least : pos 0 ≤ℤ left
  pub sum : left +ℤ key_sum pre ≡ d
  pub above : FirstAbove left post

-- the place at which a delay goes in
pub walked : (l : List Entry) (d : ℤ) → KeysAtLeast (pos 0) l → pos 0 ≤ℤ d → Walked l d
walked [] d h le = record { pre = []; post = []; left = d; is = refl; least = le; sum = omega (arith, ints); above = tt }
walked (e ∷ l) d h le = elim (cases_ℤ d e.1) [
  | inl lt ↦ record { pre = []; post = e ∷ l; left = d; is = refl; least = le; sum = omega (arith, ints); above = lt }
  | inr ge ↦ (let w = walked l (d -ℤ e.1) h.1 (omega (arith, ints, ge)) in
      record { pre = e ∷ w.pre; post = w.post; left = w.left; is = ap (λ l. e ∷ l) w.is; least = w.least; sum = omega (arith, ints, w.sum); above = w.above })
]

-- no key of two lists put together is less than k, if none of either is
pub KeysAtLeast-append : (k : ℤ) (l m : List Entry) → KeysAtLeast k l → KeysAtLeast k m → KeysAtLeast k (l ++ m)
KeysAtLeast-append k [] m a b = b
KeysAtLeast-append k (e ∷ l) m a b = (a.0, KeysAtLeast-append k l m a.1 b)

-- what is left of a delay can be taken from the first key above it
raised_least : (left : ℤ) (post : List Entry) → KeysAtLeast (pos 0) post → FirstAbove left post → KeysAtLeast (pos 0) (first_raised (neg_ℤ left) post)
raised_least left [] h a = tt
raised_least left (e ∷ l) h a = (omega (arith, ints, a), h.1)

-- an entry put into a delta list leaves its sum within the bound
raised_sum : (d left s : ℤ) (post : List Entry) → left +ℤ s ≡ d → d ≤ℤ pos 2147483647 → (s +ℤ key_sum post) ≤ℤ pos 2147483647 → (s +ℤ (left +ℤ key_sum (first_raised (neg_ℤ left) post))) ≤ℤ pos 2147483647
raised_sum d left s [] e a b = omega (arith, ints, e, a)
raised_sum d left s (x ∷ l) e a b = omega (arith, ints, b)

-- a delta list stays one when a process is put in at a delay within the bound
pub IsDelta-insert : (l : List Entry) (p : ℕ) (d : ℤ) → IsDelta l → pos 0 ≤ℤ d → d ≤ℤ pos 2147483647 → IsDelta (delta_insert p d l)
IsDelta-insert l p d h le max =
    let w = walked l d h.differences le in
    let D : List Entry → Type 0 = λ l. IsDelta l in
    let G : List Entry → Type 0 = λ l. IsDelta (delta_insert p d l) in
    let h' : IsDelta (w.pre ++ w.post) = subst D w.is h in
    let new : List Entry = w.pre ++ (p, w.left) ∷ first_raised (neg_ℤ w.left) w.post in
    let made : IsDelta new = record {
      differences = KeysAtLeast-append (pos 0) w.pre _ (KeysAtLeast-left (pos 0) w.pre w.post h'.differences) (w.least, raised_least w.left w.post (KeysAtLeast-right (pos 0) w.pre w.post h'.differences) w.above);
      bounded = omega (arith, ints, key_sum-append w.pre ((p, w.left) ∷ first_raised (neg_ℤ w.left) w.post), raised_sum d w.left (key_sum w.pre) w.post w.sum max (omega (arith, ints, h'.bounded, key_sum-append w.pre w.post)));
    } in
    subst G (sym w.is) (subst D (delta_insert-walked w.pre w.post p d w.left h'.differences w.least w.sum w.above) made)

-- a first key that is more leaves the keys at least 0
raised_both : (k : ℤ) (post : List Entry) → pos 0 ≤ℤ k → KeysAtLeast (pos 0) post → KeysAtLeast (pos 0) (first_raised k post)
raised_both k [] le h = tt
raised_both k (e ∷ l) le h = (omega (arith, ints, h.0, le), h.1)

-- a first key that is more by k makes the sum more by at most k
raised_total : (k : ℤ) (post : List Entry) → pos 0 ≤ℤ k → key_sum (first_raised k post) ≤ℤ (k +ℤ key_sum post)
raised_total k [] le = omega (arith, ints)
raised_total k (e ∷ l) le = omega (arith, ints)

-- a delta list stays one when a process that is in it once is taken out
pub IsDelta-cut : (pre : List Entry) (p : ℕ) (k : ℤ) (post : List Entry) → is_listed p pre ≡ false → is_listed p post ≡ false → IsDelta (pre ++ (p, k) ∷ post) → IsDelta (delta_without p (pre ++ (p, k) ∷ post))
IsDelta-cut pre p k post a b h =
    let D : List Entry → Type 0 = λ l. IsDelta l in
    let r = KeysAtLeast-right (pos 0) pre ((p, k) ∷ post) h.differences in
    subst D (delta_without-cut pre p k post a b) (record {
      differences = KeysAtLeast-append (pos 0) pre _ (KeysAtLeast-left (pos 0) pre ((p, k) ∷ post) h.differences) (raised_both k post r.0 r.1);
      bounded = omega (arith, ints, h.bounded, key_sum-append pre ((p, k) ∷ post), key_sum-append pre (first_raised k post), raised_total k post r.0);
    })

-- a delta list whose first delay is at least 1 stays one when its delays are lowered
pub IsDelta-sooner : (e : Entry) (l : List Entry) → IsDelta (e ∷ l) → pos 1 ≤ℤ e.1 → IsDelta (delta_sooner (e ∷ l))
IsDelta-sooner e l h le =
    let D : List Entry → Type 0 = λ l. IsDelta l in
    subst D (delta_sooner-first e l) (record { differences = (omega (arith, ints, le), h.differences.1); bounded = omega (arith, ints, h.bounded) })

-- the rest of a delta list is a delta list
pub IsDelta-rest : (e : Entry) (l : List Entry) → IsDelta (e ∷ l) → IsDelta l
IsDelta-rest e l h = record { differences = h.differences.1; bounded = omega (arith, ints, h.bounded, h.differences.0) }
