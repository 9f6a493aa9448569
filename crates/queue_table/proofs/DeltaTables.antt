-- What the calls on delta lists make of a table.
use Rattle.std.specs.Prelude.{slice_index_or}
use Rattle.std.proofs.Common.{IsSome, IsSomeAnd, Option, ◌≡◌, ℕ, ◌+◌, ◌*◌, ◌<◌, ℤ, pos, negsuc, neg_ℤ, ◌≤ℤ◌, ◌+ℤ◌, Some, None, false, cond, ltb, List, [], ◌∷◌, ◌++◌, length, append_assoc, refl, sym, ap, ◌∙◌, subst, inl, inr, arith}
use Rattle.std.proofs.lemmas.Int.{ints}
use Rattle.std.proofs.lemmas.List.{set-set, length-set}
use Rattle.std.proofs.lemmas.Bool.{cases_eq, cases_Bool}
use Rattle.queue_table.specs.declared.links.Links.{Links}
use Rattle.queue_table.specs.declared.table.QueueTable.{QueueTable}
use Rattle.queue_table.specs.Lists.{Entry, IsDelta, KeysAtLeast, all_delta_without, delta_insert, delta_sooner, delta_without, first_key_of, is_listed, list_at, list_of, place, with_list}
use Rattle.queue_table.specs.Table.{lists}
use Rattle.queue_table.specs.Entries.{Chained, blank, first_to, head_of, key_at, last_from, next_at, prev_at, tail_of}
use Rattle.queue_table.specs.Writes.{put_between, set_key, shifted, taken_out}
use Rattle.queue_table.specs.Walks.{GoesAtDelay, first_raised}
use Rattle.queue_table.proofs.Places.{list_of-placed, map-with, place-none, place-some}
use Rattle.queue_table.proofs.Deltas.{KeysAtLeast-left, KeysAtLeast-right, delta_insert-walked, delta_sooner-first, delta_without-absent, delta_without-cut, key_sum-append, key_sum-least}
use Rattle.queue_table.proofs.Paths.{Path-rest}
use Rattle.queue_table.proofs.Chains.{Chain-ties, is_listed-left, is_listed-right}
use Rattle.queue_table.proofs.Changes.{is_listed-both, list_at-other, list_at-same}
use Rattle.queue_table.proofs.Keys.{Chained-shifted}
use Rattle.queue_table.proofs.Tables.{chained_of, front_of, next_of, placed, put_chained, rest_of_placed, some_of, take_chained}
use Rattle.queue_table.proofs.Walks.{place_between, step}
use Rattle.queue_table.proofs.Linked.{Chained-apart}

-- a change of the first key leaves who is in the list
raised_in : (k : ℤ) (l : List Entry) (m : ℕ) → is_listed m (first_raised k l) ≡ is_listed m l
raised_in k [] m = refl
raised_in k (e ∷ l) m = refl

-- a change of the first key leaves who is the first
raised_first : (k : ℤ) (l : List Entry) (t : ℕ) → first_to (first_raised k l) t ≡ first_to l t
raised_first k [] t = refl
raised_first k (e ∷ l) t = refl

-- the change of the one list that p is in, as a change of all lists
pub all_delta_without-is : {P Q : ℕ} → (t : QueueTable P Q) (p q : ℕ) → place (lists t) p ≡ Some q → all_delta_without p (lists t) ≡ with_list (lists t) q (delta_without p (list_at (lists t) q))
unfolding all_delta_without
all_delta_without-is {P} {Q} t p q at =
    map-with (λ l. delta_without p l) (lists t) q (delta_without p (list_at (lists t) q)) (place-some (lists t) p q at).0 refl
    (λ i n. delta_without-absent p (list_at (lists t) i) (Chained-apart P Q t.entries.items (lists t) (chained_of t) q i p (λ s. n (sym s)) (place-some (lists t) p q at).1))

-- p goes into the delta list at the place at which the walk stopped, with what is left of its delay as its key, by which the entry after it gets less:
-- `by` and k are these numbers as the code has them, and r the entry that the walk stopped at
pub delta_put : {P Q : ℕ} → (t : QueueTable P Q) (p q : ℕ) (d : ℤ) (n : ℕ) (left by k : ℤ) (r : Links) (es1 es2 : List Links)
    → p < P → q < Q → place (lists t) p ≡ None → IsDelta (list_at (lists t) q) → GoesAtDelay (list_at (lists t) q) d (tail_of P q) n left
    → r ≡ slice_index_or t.entries.items n blank → by ≡ neg_ℤ left → k ≡ left → es1 ≡ shifted t.entries.items n by P → es2 ≡ put_between es1 r.prev p n k
    → Chained P Q es2 (with_list (lists t) q (delta_insert p d (list_at (lists t) q)))
delta_put {P} {Q} t p q d n left by k r es1 es2 ltp ltq absent delta goes er eby ek e1 e2 =
    let ls : List (List Entry) = lists t in
    let es : List Links = t.entries.items in
    let pre : List Entry = goes.0 in
    let post : List Entry = goes.1 in
    let less : List Entry = first_raised (neg_ℤ left) post in
    let mid : List Entry = pre ++ less in
    let new : List Entry = pre ++ (p, left) ∷ less in
    let ls1 : List (List Entry) = with_list ls q mid in
    let kept : Chained P Q es ls = chained_of t in
    let E1 : List Links → Type 0 = λ es. Chained P Q es ls1 in
    let kept1 : Chained P Q es1 ls1 = subst E1 (sym (e1 ∙ ap (λ by. shifted es n by P) eby)) (Chained-shifted P Q es ls q pre post n (neg_ℤ left) kept ltq goes.2 goes.3) in
    let here : list_at ls1 q ≡ mid = list_at-same ls q mid (omega (arith, kept.queues)) in
    let I : List Entry → Type 0 = λ l. is_listed p l ≡ false in
    let out : is_listed p (pre ++ post) ≡ false = subst I goes.2 (place-none ls p absent q) in
    let fresh : (i : ℕ) → i < Q → is_listed p (list_at ls1 i) ≡ false = λ i lti. elim (cases_eq i q) [
      | inl s ↦ (let H : ℕ → Type 0 = λ i. is_listed p (list_at ls1 i) ≡ false in subst H (sym s) (subst I (sym here)
          (is_listed-both p pre less (is_listed-left p pre post out) (raised_in (neg_ℤ left) post p ∙ is_listed-right p pre post out))))
      | inr n ↦ subst I (sym (list_at-other ls q mid i n)) (place-none ls p absent i)
    ] in
    let ex : r.prev ≡ last_from (head_of P q) pre = ap (λ (r : Links). r.prev) er ∙ (place_between t q pre post n ltq goes.2 goes.3).0 in
    let made : Chained P Q es2 (with_list ls1 q new) =
    put_chained P Q es1 ls1 p q pre less left r.prev n es2 kept1 ltp ltq fresh here ex (goes.3 ∙ sym (raised_first (neg_ℤ left) post (tail_of P q))) (e2 ∙ ap (λ k. put_between es1 r.prev p n k) ek) in
    let D : List Entry → Type 0 = λ l. KeysAtLeast (pos 0) l in
    let same : new ≡ delta_insert p d (list_at ls q) = delta_insert-walked pre post p d left (subst D goes.2 delta.differences) goes.4 goes.5 goes.6 ∙ ap (λ l. delta_insert p d l) (sym goes.2) in
    let L : List (List Entry) → Type 0 = λ ls. Chained P Q es2 ls in
    subst L (set-set ls q mid new ∙ ap (with_list ls q) same) made

-- the entry after p takes over its key, and p goes out: r is the entry of p, and j its key as the code has it
pub delta_taken : {P Q : ℕ} → (t : QueueTable P Q) (p : ℕ) (r : Links) (j : ℤ) (es1 : List Links)
    → IsSome (place (lists t) p) → r ≡ slice_index_or t.entries.items p blank → j ≡ r.key → es1 ≡ shifted t.entries.items r.next j P
    → Chained P Q (taken_out es1 p) (all_delta_without p (lists t)) × (next_at es1 p < P + 2 * Q) × (prev_at es1 p < P + 2 * Q) × (length es1 ≡ P + 2 * Q)
delta_taken {P} {Q} t p r j es1 h er ej e1 =
    let ls : List (List Entry) = lists t in
    let es : List Links = t.entries.items in
    let k : Chained P Q es ls = chained_of t in
    let q = some_of (place ls p) h in
    let d = placed t p q.0 q.1 in
    let ties = Chain-ties P es (head_of P q.0) d.before (p, d.key) d.behind (tail_of P q.0) d.chain in
    let rest = Path-rest P es (head_of P q.0) d.before ((p, d.key) ∷ d.behind) d.chain.path in
    let ej' : j ≡ d.key = ej ∙ ap (λ (r : Links). r.key) er ∙ rest.1 in
    let mid : List Entry = (d.before ++ (p, d.key) ∷ []) ++ first_raised j d.behind in
    let ls1 : List (List Entry) = with_list ls q.0 mid in
    let is' : list_at ls q.0 ≡ (d.before ++ (p, d.key) ∷ []) ++ d.behind = d.is ∙ sym (append_assoc d.before ((p, d.key) ∷ []) d.behind) in
    let E1 : List Links → Type 0 = λ es. Chained P Q es ls1 in
    let k1 : Chained P Q es1 ls1 = subst E1 (sym e1) (Chained-shifted P Q es ls q.0 (d.before ++ (p, d.key) ∷ []) d.behind r.next j k d.queue_in is' (ap (λ (r : Links). r.next) er ∙ ties.1.0)) in
    let here : list_at ls1 q.0 ≡ d.before ++ (p, d.key) ∷ first_raised j d.behind = list_at-same ls q.0 mid (omega (arith, k.queues, d.queue_in)) ∙ append_assoc d.before ((p, d.key) ∷ []) (first_raised j d.behind) in
    let taken = take_chained P Q es1 ls1 p q.0 d.before d.key (first_raised j d.behind) k1 d.queue_in here in
    let same : d.before ++ first_raised j d.behind ≡ delta_without p (list_at ls q.0) =
    ap (λ k. d.before ++ first_raised k d.behind) ej' ∙ delta_without-cut d.before p d.key d.behind (front_of d) (rest_of_placed d) ∙ ap (λ l. delta_without p l) (sym d.is) in
    let L : List (List Entry) → Type 0 = λ ls. Chained P Q (taken_out es1 p) ls in
    (subst L (set-set ls q.0 mid (d.before ++ first_raised j d.behind) ∙ ap (with_list ls q.0) same ∙ sym (all_delta_without-is t p q.0 q.1)) taken.0, taken.2, taken.3, k1.size)

-- a list with a first key has a first entry with this key
first_key-cons : (l : List Entry) (k : ℤ) → first_key_of l ≡ Some k → (e : Entry) × (m : List Entry) × (l ≡ e ∷ m) × (e.1 ≡ k)
first_key-cons [] k h = absurd (cc)
first_key-cons (e ∷ m) k h = (e, m, refl, (let s : e.1 ≡ k = cc in s))

-- the first key of a list that isn't empty falls by one
pub delta_lowered : {P Q : ℕ} → (t : QueueTable P Q) (q n : ℕ) (k : ℤ) (es1 : List Links)
    → q < Q → first_key_of (list_at (lists t) q) ≡ Some k → n ≡ next_at t.entries.items (head_of P q) → es1 ≡ shifted t.entries.items n (negsuc 0) P
    → Chained P Q es1 (with_list (lists t) q (delta_sooner (list_at (lists t) q)))
delta_lowered {P} {Q} t q n k es1 ltq first en e1 =
    let ls : List (List Entry) = lists t in
    let f = first_key-cons (list_at ls q) k first in
    let same : first_raised (negsuc 0) (list_at ls q) ≡ delta_sooner (list_at ls q) =
    ap (first_raised (negsuc 0)) f.2 ∙ delta_sooner-first f.0 f.1 ∙ ap (λ l. delta_sooner l) (sym f.2) in
    let E : List Links → Type 0 = λ es. Chained P Q es (with_list ls q (first_raised (negsuc 0) (list_at ls q))) in
    let L : List (List Entry) → Type 0 = λ ls. Chained P Q es1 ls in
    subst L (ap (with_list ls q) same) (subst E (sym e1) (Chained-shifted P Q t.entries.items ls q [] (list_at ls q) n (negsuc 0) (chained_of t) ltq refl (en ∙ next_of t q ltq)))

-- the keys of a delta list, by its bound
pub key_two-bound : (pre : List Entry) (p : ℕ) (k : ℤ) (e : Entry) (post : List Entry) → IsDelta (pre ++ (p, k) ∷ e ∷ post) → (pos 0 ≤ℤ k) × (pos 0 ≤ℤ e.1) × ((k +ℤ e.1) ≤ℤ pos 2147483647)
key_two-bound pre p k e post d =
    let r = KeysAtLeast-right (pos 0) pre ((p, k) ∷ e ∷ post) d.differences in
    (r.0, r.1.0, omega (arith, ints, d.bounded, key_sum-append pre ((p, k) ∷ e ∷ post), key_sum-least pre (KeysAtLeast-left (pos 0) pre ((p, k) ∷ e ∷ post) d.differences), key_sum-least post r.1.1))

-- a key of a delta list is at least 0 and at most the bound
pub key_bound : (pre : List Entry) (e : Entry) (post : List Entry) → IsDelta (pre ++ e ∷ post) → (pos 0 ≤ℤ e.1) × (e.1 ≤ℤ pos 2147483647)
key_bound pre e post d =
    let r = KeysAtLeast-right (pos 0) pre (e ∷ post) d.differences in
    (r.0, omega (arith, ints, d.bounded, key_sum-append pre (e ∷ post), key_sum-least pre (KeysAtLeast-left (pos 0) pre (e ∷ post) d.differences), key_sum-least post r.1))

-- an entry after a place of a delta list: its number is in range, and its key
pub behind_is : {P Q : ℕ} → (t : QueueTable P Q) (q : ℕ) (pre post : List Entry) (n : ℕ) → q < Q → list_at (lists t) q ≡ pre ++ post → n ≡ first_to post (tail_of P q)
    → (n < P + 2 * Q) × (n < P → (e : Entry) × (m : List Entry) × (post ≡ e ∷ m) × (key_at t.entries.items n ≡ e.1))
behind_is t q pre post n lt is e = ((place_between t q pre post n lt is e).1, λ ltn. (let s = step t q pre post n lt is e ltn in (s.entry, s.rest, s.post_is, s.key_is)))

-- the key that a walk along a delta list meets is at least 0
pub key_at_step : {P Q : ℕ} → (t : QueueTable P Q) (q : ℕ) (pre post : List Entry) (n : ℕ) → q < Q → IsDelta (list_at (lists t) q) → list_at (lists t) q ≡ pre ++ post → n ≡ first_to post (tail_of P q) → n < P → pos 0 ≤ℤ key_at t.entries.items n
key_at_step t q pre post n lt d is e ltn =
    let s = step t q pre post n lt is e ltn in
    let D : List Entry → Type 0 = λ l. IsDelta l in
    let b = key_bound pre s.entry s.rest (subst D (is ∙ ap (λ l. pre ++ l) s.post_is) d) in
    omega (arith, ints, b.0, s.key_is)

-- a change of a key leaves the number of entries
pub shifted-size : (es : List Links) (i : ℕ) (k : ℤ) (P : ℕ) → length (shifted es i k P) ≡ length es
shifted-size es i k P = elim (cases_Bool (ltb i P)) [
  | inl t ↦ ap (λ b. length (cond b (set_key es i (key_at es i +ℤ k)) es)) t ∙ length-set es i _
  | inr f ↦ ap (λ b. length (cond b (set_key es i (key_at es i +ℤ k)) es)) f
]

-- a value that is there and of which a fact holds is some value with the fact
pub some_and : (o : Option ℤ) → (P : ℤ → Type 0) → IsSomeAnd o P → (k : ℤ) × (o ≡ Some k) × P k
some_and (Some k) P h = (k, refl, h)
some_and None P h = absurd h

-- the key of a process in a delta list and that of the process after it add up within the bound
pub key_behind : {P Q : ℕ} → (t : QueueTable P Q) (p n : ℕ) → IsSome (place (lists t) p) → IsDelta (list_of (lists t) p) → n ≡ next_at t.entries.items p → n < P
    → (pos 0 ≤ℤ key_at t.entries.items p) × (pos 0 ≤ℤ key_at t.entries.items n) × ((key_at t.entries.items n +ℤ key_at t.entries.items p) ≤ℤ pos 2147483647)
key_behind {P} {Q} t p n h delta e ltn =
    let es : List Links = t.entries.items in
    let q = some_of (place (lists t) p) h in
    let d = placed t p q.0 q.1 in
    let ties = Chain-ties P es (head_of P q.0) d.before (p, d.key) d.behind (tail_of P q.0) d.chain in
    let is' : list_at (lists t) q.0 ≡ (d.before ++ (p, d.key) ∷ []) ++ d.behind = d.is ∙ sym (append_assoc d.before ((p, d.key) ∷ []) d.behind) in
    let s = step t q.0 (d.before ++ (p, d.key) ∷ []) d.behind n d.queue_in is' (e ∙ ties.1.0) ltn in
    let D : List Entry → Type 0 = λ l. IsDelta l in
    let k = key_two-bound d.before p d.key s.entry s.rest (subst D (list_of-placed (lists t) p q.0 q.1 ∙ d.is ∙ ap (λ l. d.before ++ (p, d.key) ∷ l) s.post_is) delta) in
    let here : key_at es p ≡ d.key = (Path-rest P es (head_of P q.0) d.before ((p, d.key) ∷ d.behind) d.chain.path).1 in
    (omega (arith, ints, k.0, here), omega (arith, ints, k.1, s.key_is), omega (arith, ints, k.2, here, s.key_is))
