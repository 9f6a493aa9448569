-- What every table is known to keep.
use Rattle.std.proofs.Common.{◌≡◌, ◌≢◌, ℕ, ◌+◌, ◌*◌, ◌<◌, ◌≤◌, ℤ, true, false, cond, eqb, Option, Some, None, IsSome, rules, List, [], ◌∷◌, ◌++◌, length, refl, sym, ap, ◌∙◌, subst, inl, inr, ◌⊎◌, arith}
use Rattle.std.proofs.Math.Logic.{∥∥₁_elim}
use Rattle.std.proofs.Props.{props}
use Rattle.std.proofs.lemmas.Bool.Decides.{nat_tests}
use Rattle.std.proofs.lemmas.Bool.{cases_lt}
use Rattle.std.proofs.lemmas.List.{get_or_past}
use Rattle.queue_table.specs.declared.links.Links.{Links}
use Rattle.queue_table.specs.declared.table.QueueTable.{QueueTable}
use Rattle.queue_table.specs.Lists.{Entry, after_in, all_without, first_key_of, first_process, is_listed, key_in, list_at, list_of, place, with_list, without}
use Rattle.queue_table.specs.Table.{lists}
use Rattle.queue_table.specs.Entries.{Chain, Chained, Path, Tied, first_to, head_of, key_at, last_from, lists_of, next_at, prev_at, tail_of}
use Rattle.queue_table.specs.Writes.{put_between, taken_out}
use Rattle.queue_table.proofs.Places.{list_of-placed, map-with, place-none, place-some, split_in, without-absent, without-split}
use Rattle.queue_table.proofs.Paths.{Chained-read, Path-front, Path-rest}
use Rattle.queue_table.proofs.Writes.{Rewired, rewired-is}
use Rattle.queue_table.proofs.Chains.{Chain-tie, Chain-ties, alone_apart, alone_front, alone_rest}
use Rattle.queue_table.proofs.Changes.{Chained-cut, Chained-put, first_to-cases, first_to-differs, last_from-cases}

-- a value that is there is some value
pub some_of : (o : Option ℕ) → IsSome o → (q : ℕ) × (o ≡ Some q)
some_of (Some q) h = (q, refl)
some_of None h = absurd (search rules)

-- a value is there or it isn't
pub option_cases : (o : Option ℕ) → (o ≡ None) ⊎ ((q : ℕ) × (o ≡ Some q))
option_cases None = inl refl
option_cases (Some q) = inr (q, refl)

-- that entries are a path is a fact, and has one proof
Path-prop : (P : ℕ) (es : List Links) (a : ℕ) (l : List Entry) → IsProp (Path P es a l)
Path-prop P es a [] = hlevel props
Path-prop P es a (e ∷ l) = hlevel (props, Path-prop P es e.0 l)

-- that entries hold lists is a fact, and has one proof
Chained-prop : (P Q : ℕ) (es : List Links) (ls : List (List Entry)) → IsProp (Chained P Q es ls)
Chained-prop P Q es ls = hlevel (props, Path-prop)

-- the ghost fact of a table, opened
pub Chained-had : (P Q : ℕ) (es : List Links) (ls : List (List Entry)) → ∥ Chained P Q es ls ∥₁ → Chained P Q es ls
Chained-had P Q es ls h = ∥∥₁_elim h (Chained-prop P Q es ls) (λ k. k)

-- the entries of every table hold its lists, tie by tie
pub chained_of : {P Q : ℕ} → (t : QueueTable P Q) → Chained P Q t.entries.items (lists t)
unfolding lists
chained_of {P} {Q} t = Chained-had P Q t.entries.items (lists_of P Q t.entries.items) t.linked

-- entries that hold some lists hold those that are read off them
pub Chained-self : (P Q : ℕ) (es : List Links) (ls : List (List Entry)) → Chained P Q es ls → Chained P Q es (lists_of P Q es)
Chained-self P Q es ls k = let F : List (List Entry) → Type 0 = λ ls. Chained P Q es ls in subst F (sym (Chained-read P Q es ls k)) k

-- the first entry after a head
pub next_of : {P Q : ℕ} → (t : QueueTable P Q) (q : ℕ) → q < Q → next_at t.entries.items (head_of P q) ≡ first_to (list_at (lists t) q) (tail_of P q)
next_of {P} {Q} t q lt = (Chain-tie P t.entries.items (head_of P q) [] (list_at (lists t) q) (tail_of P q) ((chained_of t).chains q lt)).0

-- the last entry before a tail
pub prev_of : {P Q : ℕ} → (t : QueueTable P Q) (q : ℕ) → q < Q → prev_at t.entries.items (tail_of P q) ≡ last_from (head_of P q) (list_at (lists t) q)
prev_of {P} {Q} t q lt = ((chained_of t).chains q lt).tied.1

-- an entry after a head that is a process is the first of the list
pub first-some : (P : ℕ) (l : List Entry) (t n : ℕ) → P ≤ t → n ≡ first_to l t → n < P → Some n ≡ first_process l
first-some P [] t n le e lt = absurd (omega arith)
first-some P (f ∷ l) t n le e lt = ap Some e

-- an entry after a head that is no process is the tail of an empty list
pub first-none : (P : ℕ) (es : List Links) (h : ℕ) (l : List Entry) (t n : ℕ) → Path P es h l → n ≡ first_to l t → P ≤ n → None ≡ first_process l
first-none P es h [] t n p e lt = refl
first-none P es h (f ∷ l) t n p e lt = absurd (omega (arith, p.2))

-- the key of an entry after a head that is a process is the first key of the list
pub first_key-some : (P : ℕ) (es : List Links) (h : ℕ) (l : List Entry) (t n : ℕ) (k : ℤ) → Path P es h l → P ≤ t → n ≡ first_to l t → n < P → k ≡ key_at es n → Some k ≡ first_key_of l
first_key-some P es h [] t n k p le e lt ek = absurd (omega arith)
first_key-some P es h (f ∷ l) t n k p le e lt ek = ap Some (ek ∙ ap (key_at es) e ∙ p.1)

-- after the head of an empty list there is no first key
pub first_key-none : (P : ℕ) (es : List Links) (h : ℕ) (l : List Entry) (t n : ℕ) → Path P es h l → n ≡ first_to l t → P ≤ n → None ≡ first_key_of l
first_key-none P es h [] t n p e lt = refl
first_key-none P es h (f ∷ l) t n p e lt = absurd (omega (arith, p.2))

-- p, in no list, is put between two neighbours of queue q
pub put_chained : (P Q : ℕ) (es : List Links) (ls : List (List Entry)) (p q : ℕ) (pre post : List Entry) (k : ℤ) (x y : ℕ) (es' : List Links)
    → Chained P Q es ls → p < P → q < Q → ((i : ℕ) → i < Q → is_listed p (list_at ls i) ≡ false) → list_at ls q ≡ pre ++ post
    → x ≡ last_from (head_of P q) pre → y ≡ first_to post (tail_of P q)
    → es' ≡ put_between es x p y k
    → Chained P Q es' (with_list ls q (pre ++ (p, k) ∷ post))
put_chained P Q es ls p q pre post k x y es' k' ltp ltq fresh is ex ey ees =
    let h : ℕ = head_of P q in
    let C : List Entry → Type 0 = λ l. Chain P es h l (tail_of P q) in
    let c : Chain P es h (pre ++ post) (tail_of P q) = subst C is (k'.chains q ltq) in
    let xs : (last_from h pre ≡ h) ⊎ (last_from h pre < P) = last_from-cases P es h pre (Path-front P es h pre post c.path) in
    let ys : (first_to post (tail_of P q) ≡ tail_of P q) ⊎ (first_to post (tail_of P q) < P) = first_to-cases P es (last_from h pre) post (tail_of P q) (Path-rest P es h pre post c.path) in
    let lx : x < length es = elim xs [ inl s ↦ omega (arith, s, k'.size) | inr s ↦ omega (arith, s, k'.size) ] in
    let ly : y < length es = elim ys [ inl s ↦ omega (arith, s, k'.size) | inr s ↦ omega (arith, s, k'.size) ] in
    let lp : p < length es = omega (arith, k'.size) in
    let w : Rewired es (put_between es x p y k) x p y p p (record { next = y; prev = x; key = k }) = rewired-is es x p y p p _ lx ly lp in
    let E : List Links → Type 0 = λ es'. Chained P Q es' (with_list ls q (pre ++ (p, k) ∷ post)) in
    let X : ℕ → Type 0 = λ n. Rewired es (put_between es x p y k) n p y p p (record { next = y; prev = x; key = k }) in
    let Y : ℕ → Type 0 = λ n. Rewired es (put_between es x p y k) (last_from h pre) p n p p (record { next = y; prev = x; key = k }) in
    subst E (sym ees) (Chained-put P Q es (put_between es x p y k) ls q pre post p (record { next = y; prev = x; key = k })
    k' ltq is ltp fresh (subst Y ey (subst X ex w)) ey ex)

-- p, which is nowhere, is put in at a place of a table's list
pub put_at : {P Q : ℕ} → (t : QueueTable P Q) (p q : ℕ) (pre post : List Entry) (k : ℤ) (x y : ℕ) (es' : List Links)
    → p < P → q < Q → place (lists t) p ≡ None → list_at (lists t) q ≡ pre ++ post
    → x ≡ last_from (head_of P q) pre → y ≡ first_to post (tail_of P q)
    → es' ≡ put_between t.entries.items x p y k
    → Chained P Q es' (with_list (lists t) q (pre ++ (p, k) ∷ post))
put_at {P} {Q} t p q pre post k x y es' ltp ltq absent is ex ey ees =
    put_chained P Q t.entries.items (lists t) p q pre post k x y es' (chained_of t) ltp ltq (λ i lti. place-none (lists t) p absent i) is ex ey ees

-- the entry ahead of a tail is one of the table's
pub last_below : {P Q : ℕ} → (t : QueueTable P Q) (q : ℕ) → q < Q → last_from (head_of P q) (list_at (lists t) q) < P + 2 * Q
last_below {P} {Q} t q lt = elim (last_from-cases P t.entries.items (head_of P q) (list_at (lists t) q) ((chained_of t).chains q lt).path) [
  | inl s ↦ omega (arith, s)
  | inr s ↦ omega (arith, s)
]

-- p, in a list, is taken out
pub take_chained : (P Q : ℕ) (es : List Links) (ls : List (List Entry)) (p q : ℕ) (pre : List Entry) (k : ℤ) (post : List Entry) → Chained P Q es ls → q < Q → list_at ls q ≡ pre ++ (p, k) ∷ post
    → Chained P Q (taken_out es p) (with_list ls q (pre ++ post)) × (all_without p ls ≡ with_list ls q (pre ++ post))
    × (next_at es p < P + 2 * Q) × (prev_at es p < P + 2 * Q)
unfolding all_without
take_chained P Q es ls p q pre k post k' ltq is =
    let h : ℕ = head_of P q in
    let C : List Entry → Type 0 = λ l. Chain P es h l (tail_of P q) in
    let c : Chain P es h (pre ++ (p, k) ∷ post) (tail_of P q) = subst C is (k'.chains q ltq) in
    let rest : Path P es (last_from h pre) ((p, k) ∷ post) = Path-rest P es h pre ((p, k) ∷ post) c.path in
    let ties : Tied es (last_from h pre) p × Tied es p (first_to post (tail_of P q)) = Chain-ties P es h pre (p, k) post (tail_of P q) c in
    let xs : (last_from h pre ≡ h) ⊎ (last_from h pre < P) = last_from-cases P es h pre (Path-front P es h pre ((p, k) ∷ post) c.path) in
    let ys : (first_to post (tail_of P q) ≡ tail_of P q) ⊎ (first_to post (tail_of P q) < P) = first_to-cases P es p post (tail_of P q) rest.3 in
    let ex : prev_at es p ≡ last_from h pre = ties.0.1 in
    let ey : next_at es p ≡ first_to post (tail_of P q) = ties.1.0 in
    let lx : prev_at es p < P + 2 * Q = elim xs [ inl s ↦ omega (arith, ex, s) | inr s ↦ omega (arith, ex, s) ] in
    let ly : next_at es p < P + 2 * Q = elim ys [ inl s ↦ omega (arith, ey, s) | inr s ↦ omega (arith, ey, s) ] in
    let r : Links = record { next = p; prev = p; key = key_at es p } in
    let w : Rewired es (taken_out es p) (prev_at es p) (next_at es p) (next_at es p) (prev_at es p) p r = rewired-is es _ _ _ _ p r (omega (arith, k'.size)) (omega (arith, k'.size)) (omega (arith, k'.size, rest.2)) in
    let X : ℕ → Type 0 = λ n. Rewired es (taken_out es p) n (next_at es p) (next_at es p) n p r in
    let Y : ℕ → Type 0 = λ n. Rewired es (taken_out es p) (last_from h pre) n n (last_from h pre) p r in
    let alone_else : (i : ℕ) → i ≢ q → without p (list_at ls i) ≡ list_at ls i = λ i n. without-absent p (list_at ls i) (elim (cases_lt i Q) [
      | inl lti ↦ alone_apart P es h pre (p, k) post (omega arith) c.path (head_of P i) (list_at ls i) (omega arith) (k'.chains i lti).path (omega arith)
      | inr le ↦ (let N : List Entry → Type 0 = λ l. is_listed p l ≡ false in subst N (sym (get_or_past ls i [] (omega (arith, k'.queues)))) refl)
    ]) in
    let W : List Entry → Type 0 = λ l. without p l ≡ pre ++ post in (
      Chained-cut P Q es (taken_out es p) ls q pre (p, k) post r k' ltq is (subst Y ey (subst X ex w)) refl refl,
      map-with (without p) ls q (pre ++ post) (omega (arith, k'.queues)) (subst W (sym is) (without-split p pre k post (alone_front P es h pre (p, k) post (omega arith) c.path) (alone_rest P es h pre (p, k) post (omega arith) c.path))) alone_else,
      ly,
      lx,
    )

-- the process at a place of a table's list is taken out
pub take_at : {P Q : ℕ} → (t : QueueTable P Q) (p q : ℕ) (pre : List Entry) (k : ℤ) (post : List Entry) → q < Q → list_at (lists t) q ≡ pre ++ (p, k) ∷ post
    → Chained P Q (taken_out t.entries.items p) (with_list (lists t) q (pre ++ post)) × (all_without p (lists t) ≡ with_list (lists t) q (pre ++ post))
    × (next_at t.entries.items p < P + 2 * Q) × (prev_at t.entries.items p < P + 2 * Q)
take_at {P} {Q} t p q pre k post ltq is = take_chained P Q t.entries.items (lists t) p q pre k post (chained_of t) ltq is

-- p, which is in a list, is taken out
pub take_placed : {P Q : ℕ} → (t : QueueTable P Q) (p : ℕ) → IsSome (place (lists t) p)
    → Chained P Q (taken_out t.entries.items p) (all_without p (lists t)) × (next_at t.entries.items p < P + 2 * Q) × (prev_at t.entries.items p < P + 2 * Q)
take_placed {P} {Q} t p h =
    let q = some_of (place (lists t) p) h in
    let s = place-some (lists t) p q.0 q.1 in
    let f = split_in p (list_at (lists t) q.0) s.1 in
    let r = take_at t p q.0 f.0 f.1 f.2 (omega (arith, s.0, (chained_of t).queues)) f.3 in
    let F : List (List Entry) → Type 0 = λ ls. Chained P Q (taken_out t.entries.items p) ls in
    (subst F (sym r.1) r.0, r.2, r.3)

-- a list whose first up to the tail is a process n begins with n
first-cons : (P : ℕ) (l : List Entry) (t n : ℕ) → P ≤ t → n ≡ first_to l t → n < P → (k : ℤ) × (post : List Entry) × (l ≡ (n, k) ∷ post)
first-cons P [] t n le e lt = absurd (omega arith)
first-cons P (f ∷ l) t n le e lt = (f.1, l, (let F : ℕ → Type 0 = λ n. f ∷ l ≡ (n, f.1) ∷ l in subst F (sym e) refl))

-- a list whose first up to the tail is no process is empty
pub first-nil : (P : ℕ) (es : List Links) (h : ℕ) (l : List Entry) (t n : ℕ) → Path P es h l → n ≡ first_to l t → P ≤ n → l ≡ []
first-nil P es h [] t n p e lt = refl
first-nil P es h (f ∷ l) t n p e lt = absurd (omega (arith, p.2))

-- if the entry after a head is a process the list begins with it
pub head_split : {P Q : ℕ} → (t : QueueTable P Q) (q n : ℕ) → q < Q → n ≡ next_at t.entries.items (head_of P q) → n < P → (k : ℤ) × (post : List Entry) × (list_at (lists t) q ≡ (n, k) ∷ post)
head_split {P} {Q} t q n lt e ltn = first-cons P (list_at (lists t) q) (tail_of P q) n (omega arith) (e ∙ next_of t q lt) ltn

-- if the entry after a head is no process the list is empty
pub head_none : {P Q : ℕ} → (t : QueueTable P Q) (q n : ℕ) → q < Q → n ≡ next_at t.entries.items (head_of P q) → P ≤ n → list_at (lists t) q ≡ []
head_none {P} {Q} t q n lt e le = first-nil P t.entries.items (head_of P q) (list_at (lists t) q) (tail_of P q) n ((chained_of t).chains q lt).path (e ∙ next_of t q lt) le

-- after the head of an empty list comes no process
pub head_above : {P Q : ℕ} → (t : QueueTable P Q) (q n : ℕ) → q < Q → n ≡ next_at t.entries.items (head_of P q) → list_at (lists t) q ≡ [] → P ≤ n
head_above {P} {Q} t q n lt e is = let x : n ≡ tail_of P q = e ∙ next_of t q lt ∙ ap (λ l. first_to l (tail_of P q)) is in omega (arith, x)

-- a process that is in a list, with the parts of the list before and after it
pub record Placed (P : ℕ) (Q : ℕ) (es : List Links) (l : List Entry) (p : ℕ) (q : ℕ) : Type 0 where
  pub before : List Entry
  pub key : ℤ
  pub behind : List Entry
  pub queue_in : q < Q
  pub is : l ≡ before ++ (p, key) ∷ behind
  pub chain : Chain P es (head_of P q) (before ++ (p, key) ∷ behind) (tail_of P q)

-- a process that is in a list, with its place there
pub placed : {P Q : ℕ} → (t : QueueTable P Q) (p q : ℕ) → place (lists t) p ≡ Some q → Placed P Q t.entries.items (list_at (lists t) q) p q
placed {P} {Q} t p q at =
    let s = place-some (lists t) p q at in
    let f = split_in p (list_at (lists t) q) s.1 in
    let lt : q < Q = omega (arith, s.0, (chained_of t).queues) in
    let C : List Entry → Type 0 = λ l. Chain P t.entries.items (head_of P q) l (tail_of P q) in
    record { before = f.0; key = f.1; behind = f.2; queue_in = lt; is = f.3; chain = subst C f.3 ((chained_of t).chains q lt) }

-- a process isn't in the part of its list ahead of it
pub front_of : {P Q : ℕ} → {es : List Links} → {l : List Entry} → {p q : ℕ} → (d : Placed P Q es l p q) → is_listed p d.before ≡ false
front_of {P} {Q} {es} {l} {p} {q} d = alone_front P es (head_of P q) d.before (p, d.key) d.behind (omega arith) d.chain.path

-- a process isn't in the part of its list after it
pub rest_of_placed : {P Q : ℕ} → {es : List Links} → {l : List Entry} → {p q : ℕ} → (d : Placed P Q es l p q) → is_listed p d.behind ≡ false
rest_of_placed {P} {Q} {es} {l} {p} {q} d = alone_rest P es (head_of P q) d.before (p, d.key) d.behind (omega arith) d.chain.path

-- the process after p is the first of the part after it
after_in-split : (p : ℕ) (pre : List Entry) (k : ℤ) (post : List Entry) → is_listed p pre ≡ false → after_in p (pre ++ (p, k) ∷ post) ≡ first_process post
after_in-split p [] k post h = let e : eqb p p ≡ true = grind (arith, nat_tests) in ap (λ b. cond b (first_process post) (after_in p post)) e
after_in-split p (e ∷ pre) k post h =
    let n : eqb p e.0 ≡ false = grind (arith, nat_tests) in
    let t : is_listed p pre ≡ false = grind (arith, nat_tests) in
    ap (λ b. cond b (first_process (pre ++ (p, k) ∷ post)) (after_in p (pre ++ (p, k) ∷ post))) n ∙ after_in-split p pre k post t

-- the key of p is the one beside it
key_in-split : (p : ℕ) (pre : List Entry) (k : ℤ) (post : List Entry) → is_listed p pre ≡ false → key_in p (pre ++ (p, k) ∷ post) ≡ k
key_in-split p [] k post h = let e : eqb p p ≡ true = grind (arith, nat_tests) in ap (λ b. cond b k (key_in p post)) e
key_in-split p (e ∷ pre) k post h =
    let n : eqb p e.0 ≡ false = grind (arith, nat_tests) in
    let t : is_listed p pre ≡ false = grind (arith, nat_tests) in
    ap (λ b. cond b e.1 (key_in p (pre ++ (p, k) ∷ post))) n ∙ key_in-split p pre k post t

-- the next number of a process that is in a list is the process after it, if it is a process
pub after-some : {P Q : ℕ} → (t : QueueTable P Q) (p n : ℕ) → IsSome (place (lists t) p) → n ≡ next_at t.entries.items p → n < P → Some n ≡ after_in p (list_of (lists t) p)
after-some {P} {Q} t p n h e lt =
    let q = some_of (place (lists t) p) h in
    let d = placed t p q.0 q.1 in
    let ties = Chain-ties P t.entries.items (head_of P q.0) d.before (p, d.key) d.behind (tail_of P q.0) d.chain in
    first-some P d.behind (tail_of P q.0) n (omega arith) (e ∙ ties.1.0) lt ∙ sym (ap (after_in p) (list_of-placed (lists t) p q.0 q.1 ∙ d.is) ∙ after_in-split p d.before d.key d.behind (front_of d))

-- the next number of a process that is in a list is a tail, if it is the last
pub after-none : {P Q : ℕ} → (t : QueueTable P Q) (p n : ℕ) → IsSome (place (lists t) p) → n ≡ next_at t.entries.items p → P ≤ n → None ≡ after_in p (list_of (lists t) p)
after-none {P} {Q} t p n h e le =
    let q = some_of (place (lists t) p) h in
    let d = placed t p q.0 q.1 in
    let ties = Chain-ties P t.entries.items (head_of P q.0) d.before (p, d.key) d.behind (tail_of P q.0) d.chain in
    let rest = Path-rest P t.entries.items (head_of P q.0) d.before ((p, d.key) ∷ d.behind) d.chain.path in
    first-none P t.entries.items p d.behind (tail_of P q.0) n rest.3 (e ∙ ties.1.0) le ∙ sym (ap (after_in p) (list_of-placed (lists t) p q.0 q.1 ∙ d.is) ∙ after_in-split p d.before d.key d.behind (front_of d))

-- the key of the entry of a process that is in a list is its key there
pub key_placed : {P Q : ℕ} → (t : QueueTable P Q) (p : ℕ) → IsSome (place (lists t) p) → key_at t.entries.items p ≡ key_in p (list_of (lists t) p)
key_placed {P} {Q} t p h =
    let q = some_of (place (lists t) p) h in
    let d = placed t p q.0 q.1 in
    (Path-rest P t.entries.items (head_of P q.0) d.before ((p, d.key) ∷ d.behind) d.chain.path).1
    ∙ sym (ap (key_in p) (list_of-placed (lists t) p q.0 q.1 ∙ d.is) ∙ key_in-split p d.before d.key d.behind (front_of d))

-- a process that is in a list isn't its own next
pub placed_differs : {P Q : ℕ} → (t : QueueTable P Q) (p q : ℕ) → p < P → place (lists t) p ≡ Some q → next_at t.entries.items p ≢ p
placed_differs {P} {Q} t p q lt at = λ same.
    let d = placed t p q at in
    let ties = Chain-ties P t.entries.items (head_of P q) d.before (p, d.key) d.behind (tail_of P q) d.chain in
    first_to-differs p d.behind (tail_of P q) (omega arith) (rest_of_placed d) (sym same ∙ ties.1.0)

-- a process that is its own next is nowhere
pub place_none-by_next : {P Q : ℕ} → (t : QueueTable P Q) (p : ℕ) → p < P → next_at t.entries.items p ≡ p → place (lists t) p ≡ None
place_none-by_next t p lt e = elim (option_cases (place (lists t) p)) [ inl n ↦ n | inr s ↦ absurd (placed_differs t p s.0 lt s.1 e) ]

-- a process that isn't its own next is in a list
pub place_some-by_next : {P Q : ℕ} → (t : QueueTable P Q) (p : ℕ) → p < P → next_at t.entries.items p ≢ p → (q : ℕ) × (place (lists t) p ≡ Some q)
place_some-by_next t p lt ne = elim (option_cases (place (lists t) p)) [
  | inl n ↦ absurd (ne ((chained_of t).loose p lt (λ i lti. place-none (lists t) p n i)).0)
  | inr s ↦ s
]
