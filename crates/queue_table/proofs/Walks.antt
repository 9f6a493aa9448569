-- A walk along a queue: what one step finds, the place at which it stops, and what is put in there.
use Rattle.std.proofs.Common.{◌≡◌, ℕ, ◌+◌, ◌*◌, ◌<◌, ◌≤◌, ℤ, ◌<ℤ◌, None, List, [], ◌∷◌, ◌++◌, length, sym, ap, ◌∙◌, subst, append_assoc, refl, inl, inr, arith}
use Rattle.std.proofs.lemmas.List.{length-append}
use Rattle.std.specs.Prelude.{slice_index_or}
use Rattle.xinu_base.specs.Insert.{ready_insert}
use Rattle.queue_table.specs.declared.links.Links.{Links}
use Rattle.queue_table.specs.declared.table.QueueTable.{QueueTable}
use Rattle.queue_table.specs.Lists.{Entry, IsByKey, KeysBelow, list_at, place, with_list}
use Rattle.queue_table.specs.Table.{lists}
use Rattle.queue_table.specs.Entries.{Chain, Chained, Path, Tied, blank, first_to, follow, head_of, key_at, last_from, next_at, prev_at, tail_of}
use Rattle.queue_table.specs.Writes.{put_between}
use Rattle.queue_table.specs.Walks.{GoesBefore}
use Rattle.queue_table.proofs.Orders.{KeysBelow-rest, ready_insert-split}
use Rattle.queue_table.proofs.Paths.{Path-front, Path-rest, Path-short, follow-path, last_from-append}
use Rattle.queue_table.proofs.Chains.{Chain-tie, Chain-ties}
use Rattle.queue_table.proofs.Changes.{first_to-cases, last_from-cases}
use Rattle.queue_table.proofs.Tables.{chained_of, first-nil, put_at}

-- from a place of a list on, its rest is read off
pub follow_rest : (P : ℕ) (es : List Links) (h : ℕ) (pre post : List Entry) (t n : ℕ) → P ≤ h → P ≤ t → Chain P es h (pre ++ post) t → n ≡ first_to post t → follow P P es n ≡ post
follow_rest P es h pre post t n le le' c e =
    let tie : Tied es (last_from h pre) (first_to post t) = Chain-tie P es h pre post t c in
    let n' : n ≡ next_at es (last_from h pre) = e ∙ sym tie.0 in
    let short : length (pre ++ post) ≤ P = Path-short P es h (pre ++ post) le c.path in
    let T : ℕ → Type 0 = λ n. Tied es n t in
    ap (λ n. follow P P es n) n' ∙ follow-path P es (last_from h pre) t P post (omega (arith, length-append pre post, short)) (Path-rest P es h pre post c.path)
    (subst T (last_from-append h pre post) c.tied) le'

-- the chain of a queue whose list falls into two parts
chain_at : {P Q : ℕ} → (t : QueueTable P Q) (q : ℕ) (pre post : List Entry) → q < Q → list_at (lists t) q ≡ pre ++ post → Chain P t.entries.items (head_of P q) (pre ++ post) (tail_of P q)
chain_at {P} {Q} t q pre post lt is =
    let C : List Entry → Type 0 = λ l. Chain P t.entries.items (head_of P q) l (tail_of P q) in subst C is ((chained_of t).chains q lt)

-- one step of a walk along a queue
pub record Stepped (P : ℕ) (es : List Links) (l : List Entry) (pre : List Entry) (post : List Entry) (t : ℕ) (n : ℕ) : Type 0 where
  pub entry : Entry
  pub rest : List Entry
  pub post_is : post ≡ entry ∷ rest
  pub key_is : key_at es n ≡ entry.1
  pub next_is : next_at es n ≡ first_to rest t
  pub list_is : l ≡ (pre ++ entry ∷ []) ++ rest
  pub falls : length (follow P P es (next_at es n)) < length (follow P P es n)

-- a step of a walk to a process goes on to the rest, which is shorter
pub step : {P Q : ℕ} → (t : QueueTable P Q) (q : ℕ) (pre post : List Entry) (n : ℕ) → q < Q → list_at (lists t) q ≡ pre ++ post → n ≡ first_to post (tail_of P q) → n < P
    → Stepped P t.entries.items (list_at (lists t) q) pre post (tail_of P q) n
step {P} {Q} t q pre [] n lt is e ltn = absurd (omega arith)
step {P} {Q} t q pre (f ∷ post) n lt is e ltn =
    let es : List Links = t.entries.items in
    let h : ℕ = head_of P q in
    let c : Chain P es h (pre ++ f ∷ post) (tail_of P q) = chain_at t q pre (f ∷ post) lt is in
    let rest : Path P es (last_from h pre) (f ∷ post) = Path-rest P es h pre (f ∷ post) c.path in
    let ties = Chain-ties P es h pre f post (tail_of P q) c in
    let is' : list_at (lists t) q ≡ (pre ++ f ∷ []) ++ post = is ∙ sym (append_assoc pre (f ∷ []) post) in
    let nx : next_at es n ≡ first_to post (tail_of P q) = ap (next_at es) e ∙ ties.1.0 in
    let here : follow P P es n ≡ f ∷ post = follow_rest P es h pre (f ∷ post) (tail_of P q) n (omega arith) (omega arith) c e in
    let there : follow P P es (next_at es n) ≡ post = follow_rest P es h (pre ++ f ∷ []) post (tail_of P q) (next_at es n) (omega arith) (omega arith) (chain_at t q (pre ++ f ∷ []) post lt is') nx in
    record {
      entry = f;
      rest = post;
      post_is = refl;
      key_is = ap (key_at es) e ∙ rest.1;
      next_is = nx;
      list_is = is';
      falls = omega (arith, ap length here, ap length there);
    }

-- a walk that meets no process has passed the whole list
pub at_tail : {P Q : ℕ} → (t : QueueTable P Q) (q : ℕ) (pre post : List Entry) (n : ℕ) → q < Q → list_at (lists t) q ≡ pre ++ post → n ≡ first_to post (tail_of P q) → P ≤ n → post ≡ []
at_tail {P} {Q} t q pre post n lt is e le =
    first-nil P t.entries.items (last_from (head_of P q) pre) post (tail_of P q) n (Path-rest P t.entries.items (head_of P q) pre post (chain_at t q pre post lt is).path) e le

-- if a walk along a list that is kept by key meets a lower key, the rest has lower keys
pub stop_at_key : {P Q : ℕ} → (t : QueueTable P Q) (q : ℕ) (pre post : List Entry) (n : ℕ) (k : ℤ) → q < Q → list_at (lists t) q ≡ pre ++ post → n ≡ first_to post (tail_of P q) → n < P
    → IsByKey (list_at (lists t) q) → key_at t.entries.items n <ℤ k → KeysBelow k post
stop_at_key t q pre post n k lt is e ltn by below =
    let s = step t q pre post n lt is e ltn in
    let B : List Entry → Type 0 = λ l. IsByKey l in
    let F : List Entry → Type 0 = λ l. KeysBelow k l in
    let L : ℤ → Type 0 = λ j. j <ℤ k in
    subst F (sym s.post_is) (KeysBelow-rest pre s.entry s.rest k (subst B (is ∙ ap (λ l. pre ++ l) s.post_is) by) (subst L s.key_is below))

-- the neighbours of a place
pub place_between : {P Q : ℕ} → (t : QueueTable P Q) (q : ℕ) (pre post : List Entry) (n : ℕ) → q < Q → list_at (lists t) q ≡ pre ++ post → n ≡ first_to post (tail_of P q)
    → (prev_at t.entries.items n ≡ last_from (head_of P q) pre) × (n < P + 2 * Q) × (prev_at t.entries.items n < P + 2 * Q)
place_between {P} {Q} t q pre post n lt is e =
    let es : List Links = t.entries.items in
    let h : ℕ = head_of P q in
    let c = chain_at t q pre post lt is in
    let tie = Chain-tie P es h pre post (tail_of P q) c in
    let ex : prev_at es n ≡ last_from h pre = ap (prev_at es) e ∙ tie.1 in
    let xs = last_from-cases P es h pre (Path-front P es h pre post c.path) in
    let ys = first_to-cases P es (last_from h pre) post (tail_of P q) (Path-rest P es h pre post c.path) in
    (ex, elim ys [ inl s ↦ omega (arith, e, s) | inr s ↦ omega (arith, e, s) ], elim xs [ inl s ↦ omega (arith, ex, s) | inr s ↦ omega (arith, ex, s) ])

-- p goes in by its key at the place at which the walk stopped: k is the key as the code has it, and r the entry that the walk stopped at
pub put_by_key : {P Q : ℕ} → (t : QueueTable P Q) (p q : ℕ) (key k : ℤ) (n : ℕ) (r : Links) (es' : List Links)
    → p < P → q < Q → place (lists t) p ≡ None → GoesBefore (list_at (lists t) q) k (tail_of P q) n → r ≡ slice_index_or t.entries.items n blank → k ≡ key
    → es' ≡ put_between t.entries.items r.prev p n k → Chained P Q es' (with_list (lists t) q (ready_insert p key (list_at (lists t) q)))
put_by_key {P} {Q} t p q key k n r es' ltp ltq absent goes er ek e =
    let ls : List (List Entry) = lists t in
    let b = place_between t q goes.0 goes.1 n ltq goes.2 goes.5 in
    let made : Chained P Q es' (with_list ls q (goes.0 ++ (p, k) ∷ goes.1)) = put_at t p q goes.0 goes.1 k r.prev n es' ltp ltq absent goes.2 (ap (λ (r : Links). r.prev) er ∙ b.0) goes.5 e in
    let L : List (List Entry) → Type 0 = λ ls. Chained P Q es' ls in
    let G : ℤ → Type 0 = λ k. Chained P Q es' (with_list ls q (ready_insert p k (list_at ls q))) in
    subst G ek (subst L (ap (with_list ls q) (sym (ap (ready_insert p k) goes.2 ∙ ready_insert-split goes.0 goes.1 p k goes.3 goes.4))) made)
