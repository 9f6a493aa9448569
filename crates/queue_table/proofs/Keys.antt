-- A change of the key of one entry.
use Rattle.std.proofs.Common.{◌≡◌, ◌≢◌, ℕ, ◌<◌, ◌≤◌, ℤ, ◌+ℤ◌, true, false, cond, ltb, List, [], ◌∷◌, ◌++◌, length, get_or, sym, ap, ◌∙◌, subst, inl, inr, arith}
use Rattle.std.proofs.lemmas.List.{get_or-set_same, get_or-set_other, length-set, set-get_or}
use Rattle.std.proofs.lemmas.Bool.{cases_eq}
use Rattle.std.proofs.lemmas.Bool.Decides.{nat_tests}
use Rattle.queue_table.specs.declared.links.Links.{Links}
use Rattle.queue_table.specs.Lists.{Entry, is_listed, list_at, with_list}
use Rattle.queue_table.specs.Entries.{Chain, Chained, Path, Tied, blank, first_to, head_of, key_at, last_from, next_at, prev_at, tail_of}
use Rattle.queue_table.specs.Writes.{set_key, shifted}
use Rattle.queue_table.specs.Walks.{first_raised}
use Rattle.queue_table.proofs.Paths.{Path-append, Path-front, Path-rest, last_from-append}
use Rattle.queue_table.proofs.Chains.{alone_apart, alone_front, alone_rest, is_listed-head, is_listed-left, is_listed-right, is_listed-tail}
use Rattle.queue_table.proofs.Changes.{is_listed-both, list_at-other, list_at-same}

-- es' is es with another key at i
pub record Rekeyed (es : List Links) (es' : List Links) (i : ℕ) (k : ℤ) : Type 0 where
  pub size : length es' ≡ length es
  pub next : (n : ℕ) → next_at es' n ≡ next_at es n
  pub prev : (n : ℕ) → prev_at es' n ≡ prev_at es n
  pub here : key_at es' i ≡ k
  pub other : (n : ℕ) → n ≢ i → key_at es' n ≡ key_at es n

-- a write of a key changes this key and nothing else
pub set_key-is : (es : List Links) (i : ℕ) (k : ℤ) → i < length es → Rekeyed es (set_key es i k) i k
set_key-is es i k lt =
    let same : get_or (set_key es i k) i blank ≡ record { next = next_at es i; prev = prev_at es i; key = k } = get_or-set_same es i _ blank lt in
    record {
      size = length-set es i _;
      next = λ n. elim (cases_eq n i) [ inl e ↦ (let F : ℕ → Type 0 = λ n. next_at (set_key es i k) n ≡ next_at es n in subst F (sym e) (ap (λ (r : Links). r.next) same)) | inr d ↦ ap (λ (r : Links). r.next) (get_or-set_other es i n _ blank d) ];
      prev = λ n. elim (cases_eq n i) [ inl e ↦ (let F : ℕ → Type 0 = λ n. prev_at (set_key es i k) n ≡ prev_at es n in subst F (sym e) (ap (λ (r : Links). r.prev) same)) | inr d ↦ ap (λ (r : Links). r.prev) (get_or-set_other es i n _ blank d) ];
      here = ap (λ (r : Links). r.key) same;
      other = λ n d. ap (λ (r : Links). r.key) (get_or-set_other es i n _ blank d);
    }

-- another key leaves the ties
Tied-rekeyed : (es es' : List Links) (i : ℕ) (k : ℤ) → Rekeyed es es' i k → (a b : ℕ) → Tied es a b → Tied es' a b
Tied-rekeyed es es' i k w a b t = (w.next a ∙ t.0, w.prev b ∙ t.1)

-- another key of an entry leaves a path that doesn't have it
Path-rekeyed : (P : ℕ) (es es' : List Links) (i : ℕ) (k : ℤ) → Rekeyed es es' i k → (a : ℕ) (l : List Entry) → is_listed i l ≡ false → Path P es a l → Path P es' a l
Path-rekeyed P es es' i k w a [] out h = tt
Path-rekeyed P es es' i k w a (e ∷ l) out h =
    (Tied-rekeyed es es' i k w a e.0 h.0, w.other e.0 (λ s. is_listed-head i e l out (sym s)) ∙ h.1, h.2, Path-rekeyed P es es' i k w e.0 l (is_listed-tail i e l out) h.3)

-- another key of an entry leaves a chain that doesn't have it
Chain-rekeyed_other : (P : ℕ) (es es' : List Links) (i : ℕ) (k : ℤ) → Rekeyed es es' i k → (a : ℕ) (l : List Entry) (b : ℕ) → is_listed i l ≡ false → Chain P es a l b → Chain P es' a l b
Chain-rekeyed_other P es es' i k w a l b out c = record { path = Path-rekeyed P es es' i k w a l out c.path; tied = Tied-rekeyed es es' i k w _ _ c.tied }

-- another key of an entry changes its key in the chain that has it
Chain-rekeyed : (P : ℕ) (es es' : List Links) (h : ℕ) (pre : List Entry) (f : Entry) (post : List Entry) (t : ℕ) (k : ℤ) → Rekeyed es es' f.0 k → P ≤ h → Chain P es h (pre ++ f ∷ post) t → Chain P es' h (pre ++ (f.0, k) ∷ post) t
Chain-rekeyed P es es' h pre f post t k w le c =
    let rest : Path P es (last_from h pre) (f ∷ post) = Path-rest P es h pre (f ∷ post) c.path in
    let T : ℕ → Type 0 = λ n. Tied es' n t in
    record {
      path = Path-append P es' h pre ((f.0, k) ∷ post) (Path-rekeyed P es es' f.0 k w h pre (alone_front P es h pre f post le c.path) (Path-front P es h pre (f ∷ post) c.path))
          (Tied-rekeyed es es' f.0 k w _ _ rest.0, w.here, rest.2, Path-rekeyed P es es' f.0 k w f.0 post (alone_rest P es h pre f post le c.path) rest.3);
      tied = (let L : ℕ → Type 0 = λ n. Tied es n t in
          subst T (sym (last_from-append h pre ((f.0, k) ∷ post))) (Tied-rekeyed es es' f.0 k w _ _ (subst L (last_from-append h pre (f ∷ post)) c.tied)));
    }

-- a process is in a list whatever the first key is
in_rekeyed : (m : ℕ) (f : Entry) (k : ℤ) (l : List Entry) → is_listed m ((f.0, k) ∷ l) ≡ false → is_listed m (f ∷ l) ≡ false
in_rekeyed m f k l h = h

-- another key of an entry of queue q's list changes its key there, and no other list
pub Chained-rekeyed : (P Q : ℕ) (es es' : List Links) (ls : List (List Entry)) (q : ℕ) (pre : List Entry) (f : Entry) (post : List Entry) (k : ℤ)
    → Chained P Q es ls → q < Q → list_at ls q ≡ pre ++ f ∷ post → Rekeyed es es' f.0 k → Chained P Q es' (with_list ls q (pre ++ (f.0, k) ∷ post))
Chained-rekeyed P Q es es' ls q pre f post k lk lt is w =
    let h : ℕ = head_of P q in
    let t : ℕ = tail_of P q in
    let new : List Entry = pre ++ (f.0, k) ∷ post in
    let C : List Entry → Type 0 = λ l. Chain P es h l t in
    let c : Chain P es h (pre ++ f ∷ post) t = subst C is (lk.chains q lt) in
    let rest : Path P es (last_from h pre) (f ∷ post) = Path-rest P es h pre (f ∷ post) c.path in
    let same : list_at (with_list ls q new) q ≡ new = list_at-same ls q new (omega (arith, lk.queues)) in
    record {
      size = w.size ∙ lk.size;
      queues = length-set ls q new ∙ lk.queues;
      chains = λ i lti. elim (cases_eq i q) [
        | inl s ↦ (let F : ℕ → Type 0 = λ i. Chain P es' (head_of P i) (list_at (with_list ls q new) i) (tail_of P i) in
            let G : List Entry → Type 0 = λ l. Chain P es' h l t in
            subst F (sym s) (subst G (sym same) (Chain-rekeyed P es es' h pre f post t k w (omega arith) c)))
        | inr n ↦ (let G : List Entry → Type 0 = λ l. Chain P es' (head_of P i) l (tail_of P i) in
            subst G (sym (list_at-other ls q new i n)) (Chain-rekeyed_other P es es' f.0 k w (head_of P i) (list_at ls i) (tail_of P i)
            (alone_apart P es h pre f post (omega arith) c.path (head_of P i) (list_at ls i) (omega arith) (lk.chains i lti).path (omega arith)) (lk.chains i lti)))
      ];
      ends = λ i lti. record {
        head_prev = w.prev (head_of P i) ∙ (lk.ends i lti).head_prev;
        head_key = w.other (head_of P i) (omega (arith, rest.2)) ∙ (lk.ends i lti).head_key;
        tail_next = w.next (tail_of P i) ∙ (lk.ends i lti).tail_next;
        tail_key = w.other (tail_of P i) (omega (arith, rest.2)) ∙ (lk.ends i lti).tail_key;
      };
      loose = λ m ltm out.
          let G : List Entry → Type 0 = λ l. is_listed m l ≡ false in
          let here : is_listed m new ≡ false = subst G same (out q lt) in
          let old : (next_at es m ≡ m) × (prev_at es m ≡ m) = lk.loose m ltm (λ i lti. elim (cases_eq i q) [
            | inl s ↦ (let H : ℕ → Type 0 = λ i. is_listed m (list_at ls i) ≡ false in subst H (sym s) (subst G (sym is)
                (is_listed-both m pre (f ∷ post) (is_listed-left m pre ((f.0, k) ∷ post) here) (in_rekeyed m f k post (is_listed-right m pre ((f.0, k) ∷ post) here)))))
            | inr n ↦ subst G (list_at-other ls q new i n) (out i lti)
          ]) in
          (w.next m ∙ old.0, w.prev m ∙ old.1);
    }

-- the entry after a place gets k more, if it is a process
pub Chained-shifted : (P Q : ℕ) (es : List Links) (ls : List (List Entry)) (q : ℕ) (pre post : List Entry) (n : ℕ) (k : ℤ)
    → Chained P Q es ls → q < Q → list_at ls q ≡ pre ++ post → n ≡ first_to post (tail_of P q) → Chained P Q (shifted es n k P) (with_list ls q (pre ++ first_raised k post))
Chained-shifted P Q es ls q pre [] n k lk lt is e =
    let F : List Links → Type 0 = λ es. Chained P Q es (with_list ls q (pre ++ [])) in
    let L : List (List Entry) → Type 0 = λ ls. Chained P Q es ls in
    let above : ltb n P ≡ false = grind (arith, nat_tests) in
    let off : es ≡ shifted es n k P = sym (ap (λ b. cond b (set_key es n (key_at es n +ℤ k)) es) above) in
    subst F off (subst L (sym (ap (with_list ls q) (sym is) ∙ set-get_or ls q [])) lk)
Chained-shifted P Q es ls q pre (f ∷ post) n k lk lt is e =
    let C : List Entry → Type 0 = λ l. Chain P es (head_of P q) l (tail_of P q) in
    let c : Chain P es (head_of P q) (pre ++ f ∷ post) (tail_of P q) = subst C is (lk.chains q lt) in
    let rest : Path P es (last_from (head_of P q) pre) (f ∷ post) = Path-rest P es (head_of P q) pre (f ∷ post) c.path in
    let below : ltb n P ≡ true = grind (arith, nat_tests, rest.2) in
    let on : set_key es n (key_at es n +ℤ k) ≡ shifted es n k P = sym (ap (λ b. cond b (set_key es n (key_at es n +ℤ k)) es) below) in
    let F : List Links → Type 0 = λ es. Chained P Q es (with_list ls q (pre ++ first_raised k (f ∷ post))) in
    let r : Rekeyed es (set_key es f.0 (key_at es f.0 +ℤ k)) f.0 (key_at es f.0 +ℤ k) = set_key-is es f.0 _ (omega (arith, rest.2, lk.size)) in
    let K : ℤ → Type 0 = λ j. Rekeyed es (set_key es f.0 (key_at es f.0 +ℤ k)) f.0 (j +ℤ k) in
    let N : ℕ → Type 0 = λ n. Chained P Q (set_key es n (key_at es n +ℤ k)) (with_list ls q (pre ++ first_raised k (f ∷ post))) in
    subst F on (subst N (sym e) (Chained-rekeyed P Q es (set_key es f.0 (key_at es f.0 +ℤ k)) ls q pre f post (f.1 +ℤ k) lk lt is (subst K rest.1 r)))
