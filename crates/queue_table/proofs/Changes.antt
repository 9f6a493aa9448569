-- What linking a process in, or out, makes of all lists of a table.
use Rattle.std.proofs.Common.{◌≡◌, ◌≢◌, ℕ, ◌<◌, ◌≤◌, true, false, cond, List, [], ◌∷◌, ◌++◌, length, refl, sym, ap, ◌∙◌, subst, inl, inr, ◌⊎◌, arith}
use Rattle.std.proofs.lemmas.List.{get_or-set_same, get_or-set_other, length-set}
use Rattle.std.proofs.lemmas.Bool.{cases_eq}
use Rattle.queue_table.specs.declared.links.Links.{Links}
use Rattle.queue_table.specs.Lists.{Entry, is_listed, list_at, with_list}
use Rattle.queue_table.specs.Entries.{Chain, Chained, Path, Tied, first_to, head_of, last_from, next_at, prev_at, tail_of}
use Rattle.queue_table.proofs.Insertions.{is_listed-append}
use Rattle.queue_table.proofs.Paths.{Path-front, Path-rest, is_listed-cons}
use Rattle.queue_table.proofs.Writes.{Rewired}
use Rattle.queue_table.proofs.Chains.{Chain-cut, Chain-kept_in, Chain-kept_out, Chain-put, Chain-tie, Chain-ties, alone_apart, is_listed-above, is_listed-head, is_listed-left, is_listed-right, is_listed-tail, last_from-differs}

-- the neighbours of a place
pub last_from-cases : (P : ℕ) (es : List Links) (h : ℕ) (pre : List Entry) → Path P es h pre → (last_from h pre ≡ h) ⊎ (last_from h pre < P)
last_from-cases P es h [] p = inl refl
last_from-cases P es h (e ∷ l) p = elim (last_from-cases P es e.0 l p.3) [ inl s ↦ inr (omega (arith, s, p.2)) | inr lt ↦ inr lt ]

-- after a place of a list comes its tail or a process
pub first_to-cases : (P : ℕ) (es : List Links) (a : ℕ) (post : List Entry) (t : ℕ) → Path P es a post → (first_to post t ≡ t) ⊎ (first_to post t < P)
first_to-cases P es a [] t p = inl refl
first_to-cases P es a (e ∷ l) t p = inr p.2

-- the list of the queue whose list was changed is the new one
pub list_at-same : (ls : List (List Entry)) (q : ℕ) (l : List Entry) → q < length ls → list_at (with_list ls q l) q ≡ l
list_at-same ls q l lt = get_or-set_same ls q l [] lt

-- the list of every other queue is the old one
pub list_at-other : (ls : List (List Entry)) (q : ℕ) (l : List Entry) (r : ℕ) → r ≢ q → list_at (with_list ls q l) r ≡ list_at ls r
list_at-other ls q l r n = get_or-set_other ls q r l [] n

-- what comes after a place of one list is in no path from another head
pub first_to-apart : (P : ℕ) (es : List Links) (h : ℕ) (pre post : List Entry) (t : ℕ) → P ≤ h → P ≤ t → Chain P es h (pre ++ post) t
    → (h' : ℕ) (l : List Entry) → P ≤ h' → Path P es h' l → h ≢ h' → is_listed (first_to post t) l ≡ false
first_to-apart P es h pre [] t le lt' c h' l le' p n = is_listed-above P es h' l t p lt'
first_to-apart P es h pre (f ∷ post) t le lt' c h' l le' p n = alone_apart P es h pre f post le c.path h' l le' p n

-- an entry from P on, other than this tail, isn't after a place of this tail's list
pub not_near : (P n m t : ℕ) → P ≤ n → n ≢ t → (m ≡ t) ⊎ (m < P) → n ≢ m
not_near P n m t le d o = elim o [ inl s ↦ (λ e. d (e ∙ s)) | inr lt ↦ (λ e. omega (arith, e, lt)) ]

-- a process that isn't in a list and isn't its tail isn't the first up to the tail
pub first_to-differs : (x : ℕ) (l : List Entry) (t : ℕ) → x ≢ t → is_listed x l ≡ false → x ≢ first_to l t
first_to-differs x [] t n h = n
first_to-differs x (e ∷ l) t n h = is_listed-head x e l h

-- a process that is in neither of two lists isn't in them put together
pub is_listed-both : (x : ℕ) (l m : List Entry) → is_listed x l ≡ false → is_listed x m ≡ false → is_listed x (l ++ m) ≡ false
is_listed-both x l m a b = is_listed-append x l m ∙ ap (λ c. cond c true (is_listed x m)) a ∙ b

-- p, which is in no list, is linked in at a place of queue q's list, and no other list changes
pub Chained-put : (P Q : ℕ) (es es' : List Links) (ls : List (List Entry)) (q : ℕ) (pre post : List Entry) (p : ℕ) (r : Links)
    → Chained P Q es ls → q < Q → list_at ls q ≡ pre ++ post → p < P → ((i : ℕ) → i < Q → is_listed p (list_at ls i) ≡ false)
    → Rewired es es' (last_from (head_of P q) pre) p (first_to post (tail_of P q)) p p r → r.next ≡ first_to post (tail_of P q) → r.prev ≡ last_from (head_of P q) pre
    → Chained P Q es' (with_list ls q (pre ++ (p, r.key) ∷ post))
Chained-put P Q es es' ls q pre post p r k lt is below fresh w rn rp =
    let h : ℕ = head_of P q in
    let t : ℕ = tail_of P q in
    let new : List Entry = pre ++ (p, r.key) ∷ post in
    let ltq : q < length ls = omega (arith, k.queues) in
    let C : List Entry → Type 0 = λ l. Chain P es h l t in
    let c : Chain P es h (pre ++ post) t = subst C is (k.chains q lt) in
    let tie : Tied es (last_from h pre) (first_to post t) = Chain-tie P es h pre post t c in
    let xs : (last_from h pre ≡ h) ⊎ (last_from h pre < P) = last_from-cases P es h pre (Path-front P es h pre post c.path) in
    let ys : (first_to post t ≡ t) ⊎ (first_to post t < P) = first_to-cases P es (last_from h pre) post t (Path-rest P es h pre post c.path) in
    let fq : is_listed p (pre ++ post) ≡ false = (let F : List Entry → Type 0 = λ l. is_listed p l ≡ false in subst F is (fresh q lt)) in
    let same : list_at (with_list ls q new) q ≡ new = list_at-same ls q new ltq in
    record {
      size = w.size ∙ k.size;
      queues = length-set ls q new ∙ k.queues;
      chains = λ i lti. elim (cases_eq i q) [
        | inl s ↦ (let F : ℕ → Type 0 = λ i. Chain P es' (head_of P i) (list_at (with_list ls q new) i) (tail_of P i) in
            let G : List Entry → Type 0 = λ l. Chain P es' h l t in
            subst F (sym s) (subst G (sym same) (Chain-put P es es' h pre post t p r w rn rp (omega arith) (omega arith) below fq c)))
        | inr n ↦ (let G : List Entry → Type 0 = λ l. Chain P es' (head_of P i) l (tail_of P i) in
            subst G (sym (list_at-other ls q new i n))
            (Chain-kept_in P es es' (last_from h pre) (first_to post t) p r w tie (head_of P i) (list_at ls i) (tail_of P i)
            (omega arith) (fresh i lti)
            (first_to-apart P es h pre post t (omega arith) (omega arith) c (head_of P i) (list_at ls i) (omega arith) (k.chains i lti).path (omega arith))
            (omega arith) (not_near P (tail_of P i) (first_to post t) t (omega arith) (omega arith) ys) (k.chains i lti)))
      ];
      ends = λ i lti. record {
        head_prev = w.prev_other (head_of P i) (omega arith) (not_near P (head_of P i) (first_to post t) t (omega arith) (omega arith) ys) ∙ (k.ends i lti).head_prev;
        head_key = w.key_other (head_of P i) (omega arith) ∙ (k.ends i lti).head_key;
        tail_next = w.next_other (tail_of P i) (omega arith) (not_near P (tail_of P i) (last_from h pre) h (omega arith) (omega arith) xs) ∙ (k.ends i lti).tail_next;
        tail_key = w.key_other (tail_of P i) (omega arith) ∙ (k.ends i lti).tail_key;
      };
      loose = λ m ltm out.
          let G : List Entry → Type 0 = λ l. is_listed m l ≡ false in
          let here : is_listed m new ≡ false = subst G same (out q lt) in
          let a : is_listed m pre ≡ false = is_listed-left m pre ((p, r.key) ∷ post) here in
          let b : is_listed m ((p, r.key) ∷ post) ≡ false = is_listed-right m pre ((p, r.key) ∷ post) here in
          let b' : is_listed m post ≡ false = is_listed-tail m (p, r.key) post b in
          let np : m ≢ p = is_listed-head m (p, r.key) post b in
          let old : (next_at es m ≡ m) × (prev_at es m ≡ m) = k.loose m ltm (λ i lti. elim (cases_eq i q) [
            | inl s ↦ (let H : ℕ → Type 0 = λ i. is_listed m (list_at ls i) ≡ false in subst H (sym s) (subst G (sym is) (is_listed-both m pre post a b')))
            | inr n ↦ subst G (list_at-other ls q new i n) (out i lti)
          ]) in
          let nx : m ≢ last_from h pre = λ s. last_from-differs h m pre (omega arith) a (sym s) in
          let ny : m ≢ first_to post t = first_to-differs m post t (omega arith) b' in
          (w.next_other m np nx ∙ old.0, w.prev_other m np ny ∙ old.1);
    }

-- an entry of queue q's list is taken out, and no other list changes
pub Chained-cut : (P Q : ℕ) (es es' : List Links) (ls : List (List Entry)) (q : ℕ) (pre : List Entry) (f : Entry) (post : List Entry) (r : Links)
    → Chained P Q es ls → q < Q → list_at ls q ≡ pre ++ f ∷ post
    → Rewired es es' (last_from (head_of P q) pre) (first_to post (tail_of P q)) (first_to post (tail_of P q)) (last_from (head_of P q) pre) f.0 r → r.next ≡ f.0 → r.prev ≡ f.0
    → Chained P Q es' (with_list ls q (pre ++ post))
Chained-cut P Q es es' ls q pre f post r k lt is w rn rp =
    let h : ℕ = head_of P q in
    let t : ℕ = tail_of P q in
    let new : List Entry = pre ++ post in
    let ltq : q < length ls = omega (arith, k.queues) in
    let C : List Entry → Type 0 = λ l. Chain P es h l t in
    let c : Chain P es h (pre ++ f ∷ post) t = subst C is (k.chains q lt) in
    let ties : Tied es (last_from h pre) f.0 × Tied es f.0 (first_to post t) = Chain-ties P es h pre f post t c in
    let rest : Path P es (last_from h pre) (f ∷ post) = Path-rest P es h pre (f ∷ post) c.path in
    let xs : (last_from h pre ≡ h) ⊎ (last_from h pre < P) = last_from-cases P es h pre (Path-front P es h pre (f ∷ post) c.path) in
    let ys : (first_to post t ≡ t) ⊎ (first_to post t < P) = first_to-cases P es f.0 post t rest.3 in
    let below : f.0 < P = rest.2 in
    let same : list_at (with_list ls q new) q ≡ new = list_at-same ls q new ltq in
    record {
      size = w.size ∙ k.size;
      queues = length-set ls q new ∙ k.queues;
      chains = λ i lti. elim (cases_eq i q) [
        | inl s ↦ (let F : ℕ → Type 0 = λ i. Chain P es' (head_of P i) (list_at (with_list ls q new) i) (tail_of P i) in
            let G : List Entry → Type 0 = λ l. Chain P es' h l t in
            subst F (sym s) (subst G (sym same) (Chain-cut P es es' h pre f post t r w (omega arith) (omega arith) c)))
        | inr n ↦ (let G : List Entry → Type 0 = λ l. Chain P es' (head_of P i) l (tail_of P i) in
            subst G (sym (list_at-other ls q new i n))
            (Chain-kept_out P es es' (last_from h pre) (first_to post t) f.0 r w ties.0.0 ties.1.1 (head_of P i) (list_at ls i) (tail_of P i)
            (omega arith) (alone_apart P es h pre f post (omega arith) c.path (head_of P i) (list_at ls i) (omega arith) (k.chains i lti).path (omega arith))
            (omega arith) (k.chains i lti)))
      ];
      ends = λ i lti. record {
        head_prev = w.prev_other (head_of P i) (omega arith) (not_near P (head_of P i) (first_to post t) t (omega arith) (omega arith) ys) ∙ (k.ends i lti).head_prev;
        head_key = w.key_other (head_of P i) (omega arith) ∙ (k.ends i lti).head_key;
        tail_next = w.next_other (tail_of P i) (omega arith) (not_near P (tail_of P i) (last_from h pre) h (omega arith) (omega arith) xs) ∙ (k.ends i lti).tail_next;
        tail_key = w.key_other (tail_of P i) (omega arith) ∙ (k.ends i lti).tail_key;
      };
      loose = λ m ltm out. elim (cases_eq m f.0) [
        | inl s ↦ (let F : ℕ → Type 0 = λ n. (next_at es' n ≡ n) × (prev_at es' n ≡ n) in subst F (sym s) (w.next_p ∙ rn, w.prev_p ∙ rp))
        | inr np ↦ (
            let G : List Entry → Type 0 = λ l. is_listed m l ≡ false in
            let here : is_listed m new ≡ false = subst G same (out q lt) in
            let a : is_listed m pre ≡ false = is_listed-left m pre post here in
            let b : is_listed m post ≡ false = is_listed-right m pre post here in
            let old : (next_at es m ≡ m) × (prev_at es m ≡ m) = k.loose m ltm (λ i lti. elim (cases_eq i q) [
              | inl s ↦ (let H : ℕ → Type 0 = λ i. is_listed m (list_at ls i) ≡ false in subst H (sym s) (subst G (sym is) (is_listed-both m pre (f ∷ post) a (is_listed-cons m f post np b))))
              | inr n ↦ subst G (list_at-other ls q new i n) (out i lti)
            ]) in
            let nx : m ≢ last_from h pre = λ s. last_from-differs h m pre (omega arith) a (sym s) in
            let ny : m ≢ first_to post t = first_to-differs m post t (omega arith) b in
            (w.next_other m np nx ∙ old.0, w.prev_other m np ny ∙ old.1))
      ];
    }
