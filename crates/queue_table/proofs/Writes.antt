-- What an edit of the entries leaves, entry by entry.
use Rattle.std.proofs.Common.{◌≡◌, ◌≢◌, ℕ, ◌<◌, List, length, set, get_or, sym, ap, ◌∙◌, subst, inl, inr, arith}
use Rattle.std.proofs.lemmas.List.{get_or-set_same, get_or-set_other, length-set, get_or_read}
use Rattle.std.proofs.lemmas.Bool.{cases_eq}
use Rattle.queue_table.specs.declared.links.Links.{Links}
use Rattle.queue_table.specs.Entries.{blank, key_at, next_at, prev_at}
use Rattle.queue_table.specs.Writes.{rewired, set_next, set_prev}

-- what is read of entries es' that are es with next a at entry x, previous b at entry y, and r at entry p
pub record Rewired (es : List Links) (es' : List Links) (x : ℕ) (a : ℕ) (y : ℕ) (b : ℕ) (p : ℕ) (r : Links) : Type 0 where
  pub size : length es' ≡ length es
  pub next_p : next_at es' p ≡ r.next
  pub next_x : x ≢ p → next_at es' x ≡ a
  pub next_other : (n : ℕ) → n ≢ p → n ≢ x → next_at es' n ≡ next_at es n
  pub prev_p : prev_at es' p ≡ r.prev
  pub prev_y : y ≢ p → prev_at es' y ≡ b
  pub prev_other : (n : ℕ) → n ≢ p → n ≢ y → prev_at es' n ≡ prev_at es n
  pub key_p : key_at es' p ≡ r.key
  pub key_other : (n : ℕ) → n ≢ p → key_at es' n ≡ key_at es n

-- the entry that was written is read
same : (es : List Links) (i : ℕ) (r : Links) → i < length es → get_or (set es i r) i blank ≡ r
same es i r lt = get_or-set_same es i r blank lt

-- every other entry is read as before
other : (es : List Links) (i : ℕ) (r : Links) (j : ℕ) → j ≢ i → get_or (set es i r) j blank ≡ get_or es j blank
other es i r j n = get_or-set_other es i j r blank n

-- a write of a previous number leaves the next numbers
pub next-set_prev : (es : List Links) (i n j : ℕ) → i < length es → next_at (set_prev es i n) j ≡ next_at es j
next-set_prev es i n j lt = elim (cases_eq j i) [
  | inl e ↦ (let F : ℕ → Type 0 = λ j. next_at (set_prev es i n) j ≡ next_at es j in subst F (sym e) (ap (λ (r : Links). r.next) (same es i _ lt)))
  | inr e ↦ ap (λ (r : Links). r.next) (other es i _ j e)
]

-- a write of a next number leaves the previous numbers
pub prev-set_next : (es : List Links) (i n j : ℕ) → i < length es → prev_at (set_next es i n) j ≡ prev_at es j
prev-set_next es i n j lt = elim (cases_eq j i) [
  | inl e ↦ (let F : ℕ → Type 0 = λ j. prev_at (set_next es i n) j ≡ prev_at es j in subst F (sym e) (ap (λ (r : Links). r.prev) (same es i _ lt)))
  | inr e ↦ ap (λ (r : Links). r.prev) (other es i _ j e)
]

-- a write of a previous number leaves the keys
pub key-set_prev : (es : List Links) (i n j : ℕ) → i < length es → key_at (set_prev es i n) j ≡ key_at es j
key-set_prev es i n j lt = elim (cases_eq j i) [
  | inl e ↦ (let F : ℕ → Type 0 = λ j. key_at (set_prev es i n) j ≡ key_at es j in subst F (sym e) (ap (λ (r : Links). r.key) (same es i _ lt)))
  | inr e ↦ ap (λ (r : Links). r.key) (other es i _ j e)
]

-- a write of a next number leaves the keys
pub key-set_next : (es : List Links) (i n j : ℕ) → i < length es → key_at (set_next es i n) j ≡ key_at es j
key-set_next es i n j lt = elim (cases_eq j i) [
  | inl e ↦ (let F : ℕ → Type 0 = λ j. key_at (set_next es i n) j ≡ key_at es j in subst F (sym e) (ap (λ (r : Links). r.key) (same es i _ lt)))
  | inr e ↦ ap (λ (r : Links). r.key) (other es i _ j e)
]

-- the three writes, read entry by entry
pub rewired-is : (es : List Links) (x a y b p : ℕ) (r : Links) → x < length es → y < length es → p < length es → Rewired es (rewired es x a y b p r) x a y b p r
unfolding rewired
rewired-is es x a y b p r lx ly lp =
    let one : List Links = set_next es x a in
    let two : List Links = set_prev one y b in
    let l1 : length one ≡ length es = length-set es x _ in
    let l2 : length two ≡ length one = length-set one y _ in
    let ly' : y < length one = omega arith in
    let lp' : p < length two = omega arith in
    record {
      size = length-set two p r ∙ l2 ∙ l1;
      next_p = ap (λ (r : Links). r.next) (same two p r lp');
      next_x = λ n. ap (λ (r : Links). r.next) (other two p r x n) ∙ next-set_prev one y b x ly' ∙ ap (λ (r : Links). r.next) (same es x _ lx);
      next_other = λ n np nx. ap (λ (r : Links). r.next) (other two p r n np) ∙ next-set_prev one y b n ly' ∙ ap (λ (r : Links). r.next) (other es x _ n nx);
      prev_p = ap (λ (r : Links). r.prev) (same two p r lp');
      prev_y = λ n. ap (λ (r : Links). r.prev) (other two p r y n) ∙ ap (λ (r : Links). r.prev) (same one y _ ly');
      prev_other = λ n np ny. ap (λ (r : Links). r.prev) (other two p r n np) ∙ ap (λ (r : Links). r.prev) (other one y _ n ny) ∙ prev-set_next es x a n lx;
      key_p = ap (λ (r : Links). r.key) (same two p r lp');
      key_other = λ n np. ap (λ (r : Links). r.key) (other two p r n np) ∙ key-set_prev one y b n ly' ∙ key-set_next es x a n lx;
    }

-- the three writes, as code makes them
pub rewired-written : (es : List Links) (x a y b p : ℕ) (r r1 r2 : Links) → x < length es → y < length es
    → r1 ≡ get_or es x r1
    → r2 ≡ get_or (set es x (record { next = a; prev = r1.prev; key = r1.key })) y r2
    → set (set (set es x (record { next = a; prev = r1.prev; key = r1.key })) y (record { next = r2.next; prev = b; key = r2.key })) p r ≡ rewired es x a y b p r
unfolding rewired
rewired-written es x a y b p r r1 r2 lx ly e1 e2 =
    let one : List Links = set es x (record { next = a; prev = r1.prev; key = r1.key }) in
    let a1 : r1 ≡ get_or es x blank = get_or_read es x r1 lx e1 blank in
    let n1 : one ≡ set_next es x a = ap (λ (r : Links). set es x (record { next = a; prev = r.prev; key = r.key })) a1 in
    let lo : y < length one = omega (arith, length-set es x (record { next = a; prev = r1.prev; key = r1.key })) in
    let a2 : r2 ≡ get_or one y blank = get_or_read one y r2 lo e2 blank in
    let n2 : set one y (record { next = r2.next; prev = b; key = r2.key }) ≡ set_prev one y b = ap (λ (r : Links). set one y (record { next = r.next; prev = b; key = r.key })) a2 in
    ap (λ l. set l p r) (n2 ∙ ap (λ l. set_prev l y b) n1)
