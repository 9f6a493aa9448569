-- A walk along the lists of one queue in two tables, which stops where they differ.
use Rattle.std.proofs.Common.{◌≡◌, ℕ, ◌<◌, ◌≤◌, ℤ, pos, Bool, true, false, cond, List, [], ◌∷◌, ◌++◌, map, slice_index_or, sym, ap, ◌∙◌, refl, rules}
use Rattle.std.proofs.lemmas.List.{append_cancel_left, map-append}
use Rattle.queue_table.specs.declared.table.QueueTable.{QueueTable}
use Rattle.queue_table.specs.Lists.{Entry, compared, list_at, numbers, rest_of}
use Rattle.queue_table.specs.Table.{lists}
use Rattle.queue_table.specs.Entries.{first_to, key_at, next_at, tail_of}
use Rattle.queue_table.proofs.Walks.{Stepped, at_tail, step}

-- the walk has passed as many of both lists, which agree, and is at the rest of each
pub record AgreeSoFar {P Q : ℕ} (t u : QueueTable P Q) (q : ℕ) (w : Bool) (n : ℕ) : Type 0 where
  pub pre : List Entry
  pub post : List Entry
  pub pre' : List Entry
  pub post' : List Entry
  pub list : list_at (lists t) q ≡ pre ++ post
  pub list' : list_at (lists u) q ≡ pre' ++ post'
  pub passed : compared w pre ≡ compared w pre'
  pub place : n ≡ first_to post (tail_of P q)
  pub place' : n ≡ first_to post' (tail_of P q)

-- where a list begins doesn't depend on its keys
first_to-compared : (w : Bool) (l : List Entry) (t : ℕ) → first_to (compared w l) t ≡ first_to l t
first_to-compared w [] t = refl
first_to-compared w (e ∷ l) t = refl

-- lists that agree go on to the same entry
pub same_first : (w : Bool) (l m : List Entry) (t : ℕ) → compared w l ≡ compared w m → first_to l t ≡ first_to m t
same_first w l m t e = sym (first_to-compared w l t) ∙ ap (λ x. first_to x t) e ∙ first_to-compared w m t

-- what is left of lists that agree, after parts that do
pub left_to_compare : (w : Bool) (pre post pre' post' : List Entry) → compared w pre ≡ compared w pre' → compared w (pre ++ post) ≡ compared w (pre' ++ post')
    → compared w post ≡ compared w post'
left_to_compare w pre post pre' post' e same =
    let f : Entry → Entry = λ e. (e.0, cond w e.1 (pos 0)) in
    append_cancel_left (compared w pre) (compared w post) (compared w post')
    (sym (map-append f pre post) ∙ same ∙ map-append f pre' post' ∙ ap (λ l. l ++ compared w post') (sym e))

-- with the keys a list is compared whole
pub with_keys-whole : (l : List Entry) → compared true l ≡ l
with_keys-whole [] = refl
with_keys-whole (e ∷ l) = ap (λ l. e ∷ l) (with_keys-whole l)

-- without the keys it is compared by its processes
pub numbers-compared : (l : List Entry) → numbers (compared false l) ≡ numbers l
numbers-compared [] = refl
numbers-compared (e ∷ l) = ap (λ l. e.0 ∷ l) (numbers-compared l)

pub compared-numbers : (l : List Entry) → map (λ p. (p, pos 0)) (numbers l) ≡ compared false l
compared-numbers [] = refl
compared-numbers (e ∷ l) = ap (λ l. (e.0, pos 0) ∷ l) (compared-numbers l)

-- the key of an entry as it is compared
same_key : (w : Bool) (i j : ℤ) → (w ≡ true → i ≡ j) → cond w i (pos 0) ≡ cond w j (pos 0)
same_key true i j e = e refl
same_key false i j e = refl

-- the first entries of lists that agree, and the lists after them
first_compared : (w : Bool) (e f : Entry) (l m : List Entry) → compared w (e ∷ l) ≡ compared w (f ∷ m) → (w ≡ true → e.1 ≡ f.1) × (compared w l ≡ compared w m)
first_compared true e f l m same = (λ _. ap (λ (x : List Entry). (slice_index_or x 0 e).1) same, ap rest_of same)
first_compared false e f l m same = (λ b. absurd (search rules), ap rest_of same)

-- what the walk finds in both tables at a process
pub record Both {P Q : ℕ} (t u : QueueTable P Q) (q : ℕ) (w : Bool) (n : ℕ) (a : AgreeSoFar t u q w n) : Type 0 where
  pub here : Stepped P t.entries.items (list_at (lists t) q) a.pre a.post (tail_of P q) n
  pub there : Stepped P u.entries.items (list_at (lists u) q) a.pre' a.post' (tail_of P q) n

pub both : {P Q : ℕ} → (t u : QueueTable P Q) (q : ℕ) (w : Bool) (n : ℕ) → q < Q → (a : AgreeSoFar t u q w n) → n < P → Both t u q w n a
both t u q w n lt a ltn = record {
  here = step t q a.pre a.post n lt a.list a.place ltn;
  there = step u q a.pre' a.post' n lt a.list' a.place' ltn;
}

-- the walk goes on after a process that has the same next entry, and the same key if keys are compared, in both
pub go_on : {P Q : ℕ} → (t u : QueueTable P Q) (q : ℕ) (w : Bool) (n : ℕ) → q < Q → AgreeSoFar t u q w n → n < P
    → (w ≡ true → key_at t.entries.items n ≡ key_at u.entries.items n) → next_at t.entries.items n ≡ next_at u.entries.items n
    → AgreeSoFar t u q w (next_at t.entries.items n)
go_on {P} t u q w n lt a ltn key next =
    let b = both t u q w n lt a ltn in
    let s = b.here in
    let r = b.there in
    let f : Entry → Entry = λ e. (e.0, cond w e.1 (pos 0)) in
    let at : n ≡ s.entry.0 = a.place ∙ ap (λ l. first_to l (tail_of P q)) s.post_is in
    let at' : n ≡ r.entry.0 = a.place' ∙ ap (λ l. first_to l (tail_of P q)) r.post_is in
    let keys : cond w s.entry.1 (pos 0) ≡ cond w r.entry.1 (pos 0) = same_key w s.entry.1 r.entry.1 (λ y. sym s.key_is ∙ key y ∙ r.key_is) in
    let entries : f s.entry ≡ f r.entry = ap (λ p. (p, cond w s.entry.1 (pos 0))) (sym at ∙ at') ∙ ap (λ (k : ℤ). (r.entry.0, k)) keys in
    record {
      pre = a.pre ++ s.entry ∷ [];
      post = s.rest;
      pre' = a.pre' ++ r.entry ∷ [];
      post' = r.rest;
      list = s.list_is;
      list' = r.list_is;
      passed = map-append f a.pre (s.entry ∷ []) ∙ ap (λ l. l ++ f s.entry ∷ []) a.passed ∙ ap (λ (e : Entry). compared w a.pre' ++ e ∷ []) entries
          ∙ sym (map-append f a.pre' (r.entry ∷ []));
      place = s.next_is;
      place' = next ∙ r.next_is;
    }

-- if both lists agree, so do the key, if it is compared, and the next entry of a process that the walk is at
pub same_here : {P Q : ℕ} → (t u : QueueTable P Q) (q : ℕ) (w : Bool) (n : ℕ) → q < Q → AgreeSoFar t u q w n → n < P
    → compared w (list_at (lists t) q) ≡ compared w (list_at (lists u) q)
    → (w ≡ true → key_at t.entries.items n ≡ key_at u.entries.items n) × (next_at t.entries.items n ≡ next_at u.entries.items n)
same_here {P} t u q w n lt a ltn same =
    let b = both t u q w n lt a ltn in
    let s = b.here in
    let r = b.there in
    let left : compared w a.post ≡ compared w a.post' =
    left_to_compare w a.pre a.post a.pre' a.post' a.passed (ap (compared w) (sym a.list) ∙ same ∙ ap (compared w) a.list') in
    let firsts = first_compared w s.entry r.entry s.rest r.rest (ap (compared w) (sym s.post_is) ∙ left ∙ ap (compared w) r.post_is) in
    (λ y. s.key_is ∙ firsts.0 y ∙ sym r.key_is, s.next_is ∙ same_first w s.rest r.rest (tail_of P q) firsts.1 ∙ sym r.next_is)

-- lists whose walks meet no process at the end agree
pub agree : {P Q : ℕ} → (t u : QueueTable P Q) (q : ℕ) (w : Bool) (n : ℕ) → q < Q → AgreeSoFar t u q w n → P ≤ n
    → compared w (list_at (lists t) q) ≡ compared w (list_at (lists u) q)
agree t u q w n lt a le =
    let f : Entry → Entry = λ e. (e.0, cond w e.1 (pos 0)) in
    let end : a.post ≡ [] = at_tail t q a.pre a.post n lt a.list a.place le in
    let end' : a.post' ≡ [] = at_tail u q a.pre' a.post' n lt a.list' a.place' le in
    ap (compared w) a.list ∙ map-append f a.pre a.post ∙ ap (λ l. l ++ compared w a.post) a.passed ∙ ap (λ l. compared w a.pre' ++ compared w l) (end ∙ sym end')
    ∙ sym (map-append f a.pre' a.post') ∙ ap (compared w) (sym a.list')
