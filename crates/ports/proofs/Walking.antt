-- A walk along the nodes of a queue.
use Rattle.std.proofs.Common.{◌≡◌, ◌≢◌, ◌∙◌, ℕ, suc, ◌+◌, ◌<◌, ℤ, Bool, true, false, cond, List, [], ◌∷◌, ◌++◌, length, get_or, Option, Some, refl, sym, ap, arith, nat_eq}
use Rattle.std.proofs.lemmas.Bool.{eq-eqb, false≢true, ne_eqb}
use Rattle.std.proofs.lemmas.List.{append_assoc, length-append}
use Rattle.queue_table.specs.declared.table.QueueTable.{QueueTable}
use Rattle.queue_table.specs.Lists.{Entry, after_in, first_process, is_listed, list_at, list_of, place, rest_of}
use Rattle.queue_table.specs.Table.{lists}
use Rattle.queue_table.proofs.Laws.{below_P, first_is, linked_of, list_of-placed, some-place}
use Rattle.queue_table.proofs.Tables.{front_of, placed, rest_of_placed}
use Rattle.ports.specs.Nodes.{contents}
use Rattle.ports.proofs.Queues.{contents_last}

-- What a walk has found of a queue, and the node at which it goes on.
pub record IsWalk (words : List ℕ) (l : List Entry) (found : List ℕ) (n : ℕ) (at : Option ℕ) : Type 0 where
  pub before : List Entry
  pub behind : List Entry
  pub all : l ≡ before ++ behind
  pub words_so_far : found ≡ contents words before
  pub many : n ≡ length before
  pub next : at ≡ first_process behind

-- a node in the middle of a list is in it
in_middle : (before : List Entry) (p : ℕ) (k : ℤ) (behind : List Entry) → is_listed p (before ++ (p, k) ∷ behind) ≡ true
in_middle [] p k behind = ap (λ b. cond b true (is_listed p behind)) (eq-eqb p p refl)
in_middle (e ∷ before) p k behind =
    ap (λ x. cond (nat_eq p e.0) true x) (in_middle before p k behind) ∙ either (nat_eq p e.0)
  where
    either : (b : Bool) → cond b true true ≡ true
    either true = refl
    either false = refl

-- a node that isn't in a list isn't its first, and not in the rest
not_first : (p : ℕ) (e : Entry) (l : List Entry) → is_listed p (e ∷ l) ≡ false → (p ≢ e.0) × (is_listed p l ≡ false)
not_first p e l h = go (nat_eq p e.0) refl
  where
    go : (b : Bool) → nat_eq p e.0 ≡ b → (p ≢ e.0) × (is_listed p l ≡ false)
    go true t = absurd (false≢true (sym h ∙ ap (λ b. cond b true (is_listed p l)) t))
    go false t = (λ s. false≢true (sym t ∙ eq-eqb p e.0 s), sym (ap (λ b. cond b true (is_listed p l)) t) ∙ h)

-- what is after a node that is in one place
after_middle : (before : List Entry) (p : ℕ) (k : ℤ) (behind : List Entry) → is_listed p before ≡ false
    → after_in p (before ++ (p, k) ∷ behind) ≡ first_process behind
after_middle [] p k behind h = ap (λ b. cond b (first_process behind) (after_in p behind)) (eq-eqb p p refl)
after_middle (e ∷ before) p k behind h =
    let n = not_first p e before h in
    ap (λ b. cond b (first_process (before ++ (p, k) ∷ behind)) (after_in p (before ++ (p, k) ∷ behind))) (ne_eqb p e.0 n.0)
    ∙ after_middle before p k behind n.1

-- a node that is in one place of a list splits it in one way
one_split : (before c : List Entry) (p : ℕ) (k j : ℤ) (behind d : List Entry) → before ++ (p, k) ∷ behind ≡ c ++ (p, j) ∷ d
    → is_listed p c ≡ false → is_listed p d ≡ false
    → before ≡ c
one_split [] [] p k j behind d e h g = refl
one_split [] (x ∷ c) p k j behind d e h g =
    let s : Some p ≡ Some x.0 = ap first_process e in let n = not_first p x c h in absurd (n.0 (cc s))
one_split (x ∷ before) [] p k j behind d e h g =
    absurd (false≢true (sym g ∙ ap (is_listed p) (sym (ap rest_of e)) ∙ in_middle before p k behind))
one_split (x ∷ before) (y ∷ c) p k j behind d e h g =
    let n = not_first p y c h in
    let s : x ≡ y = cc e in
    ap (λ z. z ∷ before) s ∙ ap (λ r. y ∷ r) (one_split before c p k j behind d (ap rest_of e) n.1 g)

-- where a node of a queue is
pub listed_at : (t : QueueTable 100 31) (p q : ℕ) → is_listed p (list_at (lists t) q) ≡ true → place (lists t) p ≡ Some q
listed_at t p q h = some-place (lists t) p q (λ j lt. (linked_of t).apart q j p (omega (arith, lt)) h) h

-- What is known of the node at which a walk goes on.
pub record IsNext (t : QueueTable 100 31) (q n node : ℕ) : Type 0 where
  pub below : node < 100
  pub placed : place (lists t) node ≡ Some q
  pub fewer : n < length (list_at (lists t) q)

-- it is in the queue
next_listed : (words : List ℕ) (l : List Entry) (found : List ℕ) (n node : ℕ) → IsWalk words l found n (Some node) → is_listed node l ≡ true
next_listed words l found n node w =
    let f = first_is w.behind node w.next in
    ap (is_listed node) (w.all ∙ ap (λ b. w.before ++ b) f.1) ∙ in_middle w.before node f.0 (rest_of w.behind)

-- and after those that were found
pub next_known : (t : QueueTable 100 31) (words : List ℕ) (q : ℕ) (found : List ℕ) (n node : ℕ)
    → IsWalk words (list_at (lists t) q) found n (Some node)
    → IsNext t q n node
next_known t words q found n node w =
    let listed = next_listed words (list_at (lists t) q) found n node w in
    let f = first_is w.behind node w.next in
    let a = ap length (w.all ∙ ap (λ b. w.before ++ b) f.1) in
    let b : length (w.before ++ (node, f.0) ∷ rest_of w.behind) ≡ length w.before + suc (length (rest_of w.behind)) = length-append w.before ((node, f.0) ∷ rest_of w.behind) in
    let m = w.many in
    record { below = below_P t node q listed; placed = listed_at t node q listed; fewer = omega (arith, a, b, m) }

-- the walk goes on
pub walk_goes_on : (t : QueueTable 100 31) (words : List ℕ) (q : ℕ) (found : List ℕ) (n node : ℕ) (next : Option ℕ)
    → IsWalk words (list_at (lists t) q) found n (Some node) → next ≡ after_in node (list_of (lists t) node)
    → IsWalk words (list_at (lists t) q) (found ++ get_or words node 0 ∷ []) (n + 1) next
walk_goes_on t words q found n node next w h =
    let f = first_is w.behind node w.next in
    let at = (next_known t words q found n node w).placed in
    let d = placed t node q at in
    let whole : list_at (lists t) q ≡ w.before ++ (node, f.0) ∷ rest_of w.behind = w.all ∙ ap (λ b. w.before ++ b) f.1 in
    let same = one_split w.before d.before node f.0 d.key (rest_of w.behind) d.behind (sym whole ∙ d.is) (front_of d) (rest_of_placed d) in
    let alone : is_listed node w.before ≡ false = ap (is_listed node) same ∙ front_of d in
    record {
      before = w.before ++ (node, f.0) ∷ [];
      behind = rest_of w.behind;
      all = whole ∙ sym (append_assoc w.before ((node, f.0) ∷ []) (rest_of w.behind));
      words_so_far = ap (λ r. r ++ get_or words node 0 ∷ []) w.words_so_far ∙ sym (contents_last words w.before (node, f.0));
      many = (let m = w.many in let a : length (w.before ++ (node, f.0) ∷ []) ≡ length w.before + 1 = length-append w.before ((node, f.0) ∷ []) in omega (arith, m, a));
      next = h ∙ ap (after_in node) (list_of-placed (lists t) node q at ∙ whole) ∙ after_middle w.before node f.0 (rest_of w.behind) alone;
    }
