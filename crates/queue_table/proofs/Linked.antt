-- Every table is linked: its lists are read from the heads and from the tails, and no process is in two of them.
use Rattle.std.proofs.Common.{◌≡◌, ◌≢◌, ℕ, ◌≤◌, true, false, List, [], ◌∷◌, ◌++◌, refl, sym, ◌∙◌, subst, inl, inr, arith}
use Rattle.std.proofs.lemmas.Bool.{cases_lt, false≢true}
use Rattle.std.proofs.lemmas.List.{get_or_past}
use Rattle.queue_table.specs.declared.links.Links.{Links}
use Rattle.queue_table.specs.declared.table.QueueTable.{QueueTable}
use Rattle.queue_table.specs.Lists.{Entry, is_listed, list_at}
use Rattle.queue_table.specs.Table.{lists}
use Rattle.queue_table.specs.Entries.{Chain, Chained, Linked, head_of, tail_of}
use Rattle.queue_table.proofs.Places.{split_in}
use Rattle.queue_table.proofs.Paths.{Chain-read, Chain-read_back}
use Rattle.queue_table.proofs.Chains.{alone_apart}
use Rattle.queue_table.proofs.Tables.{chained_of}

-- there is nobody in the list of a queue that the table doesn't have
nobody_past : (P Q : ℕ) (es : List Links) (ls : List (List Entry)) → Chained P Q es ls → (q p : ℕ) → Q ≤ q → is_listed p (list_at ls q) ≡ false
nobody_past P Q es ls k q p le =
    let F : List Entry → Type 0 = λ l. is_listed p l ≡ false in subst F (sym (get_or_past ls q [] (omega (arith, k.queues)))) refl

-- a process that is in one of the lists is in no other
pub Chained-apart : (P Q : ℕ) (es : List Links) (ls : List (List Entry)) → Chained P Q es ls → (q r p : ℕ) → q ≢ r → is_listed p (list_at ls q) ≡ true → is_listed p (list_at ls r) ≡ false
Chained-apart P Q es ls k q r p n h = elim (cases_lt q Q) [
  | inl lq ↦ elim (cases_lt r Q) [
    | inl lr ↦ (
        let s = split_in p (list_at ls q) h in
        let C : List Entry → Type 0 = λ l. Chain P es (head_of P q) l (tail_of P q) in
        let c : Chain P es (head_of P q) (s.0 ++ (p, s.1) ∷ s.2) (tail_of P q) = subst C s.3 (k.chains q lq) in
        alone_apart P es (head_of P q) s.0 (p, s.1) s.2 (omega arith) c.path (head_of P r) (list_at ls r) (omega arith) (k.chains r lr).path (omega arith))
    | inr le ↦ nobody_past P Q es ls k r p le
  ]
  | inr le ↦ absurd (false≢true (sym (nobody_past P Q es ls k q p le) ∙ h))
]

-- what is tied both ways is read both ways
pub Chained-linked : (P Q : ℕ) (es : List Links) (ls : List (List Entry)) → Chained P Q es ls → Linked P Q es ls
Chained-linked P Q es ls k = record {
  size = k.size;
  queues = k.queues;
  forward = λ q lt. Chain-read P es (head_of P q) (list_at ls q) (tail_of P q) (omega arith) (omega arith) (k.chains q lt);
  backward = λ q lt. Chain-read_back P es (head_of P q) (list_at ls q) (tail_of P q) (omega arith) (k.chains q lt);
  apart = Chained-apart P Q es ls k;
  ends = k.ends;
  loose = k.loose;
}

-- the entries of every table hold its lists
pub linked_of : {P Q : ℕ} → (t : QueueTable P Q) → Linked P Q t.entries.items (lists t)
linked_of {P} {Q} t = Chained-linked P Q t.entries.items (lists t) (chained_of t)
