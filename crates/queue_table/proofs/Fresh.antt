-- The entries of a table of empty queues, as far as they are written.
use Rattle.std.proofs.Common.{◌≡◌, ℕ, ◌+◌, ◌*◌, ◌<◌, List, [], length, replicate, sym, subst}
use Rattle.std.proofs.lemmas.List.{get_or-replicate, length-replicate}
use Rattle.queue_table.specs.declared.links.Links.{Links}
use Rattle.queue_table.specs.Lists.{Entry, list_at}
use Rattle.queue_table.specs.Entries.{Chain, Chained, Ends, Tied, head_of, next_at, prev_at, tail_of}

-- the n entries written so far are each tied to themselves
pub record Loose (n : ℕ) (es : List Links) : Type 0 where
  pub size : length es ≡ n
  pub own : (p : ℕ) → p < n → (next_at es p ≡ p) × (prev_at es p ≡ p)

-- the entries of P processes and of n empty queues are written
pub record Empty (P : ℕ) (n : ℕ) (es : List Links) : Type 0 where
  pub size : length es ≡ P + 2 * n
  pub own : (p : ℕ) → p < P → (next_at es p ≡ p) × (prev_at es p ≡ p)
  pub tied : (q : ℕ) → q < n → Tied es (head_of P q) (tail_of P q)
  pub ends : (q : ℕ) → q < n → Ends es (head_of P q) (tail_of P q)

-- the entries of empty queues hold empty lists
pub Chained-fresh : (P Q : ℕ) (es : List Links) → Empty P Q es → Chained P Q es (replicate Q [])
Chained-fresh P Q es m =
    let nil : (q : ℕ) → q < Q → list_at (replicate Q []) q ≡ [] = λ q lt. get_or-replicate Q q [] [] lt in
    record {
      size = m.size;
      queues = length-replicate Q [];
      chains = λ q lt. (let C : List Entry → Type 0 = λ l. Chain P es (head_of P q) l (tail_of P q) in subst C (sym (nil q lt)) (record { path = tt; tied = m.tied q lt }));
      ends = m.ends;
      loose = λ p lt out. m.own p lt;
    }
