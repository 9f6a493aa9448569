-- Messages in nodes, which are linked into a list for each port and one of those that are free.
use Rattle.std.specs.Prelude.{◌≡◌, ℕ, ◌+◌, List, [], ◌∷◌, length, map, drop, slice_index_or, slice_set, Option, Some, None}
use Rattle.queue_table.specs.Lists.{Entry, list_at}

-- the messages of a list of nodes, by the word of each node
abbrev pub contents : List ℕ → List Entry → List ℕ
contents words l = map (λ e. slice_index_or words e.0 0) l

-- the messages of each port, in order; the first list of nodes is that of the free ones
unfoldable pub queues : List ℕ → List (List Entry) → List (List ℕ)
queues words ls = map (contents words) (drop 1 ls)

-- the messages of port q
abbrev pub queue_at : List (List ℕ) → ℕ → List ℕ
queue_at qs q = slice_index_or qs q []

-- port q has these messages
abbrev pub with_queue : ℕ → List ℕ → List (List ℕ) → List (List ℕ)
with_queue q messages qs = slice_set qs q messages

-- the first of these messages, if there is one
abbrev pub first_of : List ℕ → Option ℕ
first_of [] = None
first_of (message ∷ messages) = Some message

-- how many messages all ports hold
abbrev pub total : List (List ℕ) → ℕ
total [] = 0
total (q ∷ qs) = length q + total qs

-- Each of the hundred nodes is free or has a message, and so many have one.
pub record AreNodes (words : List ℕ) (ls : List (List Entry)) (used : ℕ) : Type 0 where
  pub counted : total (queues words ls) ≡ used
  pub free : length (list_at ls 0) + used ≡ 100
