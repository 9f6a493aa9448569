-- How an array of linked entries holds lists: the lists are read off it, by the next numbers from each head.
use Rattle.std.specs.Prelude.{◌≡◌, ◌≢◌, ℕ, ◌+◌, ◌*◌, ◌<◌, ℤ, pos, negsuc, nat_lt, true, false, List, [], ◌∷◌, map, length, reverse, cond, slice_index_or, zero, suc}
use Rattle.std.specs.List.{range_with_len}
use Rattle.queue_table.specs.declared.links.Links.{Links}
use Rattle.queue_table.specs.Lists.{Entry, is_listed, list_at}

-- what is read if there is no entry
abbrev pub blank : Links
blank = record { next = 0; prev = 0; key = pos 0 }

-- the number of the entry after entry i
abbrev pub next_at : List Links → ℕ → ℕ
next_at es i = (slice_index_or es i blank).next

-- the number of the entry ahead of entry i
abbrev pub prev_at : List Links → ℕ → ℕ
prev_at es i = (slice_index_or es i blank).prev

-- the key of entry i
abbrev pub key_at : List Links → ℕ → ℤ
key_at es i = (slice_index_or es i blank).key

-- the entry ahead of queue q's list, if P entries are processes
abbrev pub head_of : ℕ → ℕ → ℕ
head_of P q = P + 2 * q

-- the entry after queue q's list
abbrev pub tail_of : ℕ → ℕ → ℕ
tail_of P q = P + 2 * q + 1

-- the processes with their keys from entry i on by the next numbers, up to the first entry that is no process, and at most `fuel` of them
abbrev pub follow : ℕ → ℕ → List Links → ℕ → List Entry
follow zero P es i = []
follow (suc fuel) P es i = cond (nat_lt i P) ((i, key_at es i) ∷ follow fuel P es (next_at es i)) []

-- the same by the previous numbers
abbrev pub follow_back : ℕ → ℕ → List Links → ℕ → List Entry
follow_back zero P es i = []
follow_back (suc fuel) P es i = cond (nat_lt i P) ((i, key_at es i) ∷ follow_back fuel P es (prev_at es i)) []

-- the lists of queues 0 to Q - 1, each followed from its head
unfoldable pub lists_of : ℕ → ℕ → List Links → List (List Entry)
lists_of P Q es = map (λ q. follow P P es (next_at es (head_of P q))) (range_with_len 0 Q)

-- the head h and the tail t are bounds: h has nothing ahead of it and the greatest key, t nothing after it and the least
pub record Ends (es : List Links) (h : ℕ) (t : ℕ) : Type 0 where
  pub head_prev : prev_at es h ≡ h
  pub head_key : key_at es h ≡ pos 2147483647
  pub tail_next : next_at es t ≡ t
  pub tail_key : key_at es t ≡ negsuc 2147483647

-- the entries hold exactly the lists ls of queues 0 to Q - 1: read from each head by the next numbers and from each tail, reversed, by the
-- previous numbers; no process is met in two lists, and one in no list is tied to itself
pub record Linked (P : ℕ) (Q : ℕ) (es : List Links) (ls : List (List Entry)) : Type 0 where
  pub size : length es ≡ P + 2 * Q
  pub queues : length ls ≡ Q
  pub forward : (q : ℕ) → q < Q → follow P P es (next_at es (head_of P q)) ≡ list_at ls q
  pub backward : (q : ℕ) → q < Q → follow_back P P es (prev_at es (tail_of P q)) ≡ reverse (list_at ls q)
  pub apart : (q r p : ℕ) → q ≢ r → is_listed p (list_at ls q) ≡ true → is_listed p (list_at ls r) ≡ false
  pub ends : (q : ℕ) → q < Q → Ends es (head_of P q) (tail_of P q)
  pub loose : (p : ℕ) → p < P → ((q : ℕ) → q < Q → is_listed p (list_at ls q) ≡ false) → (next_at es p ≡ p) × (prev_at es p ≡ p)

-- entry b is right after entry a
abbrev pub Tied : List Links → ℕ → ℕ → Type 0
Tied es a b = (next_at es a ≡ b) × (prev_at es b ≡ a)

-- the last entry of the list, or a, after which it begins, if it is empty
abbrev pub last_from : ℕ → List Entry → ℕ
last_from a [] = a
last_from a (e ∷ l) = last_from e.0 l

-- the first entry of the list, or b, ahead of which it ends, if it is empty
abbrev pub first_to : List Entry → ℕ → ℕ
first_to [] b = b
first_to (e ∷ l) b = e.0

-- after entry a, tied both ways, come the processes of the list with their keys
abbrev pub Path : ℕ → List Links → ℕ → List Entry → Type 0
Path P es a [] = Unit {0}
Path P es a (e ∷ l) = Tied es a e.0 × (key_at es e.0 ≡ e.1) × (e.0 < P) × Path P es e.0 l

-- between entries a and b, tied both ways, are exactly the processes of the list
pub record Chain (P : ℕ) (es : List Links) (a : ℕ) (l : List Entry) (b : ℕ) : Type 0 where
  pub path : Path P es a l
  pub tied : Tied es (last_from a l) b

-- the entries hold the lists ls, tie by tie: what the table keeps, and from which Linked follows
pub record Chained (P : ℕ) (Q : ℕ) (es : List Links) (ls : List (List Entry)) : Type 0 where
  pub size : length es ≡ P + 2 * Q
  pub queues : length ls ≡ Q
  pub chains : (q : ℕ) → q < Q → Chain P es (head_of P q) (list_at ls q) (tail_of P q)
  pub ends : (q : ℕ) → q < Q → Ends es (head_of P q) (tail_of P q)
  pub loose : (p : ℕ) → p < P → ((q : ℕ) → q < Q → is_listed p (list_at ls q) ≡ false) → (next_at es p ≡ p) × (prev_at es p ≡ p)
