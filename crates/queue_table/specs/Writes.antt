-- What the writes of a call leave of the entries.
use Rattle.std.specs.Prelude.{ℕ, ℤ, ◌+ℤ◌, nat_lt, List, cond, slice_set}
use Rattle.queue_table.specs.declared.links.Links.{Links}
use Rattle.queue_table.specs.Entries.{next_at, prev_at, key_at}

-- entry i has another next number
abbrev pub set_next : List Links → ℕ → ℕ → List Links
set_next es i n = slice_set es i (record { next = n; prev = prev_at es i; key = key_at es i })

-- entry i has another previous number
abbrev pub set_prev : List Links → ℕ → ℕ → List Links
set_prev es i n = slice_set es i (record { next = next_at es i; prev = n; key = key_at es i })

-- entry i has another key
abbrev pub set_key : List Links → ℕ → ℤ → List Links
set_key es i k = slice_set es i (record { next = next_at es i; prev = prev_at es i; key = k })

-- entry x has the next number a, entry y the previous number b, and entry p is r
unfoldable pub rewired : List Links → ℕ → ℕ → ℕ → ℕ → ℕ → Links → List Links
rewired es x a y b p r = slice_set (set_prev (set_next es x a) y b) p r

-- entry p is between entries x and y with key k
abbrev pub put_between : List Links → ℕ → ℕ → ℕ → ℤ → List Links
put_between es x p y k = rewired es x p y p p (record { next = y; prev = x; key = k })

-- entry p is taken from between its neighbours, which are tied to each other, and it to itself; no other entry changes
abbrev pub taken_out : List Links → ℕ → List Links
taken_out es p = rewired es (prev_at es p) (next_at es p) (next_at es p) (prev_at es p) p (record { next = p; prev = p; key = key_at es p })

-- the key of entry i, if i is one of the P processes, is more by k; no other entry changes
abbrev pub shifted : List Links → ℕ → ℤ → ℕ → List Links
shifted es i k P = cond (nat_lt i P) (set_key es i (key_at es i +ℤ k)) es
