-- Requests of the raw disk, served in the order in which they were made (book, chapter 18, `rdsread.c`, `rdswrite.c`).
use Rattle.std.specs.Prelude.{ℕ, nat_lt, Bool, List, [], ◌∷◌, ◌++◌, length, slice_index_or, Option, None}
use Rattle.xinu_model.specs.RawDisk.Callers as callers

-- A request: who waits for it, unless that was killed; the address of its bytes in RAM; its block; and for a write the bytes, as they were
-- when it was made.
pub record Request : Type 0 where
  pub caller : Option ℕ
  pub at : ℕ
  pub block : ℕ
  pub written : Option (List ℕ)

-- The blocks, and the requests in their order.
pub record RawDisk : Type 0 where
  pub blocks : List (List ℕ)
  pub requests : List Request

-- whether there is a block of this number
abbrev pub has_block : ℕ → RawDisk → Bool
has_block n d = nat_lt n (length d.blocks)

abbrev pub block_at : RawDisk → ℕ → List ℕ
block_at d n = slice_index_or d.blocks n []

-- a request goes after the others
abbrev pub requested : Request → RawDisk → RawDisk
requested r d = record d { requests = d.requests ++ r ∷ [] }

-- a request without its caller
abbrev pub orphaned_request : Request → Request
orphaned_request r = record r { caller = None }

-- the living callers of requests
abbrev pub requesters : List Request → List ℕ
requesters requests = callers.callers (λ (r : Request). r.caller) requests

-- p was killed
abbrev pub requests_given_up : ℕ → RawDisk → RawDisk
requests_given_up p d = record d { requests = callers.given_up (λ (r : Request). r.caller) orphaned_request p d.requests }
