-- A completion: the first request is served, well or badly (book, chapter 18, `rdsprocess.c`).
use Rattle.std.specs.Prelude.{ℕ, Bool, true, false, List, [], ◌∷◌, slice_set, Option, Some, None, ℤ}
use Rattle.xinu_base.specs.Constants.{OK, SYSERR}
use Rattle.xinu_model.specs.RawDisk.Requests.{Request, RawDisk, block_at}

-- The request that was served, its reply, the bytes that go to its address if its caller lives, and the disk after it.
pub record Served : Type 0 where
  pub request : Request
  pub reply : ℤ
  pub bytes : List ℕ
  pub disk : RawDisk

-- a block is written, or read
abbrev pub transferred : Option (List ℕ) → Request → RawDisk → Served
transferred None r d = record { request = r; reply = OK; bytes = block_at d r.block; disk = d }
transferred (Some bytes) r d =
    record { request = r; reply = OK; bytes = []; disk = record d { blocks = slice_set d.blocks r.block bytes } }

-- a request is served by a disk that has it no longer; a failed completion changes no block, and refuses it
abbrev pub served : Bool → Request → RawDisk → Served
served true r d = transferred r.written r d
served false r d = record { request = r; reply = SYSERR; bytes = []; disk = d }

-- the first of these requests is served, and the others stay
abbrev pub first_served : Bool → List Request → RawDisk → Option Served
first_served good [] d = None
first_served good (r ∷ requests) d = Some (served good r (record d { requests = requests }))

-- A completion, good or failed; nothing if there is no request.
abbrev pub raw_completed : Bool → RawDisk → Option Served
raw_completed good d = first_served good d.requests d

-- the disk after it
abbrev pub after_completion : Option Served → RawDisk → RawDisk
after_completion None d = d
after_completion (Some s) d = s.disk
