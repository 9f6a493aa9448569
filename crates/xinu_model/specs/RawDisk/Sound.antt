-- What always holds of the raw disk by itself.
use Rattle.std.specs.Prelude.{◌≡◌, ℕ, ◌+◌, ◌<◌, ◌≤◌, List, length, Option, Some, None}
use Rattle.std.specs.List.{AllByRecursion}
use Rattle.xinu_model.specs.Memory.{ram_size}
use Rattle.xinu_model.specs.RawDisk.Callers.{HaveCallers}
use Rattle.xinu_model.specs.RawDisk.Constants.{RD_BLKSIZ}
use Rattle.xinu_model.specs.RawDisk.Requests.{Request, RawDisk}

-- the bytes of a write are those of a block
abbrev pub IsWritten : Option (List ℕ) → Type 0
IsWritten None = Unit {0}
IsWritten (Some bytes) = length bytes ≡ RD_BLKSIZ

-- A request is for a block that there is, and the bytes at its address are in RAM.
pub record IsRequest (blocks : ℕ) (r : Request) : Type 0 where
  pub block : r.block < blocks
  pub range : r.at + RD_BLKSIZ ≤ ram_size
  pub written : IsWritten r.written

-- Each block is whole, and each request can be served; only the first may have no caller.
pub record IsSoundRawDisk (d : RawDisk) : Type 0 where
  pub blocks : AllByRecursion (λ (b : List ℕ). length b ≡ RD_BLKSIZ) d.blocks
  pub requests : AllByRecursion (IsRequest (length d.blocks)) d.requests
  pub callers : HaveCallers (λ (r : Request). r.caller) d.requests
