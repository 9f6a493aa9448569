-- What the driver's requests and completions stand for.
use Rattle.std.specs.Prelude.{ℕ, ◌≡◌, ◌<◌, true, List, [], ◌∷◌, ◌++◌, Option, Some, None}
use Rattle.std.specs.List.{AllByRecursion}
use Rattle.disk_driver.specs.declared.requests.Request.{Request}
use Rattle.disk_driver.specs.declared.requests.Done.{Done}
use Rattle.xinu_model.specs.RawDisk.Callers.{given_up, others}
use Rattle.xinu_model.specs.Memory.{in_ram}
use Rattle.xinu_model.specs.RawDisk.Completions.{Served}
use Rattle.xinu_model.specs.RawDisk.Constants.{RD_BLKSIZ}
use Rattle.xinu_model.specs.RawDisk.Requests as model
use Rattle.xinu_model.specs.RawDisk.Requests.{RawDisk, orphaned_request}

-- a request
abbrev pub request_of : Request → model.Request
request_of r = record { caller = r.caller; at = r.at; block = r.block; written = r.written }

-- the bytes that were read, none if nothing was
abbrev pub bytes_read : Option (List ℕ) → List ℕ
bytes_read None = []
bytes_read (Some bytes) = bytes

-- what was served, and the disk after it
abbrev pub served_of : Done → RawDisk → Served
served_of done disk = record { request = request_of done.request; reply = done.reply; bytes = bytes_read done.read; disk = disk }

-- a request is for one of so many blocks, and its bytes are in RAM
pub record IsWithin (blocks : ℕ) (r : model.Request) : Type 0 where
  pub block : r.block < blocks
  pub range : in_ram r.at RD_BLKSIZ ≡ true

-- each request is so
abbrev pub AreWithin : ℕ → List model.Request → Type 0
AreWithin blocks requests = AllByRecursion (IsWithin blocks) requests

-- the requests that stay, if p was killed, of these after those that are kept
abbrev pub kept_after : ℕ → List model.Request → List model.Request → List model.Request
kept_after p [] rest = given_up (λ (r : model.Request). r.caller) orphaned_request p rest
kept_after p (k ∷ kept) rest = (k ∷ kept) ++ others (λ (r : model.Request). r.caller) p rest
