-- Where a process stands among those that a disk serves, and for how many completions it waits at most (book, chapters 18 and 19).
use Rattle.std.specs.Prelude.{ℕ, suc, ◌+◌, ◌*◌, ◌-◌, Bool, if◌then◌else◌, List, [], ◌∷◌, Option}
use Rattle.std.specs.List.{list_any}
use Rattle.xinu_model.specs.Files.Room.{data_blocks, data_room, index_room}
use Rattle.xinu_model.specs.Files.Work.{FileRequest, FileWork}
use Rattle.xinu_model.specs.Memory.{ram_size}
use Rattle.xinu_model.specs.RawDisk.Callers.{is_caller}
use Rattle.xinu_model.specs.RawDisk.Requests.{Request, RawDisk}

-- Requests in the order in which they are served, and what of each is its caller.
module _ {A : Type 0} (caller : A → Option ℕ) where
  -- whether one of them is that of process p
  abbrev pub has_one : ℕ → List A → Bool
  has_one p requests = list_any (λ a. is_caller p (caller a)) requests

  -- how many are before it
  abbrev pub before : ℕ → List A → ℕ
  before p [] = 0
  before p (a ∷ rest) = if is_caller p (caller a) then 0 else suc (before p rest)

-- whether p has a call on files under way, and a request of the raw disk
abbrev pub waits_for_files : ℕ → FileWork → Bool
waits_for_files p w = has_one (λ (a : FileRequest). a.caller) p w.calls

abbrev pub waits_for_disk : ℕ → RawDisk → Bool
waits_for_disk p d = has_one (λ (r : Request). r.caller) p d.requests

-- how many calls, and how many requests, are before p's
abbrev pub calls_before : ℕ → FileWork → ℕ
calls_before p w = before (λ (a : FileRequest). a.caller) p w.calls

abbrev pub requests_before : ℕ → RawDisk → ℕ
requests_before p d = before (λ (r : Request). r.caller) p d.requests

-- The bound of every call on files of a disk of this many blocks: the file that a call names or has open has no more data blocks and index blocks
-- than there are on the disk, and its own bytes are no more than RAM has.
abbrev pub most_completions : ℕ → ℕ
most_completions blocks = 32 + 8 * (data_room blocks + index_room blocks + data_blocks ram_size)

-- After how many good completions of the files' disk p's call has taken effect at the latest: the bound for each call up to its own, less those
-- that the first has had.
abbrev pub completions_left : ℕ → FileWork → ℕ
completions_left p w = most_completions w.system.blocks * suc (calls_before p w) - w.turns

-- after how many completions of the raw disk, good or failed, p's request has been served
abbrev pub services_left : ℕ → RawDisk → ℕ
services_left p d = suc (requests_before p d)
