-- Raw disks and their requests.
use Rattle.std.specs.Prelude.{ℕ, List, [], replicate, Some, None}
use Rattle.xinu_model.specs.RawDisk.Requests.{Request, RawDisk}

-- a block of equal bytes
abbrev pub block_of : ℕ → List ℕ
block_of b = replicate 512 b

-- a disk of 64 blocks of zeros
abbrev pub blank_disk : RawDisk
blank_disk = record { blocks = replicate 64 (block_of 0); requests = [] }

-- process 1 asks for a block, with bytes for it or none
abbrev pub write_request : ℕ → List ℕ → Request
write_request n bytes = record { caller = Some 1; at = 2048; block = n; written = Some bytes }

abbrev pub read_request : ℕ → Request
read_request n = record { caller = Some 1; at = 1024; block = n; written = None }
