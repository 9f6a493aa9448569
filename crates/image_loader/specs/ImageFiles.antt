-- Image files: the tests of a file in their order, the first that fails, and what a file loads.
use Rattle.std.specs.Prelude.{ℕ, ◌+◌, ◌%◌, ◌==◌, nat_le, Bool, if◌then◌else◌, ◌&&◌, List, [], ◌∷◌, length, drop, Option, Some, None, pos, codes}
use Rattle.image_loader.specs.declared.faults.ImageFault.{ImageFault}
use Rattle.image_loader.specs.declared.faults.ImageFault.TheVariants.{Short, Magic, Version, Length, Place, Entry, Priority}
use Rattle.image_loader.specs.declared.header.Header.{Header}
use Rattle.xinu_model.specs.Boot.{Loaded}
use Rattle.xinu_model.specs.Memory.{ram_size, number_at}

-- the fields of the header with which the bytes begin
abbrev pub header_of : List ℕ → Header
header_of bytes = record {
  magic = number_at bytes 0 4;
  version = number_at bytes 4 4;
  place = number_at bytes 8 4;
  length = number_at bytes 12 4;
  entry = number_at bytes 16 4;
  priority = number_at bytes 20 4;
  stack = number_at bytes 24 4;
}

-- There are the bytes of a header.
abbrev pub has_header : List ℕ → Bool
has_header bytes = nat_le 28 (length bytes)

-- The first word is the letters `XIMG`.
abbrev pub has_magic : Header → Bool
has_magic h = h.magic == number_at (codes "XIMG") 0 4

-- The version is the one that there is.
abbrev pub has_version : Header → Bool
has_version h = h.version == 1

-- A file of n bytes is the header and a content of the length that it gives.
abbrev pub has_length : Header → ℕ → Bool
has_length h size = size == 28 + h.length

-- The content lies in RAM from a multiple of 4 on.
abbrev pub is_placed : Header → Bool
is_placed h = (h.place % 4 == 0) && nat_le (h.place + h.length) ram_size

-- The entry is the address of a word of the content.
abbrev pub has_entry : Header → Bool
has_entry h = (h.entry % 4 == 0) && (nat_le h.place h.entry && nat_le (h.entry + 4) (h.place + h.length))

-- The priority is one that a process can have.
abbrev pub has_priority : Header → Bool
has_priority h = nat_le 1 h.priority && nat_le h.priority 32767

-- the tests of a header in a file of n bytes, each beside the fault if it fails
abbrev pub header_tests : Header → ℕ → List (ImageFault × Bool)
header_tests h size =
    (Magic, has_magic h)
    ∷ (Version, has_version h)
    ∷ (Length, has_length h size)
    ∷ (Place, is_placed h)
    ∷ (Entry, has_entry h)
    ∷ (Priority, has_priority h)
    ∷ []

-- the tests of a file
abbrev pub tests : List ℕ → List (ImageFault × Bool)
tests bytes = (Short, has_header bytes) ∷ header_tests (header_of bytes) (length bytes)

-- the fault of the first test that fails
abbrev pub first_failed : List (ImageFault × Bool) → Option ImageFault
first_failed [] = None
first_failed (test ∷ rest) = if test.1 then first_failed rest else Some test.0

-- the fault of a file; None if it is an image file
abbrev pub first_fault : List ℕ → Option ImageFault
first_fault bytes = first_failed (tests bytes)

-- what a header and the content after it load
abbrev pub image_of : Header → List ℕ → Loaded
image_of h content = record {
  parts = (record { place = h.place; bytes = content; size = h.length }) ∷ [];
  entry = h.entry;
  priority = pos h.priority;
  stack = h.stack;
}

-- what is loaded if there is no fault
abbrev pub loaded_unless : Option ImageFault → Loaded → Option Loaded
loaded_unless None image = Some image
loaded_unless (Some fault) image = None

-- what a file loads; None if it has a fault
abbrev pub image_in : List ℕ → Option Loaded
image_in bytes = loaded_unless (first_fault bytes) (image_of (header_of bytes) (drop 28 bytes))
