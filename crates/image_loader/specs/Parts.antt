-- The parts of an image, and what is true of each image.
use Rattle.std.specs.Prelude.{◌≡◌, ℕ, ℤ, pos, ◌+◌, ◌%◌, ◌≤◌, ◌≤ℤ◌, min, max, nat_le, nat_lt, Bool, true, not, ◌&&◌, List, [], ◌∷◌, length, map}
use Rattle.std.specs.List.{list_all, list_any}
use Rattle.image_loader.specs.declared.parts.Part.{Part}
use Rattle.xinu_model.specs.Boot.{Loaded, LoadedPart}
use Rattle.xinu_model.specs.Memory.{ram_size}

-- a part as it is loaded
abbrev pub part_of : Part → LoadedPart
part_of part = record { place = part.place; bytes = part.bytes.now; size = part.size }

-- what is loaded of these parts, with this entry, priority and stack
abbrev pub loaded : List Part → ℕ → ℤ → ℕ → Loaded
loaded parts entry priority stack = record {
  parts = map part_of parts;
  entry = entry;
  priority = priority;
  stack = stack;
}

-- The addresses of a part lie in RAM, and its bytes at them.
abbrev pub lies_in_ram : LoadedPart → Bool
lies_in_ram part = nat_le (part.place + part.size) ram_size && nat_le (length part.bytes) part.size

-- Some address belongs to both parts.
abbrev pub share_address : LoadedPart → LoadedPart → Bool
share_address part other =
    nat_lt (max part.place other.place) (min (part.place + part.size) (other.place + other.size))

-- No two of the parts share an address.
abbrev pub are_apart : List LoadedPart → Bool
are_apart [] = true
are_apart (part ∷ parts) = list_all (λ other. not (share_address part other)) parts && are_apart parts

-- The four bytes from an address on are bytes of the part.
abbrev pub holds_word : ℕ → LoadedPart → Bool
holds_word address part = nat_le part.place address && nat_le (address + 4) (part.place + length part.bytes)

-- what is true of each image as it is loaded
pub record IsImage (image : Loaded) : Type 0 where
  pub some : 1 ≤ length image.parts
  pub few : length image.parts ≤ 8
  pub lie : list_all lies_in_ram image.parts ≡ true
  pub apart : are_apart image.parts ≡ true
  pub aligned : image.entry % 4 ≡ 0
  pub inside : list_any (holds_word image.entry) image.parts ≡ true
  pub low : pos 1 ≤ℤ image.priority
  pub high : image.priority ≤ℤ pos 32767
