-- Words in RAM, and images that are made of words.
use Rattle.std.specs.Prelude.{◌≡◌, ◌≤◌, ◌+◌, ◌/◌, ◌%◌, ℕ, List, [], ◌∷◌, length, pos}
use Rattle.std.specs.List.{flat_map}
use Rattle.xinu_model.specs.Boot.{Loaded}
use Rattle.xinu_model.specs.Memory.{number_at}

-- these words lie in RAM from an address on
abbrev pub Lie : List ℕ → ℕ → List ℕ → Type 0
Lie memory a [] = Unit {0}
Lie memory a (w ∷ words) = (a + 4 ≤ length memory) × ((number_at memory a 4 ≡ w) × Lie memory (a + 4) words)

-- the bytes of a word, the lowest first
abbrev pub bytes_of : ℕ → List ℕ
bytes_of w = w % 256 ∷ w / 256 % 256 ∷ w / 65536 % 256 ∷ w / 16777216 % 256 ∷ []

-- an image of these words at a place, at which its process begins
abbrev pub image_of : ℕ → List ℕ → Loaded
image_of place words = record {
  parts = (record { place = place; bytes = flat_map bytes_of words; size = length (flat_map bytes_of words) }) ∷ [];
  entry = place;
  priority = pos 20;
  stack = 4096;
}
