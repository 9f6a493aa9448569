-- Words of four bytes, the lowest byte first, one after another.
use Rattle.std.specs.Prelude.{ℕ, zero, suc, List, [], ◌∷◌, drop}
use Rattle.std.specs.List.{flat_map}
use Rattle.byteorder.specs.Endian.{little_number, little_bytes}

-- the word that the bytes begin with
abbrev pub word_of : List ℕ → ℕ
word_of bytes = little_number 4 bytes

-- the first n words of bytes
unfoldable pub words_of : ℕ → List ℕ → List ℕ
words_of zero bytes = []
words_of (suc n) bytes = word_of bytes ∷ words_of n (drop 4 bytes)

-- the bytes of words
unfoldable pub word_bytes : List ℕ → List ℕ
word_bytes words = flat_map (little_bytes 4) words
