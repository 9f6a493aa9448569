-- Values that are stored one after another, each in the same number of bytes.
use Rattle.std.specs.Prelude.{ℕ, zero, suc, List, [], ◌∷◌, drop}

-- the first n values of bytes, each of which takes up `width` bytes
unfoldable pub pieces_of : {A : Type 0} → (List ℕ → A) → ℕ → ℕ → List ℕ → List A
pieces_of read width zero bytes = []
pieces_of read width (suc n) bytes = read bytes ∷ pieces_of read width n (drop width bytes)
