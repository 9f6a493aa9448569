-- The hexadecimal text of bytes that come one after another.
use Rattle.std.proofs.Common.{ℕ, ◌≡◌, List, [], ◌∷◌, ◌++◌, refl, ap}
use Rattle.host_port.specs.LineText.{hex_byte, hex_of}

-- the hexadecimal text of bytes with one more after them
pub hex_of-push : (bytes : List ℕ) (b : ℕ) → hex_of (bytes ++ b ∷ []) ≡ hex_of bytes ++ hex_byte b
hex_of-push [] b = refl
hex_of-push (a ∷ bytes) b = ap (λ t. hex_byte a ++ t) (hex_of-push bytes b)
