-- Texts with one more byte after them.
use Rattle.std.proofs.Common.{ℕ, ◌≡◌, ◌∙◌, List, [], ◌∷◌, ◌++◌, refl, ap, sym}
use Rattle.std.proofs.lemmas.List.{append-nil, append_assoc}
use Rattle.xinu_base.specs.Hexadecimal.{hex_byte, hex_of}
use Rattle.gdb_packets.specs.Frames.{escaped, escaped_byte}

pub escaped-push : (bytes : List ℕ) (b : ℕ) → escaped (bytes ++ b ∷ []) ≡ escaped bytes ++ escaped_byte b
escaped-push [] b = append-nil (escaped_byte b)
escaped-push (a ∷ bytes) b =
    ap (λ t. escaped_byte a ++ t) (escaped-push bytes b) ∙ sym (append_assoc (escaped_byte a) (escaped bytes) (escaped_byte b))

pub hex_of-push : (bytes : List ℕ) (b : ℕ) → hex_of (bytes ++ b ∷ []) ≡ hex_of bytes ++ hex_byte b
hex_of-push [] b = refl
hex_of-push (a ∷ bytes) b = ap (λ t. hex_byte a ++ t) (hex_of-push bytes b)
