-- What the bytes of a packet say, one byte after another.
use Rattle.std.proofs.Common.{◌≡◌, ◌∙◌, ℕ, ◌+◌, ◌<◌, Bool, List, ◌∷◌, ◌++◌, length, drop, get_or, ap}
use Rattle.std.proofs.lemmas.List.{drop_more}
use Rattle.gdb_packets.specs.Units.{unescaped_after}

-- one more byte
pub said-more : (all said next bytes : List ℕ) (i : ℕ) (escaped escapes : Bool) → all ≡ said ++ unescaped_after escaped (drop i bytes) → i < length bytes
    → ((rest : List ℕ) → said ++ unescaped_after escaped (get_or bytes i 0 ∷ rest) ≡ next ++ unescaped_after escapes rest)
    → all ≡ next ++ unescaped_after escapes (drop (i + 1) bytes)
said-more all said next bytes i escaped escapes so within says =
    so ∙ ap (λ (rest : List ℕ). said ++ unescaped_after escaped rest) (drop_more bytes i 0 within) ∙ says (drop (i + 1) bytes)
