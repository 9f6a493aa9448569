-- What follows a name, one byte after another.
use Rattle.std.proofs.Common.{◌≡◌, ◌∙◌, ℕ, ◌<◌, List, [], ◌∷◌, length, drop, None, ap, arith}
use Rattle.std.proofs.lemmas.List.{drop_more}
use Rattle.gdb_packets.specs.Names.{rest_after}

-- bytes that end before the name
pub rest_after-short : (name bytes rest : List ℕ) (i : ℕ) → rest_after name bytes ≡ rest_after (drop i name) rest → length rest < 1 → i < length name
    → rest_after name bytes ≡ None
rest_after-short name bytes [] i so empty within = so ∙ ap (λ n. rest_after n []) (drop_more name i 0 within)
rest_after-short name bytes (b ∷ rest) i so empty within = absurd (omega arith)
