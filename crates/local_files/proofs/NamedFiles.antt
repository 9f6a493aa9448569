-- Texts as names of files.
use Rattle.std.proofs.Common.{◌≡◌, ◌∙◌, ℕ, ◌-◌, true, not, ◌&&◌, List, length, take, replicate, refl, ap}
use Rattle.std.proofs.lemmas.Bool.{and_parts}
use Rattle.std.proofs.lemmas.List.{take_at}
use Rattle.std.specs.Prelude.{nat_eq, nat_le, nat_lt}
use Rattle.std.specs.List.{list_all}
use Rattle.lfs_layout.specs.Files.{bare_name, is_text, padded_name}
use Rattle.lfs_layout.proofs.FilesSet.{text_runs}

-- A name with zeros after it, without them.
pub padded_bare : (text : List ℕ) → is_text text ≡ true → bare_name (padded_name text) ≡ text
padded_bare text e =
    let p = and_parts (nat_lt 0 (length text) && nat_le (length text) 27) (list_all (λ b. not (nat_eq b 0)) text) e in
    ap (λ n. take n (padded_name text)) (text_runs text (28 - length text) p.1)
    ∙ take_at text (replicate (28 - length text) 0) (length text) refl
