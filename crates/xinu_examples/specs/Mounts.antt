-- Mounted prefixes, and names that they map.
use Rattle.std.specs.Prelude.{ℕ, List, [], ◌∷◌}
use Rattle.xinu_model.specs.Names.Mounting.{NameRow}

-- this prefix, with this in its place, for this device
abbrev pub names_row : List ℕ → List ℕ → ℕ → NameRow
names_row prefix replacement device = record { prefix = prefix; replacement = replacement; device = device }

-- `~/` is dropped for the file system, and `a` is the name space's `a`
abbrev pub two_mounts : List NameRow
two_mounts = names_row (126 ∷ 47 ∷ []) [] 3 ∷ names_row (97 ∷ []) (97 ∷ []) 1 ∷ []

-- `x` is dropped, and what is left is the name space's again; any other name is the file system's
abbrev pub dropping_mounts : List NameRow
dropping_mounts = names_row (120 ∷ []) [] 1 ∷ names_row [] [] 3 ∷ []

-- each `x` becomes twenty of them
abbrev pub growing_mounts : List NameRow
growing_mounts =
    names_row (120 ∷ [])
    (120 ∷ 120 ∷ 120 ∷ 120 ∷ 120 ∷ 120 ∷ 120 ∷ 120 ∷ 120 ∷ 120 ∷ 120 ∷ 120 ∷ 120 ∷ 120 ∷ 120 ∷ 120 ∷ 120 ∷ 120 ∷ 120 ∷ 120 ∷ [])
    1 ∷ []
