-- Images by the names of their files.
use Rattle.std.specs.Prelude.{◌≡◌, ℕ, List, [], ◌∷◌, take, Option, Some, MatchOption, ⊤}
use Rattle.elf_loader.specs.LoadedFiles.{loads}
use Rattle.program_logic.specs.declared.outline.Lock.{Lock}
use Rattle.prove_command.specs.Proved.{IsProved}
use Rattle.xinu_model.specs.Boot.{Loaded}

-- These bytes are the first of a file, if it can be observed: at most 1048577 of them.
abbrev pub IsFrom : Option (List ℕ) → List ℕ → Type 0
IsFrom file bytes = MatchOption file ⊤ (λ all. bytes ≡ take 1048577 all)

-- These bytes were fetched of the files of these names.
abbrev pub AreFetched : (List ℕ → Option (List ℕ)) → List (List ℕ) → List (List ℕ) → Type 0
AreFetched file [] [] = Unit {0}
AreFetched file [] (bytes ∷ files) = ⊥
AreFetched file (name ∷ names) [] = ⊥
AreFetched file (name ∷ names) (bytes ∷ files) = IsFrom (file name) bytes × AreFetched file names files

-- These files load these images.
abbrev pub AreLoaded : List (List ℕ) → List Loaded → Type 0
AreLoaded [] [] = Unit {0}
AreLoaded [] (image ∷ images) = ⊥
AreLoaded (bytes ∷ files) [] = ⊥
AreLoaded (bytes ∷ files) (image ∷ images) = (loads bytes ≡ Some image) × AreLoaded files images

-- The images in these files are proved.
pub record IsProvedIn (l : Lock) (files : List (List ℕ)) : Type 0 where
  pub images : List Loaded
  pub loaded : AreLoaded files images
  pub proved : IsProved l images

-- The images in the files of these names are.
pub record IsProvedOf (l : Lock) (names : List (List ℕ)) (file : List ℕ → Option (List ℕ)) : Type 0 where
  pub files : List (List ℕ)
  pub fetched : AreFetched file names files
  pub proved : IsProvedIn l files
