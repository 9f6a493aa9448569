-- Files are sound before anything is opened.
use Rattle.std.proofs.Common.{◌≡◌, ℕ, zero, suc, ◌≤◌, true, List, length, get_or, Option, None, refl, arith, subst, sym}
use Rattle.std.specs.Prelude.{replicate}
use Rattle.std.specs.List.{AllByRecursion}
use Rattle.xinu_model.specs.Files.Constants.{LF_NUM_DIR_ENT}
use Rattle.xinu_model.specs.Files.Room.{they_fit}
use Rattle.xinu_model.specs.Files.Sound.{IsDevice, IsSoundFiles}
use Rattle.xinu_model.specs.Files.Stored.{StoredFile, is_file_name, precedes, file_names}
use Rattle.xinu_model.specs.Files.Systems.{OpenFile, closed_system}
use Rattle.xinu_model.specs.Sound.Tables.{IsInOrder}

-- nothing is open anywhere
nothing_at : (n d : ℕ) → get_or (replicate n (let x : Option OpenFile = None in x)) d None ≡ None
nothing_at zero d = refl
nothing_at (suc n) zero = refl
nothing_at (suc n) (suc d) = nothing_at n d

pub sound_start : (blocks : ℕ) (files : List StoredFile) → AllByRecursion (λ name. is_file_name name ≡ true) (file_names files)
    → IsInOrder (λ name other. precedes name other ≡ true) (file_names files) → length files ≤ LF_NUM_DIR_ENT
    → they_fit blocks files ≡ true → IsSoundFiles (closed_system blocks files)
sound_start blocks files names order few fit = record {
  names = names;
  order = order;
  few = few;
  fit = fit;
  six = refl;
  device = λ d. subst (IsDevice files) (sym (nothing_at 6 d)) tt;
  once = λ name. omega arith;
}
