-- Sound files on a disk of at most 65542 blocks are few and small.
use Rattle.std.proofs.Common.{◌≡◌, ◌≤◌, ◌+◌, ℕ, true, List, [], ◌∷◌, length, Option, Some, None, arith}
use Rattle.std.proofs.lemmas.Bool.{cond_both}
use Rattle.std.proofs.lemmas.Bool.Decides.{nat_tests}
use Rattle.xinu_model.specs.Files.Room.{data_blocks, data_needed, data_room, they_fit}
use Rattle.xinu_model.specs.Files.Sound.{IsDevice, IsOpened, IsSoundFiles}
use Rattle.xinu_model.specs.Files.Stored.{StoredFile, bytes_in, file_named, is_named}
use Rattle.xinu_model.specs.Files.Systems.{FileSystem, OpenFile, open_at}
use Rattle.reference_files.specs.Sizes.{IsPlaced, IsSmall}

-- a file needs no more blocks than all do
one_of_all : (name : List ℕ) (files : List StoredFile) → data_blocks (length (bytes_in (file_named name files))) ≤ data_needed files
one_of_all name [] = omega arith
one_of_all name (f ∷ files) =
    let i = one_of_all name files in
    cond_both (is_named name f) (Some f) (file_named name files)
    (λ o. data_blocks (length (bytes_in o)) ≤ data_blocks (length f.bytes) + data_needed files)
    (λ _. omega arith) (λ _. omega (arith, i))

-- and what fits needs no more than there are
fits_first : (blocks : ℕ) (files : List StoredFile) → they_fit blocks files ≡ true → data_needed files ≤ data_room blocks
fits_first blocks files e = grind (arith, nat_tests, e)

opened_at : (file : Option StoredFile) (f : OpenFile) → IsOpened file f → f.position ≤ length (bytes_in file)
opened_at None f k = absurd k
opened_at (Some file) f k = k

placed : (s : FileSystem) (x : Option OpenFile) → IsDevice s.files x → IsPlaced s x
placed s None k = tt
placed s (Some f) k = opened_at (file_named f.name s.files) f k

pub sound_is_small : (s : FileSystem) → IsSoundFiles s → s.blocks ≤ 65542 → IsSmall s
sound_is_small s k few = record {
  few = k.few;
  sizes = λ name. (let a = one_of_all name s.files in let b = fits_first s.blocks s.files k.fit in omega (arith, a, b, few));
  places = λ d. placed s (open_at s d) (k.device d);
}
