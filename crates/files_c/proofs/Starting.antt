-- The files of an empty disk, before any call.
use Rattle.std.proofs.Common.{arith, ◌≡◌, ◌∙◌, ℕ, ◌*◌, ◌≤◌, List, [], length, map, replicate, Option, None, ap, subst, sym}
use Rattle.lfs_layout.specs.Files.{File, files_of}
use Rattle.lfs_layout.specs.Images.{IsCleanImage}
use Rattle.lfs_layout.specs.Made.{Room, image_with}
use Rattle.file_laws.specs.StoredFiles.{stored, stored_files}
use Rattle.local_files.specs.Hands.{system}
use Rattle.local_files.specs.Standing.{Stands}
use Rattle.local_files.specs.Steps.{shown}
use Rattle.local_files.specs.declared.Files.{Files}
use Rattle.xinu_model.specs.Files.Stored.{StoredFile}
use Rattle.xinu_model.specs.Files.Systems.{FileSystem, OpenFile, closed_system}

-- file systems are equal if their parts are
same_system : (b b' : ℕ) (f f' : List StoredFile) (d d' : List (Option OpenFile)) → b ≡ b' → f ≡ f' → d ≡ d'
    → ◌≡◌ {A = FileSystem} (record { blocks = b; files = f; devices = d }) (record { blocks = b'; files = f'; devices = d' })
same_system b b' f f' d d' eb ef ed = cc

-- no files
none_stored : (disk : List ℕ) → files_of disk ≡ [] → stored_files disk ≡ []
unfolding stored_files
none_stored disk h = ap (map stored) h

-- an engine that stands for a disk without files, and has nothing open
pub fresh_system : (e : Files) (disk : List ℕ) (n : ℕ) → Stands e disk disk → e.devices ≡ replicate 6 None → files_of disk ≡ [] → length disk ≡ 512 * n
    → system e disk ≡ closed_system n []
fresh_system e disk n s closed none long =
    let many = s.blocks in
    same_system e.blocks n (stored_files disk) [] (map shown e.devices) (replicate 6 None) (omega (arith, many, long)) (none_stored disk none) (ap (map shown) closed)

-- there is room for no files
pub no_room_needed : (n : ℕ) → 14 ≤ n → n ≤ 65542 → Room n []
no_room_needed n low high = record {
  low = low;
  high = high;
  data_room = omega arith;
  index_room = omega arith;
  few = omega arith;
  wide = λ k h. absurd (omega (arith, h));
}

-- What is so before the first call.
pub record IsStart (e : Files) (disk : List ℕ) (n : ℕ) : Type 0 where
  pub stands : Stands e disk disk
  pub is : system e disk ≡ closed_system n []

-- an engine for an empty disk stands for it, and its files are none
pub starts : (e : Files) (disk image : List ℕ) (n : ℕ) → 14 ≤ n → n ≤ 65542 → disk ≡ image → image ≡ image_with n [] → IsCleanImage image → files_of image ≡ []
    → ((n : ℕ) (files : List File) → Room n files → length (image_with n files) ≡ 512 * n)
    → ((disk : List ℕ) → IsCleanImage disk → length disk ≡ 512 * n → Stands e disk disk) → e.devices ≡ replicate 6 None → IsStart e disk n
starts e disk image n low high same made clean none long stands closed =
    let size : length disk ≡ 512 * n = ap length (same ∙ made) ∙ long n [] (no_room_needed n low high) in
    let stands = stands disk (subst (λ (d : List ℕ). IsCleanImage d) (sym same) clean) size in
    record { stands = stands; is = fresh_system e disk n stands closed (ap files_of same ∙ none) size }
