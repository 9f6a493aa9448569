-- Raw images and clean images.
use Rattle.std.specs.Simd.{first_chunks}
use Rattle.std.specs.Prelude.{ℕ, ◌≡◌, ◌+◌, ◌/◌, ◌%◌, ◌&&◌, Bool, true, false, cond, nat_eq, nat_le, List, length, None, Result, Ok, Err}
use Rattle.xinu_base.specs.declared.NoMemory.{NoMemory}
use Rattle.lfs_check.specs.Fields.{is_version_2, geometry_of, fields_of, directory_entries}
use Rattle.lfs_check.specs.Kept.{kept_entries}
use Rattle.lfs_check.specs.Faults.{fault}
use Rattle.lfs_layout.specs.Files.{File, files_in, placed_files, have_room, with_set}
use Rattle.lfs_layout.specs.Made.{image_with, geometry_2}

-- a disk without files: 8 to 65,536 whole blocks
abbrev pub is_raw : List ℕ → Bool
is_raw image = nat_eq (length image % 512) 0 && nat_le 4096 (length image) && nat_le (length image) 33554432

-- the blocks of an image, one after another
abbrev pub blocks_of : List ℕ → List (List ℕ)
blocks_of image = first_chunks 512 (length image / 512) image

-- an image that can be worked on: of version 2, and without a fault
pub record IsCleanImage (image : List ℕ) : Type 0 where
  pub faultless : fault image ≡ None
  pub version : is_version_2 image ≡ true

-- a clean image as it is worked on: one of version 1 is made anew with six blocks more, its files in the order of its entries
abbrev pub opened : List ℕ → List ℕ
opened image = cond (is_version_2 image) image (image_with (length image / 512 + 6) (placed_files image))

-- what a call that sets a file answers, and what it leaves: the image that is made of the files with this one set, on as many blocks, or
-- the image as it was
abbrev pub Puts : List ℕ → List ℕ → File → Result Bool NoMemory → Type 0
Puts old new file (Ok true) = (have_room (geometry_2 (length old / 512)) (with_set file (placed_files old)) ≡ true) × (placed_files new ≡ with_set file (placed_files old)) × (length new ≡ length old) × (new ≡ image_with (length old / 512) (with_set file (placed_files old)))
Puts old new file (Ok false) = (have_room (geometry_2 (length old / 512)) (with_set file (placed_files old)) ≡ false) × (new ≡ old)
Puts old new file (Err e) = new ≡ old

-- the files of the entries of an image that are kept
abbrev pub kept_files : List ℕ → List File
kept_files image =
    files_in (geometry_of image) (fields_of (geometry_of image) image).indexes image (kept_entries (geometry_of image) (fields_of (geometry_of image) image).indexes (directory_entries (geometry_of image) image))

-- how many blocks the repaired image has: as many, and six more if it had version 1
abbrev pub repaired_blocks : List ℕ → ℕ
repaired_blocks image = length image / 512 + cond (is_version_2 image) 0 6

-- the repaired image
abbrev pub repaired : List ℕ → List ℕ
repaired image = image_with (repaired_blocks image) (kept_files image)
