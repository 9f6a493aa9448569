-- Images that are made are clean for their files, and so is an image that is opened.
use Rattle.std.proofs.Common.{◌≡◌, ℕ, ◌+◌, ◌/◌, ◌≤◌, Bool, true, false, cond, List, [], length, refl, ap, arith, None}
use Rattle.lfs_check.specs.Fields.{is_version_2}
use Rattle.lfs_check.specs.Faults.{fault}
use Rattle.lfs_layout.specs.Files.{File, placed_files, files_of, sorted, names_right, names_of}
use Rattle.lfs_layout.specs.Made.{image_with, Room}
use Rattle.lfs_layout.specs.Images.{IsCleanImage, opened}
use Rattle.lfs_layout.proofs.MadeRules.{version_is_2, made_faultless}
use Rattle.lfs_layout.proofs.MadeFiles.{made_files}
use Rattle.lfs_layout.proofs.CleanOpens.{migrated_room, placed_names}

-- an image that is made is clean and of version 2
pub made_clean : (n : ℕ) (files : List File) → Room n files → names_right 27 [] (names_of files) ≡ true → IsCleanImage (image_with n files)
made_clean n files r e = record { faultless = made_faultless n files r e; version = version_is_2 n files r }

-- its files in order are those that it was made of
pub made_sorted : (n : ℕ) (files : List File) → Room n files → names_right 27 [] (names_of files) ≡ true → files_of (image_with n files) ≡ sorted files
made_sorted n files r e = ap sorted (made_files n files r e)

-- no files have room on every disk
pub empty_room : (n : ℕ) → 14 ≤ n → n ≤ 65542 → Room n []
empty_room n low high = record { low = low; high = high; data_room = omega arith; index_room = omega arith; few = omega arith; wide = λ k h. absurd (omega (arith, h)) }

-- an image that is opened is clean, for the same files
pub opened_clean : (image : List ℕ) → fault image ≡ None → IsCleanImage (opened image)
opened_clean image e =
    let P : Bool → Type 0 = λ v. is_version_2 image ≡ v → IsCleanImage (cond v image (image_with (length image / 512 + 6) (placed_files image))) in
    let yes : P true = λ v. record { faultless = e; version = v } in
    let no : P false = λ v. made_clean (length image / 512 + 6) (placed_files image) (migrated_room image e v) (placed_names image e) in
    let all : (v : Bool) → P v = λ v. elim v as (λ v. P v) [ true ↦ yes | false ↦ no ] in
    all (is_version_2 image) refl

-- an image that is opened has its files
pub opened_files : (image : List ℕ) → fault image ≡ None → files_of (opened image) ≡ files_of image
opened_files image e =
    let P : Bool → Type 0 = λ v. is_version_2 image ≡ v → files_of (cond v image (image_with (length image / 512 + 6) (placed_files image))) ≡ files_of image in
    let yes : P true = λ v. refl in
    let no : P false = λ v. made_sorted (length image / 512 + 6) (placed_files image) (migrated_room image e v) (placed_names image e) in
    let all : (v : Bool) → P v = λ v. elim v as (λ v. P v) [ true ↦ yes | false ↦ no ] in
    all (is_version_2 image) refl
