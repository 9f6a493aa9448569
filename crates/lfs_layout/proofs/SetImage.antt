-- The image with a file set.
use Rattle.std.proofs.Common.{◌≡◌, ℕ, ◌/◌, true, List, [], length}
use Rattle.lfs_layout.specs.Files.{placed_files, have_room, names_right, names_of, with_set, is_text, padded_name}
use Rattle.lfs_layout.specs.Made.{geometry_2, Room}
use Rattle.lfs_layout.specs.Images.{IsCleanImage}
use Rattle.lfs_layout.proofs.CleanOpens.{placed_room, placed_names}
use Rattle.lfs_layout.proofs.FilesSet.{set_names, set_room, text_name}

-- the files of a clean image with one set have room if the test says so
pub put_room : (image text bytes : List ℕ) → IsCleanImage image → is_text text ≡ true
    → have_room (geometry_2 (length image / 512)) (with_set (record { name = padded_name text; bytes = bytes }) (placed_files image)) ≡ true
    → Room (length image / 512) (with_set (record { name = padded_name text; bytes = bytes }) (placed_files image))
put_room image text bytes c t e =
    let r = placed_room image c.faultless c.version in
    set_room (length image / 512) (placed_files image) text bytes r.low r.high r.wide t e

-- their names can be, and no two are the same
pub put_names : (image text bytes : List ℕ) → IsCleanImage image → is_text text ≡ true → names_right 27 [] (names_of (with_set (record { name = padded_name text; bytes = bytes }) (placed_files image))) ≡ true
put_names image text bytes c t = set_names (placed_files image) (record { name = padded_name text; bytes = bytes }) (placed_names image c.faultless) (text_name text t)
