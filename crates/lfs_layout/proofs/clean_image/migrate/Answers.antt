use Rattle.std.proofs.Common.{◌≡◌, ◌+◌, ◌/◌, length, List, cond, ap, sym, ◌∙◌, subst}
use Rattle.lfs_check.specs.declared.geometry.Geometry.{Geometry}
use Rattle.lfs_check.specs.Fields.{fields_of, directory_entries}
use Rattle.lfs_layout.specs.Files.{File, files_in, placed_files}
use Rattle.lfs_layout.specs.Made.{all_files, Room}
use Rattle.lfs_layout.proofs.CleanOpens.{migrated_room}
use Rattle.lfs_layout.proofs.clean_image.migrate.Goals as goal
use Rattle.lfs_layout.proofs.clean_image.migrate.Goals.{After-deref}

-- the files that were read are those of the image
placed : (c : After-deref) → all_files c.deref.result.now ≡ placed_files c.args.bytes.now
placed c =
    let image = c.args.bytes.now in let n = length image / 512 in
    ap all_files c.deref.ensures.value ∙ c.in_ok-files.ensures
    ∙ sym (ap (λ b. let g : Geometry = record { dirs = cond b 6 1; blocks = n } in files_in g (fields_of g image).indexes image (directory_entries g image)) c.requires.version)

pub build-requires : goal.build-requires
build-requires c =
    let P : List File → Type 0 = λ fs. Room (length c.args.bytes.now / 512 + 6) fs in
    subst P (sym (placed c)) (migrated_room c.args.bytes.now c.requires.faultless c.requires.version)
