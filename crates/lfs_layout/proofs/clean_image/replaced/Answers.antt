use Rattle.std.proofs.Common.{◌≡◌, ◌/◌, true, List, length, ap, sym, ◌∙◌, subst}
use Rattle.lfs_layout.specs.Files.{File, placed_files, have_room, with_set, padded_name}
use Rattle.lfs_layout.specs.Made.{all_files, geometry_2, image_with, Room}
use Rattle.lfs_layout.proofs.SetImage.{put_room}
use Rattle.lfs_layout.proofs.clean_image.replaced.Goals as goal

pub build-requires : goal.build-requires
build-requires c =
    let image = c.args.image.now in let n = length image / 512 in
    let f : File = record { name = padded_name c.args.name.now; bytes = c.args.bytes.now } in
    let room : have_room (geometry_2 n) (with_set f (placed_files image)) ≡ true =
    sym (ap (have_room (geometry_2 n)) (ap all_files c.deref.ensures.value ∙ c.in_ok-files.ensures)) ∙ sym c.have_room.ensures ∙ c.if-have_room.true in
    let P : List File → Type 0 = λ fs. Room n fs in
    subst P (sym (ap all_files c.deref-then-have_room.ensures.value ∙ c.in_ok-files.ensures)) (put_room image c.args.name.now c.args.bytes.now c.requires.clean c.requires.name room)

pub returns-then-have_room : goal.returns-then-have_room
returns-then-have_room c =
    let image = c.args.image.now in let n = length image / 512 in
    let f : File = record { name = padded_name c.args.name.now; bytes = c.args.bytes.now } in
    let room : have_room (geometry_2 n) (with_set f (placed_files image)) ≡ true =
    sym (ap (have_room (geometry_2 n)) (ap all_files c.deref.ensures.value ∙ c.in_ok-files.ensures)) ∙ sym c.have_room.ensures ∙ c.if-have_room.true in
    (room, c.in_ok-made.ensures ∙ ap (image_with n) (ap all_files c.deref-then-have_room.ensures.value ∙ c.in_ok-files.ensures))

pub returns : goal.returns
returns c =
    sym (ap (have_room (geometry_2 (length c.args.image.now / 512))) (ap all_files c.deref.ensures.value ∙ c.in_ok-files.ensures)) ∙ sym c.have_room.ensures
    ∙ c.if-have_room.false
