use Rattle.std.proofs.Common.{◌≡◌, ◌/◌, ℕ, true, List, length, ap, sym, ◌∙◌, subst}
use Rattle.lfs_check.proofs.Images.{whole_blocks}
use Rattle.lfs_layout.specs.Files.{File, placed_files, have_room, with_set, padded_name}
use Rattle.lfs_layout.specs.Made.{geometry_2, image_with}
use Rattle.lfs_layout.specs.Images.{IsCleanImage}
use Rattle.lfs_layout.proofs.MadeFields.{length_image}
use Rattle.lfs_layout.proofs.MadeFiles.{made_files}
use Rattle.lfs_layout.proofs.MadeClean.{made_clean}
use Rattle.lfs_layout.proofs.SetImage.{put_room, put_names}
use Rattle.lfs_layout.proofs.clean_image.CleanImage.put_file.Goals as goal

pub invariant_of-self : goal.invariant_of-self
invariant_of-self c =
    let h = rw c.in-Ok-Some.field-0-is at c.in-Ok-Some.ensures in
    let image = c.self.inside.bytes.items in let text = c.args.name.now in let bytes = c.args.bytes.now in
    let f : File = record { name = padded_name text; bytes = bytes } in
    let n = length image / 512 in let d = c.deref.ensures.value in
    let room : have_room (geometry_2 n) (with_set f (placed_files image)) ≡ true = sym (ap (λ im. have_room (geometry_2 (length im / 512)) (with_set f (placed_files im))) d) ∙ h.0 in
    let made : c.in-Ok-Some.image.items ≡ image_with n (with_set f (placed_files image)) = h.1 ∙ ap (λ im. image_with (length im / 512) (with_set f (placed_files im))) d in
    let P : List ℕ → Type 0 = λ im. IsCleanImage im in
    subst P (sym made) (made_clean n (with_set f (placed_files image)) (put_room image text bytes c.self.invariant c.requires room) (put_names image text bytes c.self.invariant c.requires))

pub returns-in-Ok-Some : goal.returns-in-Ok-Some
returns-in-Ok-Some c =
    let h = rw c.in-Ok-Some.field-0-is at c.in-Ok-Some.ensures in
    let image = c.self.inside.bytes.items in let text = c.args.name.now in let bytes = c.args.bytes.now in
    let f : File = record { name = padded_name text; bytes = bytes } in
    let n = length image / 512 in let d = c.deref.ensures.value in let v = c.self.view_is in
    let all = with_set f (placed_files image) in
    let room : have_room (geometry_2 n) all ≡ true = sym (ap (λ im. have_room (geometry_2 (length im / 512)) (with_set f (placed_files im))) d) ∙ h.0 in
    let made : c.in-Ok-Some.image.items ≡ image_with n all = h.1 ∙ ap (λ im. image_with (length im / 512) (with_set f (placed_files im))) d in
    let r = put_room image text bytes c.self.invariant c.requires room in (
      sym (ap (λ im. have_room (geometry_2 (length im / 512)) (with_set f (placed_files im))) v) ∙ room,
      ap placed_files made ∙ made_files n all r (put_names image text bytes c.self.invariant c.requires) ∙ ap (λ im. with_set f (placed_files im)) v,
      ap length made ∙ length_image n all r ∙ sym (whole_blocks image c.self.invariant.faultless) ∙ ap length v,
      made ∙ ap (λ im. image_with (length im / 512) (with_set f (placed_files im))) v,
    )
