use Rattle.std.proofs.Common.{◌≡◌, ◌+◌, ◌/◌, Bool, true, false, cond, List, ℕ, length, refl, ap, sym, ◌∙◌, subst}
use Rattle.lfs_check.specs.Fields.{is_version_2, dirs_of}
use Rattle.lfs_layout.specs.Files.{placed_files}
use Rattle.lfs_layout.specs.Made.{image_with}
use Rattle.lfs_layout.specs.Images.{IsCleanImage}
use Rattle.lfs_layout.proofs.CleanOpens.{migrated_room, placed_names}
use Rattle.lfs_layout.proofs.MadeClean.{made_clean}
use Rattle.lfs_layout.proofs.clean_image.open.Goals as goal

-- an image without six directory blocks has version 1
not_six : (v : Bool) → (◌≡◌ {A = ℕ} (cond v 6 1) 6 → ⊥) → v ≡ false
not_six true h = absurd (h refl)
not_six false h = refl

-- and one with six has version 2
six : (v : Bool) → ◌≡◌ {A = ℕ} (cond v 6 1) 6 → v ≡ true
six true h = refl
six false h = absurd (cc)

pub returns-then-dirs_of-eq6 : goal.returns-then-dirs_of-eq6
returns-then-dirs_of-eq6 c =
    let image = c.args.bytes.items in
    let is : is_version_2 image ≡ true = six (is_version_2 image) (sym (c.dirs_of.ensures ∙ ap dirs_of c.deref.ensures.value) ∙ c.if-dirs_of-eq6.true) in
    record { image = sym (ap (λ v. cond v image (image_with (length image / 512 + 6) (placed_files image))) is) }

pub returns : goal.returns
returns c =
    let image = c.args.bytes.items in
    let old : is_version_2 image ≡ false = not_six (is_version_2 image) (λ e. c.if-dirs_of-eq6.false (c.dirs_of.ensures ∙ ap dirs_of c.deref.ensures.value ∙ e)) in
    let made : c.in_ok-bytes.bytes.items ≡ image_with (length image / 512 + 6) (placed_files image) = c.in_ok-bytes.ensures ∙ ap (λ im. image_with (length im / 512 + 6) (placed_files im)) c.deref-2.ensures.value in
    record { image = made ∙ sym (ap (λ v. cond v image (image_with (length image / 512 + 6) (placed_files image))) old) }

pub invariant_of-result-2 : goal.invariant_of-result-2
invariant_of-result-2 c =
    let image = c.args.bytes.items in
    let old : is_version_2 image ≡ false = not_six (is_version_2 image) (λ e. c.if-dirs_of-eq6.false (c.dirs_of.ensures ∙ ap dirs_of c.deref.ensures.value ∙ e)) in
    let made : c.in_ok-bytes.bytes.items ≡ image_with (length image / 512 + 6) (placed_files image) = c.in_ok-bytes.ensures ∙ ap (λ im. image_with (length im / 512 + 6) (placed_files im)) c.deref-2.ensures.value in
    let P : List ℕ → Type 0 = λ im. IsCleanImage im in
    subst P (sym made) (made_clean (length image / 512 + 6) (placed_files image) (migrated_room image c.requires old) (placed_names image c.requires))
