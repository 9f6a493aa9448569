use Rattle.std.proofs.Common.{◌≡◌, ◌∙◌, ℕ, Bool, List, [], Option, Some, None, cond, refl, ap, sym, subst, arith, length, ◌/◌, ◌+◌, Vec, Global}
use Rattle.std.specs.Option.{unwrap_or}
use Rattle.std.specs.Prelude.{option_map}
use Rattle.lfs_check.specs.Faults.{Refuses, fault}
use Rattle.lfs_check.specs.declared.faults.CheckFault.{CheckFault}
use Rattle.lfs_check.specs.declared.faults.CheckFault.TheVariants.{Broken, NoMemory}
use Rattle.lfs_layout.specs.Images.{IsCleanImage, opened}
use Rattle.lfs_layout.proofs.MadeClean.{made_clean, empty_room}
use Rattle.lfs_layout.specs.Files.{placed_files}
use Rattle.lfs_layout.specs.Made.{image_with}
use Rattle.run_inputs.specs.Conversions.{check_refusal}
use Rattle.run_inputs.specs.InputDisks.{IsDiskCause, disk_fault, empty_disk1}
use Rattle.run_inputs.specs.declared.refusals.Refusal.{Refusal}
use Rattle.run_inputs.proofs.input_disks.clean_disk.Goals as goal

-- what is promised of the disk of some bytes
abbrev IsOpened : List ℕ → List ℕ → Type 0
IsOpened disk image = (disk_fault disk ≡ None) × (image ≡ opened disk)

of_given : (disk image : List ℕ) → fault disk ≡ None → image ≡ opened disk → IsOpened disk image
unfolding disk_fault
of_given disk image none is = (none, is)

-- a refusal of the checker
of_refused : (disk : List ℕ) (e : CheckFault) (r : Refusal) → Refuses (fault disk) e → r ≡ check_refusal e → IsDiskCause 1 (disk_fault disk) r
unfolding disk_fault
of_refused disk (Broken f) r is e = subst (IsDiskCause 1 (fault disk)) (sym e) (refl, is)
of_refused disk NoMemory r is e = subst (IsDiskCause 1 (fault disk)) (sym e) tt

-- the empty disk is of version 2, and clean
of_empty : (image : List ℕ) → image ≡ image_with 256 [] → IsOpened empty_disk1 image
unfolding empty_disk1 disk_fault
of_empty image is =
    let c : IsCleanImage (image_with 256 []) = made_clean 256 [] (empty_room 256 (omega arith) (omega arith)) refl in
    let P : Bool → List ℕ → List ℕ = λ b migrated. cond b (image_with 256 []) migrated in
    (c.faultless, is ∙ sym (ap (λ (b : Bool). P b (image_with (length (image_with 256 []) / 512 + 6) (placed_files (image_with 256 [])))) c.version))

-- of a disk that may be named
of_named : (o : Option (List ℕ)) (bytes image : List ℕ) → o ≡ Some bytes → IsOpened bytes image → IsOpened (unwrap_or o empty_disk1) image
of_named o bytes image is opens = subst (λ (o : Option (List ℕ)). IsOpened (unwrap_or o empty_disk1) image) (sym is) opens

of_unnamed : (o : Option (List ℕ)) (image : List ℕ) → o ≡ None → IsOpened empty_disk1 image → IsOpened (unwrap_or o empty_disk1) image
of_unnamed o image is opens = subst (λ (o : Option (List ℕ)). IsOpened (unwrap_or o empty_disk1) image) (sym is) opens

named_refused : (o : Option (List ℕ)) (bytes : List ℕ) (r : Refusal) → o ≡ Some bytes → IsDiskCause 1 (disk_fault bytes) r → IsDiskCause 1 (disk_fault (unwrap_or o empty_disk1)) r
named_refused o bytes r is cause = subst (λ (o : Option (List ℕ)). IsDiskCause 1 (disk_fault (unwrap_or o empty_disk1)) r) (sym is) cause

pub returns-in-Ok-clause-ok : goal.returns-in-Ok-clause-ok
returns-in-Ok-clause-ok c =
    of_named _ c.in-Some.bytes.items c.in-Ok.image (ap (option_map (λ (v : Vec ℕ Global). v.items)) c.in-Some.is)
    (of_given c.in-Some.bytes.items c.in-Ok.image c.in-Ok.ensures.image.0 c.in-Ok.ensures.image.1)

pub returns-in-Err-clause-refused : goal.returns-in-Err-clause-refused
returns-in-Err-clause-refused c =
    named_refused _ c.in-Some.bytes.items c.from.result (ap (option_map (λ (v : Vec ℕ Global). v.items)) c.in-Some.is)
    (of_refused c.in-Some.bytes.items c.in-Err.fault c.from.result c.in-Err.ensures.image c.from.ensures)

pub returns-in-Ok-empty-clause-ok : goal.returns-in-Ok-empty-clause-ok
returns-in-Ok-empty-clause-ok c =
    of_unnamed _ c.in-Ok-empty.image (ap (option_map (λ (v : Vec ℕ Global). v.items)) c.in-None.is) (of_empty c.in-Ok-empty.image c.in-Ok-empty.ensures.image)
