use Rattle.std.proofs.Common.{◌≡◌, ◌∙◌, ℕ, Bool, true, false, List, Option, Some, None, cond, refl, ap, sym}
use Rattle.lfs_check.specs.declared.faults.DiskFault.{DiskFault}
use Rattle.lfs_layout.specs.Images.{is_raw}
use Rattle.run_inputs.specs.InputDisks.{raw_fault}
use Rattle.run_inputs.proofs.input_disks.raw_image.Goals as goal

-- a raw disk of whole blocks has no fault, and any other has one
is_whole : (bytes : List ℕ) → is_raw bytes ≡ true → raw_fault bytes ≡ None
unfolding raw_fault
is_whole bytes is = ap (λ (b : Bool). cond {A = Option DiskFault} b None (Some (record { block = 0; rule = 0 }))) is

is_not_whole : (bytes : List ℕ) (f : DiskFault) → is_raw bytes ≡ false → f ≡ record { block = 0; rule = 0 } → raw_fault bytes ≡ Some f
unfolding raw_fault
is_not_whole bytes f is e = ap (λ (b : Bool). cond {A = Option DiskFault} b None (Some (record { block = 0; rule = 0 }))) is ∙ ap Some (sym e)

pub returns-in-Ok-clause-ok : goal.returns-in-Ok-clause-ok
returns-in-Ok-clause-ok c = (is_whole c.args.bytes.items c.in-Ok.ensures.0, c.in-Ok.ensures.1)

pub returns-in-Err-clause-refused : goal.returns-in-Err-clause-refused
returns-in-Err-clause-refused c = (refl, is_not_whole c.args.bytes.items c.in-Err.field-0 c.in-Err.ensures.0 c.in-Err.ensures.1)
