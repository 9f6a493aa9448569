use Rattle.std.proofs.Common.{◌∙◌, Some, None, ap, arith, sym}
use Rattle.std.specs.Prelude.{option_map}
use Rattle.run_inputs.specs.declared.refusals.Refusal.TheVariants as refusal
use Rattle.run_inputs.proofs.InputFaults.{image_fault-long, image_fault-short}
use Rattle.run_inputs.proofs.inputs.judge.Goals as goal

pub returns-then-file-gt-LONGEST_IMAGE :
    goal.returns-then-file-gt-LONGEST_IMAGE
returns-then-file-gt-LONGEST_IMAGE c =
    record { judged = ap (option_map (refusal.Image c.args.number)) (sym (image_fault-long c.args.file.now (omega arith))) }

pub returns-in-Ok : goal.returns-in-Ok
returns-in-Ok c =
    record { judged = ap (option_map (refusal.Image c.args.number)) (sym (image_fault-short c.args.file.now None (omega arith) c.in-Ok.ensures.fault)) }

pub returns-in-Err : goal.returns-in-Err
returns-in-Err c =
    let is = image_fault-short c.args.file.now (Some c.in-Err.fault) (omega arith) c.in-Err.ensures.fault ∙ ap Some (sym c.number.ensures) in
    record { judged = ap (option_map (refusal.Image c.args.number)) (sym is) }
