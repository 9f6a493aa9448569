use Rattle.std.proofs.Common.{◌∙◌, Some, None, ap, arith, sym}
use Rattle.std.specs.Prelude.{option_map}
use Rattle.run_inputs.specs.declared.refusals.Refusal.TheVariants as refusal
use Rattle.run_inputs.proofs.InputFaults.{image_fault-long, image_fault-short}
use Rattle.prove_command.proofs.fetching.image_in.Goals as goal

pub returns-then-file-gt-LONGEST_IMAGE-clause-judged : goal.returns-then-file-gt-LONGEST_IMAGE-clause-judged
returns-then-file-gt-LONGEST_IMAGE-clause-judged c =
    ap (option_map (refusal.Image c.args.number)) (sym (image_fault-long c.args.file.now (omega arith)))

pub returns-in-Ok-clause-judged : goal.returns-in-Ok-clause-judged
returns-in-Ok-clause-judged c =
    ap (option_map (refusal.Image c.args.number)) (sym (image_fault-short c.args.file.now None (omega arith) c.in-Ok.ensures.fault))

pub returns-in-Err-clause-judged : goal.returns-in-Err-clause-judged
returns-in-Err-clause-judged c =
    let is = image_fault-short c.args.file.now (Some c.in-Err.fault) (omega arith) c.in-Err.ensures.fault ∙ ap Some (sym c.number.ensures) in
    ap (option_map (refusal.Image c.args.number)) (sym is)
