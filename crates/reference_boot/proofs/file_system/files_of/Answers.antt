use Rattle.std.proofs.Common.{◌∙◌, ◌++◌, ◌∷◌, [], ◌≤◌, arith, ap, sym}
use Rattle.std.proofs.lemmas.List.{take_all}
use Rattle.file_laws.specs.StoredFiles.{stored_files}
use Rattle.reference_boot.proofs.Listed.{few_files, files_end, files_more}
use Rattle.reference_boot.proofs.file_system.files_of.Goals as goal

pub loop-k-preserved : goal.loop-k-preserved
loop-k-preserved c =
    c.in_ok-push.ensures.pushed ∙ ap (λ l. l ++ c.in-Some.file ∷ []) c.loop-k.invariant
    ∙ sym (files_more (stored_files c.args.image.now) c.loop-k.k c.in-Some.file (sym c.in_ok-file.ensures.file ∙ c.in-Some.is))

pub returns-in_default : goal.returns-in_default
returns-in_default c =
    record { files = c.loop-k.invariant ∙ files_end (stored_files c.args.image.now) c.loop-k.k (sym c.in_ok-file.ensures.file ∙ c.in_default.is) }

pub returns : goal.returns
returns c =
    let few = few_files c.args.image.now c.requires.clean in
    let last : 78 ≤ c.loop-k.k = (let t = c.loop-k-test.false in omega (arith, t)) in
    record { files = c.loop-k.invariant ∙ take_all c.loop-k.k (stored_files c.args.image.now) (omega (arith, few, last)) }
