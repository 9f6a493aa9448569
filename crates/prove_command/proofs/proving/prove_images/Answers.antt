use Rattle.std.proofs.Common.{◌≡◌, ◌∙◌, ap, map, subst, true, List, ℕ}
use Rattle.image_loader.specs.Images.{loaded_of}
use Rattle.program_logic.specs.Kept.{programs_in}
use Rattle.program_logic.specs.SystemCheck.{ram_checks}
use Rattle.xinu_model.specs.Boot.{with_images}
use Rattle.prove_command.proofs.Proved.{proved}
use Rattle.prove_command.proofs.proving.prove_images.Goals as goal

pub returns-then-are_proved-clause-proved : goal.returns-then-are_proved-clause-proved
returns-then-are_proved-clause-proved c =
    let images = map loaded_of c.args.images.now in
    let programs = programs_in c.as_slice.result.now c.as_slice-2.result.now in
    let memory = c.bytes_from.ensures.bytes ∙ c.load_all.ensures.loaded ∙ ap (with_images images) c.in-Ok-new.ensures in
    λ _. proved c.args.lock.now programs images c.in-Ok.ensures.boots (c.are_proved.ensures.checks c.if-are_proved.true)
    (c.are_proved.ensures.begins c.if-are_proved.true)
    (subst (λ (m : List ℕ). ram_checks m c.args.lock.now programs ≡ true) memory (c.are_proved.ensures.there c.if-are_proved.true))
