use Rattle.std.proofs.Common.{arith, ◌∙◌, ap}
use Rattle.files_c.specs.Answers.{Held, answers_of, bytes_after}
use Rattle.files_c.proofs.Starting.{starts}
use Rattle.files_c.proofs.file_answers.Goals as goal
use Rattle.xinu_model.specs.Files.Systems.{FileSystem}

pub answer_all-requires-clause-stands : goal.answer_all-requires-clause-stands
answer_all-requires-clause-stands c =
    (
    starts c.in-Ok-new.files c.deref_mut.result.now c.in-Ok.image c.args.blocks (omega (arith, c.if-blocks-lt14.false))
    (omega (arith, c.if-blocks-gt65542.false)) (c.deref_mut.ensures.value ∙ c.into_bytes-disk.ensures.bytes) c.in-Ok.ensures.image
    c.into_bytes-disk.ensures.clean c.in-Ok.ensures.files c.made_images_hold_their_files.ensures.blocks c.in-Ok-new.ensures.stands
    c.in-Ok-new.ensures.closed
    ).stands

pub returns-clause-answered : goal.returns-clause-answered
returns-clause-answered c zero =
    let s =
    starts c.in-Ok-new.files c.deref_mut.result.now c.in-Ok.image c.args.blocks (omega (arith, c.if-blocks-lt14.false))
    (omega (arith, c.if-blocks-gt65542.false)) (c.deref_mut.ensures.value ∙ c.into_bytes-disk.ensures.bytes) c.in-Ok.ensures.image
    c.into_bytes-disk.ensures.clean c.in-Ok.ensures.files c.made_images_hold_their_files.ensures.blocks c.in-Ok-new.ensures.stands
    c.in-Ok-new.ensures.closed in
    c.answer_all.ensures.answers
    ∙ ap (λ (s : FileSystem). let h : Held = record { system = s; bytes = c.args.bytes.now } in answers_of h c.args.calls.now) s.is

pub returns-clause-bytes : goal.returns-clause-bytes
returns-clause-bytes c zero =
    let s =
    starts c.in-Ok-new.files c.deref_mut.result.now c.in-Ok.image c.args.blocks (omega (arith, c.if-blocks-lt14.false))
    (omega (arith, c.if-blocks-gt65542.false)) (c.deref_mut.ensures.value ∙ c.into_bytes-disk.ensures.bytes) c.in-Ok.ensures.image
    c.into_bytes-disk.ensures.clean c.in-Ok.ensures.files c.made_images_hold_their_files.ensures.blocks c.in-Ok-new.ensures.stands
    c.in-Ok-new.ensures.closed in
    c.answer_all.ensures.bytes
    ∙ ap (λ (s : FileSystem). let h : Held = record { system = s; bytes = c.args.bytes.now } in bytes_after h c.args.calls.now) s.is
