use Rattle.std.proofs.Common.{arith, map, subst, sym}
use Rattle.std.proofs.lemmas.List.{length-map}
use Rattle.image_loader.specs.Images.{loaded_of}
use Rattle.prove_command.proofs.Files.{as_many_images}
use Rattle.prove_command.proofs.Judged.{all_answered, all_refused, faulty_in}
use Rattle.prove_command.specs.Named.{AreLoaded}
use Rattle.prove_command.proofs.command.answered.Goals as goal

pub answer-requires : goal.answer-requires
answer-requires c =
    let same = as_many_images (map (λ f. f.items) c.args.files.now) (map loaded_of c.in-Ok.images.items) c.in-Ok.ensures.loaded in
    let files = length-map c.args.files.now (λ f. f.items) in
    let images = length-map c.in-Ok.images.items loaded_of in
    record { few = omega (arith, same, files, images, c.as_slice.ensures.len, c.requires.few) }

pub returns-in-Ok : goal.returns-in-Ok
returns-in-Ok c =
    let files = map (λ f. f.items) c.args.files.now in
    let loaded = subst (λ xs. AreLoaded files (map loaded_of xs)) (sym c.as_slice.ensures.value) c.in-Ok.ensures.loaded in
    record {
      answered = all_answered c.args.lock.now files (map loaded_of c.as_slice.result.now) c.answer.result loaded c.answer.ensures.boots c.answer.ensures.proved;
      refused = all_refused files (map loaded_of c.as_slice.result.now) c.answer.result loaded c.answer.ensures.refused;
    }

pub returns-in-Err : goal.returns-in-Err
returns-in-Err c = record { answered = tt; refused = faulty_in (map (λ f. f.items) c.args.files.now) c.in-Err.cause c.in-Err.ensures.refused }
