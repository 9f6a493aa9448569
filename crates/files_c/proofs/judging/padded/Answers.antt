use Rattle.std.proofs.Common.{◌++◌, drop, replicate, length, ap, ◌∙◌}
use Rattle.std.proofs.lemmas.List.{drop-replicate}
use Rattle.files_c.proofs.judging.padded.Goals as goal

pub returns : goal.returns
returns c =
    let n = length c.args.text.now in
    record { padded = ap (λ x. x ++ drop n (replicate 28 0)) c.copy_from_slice.ensures.after ∙ ap (λ z. c.args.text.now ++ z) (drop-replicate n 28 0) }
