use Rattle.std.proofs.Common.{◌++◌, drop, replicate, length, ap, ◌∙◌}
use Rattle.std.proofs.lemmas.List.{drop-replicate}
use Rattle.lfs_layout.proofs.clean_image.pad.Goals as goal

pub returns : goal.returns
returns c =
    let n = length c.args.name.now in
    ap (λ x. x ++ drop n (replicate 28 0)) c.copy_from_slice.ensures.after ∙ ap (λ z. c.args.name.now ++ z) (drop-replicate n 28 0)
