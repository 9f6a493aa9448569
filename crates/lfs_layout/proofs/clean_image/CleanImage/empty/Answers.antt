use Rattle.std.proofs.Common.{[], List, ℕ, ap, sym, ◌∙◌, subst, refl}
use Rattle.lfs_layout.specs.Files.{files_of}
use Rattle.lfs_layout.specs.Images.{IsCleanImage}
use Rattle.lfs_layout.proofs.MadeClean.{made_clean, made_sorted, empty_room}
use Rattle.lfs_layout.proofs.clean_image.CleanImage.empty.Goals as goal

pub invariant_of-result : goal.invariant_of-result
invariant_of-result c =
    let P : List ℕ → Type 0 = λ xs. IsCleanImage xs in
    subst P (sym c.in-Ok.ensures) (made_clean c.args.blocks [] (empty_room c.args.blocks c.requires.low c.requires.high) refl)

pub returns-in-Ok-clause-files : goal.returns-in-Ok-clause-files
returns-in-Ok-clause-files c =
    ap files_of c.in-Ok.ensures ∙ made_sorted c.args.blocks [] (empty_room c.args.blocks c.requires.low c.requires.high) refl
