use Rattle.std.proofs.Common.{◌++◌, drop, replicate, length, ap, ◌∙◌}
use Rattle.std.proofs.lemmas.List.{drop-replicate}
use Rattle.local_files.proofs.NamedFiles.{padded_bare}
use Rattle.local_files.proofs.names.padded.Goals as goal
use Rattle.lfs_check.specs.Rules.{is_name}
use Rattle.lfs_layout.proofs.FilesSet.{text_name}
use Rattle.lfs_layout.specs.Files.{bare_name}

pub returns-clause-bare : goal.returns-clause-bare
returns-clause-bare c =
    let text = c.args.text.now in
    let n = length text in
    let is = ap (λ x. x ++ drop n (replicate 28 0)) c.copy_from_slice.ensures.after ∙ ap (λ z. text ++ z) (drop-replicate n 28 0) in
    ap bare_name is ∙ padded_bare text c.requires.name

pub returns-clause-name : goal.returns-clause-name
returns-clause-name c =
    let text = c.args.text.now in
    let n = length text in
    let is = ap (λ x. x ++ drop n (replicate 28 0)) c.copy_from_slice.ensures.after ∙ ap (λ z. text ++ z) (drop-replicate n 28 0) in
    ap (is_name 27) is ∙ text_name text c.requires.name
