use Rattle.std.proofs.Common.{◌+◌, ◌++◌, drop, ap, sym, ◌∙◌, arith, append_assoc}
use Rattle.std.proofs.lemmas.List.{append-nil}
use Rattle.std.specs.List.{flat_map}
use Rattle.lfs_layout.specs.Made.{all_files, file_of, padded}
use Rattle.lfs_layout.proofs.FilesRead.{files_more, files_all}
use Rattle.lfs_layout.proofs.data_blocks.add_files.Goals as goal

pub loop-file-preserved : goal.loop-file-preserved
loop-file-preserved c =
    let rest = drop (c.loop-file.file-index + 1) (all_files c.args.files.now) in
    let step = files_more c.args.files.now c.loop-file.file-index c.file-item.result (omega arith) c.file-item.is in
    let old = c.loop-file.image.items in
    ap (λ xs. xs ++ flat_map padded rest) c.in_ok-add_file.ensures ∙ append_assoc old (padded (file_of c.file-item.result)) (flat_map padded rest)
    ∙ sym (ap (λ fs. old ++ flat_map padded fs) step) ∙ c.loop-file.invariant

pub returns : goal.returns
returns c =
    sym (append-nil c.loop-file.image.items) ∙ sym (ap (λ fs. c.loop-file.image.items ++ flat_map padded fs) (files_all c.args.files.now c.loop-file.file-index (omega arith))) ∙ c.loop-file.invariant
