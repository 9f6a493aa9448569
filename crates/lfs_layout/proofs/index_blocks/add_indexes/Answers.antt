use Rattle.std.proofs.Common.{◌≡◌, ◌++◌, ◌∷◌, [], ap, sym, ◌∙◌, append_assoc}
use Rattle.std.proofs.lemmas.List.{append-nil}
use Rattle.lfs_check.specs.Empty.{upwards}
use Rattle.lfs_check.specs.Laid.{index_for}
use Rattle.lfs_check.specs.Fields.{numbered_values}
use Rattle.lfs_check.proofs.Numbered.{numbered_more, numbered_none}
use Rattle.lfs_layout.specs.Made.{file_of, file_index, indexes_needed}
use Rattle.lfs_layout.proofs.index_blocks.add_indexes.Goals as goal

pub loop-j-init : goal.loop-j-init
loop-j-init c = sym (append-nil c.args.indexes.now.items) ∙ ap (λ xs. c.args.indexes.now.items ++ xs) (numbered_none (file_index c.args.first c.args.data_first (file_of c.args.file.now)))

pub loop-j-preserved : goal.loop-j-preserved
loop-j-preserved c =
    let f = file_of c.args.file.now in let a = c.args.first in let b = c.args.data_first in let j = c.loop-j.j in
    let start = c.args.indexes.now.items in
    let one : c.make_index.result ≡ file_index a b f j =
    c.make_index.ensures ∙ ap (λ n. index_for j (upwards a n) (upwards b c.data_needed-data_count.result)) c.indexes_needed-count.ensures.need ∙ ap (λ n. index_for j (upwards a (indexes_needed f)) (upwards b n)) c.data_needed-data_count.ensures.need in
    c.in_ok-push.ensures.items ∙ ap (λ x. c.loop-j.indexes.items ++ x ∷ []) one ∙ ap (λ xs. xs ++ file_index a b f j ∷ []) c.loop-j.invariant
    ∙ append_assoc start (numbered_values (file_index a b f) j) (file_index a b f j ∷ []) ∙ ap (λ xs. start ++ xs) (sym (numbered_more (file_index a b f) j))
