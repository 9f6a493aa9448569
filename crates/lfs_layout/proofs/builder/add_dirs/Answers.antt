use Rattle.std.proofs.Common.{ℕ, List, ◌++◌, ap, sym, ◌∙◌, append_assoc}
use Rattle.std.proofs.lemmas.List.{append-nil}
use Rattle.lfs_check.specs.Fields.{joined}
use Rattle.lfs_check.proofs.Numbered.{joined_more, joined_none}
use Rattle.lfs_format.specs.Directory.{dir_bytes}
use Rattle.lfs_layout.specs.Made.{dir_for}
use Rattle.lfs_layout.proofs.builder.add_dirs.Goals as goal

pub loop-d-init : goal.loop-d-init
loop-d-init c = sym (append-nil c.args.image.now.items) ∙ ap (λ xs. c.args.image.now.items ++ xs) (joined_none (λ d. dir_bytes (dir_for c.args.header c.args.entries.now d)))

pub loop-d-preserved : goal.loop-d-preserved
loop-d-preserved c =
    let f : ℕ → List ℕ = (λ d. dir_bytes (dir_for c.args.header c.args.entries.now d)) in let d = c.loop-d.d in let start = c.args.image.now.items in
    c.in_ok-extend_from_slice.ensures.items ∙ ap (λ b. c.loop-d.image.items ++ b) c.make_dir.ensures ∙ ap (λ xs. xs ++ f d) c.loop-d.invariant
    ∙ append_assoc start (joined f d) (f d) ∙ ap (λ xs. start ++ xs) (sym (joined_more f d))
