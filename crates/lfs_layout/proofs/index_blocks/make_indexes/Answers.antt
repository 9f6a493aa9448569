use Rattle.std.proofs.Common.{◌≡◌, ◌+◌, ◌-◌, ◌++◌, ◌∷◌, [], suc, map, ap, sym, ◌∙◌, arith, append_assoc}
use Rattle.std.proofs.lemmas.List.{append-nil}
use Rattle.lfs_check.specs.Geometries.{first_data}
use Rattle.lfs_check.specs.Empty.{upwards}
use Rattle.lfs_layout.specs.Made.{all_files, indexes_for, index_end, free_index, geometry_2}
use Rattle.lfs_layout.proofs.FilesRead.{map_upwards_more}
use Rattle.lfs_layout.proofs.index_blocks.make_indexes.Goals as goal

pub loop-i-init : goal.loop-i-init
loop-i-init c =
    let g = geometry_2 c.args.blocks in let L = all_files c.args.files.now in
    let used = indexes_for 0 (first_data g) L in
    let t = c.index_total-i.ensures in
    c.in_ok-indexes.ensures ∙ sym (append-nil used) ∙ ap (λ k. used ++ map (free_index g) (upwards (index_end L) k)) (let e : 0 ≡ c.index_total-i.result - index_end L = omega (arith, t) in e)

pub loop-i-preserved : goal.loop-i-preserved
loop-i-preserved c =
    let g = geometry_2 c.args.blocks in let L = all_files c.args.files.now in let E = index_end L in
    let used = indexes_for 0 (first_data g) L in
    let i = c.loop-i.i in let m = i - E in
    let t = c.index_total-i.ensures in let low = c.loop-i.auto.i in
    let free = map (free_index g) (upwards E m) in
    c.in_ok-push.ensures.items ∙ ap (λ x. c.loop-i.indexes.items ++ x ∷ []) c.make_free.ensures ∙ ap (λ xs. xs ++ free_index g i ∷ []) c.loop-i.invariant
    ∙ append_assoc used free (free_index g i ∷ []) ∙ ap (λ k. used ++ (free ++ free_index g k ∷ [])) (let e : i ≡ E + m = omega (arith, t, low) in e)
    ∙ ap (λ xs. used ++ xs) (sym (map_upwards_more (free_index g) E m)) ∙ ap (λ k. used ++ map (free_index g) (upwards E k)) (let e : suc m ≡ i + 1 - E = omega (arith, t, low) in e)
