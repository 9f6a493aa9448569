use Rattle.std.proofs.Common.{◌≡◌, ◌+◌, ◌-◌, ◌++◌, suc, ap, sym, ◌∙◌, arith, append_assoc}
use Rattle.std.specs.List.{flat_map}
use Rattle.lfs_check.specs.Empty.{upwards}
use Rattle.lfs_layout.specs.Made.{free_data, geometry_2}
use Rattle.lfs_layout.proofs.FilesRead.{flat_more}
use Rattle.lfs_layout.proofs.data_blocks.add_free.Goals as goal

pub loop-number-preserved : goal.loop-number-preserved
loop-number-preserved c =
    let f = free_data (geometry_2 c.args.blocks) in let a = c.args.first in let n = c.loop-number.number in
    let start = c.args.image.now.items in let m = n - a in
    let low = c.loop-number.auto.number in
    c.in_ok-extend_from_slice.ensures.items ∙ ap (λ xs. xs ++ c.make_free.result) c.loop-number.invariant ∙ ap (λ b. (start ++ flat_map f (upwards a m)) ++ b) c.make_free.ensures
    ∙ append_assoc start (flat_map f (upwards a m)) (f n) ∙ ap (λ k. start ++ (flat_map f (upwards a m) ++ f k)) (let e : n ≡ a + m = omega (arith, low) in e)
    ∙ ap (λ xs. start ++ xs) (sym (flat_more f a m)) ∙ ap (λ k. start ++ flat_map f (upwards a k)) (let e : suc m ≡ n + 1 - a = omega (arith, low) in e)
