use Rattle.std.proofs.Common.{◌≡◌, ◌∙◌, sym, ap, ◌-◌, ◌+◌, ◌&&◌, false, true, drop, slice_index, arith}
use Rattle.lfs_check.specs.Checks.{row_fits, number_fits}
use Rattle.lfs_check.proofs.Surveys.{row_fits_more}
use Rattle.lfs_check.proofs.chain_rules.are_right.Goals as goal

pub returns-then-not-is_right : goal.returns-then-not-is_right
returns-then-not-is_right c =
    let test : number_fits c.args.geometry (c.args.wanted - c.loop-k.k) (slice_index c.args.numbers.now c.loop-k.k) ≡ false = cc in
    sym (sym c.loop-k.invariant ∙ row_fits_more c.args.geometry c.args.wanted c.args.numbers.now c.loop-k.k (omega arith)
    ∙ ap (λ b. b && row_fits c.args.geometry (c.args.wanted - (c.loop-k.k + 1)) (drop (c.loop-k.k + 1) c.args.numbers.now)) test)

pub loop-k-preserved : goal.loop-k-preserved
loop-k-preserved c =
    let test : number_fits c.args.geometry (c.args.wanted - c.loop-k.k) (slice_index c.args.numbers.now c.loop-k.k) ≡ true = cc in
    sym (sym c.loop-k.invariant ∙ row_fits_more c.args.geometry c.args.wanted c.args.numbers.now c.loop-k.k (omega arith)
    ∙ ap (λ b. b && row_fits c.args.geometry (c.args.wanted - (c.loop-k.k + 1)) (drop (c.loop-k.k + 1) c.args.numbers.now)) test)
