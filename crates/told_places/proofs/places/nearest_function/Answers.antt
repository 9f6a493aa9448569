-- One file more, ahead of the others.
use Rattle.std.proofs.Common.{◌≡◌, ◌∙◌, ◌-◌, suc, ap, arith}
use Rattle.elf_symbols.specs.Functions.{function_at}
use Rattle.told_places.proofs.Ahead.{file_ahead}
use Rattle.told_places.proofs.places.nearest_function.Goals as goal

pub loop-left-preserved : goal.loop-left-preserved
loop-left-preserved c =
    let n = c.loop-left.left in
    let more : n ≡ suc (n - 1) = omega (arith, c.loop-left-test.true) in
    let at = c.function_at.ensures.place ∙ ap (λ b. function_at b c.args.address) c.as_slice.ensures.value in (
      omega (arith, c.loop-left.invariant.0),
      file_ahead (λ v. v.items) c.args.files.now n (n - 1) c.args.address c.index-files-left.result _ _ _ more c.loop-left.invariant.0 c.index-files-left.is
          at c.loop-left.invariant.1 c.nearer-best.ensures.place,
    )
