use Rattle.std.proofs.Common.{arith, ◌≡◌, ◌≤◌, ◌∙◌, sym, ap, cond, nat_eq, true, false, eq-eqb, drop, length, length-drop, bytes_eq}
use Rattle.std.proofs.lemmas.List.{take_all}
use Rattle.std.proofs.lemmas.Bool.Decides.{nat_tests}
use Rattle.lfs_format.specs.Directory.{dir_ending}
use Rattle.lfs_check.specs.Rules.{are_zeros}
use Rattle.lfs_check.proofs.rules.ends_right.Goals as goal

pub returns-then-geometry-eq1 : goal.returns-then-geometry-eq1
returns-then-geometry-eq1 c =
    let b = c.args.block.now in
    let t : nat_eq c.args.geometry.dirs 1 ≡ true = eq-eqb _ _ c.if-geometry-eq1.true in
    let short : length (drop 492 b) ≤ 20 = omega (arith, length-drop 492 b) in
    c.is_zeros.ensures ∙ ap are_zeros (take_all 20 (drop 492 b) short) ∙ sym (ap (λ v. cond v (are_zeros (drop 492 b)) (bytes_eq (drop 480 b) dir_ending)) t)

pub returns-else-geometry-eq1 : goal.returns-else-geometry-eq1
returns-else-geometry-eq1 c =
    let b = c.args.block.now in
    let t : nat_eq c.args.geometry.dirs 1 ≡ false = (let ne = c.if-geometry-eq1.false in grind (arith, nat_tests)) in
    let short : length (drop 480 b) ≤ 32 = omega (arith, length-drop 480 b) in
    c.eq.ensures ∙ ap (λ x. bytes_eq x c.dir_ending.result) (take_all 32 (drop 480 b) short) ∙ ap (bytes_eq (drop 480 b)) c.dir_ending.ensures
    ∙ sym (ap (λ v. cond v (are_zeros (drop 492 b)) (bytes_eq (drop 480 b) dir_ending)) t)
