use Rattle.std.proofs.Common.{◌≡◌, ◌+◌, arith, ap, not, true, false, ◌∙◌, Some}
use Rattle.lfs_check.specs.Rules.{is_dir_block}
use Rattle.lfs_check.proofs.Counts.{first_from-yes, first_from-no, first_from-none}
use Rattle.lfs_check.proofs.rules.count_fault.Goals as goal

pub returns-then-not-is_dir_block : goal.returns-then-not-is_dir_block
returns-then-not-is_dir_block c =
    let d = c.loop-d.d in
    let s : not (is_dir_block c.args.geometry c.args.header c.args.entries.now c.args.bytes.now d) ≡ true = cc in
    let t : not (is_dir_block c.args.geometry c.args.header c.args.entries.now c.args.bytes.now (0 + d)) ≡ true = ap (λ k. not (is_dir_block c.args.geometry c.args.header c.args.entries.now c.args.bytes.now k)) (let e : 0 + d ≡ d = omega arith in e) ∙ s in
    ap Some (let e : d ≡ 0 + d = omega arith in e) ∙ first_from-yes (λ d. not (is_dir_block c.args.geometry c.args.header c.args.entries.now c.args.bytes.now d)) 0 c.args.geometry.dirs d (omega arith) t c.loop-d.invariant

pub loop-d-preserved : goal.loop-d-preserved
loop-d-preserved c =
    let d = c.loop-d.d in
    let s : not (is_dir_block c.args.geometry c.args.header c.args.entries.now c.args.bytes.now d) ≡ false = cc in
    let t : not (is_dir_block c.args.geometry c.args.header c.args.entries.now c.args.bytes.now (0 + d)) ≡ false = ap (λ k. not (is_dir_block c.args.geometry c.args.header c.args.entries.now c.args.bytes.now k)) (let e : 0 + d ≡ d = omega arith in e) ∙ s in
    first_from-no (λ d. not (is_dir_block c.args.geometry c.args.header c.args.entries.now c.args.bytes.now d)) 0 c.args.geometry.dirs d (omega arith) t c.loop-d.invariant

pub returns : goal.returns
returns c = first_from-none (λ d. not (is_dir_block c.args.geometry c.args.header c.args.entries.now c.args.bytes.now d)) 0 c.args.geometry.dirs c.loop-d.d (omega arith) c.loop-d.invariant
