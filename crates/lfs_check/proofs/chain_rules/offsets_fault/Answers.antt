use Rattle.std.proofs.Common.{◌∙◌, sym, ap, ◌*◌, ◌+◌, drop, arith}
use Rattle.lfs_check.specs.Checks.{least, offsets_fault}
use Rattle.lfs_check.proofs.Surveys.{offsets_fault-more, offsets_fault-all}
use Rattle.lfs_check.proofs.chain_rules.offsets_fault.Goals as goal

pub loop-j-preserved : goal.loop-j-preserved
loop-j-preserved c =
    let found = c.least-found.ensures ∙ ap (least c.loop-j.found) c.offset_fault.ensures in
    let rest = offsets_fault c.args.geometry c.args.indexes.now (8192 * (c.loop-j.j + 1)) (drop (c.loop-j.j + 1) c.args.met.now) in
    ap (λ f. least f rest) found ∙ sym (offsets_fault-more c.args.geometry c.args.indexes.now c.args.met.now c.loop-j.j c.loop-j.found (omega arith)) ∙ c.loop-j.invariant

pub returns : goal.returns
returns c = sym (offsets_fault-all c.args.geometry c.args.indexes.now (8192 * c.loop-j.j) c.args.met.now c.loop-j.j c.loop-j.found (omega arith)) ∙ c.loop-j.invariant
