use Rattle.std.proofs.Common.{◌≡◌, ◌∙◌, sym, ap, ◌-◌, ◌+◌, drop, arith, rules}
use Rattle.lfs_check.specs.Checks.{least, rows_fault}
use Rattle.lfs_check.proofs.Surveys.{rows_fault-more, rows_fault-all}
use Rattle.lfs_check.proofs.chain_rules.rows_fault.Goals as goal

pub loop-j-preserved : goal.loop-j-preserved
loop-j-preserved c =
    let found = c.least-found.ensures ∙ ap (least c.loop-j.found) c.row_fault.ensures in
    let rest = rows_fault c.args.geometry c.args.indexes.now (c.loop-j.left - 16) (drop (c.loop-j.j + 1) c.args.met.now) in
    ap (λ left. least c.least-found.result (rows_fault c.args.geometry c.args.indexes.now left (drop (c.loop-j.j + 1) c.args.met.now))) (let e : c.saturating_sub-left.result ≡ c.loop-j.left - 16 = search rules in e)
    ∙ ap (λ f. least f rest) found ∙ sym (rows_fault-more c.args.geometry c.args.indexes.now c.loop-j.left c.args.met.now c.loop-j.j c.loop-j.found (omega arith)) ∙ c.loop-j.invariant

pub returns : goal.returns
returns c = sym (rows_fault-all c.args.geometry c.args.indexes.now c.loop-j.left c.args.met.now c.loop-j.j c.loop-j.found (omega arith)) ∙ c.loop-j.invariant
