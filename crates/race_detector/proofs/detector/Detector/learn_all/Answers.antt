-- One edge more.
use Rattle.std.proofs.Common.{◌≡◌, length, arith, get_or}
use Rattle.std.proofs.lemmas.Option.{slice_get-get_or}
use Rattle.race_detector.specs.declared.known.Known.{Known}
use Rattle.race_detector.proofs.Many.{all_learnt, one_learnt}
use Rattle.race_detector.proofs.detector.Detector.learn_all.Goals as goal

pub loop-edge-preserved : goal.loop-edge-preserved
loop-edge-preserved c =
    let nobody : Known = record { process = 0; name = 0 } in
    let i = c.loop-edge.edge-index in
    let edge : Known = get_or c.args.edges.now i nobody in
    one_learnt c.args.edges.now i edge c.args.self.now c.loop-edge.self c.learn.new.self
    (slice_get-get_or c.args.edges.now i nobody c.loop-edge-test.true) c.loop-edge.invariant
    c.learn.ensures.learnt c.learn.ensures.kept c.learn.ensures.entries c.learn.ensures.told

pub returns-clause-learnt : goal.returns-clause-learnt
returns-clause-learnt c =
    let last : c.loop-edge.edge-index ≡ length c.args.edges.now = omega arith in
    all_learnt c.args.edges.now c.loop-edge.edge-index c.args.self.now c.loop-edge.self last c.loop-edge.invariant
