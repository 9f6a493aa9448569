-- One deed more.
use Rattle.std.proofs.Common.{false, get_or}
use Rattle.std.proofs.lemmas.Option.{slice_get-get_or}
use Rattle.race_detector.specs.declared.act.Act.{Act}
use Rattle.race_detector.specs.declared.act.Act.TheVariants.{Touch}
use Rattle.race_detector.proofs.Acting.{one_done}
use Rattle.race_detector.proofs.detector.Detector.act_all.Goals as goal

pub loop-act-preserved : goal.loop-act-preserved
loop-act-preserved c =
    let other : Act = Touch 0 (record { event = 0; place = 0; process = 0; stores = false }) in
    let i = c.loop-act.act-index in
    let acts = c.args.acts.now in
    one_done acts i (get_or acts i other) c.args.self.now c.loop-act.self c.act.new.self (slice_get-get_or acts i other c.loop-act-test.true)
    c.loop-act.invariant c.in_ok-act.ensures.reached c.act.ensures.clocks
