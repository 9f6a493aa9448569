-- Each edge so far is of a process and a name that there are.
use Rattle.race_detector.specs.Sources.{AreWithin}
use Rattle.race_events.proofs.watcher.within.Given as goal

abbrev pub invariant-loop-edge : goal.invariant-loop-edge
invariant-loop-edge l = AreWithin l.list.items l.detector
