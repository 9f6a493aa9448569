-- The entries so far are told.
use Rattle.std.proofs.Common.{◌≡◌, ◌++◌, take}
use Rattle.race_clocks.specs.Rows.{knows}
use Rattle.race_entries.specs.Entries.{entries_of}
use Rattle.race_detector.specs.Told.{pairs_of}
use Rattle.race_detector.proofs.Listing.{AreLast}
use Rattle.race_detector.proofs.telling.tell.Given as goal

abbrev pub invariant-loop-i : goal.invariant-loop-i
invariant-loop-i l = record {
  told : l.told.items ≡
      l.initial.told.items ++ pairs_of (knows l.clocks l.access.process) l.byte l.access (take l.i (entries_of l.entries l.byte));
  only : AreLast l.entries l.byte l.i;
}
