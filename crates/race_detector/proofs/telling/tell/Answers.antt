-- The next entry is told.
use Rattle.std.proofs.Common.{◌∙◌, ◌≡◌, ◌<◌, ◌++◌, IfSome, Option, Some, ap, arith, length, subst}
use Rattle.race_clocks.specs.Rows.{knows}
use Rattle.race_entries.specs.Entries.{entries_of, last}
use Rattle.race_entries.specs.declared.entry.Entry.{Entry}
use Rattle.race_detector.specs.Told.{is_told, listed, pair_with, pairs_of}
use Rattle.race_detector.proofs.Listing.{last_next, told_next}
use Rattle.race_detector.proofs.telling.tell.Goals as goal

pub loop-i-preserved : goal.loop-i-preserved
loop-i-preserved c =
    let b = c.args.byte in
    let bytes = c.args.entries.now in
    let es = entries_of bytes b in
    let clock = knows c.args.clocks.now c.args.access.process in
    let now = c.loop-i.told.items in
    let low : c.loop-i.i < length es = omega (arith, c.loop-i-test.true, c.count-i-end.ensures.count) in
    let one = ap (λ (o : Option Entry). now ++ pairs_of clock b c.args.access (listed o)) c.entry.ensures.entry in
    let P = λ (o : Option Entry). IfSome o (λ e. last bytes e.stores b e.process ≡ Some e) in
    record {
      told = told_next (pair_with b c.args.access) (is_told clock c.args.access) es c.args.told.now.items now c.tell_one.new.told.items
          c.loop-i.i low c.loop-i.invariant.told (c.in_ok-tell_one.ensures.told ∙ one);
      only = last_next bytes b c.loop-i.i c.loop-i.invariant.only (λ e at. subst P (c.entry.ensures.entry ∙ at) c.entry.ensures.only);
    }
