-- The place that was found is the first.
use Rattle.std.proofs.Common.{sym}
use Rattle.gdb_packets.proofs.Cuts.{place_of, no_place}
use Rattle.gdb_packets.specs.Units.{is_mark}
use Rattle.gdb_packets.proofs.units.mark_in.Goals as goal

pub returns-in-Some-clause-place : goal.returns-in-Some-clause-place
returns-in-Some-clause-place c = sym (place_of is_mark c.args.bytes.now c.in-Some.place (sym c.in-Some.ensures.place))

pub returns-in-None-clause-place : goal.returns-in-None-clause-place
returns-in-None-clause-place c = no_place is_mark c.args.bytes.now (sym c.in-None.ensures.place)
