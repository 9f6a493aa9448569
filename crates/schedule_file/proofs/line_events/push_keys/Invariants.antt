-- The repeats so far and the keys of the bytes so far.
use Rattle.std.proofs.Common.{◌≡◌, ◌++◌, map, take}
use Rattle.std.specs.List.{All}
use Rattle.xinu_base.specs.declared.events.Event.TheVariants.{Key}
use Rattle.schedule_file.specs.Repeats.{IsRepeat, repeats_events}
use Rattle.schedule_file.proofs.line_events.push_keys.Given as goal

abbrev pub invariant-loop-byte : goal.invariant-loop-byte
invariant-loop-byte l = record {
  events : repeats_events l.repeats.items ≡ repeats_events l.fn.repeats.items ++ map Key (take l.byte-index l.bytes);
  each : All IsRepeat l.repeats.items;
}
