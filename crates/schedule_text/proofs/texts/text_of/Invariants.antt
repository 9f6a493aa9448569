-- The lines so far, and the events that are still to be written.
use Rattle.std.proofs.Common.{◌≡◌, ◌+◌, ◌*◌, ◌≤◌, ◌<◌, ◌++◌, true, length, replicate, drop, take}
use Rattle.std.specs.List.{All}
use Rattle.schedule_text.specs.Written.{schedule_text, is_joined, IsWritten}
use Rattle.schedule_text.proofs.texts.text_of.Given as goal

abbrev pub invariant-loop-next : goal.invariant-loop-next
invariant-loop-next l = record {
  text : l.text.items ++ schedule_text (replicate l.count l.event ++ drop l.next-index l.events) ≡ schedule_text l.events;
  counts : 1 < l.count → is_joined l.event l.event ≡ true;
  few : l.count ≤ l.next-index;
  written : All IsWritten (take l.next-index l.events);
  size : length l.text.items + 18 * l.count ≤ 18 * l.next-index;
}
