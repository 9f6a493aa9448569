-- So many bytes fit, if they are any; and the greatest number is at most the other.
use Rattle.std.proofs.Common.{◌≡◌, ◌≤◌, ◌<◌, ◌-◌, take, length, true}
use Rattle.xinu_model.specs.Files.Writing.{greatest, have_room}
use Rattle.reference_files.proofs.room.fitting.Given as goal

abbrev pub invariant-loop-least : goal.invariant-loop-least
invariant-loop-least l = record {
  order : l.least ≤ l.most;
  within : l.most ≤ length l.bytes;
  fits : (0 < l.least) → have_room l.f (take l.least l.bytes) l.s ≡ true;
  found : greatest (λ k. have_room l.f (take k l.bytes) l.s) l.most ≡ greatest (λ k. have_room l.f (take k l.bytes) l.s) (length l.bytes);
}

abbrev pub decreases-loop-least : goal.decreases-loop-least
decreases-loop-least l = l.most - l.least
