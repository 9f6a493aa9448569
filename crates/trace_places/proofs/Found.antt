-- What is found of a text from the start of the machine on is found of the whole text, and when.
use Rattle.std.proofs.Common.{ℕ, List, None, Option, Some}
use Rattle.std.specs.Prelude.{IfSome}
use Rattle.xinu_base.specs.declared.events.Event.{Event}
use Rattle.xinu_model.specs.Boot.{Disks, Loaded}
use Rattle.xinu_model.specs.Machine.{Xinu}
use Rattle.trace_places.specs.Finding.{Finds}
use Rattle.trace_places.specs.Moments.{IsWhen}
use Rattle.trace_places.specs.Places.{mistake_of}
use Rattle.trace_places.specs.Reading.{FoundAs, place_of}
use Rattle.trace_places.specs.declared.mistakes.Mistake.{Mistake}
use Rattle.trace_places.proofs.Whole.{StartsSo, is_mistake, is_text}

pub finds : (disks : Disks) (images : List Loaded) (events : List Event) (s : Xinu) (bytes : List ℕ) (found : Option Mistake)
    → StartsSo disks images s → FoundAs (mistake_of s events bytes) found
    → IfSome found (λ m. IsWhen s events bytes m.left.now m.due m.when) → Finds disks images events bytes found
finds disks images events s bytes None k none when = is_text disks images events s bytes k none
finds disks images events s bytes (Some m) k some when = record {
  place = is_mistake disks images events s bytes (place_of m) k some;
  moment = record { start = s; boots = k.boots; when = when };
}
