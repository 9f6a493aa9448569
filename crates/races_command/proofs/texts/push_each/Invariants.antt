-- The moments so far, and those that are left.
use Rattle.std.proofs.Common.{◌≡◌, ◌++◌, drop}
use Rattle.std.specs.List.{flat_map}
use Rattle.preemptions.specs.Moments.{moments, moments_from}
use Rattle.races_command.specs.Shown.{place_text}
use Rattle.races_command.proofs.texts.push_each.Given as goal

abbrev pub invariant-loop-i : goal.invariant-loop-i
invariant-loop-i l =
    l.text.items ++ flat_map place_text (moments_from l.i (drop l.i l.places) l.base) ≡ l.fn.text.items ++ flat_map place_text (moments l.places l.base)
