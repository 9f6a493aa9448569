-- The segments so far have no such note.
use Rattle.std.proofs.Common.{◌≡◌, length}
use Rattle.elf_loader.specs.Notes.{settings_in}
use Rattle.elf_loader.proofs.notes.settings_of.Given as goal

abbrev pub invariant-loop-segment : goal.invariant-loop-segment
invariant-loop-segment l = settings_in l.bytes l.rest ≡ settings_in l.bytes l.initial.rest

abbrev pub decreases-loop-segment : goal.decreases-loop-segment
decreases-loop-segment l = length l.rest
