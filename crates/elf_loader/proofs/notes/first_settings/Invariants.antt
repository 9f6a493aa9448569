-- The notes so far aren't such a note.
use Rattle.std.proofs.Common.{◌≡◌, length}
use Rattle.elf_loader.specs.Notes.{settings_of}
use Rattle.elf_loader.proofs.notes.first_settings.Given as goal

abbrev pub invariant-loop-rest : goal.invariant-loop-rest
invariant-loop-rest l = settings_of l.rest ≡ settings_of l.initial.bytes

abbrev pub decreases-loop-rest : goal.decreases-loop-rest
decreases-loop-rest l = length l.rest
