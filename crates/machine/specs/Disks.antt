-- What an event does to the disk with files.
use Rattle.std.specs.Prelude.{◌≡◌, ℕ, List}
use Rattle.local_files.specs.Resting.{ServesDisk}
use Rattle.xinu_base.specs.declared.events.Event.{Event}
use Rattle.xinu_base.specs.declared.events.Event.TheVariants as event
use Rattle.xinu_model.specs.Files.Work.{FileWork}

-- Any event but a good completion leaves the disk with files as it is. That changes at most one block of it, and none if no call on files is
-- under way or the first will be refused or writes no file.
abbrev pub ChangesDisk : Event → FileWork → List ℕ → List ℕ → Type 0
ChangesDisk event.Disk1 w old new = ServesDisk w old new
ChangesDisk _ w old new = new ≡ old
