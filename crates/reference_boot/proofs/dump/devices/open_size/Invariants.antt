-- What is left has the file that the whole has.
use Rattle.std.proofs.Common.{◌≡◌, drop}
use Rattle.xinu_model.specs.Files.Stored.{bytes_in, file_named}
use Rattle.reference_boot.proofs.dump.devices.open_size.Given as goal

abbrev pub invariant-loop-file : goal.invariant-loop-file
invariant-loop-file l = bytes_in (file_named l.f.name (drop l.file-index l.s.files)) ≡ bytes_in (file_named l.f.name l.s.files)
