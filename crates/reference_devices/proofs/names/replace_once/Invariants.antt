-- The rows that are left to be looked at have the first that fits.
use Rattle.std.proofs.Common.{◌≡◌, drop}
use Rattle.std.specs.List.{find}
use Rattle.xinu_model.specs.Names.Mapping.{fits_row}
use Rattle.reference_devices.proofs.names.replace_once.Given as goal

abbrev pub invariant-loop-row : goal.invariant-loop-row
invariant-loop-row l = find (fits_row l.name.items) (drop l.row-index l.rows) ≡ find (fits_row l.name.items) l.rows
