-- The rows that are left to be looked at have the first that fits.
use Rattle.std.proofs.Common.{◌≡◌, drop, map}
use Rattle.name_space.specs.Mounted.{row_of}
use Rattle.std.specs.List.{find}
use Rattle.xinu_model.specs.Names.Mapping.{fits_row}
use Rattle.name_space.proofs.names.Names.replace_once.Given as goal

abbrev pub invariant-loop-row : goal.invariant-loop-row
invariant-loop-row l =
    find (fits_row l.name) (map row_of (drop l.row-index l.row-items)) ≡ find (fits_row l.name) (map row_of l.row-items)
