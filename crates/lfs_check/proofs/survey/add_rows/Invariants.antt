use Rattle.std.proofs.Common.{◌≡◌, ◌++◌, drop}
use Rattle.std.specs.List.{flat_map}
use Rattle.lfs_check.specs.Checks.{data_row}
use Rattle.lfs_check.proofs.survey.add_rows.Given as goal

abbrev pub invariant-loop-j : goal.invariant-loop-j
invariant-loop-j l = l.numbers.items ++ flat_map (data_row l.indexes) (drop l.j l.met) ≡ l.initial.numbers.items ++ flat_map (data_row l.indexes) l.met
