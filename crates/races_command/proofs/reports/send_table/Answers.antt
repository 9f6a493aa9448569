use Rattle.std.proofs.Common.{◌≤◌, length, arith}
use Rattle.std.proofs.lemmas.List.Elements.{All-weaker}
use Rattle.preemptions.specs.Placements.{IsPlacement}
use Rattle.race_tables.specs.Rows.{Row}
use Rattle.races_command.proofs.reports.send_table.Goals as goal

pub table_text-requires-clause-few : goal.table_text-requires-clause-few
table_text-requires-clause-few g c =
    All-weaker (λ (row : Row). IsPlacement c.args.most c.args.stretch row.first) (λ (row : Row). length row.first ≤ 3)
    (λ row is. omega (arith, is.few, c.requires.most)) c.args.table.now c.requires.placements
