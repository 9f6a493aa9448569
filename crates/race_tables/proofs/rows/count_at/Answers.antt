use Rattle.std.proofs.Common.{◌∙◌, sym, ap, arith, set}
use Rattle.race_tables.specs.Rows.{Row}
use Rattle.race_tables.proofs.Places.{count-le-sum, counted_at-is}
use Rattle.race_tables.proofs.rows.count_at.Goals as goal

pub count_one-requires : goal.count_one-requires
count_one-requires c =
    record { fits = omega (arith, c.requires.fits, count-le-sum c.args.table.now c.args.place c.index-table-place.result c.requires.inside) }

pub returns : goal.returns
returns c = record {
  counted = ap (λ (row : Row). set c.args.table.now c.args.place row) c.count_one.ensures.counted
      ∙ sym (counted_at-is c.args.place c.args.table.now c.index-table-place.result c.requires.inside);
}
