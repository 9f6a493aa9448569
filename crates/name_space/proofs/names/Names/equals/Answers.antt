use Rattle.std.proofs.Common.{◌≡◌, List, map, ap, sym, ◌∙◌}
use Rattle.std.proofs.lemmas.List.{map-id}
use Rattle.std.proofs.lemmas.Simd.{map-map}
use Rattle.name_space.specs.Mounted.{row_of}
use Rattle.name_space.specs.declared.rows.Row.{Row}
use Rattle.xinu_model.specs.Names.Mounting.{NameRow}
use Rattle.name_space.proofs.names.Names.equals.Goals as goal

-- the code's row that stands for a row
row_from : NameRow → Row
row_from n = record { prefix = n.prefix; replacement = n.replacement; device = n.device }

-- rows are equal if they stand for equal rows
same_rows : (rows others : List Row) → map row_of rows ≡ map row_of others → rows ≡ others
unfolding row_from
same_rows rows others e = sym (map-map row_from row_of rows ∙ map-id rows) ∙ ap (map row_from) e ∙ map-map row_from row_of others ∙ map-id others

pub returns : goal.returns
returns c = record {
  equal = (
    (λ t. let same : c.as_slice.result.now ≡ c.as_slice-2.result.now = c.are_equal.ensures.equal.0 t in cc),
    (λ e. c.are_equal.ensures.equal.1 (c.as_slice.ensures.value ∙ same_rows _ _ (c.self.view_is ∙ e ∙ sym c.other.view_is) ∙ sym c.as_slice-2.ensures.value)),
  );
}
