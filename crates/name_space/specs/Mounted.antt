-- The abstract machine's rows and mapped names that the code's stand for.
use Rattle.name_space.specs.declared.mapping.MappedName as code
use Rattle.name_space.specs.declared.rows.Row.{Row}
use Rattle.xinu_model.specs.Names.Mapping.{MappedName}
use Rattle.xinu_model.specs.Names.Mounting.{NameRow}

-- the row that one of the code's stands for
abbrev pub row_of : Row → NameRow
row_of r = record { prefix = r.prefix; replacement = r.replacement; device = r.device }

-- the mapped name that one of the code's stands for
abbrev pub mapped_of : code.MappedName → MappedName
mapped_of m = record { device = m.device; name = m.name.items }
