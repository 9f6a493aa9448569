-- The shapes of the code, as the definition has them.
use Rattle.workload.specs.Groups.{Shape}
use Rattle.workload.specs.declared.shapes.Shape.{Shape as ShapeValue}

abbrev pub seen : ShapeValue → Shape
seen shape = record { call = shape.call; args = shape.args.now }
