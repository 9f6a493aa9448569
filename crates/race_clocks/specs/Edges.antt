-- The edges of an event, to the process that steps and to the others.
use Rattle.std.specs.Prelude.{not, List}
use Rattle.std.specs.List.{filter}
use Rattle.happens_before.specs.Histories.{Edge, Moment, is_stepper}

-- those to the process that steps
abbrev pub edges_to : Moment → List Edge
edges_to m = filter (λ e. is_stepper m.stepper e.target) m.edges

-- those to the others
abbrev pub edges_past : Moment → List Edge
edges_past m = filter (λ e. not (is_stepper m.stepper e.target)) m.edges
