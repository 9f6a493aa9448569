-- The layout of the code.
use Rattle.std.specs.Prelude.{ℕ, List, Option, Some, None}
use Rattle.std.specs.Borrow.{Bor}
use Rattle.rv_asm.specs.Layouts as spec
use Rattle.rv_asm.specs.CodeLabels.{found}
use Rattle.rv_asm.specs.declared.layouts.Layout.{Layout}

-- a name that may be there
abbrev pub seen_name : Option (Bor (List ℕ)) → Option (List ℕ)
seen_name None = None
seen_name (Some name) = Some name.now

-- the layout that the code has
abbrev pub seen_layout : Layout → spec.Layout
seen_layout l = record {
  place = l.place;
  entry = seen_name l.entry;
  priority = l.priority;
  stack = l.stack;
  labels = found l.labels;
  begun = l.begun;
  at = l.at;
}
