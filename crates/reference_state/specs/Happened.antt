-- What an event printed and left.
use Rattle.reference_state.specs.declared.ending.Happened.{Happened}
use Rattle.xinu_model.specs.Machine.{EventResult, Xinu}

-- the outcome of an event, by what the code answers and the state that it leaves
abbrev pub happened : Happened → Xinu → EventResult
happened h s = record { lines = h.lines.items; state = s; panics = h.panics }
