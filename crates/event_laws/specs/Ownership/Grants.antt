-- Where pools and stacks come from.
use Rattle.std.specs.Prelude.{◌≡◌, ℕ, ◌<◌, true}
use Rattle.event_laws.specs.Ownership.Apart.{holders}
use Rattle.part_laws.specs.FreeCells.{is_in_free}
use Rattle.xinu_model.specs.Machine.{Xinu}

-- An address that more pools and stacks have in u than in s was free in s.
abbrev pub GivesOnlyFree : Xinu → Xinu → Type 0
GivesOnlyFree s u = (a : ℕ) → holders s a < holders u a → is_in_free a s.parts.heap ≡ true
