-- How outlines are written: what is known at a place, of some registers and of the guarded word.
use Rattle.std.specs.Prelude.{ℕ, List, [], ◌∷◌, replicate, slice_set, Some, None}
use Rattle.program_logic.specs.Terms.{constant}
use Rattle.program_logic.specs.declared.knowledge.Facts.{Facts}
use Rattle.program_logic.specs.declared.outline.Place.{Place}
use Rattle.program_logic.specs.declared.values.Slot.{Slot}
use Rattle.program_logic.specs.declared.values.Slot.TheVariants.{Known, Unknown}
use Rattle.program_logic.specs.declared.values.Term.{Term}

-- the value of a register
pub record Value : Type 0 where
  pub register : ℕ
  pub term : Term

abbrev pub a0 : ℕ → Value
a0 n = record { register = 10; term = constant n }

abbrev pub a7 : ℕ → Value
a7 n = record { register = 17; term = constant n }

abbrev pub ra : ℕ → Value
ra n = record { register = 1; term = constant n }

abbrev pub t0 : Term → Value
t0 t = record { register = 5; term = t }

abbrev pub t1 : Term → Value
t1 t = record { register = 6; term = t }

-- a number of times the rounds, and a number more
abbrev pub rounds_by : ℕ → ℕ → Term
rounds_by times plus = record { times = times; plus = plus }

-- all registers, of which these values are known
abbrev pub known : List Value → List Slot
known [] = replicate 32 Unknown
known (x ∷ xs) = slice_set (known xs) x.register (Known x.term)

abbrev pub without : List Value → Facts
without xs = record { registers = known xs; word = Unknown }

abbrev pub with_word : Term → List Value → Facts
with_word t xs = record { registers = known xs; word = Known t }

-- a place to which a process comes without the token, with it, or either way
abbrev pub outside : ℕ → List Value → Place
outside word xs = record { word = word; free = Some (without xs); held = None }

abbrev pub inside : ℕ → Term → List Value → Place
inside word t xs = record { word = word; free = None; held = Some (with_word t xs) }

abbrev pub either : ℕ → List Value → Term → List Value → Place
either word xs t ys = record { word = word; free = Some (without xs); held = Some (with_word t ys) }
