-- What a good completion tells of the calls under way.
use Rattle.std.specs.Prelude.{◌≡◌, ℕ, List, [], ◌∷◌, length, Option, Some, None, ℤ}
use Rattle.xinu_base.specs.declared.lines.FileMoment.{FileMoment}
use Rattle.xinu_model.specs.Files.Sound.{IsSoundWork}
use Rattle.xinu_model.specs.Files.Work.{FileNote, FileStep}
use Rattle.xinu_model.specs.Memory.{ram_size}

-- the caller of a call that took effect goes before others
abbrev pub caller_first : Option ℤ → Option ℕ → List (Option ℕ) → List (Option ℕ)
caller_first None caller all = all
caller_first (Some reply) caller all = caller ∷ all

-- the callers of the calls that took effect, in order; a killed one is nobody
abbrev pub callers_told : List FileNote → List (Option ℕ)
callers_told [] = []
callers_told (n ∷ notes) = caller_first n.reply n.caller (callers_told notes)

-- The calls under way are sound, and RAM has its size.
pub record IsSoundStep (x : FileStep) : Type 0 where
  pub work : IsSoundWork x.work
  pub memory : length x.memory ≡ ram_size

-- what the first note tells
abbrev pub first_moment : List FileNote → Option FileMoment
first_moment [] = None
first_moment (n ∷ notes) = Some n.moment
