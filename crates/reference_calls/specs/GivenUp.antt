-- The first step of giving up what a process asked for.
use Rattle.std.specs.Prelude.{ℕ, if◌then◌else◌, List, [], ◌∷◌, Option}
use Rattle.xinu_model.specs.RawDisk.Callers.{is_caller}

-- the first request, without a caller if it was p's, before the others
abbrev pub first_given_up : {A : Type 0} → (A → Option ℕ) → (A → A) → ℕ → List A → List A
first_given_up caller orphaned p [] = []
first_given_up caller orphaned p (a ∷ rest) = (if is_caller p (caller a) then orphaned a else a) ∷ rest
