-- Who waits for a disk: what is left of the requests of a process that was killed.
use Rattle.std.specs.Prelude.{ℕ, ◌==◌, Bool, false, not, if◌then◌else◌, List, [], ◌∷◌, ◌++◌, filter, Option, Some, None, IsSome}
use Rattle.std.specs.List.{AllByRecursion}

-- whether this is the caller
abbrev pub is_caller : ℕ → Option ℕ → Bool
is_caller p None = false
is_caller p (Some q) = q == p

-- the caller, if it lives
abbrev pub living : Option ℕ → List ℕ
living None = []
living (Some p) = p ∷ []

-- What of a request is its caller.
module _ {A : Type 0} (caller : A → Option ℕ) where
  -- the living callers, in order
  abbrev pub callers : List A → List ℕ
  callers [] = []
  callers (a ∷ rest) = living (caller a) ++ callers rest

  -- only the first request may have no caller
  abbrev pub HaveCallers : List A → Type 0
  HaveCallers [] = Unit {0}
  HaveCallers (a ∷ rest) = AllByRecursion (λ b. IsSome (caller b)) rest

  -- the requests that aren't p's
  abbrev pub others : ℕ → List A → List A
  others p requests = filter (λ a. not (is_caller p (caller a))) requests

  -- p was killed: the first request goes on, without a caller if it was p's, and p's others are taken out
  abbrev pub given_up : (A → A) → ℕ → List A → List A
  given_up orphaned p [] = []
  given_up orphaned p (a ∷ rest) = (if is_caller p (caller a) then orphaned a else a) ∷ others p rest
