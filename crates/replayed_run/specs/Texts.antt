-- What is kept of what the events of a run printed, as far as it ever went.
use Rattle.std.specs.Prelude.{◌≡◌, ◌≢◌, ◌≤◌, ◌<◌, ℕ, Bool, true, zero, suc, List, [], ◌∷◌, ◌++◌, Option, Some, None, Vec}
use Rattle.std.specs.BTreeMap.{get}
use Rattle.std.specs.Global.{Global}
use Rattle.std.specs.Ordering.{nat_cmp}
use Rattle.replayed_run.specs.declared.texts.Texts.{Texts}

-- the bytes that were kept, if any were
abbrev pub bytes_in : Option (Vec ℕ Global) → List ℕ
bytes_in None = []
bytes_in (Some text) = text.items

-- what the event after n others printed
abbrev pub kept_at : Texts → ℕ → List ℕ
kept_at t n = bytes_in (get nat_cmp t.texts n)

-- what the first n events printed, one by one
unfoldable pub kept : Texts → ℕ → List (List ℕ)
kept t zero = []
kept t (suc n) = kept t n ++ kept_at t n ∷ []

-- More may be kept, and nothing of what was kept has changed.
pub record Keeps (old new : Texts) : Type 0 where
  pub far : old.far ≤ new.far
  pub same : (n : ℕ) → n < old.far → kept_at new n ≡ kept_at old n

-- Nothing is kept of events that no run came to.
abbrev pub HasNoMore : Texts → Type 0
HasNoMore t = (n : ℕ) → t.far ≤ n → get nat_cmp t.texts n ≡ None

-- The event after n others is kept, and these bytes aren't what it printed.
pub record IsOther (t : Texts) (n : ℕ) (bytes : List ℕ) : Type 0 where
  pub before : n < t.far
  pub other : kept_at t n ≢ bytes

-- What the event after n others printed is known, and is none of what was printed now.
pub record WasOther (is_known : Bool) (t : Texts) (n : ℕ) (printed : Option (List ℕ)) : Type 0 where
  pub known : is_known ≡ true
  pub bytes : List ℕ
  pub now : printed ≡ Some bytes
  pub differs : IsOther t n bytes
