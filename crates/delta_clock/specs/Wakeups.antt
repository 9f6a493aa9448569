-- When the sleepers wake, and who is taken out of the lists by a tick.
use Rattle.std.specs.Prelude.{◌≡◌, ◌==◌, ℕ, pos, not, filter, List, [], ◌∷◌, None}
use Rattle.queue_table.specs.Lists.{Entry, IsDelta, KeysAtLeast, delays, list_at, place}
use Rattle.xinu_model.specs.Sound.Tables.{count_in}

-- The sleepers' queue, 129, is a delta list, and nobody in it was to wake by now.
pub record WakesLater (ls : List (List Entry)) : Type 0 where
  pub delta : IsDelta (list_at ls 129)
  pub later : KeysAtLeast (pos 1) (delays (list_at ls 129))

-- the sleepers but those that wake at a tick
abbrev pub not_due : ℕ → List (ℕ × ℕ) → List (ℕ × ℕ)
not_due tick sleepers = filter (λ e. not (e.1 == tick)) sleepers

-- these processes are in no list, and none of them is here twice
abbrev pub AreOut : List (List Entry) → List ℕ → Type 0
AreOut ls [] = Unit {0}
AreOut ls (p ∷ ps) = (place ls p ≡ None) × (count_in p ps ≡ 0) × AreOut ls ps
