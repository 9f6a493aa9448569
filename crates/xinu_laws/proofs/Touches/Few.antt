-- A law about parts of the state: only the calls whose footprint names them need a proof of their own.
use Rattle.std.proofs.Common.{◌≡◌, ℕ, Bool, true, false, List, filter, Option, Some, None, refl, subst}
use Rattle.std.specs.List.{AllByRecursion}
use Rattle.std.specs.Prelude.{slice_index}
use Rattle.xinu_laws.specs.Touches.{reach, Touches}
use Rattle.xinu_model.specs.Calls.{calls, called}
use Rattle.xinu_model.specs.Footprints.{Footprint}
use Rattle.xinu_model.specs.Machine.{Xinu}
use Rattle.xinu_model.specs.Rows.{CallRow, found_in, done_by}
use Rattle.xinu_model.specs.Sound.State.{IsSound}
use Rattle.xinu_laws.proofs.Rows.CallRows.{of_few, number_of_row}
use Rattle.xinu_laws.proofs.Touches.Table.{call_touches}

-- What a call does with its number, the state before it and the state after it.
abbrev pub CallLaw : Type 1
CallLaw = ℕ → Xinu → Xinu → Type 0

-- A row obeys it.
abbrev pub Obeys : CallLaw → CallRow → Type 0
Obeys Law r = (a : ℕ → ℕ) (s : Xinu) → IsSound s → Law r.number s (r.effect a s).call.state

-- The law holds if nothing happens, and of any step whose footprint doesn't name the parts; and the few calls obey it whose footprint does.
pub record IsLawOfFew (names : Footprint → Bool) (Law : CallLaw) : Type 0 where
  pub same : (number : ℕ) (s : Xinu) → Law number s s
  pub others : (number : ℕ) (f : Footprint) (s u : Xinu) → names f ≡ false → Touches (reach f) s u → Law number s u
  pub few : AllByRecursion (Obeys Law) (filter (λ r. names r.touches) calls)

module _ {names : Footprint → Bool} {Law : CallLaw} (k : IsLawOfFew names Law) (number : ℕ) (args : List ℕ) (s : Xinu) (sound : IsSound s) where
  -- The call of any number obeys it.
  pub law_of_few : Law number s (called number args s).call.state
  law_of_few = by_row (found_in calls number) refl
    where
      by_row : (found : Option CallRow) → found_in calls number ≡ found → Law number s (done_by found args s).call.state
      by_row None e = k.same number s
      by_row (Some r) e = by_test (names r.touches) refl
        where
          by_test : (b : Bool) → names r.touches ≡ b → Law number s (r.effect (slice_index args) s).call.state
          by_test true h =
              subst (λ n. Law n s (r.effect (slice_index args) s).call.state) (number_of_row calls number r e)
              (of_few (Obeys Law) (λ x. names x.touches) calls k.few number r e h (slice_index args) s sound)
          by_test false h =
              k.others number r.touches s (r.effect (slice_index args) s).call.state h
              (subst (λ x. Touches (reach r.touches) s (done_by x args s).call.state) e (call_touches number args s r sound e))
