-- Each call keeps each address claimed at most once. Only the calls whose footprint names the heap, stacks or where pools lie need a proof.
use Rattle.std.proofs.Common.{◌≡◌, ℕ, Bool, true, false, ◌||◌, List, refl}
use Rattle.std.proofs.lemmas.Bool.{or_parts}
use Rattle.event_laws.specs.Ownership.Apart.{IsApart}
use Rattle.xinu_model.specs.Calls.{calls, called}
use Rattle.xinu_model.specs.Footprints.{Footprint}
use Rattle.event_laws.specs.Ownership.GivingAway.{gives_back}
use Rattle.xinu_model.specs.Machine.{Xinu}
use Rattle.xinu_model.specs.Sound.State.{IsSound}
use Rattle.xinu_laws.specs.Touches.{reach, KeepsPlaces, Touches}
use Rattle.xinu_model.specs.Words.{half}
use Rattle.event_laws.proofs.Ownership.Claims.{apart_kept}
use Rattle.event_laws.proofs.Ownership.Memory.{FreesNothingHeld, apart_getmem, apart_freemem, apart_getstk, apart_freestk, apart_mkbufpool}
use Rattle.event_laws.proofs.Ownership.Processes.{apart_create, apart_exit, apart_kill}
use Rattle.xinu_laws.proofs.Rows.RowByRow.{◌⨾◌}
use Rattle.xinu_laws.proofs.Touches.Kept.{keeps_places}
use Rattle.xinu_laws.proofs.Touches.Few.{CallLaw, IsLawOfFew, law_of_few}

-- What the call of a number does keeps each address claimed at most once; a call that gives memory back does if nothing held becomes free.
abbrev pub KeepsApart : CallLaw
KeepsApart number s u = IsApart s → (gives_back number ≡ true → FreesNothingHeld s u) → IsApart u

-- whether a footprint names heap, stacks or ranges
abbrev pub names_places : Footprint → Bool
names_places f = f.heap || (f.stacks || f.ranges)

-- a step that may change none of these keeps the places of all
pub places_stay : (f : Footprint) (s u : Xinu) → names_places f ≡ false → Touches (reach f) s u → KeepsPlaces s u
places_stay f s u e t =
    let h = or_parts f.heap (f.stacks || f.ranges) e in
    let k = or_parts f.stacks f.ranges h.1 in
    keeps_places t h.0 k.0 k.1

-- Each call keeps each address claimed at most once: those that may change one of these, one by one.
apart_law : IsLawOfFew names_places KeepsApart
unfolding calls
apart_law = record {
  same = λ number s apart none. apart;
  others = λ number f s u e t apart none. apart_kept (places_stay f s u e t) apart;
  few =
      (λ a s k apart none. apart_create (a 0) (a 1) (half (a 2)) (a 3) (a 4) (a 5) s apart) ⨾
      (λ a s k apart none. apart_kill (a 0) s apart) ⨾
      (λ a s k apart none. apart_exit s apart) ⨾
      (λ a s k apart none. apart_getmem (a 0) s apart) ⨾
      (λ a s k apart none. apart_freemem (a 0) (a 1) s apart (none refl)) ⨾
      (λ a s k apart none. apart_getstk (a 0) s apart) ⨾
      (λ a s k apart none. apart_freestk (a 0) (a 1) s apart (none refl)) ⨾
      (λ a s k apart none. apart_mkbufpool (a 0) (a 1) s apart) ⨾
      tt;
}

-- So the call of any number does, and a call that is served or refused.
pub called_apart : (number : ℕ) (args : List ℕ) (s : Xinu) → IsSound s → KeepsApart number s (called number args s).call.state
called_apart number args s sound = law_of_few apart_law number args s sound
