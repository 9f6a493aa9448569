-- Deeds are done one after another.
use Rattle.std.proofs.Common.{◌≡◌, ◌∙◌, ◌+◌, ℕ, suc, List, slice_get, Some, add-one, refl, subst, sym}
use Rattle.happens_before.specs.Histories.{Moment}
use Rattle.race_clocks.specs.Rows.{Held}
use Rattle.race_detector.specs.declared.act.Act.{Act}
use Rattle.race_detector.specs.declared.detector.Detector.{Detector}
use Rattle.race_detector.specs.Acts.{AreActs, IsAct}
use Rattle.race_detector.specs.Detects.{Reaches}

-- The first i deeds are done.
pub record Acting (acts : List Act) (i : ℕ) (old new : Detector) : Type 0 where
  pub clocks : new.clocks ≡ old.clocks
  pub reached : (h : List Moment) (n : ℕ) → AreActs h n acts old.clocks → Reaches h n 0 old → Reaches h n i new

pub none_done : (acts : List Act) (x : Detector) → Acting acts 0 x x
none_done acts x = record { clocks = refl; reached = λ h n are at. at }

pub one_done : (acts : List Act) (i : ℕ) (o : Act) (old now new : Detector) → slice_get acts i ≡ Some o → Acting acts i old now
    → ((h : List Moment) (n j : ℕ) → IsAct h n j o now.clocks → Reaches h n j now → Reaches h n (suc j) new) → new.clocks ≡ now.clocks
    → Acting acts (i + 1) old new
one_done acts i o old now new is so_far reaches stay = record {
  clocks = stay ∙ so_far.clocks;
  reached = λ h n are at.
      let P : ℕ → Type 0 = λ k. Reaches h n k new in
      let Q : Held → Type 0 = λ c. IsAct h n i o c in
      subst P (sym (add-one i)) (reaches h n i (subst Q (sym so_far.clocks) (are.each i o is)) (so_far.reached h n are at));
}
