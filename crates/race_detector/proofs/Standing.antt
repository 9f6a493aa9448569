-- What stands for the deeds of an event, once the process that steps has learnt.
use Rattle.std.proofs.Common.{◌≡◌, ◌∙◌, ◌++◌, ℕ, suc, List, [], ◌∷◌, length, slice_get, Some, ap, refl, subst, sym}
use Rattle.std.proofs.Math.Seq.{get_or-append_seam}
use Rattle.happens_before.specs.Clocks.{clocks_after, with_parts}
use Rattle.happens_before.specs.Histories.{Accessed, Deed, Given, Moment, nothing_happens}
use Rattle.happens_before.specs.Races.{deed_at, time}
use Rattle.race_clocks.specs.Edges.{edges_to}
use Rattle.race_clocks.specs.Rows.{knows}
use Rattle.race_detector.specs.declared.act.Act.{Act}
use Rattle.race_detector.specs.declared.act.Act.TheVariants.{Touch, Gift}
use Rattle.race_detector.specs.declared.detector.Detector.{Detector}
use Rattle.race_detector.specs.Acts.{AllStand, AreActs, IsAct, Stands}
use Rattle.race_detector.specs.Detects.{HasLearnt, made_at}
use Rattle.race_detector.specs.Told.{Knows}
use Rattle.race_detector.proofs.Passing.{parts_known}
use Rattle.race_entries.specs.declared.entry.Entry.{Entry}

module _ (h : List Moment) (m : Moment) (x : Detector)
    (learns : HasLearnt (with_parts (suc (length h)) (clocks_after h (length h)).knows (clocks_after h (length h)).kept) (clocks_after h (length h)).knows (edges_to m) x) where
  deed_of : (j : ℕ) (d : Deed) → slice_get m.deeds j ≡ Some d → deed_at (h ++ m ∷ []) (time (suc (length h)) j) ≡ Some d
  deed_of j d is = ap (λ (w : Moment). slice_get w.deeds j) (get_or-append_seam h m [] nothing_happens) ∙ is

  stands_known : (j : ℕ) (o : Act) → Stands (suc (length h)) j o (slice_get m.deeds j) → IsAct (h ++ m ∷ []) (suc (length h)) j o x.clocks
  stands_known j (Touch byte e) (a, (deed, (same, entry))) =
      let P : ℕ → Type 0 = λ v. Knows (h ++ m ∷ []) (made_at (suc (length h)) j a) (knows x.clocks v) in (
        a,
        record {
          deed = deed_of j (Accessed a) deed;
          same = same;
          entry = entry;
          known = subst P (sym (ap (λ (f : Entry). f.process) entry)) (parts_known h m x (made_at (suc (length h)) j a) learns refl);
        },
      )
  stands_known j (Gift first count) is = deed_of j (Given first count) is

  pub all_known : (acts : List Act) → AllStand (suc (length h)) acts m.deeds → AreActs (h ++ m ∷ []) (suc (length h)) acts x.clocks
  all_known acts stand = record { each = λ k o at. stands_known k o (stand.each k o at) }
