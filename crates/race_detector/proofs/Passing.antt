-- A moment comes, and goes.
use Rattle.std.proofs.Common.{◌≡◌, ◌∙◌, ◌++◌, ℕ, suc, List, [], ◌∷◌, length, ap, arith, length-append, subst, sym}
use Rattle.std.proofs.Math.Seq.{get_or-append_seam}
use Rattle.happens_before.specs.Clocks.{Clock, Clocks, clocks_after, knows_in, with_parts}
use Rattle.happens_before.specs.Histories.{Moment, moment_of, nothing_happens}
use Rattle.happens_before.specs.Races.{Made, time}
use Rattle.happens_before.specs.Told.{Entries, entries_after, entries_at, entries_in}
use Rattle.happens_before.proofs.Prefixes.{all_entries_come, clocks_come, entries_come}
use Rattle.race_clocks.specs.Edges.{edges_past, edges_to}
use Rattle.race_clocks.specs.Rows.{knows}
use Rattle.race_clocks.proofs.Targets.{learnt_after, learnt_first}
use Rattle.race_detector.specs.declared.detector.Detector.{Detector}
use Rattle.race_detector.specs.Detects.{Detects, HasLearnt, Reaches}
use Rattle.race_detector.specs.Finds.{Finds, FindsAll}
use Rattle.race_detector.specs.Told.{Knows}
use Rattle.race_detector.proofs.Learnt.{learnt_known}
use Rattle.race_detector.proofs.Pairs.{all_found, event_found, moment_found}
use Rattle.race_entries.specs.Entries.{Holds}

pub no_edge_learnt : (h : List Moment) (x : Detector) (parts : ℕ → ℕ → Clock) → Detects h x → HasLearnt parts (clocks_after h (length h)).knows [] x
no_edge_learnt h x parts is = record { clocks = is.clocks }

-- the entries before the first deed
first_entries : (h : List Moment) (m : Moment) → entries_at (h ++ m ∷ []) (suc (length h)) 0 ≡ entries_after h (length h)
unfolding entries_in
first_entries h m = entries_come h m 0

pub no_deed_done : (h : List Moment) (m : Moment) (x : Detector) → Detects h x → Reaches (h ++ m ∷ []) (suc (length h)) 0 x
no_deed_done h m x is = record {
  entries = subst (λ (es : Entries). Holds x.entries es) (sym (first_entries h m)) is.entries;
  told = moment_found h m x.told.items is.told;
}

module _ (h : List Moment) (m : Moment) (x : Detector) where
  abbrev n : ℕ
  n = suc (length h)

  abbrev c : Clocks
  c = clocks_after h (length h)

  -- the edges to the process that steps are learnt
  abbrev FirstLearnt : Type 0
  FirstLearnt = HasLearnt (with_parts n c.knows c.kept) c.knows (edges_to m) x

  now_known : FirstLearnt → (v u : ℕ) → knows x.clocks v u ≡ knows_in n m c v u
  now_known is v u = is.clocks v u ∙ ap (λ (d : Clock). d u) (learnt_first m (with_parts n c.knows c.kept) c.knows v)

  pub parts_known : (y : Made) → FirstLearnt → y.time.event ≡ n → Knows (h ++ m ∷ []) y (knows x.clocks y.access.process)
  parts_known y is now = learnt_known h m y (knows x.clocks y.access.process) now (now_known is y.access.process)

  pub no_other_learnt : (parts : ℕ → ℕ → Clock) → FirstLearnt → HasLearnt parts (knows_in n m c) [] x
  no_other_learnt parts is = record { clocks = now_known is }

  longer : length (h ++ m ∷ []) ≡ n
  longer = omega (arith, length-append h (m ∷ []))

  abbrev parts : ℕ → ℕ → Clock
  parts = with_parts n (knows_in n m c) c.kept

  all_known : HasLearnt parts (knows_in n m c) (edges_past m) x → (v u : ℕ)
      → knows x.clocks v u ≡ (clocks_after (h ++ m ∷ []) (length (h ++ m ∷ []))).knows v u
  all_known is v u =
      is.clocks v u
      ∙ ap (λ (d : Clock). d u) (learnt_after m parts (knows_in n m c) v)
      ∙ sym (ap (λ (d : Clocks). d.knows v u) (clocks_come h m))
      ∙ sym (ap (λ k. (clocks_after (h ++ m ∷ []) k).knows v u) longer)

  last_entries : entries_at (h ++ m ∷ []) n (length m.deeds) ≡ entries_after (h ++ m ∷ []) (length (h ++ m ∷ []))
  last_entries = entries_come h m (length m.deeds) ∙ sym (all_entries_come h m) ∙ sym (ap (entries_after (h ++ m ∷ [])) longer)

  moment_new : moment_of (h ++ m ∷ []) n ≡ m
  moment_new = get_or-append_seam h m [] nothing_happens

  all_told : Reaches (h ++ m ∷ []) n (length m.deeds) x → Finds (h ++ m ∷ []) (time (suc (length (h ++ m ∷ []))) 0) x.told.items
  all_told is =
      let P : ℕ → Type 0 = λ k. Finds (h ++ m ∷ []) (time (suc k) 0) x.told.items in
      let Q : Moment → Type 0 = λ w. Finds (h ++ m ∷ []) (time n (length w.deeds)) x.told.items in
      subst P (sym longer) (event_found (h ++ m ∷ []) n x.told.items (subst Q (sym moment_new) is.told))

  pub moment_done : HasLearnt parts (knows_in n m c) (edges_past m) x → Reaches (h ++ m ∷ []) n (length m.deeds) x → Detects (h ++ m ∷ []) x
  moment_done learns is = record {
    clocks = all_known learns;
    entries = subst (λ (es : Entries). Holds x.entries es) last_entries is.entries;
    told = all_told is;
  }

pub run_told : (h : List Moment) (x : Detector) → Detects h x → FindsAll h x.told.items
run_told h x is = all_found h x.told.items is.told
