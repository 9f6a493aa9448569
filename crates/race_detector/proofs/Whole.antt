-- A moment is begun, and ended.
use Rattle.std.proofs.Common.{◌≡◌, ◌∙◌, ◌++◌, ℕ, suc, List, [], ◌∷◌, length, ap}
use Rattle.happens_before.specs.Clocks.{Clock, clocks_after, knows_in, with_parts}
use Rattle.happens_before.specs.Histories.{Edge, Moment}
use Rattle.race_clocks.specs.Edges.{edges_past, edges_to}
use Rattle.race_clocks.specs.Rows.{clock_at}
use Rattle.race_detector.specs.declared.act.Act.{Act}
use Rattle.race_detector.specs.declared.detector.Detector.{Detector}
use Rattle.race_detector.specs.declared.known.Known.{Known}
use Rattle.race_detector.specs.Acts.{AllStand, AreActs}
use Rattle.race_detector.specs.Detects.{Detects, HasLearnt, IsWithinMoment, Reaches}
use Rattle.race_detector.specs.Sources.{AreSources}
use Rattle.race_detector.proofs.Passing.{moment_done, no_deed_done, no_edge_learnt, no_other_learnt}
use Rattle.race_detector.proofs.Standing.{all_known}

same_reached : (h : List Moment) (n j : ℕ) (x y : Detector) → y.entries ≡ x.entries → y.told ≡ x.told → Reaches h n j x → Reaches h n j y
same_reached h n j x y entries told is = record { entries = rw entries is.entries; told = rw told is.told }

same_learnt : (parts : ℕ → ℕ → Clock) (before : ℕ → Clock) (edges : List Edge) (x y : Detector) → y.clocks.processes ≡ x.clocks.processes
    → HasLearnt parts before edges x → HasLearnt parts before edges y
same_learnt parts before edges x y same is = record { clocks = λ v u. ap (λ (rows : List (List ℕ)). clock_at rows v u) same ∙ is.clocks v u }

pub begun : (old now new : Detector) (known : List Known) (acts : List Act)
    → ((parts : ℕ → ℕ → Clock) (before : ℕ → Clock) (done more : List Edge) → AreSources parts more known old
    → HasLearnt parts before done old → HasLearnt parts before (done ++ more) now)
    → now.entries ≡ old.entries → now.told ≡ old.told
    → ((h : List Moment) (n : ℕ) → AreActs h n acts now.clocks → Reaches h n 0 now → Reaches h n (length acts) new) → new.clocks ≡ now.clocks
    → (h : List Moment) (m : Moment)
    → AreSources (with_parts (suc (length h)) (clocks_after h (length h)).knows (clocks_after h (length h)).kept) (edges_to m) known old
    → AllStand (suc (length h)) acts m.deeds → Detects h old → IsWithinMoment h m (length acts) new
begun old now new known acts learns entries told reaches stay h m sources stand is =
    let c = clocks_after h (length h) in
    let parts = with_parts (suc (length h)) c.knows c.kept in
    let learnt = learns parts c.knows [] (edges_to m) sources (no_edge_learnt h old parts is) in
    record {
      learnt = same_learnt parts c.knows (edges_to m) now new (ap (λ k. k.processes) stay) learnt;
      reached = reaches (h ++ m ∷ []) (suc (length h)) (all_known h m now learnt acts stand)
          (same_reached (h ++ m ∷ []) (suc (length h)) 0 old now entries told (no_deed_done h m old is));
    }

pub ended : (old new : Detector) (known : List Known)
    → ((parts : ℕ → ℕ → Clock) (before : ℕ → Clock) (done more : List Edge) → AreSources parts more known old
    → HasLearnt parts before done old → HasLearnt parts before (done ++ more) new)
    → new.entries ≡ old.entries → new.told ≡ old.told → (h : List Moment) (m : Moment)
    → AreSources (with_parts (suc (length h)) (knows_in (suc (length h)) m (clocks_after h (length h))) (clocks_after h (length h)).kept) (edges_past m) known old
    → IsWithinMoment h m (length m.deeds) old → Detects (h ++ m ∷ []) new
ended old new known learns entries told h m sources is =
    let c = clocks_after h (length h) in
    let now = knows_in (suc (length h)) m c in
    let parts = with_parts (suc (length h)) now c.kept in
    moment_done h m new (learns parts now [] (edges_past m) sources (no_other_learnt h m old parts is.learnt))
    (same_reached (h ++ m ∷ []) (suc (length h)) (length m.deeds) old new entries told is.reached)

pub kept_within : (old new : Detector) → new.clocks.processes ≡ old.clocks.processes → new.entries ≡ old.entries → new.told ≡ old.told
    → (h : List Moment) (m : Moment) (j : ℕ) → IsWithinMoment h m j old → IsWithinMoment h m j new
kept_within old new processes entries told h m j is = record {
  learnt = same_learnt _ _ (edges_to m) old new processes is.learnt;
  reached = same_reached (h ++ m ∷ []) (suc (length h)) j old new entries told is.reached;
}

pub kept_detects : (old new : Detector) → new.clocks.processes ≡ old.clocks.processes → new.entries ≡ old.entries → new.told ≡ old.told
    → (h : List Moment) → Detects h old → Detects h new
kept_detects old new processes entries told h is = record {
  clocks = λ v u. ap (λ (rows : List (List ℕ)). clock_at rows v u) processes ∙ is.clocks v u;
  entries = rw entries is.entries;
  told = rw told is.told;
}
