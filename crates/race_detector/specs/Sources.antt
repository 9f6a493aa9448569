-- Edges, and the names of their sources' clocks.
use Rattle.std.specs.Prelude.{◌≡◌, ◌<◌, ℕ, List, length, Some, slice_get}
use Rattle.happens_before.specs.Clocks.{Clock}
use Rattle.happens_before.specs.Histories.{Edge}
use Rattle.race_clocks.specs.Rows.{count}
use Rattle.race_detector.specs.declared.detector.Detector.{Detector}
use Rattle.race_detector.specs.declared.known.Known.{Known}
use Rattle.race_detector.specs.Detects.{IsSource}

-- Each of these edges has a process and a kept clock.
pub record AreWithin (known : List Known) (x : Detector) : Type 0 where
  pub process : (k : ℕ) (o : Known) → slice_get known k ≡ Some o → o.process < 64
  pub name : (k : ℕ) (o : Known) → slice_get known k ≡ Some o → o.name < count x.clocks

-- Each has the target of an edge, and the clock of its source.
pub record AreSources (parts : ℕ → ℕ → Clock) (edges : List Edge) (known : List Known) (x : Detector) : Type 0 where
  pub size : length edges ≡ length known
  pub target : (k : ℕ) (e : Edge) (o : Known) → slice_get edges k ≡ Some e → slice_get known k ≡ Some o → e.target ≡ o.process
  pub source : (k : ℕ) (e : Edge) (o : Known) → slice_get edges k ≡ Some e → slice_get known k ≡ Some o → IsSource parts e o.name x
