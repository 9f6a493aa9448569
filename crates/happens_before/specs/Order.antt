-- What comes before what, in whatever order a run makes it: happens-before.
use Rattle.std.specs.Prelude.{◌≡◌, ◌<◌, ℕ, Some, List}
use Rattle.std.specs.List.{Contains}
use Rattle.happens_before.specs.Histories.{Edge, Moment, moment_of}

-- What a process does in one event.
pub record Part : Type 0 where
  pub event : ℕ
  pub process : ℕ

abbrev pub part : ℕ → ℕ → Part
part n u = record { event = n; process = u }

-- The least transitive relation on parts in which a process's own parts are in the order of its events, and which has the edges.
pub data HappensBefore (h : List Moment) : Part → Part → Type 0 where
  program : {m n u : ℕ} → m < n → HappensBefore h (part m u) (part n u)
  edge : {n l : ℕ} {e : Edge} → Contains (moment_of h n).edges e → n < l → HappensBefore h (part e.event e.source) (part l e.target)
  edge_now : {n : ℕ} {e : Edge} → Contains (moment_of h n).edges e → (moment_of h n).stepper ≡ Some e.target →
      HappensBefore h (part e.event e.source) (part n e.target)
  chain : {x y z : Part} → HappensBefore h x y → HappensBefore h y z → HappensBefore h x z
