-- Placements that were gone through, each by a run.
use Rattle.std.specs.Prelude.{◌≡◌, ℕ, List, ◌++◌, map}
use Rattle.std.specs.List.{All}
use Rattle.preemptions.specs.Preempted.{preempted_at}
use Rattle.race_runs.specs.Runs.{ComesToOn}
use Rattle.race_tables.specs.Rows.{Row, Run, rows}
use Rattle.xinu_base.specs.declared.events.Event.{Event}
use Rattle.xinu_model.specs.Boot.{Disks, Loaded}

-- There is a run for each of these placements, in their order: the images boot on the disks, and a run from there through the base's events with
-- the placement's quantum ends has its outcome. The table is that of these runs.
pub record Explores (disks : Disks) (images : List Loaded) (base : List Event) (placements : List (List ℕ)) (table : List Row) : Type 0 where
  pub runs : List Run
  pub are : map (λ run. run.places) runs ≡ placements
  pub real : All (λ run. ComesToOn disks images (preempted_at run.places base) run.outcome) runs
  pub is : table ≡ rows runs

-- The first of these placements were gone through.
pub record ExploresSome (disks : Disks) (images : List Loaded) (base : List Event) (placements : List (List ℕ)) (table : List Row) : Type 0 where
  pub tried : List (List ℕ)
  pub left : List (List ℕ)
  pub split : tried ++ left ≡ placements
  pub explores : Explores disks images base tried table
