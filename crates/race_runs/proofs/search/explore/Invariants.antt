-- Some placements were gone through.
use Rattle.std.proofs.Common.{Bool, List, ℕ, drop, length, map}
use Rattle.std.specs.List.{All}
use Rattle.given_disks.specs.Disks.{disks_of}
use Rattle.image_loader.specs.Images.{loaded_of}
use Rattle.preemptions.specs.Placements.{placements}
use Rattle.preemptions.specs.declared.stretches.Stretch.{Stretch}
use Rattle.race_runs.proofs.Exploring.{UnderWay}
use Rattle.race_runs.specs.Remainders.{IsKnown, Known}
use Rattle.race_tables.specs.Rows.{Row}
use Rattle.xinu_base.specs.declared.events.Event.{Event}
use Rattle.xinu_model.specs.Boot.{Disks, Loaded}
use Rattle.race_runs.proofs.search.explore.Given as goal

-- that, and what is known of the back
pub record Searched (are_forced : Bool) (disks : Disks) (images : List Loaded) (base : List Event) (most : ℕ) (stretch : Stretch) (cut : ℕ) (left : List (List ℕ)) (table : List Row) (known : List Known) : Type 0 where
  pub under_way : UnderWay are_forced disks images base most stretch (placements most stretch) left table
  pub known_back : All (λ k. IsKnown (drop cut base) k) known

abbrev pub invariant-loop-places : goal.invariant-loop-places
invariant-loop-places g l =
    Searched l.are_forced (disks_of l.disk0 l.disk1) (map loaded_of l.images) l.base l.fn.most l.fn.stretch l.cut l.left l.table.items l.known.items

abbrev pub decreases-loop-places : goal.decreases-loop-places
decreases-loop-places g l = length l.left
