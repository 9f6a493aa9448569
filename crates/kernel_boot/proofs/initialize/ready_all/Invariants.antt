-- Those that are left become ready as all do, and are suspended.
use Rattle.std.proofs.Common.{◌≡◌, ◌+◌, ◌≤◌, ◌<◌, ℕ, drop, length, map}
use Rattle.image_loader.specs.Images.{loaded_of}
use Rattle.xinu_base.specs.declared.processes.State.TheVariants.{Suspended}
use Rattle.xinu_model.specs.Boot.{all_ready}
use Rattle.xinu_model.specs.Tables.{state_at}
use Rattle.kernel_boot.proofs.initialize.ready_all.Given as goal

abbrev pub invariant-loop-image : goal.invariant-loop-image
invariant-loop-image l =
    (l.number ≡ l._image-index + 1)
    × (all_ready (l._image-index + 1) (map loaded_of (drop l._image-index l.images)) l.tables ≡ all_ready 1 (map loaded_of l.images) l.initial.tables)
    × ((j : ℕ) → l._image-index + 1 ≤ j → j < 1 + length l.images → state_at l.tables j ≡ Suspended)
