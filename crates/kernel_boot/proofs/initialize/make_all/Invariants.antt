-- What is left to make gives what boot makes, and the numbers of those images are free.
use Rattle.std.proofs.Common.{◌≡◌, ◌+◌, ◌≤◌, ℕ, drop, map}
use Rattle.kernel_state.specs.Results.{IsStart}
use Rattle.image_loader.specs.Images.{loaded_of}
use Rattle.xinu_base.specs.declared.processes.State.TheVariants.{Free}
use Rattle.xinu_model.specs.Boot.{all_made}
use Rattle.xinu_model.specs.Tables.{state_at}
use Rattle.kernel_boot.proofs.initialize.make_all.Given as goal

abbrev pub invariant-loop-image : goal.invariant-loop-image
invariant-loop-image l =
    (l.number ≡ l.image-index + 1) × IsStart l.k.call
    × (all_made (l.image-index + 1) (map loaded_of (drop l.image-index l.images)) l.k.call.state ≡ all_made 1 (map loaded_of l.images) l.initial.k.call.state)
    × (l.k.image ≡ l.initial.k.image)
    × ((j : ℕ) → l.image-index + 1 ≤ j → state_at l.k.call.state.tables j ≡ Free)
