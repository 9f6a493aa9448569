-- What is left to make gives what the start makes.
use Rattle.std.proofs.Common.{◌≡◌, ◌+◌, drop, map}
use Rattle.image_loader.specs.Images.{loaded_of}
use Rattle.reference_state.specs.Answers.{IsStart}
use Rattle.xinu_model.specs.Boot as model
use Rattle.reference_boot.proofs.boot.all_made.Given as goal

abbrev pub invariant-loop-i : goal.invariant-loop-i
invariant-loop-i l =
    IsStart l.m
    × (model.all_made (l.i + 1) (map loaded_of (drop l.i l.images)) l.m.state ≡ model.all_made 1 (map loaded_of l.images) l.fn.m.state)
