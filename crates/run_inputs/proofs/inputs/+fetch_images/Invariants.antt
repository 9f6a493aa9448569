-- The names that are left.
use Rattle.std.proofs.Common.{length}
use Rattle.run_inputs.proofs.inputs.+fetch_images.Given as goal

abbrev pub decreases-fetch_images : goal.decreases-fetch_images
decreases-fetch_images g l = length l.names.now
