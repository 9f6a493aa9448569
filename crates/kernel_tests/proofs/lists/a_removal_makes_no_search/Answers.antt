-- The test on searching: no process is in a new table.
use Rattle.std.proofs.Common.{◌∙◌, ap}
use Rattle.queue_table.specs.Lists.{place}
use Rattle.queue_table.proofs.Laws.{place_fresh}
use Rattle.kernel_tests.proofs.lists.a_removal_makes_no_search.Goals as goal

pub fill-requires : goal.fill-requires
fill-requires g c = λ p. ap (λ ls. place ls p) c.in-Ok.ensures.empty ∙ place_fresh 2 p
