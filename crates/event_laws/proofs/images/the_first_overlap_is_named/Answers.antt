use Rattle.event_laws.proofs.FirstOverlap.{first_is_least, none_overlaps}
use Rattle.event_laws.proofs.images.the_first_overlap_is_named.Goals as goal

pub returns-clause-first : goal.returns-clause-first
returns-clause-first c = first_is_least

pub returns-clause-none : goal.returns-clause-none
returns-clause-none c = none_overlaps
