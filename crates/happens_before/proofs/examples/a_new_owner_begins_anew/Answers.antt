use Rattle.std.proofs.Common.{refl}
use Rattle.happens_before.specs.Told.{entries_after, entries_at, entries_in}
use Rattle.happens_before.proofs.examples.a_new_owner_begins_anew.Goals as goal

pub returns : goal.returns
unfolding entries_after entries_at entries_in
returns c = refl
