-- It is found among the entries of its byte.
use Rattle.race_entries.specs.Entries.{entries_of}
use Rattle.race_entries.proofs.Listing.{found_listed}
use Rattle.race_entries.proofs.laws.what_is_last_is_listed.Goals as goal

pub returns : goal.returns
returns c bytes stores b u e is = found_listed stores u (entries_of bytes b) e is
