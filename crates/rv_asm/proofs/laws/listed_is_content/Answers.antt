-- The law over the listing.
use Rattle.rv_asm.proofs.ListingLemmas.{listed-content}
use Rattle.rv_asm.proofs.laws.listed_is_content.Goals as goal

pub returns : goal.returns
returns c = record { content = listed-content }
