use Rattle.bounded_buffer.proofs.Ordered.{always_in_order, transcripts_in_order}
use Rattle.bounded_buffer.proofs.laws.no_item_is_lost.Goals as goal

pub returns : goal.returns
returns c = record { moment = always_in_order; transcript = transcripts_in_order }
