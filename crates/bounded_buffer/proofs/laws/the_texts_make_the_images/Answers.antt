use Rattle.bounded_buffer.proofs.Sourced.{consumer_source, producer_source}
use Rattle.bounded_buffer.proofs.laws.the_texts_make_the_images.Goals as goal

pub returns : goal.returns
returns c = record { producer = producer_source; consumer = consumer_source }
