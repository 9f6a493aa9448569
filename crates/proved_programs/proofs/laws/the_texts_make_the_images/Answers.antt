use Rattle.proved_programs.proofs.Sourced.{first_source, second_source}
use Rattle.proved_programs.proofs.laws.the_texts_make_the_images.Goals as goal

pub returns : goal.returns
returns c = record { first = first_source; second = second_source }
