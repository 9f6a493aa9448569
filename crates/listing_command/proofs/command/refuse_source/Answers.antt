-- The fault was told, or memory ran out.
use Rattle.std.proofs.Common.{arith}
use Rattle.fault_words.specs.Texts.{told}
use Rattle.listing_command.specs.Answers.{Refuses, asm_refusal}
use Rattle.listing_command.proofs.Endings.{ends_lost}
use Rattle.listing_command.proofs.command.refuse_source.Goals as goal

pub returns-in-Err : goal.returns-in-Err
returns-in-Err g c = record {
  tells = ends_lost (Refuses (asm_refusal c.args.fault) (told c.args.fault c.args.source.now)) _ _ _ _ _ (omega arith) c.tell_refusal.ensures.tells;
}
