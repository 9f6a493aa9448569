use Rattle.refusal_words.proofs.Told.{line_unsent}
use Rattle.refusal_words.specs.Meanings.{cause_meaning}
use Rattle.refusal_words.specs.Tellings.{TellsInWords}
use Rattle.run_inputs.specs.declared.refusals.Refusal.{Refusal}
use Rattle.std.proofs.Common.{subst}
use Rattle.refusal_words.proofs.telling.tell_cause.Goals as goal

pub returns-in-Err : goal.returns-in-Err
returns-in-Err g c = record {
  tells = subst (λ (r : Refusal). TellsInWords r (cause_meaning c.args.usage.now c.args.cause) 7 (g.H.Host.view c.args.host.now) (g.H.Host.view c.refuse.new.host)) c.refusal-refusal.ensures.refusal
      (line_unsent c.refusal-refusal.result (cause_meaning c.args.usage.now c.args.cause) _ _ _ c.refuse.ensures);
}
