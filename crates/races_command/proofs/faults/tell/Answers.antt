use Rattle.std.proofs.Common.{subst, sym}
use Rattle.refusal_words.specs.Tellings.{TellsInWords}
use Rattle.races_command.specs.Theorem.{line_of, refusal_of}
use Rattle.races_command.specs.declared.faults.Fault.{Fault}
use Rattle.races_command.proofs.faults.tell.Goals as goal

pub returns-in-TooMany : goal.returns-in-TooMany
returns-in-TooMany g c = record {
  tells = subst (λ (f : Fault). TellsInWords (refusal_of f) (line_of f) c.tell.result (g.H.Host.view c.args.host.now) (g.H.Host.view c.tell.new.host))
      (sym c.in-TooMany.is) c.tell.ensures.tells;
}

pub returns-in-TooLong : goal.returns-in-TooLong
returns-in-TooLong g c = record {
  tells = subst
      (λ (f : Fault). TellsInWords (refusal_of f) (line_of f) c.tell-in-TooLong.result (g.H.Host.view c.args.host.now) (g.H.Host.view c.tell-in-TooLong.new.host))
      (sym c.in-TooLong.is) c.tell-in-TooLong.ensures.tells;
}

pub returns-in-TooFar : goal.returns-in-TooFar
returns-in-TooFar g c = record {
  tells = subst
      (λ (f : Fault). TellsInWords (refusal_of f) (line_of f) c.tell-in-TooFar.result (g.H.Host.view c.args.host.now) (g.H.Host.view c.tell-in-TooFar.new.host))
      (sym c.in-TooFar.is) c.tell-in-TooFar.ensures.tells;
}
