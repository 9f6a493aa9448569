use Rattle.std.proofs.Common.{ap, map}
use Rattle.run_inputs.proofs.Named.{inputs_named}
use Rattle.run_inputs.proofs.words.fetch_words.Goals as goal

pub returns-clause-reads : goal.returns-clause-reads
returns-clause-reads g c =
    inputs_named _ _ _ _ _ _ _ _ _ (g.H.Host.view c.args.host.now) (g.H.Host.view c.fetch_named.new.host) c.schedule_in.ensures.schedule c.value.ensures.value c.value-2.ensures.value
    (ap (map (λ s. s.now)) c.as_slice.ensures.value) c.fetch_named.ensures.reads
