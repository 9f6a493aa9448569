use Rattle.std.proofs.Common.{ap}
use Rattle.std.specs.Prelude.{Err}
use Rattle.run_inputs.proofs.FetchedFiles.{fetched_one, unfetched_one}
use Rattle.prove_command.proofs.fetching.fetch_file.Goals as goal

pub returns-in-Ok-clause-fetches : goal.returns-in-Ok-clause-fetches
returns-in-Ok-clause-fetches g c =
    fetched_one c.args.name.now (g.H.Host.view c.args.host.now) (g.H.Host.view c.fetch.new.self) c.in-Ok.ensures.calls.ok c.in-Ok.ensures.cause.later

pub returns-in-Err-clause-fetches : goal.returns-in-Err-clause-fetches
returns-in-Err-clause-fetches g c =
    unfetched_one c.args.name.now c.in-Err.fault c.from.result c.in-Err.ensures.calls.part.0 (g.H.Host.view c.args.host.now) (g.H.Host.view c.fetch.new.self)
    c.from.ensures c.in-Err.ensures.calls.part.1 (λ is. c.in-Err.ensures.cause.failed (ap Err is)) c.in-Err.ensures.cause.later
