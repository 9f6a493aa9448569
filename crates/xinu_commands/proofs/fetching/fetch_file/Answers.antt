use Rattle.std.proofs.Common.{ap, arith}
use Rattle.std.specs.Prelude.{Err}
use Rattle.run_inputs.proofs.FetchedFiles.{fetched_front}
use Rattle.xinu_commands.proofs.Fetched.{fetched, unfetched}
use Rattle.xinu_commands.proofs.fetching.fetch_file.Goals as goal

pub returns-in-Ok : goal.returns-in-Ok
returns-in-Ok g c =
    let h = g.H.Host.view c.args.host.now in
    let k = g.H.Host.view c.fetch.new.self in
    record {
      bytes = fetched_front c.args.most (h.file c.args.name.now) c.in-Ok.bytes.items (omega (arith, c.in-Ok.ensures.bound)) c.in-Ok.ensures.bytes;
      fetches = fetched c.args.name.now h k c.in-Ok.ensures.calls.ok c.in-Ok.ensures.cause.later;
    }

pub returns-in-Err : goal.returns-in-Err
returns-in-Err g c =
    let h = g.H.Host.view c.args.host.now in
    let k = g.H.Host.view c.fetch.new.self in
    record {
      bytes = tt;
      fetches = unfetched c.args.name.now c.in-Err.fault c.from.result c.in-Err.ensures.calls.part.0 h k c.from.ensures c.in-Err.ensures.calls.part.1 (λ is. c.in-Err.ensures.cause.failed (ap Err is)) c.in-Err.ensures.cause.later;
    }
