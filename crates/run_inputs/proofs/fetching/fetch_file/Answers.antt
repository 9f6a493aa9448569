use Rattle.std.proofs.Common.{◌≡◌, ap, arith}
use Rattle.std.specs.Prelude.{Err}
use Rattle.run_inputs.proofs.FetchedFiles.{failed_last, fetched_front, fetched_one, of_host, unfetched_one}
use Rattle.run_inputs.specs.declared.refusals.Refusal.TheVariants as refusal
use Rattle.run_inputs.proofs.fetching.fetch_file.Goals as goal

pub returns-in-Ok : goal.returns-in-Ok
returns-in-Ok g c =
    let h = g.H.Host.view c.args.host.now in
    let k = g.H.Host.view c.fetch.new.self in
    record {
      bytes = fetched_front c.args.most (h.file c.args.name.now) c.in-Ok.bytes.items (omega (arith, c.in-Ok.ensures.bound)) c.in-Ok.ensures.bytes;
      cause = tt;
      last = λ is. absurd (cc);
      fetches = fetched_one c.args.name.now h k c.in-Ok.ensures.calls.ok c.in-Ok.ensures.cause.later;
    }

pub returns-in-Err : goal.returns-in-Err
returns-in-Err g c =
    let h = g.H.Host.view c.args.host.now in
    let k = g.H.Host.view c.fetch.new.self in
    record {
      bytes = tt;
      cause = of_host c.in-Err.fault c.from.result c.from.ensures;
      last = λ is. failed_last c.args.name.now c.in-Err.fault c.from.result h k c.from.ensures (λ e. c.in-Err.ensures.calls.failed (ap Err e)) (let same : c.from.result ≡ refusal.HostFault = cc in same);
      fetches = unfetched_one c.args.name.now c.in-Err.fault c.from.result c.in-Err.ensures.calls.part.0 h k c.from.ensures c.in-Err.ensures.calls.part.1 (λ is. c.in-Err.ensures.cause.failed (ap Err is)) c.in-Err.ensures.cause.later;
    }
