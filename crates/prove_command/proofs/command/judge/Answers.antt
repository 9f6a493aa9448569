use Rattle.std.proofs.Common.{map}
use Rattle.std.specs.String.{string_bytes}
use Rattle.prove_command.proofs.Judged.{all_judged, judged_refused}
use Rattle.prove_command.proofs.command.judge.Goals as goal

pub returns-in-Ok : goal.returns-in-Ok
returns-in-Ok g c = record {
  judges = all_judged (record { lock = c.args.lock.now; images = map string_bytes c.args.names.now }) (map (λ f. f.items) c.args.files.now) c.in-Ok.status c.send.result (g.H.Host.view c.args.host.now)
      (g.H.Host.view c.send.new.host) c.in-Ok.ensures.answered c.send.ensures.same c.send.ensures.sent c.send.ensures.unsent;
}

pub returns-in-Err : goal.returns-in-Err
returns-in-Err g c = record {
  judges = judged_refused (record { lock = c.args.lock.now; images = map string_bytes c.args.names.now }) (map (λ f. f.items) c.args.files.now) c.in-Err.cause (g.H.Host.view c.args.host.now) c.in-Err.ensures.refused;
}
