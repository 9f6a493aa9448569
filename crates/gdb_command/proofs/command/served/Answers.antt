-- It was served up to a fault.
use Rattle.gdb_command.proofs.Carried.{served-part}
use Rattle.gdb_command.proofs.Reading.{at}
use Rattle.gdb_command.proofs.command.served.Goals as goal

pub returns : goal.returns
returns g c =
    let start = c.new-session.ensures in
    record {
      serves =
          served-part c.args.replay c.in-Err.fault c.from.result (at (g.R.Read.remaining c.args.input.now) (g.W.Write.contents c.args.output.now))
          (at (g.R.Read.remaining c.serve.new.input) (g.W.Write.contents c.serve.new.output)) c.from.ensures
          (record {
            start = c.new-session.result;
            begins = record { run = start.run; stands = start.stands; fresh = start.fresh; acknowledges = start.acknowledges; on = start.on };
            serves = c.in-Err.ensures.cut;
          });
    }
