-- So many reads were served.
use Rattle.std.proofs.Common.{◌≡◌, false}
use Rattle.gdb_command.specs.Reads.{ServesStreams}
use Rattle.gdb_command.specs.Serving.{IsPartial}
use Rattle.gdb_command.proofs.Reading.{at}
use Rattle.gdb_command.proofs.serving.serve.Given as goal

abbrev pub invariant-loop : goal.invariant-loop
invariant-loop g l = record {
  serves : ServesStreams l.counter l.fn.session l.session (at (g.R.Read.remaining l.fn.input) (g.W.Write.contents l.fn.output))
      (at (g.R.Read.remaining l.input) (g.W.Write.contents l.output)) l.pending.items;
  waits : l.session.has_ended ≡ false → IsPartial l.pending.items;
}
