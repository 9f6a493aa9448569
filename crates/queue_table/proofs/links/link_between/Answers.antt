-- `link_between`: its three writes as one equation.
use Rattle.std.proofs.Common.{arith}
use Rattle.std.proofs.lemmas.Int.{to_z-of_z}
use mir.Syntax.{w32}
use Rattle.queue_table.proofs.Writes.{rewired-written}
use Rattle.queue_table.proofs.links.link_between.Goals as goal

pub returns : goal.returns
returns c =
    let es = c.args.entries.now in
    record {
      written = rw (to_z-of_z w32 c.args.key c.ranges.key)
          (rewired-written es.items c.args.before c.args.p c.args.after c.args.p c.args.p _ c.index_mut.result.now c.index_mut-2.result.now (omega arith) (omega arith) c.index_mut.ensures.value c.index_mut-2.ensures.value);
    }
