use Rattle.file_server.proofs.Calls.{first_kept}
use Rattle.file_server.proofs.server.FileServer.forget.Goals as goal

pub invariant_of-self : goal.invariant_of-self
invariant_of-self c = record {
  first = first_kept c.args.p c.loop-r.r-index c.self.inside.turns c.self.inside.requests.items c.as_slice-r-items.result.now c.loop-r.kept.items
      c.self.inside.disk.hand c.self.inside.disk.system c.as_slice-r-items.ensures.value c.loop-r-test.false c.loop-r.invariant.left c.self.invariant.first;
  calls = c.loop-r.invariant.kept;
}
