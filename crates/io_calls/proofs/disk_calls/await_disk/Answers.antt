use Rattle.std.proofs.Common.{◌<◌, length, subst, sym}
use Rattle.io_calls.proofs.FewRequests.{few_requests}
use Rattle.kernel_state.proofs.Values.{call_is}
use Rattle.io_calls.proofs.disk_calls.await_disk.Goals as goal
use Rattle.xinu_model.specs.Machine.{CallState}
use Rattle.xinu_model.specs.RawDisk.Calls.{disk_of}

pub submit-requires-clause-room : goal.submit-requires-clause-room
submit-requires-clause-room c =
    let d = c.args.k.now.call in
    let P : CallState → Type 0 = λ d. length (disk_of d.state).requests < 64 in
    subst P (sym (call_is c.k.view_is)) (few_requests d.state.tables (disk_of d.state) c.requires.asks.may.tables c.requires.asks.may.not_null c.requires.asks.disk)
