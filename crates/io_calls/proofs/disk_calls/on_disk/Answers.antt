use Rattle.std.proofs.Common.{subst, sym}
use Rattle.disk_driver.specs.Served.{served_of}
use Rattle.io_calls.proofs.DiskCalls.{served_waits}
use Rattle.io_calls.proofs.disk_calls.on_disk.Goals as goal
use Rattle.kernel_state.proofs.Values.{call_is}
use Rattle.kernel_state.specs.States.{kernel_state}
use Rattle.xinu_model.specs.Machine.{CallState}
use Rattle.xinu_model.specs.RawDisk.Calls.{disk_of}
use Rattle.xinu_model.specs.Sound.Disks.{IsRawDisk}
use Rattle.xinu_model.specs.Sound.Tables.{IsSoundTables}

pub answer_caller-requires-clause-waits : goal.answer_caller-requires-clause-waits
answer_caller-requires-clause-waits c =
    let s = (kernel_state c.k.inside).state in
    served_waits c.args.good (served_of c.in-Some.done c.complete.new.self) c.in-Some-caller.p s.tables (disk_of s)
    (subst (λ (d : CallState). IsSoundTables d.state.tables) (sym (call_is c.k.view_is)) c.requires.sound)
    (subst (λ (d : CallState). IsRawDisk d.state.tables (disk_of d.state)) (sym (call_is c.k.view_is)) c.requires.disk)
    c.in-Some.ensures.served c.in-Some-caller.is
