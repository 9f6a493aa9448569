-- What is left of a call that waited touches no more than its footprint.
use Rattle.xinu_base.specs.declared.processes.Rest.{Rest}
use Rattle.xinu_base.specs.declared.processes.Rest.TheVariants as rest
use Rattle.xinu_model.specs.Calls.{continued}
use Rattle.xinu_laws.specs.Touches.{touched_by}
use Rattle.xinu_laws.proofs.Touches.Consoles.{go_on_getc_touches, go_on_read_touches, go_on_putc_touches, go_on_write_touches}
use Rattle.xinu_laws.proofs.Touches.{StaysIn, touches_refl}
use Rattle.xinu_laws.proofs.Touches.Disks.{go_on_disk_touches}
use Rattle.xinu_laws.proofs.Touches.Messages.{go_on_receive_touches}
use Rattle.xinu_laws.proofs.Touches.Pools.{go_on_getbuf_touches}
use Rattle.xinu_laws.proofs.Touches.Ports.{go_on_ptsend_touches, go_on_ptrecv_touches}
use Rattle.xinu_laws.proofs.Touches.Processes.{go_on_suspend_touches}

-- Each way in which a call goes on stays within its footprint.
pub continued_touches : (left : Rest) → StaysIn (touched_by left) (continued left)
continued_touches rest.Receive = go_on_receive_touches
continued_touches rest.Timed = go_on_receive_touches
continued_touches rest.SelfSuspend = go_on_suspend_touches
continued_touches (rest.GetBuf i) = go_on_getbuf_touches i
continued_touches (rest.PtSend ticket message) = go_on_ptsend_touches ticket message
continued_touches (rest.PtRecv ticket) = go_on_ptrecv_touches ticket
continued_touches rest.TtyGet = go_on_getc_touches
continued_touches (rest.TtyRead part) = go_on_read_touches part
continued_touches (rest.TtyPut b returned) = go_on_putc_touches b returned
continued_touches (rest.TtyWrite part returned) = go_on_write_touches part returned
continued_touches (rest.Disk reply) = go_on_disk_touches reply
continued_touches _ = λ s k. touches_refl s
