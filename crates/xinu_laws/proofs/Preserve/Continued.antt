-- What holds of each way in which a call goes on holds of what is left of any call.
use Rattle.std.proofs.Common.{◌≡◌, ℕ, Bool, Option, refl, ℤ}
use Rattle.xinu_base.specs.declared.processes.PortTicket.{PortTicket}
use Rattle.xinu_base.specs.declared.processes.Rest.{Rest}
use Rattle.xinu_base.specs.declared.processes.Span.{Span}
use Rattle.xinu_model.specs.Console.Putting.{go_on_putc, go_on_write}
use Rattle.xinu_model.specs.Console.Taking.{go_on_getc, go_on_read}
use Rattle.xinu_base.specs.declared.processes.Rest.TheVariants as rest
use Rattle.xinu_model.specs.Calls.{continued}
use Rattle.xinu_model.specs.Machine.{Xinu, Silent, CallResult, start}
use Rattle.xinu_model.specs.Messages.{go_on_receive}
use Rattle.xinu_model.specs.Pools.Calls.{go_on_getbuf}
use Rattle.xinu_model.specs.Ports.Calls.{go_on_ptsend, go_on_ptrecv}
use Rattle.xinu_model.specs.Process.Calls.{go_on_suspend}
use Rattle.xinu_model.specs.RawDisk.Calls.{go_on_disk}

-- What holds of each way in which a call goes on, and of doing nothing, holds of what is left of any call.
pub continued_holds : (P : CallResult → Type 0) (left : Rest) (s : Xinu) → P (go_on_receive s) → P (go_on_suspend s)
    → ((i : ℕ) → left ≡ rest.GetBuf i → P (go_on_getbuf i s))
    → ((ticket : PortTicket) (message : ℕ) → left ≡ rest.PtSend ticket message → P (go_on_ptsend ticket message s))
    → ((ticket : PortTicket) → left ≡ rest.PtRecv ticket → P (go_on_ptrecv ticket s))
    → (left ≡ rest.TtyGet → P (go_on_getc s))
    → ((part : Span) → left ≡ rest.TtyRead part → P (go_on_read part s))
    → ((b : ℕ) (returned : Bool) → left ≡ rest.TtyPut b returned → P (go_on_putc b returned s))
    → ((part : Span) (returned : Bool) → left ≡ rest.TtyWrite part returned → P (go_on_write part returned s))
    → ((reply : Option ℤ) → left ≡ rest.Disk reply → P (go_on_disk reply s))
    → P (record { call = start s; answer = Silent }) → P (continued left s)
continued_holds P rest.Receive s receive suspend pool send take get read put write disk silent = receive
continued_holds P rest.Timed s receive suspend pool send take get read put write disk silent = receive
continued_holds P rest.SelfSuspend s receive suspend pool send take get read put write disk silent = suspend
continued_holds P (rest.GetBuf i) s receive suspend pool send take get read put write disk silent = pool i refl
continued_holds P (rest.PtSend ticket message) s receive suspend pool send take get read put write disk silent = send ticket message refl
continued_holds P (rest.PtRecv ticket) s receive suspend pool send take get read put write disk silent = take ticket refl
continued_holds P rest.TtyGet s receive suspend pool send take get read put write disk silent = get refl
continued_holds P (rest.TtyRead part) s receive suspend pool send take get read put write disk silent = read part refl
continued_holds P (rest.TtyPut b returned) s receive suspend pool send take get read put write disk silent = put b returned refl
continued_holds P (rest.TtyWrite part returned) s receive suspend pool send take get read put write disk silent = write part returned refl
continued_holds P (rest.Disk reply) s receive suspend pool send take get read put write disk silent = disk reply refl
continued_holds P _ s receive suspend pool send take get read put write disk silent = silent
