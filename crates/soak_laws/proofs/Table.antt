-- The calls of the programs by their numbers, and what is left of those that waited.
use Rattle.std.proofs.Common.{ℕ, zero, suc, ◌%◌, List, [], ◌∷◌, get_or, refl}
use Rattle.std.specs.List.{AllByRecursion}
use Rattle.soak_laws.specs.Code.{made_calls}
use Rattle.soak_laws.specs.Four.{MayBeLeft}
use Rattle.soak_laws.specs.Running.{AreRunning, KeepRunning}
use Rattle.soak_laws.proofs.Calls.{chprio_on, getbuf_on, getmem_on, go_on_getbuf_on, go_on_receive_on, mkbufpool_on, receive_on, recvtime_on, semcreate_on, send_on, signal_on, sleepms_on, wait_on}
use Rattle.soak_laws.proofs.Devices.{device_open_on, device_putc_on, device_write_on, go_on_disk_on, go_on_putc_on, go_on_write_on}
use Rattle.xinu_base.specs.declared.processes.Rest.{Rest}
use Rattle.xinu_base.specs.declared.processes.Rest.TheVariants as rest
use Rattle.xinu_model.specs.Calls.{called, calls, continued}
use Rattle.xinu_model.specs.Machine.{Xinu}
use Rattle.xinu_model.specs.Words.{half, signed}

-- a call after which the programs still run, whatever its arguments
abbrev StaysOn : (ℕ → List ℕ) → ℕ → Type 0
StaysOn words number = (args : List ℕ) (s : Xinu) → AreRunning words s → KeepRunning words (called number args s)

-- a pair, which nests to the right: a call a line
infixr 4 ◌⨾◌
◌⨾◌ : {A B : Type 0} → A → B → A × B
a ⨾ b = (a, b)

all_stay : (words : ℕ → List ℕ) → AllByRecursion (StaysOn words) made_calls
unfolding calls
all_stay words =
    (λ a s k. record { running = k; calm = refl }) ⨾
    (λ a s k. record { running = k; calm = refl }) ⨾
    (λ a s k. sleepms_on (signed (get_or a 0 0)) s k) ⨾
    (λ a s k. recvtime_on (signed (get_or a 0 0)) s k) ⨾
    (λ a s k. send_on (get_or a 0 0) (get_or a 1 0) s k) ⨾
    (λ a s k. signal_on (get_or a 0 0) s k) ⨾
    (λ a s k. getmem_on (get_or a 0 0) s k) ⨾
    (λ a s k. device_putc_on (get_or a 0 0) (get_or a 1 0 % 256) s k) ⨾
    (λ a s k. semcreate_on (signed (get_or a 0 0)) s k) ⨾
    (λ a s k. chprio_on (get_or a 0 0) (half (get_or a 1 0)) s k) ⨾
    (λ a s k. wait_on (get_or a 0 0) s k) ⨾
    (λ a s k. receive_on s k) ⨾
    (λ a s k. getbuf_on (get_or a 0 0) s k) ⨾
    (λ a s k. mkbufpool_on (get_or a 0 0) (get_or a 1 0) s k) ⨾
    (λ a s k. device_open_on (get_or a 0 0) (get_or a 1 0) (get_or a 2 0) s k) ⨾
    (λ a s k. device_write_on (get_or a 0 0) (get_or a 1 0) (get_or a 2 0) s k) ⨾
    tt

-- what holds of all elements and of what is read past them
each_or : {A : Type 0} (P : A → Type 0) (l : List A) (d : A) → AllByRecursion P l → P d → (i : ℕ) → P (get_or l i d)
each_or P [] d all other i = other
each_or P (x ∷ l) d all other zero = all.0
each_or P (x ∷ l) d all other (suc i) = each_or P l d all.1 other i

-- After a call of theirs the programs still run.
pub called_on : (words : ℕ → List ℕ) (i : ℕ) (args : List ℕ) (s : Xinu) → AreRunning words s → KeepRunning words (called (get_or made_calls i 1) args s)
called_on words i = each_or (StaysOn words) made_calls 1 (all_stay words) (all_stay words).0 i

-- So they do after what was left of one.
pub continued_on : {words : ℕ → List ℕ} (left : Rest) (s : Xinu) → AreRunning words s → MayBeLeft left → KeepRunning words (continued left s)
continued_on rest.Nothing s k may = record { running = k; calm = refl }
continued_on rest.Receive s k may = go_on_receive_on s k
continued_on rest.Timed s k may = go_on_receive_on s k
continued_on rest.SelfSuspend s k may = absurd may
continued_on (rest.GetBuf i) s k may = go_on_getbuf_on i s k
continued_on (rest.PtSend ticket message) s k may = absurd may
continued_on (rest.PtRecv ticket) s k may = absurd may
continued_on rest.TtyGet s k may = absurd may
continued_on (rest.TtyRead part) s k may = absurd may
continued_on (rest.TtyPut b returned) s k may = go_on_putc_on b returned s k
continued_on (rest.TtyWrite part returned) s k may = go_on_write_on part returned s k
continued_on (rest.Disk reply) s k may = go_on_disk_on reply s k
