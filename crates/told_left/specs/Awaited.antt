-- The words for what a process waits for.
use Rattle.std.specs.Prelude.{ℕ, ◌==◌, if◌then◌else◌, List, [], ◌++◌, Option, Some, None, codes}
use Rattle.std.specs.Fmt.{decimal}
use Rattle.process_waits.specs.Waiting.{awaited}
use Rattle.xinu_base.specs.declared.semaphores.Owner.{Owner}
use Rattle.xinu_base.specs.declared.semaphores.Owner.TheVariants as owner
use Rattle.xinu_model.specs.Tables.{Tables, semaphore_at}

-- what a device's semaphore stands for
abbrev pub device_text : ℕ → List ℕ
device_text sem =
    if sem == 0 then codes "console input"
    else (if sem == 1 then codes "room"
    else if sem == 2 then codes "disk"
    else codes "files")

-- what a semaphore stands for, by whose it is: a buffer of a pool, a message of a port or room for one, a device, or itself
abbrev pub semaphore_text : ℕ → Option Owner → List ℕ
semaphore_text sem None = codes "semaphore " ++ decimal sem
semaphore_text sem (Some owner.Image) = codes "semaphore " ++ decimal sem
semaphore_text sem (Some (owner.Pool pool)) = codes "pool " ++ decimal pool
semaphore_text sem (Some (owner.Port port)) = codes "port " ++ decimal port
semaphore_text sem (Some owner.Device) = device_text sem

-- what the semaphore stands for on which a process waits, if it waits on one
abbrev pub text_of : Tables → Option ℕ → List ℕ
text_of t None = []
text_of t (Some sem) = semaphore_text sem (semaphore_at t sem).owner

-- what process p waits for
abbrev pub awaited_of : Tables → ℕ → List ℕ
awaited_of t p = text_of t (awaited t p)
