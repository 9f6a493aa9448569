-- Processes as threads: that of process p has the number p + 1.
use Rattle.std.specs.Prelude.{ℕ, ◌+◌, ◌-◌, ◌==◌, nat_le, nat_lt, zero, suc, Bool, not, ◌&&◌, ◌||◌, if◌then◌else◌, List, [], ◌∷◌, ◌++◌, drop, Option, Some, None, codes}
use Rattle.std.specs.Fmt.{decimal, signed_decimal}
use Rattle.std.specs.List.{list_all}
use Rattle.process_waits.specs.Waiting.{awaited, wake_in}
use Rattle.xinu_base.specs.Hexadecimal.{hex_byte}
use Rattle.xinu_base.specs.declared.processes.State.{State}
use Rattle.xinu_base.specs.declared.processes.State.TheVariants.{Free, Current, Ready, Receiving, Sleeping, Suspended, Waiting, Timed}
use Rattle.xinu_model.specs.Tables.{Tables, is_free, process_at, state_at}

-- whether no process but the null process is left
abbrev pub is_over : Tables → Bool
is_over t = list_all (λ x. is_free x.state) (drop 1 t.processes)

-- whether process p is a thread: it is left, and the null process is one only if no other is
abbrev pub is_thread : Tables → ℕ → Bool
is_thread t p = if p == 0 then is_over t else not (is_free (state_at t p))

-- the process of a thread's number, if there is one
abbrev pub process_of : Tables → ℕ → Option ℕ
process_of t thread =
    if nat_lt 0 thread && nat_le thread 64 && is_thread t (thread - 1) then Some (thread - 1) else None

-- the first process that is left, of so many from a number on; the null process if none is
unfoldable pub first_left : Tables → ℕ → ℕ → ℕ
first_left t p zero = 0
first_left t p (suc left) = if is_free (state_at t p) then first_left t (p + 1) left else p

-- the process that is looked at first: the current one; if that is the null process, the first other that is left
abbrev pub shown_process : Tables → ℕ
shown_process t = if t.current == 0 then first_left t 1 63 else t.current

-- a number in decimal digits, if there is one
abbrev pub number_text : Option ℕ → List ℕ
number_text None = codes "?"
number_text (Some n) = decimal n

-- what a process of a state is doing
abbrev pub state_text : Tables → ℕ → State → List ℕ
state_text t p Free = codes "free"
state_text t p Current = codes "current"
state_text t p Ready = codes "ready"
state_text t p Receiving = codes "waiting for a message"
state_text t p Sleeping = codes "asleep until tick " ++ number_text (wake_in p t.sleepers)
state_text t p Suspended = codes "suspended"
state_text t p Waiting = codes "waiting for semaphore " ++ number_text (awaited t p)
state_text t p Timed = codes "waiting for a message until tick " ++ number_text (wake_in p t.sleepers)

-- what process p is doing, and its priority
abbrev pub doing : Tables → ℕ → List ℕ
doing t p = state_text t p (state_at t p) ++ codes ", priority " ++ signed_decimal (process_at t p).priority

-- whether a byte of a name is shown: it can be printed, and means nothing in XML
abbrev pub is_plain : ℕ → Bool
is_plain b = nat_le 32 b && nat_le b 126 && not ((b == 38) || (b == 39) || (b == 60) || (b == 62))

-- a byte of a name, if it is shown
abbrev pub plain_byte : ℕ → List ℕ
plain_byte b = if is_plain b then b ∷ [] else []

-- the bytes of a name that are shown
abbrev pub name_text : List ℕ → List ℕ
name_text [] = []
name_text (b ∷ name) = plain_byte b ++ name_text name

-- the number of a thread, in two digits
abbrev pub thread_text : ℕ → List ℕ
thread_text p = hex_byte (p + 1)

-- a thread in the list of threads: its number, its name, what it is doing
abbrev pub thread_entry : Tables → ℕ → List ℕ
thread_entry t p =
    codes "<thread id='" ++ thread_text p ++ codes "' name='" ++ name_text (process_at t p).name ++ codes "'>" ++ doing t p ++ codes "</thread>"

-- the entry of a process, if it is a thread
abbrev pub entry_if : Bool → Tables → ℕ → List ℕ
entry_if is t p = if is then thread_entry t p else []

-- the threads of the processes below a number
unfoldable pub threads_below : Tables → ℕ → List ℕ
threads_below t zero = []
threads_below t (suc p) = threads_below t p ++ entry_if (is_thread t p) t p

-- the list of the threads
abbrev pub thread_list : Tables → List ℕ
thread_list t = codes "<?xml version='1.0'?><threads>" ++ threads_below t 64 ++ codes "</threads>"

-- whether there is a thread of a number
abbrev pub alive_by : Option ℕ → List ℕ
alive_by None = codes "E01"
alive_by (Some p) = codes "OK"

abbrev pub alive_text : Tables → ℕ → List ℕ
alive_text t thread = alive_by (process_of t thread)
