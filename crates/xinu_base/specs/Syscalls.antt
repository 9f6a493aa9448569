-- The table of calls: for each number a name and how many arguments are printed (book, appendix on system calls).
use Rattle.std.specs.Prelude.{ℕ, Bool, true, false, ◌&&◌, List, [], ◌∷◌, ◌==◌, if◌then◌else◌, Option, Some, None, is_some, option_map, codes}
use Rattle.std.specs.List.{list_any}
use Rattle.std.specs.Option.{option_map_or}
use Rattle.xinu_base.specs.declared.syscalls.Family.{Family}
use Rattle.xinu_base.specs.declared.syscalls.Family.TheVariants.{Processes, Ports, Devices}

-- A system call: its number, its family, its name, and how many arguments it takes.
pub record Syscall : Type 0 where
  pub number : ℕ
  pub family : Family
  pub name : List ℕ
  pub args : ℕ

abbrev pub syscall : ℕ → Family → List ℕ → ℕ → Syscall
syscall number family name args = record { number = number; family = family; name = name; args = args }

-- how many system calls there are, numbered from 1 on
abbrev pub CALLS : ℕ
CALLS = 44

-- the system calls
abbrev pub syscalls : List Syscall
syscalls =
    syscall 1 Processes (codes "getpid") 0 ∷
    syscall 2 Processes (codes "create") 6 ∷
    syscall 3 Processes (codes "resume") 1 ∷
    syscall 4 Processes (codes "suspend") 1 ∷
    syscall 5 Processes (codes "kill") 1 ∷
    syscall 6 Processes (codes "yield") 0 ∷
    syscall 7 Processes (codes "chprio") 2 ∷
    syscall 8 Processes (codes "getprio") 1 ∷
    syscall 9 Processes (codes "exit") 0 ∷
    syscall 10 Processes (codes "getmem") 1 ∷
    syscall 11 Processes (codes "freemem") 2 ∷
    syscall 12 Processes (codes "getstk") 1 ∷
    syscall 13 Processes (codes "freestk") 2 ∷
    syscall 14 Processes (codes "semcreate") 1 ∷
    syscall 15 Processes (codes "semdelete") 1 ∷
    syscall 16 Processes (codes "semreset") 2 ∷
    syscall 17 Processes (codes "semcount") 1 ∷
    syscall 18 Processes (codes "wait") 1 ∷
    syscall 19 Processes (codes "signal") 1 ∷
    syscall 20 Processes (codes "signaln") 2 ∷
    syscall 21 Processes (codes "send") 2 ∷
    syscall 22 Processes (codes "receive") 0 ∷
    syscall 23 Processes (codes "recvclr") 0 ∷
    syscall 24 Processes (codes "recvtime") 1 ∷
    syscall 25 Processes (codes "sleep") 1 ∷
    syscall 26 Processes (codes "sleepms") 1 ∷
    syscall 27 Processes (codes "clktime") 0 ∷
    syscall 28 Ports (codes "mkbufpool") 2 ∷
    syscall 29 Ports (codes "getbuf") 1 ∷
    syscall 30 Ports (codes "freebuf") 1 ∷
    syscall 31 Ports (codes "ptcreate") 1 ∷
    syscall 32 Ports (codes "ptdelete") 2 ∷
    syscall 33 Ports (codes "ptreset") 2 ∷
    syscall 34 Ports (codes "ptsend") 2 ∷
    syscall 35 Ports (codes "ptrecv") 1 ∷
    syscall 36 Devices (codes "open") 3 ∷
    syscall 37 Devices (codes "close") 1 ∷
    syscall 38 Devices (codes "read") 3 ∷
    syscall 39 Devices (codes "write") 3 ∷
    syscall 40 Devices (codes "getc") 1 ∷
    syscall 41 Devices (codes "putc") 2 ∷
    syscall 42 Devices (codes "seek") 2 ∷
    syscall 43 Devices (codes "control") 3 ∷
    syscall 44 Devices (codes "mount") 3 ∷
    []

-- the first row with this number
abbrev pub syscall_in : List Syscall → ℕ → Option Syscall
syscall_in [] number = None
syscall_in (row ∷ rows) number = if number == row.number then Some row else syscall_in rows number

-- the name of the call of this number
abbrev pub name_of : ℕ → List ℕ
name_of number = option_map_or (λ row. row.name) (syscall_in syscalls number) (codes "unknown")

-- how many arguments the call of this number takes; one, if it has none
abbrev pub args_of : ℕ → ℕ
args_of number = option_map_or (λ row. row.args) (syscall_in syscalls number) 1

-- the family of the call of this number
abbrev pub family_of : ℕ → Option Family
family_of number = option_map (λ row. row.family) (syscall_in syscalls number)

-- whether two families are the same
abbrev pub same_family : Family → Family → Bool
same_family Processes Processes = true
same_family Ports Ports = true
same_family Devices Devices = true
same_family _ _ = false

-- whether a call of this family has the number
abbrev pub is_of : Family → ℕ → Bool
is_of family number = list_any (λ row. same_family family row.family && (number == row.number)) syscalls

-- whether the number has a call
abbrev pub is_call : ℕ → Bool
is_call number = is_some (syscall_in syscalls number)
