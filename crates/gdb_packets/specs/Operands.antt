-- What follows the name of a packet: numbers, threads, or nothing.
use Rattle.std.specs.Prelude.{ℕ, ◌==◌, if◌then◌else◌, List, [], ◌∷◌, Option, Some, None, codes}
use Rattle.gdb_packets.specs.Digits.{number_in}
use Rattle.gdb_packets.specs.Names.{rest_after}
use Rattle.gdb_packets.specs.declared.commands.Command.{Command}
use Rattle.gdb_packets.specs.declared.commands.Command.TheVariants.{Malformed, Unknown}
use Rattle.gdb_packets.specs.declared.commands.Threads.{Threads}
use Rattle.gdb_packets.specs.declared.commands.Threads.TheVariants.{Any, One}

-- a number with nothing after it
abbrev pub whole : Option (ℕ × List ℕ) → Option ℕ
whole None = None
whole (Some (n, [])) = Some n
whole (Some (n, b ∷ rest)) = None

abbrev pub whole_number : List ℕ → Option ℕ
whole_number bytes = whole (number_in bytes)

-- a number, and another one with nothing after it
abbrev pub with_second : ℕ → Option ℕ → Option (ℕ × ℕ)
with_second first None = None
with_second first (Some second) = Some (first, second)

abbrev pub after_first : Option (ℕ × List ℕ) → Option (ℕ × ℕ)
after_first None = None
after_first (Some (n, [])) = None
after_first (Some (n, b ∷ rest)) = if b == 44 then with_second n (whole_number rest) else None

-- two numbers with a comma between them
abbrev pub two_numbers : List ℕ → Option (ℕ × ℕ)
two_numbers bytes = after_first (number_in bytes)

-- the threads of a number: 0 means any
abbrev pub numbered : Option ℕ → Option Threads
numbered None = None
numbered (Some n) = Some (if n == 0 then Any else One n)

abbrev pub threads_by : Option (List ℕ) → Option Threads → Option Threads
threads_by (Some []) other = Some Any
threads_by (Some (b ∷ rest)) other = other
threads_by None other = other

-- the threads that bytes name: `-1` means all, and 0 any
abbrev pub threads_in : List ℕ → Option Threads
threads_in bytes = threads_by (rest_after (codes "-1") bytes) (numbered (whole_number bytes))

-- a command after whose name nothing comes; another name is meant if something does
abbrev pub alone : Command → List ℕ → Command
alone command [] = command
alone command (b ∷ rest) = Unknown

-- a command whatever comes after its name
abbrev pub always : Command → List ℕ → Command
always command rest = command

-- a command of what was read, if it could be
abbrev pub of_read : {A : Type 0} → (A → Command) → Option A → Command
of_read command None = Malformed
of_read command (Some a) = command a

-- commands of a number, of two numbers, of threads
abbrev pub of_number : (ℕ → Command) → List ℕ → Command
of_number command rest = of_read command (whole_number rest)

abbrev pub of_two : (ℕ → ℕ → Command) → List ℕ → Command
of_two command rest = of_read (λ two. command two.0 two.1) (two_numbers rest)

abbrev pub of_threads : (Threads → Command) → List ℕ → Command
of_threads command rest = of_read command (threads_in rest)
