-- The actions of a `vCont`: what each thread is to do.
use Rattle.std.specs.Prelude.{ℕ, ◌==◌, if◌then◌else◌, List, [], ◌∷◌, drop, map, Option, Some, None}
use Rattle.std.specs.List.{slice_split}
use Rattle.gdb_packets.specs.Operands.{threads_in}
use Rattle.gdb_packets.specs.declared.actions.Action.{Action}
use Rattle.gdb_packets.specs.declared.actions.Action.TheVariants.{Steps, Goes, Other}
use Rattle.gdb_packets.specs.declared.commands.Command.{Command}
use Rattle.gdb_packets.specs.declared.commands.Command.TheVariants.{Step, Continue, ContinueOne, Malformed}
use Rattle.gdb_packets.specs.declared.commands.Threads.{Threads}
use Rattle.gdb_packets.specs.declared.commands.Threads.TheVariants.{Any, One}

-- any thread, or those named after a colon
abbrev pub named : List ℕ → Option Threads
named [] = Some Any
named (b ∷ rest) = if b == 58 then threads_in rest else None

-- an action of the threads that were read
abbrev pub acting : (Threads → Action) → Option Threads → Action
acting act None = Other
acting act (Some threads) = act threads

-- an action of the threads that bytes name
abbrev pub acted : (Threads → Action) → List ℕ → Action
acted act bytes = acting act (named bytes)

-- an action: `s` and `c`, or `S` and `C` with the two digits of a signal, which the machine doesn't have
abbrev pub action_in : List ℕ → Action
action_in [] = Other
action_in (b ∷ rest) =
    if b == 115 then acted Steps rest
    else if b == 99 then acted Goes rest
    else if b == 83 then acted Steps (drop 2 rest)
    else if b == 67 then acted Goes (drop 2 rest)
    else Other

-- the actions between semicolons
abbrev pub actions_in : List ℕ → List Action
actions_in bytes = map action_in (slice_split (λ b. b == 59) bytes)

-- what many actions ask for: the first that steps, or is none that is known, decides
abbrev pub of_many : List Action → Command
of_many [] = Continue
of_many (Steps threads ∷ actions) = Step threads
of_many (Goes threads ∷ actions) = of_many actions
of_many (Other ∷ actions) = Malformed

-- the thread of an action that goes on
abbrev pub thread_of : Action → Option ℕ
thread_of (Steps threads) = None
thread_of (Goes Any) = None
thread_of (Goes (One thread)) = Some thread
thread_of Other = None

-- the thread that goes on alone, if there is one action and it names the thread
abbrev pub lone : List Action → Option ℕ
lone [] = None
lone (action ∷ []) = thread_of action
lone (action ∷ next ∷ actions) = None

-- one thread that goes on alone is told from all that go on
abbrev pub by_lone : Option ℕ → Command → Command
by_lone (Some thread) otherwise = ContinueOne thread
by_lone None otherwise = otherwise

-- what the bytes after `vCont;` ask for
abbrev pub resumption : List ℕ → Command
resumption bytes = by_lone (lone (actions_in bytes)) (of_many (actions_in bytes))
