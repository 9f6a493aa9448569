-- What the lists answer to calls, one after another.
use Rattle.std.specs.Prelude.{ℕ, ℤ, pos, negsuc, ◌==◌, nat_lt, nat_le, Bool, ◌&&◌, not, if◌then◌else◌, List, [], ◌∷◌, Option, Some, None}
use Rattle.lists_c.specs.Held.{Lists, is_due, is_held, ready_taken, sleeper_taken, ticked, waiter_taken, with_ready, with_sleeper, with_waiter, without_process}
use Rattle.lists_c.specs.declared.calls.ListCall.{ListCall}
use Rattle.queue_table.specs.Lists.{first_key_of, first_process}

-- An answer, and the lists after it.
pub record Answered : Type 0 where
  pub answer : ℤ
  pub lists : Lists

-- a call that is refused
abbrev refused : Lists → Answered
refused s = record { answer = negsuc 0; lists = s }

-- a process joins a list, if it may
abbrev pub joined : Bool → Lists → Lists → Answered
joined may s after = if may then record { answer = pos 0; lists = after } else refused s

-- a process may join a list if there is one of its number, and it is in none
abbrev pub may_join : ℕ → Lists → Bool
may_join p s = nat_lt p 1000 && not (is_held p s)

-- a number as it is answered, if there is one
abbrev pub number : Option ℕ → ℤ
number None = negsuc 0
number (Some p) = pos p

-- a key as it is answered, if there is one
abbrev pub key_or_none : Option ℤ → ℤ
key_or_none None = negsuc 0
key_or_none (Some key) = key

-- a process leaves its list, if it is in one
abbrev pub removed : ℕ → Lists → Answered
removed p s =
    if nat_lt p 1000 && is_held p s then record { answer = pos 0; lists = without_process p s } else refused s

-- a tick passes, unless a sleeper is due
abbrev pub passed : Lists → Answered
passed s = if is_due s then refused s else record { answer = pos 0; lists = ticked s }

-- the first sleeper wakes, if it is due
abbrev pub woken : Lists → Answered
woken s = if is_due s then record { answer = number (first_process s.sleepers); lists = sleeper_taken s } else refused s

-- the answer to a call
abbrev pub answered : Lists → ListCall → Answered
answered s c =
    if c.kind == 0 then joined (may_join c.process s && nat_le c.key 2147483647) s (with_ready c.process (pos c.key) s)
    else if c.kind == 1 then joined (may_join c.process s) s (with_waiter c.process s)
    else if c.kind == 2 then joined (may_join c.process s && (nat_lt 0 c.key && nat_le c.key 2147483647)) s (with_sleeper c.process (pos c.key) s)
    else if c.kind == 3 then record { answer = number (first_process s.ready); lists = ready_taken s }
    else if c.kind == 4 then record { answer = number (first_process s.waiters); lists = waiter_taken s }
    else if c.kind == 5 then removed c.process s
    else if c.kind == 6 then record { answer = key_or_none (first_key_of s.ready); lists = s }
    else if c.kind == 7 then record { answer = key_or_none (first_key_of s.sleepers); lists = s }
    else if c.kind == 8 then passed s
    else if c.kind == 9 then woken s
    else refused s

-- the answers to calls, one after another
abbrev pub answers_of : Lists → List ListCall → List ℤ
answers_of s [] = []
answers_of s (c ∷ calls) = (answered s c).answer ∷ answers_of (answered s c).lists calls
