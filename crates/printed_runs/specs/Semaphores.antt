-- How a semaphore was used, by what the lines of a transcript say. What was said is a list of notes, the latest first.
use Rattle.std.specs.Prelude.{◌≡◌, ◌<◌, ◌+◌, ◌==◌, ◌&&◌, ◌||◌, not, nat_lt, ℕ, Bool, true, false, if◌then◌else◌, List, [], ◌∷◌, length, Option, Some, None, slice_index_or}
use Rattle.printed_runs.specs.declared.notes.Asked.{Asked}
use Rattle.printed_runs.specs.declared.notes.Asked.TheVariants as asked
use Rattle.printed_runs.specs.declared.notes.Note.{Note}
use Rattle.printed_runs.specs.declared.notes.Note.TheVariants as note
use Rattle.printed_runs.specs.declared.usages.User.{User}
use Rattle.printed_runs.specs.declared.usages.Usage.{Usage}
use Rattle.printed_runs.specs.declared.usages.Usages.{Usages}

-- what a process asked for in its last call
abbrev pub asked_last : List Note → ℕ → Asked
asked_last [] p = asked.Other
asked_last (note.Called q a ∷ before) p = if q == p then a else asked_last before p
asked_last (note.Answered q v ∷ before) p = asked_last before p
asked_last (note.Other ∷ before) p = asked_last before p

-- a process, of whose number no other was made since
abbrev pub used_by : ℕ → Option User
used_by p = Some (record { process = p; is_past = false })

-- whether it is the process that has this number now
abbrev pub is_user : ℕ → Option User → Bool
is_user p None = false
is_user p (Some u) = (u.process == p) && not u.is_past

-- another process of this number was made since, if it had that number
abbrev pub passed_user : ℕ → Option User → Option User
passed_user p None = None
passed_user p (Some u) = Some (record u { is_past = u.is_past || (u.process == p) })

-- a semaphore after another process of this number was made
abbrev pub passed : ℕ → Usage → Usage
passed p was = record was { taker = passed_user p was.taker; signaller = passed_user p was.signaller }

-- A semaphore that was just made. One with one token is a lock, as long as each process that signals it had taken it.
abbrev pub made_with : ℕ → Usage
made_with n = record { taker = None; signaller = None; signals = 0; is_lock = n == 1; is_held = false }

-- one more, up to the greatest number of 32 bits
abbrev pub one_more : ℕ → ℕ
one_more n = if nat_lt n 4294967295 then n + 1 else n

-- A semaphore after a process's call for it. Who signals a lock that he took gives it back; who signals one that he didn't take uses no lock.
abbrev pub after_call : Asked → ℕ → Usage → Usage
after_call (asked.Signal t) p was = record was {
  signaller = used_by p;
  signals = one_more was.signals;
  is_lock = was.is_lock && (was.is_held && is_user p was.taker);
  is_held = false;
}
after_call (asked.SignalMany t) p was = record was { signaller = used_by p; signals = one_more was.signals; is_lock = false }
after_call (asked.Reset t) p was = record was { is_lock = false }
after_call a p was = was

-- the semaphore whose use a call changes
abbrev pub called_for : Asked → Option ℕ
called_for (asked.Signal t) = Some t
called_for (asked.SignalMany t) = Some t
called_for (asked.Reset t) = Some t
called_for a = None

-- whether it is this one
abbrev pub is_for : Option ℕ → ℕ → Bool
is_for None s = false
is_for (Some t) s = t == s

-- Semaphore s after the reply v to process p: a wait that is answered 0 took it.
abbrev pub after_reply : Asked → ℕ → ℕ → ℕ → Usage → Usage
after_reply (asked.Wait t) p v s was = if (v == 0) && (t == s) then record was { taker = used_by p; is_held = true } else was
after_reply (asked.Semaphore n) p v s was = if v == s then made_with n else was
after_reply asked.Process p v s was = passed v was
after_reply a p v s was = was

-- how semaphore s was used since it was made
abbrev pub usage : List Note → ℕ → Usage
usage [] s = made_with 0
usage (note.Called p a ∷ before) s = if is_for (called_for a) s then after_call a p (usage before s) else usage before s
usage (note.Answered p v ∷ before) s = after_reply (asked_last before p) p v s (usage before s)
usage (note.Other ∷ before) s = usage before s

-- It is kept of what was said what each process asked for last, and how each semaphore was used.
pub record Knows (said : List Note) (t : Usages) : Type 0 where
  pub processes : length t.asked ≡ 64
  pub semaphores : length t.all ≡ 128
  pub asked : (p : ℕ) → p < 64 → slice_index_or t.asked p asked.Other ≡ asked_last said p
  pub used : (s : ℕ) → s < 128 → slice_index_or t.all s (made_with 0) ≡ usage said s
