-- What is said of runs of the two programs that count.
use Rattle.std.specs.Prelude.{◌≡◌, ◌+◌, ◌%◌, ◌^◌, ◌&&◌, nat_le, nat_lt, if◌then◌else◌, ℕ, zero, suc, Bool, List, slice_index_or}
use Rattle.program_logic.specs.Kept.{times_given_back, told}
use Rattle.scheduling_laws.specs.Moments.{Moment}
use Rattle.xinu_base.specs.declared.lines.TranscriptLine.{TranscriptLine}
use Rattle.xinu_model.specs.Machine.{Xinu, no_hart}
use Rattle.xinu_model.specs.Memory.{number_at}

-- how many rounds were completed in these moments: the calls of `signal` on semaphore 4
abbrev pub rounds : List Moment → ℕ
rounds ms = times_given_back 4 ms

-- the address of the first word of a process's loop
abbrev pub loop_of : ℕ → ℕ
loop_of (suc zero) = 12
loop_of _ = 64

-- whether process p has stored its sum and is still to call `signal`: its store is the seventh word of its loop, and `sys signal` the ninth and
-- the tenth
abbrev pub has_added : Xinu → ℕ → Bool
has_added s p = let pc = (slice_index_or s.harts p no_hart).pc in nat_le (loop_of p + 28) pc && nat_lt pc (loop_of p + 40)

abbrev pub one_if : Bool → ℕ
one_if b = if b then 1 else 0

-- No addition is lost: the word is the number of rounds that were completed, and one more if a process has stored its sum and is still to call
-- `signal`.
abbrev pub IsCounted : List Moment → Xinu → Type 0
IsCounted ms now = number_at now.memory 108 4 ≡ (rounds ms + (one_if (has_added now 1) + one_if (has_added now 2))) % 2 ^ 32

-- The same of a transcript: its lines `call P signal 4` are as many as the rounds.
abbrev pub IsToldRight : List TranscriptLine → Xinu → Type 0
IsToldRight lines last = number_at last.memory 108 4 ≡ (told 4 lines + (one_if (has_added last 1) + one_if (has_added last 2))) % 2 ^ 32
