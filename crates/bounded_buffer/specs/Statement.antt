-- What is said of runs of the producer and the consumer.
use Rattle.std.specs.Prelude.{◌≡◌, ◌≢◌, ◌≤◌, ◌<◌, ◌+◌, ◌%◌, ◌^◌, ◌&&◌, ◌||◌, nat_le, nat_lt, ℕ, Bool, true, List, slice_index, slice_index_or}
use Rattle.program_logic.specs.Kept.{times_given_back, told}
use Rattle.scheduling_laws.specs.Moments.{Moment}
use Rattle.xinu_base.specs.declared.lines.TranscriptLine.{TranscriptLine}
use Rattle.xinu_base.specs.declared.processes.State.TheVariants.{Free}
use Rattle.xinu_base.specs.declared.registers.Hart.{Hart}
use Rattle.xinu_model.specs.Machine.{Xinu, no_hart}
use Rattle.xinu_model.specs.Memory.{number_at}
use Rattle.xinu_model.specs.Tables.{state_at}
use Rattle.bounded_buffer.specs.Buffer.{slot_of}

-- how many items were put into the buffer in these moments, and how many were taken: the calls of `signal` on `items`, and on `room`
abbrev pub put_in : List Moment → ℕ
put_in ms = times_given_back 5 ms

abbrev pub taken_in : List Moment → ℕ
taken_in ms = times_given_back 4 ms

-- the same in lines of a transcript: how many tell of such a call
abbrev pub puts_told : List TranscriptLine → ℕ
puts_told lines = told 5 lines

abbrev pub takes_told : List TranscriptLine → ℕ
takes_told lines = told 4 lines

-- the registers of the consumer
abbrev pub consumer_of : Xinu → Hart
consumer_of s = slice_index_or s.harts 2 no_hart

-- whether the consumer has loaded an item and is still to call `signal`: its load is the fifth word of each of its rounds, and `sys signal` the
-- seventh and the eighth
abbrev pub has_loaded : Xinu → Bool
has_loaded s = let pc = (consumer_of s).pc in (nat_le 116 pc && nat_lt pc 128) || (nat_le 148 pc && nat_lt pc 160)

-- Once these many items were put and taken no item is lost, doubled or out of order, and there are at most two in the buffer: its items are those
-- that were put and not taken, each in its slot, and what the consumer loads is the item whose number is how many it has taken before. Both processes
-- are alive.
pub record IsInOrder (put taken : ℕ) (now : Xinu) : Type 0 where
  pub none_doubled : taken ≤ put
  pub few : put ≤ taken + 2
  pub buffer : (k : ℕ) → taken ≤ k → k < put → number_at now.memory (slot_of k) 4 ≡ k % 2 ^ 32
  pub loads : has_loaded now ≡ true → slice_index (consumer_of now).regs 5 ≡ taken % 2 ^ 32
  pub alive : (p : ℕ) → 1 ≤ p → p ≤ 2 → state_at now.tables p ≢ Free
