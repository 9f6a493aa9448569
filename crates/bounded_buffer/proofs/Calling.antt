-- The current one of the two processes makes a call: what is to be known before, and what comes of it.
use Rattle.std.proofs.Common.{◌≡◌, ◌≢◌, ◌∙◌, inl, sym, subst, arith, ℕ, ℤ, suc, ◌+◌, ◌*◌, ◌≤◌, ◌<◌, length, get_or, set, false}
use Rattle.std.proofs.Math.ListN.{length-set}
use Rattle.xinu_base.specs.declared.processes.Rest.TheVariants.{Nothing}
use Rattle.xinu_model.specs.Isa.Effects.{following}
use Rattle.xinu_model.specs.Machine.{EventResult, Xinu, no_hart, with_reply}
use Rattle.xinu_model.specs.Sound.State.{IsSound}
use Rattle.xinu_model.specs.Sound.Tables.{CanRun}
use Rattle.xinu_model.specs.Tables.{Tables, process_at, semaphore_at, state_at}
use Rattle.xinu_model.specs.Words.{word}
use Rattle.program_logic.proofs.Answering.{after_call, asked, can_still, given}
use Rattle.program_logic.proofs.Replies.{reply_mine, reply_other}
use Rattle.program_logic.proofs.Threads.{free_kept}
use Rattle.program_logic.proofs.Turns.{AreTurned}
use Rattle.bounded_buffer.proofs.Obeying.{Stage, held, stored}
use Rattle.bounded_buffer.proofs.Pairs.{thread_kept}
use Rattle.bounded_buffer.proofs.Running.{IsPair, IsSemaphore, IsStage, IsThread}
use Rattle.bounded_buffer.specs.Buffer.{At, first}
use Rattle.bounded_buffer.specs.Places.{Phase}

-- two processes and their semaphores
pub record AreTwo (p q a b n m : ℕ) : Type 0 where
  pub p_some : 1 ≤ p
  pub p_few : p < 64
  pub q_some : 1 ≤ q
  pub q_few : q < 64
  pub differ : q ≢ p
  pub apart : a ≢ b
  pub a_some : 4 ≤ a
  pub a_few : a < 128
  pub b_some : 4 ≤ b
  pub b_few : b < 128
  pub tokens : n + m ≤ 2

-- The current process is one of them, at place k, and makes a call.
pub record Acts (q a b n m : ℕ) (stage : Stage) (f g : Phase) (i j k : ℕ) (s : Xinu) : Type 0 where
  pub sound : IsSound s
  pub two : AreTwo s.tables.current q a b n m
  pub pair : IsPair s.tables.current q a b n m stage f g i j s.tables s.harts
  pub next : following (get_or s.harts s.tables.current no_hart) ≡ first s.tables.current + 4 * suc k
  pub regs : length (get_or s.harts s.tables.current no_hart).regs ≡ 32

-- What came of it, if the stage goes by the phase of process p: both are in phases, after rounds, and RAM and the disks are as they were.
pub record Did (p q a b n m : ℕ) (at : Phase → Phase → Stage) (f g : Phase) (i j : ℕ) (s : Xinu) (x : EventResult) : Type 0 where
  pub to : Phase
  pub their_to : Phase
  pub count : ℕ
  pub pair : IsPair p q a b n m (at to their_to) to their_to count j x.state.tables x.state.harts
  pub memory : x.state.memory ≡ s.memory
  pub disk : x.state.parts.devices.disk.requests ≡ s.parts.devices.disk.requests
  pub files : x.state.parts.devices.files.calls ≡ s.parts.devices.files.calls
  pub more : i ≤ count
  pub reach : p ≡ 1 → count + stored 1 to ≡ i + stored 1 f
  pub their_reach : stored q their_to ≡ stored q g
  pub is : count ≡ i + given b x.lines
  pub none : given a x.lines ≡ 0
  pub calm : x.panics ≡ false

module _ {q a b n m : ℕ} {stage : Stage} {f g : Phase} {i j k : ℕ} {s : Xinu} (c : Acts q a b n m stage f g i j k s) where
  pub there_are : s.tables.current < length s.harts
  there_are = let many = c.sound.harts.many in let few = c.two.p_few in omega arith

  -- The current process at the next place, answered.
  pub mine : (to : Phase) (count x : ℕ) (u : Tables) → (process_at u s.tables.current).rest ≡ Nothing → CanRun (state_at u s.tables.current)
      → At s.tables.current to (suc k) count (set (get_or s.harts s.tables.current no_hart).regs 10 x)
      → IsThread s.tables.current to count u
      (record { regs = set (get_or s.harts s.tables.current no_hart).regs 10 x; pc = following (get_or s.harts s.tables.current no_hart) })
  mine to count x u rest can at = record {
    place = suc k;
    pc = c.next;
    regs = length-set (get_or s.harts s.tables.current no_hart).regs 10 x ∙ c.regs;
    rest = rest;
    stands = inl (can, at);
  }

  -- The call is answered, and the tables are as they were but for semaphores.
  pub answered : (stage_now : Stage) (to : Phase) (count : ℕ) (v : ℤ) (u : Tables) (x z : ℕ) → AreTurned s.tables u
      → At s.tables.current to (suc k) count (set (get_or s.harts s.tables.current no_hart).regs 10 (word v))
      → IsSemaphore (semaphore_at u a) x n → x + (held to + count) ≡ n + j → IsSemaphore (semaphore_at u b) z m → z + (held g + j) ≡ m + count
      → IsStage stage_now u
      → IsPair s.tables.current q a b n m stage_now to g count j u (with_reply (asked s).harts (s.tables.current, v))
  answered stage_now to count v u x z t at own own_sum their their_sum made =
      let p = s.tables.current in
      let h = get_or s.harts p no_hart in
      record {
        mine = subst (IsThread p to count u) (sym (reply_mine s.harts p (after_call h) v there_are))
            (mine to count (word v) u ((t p).rest ∙ c.pair.mine.rest) (can_still (process_at s.tables p) (process_at u p) (t p) (inl c.sound.tables.runs)) at);
        other = thread_kept q g j s.tables u (get_or s.harts q no_hart) (get_or (with_reply (asked s).harts (p, v)) q no_hart)
            (reply_other s.harts p q (after_call h) v c.two.differ) (t q) c.pair.other;
        free = λ r some not neither. free_kept (process_at s.tables r) (process_at u r) (t r) (c.pair.free r some not neither);
        a_tokens = x;
        b_tokens = z;
        own = own;
        own_sum = own_sum;
        their = their;
        their_sum = their_sum;
        made = made;
      }
