-- The current process makes a call, and is answered: it goes on at its next place.
use Rattle.std.proofs.Common.{List, Option, [], arith, false, get_or, inl, length, refl, set, subst, suc, sym, true, ℕ, ℤ, ⊎_elim, ◌*◌, ◌+◌, ◌<◌, ◌∙◌, ◌∷◌, ◌≡◌, ◌≢◌, ◌≤◌, ◌⊎◌}
use Rattle.std.proofs.Math.ListN.{length-set}
use Rattle.std.specs.Prelude.{if◌then◌else◌}
use Rattle.scheduling_laws.specs.Moments.{first_call}
use Rattle.scheduling_laws.specs.Tokens.{is_made}
use Rattle.table_laws.proofs.Tables.MoveTo.{by_number}
use Rattle.xinu_base.specs.declared.lines.TranscriptLine.{TranscriptLine}
use Rattle.xinu_base.specs.declared.processes.Process.{Process}
use Rattle.xinu_base.specs.declared.processes.Rest.TheVariants.{Nothing}
use Rattle.xinu_base.specs.declared.registers.Hart.{Hart}
use Rattle.xinu_model.specs.Isa.Effects.{following}
use Rattle.xinu_model.specs.Machine.{EventResult, Xinu, no_hart, with_reply}
use Rattle.xinu_model.specs.Memory.{number_at}
use Rattle.xinu_model.specs.Sound.Tables.{CanRun}
use Rattle.xinu_model.specs.Tables.{Tables, process_at, state_at}
use Rattle.xinu_model.specs.Words.{word}
use Rattle.xinu_base.specs.declared.lines.TranscriptLine.TheVariants as line
use Rattle.program_logic.proofs.Replies.{reply_mine, reply_other}
use Rattle.program_logic.proofs.Threads.{free_kept, thread_kept}
use Rattle.program_logic.proofs.Turns.{AreTurned, Turned}
use Rattle.program_logic.specs.Obeying.{IsSystem}
use Rattle.program_logic.specs.Outlines.{At, System, has}
use Rattle.program_logic.specs.Running.{AreRunning, IsMade, IsThread, IsUnmade, Runs}

-- how often the token is given back by a call
abbrev pub given : ℕ → List TranscriptLine → ℕ
given sem lines = if is_made 19 sem (first_call lines) then 1 else 0

-- What comes of an event: the programs run on, and the kernel doesn't panic.
pub record Next (y : System) (n : ℕ) (x : EventResult) : Type 0 where
  pub holder : Option ℕ
  pub count : ℕ
  pub is : count ≡ n + given y.sem x.lines
  pub running : AreRunning y holder count x.state
  pub calm : x.panics ≡ false

-- who can run still can after a turn
pub can_still : (x z : Process) → Turned x z → CanRun x.state → CanRun z.state
can_still x z turned can = ⊎_elim (λ (e : z.state ≡ x.state). subst CanRun (sym e) can) (λ (d : CanRun x.state × CanRun z.state). d.1) turned.state

-- It is one of the programs', at place k, and makes a call.
pub record Acts (y : System) (holder : Option ℕ) (n k : ℕ) (s : Xinu) : Type 0 where
  pub runs : Runs y holder n s
  pub some : 1 ≤ s.tables.current
  pub few : s.tables.current ≤ y.many
  pub next : following (get_or s.harts s.tables.current no_hart) ≡ y.first s.tables.current + 4 * suc k
  pub regs : length (get_or s.harts s.tables.current no_hart).regs ≡ 32

-- its registers after the `ecall`, and the state then
abbrev pub after_call : Hart → Hart
after_call h = record h { pc = following h }

abbrev pub asked : Xinu → Xinu
asked s = record s { harts = set s.harts s.tables.current (after_call (get_or s.harts s.tables.current no_hart)) }

-- the line of a call
abbrev pub call_line : ℕ → ℕ → List ℕ → List TranscriptLine
call_line p number args = line.Call p (record { number = number; args = args }) ∷ []

module _ {y : System} {holder : Option ℕ} {n k : ℕ} {s : Xinu} (ok : IsSystem y) (c : Acts y holder n k s) where
  pub there_are : s.tables.current < length s.harts
  there_are = let many = c.runs.sound.harts.many in let few = c.few in let small = ok.few in omega arith

  -- The current process at the next place, answered.
  pub mine : (new_holder : Option ℕ) (m w x : ℕ) (u : Tables) → (process_at u s.tables.current).rest ≡ Nothing → CanRun (state_at u s.tables.current)
      → At y s.tables.current (has new_holder s.tables.current) (suc k) m w (set (get_or s.harts s.tables.current no_hart).regs 10 x)
      → IsThread y new_holder m w u s.tables.current
      (record { regs = set (get_or s.harts s.tables.current no_hart).regs 10 x; pc = following (get_or s.harts s.tables.current no_hart) })
  mine new_holder m w x u rest can at = record {
    place = suc k;
    pc = c.next;
    regs = length-set (get_or s.harts s.tables.current no_hart).regs 10 x ∙ c.regs;
    rest = rest;
    stands = inl (can, at);
  }

  -- what is left of its call
  pub own_rest : (process_at s.tables s.tables.current).rest ≡ Nothing
  own_rest = (c.runs.running.threads s.tables.current c.some c.few).rest

  pub own_state : CanRun (state_at s.tables s.tables.current)
  own_state = inl c.runs.sound.tables.runs

  -- The call is answered, and the tables are as they were but for semaphores.
  pub answered : (new_holder : Option ℕ) (m : ℕ) (v : ℤ) (u : Tables) → AreTurned s.tables u
      → ((q : ℕ) → q ≢ s.tables.current → (has new_holder q ≡ has holder q) × (has holder q ≡ true → m ≡ n))
      → At y s.tables.current (has new_holder s.tables.current) (suc k) m (number_at s.memory y.word 4) (set (get_or s.harts s.tables.current no_hart).regs 10 (word v))
      → IsMade y new_holder m (number_at s.memory y.word 4) u ⊎ IsUnmade y new_holder m (number_at s.memory y.word 4) u
      → AreRunning y new_holder m (record s { tables = u; harts = with_reply (asked s).harts (s.tables.current, v) })
  answered new_holder m v u t others at lock =
      let p = s.tables.current in
      let h = get_or s.harts p no_hart in
      let w = number_at s.memory y.word 4 in
      record {
        threads = λ q some few. by_number q p
            (λ r. IsThread y new_holder m w u r (get_or (with_reply (asked s).harts (p, v)) r no_hart))
            (subst (IsThread y new_holder m w u p) (sym (reply_mine s.harts p (after_call h) v there_are))
            (mine new_holder m w (word v) u ((t p).rest ∙ own_rest) (can_still (process_at s.tables p) (process_at u p) (t p) own_state) at))
            (λ other. thread_kept y holder new_holder n w m w s.tables u q (get_or s.harts q no_hart) (get_or (with_reply (asked s).harts (p, v)) q no_hart)
            (reply_other s.harts p q (after_call h) v other) (others q other).0 (λ e. ((others q other).1 e, refl)) (t q)
            (c.runs.running.threads q some few));
        others = λ q more. free_kept (process_at s.tables q) (process_at u q) (t q) (c.runs.running.others q more);
        lock = lock;
        loaded = c.runs.running.loaded;
        disk = c.runs.running.disk;
        files = c.runs.running.files;
      }
