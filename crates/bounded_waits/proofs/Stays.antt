-- The answer of a disk stays until its owner's step, or the owner dies.
use Rattle.std.proofs.Common.{◌≡◌, ◌≢◌, ◌⊎◌, inl, inr, ⊎_elim, ℕ, true, false, List, Some, ℤ, refl, sym, ap, ◌∙◌}
use Rattle.std.proofs.lemmas.Bool.{cases_eq}
use Rattle.xinu_base.specs.declared.events.Event.{Event}
use Rattle.xinu_base.specs.declared.events.Event.TheVariants.{Step, Tick, Key, Tx, Disk0, Disk1, Fail0, Fail1, Dump}
use Rattle.xinu_base.specs.declared.lines.TranscriptLine.{TranscriptLine}
use Rattle.xinu_base.specs.declared.processes.Rest.TheVariants.{Disk}
use Rattle.xinu_base.specs.declared.processes.State.TheVariants.{Free}
use Rattle.xinu_model.specs.Console.Taking.{console_of}
use Rattle.xinu_model.specs.Console.Transmitting.{transmitted}
use Rattle.xinu_model.specs.Events.{effect_of, Happens}
use Rattle.xinu_model.specs.Files.Syscalls.{files_of}
use Rattle.xinu_model.specs.Machine.{Xinu, EventResult}
use Rattle.xinu_model.specs.RawDisk.Calls.{disk_of}
use Rattle.xinu_model.specs.RawDisk.Completions.{raw_completed}
use Rattle.xinu_model.specs.Sound.State.{IsSound}
use Rattle.xinu_model.specs.Tables.{process_at, state_at}
use Rattle.scheduling_laws.proofs.Passes.Events.{carried_happens}
use Rattle.bounded_waits.proofs.Steps.{carried}
use Rattle.bounded_waits.proofs.Waiting.{IsAnswered, is_answered, Same, same_ticked, same_keyed, same_sent, same_served, same_completed}

module _ (p : ℕ) (reply : ℤ) where
  -- p has its answer, is dead, or makes a step
  abbrev Stays : Xinu → Event → Xinu → Type 0
  Stays old e new = ((process_at new.tables p).rest ≡ Disk (Some reply)) ⊎ ((state_at new.tables p ≡ Free) ⊎ ((e ≡ Step) × (old.tables.current ≡ p)))

  -- an event in which no process runs
  same_in : (s : Xinu) (e : Event) (choice : ℕ) → e ≢ Step → IsSound s → IsAnswered p s → Same p s (effect_of s e choice).state
  same_in s Step choice n k a = absurd (n refl)
  same_in s Tick choice n k a = same_ticked p s k.tables
  same_in s (Key b) choice n k a = same_keyed p b s
  same_in s Tx choice n k a = same_sent p (transmitted (console_of s)) s
  same_in s Disk0 choice n k a = same_served p true (raw_completed true (disk_of s)) s refl k a
  same_in s Fail0 choice n k a = same_served p false (raw_completed false (disk_of s)) s refl k a
  same_in s Disk1 choice n k a = same_completed p (files_of s).calls choice s k a
  same_in s Fail1 choice n k a = refl
  same_in s Dump choice n k a = refl

  stays_in : (old : Xinu) (e : Event) (lines : List TranscriptLine) (new : Xinu) → e ≢ Step → IsSound old
      → (process_at old.tables p).rest ≡ Disk (Some reply) → Happens old e lines new → Stays old e new
  stays_in old e lines new n k left h =
      inl (ap (λ (x : EventResult). (process_at x.state.tables p).rest) (sym h.effect)
      ∙ same_in old e h.choice n k (is_answered p reply old k left) ∙ left)

  -- a step
  stays_step : (old : Xinu) (lines : List TranscriptLine) (new : Xinu) → IsSound old → (process_at old.tables p).rest ≡ Disk (Some reply)
      → Happens old Step lines new → Stays old Step new
  stays_step old lines new k left h =
      let a = is_answered p reply old k left in
      ⊎_elim (λ (e : old.tables.current ≡ p). inr (inr (refl, e)))
      (λ (n : old.tables.current ≢ p).
      let f = carried_happens (carried p (Disk (Some reply))) old Step lines new k
      (((k.tables.inside.processes, a.within, a.nowhere, n), left, a.lives), k.tables) h in
      ⊎_elim (λ g. inl g) (λ g. inr (inl g)) f)
      (cases_eq old.tables.current p)

  pub answer_stays : (old : Xinu) (e : Event) (lines : List TranscriptLine) (new : Xinu) → IsSound old
      → (process_at old.tables p).rest ≡ Disk (Some reply) → Happens old e lines new → Stays old e new
  answer_stays old Step lines new k left h = stays_step old lines new k left h
  answer_stays old Tick lines new k left h = stays_in old Tick lines new (λ e. absurd (cc)) k left h
  answer_stays old (Key b) lines new k left h = stays_in old (Key b) lines new (λ e. absurd (cc)) k left h
  answer_stays old Tx lines new k left h = stays_in old Tx lines new (λ e. absurd (cc)) k left h
  answer_stays old Disk0 lines new k left h = stays_in old Disk0 lines new (λ e. absurd (cc)) k left h
  answer_stays old Fail0 lines new k left h = stays_in old Fail0 lines new (λ e. absurd (cc)) k left h
  answer_stays old Disk1 lines new k left h = stays_in old Disk1 lines new (λ e. absurd (cc)) k left h
  answer_stays old Fail1 lines new k left h = stays_in old Fail1 lines new (λ e. absurd (cc)) k left h
  answer_stays old Dump lines new k left h = stays_in old Dump lines new (λ e. absurd (cc)) k left h
