-- The programs still run after each event that a schedule draws, and the run isn't over.
use Rattle.std.proofs.Common.{◌≡◌, ℕ, false, ◌&&◌, List, [], ◌∷◌, drop, get_or, refl, ap, subst}
use Rattle.std.specs.List.{list_all}
use Rattle.soak_laws.specs.Running.{AreRunning}
use Rattle.soak_laws.specs.Schedule.{IsDrawn}
use Rattle.soak_laws.proofs.Events.{KeepRunningIn, keyed_on, ticked_on, transmits_on}
use Rattle.soak_laws.proofs.Files.{files_complete_on, step_on}
use Rattle.xinu_base.specs.declared.events.Event.{Event}
use Rattle.xinu_base.specs.declared.events.Event.TheVariants.{Step, Tick, Key, Tx, Disk0, Disk1, Fail0, Fail1, Dump}
use Rattle.xinu_base.specs.declared.lines.TranscriptLine.{TranscriptLine}
use Rattle.xinu_base.specs.declared.processes.Process.{Process}
use Rattle.xinu_model.specs.Events.{Happens, effect_of, panics_in}
use Rattle.xinu_model.specs.Machine.{EventResult, Xinu}
use Rattle.xinu_model.specs.Runs.{is_over}
use Rattle.xinu_model.specs.Tables.{is_free, no_process}

-- an event, whatever is chosen in it
pub event_on : {words : ℕ → List ℕ} (e : Event) (choice : ℕ) (s : Xinu) → AreRunning words s → IsDrawn e → KeepRunningIn words (effect_of s e choice)
event_on Step choice s k may = step_on choice s k
event_on Tick choice s k may = ticked_on s k
event_on (Key b) choice s k may = keyed_on b s k
event_on Tx choice s k may = transmits_on s k
event_on Disk0 choice s k may = absurd may
event_on Disk1 choice s k may = files_complete_on choice s k
event_on Fail0 choice s k may = absurd may
event_on Fail1 choice s k may = record { running = k; calm = refl }
event_on Dump choice s k may = absurd may

-- The programs still run after an event that happens.
pub happened_on : {words : ℕ → List ℕ} (old : Xinu) (e : Event) (lines : List TranscriptLine) (new : Xinu) → AreRunning words old → IsDrawn e
    → Happens old e lines new → AreRunning words new
happened_on {words} old e lines new k may h = subst (λ (x : EventResult). AreRunning words x.state) h.effect (event_on e h.choice old k may).running

-- The kernel doesn't panic in it.
pub no_panic : {words : ℕ → List ℕ} (s : Xinu) (e : Event) → AreRunning words s → IsDrawn e → panics_in s e ≡ false
no_panic s e k may = (event_on e 0 s k may).calm

-- some process is left
one_left : (l : List Process) → is_free (get_or l 1 no_process).state ≡ false → list_all (λ p. is_free p.state) (drop 1 l) ≡ false
one_left [] alive = absurd (cc)
one_left (x ∷ []) alive = absurd (cc)
one_left (x ∷ y ∷ l) alive = ap (λ b. b && list_all (λ p. is_free p.state) l) alive

-- The run isn't over.
pub not_over : {words : ℕ → List ℕ} (s : Xinu) → AreRunning words s → is_over s ≡ false
not_over s k = one_left s.tables.processes (k.tables.entries 1).lives
