-- A run of the two takes all its events.
use Rattle.std.proofs.Common.{◌≡◌, ◌≢◌, ◌∙◌, ℕ, ◌+◌, List, [], ◌∷◌, get_or, drop, refl, ap, subst, Bool, true, false, ◌&&◌, None}
use Rattle.std.specs.List.{list_all}
use Rattle.part_laws.specs.GivenDisks.{AreSoundDisks}
use Rattle.xinu_base.specs.declared.events.End.{End}
use Rattle.xinu_base.specs.declared.events.End.TheVariants.{Schedule}
use Rattle.xinu_base.specs.declared.events.Event.{Event}
use Rattle.xinu_base.specs.declared.lines.TranscriptLine.{TranscriptLine}
use Rattle.xinu_base.specs.declared.processes.Process.{Process}
use Rattle.xinu_base.specs.declared.processes.State.{State}
use Rattle.xinu_base.specs.declared.processes.State.TheVariants.{Free}
use Rattle.xinu_model.proofs.States.{free_of}
use Rattle.xinu_model.specs.Boot.{Boots, Disks, boot_on}
use Rattle.xinu_model.specs.Events.{panics_in}
use Rattle.xinu_model.specs.Machine.{Xinu, no_hart}
use Rattle.xinu_model.specs.Runs.{Follows, RunsTo, end_with, is_over}
use Rattle.xinu_model.specs.Tables.{is_free, no_process, state_at}
use Rattle.bounded_buffer.proofs.Ordered.{begins, lives}
use Rattle.bounded_buffer.proofs.Running.{Runs}
use Rattle.bounded_buffer.proofs.Stepping.{event_calm, event_runs, signalled_in}
use Rattle.bounded_buffer.specs.Buffer.{buffer_images}
use Rattle.bounded_buffer.specs.Places.{Bare, Outside, Phase}

not_free : (x : State) → x ≢ Free → is_free x ≡ false
not_free x alive = by_test (is_free x) refl
  where
    by_test : (b : Bool) → is_free x ≡ b → is_free x ≡ false
    by_test true e = absurd (alive (free_of x e))
    by_test false e = e

-- some process is left
one_left : (l : List Process) → is_free (get_or l 1 no_process).state ≡ false → list_all (λ p. is_free p.state) (drop 1 l) ≡ false
one_left [] alive = absurd (cc)
one_left (x ∷ []) alive = absurd (cc)
one_left (x ∷ y ∷ l) alive = ap (λ b. b && list_all (λ p. is_free p.state) l) alive

run_ends : (f g : Phase) (i j : ℕ) (events : List Event) (old : Xinu) (lines : List TranscriptLine) (new : Xinu) (end : End) → Runs f g i j old
    → RunsTo old events lines new end → end ≡ Schedule
run_ends f g i j [] old lines new end k r = r.2
run_ends f g i j (e ∷ events) old lines new end k r =
    let mid = r.0 in
    let one = event_runs f g i j old e r.1 mid k r.2 in
    let first = one.runs.running.pair.mine in
    let over : is_over mid ≡ false = one_left mid.tables.processes (not_free (state_at mid.tables 1)
    (lives 1 one.own first.place (i + signalled_in 5 e r.1) (get_or mid.harts 1 no_hart).regs (state_at mid.tables 1) first.stands)) in
    let goes_on : end_with (panics_in old e) (is_over mid) ≡ None =
    ap (λ b. end_with b (is_over mid)) (event_calm f g i j old e k) ∙ ap (end_with false) over in
    let after = subst (λ o. Follows o (λ rest. RunsTo mid events rest new end) r.1 lines mid new end) goes_on r.3 in
    run_ends one.own one.their (i + signalled_in 5 e r.1) (j + signalled_in 4 e r.1) events mid after.0 new end one.runs after.1

-- From boot on a run ends with its schedule.
pub always_goes_on : (disks : Disks) (start last : Xinu) (events : List Event) (lines : List TranscriptLine) (end : End) → AreSoundDisks disks
    → boot_on disks buffer_images ≡ Boots start → RunsTo start events lines last end → end ≡ Schedule
always_goes_on disks start last events lines end sound boots run = run_ends Bare Outside 0 0 events start lines last end (begins disks start sound boots) run
