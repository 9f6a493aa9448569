-- A stretch of a run: the programs run on, and the token was given back as often as `signal` was called.
use Rattle.std.proofs.Common.{Bool, List, None, Option, [], ap, arith, drop, false, get_or, refl, subst, sym, true, ℕ, ⊎_elim, ◌&&◌, ◌+◌, ◌∙◌, ◌∷◌, ◌≡◌, ◌≢◌, ◌≤◌}
use Rattle.std.specs.List.{list_all}
use Rattle.scheduling_laws.specs.Moments.{LeadTo, Moment}
use Rattle.xinu_base.specs.declared.events.End.{End}
use Rattle.xinu_base.specs.declared.events.End.TheVariants.{Schedule}
use Rattle.xinu_base.specs.declared.events.Event.{Event}
use Rattle.xinu_base.specs.declared.lines.TranscriptLine.{TranscriptLine}
use Rattle.xinu_base.specs.declared.processes.Process.{Process}
use Rattle.xinu_base.specs.declared.processes.State.{State}
use Rattle.xinu_base.specs.declared.processes.State.TheVariants.{Current, Free, Ready, Sleeping, Waiting}
use Rattle.xinu_model.proofs.States.{free_of}
use Rattle.xinu_model.specs.Events.{panics_in}
use Rattle.xinu_model.specs.Machine.{Xinu}
use Rattle.xinu_model.specs.Runs.{Follows, RunsTo, end_with, is_over}
use Rattle.xinu_model.specs.Sound.Tables.{CanRun}
use Rattle.xinu_model.specs.Tables.{is_free, no_process, state_at}
use Rattle.program_logic.proofs.Stepping.{event_calm, event_runs}
use Rattle.program_logic.specs.Kept.{times_given_back}
use Rattle.program_logic.specs.Obeying.{IsSystem}
use Rattle.program_logic.specs.Outlines.{System}
use Rattle.program_logic.specs.Running.{Runs}

-- The programs ran on over a stretch: who has the token after it, and how often it was given back.
pub record RanOn (y : System) (n : ℕ) (ms : List Moment) (new : Xinu) : Type 0 where
  pub holder : Option ℕ
  pub count : ℕ
  pub is : count ≡ n + times_given_back y.sem ms
  pub runs : Runs y holder count new

-- The rule of invariants: what holds at the start holds at each moment.
pub stretch_runs : (y : System) (holder : Option ℕ) (n : ℕ) (ms : List Moment) (old new : Xinu) → IsSystem y → Runs y holder n old → LeadTo old ms new → RanOn y n ms new
stretch_runs y holder n [] old new ok k lead = record { holder = holder; count = n; is = omega arith; runs = subst (Runs y holder n) (sym lead) k }
stretch_runs y holder n (m ∷ ms) old new ok k lead =
    let one = event_runs y holder n m.before m.event m.lines m.after ok (subst (Runs y holder n) (sym lead.0) k) lead.1 in
    let rest = stretch_runs y one.holder one.count ms m.after new ok one.runs lead.2 in
    let a = one.is in
    record { holder = rest.holder; count = rest.count; is = omega (arith, rest.is); runs = rest.runs }

-- A process of the system is alive.
pub lives : (y : System) (holder : Option ℕ) (n : ℕ) (s : Xinu) (p : ℕ) → Runs y holder n s → 1 ≤ p → p ≤ y.many → state_at s.tables p ≢ Free
lives y holder n s p k some few free = ⊎_elim
    (λ (r : CanRun (state_at s.tables p) × _). ⊎_elim (λ (e : state_at s.tables p ≡ Current). absurd (cc)) (λ (e : state_at s.tables p ≡ Ready). absurd (cc)) r.0)
    (⊎_elim (λ (r : (state_at s.tables p ≡ Waiting) × _). (let w = r.0 in absurd (cc))) (λ (r : (state_at s.tables p ≡ Sleeping) × _). (let w = r.0 in absurd (cc))))
    (k.running.threads p some few).stands

not_free : (x : State) → x ≢ Free → is_free x ≡ false
not_free x alive = by_test (is_free x) refl
  where
    by_test : (b : Bool) → is_free x ≡ b → is_free x ≡ false
    by_test true e = absurd (alive (free_of x e))
    by_test false e = e

-- some process is left
one_left : (l : List Process) → is_free (get_or l 1 no_process).state ≡ false → list_all (λ p. is_free p.state) (drop 1 l) ≡ false
one_left [] alive = absurd (cc)
one_left (x ∷ []) alive = absurd (cc)
one_left (x ∷ y ∷ l) alive = ap (λ b. b && list_all (λ p. is_free p.state) l) alive

-- So the run isn't over before its events are: it ends with the schedule.
pub run_ends : (y : System) (holder : Option ℕ) (n : ℕ) (events : List Event) (old : Xinu) (lines : List TranscriptLine) (new : Xinu) (end : End) → IsSystem y → 1 ≤ y.many
    → Runs y holder n old → RunsTo old events lines new end → end ≡ Schedule
run_ends y holder n [] old lines new end ok some k r = r.2
run_ends y holder n (e ∷ events) old lines new end ok some k r =
    let mid = r.0 in
    let one = event_runs y holder n old e r.1 mid ok k r.2 in
    let over : is_over mid ≡ false = one_left mid.tables.processes (not_free (state_at mid.tables 1) (lives y one.holder one.count mid 1 one.runs (omega arith) some)) in
    let goes_on : end_with (panics_in old e) (is_over mid) ≡ None =
    ap (λ b. end_with b (is_over mid)) (event_calm y holder n old e ok k) ∙ ap (end_with false) over in
    let after = subst (λ o. Follows o (λ rest. RunsTo mid events rest new end) r.1 lines mid new end) goes_on r.3 in
    run_ends y one.holder one.count events mid after.0 new end ok some one.runs after.1
