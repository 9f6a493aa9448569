-- The count of a process's semaphore over a stretch of a run.
use Rattle.std.proofs.Common.{◌≡◌, ⊎_elim, ℕ, ◌+◌, ◌==◌, ◌&&◌, true, false, List, [], ◌∷◌, ◌++◌, Option, Some, None, refl, sym, ap, subst, ◌∙◌, arith, ℤ, pos}
use Rattle.std.specs.Prelude.{◌+ℤ◌, map, slice_index}
use Rattle.std.proofs.lemmas.Bool.{and_from, and_parts, cond_both, eq-eqb, eqb-true, or_parts, true≢false}
use Rattle.std.proofs.lemmas.Int.{ints}
use Rattle.std.proofs.lemmas.List.{append-nil}
use Rattle.xinu_base.specs.declared.events.Event.{Event}
use Rattle.xinu_base.specs.declared.lines.TranscriptLine.{TranscriptLine}
use Rattle.xinu_base.specs.declared.syscalls.Call.{Call}
use Rattle.xinu_model.specs.Calls.{called}
use Rattle.xinu_model.specs.Events.{Happens}
use Rattle.xinu_model.specs.Machine.{Xinu, closed}
use Rattle.xinu_base.specs.declared.events.End.{End}
use Rattle.xinu_model.specs.Events.{panics_in}
use Rattle.xinu_model.specs.Runs.{end_with, is_over, Follows, RunsTo}
use Rattle.xinu_model.specs.Semaphores.Counts.{count_of, is_good}
use Rattle.xinu_model.specs.Sound.State.{IsSound}
use Rattle.xinu_model.specs.Tables.{Tables, semaphore_at}
use Rattle.xinu_laws.proofs.Preserve.Events.{sound_happens}
use Rattle.scheduling_laws.specs.Moments.{LeadTo, Moment, call_in, printed}
use Rattle.scheduling_laws.specs.Tokens.{changes, changes_semaphore, dead_in, is_made, is_renewed, killed_waiters, renews, signals, signals_by, waits, waits_by}
use Rattle.scheduling_laws.proofs.Calling.{IsCalled, event_tells, one_of_five}
use Rattle.scheduling_laws.proofs.Tallies.{IsCounted, quiet_counted}
use Rattle.scheduling_laws.proofs.TokenCalls.{call_number, signal_counted, signaln_counted, wait_counted}

-- a call of this number on the semaphore
pub made_by : (number sem : ℕ) (call : Call) → call.number ≡ number → slice_index call.args 0 ≡ sem → is_made number sem (Some call) ≡ true
made_by number sem call e f =
    and_from (call.number == number) (slice_index call.args 0 == sem) (eq-eqb call.number number e) (eq-eqb (slice_index call.args 0) sem f)

-- a call that changes the semaphore, which stays a process's
called_counted : (sem : ℕ) (old : Xinu) (call : Call) (new : Tables) → IsCalled old call new → is_good sem old.tables ≡ true
    → changes_semaphore call.number ≡ true → slice_index call.args 0 ≡ sem → renews sem (Some call) ≡ false
    → IsCounted sem old.tables (Some call) new
called_counted sem old call new c good changing f stays =
    let s = c.state in
    let here = subst (λ (t : Tables). is_good sem t ≡ true) (sym c.tables) good in
    let P = λ (n : ℕ). IsCounted sem s.tables (Some (call_number n call.args)) (closed (called n call.args s)) in
    let none = or_parts (is_made 15 sem (Some call)) (is_made 16 sem (Some call)) stays in
    let now : P call.number =
    ⊎_elim (λ e. absurd (true≢false (sym (made_by 15 sem call e f) ∙ none.0)))
    (λ r. ⊎_elim (λ e. absurd (true≢false (sym (made_by 16 sem call e f) ∙ none.1)))
    (λ r. ⊎_elim (λ e. subst P (sym e) (wait_counted sem call.args s c.sound c.not_null here f))
    (λ r. ⊎_elim (λ e. subst P (sym e) (signal_counted sem call.args s c.sound c.not_null here f))
    (λ e. subst P (sym e) (signaln_counted sem call.args s c.sound c.not_null here f))
    r) r) r) (one_of_five call.number changing) in
    subst (λ (t : Tables). IsCounted sem t (Some call) new) c.tables
    (subst (λ (u : Tables). IsCounted sem s.tables (Some call) u) (sym c.leaves) now)

-- What an event does to the count.
pub event_counted : (sem : ℕ) (old : Xinu) (e : Event) (lines : List TranscriptLine) (new : Xinu) → IsSound old → is_good sem old.tables ≡ true
    → Happens old e lines new → renews sem (call_in e lines) ≡ false → IsCounted sem old.tables (call_in e lines) new.tables
event_counted sem old e lines new k good h stays = by_made (call_in e lines) refl
  where
    P : Option Call → Type 0
    P made = IsCounted sem old.tables made new.tables

    by_made : (made : Option Call) → call_in e lines ≡ made → P made
    by_made None is = subst P is (quiet_counted sem old e lines new k good h (ap (changes sem) is))
    by_made (Some call) is =
        let changing = changes_semaphore call.number in
        let first = slice_index call.args 0 == sem in
        cond_both (changing && first) true false (λ _. P (Some call))
        (λ b. let both = and_parts changing first b in
        called_counted sem old call new.tables (event_tells old e lines new k h call is both.0) good both.0
        (eqb-true (slice_index call.args 0) sem both.1) (ap (renews sem) (sym is) ∙ stays))
        (λ b. subst P is (quiet_counted sem old e lines new k good h (ap (changes sem) is ∙ b)))

-- two sums on both sides
sums : (a b c : ℤ) (w v n m d f : ℕ) → b +ℤ pos w ≡ a +ℤ pos (n + d) → c +ℤ pos v ≡ b +ℤ pos (m + f)
    → c +ℤ pos (w + v) ≡ a +ℤ pos ((n + m) + (d + f))
sums a b c w v n m d f e g = omega (arith, ints)

none_more : (a : ℤ) → a +ℤ pos (0 + 0) ≡ a +ℤ pos 0
none_more a = omega (arith, ints)

-- Over a stretch the count and the waits are what it was, the signals and the killed waiters.
pub stretch_counted : (sem : ℕ) (ms : List Moment) (old new : Xinu) → IsSound old → is_good sem old.tables ≡ true → LeadTo old ms new
    → is_renewed sem ms ≡ false
    → count_of (semaphore_at new.tables sem) +ℤ pos (waits sem ms)
    ≡ count_of (semaphore_at old.tables sem) +ℤ pos (signals sem ms + killed_waiters sem ms)
stretch_counted sem [] old new k good lead stays =
    ap (λ (s : Xinu). count_of (semaphore_at s.tables sem) +ℤ pos 0) lead ∙ sym (none_more (count_of (semaphore_at old.tables sem)))
stretch_counted sem (m ∷ ms) old new k good lead stays =
    let both = or_parts (renews sem (call_in m.event m.lines)) (is_renewed sem ms) stays in
    let here : IsSound m.before = subst IsSound (sym lead.0) k in
    let good_here = subst (λ (s : Xinu). is_good sem s.tables ≡ true) (sym lead.0) good in
    let one = event_counted sem m.before m.event m.lines m.after here good_here lead.1 both.0 in
    let rest = stretch_counted sem ms m.after new (sound_happens m.before m.event m.lines m.after here lead.1) one.good lead.2 both.1 in
    let start = count_of (semaphore_at m.before.tables sem) in
    sums start (count_of (semaphore_at m.after.tables sem)) (count_of (semaphore_at new.tables sem))
    (waits_by sem (call_in m.event m.lines)) (waits sem ms) (signals_by sem start (call_in m.event m.lines)) (signals sem ms)
    (dead_in m.after.tables (semaphore_at m.before.tables sem)) (killed_waiters sem ms) one.adds rest
    ∙ ap (λ (s : Xinu). count_of (semaphore_at s.tables sem) +ℤ pos (signals sem (m ∷ ms) + killed_waiters sem (m ∷ ms))) lead.0

-- A run is a stretch, of its events up to its end.
abbrev IsStretch : Xinu → List Event → List TranscriptLine → Xinu → Type 0
IsStretch old events lines new =
    (ms : List Moment) × (LeadTo old ms new × (lines ≡ printed ms) × (later : List Event) × (events ≡ map (λ (m : Moment). m.event) ms ++ later))

pub runs_lead : (events : List Event) (old : Xinu) (lines : List TranscriptLine) (new : Xinu) (end : End) → RunsTo old events lines new end
    → (ms : List Moment) × (LeadTo old ms new × (lines ≡ printed ms) × (later : List Event) × (events ≡ map (λ (m : Moment). m.event) ms ++ later))
runs_lead [] old lines new end h = ([], (h.1, h.0, [], refl))
runs_lead (e ∷ events) old lines new end h =
    by_end (end_with (panics_in old e) (is_over h.0)) (λ rest r. runs_lead events h.0 rest new end r) h.3
  where
    one : Moment
    one = record { before = old; event = e; lines = h.1; after = h.0 }

    by_end : (found : Option End) → ((rest : List TranscriptLine) → RunsTo h.0 events rest new end → IsStretch h.0 events rest new)
        → Follows found (λ rest. RunsTo h.0 events rest new end) h.1 lines h.0 new end → IsStretch old (e ∷ events) lines new
    by_end (Some last) go f = (one ∷ [], ((refl, h.2, f.1), f.0 ∙ sym (append-nil h.1), events, refl))
    by_end None go f =
        let rest = go f.0 f.1 in
        (one ∷ rest.0, ((refl, h.2, rest.1.0), f.2 ∙ ap (λ l. h.1 ++ l) rest.1.1, rest.1.2, ap (λ l. e ∷ l) rest.1.3))
