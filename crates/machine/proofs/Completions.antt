-- A completion of the raw disk: what it comes to, and that the clock and the ports stay.
use Rattle.std.proofs.Common.{◌≡◌, ℕ, ◌==◌, ◌||◌, ◌∙◌, true, if◌then◌else◌, List, [], ◌∷◌, Option, Some, None, ℤ, refl, ap, arith}
use Rattle.std.proofs.lemmas.Bool.{cond_both}
use Rattle.io_calls.specs.Disks.{after_completing}
use Rattle.xinu_base.specs.declared.lines.TranscriptLine.{TranscriptLine}
use Rattle.xinu_base.specs.declared.lines.TranscriptLine.TheVariants.{Switch}
use Rattle.event_laws.proofs.Rises.ClockEvents.{resched_ticks}
use Rattle.event_laws.proofs.Rises.PortEvents.{RisesOnce}
use Rattle.xinu_model.specs.Machine.{CallState, EventResult, Silent, Xinu, end_of_event, is_off, nothing_happens, switched}
use Rattle.xinu_model.specs.Ports.Queues.{MessagePort, port_at}
use Rattle.xinu_model.specs.Process.Scheduling.{resched}
use Rattle.xinu_model.specs.RawDisk.Calls.{after_served, reply_kept, served_in}
use Rattle.xinu_model.specs.RawDisk.Completions.{Served}
use Rattle.xinu_model.specs.Tables.{Tables}

-- Nobody is switched to himself.
pub not_switched : (p : ℕ) → switched p p ≡ []
not_switched p = (let same : (p == p) ≡ true = grind arith in ap (λ b. if b then [] else Switch p ∷ []) same)

-- The event ends with what the disk did, if it did anything.
pub completion_is : (found : Option Served) (s : Xinu)
    → end_of_event s.tables.current [] (record { call = after_completing found s; answer = Silent }) ≡ served_in found s
completion_is None s =
    ap (λ (ls : List TranscriptLine). let e : EventResult = record { lines = ls; state = s; panics = (nothing_happens s).panics } in e) (not_switched s.tables.current)
completion_is (Some x) s = refl

-- A reply that is kept leaves the clock alone.
pub kept_ticks : (caller : Option ℕ) (reply : ℤ) (d : CallState) → (reply_kept caller reply d).state.tables.ticks ≡ d.state.tables.ticks
kept_ticks None reply d = refl
kept_ticks (Some p) reply d = refl

-- The clock stays.
pub completion_ticks : (found : Option Served) (s : Xinu) → (served_in found s).state.tables.ticks ≡ s.tables.ticks
completion_ticks None s = refl
completion_ticks (Some x) s =
    let d = after_served x s in
    let kept : d.state.tables.ticks ≡ s.tables.ticks = kept_ticks x.request.caller x.reply _ in
    cond_both (d.owes_resched || is_off Silent) (resched d.state.tables) d.state.tables (λ (t : Tables). t.ticks ≡ s.tables.ticks)
    (λ _. resched_ticks d.state.tables ∙ kept) (λ _. kept)

-- It touches no ports.
pub kept_ports : (caller : Option ℕ) (reply : ℤ) (d : CallState) → (reply_kept caller reply d).state.parts.ports ≡ d.state.parts.ports
kept_ports None reply d = refl
kept_ports (Some p) reply d = refl

served_ports : (found : Option Served) (s : Xinu) → (served_in found s).state.parts.ports ≡ s.parts.ports
served_ports None s = refl
served_ports (Some x) s = kept_ports x.request.caller x.reply _

-- No port's number rises.
pub completion_once : (found : Option Served) (s : Xinu) → RisesOnce s (served_in found s).state
completion_once found s q =
    (let same = ap (λ (ports : List MessagePort). (port_at ports q).seq) (served_ports found s) in omega (arith, same))
