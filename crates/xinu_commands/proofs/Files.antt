-- The verdict's stages, and that none finds that there is no command.
use Rattle.std.proofs.Common.{◌≡◌, ◌≢◌, ℕ, Bool, true, false, nat_le, if◌then◌else◌, List, length, Option, Some, None, refl, ap}
use Rattle.xinu_base.specs.declared.events.Event.{Event}
use Rattle.transcript_laws.specs.Transcripts.{checks}
use Rattle.xinu_model.specs.Boot.{Disks, Loaded, Start, Boots, Overlaps, NoRoom, boot_on}
use Rattle.run_inputs.proofs.JudgedFiles.{judged_keeps}
use Rattle.run_inputs.specs.Judging.{Judged, Refused, Accepted, judged}
use Rattle.run_inputs.specs.declared.refusals.Refusal.{Refusal}
use Rattle.run_inputs.specs.declared.refusals.Refusal.TheVariants as refusal
use Rattle.xinu_commands.specs.InputVerdict.{IsLater, Next, after_judged, inputs_verdict}
use Rattle.xinu_commands.specs.RunVerdict.{Setup, boot_verdict, run_verdict, start_verdict}
use Rattle.xinu_commands.specs.TraceVerdict.{judged_verdict, longest_trace, trace_verdict}
use Rattle.xinu_commands.specs.Work.{Verdict, Wanted, Does, Refuses, unless_fault}

-- ---- the verdict's stages

pub unless_fault_read : {T : Type 0} (fault : Option Refusal) (read : Option T) (next : T → Verdict) (x : T) → fault ≡ None → read ≡ Some x
    → unless_fault fault read next ≡ next x
unless_fault_read fault read next x none some = rw (none, some) refl

pub unless_fault_refused : {T : Type 0} (fault : Option Refusal) (read : Option T) (next : T → Verdict) (cause : Refusal) → fault ≡ Some cause
    → unless_fault fault read next ≡ Refuses cause
unless_fault_refused fault read next cause is = rw is refl

-- the verdict on images with which the machine starts, or for which it has no room
pub boot_verdict_at : (setup : Setup) (events : List Event) (images : List Loaded) (s : Start) → boot_on setup.disks images ≡ s
    → boot_verdict setup events images ≡ start_verdict setup.wanted events s
unfolding boot_verdict
boot_verdict_at setup events images s is = ap (start_verdict setup.wanted events) is

-- ---- no stage finds that there is no command

pub unless_fault_keeps : {T : Type 0} (fault : Option Refusal) (read : Option T) (next : T → Verdict) → fault ≢ Some refusal.Usage
    → ((x : T) → next x ≢ Refuses refusal.Usage) → unless_fault fault read next ≢ Refuses refusal.Usage
unless_fault_keeps (Some cause) read next other rest is =
    let same : cause ≡ refusal.Usage = cc in other (ap Some same)
unless_fault_keeps None None next other rest is = cc
unless_fault_keeps None (Some x) next other rest is = rest x is

-- what comes after the inputs doesn't
pub later_keeps : (v : Verdict) → IsLater v → v ≢ Refuses refusal.Usage
later_keeps (Refuses refusal.Usage) later is = later
later_keeps (Refuses other) later is = cc
later_keeps (Does work) later is = cc

start_later : (wanted : Wanted) (events : List Event) (s : Start) → IsLater (start_verdict wanted events s)
start_later wanted events (Boots x) = tt
start_later wanted events (Overlaps i) = tt
start_later wanted events (NoRoom i) = tt

-- a run comes after its inputs
pub run_later : (wanted : Wanted) (events : List Event) (disks : Disks) (images : List Loaded) → IsLater (run_verdict wanted events disks images)
unfolding boot_verdict
run_later wanted events disks images = start_later wanted events (boot_on disks images)

judged_later : (s : Start) (b : Bool) → IsLater (judged_verdict s b)
judged_later (Boots x) b = tt
judged_later (Overlaps i) b = tt
judged_later (NoRoom i) b = tt

later_if : (b : Bool) (v w : Verdict) → IsLater v → IsLater w → IsLater (if b then v else w)
later_if true v w first second = first
later_if false v w first second = second

-- and so does the judgement of a trace
pub trace_later : (trace : List ℕ) (events : List Event) (disks : Disks) (images : List Loaded) → IsLater (trace_verdict trace events disks images)
unfolding trace_verdict
trace_later trace events disks images =
    later_if (nat_le (length trace) longest_trace) (judged_verdict (boot_on disks images) (checks disks images events trace)) (Refuses refusal.TraceTooLong)
    (judged_later (boot_on disks images) (checks disks images events trace)) tt

-- inputs don't
after_keeps : (next : Next) (later : (events : List Event) (disks : Disks) (images : List Loaded) → IsLater (next events disks images)) (j : Judged) → j ≢ Refused refusal.Usage
    → after_judged next j ≢ Refuses refusal.Usage
after_keeps next later (Refused cause) other is = other (let same : cause ≡ refusal.Usage = cc in ap Refused same)
after_keeps next later (Accepted events disks images) other is = later_keeps (next events disks images) (later events disks images) is

pub inputs_keep : (next : Next) (later : (events : List Event) (disks : Disks) (images : List Loaded) → IsLater (next events disks images)) (schedule disk0 disk1 : List ℕ) (images : List (List ℕ))
    → inputs_verdict next schedule disk0 disk1 images ≢ Refuses refusal.Usage
inputs_keep next later schedule disk0 disk1 images = after_keeps next later (judged schedule disk0 disk1 images) (judged_keeps schedule disk0 disk1 images)
