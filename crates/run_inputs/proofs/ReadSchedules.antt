-- A schedule file that is fetched up to a byte more than it may have, and read as a whole.
use Rattle.std.proofs.Common.{◌≡◌, ◌≤◌, ◌∙◌, ℕ, List, [], ◌∷◌, length, take, Some, None, sym, subst}
use Rattle.std.specs.Prelude.{Ok, Err}
use Rattle.command_line.specs.Reading.{Text}
use Rattle.host_port.specs.Outside.{Outside}
use Rattle.schedule_file.specs.ScheduleFiles.{Bad, Many, Names}
use Rattle.schedule_file.specs.declared.faults.ScheduleFault.{ScheduleFault}
use Rattle.schedule_file.specs.declared.faults.ScheduleFault.TheVariants as schedule
use Rattle.xinu_base.specs.declared.events.Event.{Event}
use Rattle.run_inputs.specs.Conversions.{schedule_refusal}
use Rattle.run_inputs.specs.Fetching.{FetchesFiles, IsOfHost}
use Rattle.run_inputs.specs.InputFaults.{ReadsAs, schedule_fault}
use Rattle.run_inputs.specs.InputFiles.{file_bytes}
use Rattle.run_inputs.specs.Reading.{ReadsSchedule}
use Rattle.run_inputs.specs.declared.refusals.Refusal.{Refusal}
use Rattle.run_inputs.specs.declared.refusals.Refusal.TheVariants as refusal
use Rattle.run_inputs.proofs.FetchedFiles.{fetched_ended}
use Rattle.run_inputs.proofs.InputFaults.{schedule_fault-fetched, schedule_fault-short, schedule_whole}

-- the host refused to fetch it
pub schedule_unfetched : (name : Text) (r : Refusal) (h k : Outside) → IsOfHost r → FetchesFiles (name ∷ []) (Some r) h k → ReadsSchedule name (Err r) h k
schedule_unfetched name refusal.HostFault h k is f = record { unseen = []; answers = tt; fetches = f }
schedule_unfetched name refusal.NoMemory h k is f = record { unseen = []; answers = tt; fetches = f }
schedule_unfetched name other h k is f = absurd is

-- it has a fault at this line
pub schedule_bad : (name : Text) (l : ℕ) (items : List ℕ) (h k : Outside) → items ≡ take 4194305 (file_bytes (h.file name) items) → FetchesFiles (name ∷ []) None h k → schedule_fault items ≡ Some l
    → ReadsSchedule name (Err (refusal.Schedule l)) h k
schedule_bad name l items h k front f is = record {
  unseen = items;
  answers = schedule_fault-fetched (file_bytes (h.file name) items) items front ∙ is;
  fetches = fetched_ended (name ∷ []) (Some (refusal.Schedule l)) h k (λ failed. cc) f;
}

-- it reads as these events
pub schedule_events : (name : Text) (events : List Event) (text items : List ℕ) (h k : Outside) → items ≡ text → text ≡ take 4194305 (file_bytes (h.file name) text) → FetchesFiles (name ∷ []) None h k
    → ReadsAs items events → ReadsSchedule name (Ok events) h k
schedule_events name events text items h k same front f reads =
    let P : List ℕ → Type 0 = λ s. ReadsAs s events in
    let own : ReadsAs text events = subst P same reads in
    record { unseen = text; answers = subst P (sym (schedule_whole (file_bytes (h.file name) text) text front own.good)) own; fetches = f }

-- why it isn't read
unread : (name : Text) (f : ScheduleFault) (text : List ℕ) (h k : Outside) → length text ≤ 4194304 → text ≡ take 4194305 (file_bytes (h.file name) text) → FetchesFiles (name ∷ []) None h k → Names f text
    → ReadsSchedule name (Err (schedule_refusal f)) h k
unread name (schedule.BadLine l) text h k short front f names = schedule_bad name l text h k front f (schedule_fault-short text (Bad l) short names.0)
unread name (schedule.TooMany l) text h k short front f names = schedule_bad name l text h k front f (schedule_fault-short text (Many l) short names.0)
unread name schedule.NoMemory text h k short front f names =
    record { unseen = text; answers = tt; fetches = fetched_ended (name ∷ []) (Some refusal.NoMemory) h k (λ failed. cc) f }

pub schedule_unread : (name : Text) (f : ScheduleFault) (r : Refusal) (text items : List ℕ) (h k : Outside) → items ≡ text → length items ≤ 4194304 → text ≡ take 4194305 (file_bytes (h.file name) text)
    → FetchesFiles (name ∷ []) None h k → r ≡ schedule_refusal f → Names f items → ReadsSchedule name (Err r) h k
schedule_unread name f r text items h k same short front fetches is names =
    let few : length text ≤ 4194304 = subst (λ (b : List ℕ). length b ≤ 4194304) same short in
    subst (λ (c : Refusal). ReadsSchedule name (Err c) h k) (sym is) (unread name f text h k few front fetches (subst (Names f) same names))
