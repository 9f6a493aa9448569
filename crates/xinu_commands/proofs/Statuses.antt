-- Why the exit statuses mean what they do.
use Rattle.std.proofs.lemmas.Bool.{cases_eq}
use Rattle.std.specs.List.{list_any}
use Rattle.std.proofs.Common.{◌⊎◌, inl, inr, ◌==◌, IsTrue, ◌≡◌, ◌≢◌, ◌≤◌, ◌↔◌, ℕ, Bool, true, false, nat_le, if◌then◌else◌, List, length, Option, Some, None, IsSome, refl, sym, ap, ap₂, subst, ◌∙◌, arith}
use Rattle.std.specs.Prelude.{option_map}
use Rattle.std.specs.Option.{option_or}
use Rattle.command_line.specs.Commands.{Command, Run, Asm, Soak, Check, Disk}
use Rattle.command_line.specs.Reading.{Text}
use Rattle.command_line.specs.RunArgs.{RunFiles}
use Rattle.given_disks.specs.Disks.{disks_of}
use Rattle.host_port.specs.HostCalls.{Rose}
use Rattle.host_port.specs.Outside.{Outside, grown}
use Rattle.lfs_check.specs.declared.faults.DiskFault.{DiskFault}
use Rattle.lfs_layout.specs.Images.{opened}
use Rattle.schedule_file.specs.ScheduleFiles.{Reading, Reads, Bad, Many, events_in, events_read, reading}
use Rattle.xinu_base.specs.declared.events.Event.{Event}
use Rattle.xinu_model.specs.Boot.{Disks, Loaded, Start, Boots, Overlaps, NoRoom, boot_on}
use Rattle.xinu_model.specs.Machine.{Xinu}
use Rattle.xinu_commands.specs.Calls.{calls_due, calls_in}
use Rattle.run_inputs.specs.InputDisks.{disk_fault, empty_disk0, empty_disk1, raw_broken, raw_fault, rule_broken}
use Rattle.run_inputs.specs.InputFaults.{fault_line, have_fault, images_loaded, longest_schedule, schedule_fault}
use Rattle.xinu_commands.specs.Statuses.{AreAccepted, SaysOfFiles, disks_fault, start_with, status_due, statuses}
use Rattle.run_inputs.specs.Fetching.{IsDecided}
use Rattle.xinu_commands.specs.Theorem.{Answers, Carries, Tells}
use Rattle.run_inputs.specs.Refusals.{status_of}
use Rattle.run_inputs.specs.Judging.{Judged, Accepted, disk0_judged, disk1_judged, images_judged}
use Rattle.xinu_commands.specs.InputVerdict.{Next, after_judged, inputs_verdict}
use Rattle.xinu_commands.specs.RunVerdict.{run_verdict, start_verdict}
use Rattle.xinu_commands.specs.TraceVerdict.{trace_verdict}
use Rattle.run_inputs.specs.InputFiles.{disk_bytes, file_bytes, image_bytes}
use Rattle.xinu_commands.specs.Verdict.{Input, ScheduleInput, Disk0Input, Disk1Input, ImageInput, TraceInput, SourceInput, verdict, wanted_of}
use Rattle.xinu_commands.specs.Work.{Does, Judges, Left, Output, Outputs, Refuses, Runs, Soaking, Verdict, Wanted, Work}
use Rattle.run_inputs.specs.declared.refusals.Refusal.{Refusal}
use Rattle.run_inputs.specs.declared.refusals.Refusal.TheVariants as refusal
use Rattle.xinu_commands.proofs.Done.{done_status}
use Rattle.xinu_commands.proofs.Assembled.{asm_keeps}
use Rattle.run_inputs.proofs.JudgedFiles.{clean_read, clean_refused, images_read, images_refused, raw_read, raw_refused, schedule_read, schedule_refused}
use Rattle.xinu_commands.proofs.Files.{boot_verdict_at, inputs_keep, run_later, trace_later}
use Rattle.xinu_commands.proofs.Printed.{some_is_none}
use Rattle.xinu_commands.proofs.SoakVerdicts.{soak_keeps}
use Rattle.xinu_commands.proofs.Staged.{action_keeps}

-- ---- what the top call tells

-- the status that is told, unless memory runs out while the text of a refusal is sent
abbrev IsStatus : Option Refusal → Output → ℕ → Type 0
IsStatus None output exit = exit ≡ output.status
IsStatus (Some cause) output exit = exit ≢ 7 → exit ≡ status_of cause

status_told : (ended : Option Refusal) (output : Output) (exit : ℕ) (mid new : Outside) → Tells ended output exit mid new → IsStatus ended output exit
status_told None output exit mid new tells = tells.0
status_told (Some cause) output exit mid new tells = tells.answer

-- the count of faults doesn't fall meanwhile
later_told : (ended : Option Refusal) (output : Output) (exit : ℕ) (mid new : Outside) → Tells ended output exit mid new → mid.faults ≤ new.faults
later_told None output exit mid new tells = (let same : new.faults ≡ mid.faults = ap (λ (x : Outside). x.faults) tells.1 in omega arith)
later_told (Some cause) output exit mid new tells = tells.later

module _ (exit : ℕ) (command : Option Command) (old new : Outside) (left : Option Left) (a : Answers exit command old new left) where
  status_of_answer : IsStatus a.ended a.obeys.carries.output exit
  status_of_answer = status_told a.ended a.obeys.carries.output exit a.mid new a.tells

  rose_later : Rose old.faults a.mid.faults → Rose old.faults new.faults
  rose_later rose = (let later = later_told a.ended a.obeys.carries.output exit a.mid new a.tells in omega arith)

-- ---- which statuses there are

-- whether a number is one of the exit statuses
abbrev IsListed : ℕ → Type 0
IsListed exit = IsTrue (list_any (λ n. exit == n) statuses)

cause_listed : (cause : Refusal) → IsListed (status_of cause)
cause_listed refusal.Usage = refl
cause_listed refusal.HostFault = refl
cause_listed (refusal.Image i f) = refl
cause_listed (refusal.Schedule l) = refl
cause_listed (refusal.Disk d b r) = refl
cause_listed refusal.NoMemory = refl
cause_listed (refusal.Overlap i) = refl
cause_listed (refusal.NoRoom i) = refl
cause_listed (refusal.Asm l f) = refl
cause_listed refusal.TraceTooLong = refl
cause_listed refusal.NoSuchFile = refl
cause_listed refusal.DoesNotFit = refl

done_listed : (v : Verdict) → IsListed (status_due v)
done_listed (Refuses cause) = cause_listed cause
done_listed (Does (Judges true)) = refl
done_listed (Does (Judges false)) = refl
done_listed (Does (Runs wanted start events)) = refl
done_listed (Does (Soaking seed start)) = refl
done_listed (Does (Outputs out disk1 image)) = refl

listed_by : (v : Verdict) (ended : Option Refusal) (left : Option Left) (exit : ℕ) (h k : Outside) (c : Carries v ended left h k) → IsStatus ended c.output exit → exit ≢ 7 → IsListed exit
listed_by v None left exit h k c status memory = subst IsListed (done_status v left h k c ∙ sym status) (done_listed v)
listed_by v (Some cause) left exit h k c status memory = subst IsListed (sym (status memory)) (cause_listed cause)

pub listed : (exit : ℕ) (command : Option Command) (old new : Outside) (left : Option Left) → Answers exit command old new left → IsTrue (list_any (λ n. exit == n) statuses)
listed exit command old new left a =
    elim (cases_eq exit 7) [
      | inl seven ↦ rw seven refl
      | inr other ↦ listed_by (verdict command old.file a.obeys.unseen) a.ended left exit old a.mid a.obeys.carries (status_of_answer exit command old new left a) other
    ]

-- ---- the status is the verdict's

carried_due : (v : Verdict) (ended : Option Refusal) (left : Option Left) (exit : ℕ) (h k : Outside) (c : Carries v ended left h k)
    → IsStatus ended c.output exit → exit ≢ 7 → exit ≢ 3 → exit ≡ status_due v
carried_due v None left exit h k c status memory fault = status ∙ sym (done_status v left h k c)
carried_due v (Some refusal.HostFault) left exit h k c status memory fault = absurd (fault (status memory))
carried_due v (Some refusal.NoMemory) left exit h k c status memory fault = absurd (memory (status memory))
carried_due v (Some other) left exit h k c status memory fault = status memory ∙ sym (ap status_due c.deserved)

pub due : (exit : ℕ) (command : Option Command) (old new : Outside) (left : Option Left) (a : Answers exit command old new left)
    → exit ≢ 7 → exit ≢ 3 → exit ≡ status_due (verdict command old.file a.obeys.unseen)
due exit command old new left a = carried_due (verdict command old.file a.obeys.unseen) a.ended left exit old a.mid a.obeys.carries (status_of_answer exit command old new left a)

-- an end with another status than 3 and 7 was decided by the verdict
decided_by : (ended : Option Refusal) (output : Output) (exit : ℕ) → IsStatus ended output exit → exit ≢ 7 → exit ≢ 3 → IsDecided ended
decided_by None output exit status memory fault = tt
decided_by (Some refusal.HostFault) output exit status memory fault = absurd (fault (status memory))
decided_by (Some refusal.NoMemory) output exit status memory fault = absurd (memory (status memory))
decided_by (Some other) output exit status memory fault = tt

-- with such a status all calls that are due were made
pub called_due : (exit : ℕ) (command : Option Command) (old new : Outside) (left : Option Left) (a : Answers exit command old new left)
    → exit ≢ 7 → exit ≢ 3 → new.calls ≡ grown old.calls (calls_in (calls_due command (verdict command old.file a.obeys.unseen)))
called_due exit command old new left a memory fault =
    a.calls.all (decided_by a.ended a.obeys.carries.output exit (status_of_answer exit command old new left a) memory fault)

-- ---- no command

command_keeps : (c : Command) (file : Text → Option (List ℕ)) (unseen : Input → List ℕ) → verdict (Some c) file unseen ≢ Refuses refusal.Usage
command_keeps (Run r) file unseen = inputs_keep (run_verdict (wanted_of r)) (run_later (wanted_of r)) (file_bytes (file r.schedule) (unseen ScheduleInput)) _ _ _
command_keeps (Check c) file unseen =
    let trace = file_bytes (file c.trace) (unseen TraceInput) in inputs_keep (trace_verdict trace) (trace_later trace) (file_bytes (file c.schedule) (unseen ScheduleInput)) _ _ _
command_keeps (Asm a) file unseen = asm_keeps a.elf (file_bytes (file a.source) (unseen SourceInput))
command_keeps (Soak seed) file unseen = soak_keeps seed
command_keeps (Disk action) file unseen = action_keeps action _

-- Only the verdict that there is no command calls for the status 2.
usage_alone : (v : Verdict) → v ≢ Refuses refusal.Usage → 2 ≢ status_due v
usage_alone (Refuses refusal.Usage) other is = other refl
usage_alone (Refuses cause) other is = cc
usage_alone (Does (Judges true)) other is = cc
usage_alone (Does (Judges false)) other is = cc
usage_alone (Does (Runs wanted start events)) other is = cc
usage_alone (Does (Soaking seed start)) other is = cc
usage_alone (Does (Outputs out disk1 image)) other is = cc

-- A command that is no command ends with status 2 or 7.
refused_usage : (ended : Option Refusal) (left : Option Left) (exit : ℕ) (h k : Outside) (c : Carries (Refuses refusal.Usage) ended left h k)
    → IsStatus ended c.output exit → exit ≢ 7 → exit ≡ 2
refused_usage None left exit h k c status memory = (let work = c.deserved.1 in cc)
refused_usage (Some refusal.Usage) left exit h k c status memory = status memory
refused_usage (Some refusal.HostFault) left exit h k c status memory = absurd (c.deserved.0 refl)
refused_usage (Some refusal.NoMemory) left exit h k c status memory = absurd (memory (status memory))
refused_usage (Some other) left exit h k c status memory = (let same = c.deserved in cc)

pub usage : (exit : ℕ) (command : Option Command) (old new : Outside) (left : Option Left) → Answers exit command old new left → exit ≢ 7
    → exit ≡ 2 ↔ (command ≡ None)
usage exit None old new left a memory =
    (λ is. refl, λ none. refused_usage a.ended left exit old a.mid a.obeys.carries (status_of_answer exit None old new left a) memory)
usage exit (Some c) old new left a memory = (
  λ is. absurd (usage_alone (verdict (Some c) old.file a.obeys.unseen) (command_keeps c old.file a.obeys.unseen)
      (sym is ∙ due exit (Some c) old new left a memory (λ three. cc))),
  λ none. cc,
)

-- ---- host faults

-- no work calls for the status 3
never_3 : (work : Work) → 3 ≡ status_due (Does work) → ⊥
never_3 (Judges true) is = cc
never_3 (Judges false) is = cc
never_3 (Runs wanted start events) is = cc
never_3 (Soaking seed start) is = cc
never_3 (Outputs out disk1 image) is = cc

carried_fault : (v : Verdict) (ended : Option Refusal) (left : Option Left) (exit : ℕ) (h k : Outside) (c : Carries v ended left h k)
    → IsStatus ended c.output exit → exit ≡ 3 → (v ≢ Refuses refusal.Usage) × Rose h.faults k.faults
carried_fault v None left exit h k c status three =
    let work = c.deserved in absurd (never_3 work.0 (sym three ∙ status ∙ sym (done_status v left h k c) ∙ ap status_due work.1))
carried_fault v (Some refusal.HostFault) left exit h k c status three = c.deserved
carried_fault v (Some other) left exit h k c status three = (let is = status (λ seven. cc) in absurd (cc))

pub faults_counted : (exit : ℕ) (command : Option Command) (old new : Outside) (left : Option Left) → Answers exit command old new left
    → exit ≡ 3 → IsSome command × Rose old.faults new.faults
faults_counted exit None old new left a three =
    absurd ((carried_fault (Refuses refusal.Usage) a.ended left exit old a.mid a.obeys.carries (status_of_answer exit None old new left a) three).0 refl)
faults_counted exit (Some c) old new left a three =
    let v = verdict (Some c) old.file a.obeys.unseen in
    let caused = carried_fault v a.ended left exit old a.mid a.obeys.carries (status_of_answer exit (Some c) old new left a) three in
    (refl, rose_later exit (Some c) old new left a caused.1)

-- ---- files without a fault are read

reads_by : (fits : Bool) (r : Reading) → (if fits then fault_line r else Some 0) ≡ None
    → (events : List Event) × (events_read r ≡ Some events)
reads_by false r good = cc
reads_by true (Reads events) good = (events, refl)
reads_by true (Bad l) good = cc
reads_by true (Many l) good = cc

pub good_reads : (bytes : List ℕ) → schedule_fault bytes ≡ None → (events : List Event) × (events_in bytes ≡ Some events)
unfolding schedule_fault
good_reads bytes good = reads_by (nat_le (length bytes) longest_schedule) (reading bytes) good

-- ---- the statuses by the files

pub some_of : {X : Type 0} (o : Option X) (x : X) → o ≡ Some x → IsSome o
some_of o x is = rw is refl

pub no_more : {X : Type 0} (b : Bool) → b ≡ true → b ≡ false → X
no_more b is other = (let same : true ≡ false = sym is ∙ other in absurd (cc))

-- what the exit status says of inputs, by the first that isn't accepted
module _ (exit : ℕ) (s disk0 disk1 : List ℕ) (files : List (List ℕ)) (next : Next) (Says : Type 0)
    (schedule_says : (l : ℕ) → schedule_fault s ≡ Some l → exit ≡ 5 → Says)
    (disk_says : (cause : Refusal) → schedule_fault s ≡ None → disks_fault disk0 disk1 ≡ Some cause → exit ≡ 6 → Says)
    (image_says : AreAccepted s disk0 disk1 → have_fault files ≡ true → exit ≡ 4 → Says)
    (rest_says : (events : List Event) (images : List Loaded) → AreAccepted s disk0 disk1 → have_fault files ≡ false → events_in s ≡ Some events → images_loaded files ≡ Some images
    → exit ≡ status_due (next events (disks_of disk0 (opened disk1)) images) → Says) where
  -- the status by what the inputs are judged to be
  abbrev own_status : Judged → ℕ
  own_status j = status_due (after_judged next j)

  module _ (events : List Event) (reads : events_in s ≡ Some events) where
    -- by whether an image file has a fault
    by_images : (bad : Bool) → AreAccepted s disk0 disk1 → have_fault files ≡ bad
        → exit ≡ status_due (after_judged next (images_judged 1 files (Accepted events (disks_of disk0 (opened disk1))))) → Says
    by_images true good bad is = image_says good bad (is ∙ ap own_status (images_refused 1 files (Accepted events (disks_of disk0 (opened disk1))) bad).2)
    by_images false good fine is =
        let read = images_read 1 files (Accepted events (disks_of disk0 (opened disk1))) fine in
        rest_says events read.0 good fine reads read.1.0 (is ∙ ap own_status read.1.1)

    -- by the fault of the disk with files
    by_disk1 : (f : Option DiskFault) → schedule_fault s ≡ None → raw_fault disk0 ≡ None → disk_fault disk1 ≡ f
        → exit ≡ status_due (after_judged next (disk1_judged events disk0 disk1 files)) → Says
    unfolding disks_fault
    by_disk1 (Some x) good raw bad is =
        disk_says (rule_broken x) good (ap₂ (λ a b. option_or (option_map raw_broken a) (option_map rule_broken b)) raw bad)
        (is ∙ ap own_status (clean_refused events files disk0 disk1 x bad))
    by_disk1 None good raw fine is =
        by_images (have_fault files) (record { schedule = good; disks = ap₂ (λ a b. option_or (option_map raw_broken a) (option_map rule_broken b)) raw fine }) refl
        (is ∙ ap own_status (clean_read events files disk0 disk1 fine))

    -- by the fault of the raw disk
    by_disk0 : (f : Option DiskFault) → schedule_fault s ≡ None → raw_fault disk0 ≡ f → exit ≡ status_due (after_judged next (disk0_judged events disk0 disk1 files))
        → Says
    unfolding disks_fault
    by_disk0 (Some x) good bad is =
        disk_says (raw_broken x) good (ap (λ a. option_or (option_map raw_broken a) (option_map rule_broken (disk_fault disk1))) bad)
        (is ∙ ap own_status (raw_refused events files disk0 disk1 x bad))
    by_disk0 None good fine is =
        by_disk1 (disk_fault disk1) good fine refl (is ∙ ap own_status (raw_read events files disk0 disk1 fine))

  -- by the fault of the schedule
  by_schedule : (f : Option ℕ) → schedule_fault s ≡ f → exit ≡ status_due (inputs_verdict next s disk0 disk1 files) → Says
  by_schedule (Some l) bad is = schedule_says l bad (is ∙ ap own_status (schedule_refused s l disk0 disk1 files bad))
  by_schedule None good is =
      let read = good_reads s good in
      by_disk0 read.0 read.1 (raw_fault disk0) good refl
      (is ∙ ap own_status (schedule_read s read.0 disk0 disk1 files (record { good = good; reads = read.1 })))

  pub says_by_inputs : exit ≡ status_due (inputs_verdict next s disk0 disk1 files) → Says
  says_by_inputs is = by_schedule (schedule_fault s) refl is

module _ (exit : ℕ) (s disk0 disk1 : List ℕ) (files : List (List ℕ)) where
  -- the disks on which the machine starts
  abbrev own_disks : Disks
  own_disks = disks_of disk0 (opened disk1)

  says_schedule : (l : ℕ) → schedule_fault s ≡ Some l → exit ≡ 5 → SaysOfFiles exit s disk0 disk1 files
  says_schedule l bad is = record {
    done = (λ e. absurd (cc), λ p. (let good = p.0.schedule in cc));
    bad_schedule = (λ e. some_of (schedule_fault s) l bad, λ p. is);
    bad_disk = (λ e. absurd (cc), λ p. (let good = p.0 in cc));
    bad_image = (λ e. absurd (cc), λ p. (let good = p.0.schedule in cc));
    no_start = (λ e. absurd (cc), λ p. (let good = p.0.schedule in cc));
  }

  says_disk : (cause : Refusal) → schedule_fault s ≡ None → disks_fault disk0 disk1 ≡ Some cause → exit ≡ 6 → SaysOfFiles exit s disk0 disk1 files
  says_disk cause good bad is = record {
    done = (λ e. absurd (cc), λ p. (let none = p.0.disks in cc));
    bad_schedule = (λ e. absurd (cc), λ p. absurd (some_is_none (schedule_fault s) p good));
    bad_disk = (λ e. (good, some_of (disks_fault disk0 disk1) cause bad), λ p. is);
    bad_image = (λ e. absurd (cc), λ p. (let none = p.0.disks in cc));
    no_start = (λ e. absurd (cc), λ p. (let none = p.0.disks in cc));
  }

  says_image : AreAccepted s disk0 disk1 → have_fault files ≡ true → exit ≡ 4 → SaysOfFiles exit s disk0 disk1 files
  says_image good bad is = record {
    done = (λ e. absurd (cc), λ p. no_more (have_fault files) bad p.1.good);
    bad_schedule = (λ e. absurd (cc), λ p. absurd (some_is_none (schedule_fault s) p good.schedule));
    bad_disk = (λ e. absurd (cc), λ p. absurd (some_is_none (disks_fault disk0 disk1) p.1 good.disks));
    bad_image = (λ e. (good, bad), λ p. is);
    no_start = (λ e. absurd (cc), λ p. no_more (have_fault files) bad p.1.good);
  }

  says_no_start : (i : ℕ) → AreAccepted s disk0 disk1 → have_fault files ≡ false
      → (start_with own_disks files ≡ Some (Overlaps i)) ⊎ (start_with own_disks files ≡ Some (NoRoom i)) → exit ≡ 8 → SaysOfFiles exit s disk0 disk1 files
  says_no_start i good fine start is = record {
    done = (λ e. absurd (cc), λ p. (let boots = p.1.boots in elim start [ inl overlaps ↦ absurd (cc) | inr full ↦ absurd (cc) ]));
    bad_schedule = (λ e. absurd (cc), λ p. absurd (some_is_none (schedule_fault s) p good.schedule));
    bad_disk = (λ e. absurd (cc), λ p. absurd (some_is_none (disks_fault disk0 disk1) p.1 good.disks));
    bad_image = (λ e. absurd (cc), λ p. no_more (have_fault files) p.1 fine);
    no_start = (λ e. (good, record { good = fine; image = i; start = start }), λ p. is);
  }

  says_done : (x : Xinu) → AreAccepted s disk0 disk1 → have_fault files ≡ false → start_with own_disks files ≡ Some (Boots x) → exit ≡ 0 → SaysOfFiles exit s disk0 disk1 files
  says_done x good fine start is = record {
    done = (λ e. (good, record { good = fine; start = x; boots = start }), λ p. is);
    bad_schedule = (λ e. absurd (cc), λ p. absurd (some_is_none (schedule_fault s) p good.schedule));
    bad_disk = (λ e. absurd (cc), λ p. absurd (some_is_none (disks_fault disk0 disk1) p.1 good.disks));
    bad_image = (λ e. absurd (cc), λ p. no_more (have_fault files) p.1 fine);
    no_start = (λ e. absurd (cc), λ p. elim p.1.start [ inl overlaps ↦ cc | inr full ↦ cc ]);
  }

  -- by how the machine starts
  says_start : (wanted : Wanted) (events : List Event) (images : List Loaded) (start : Start) → AreAccepted s disk0 disk1 → have_fault files ≡ false → images_loaded files ≡ Some images → boot_on own_disks images ≡ start
      → exit ≡ status_due (start_verdict wanted events start) → SaysOfFiles exit s disk0 disk1 files
  unfolding start_with
  says_start wanted events images (Boots x) good fine loaded starts is =
      says_done x good fine (ap (option_map (boot_on own_disks)) loaded ∙ ap Some starts) is
  says_start wanted events images (Overlaps i) good fine loaded starts is =
      says_no_start i good fine (inl (ap (option_map (boot_on own_disks)) loaded ∙ ap Some starts)) is
  says_start wanted events images (NoRoom i) good fine loaded starts is =
      says_no_start i good fine (inr (ap (option_map (boot_on own_disks)) loaded ∙ ap Some starts)) is

  says_run : (wanted : Wanted) → exit ≡ status_due (inputs_verdict (run_verdict wanted) s disk0 disk1 files) → SaysOfFiles exit s disk0 disk1 files
  says_run wanted =
      says_by_inputs exit s disk0 disk1 files (run_verdict wanted) (SaysOfFiles exit s disk0 disk1 files) says_schedule says_disk says_image
      (λ events images good fine reads loaded is. says_start wanted events images (boot_on own_disks images) good fine loaded refl
      (is ∙ ap status_due (boot_verdict_at (record { disks = own_disks; wanted = wanted }) events images (boot_on own_disks images) refl)))

pub says_of_files : (exit : ℕ) (files : RunFiles) (old new : Outside) (left : Option Left) (a : Answers exit (Some (Run files)) old new left) → exit ≢ 7 → exit ≢ 3
    → SaysOfFiles exit (file_bytes (old.file files.schedule) (a.obeys.unseen ScheduleInput)) (disk_bytes files.disks.disk0 empty_disk0 old.file (a.obeys.unseen Disk0Input))
    (disk_bytes files.disks.disk1 empty_disk1 old.file (a.obeys.unseen Disk1Input)) (image_bytes 1 files.images old.file (λ i. a.obeys.unseen (ImageInput i)))
says_of_files exit files old new left a memory fault =
    let schedule = file_bytes (old.file files.schedule) (a.obeys.unseen ScheduleInput) in
    let disk0 = disk_bytes files.disks.disk0 empty_disk0 old.file (a.obeys.unseen Disk0Input) in
    let disk1 = disk_bytes files.disks.disk1 empty_disk1 old.file (a.obeys.unseen Disk1Input) in
    says_run exit schedule disk0 disk1 (image_bytes 1 files.images old.file (λ i. a.obeys.unseen (ImageInput i))) (wanted_of files)
    (due exit (Some (Run files)) old new left a memory fault)
