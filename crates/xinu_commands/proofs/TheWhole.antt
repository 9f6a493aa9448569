-- Why what `run` sends is that of a run of the abstract machine.
use Rattle.std.proofs.Common.{inl, inr, ◌≡◌, ◌∙◌, ℕ, Bool, true, false, List, Option, Some, None, refl, sym, ap, subst}
use Rattle.command_line.specs.Commands.{Run}
use Rattle.command_line.specs.RunArgs.{RunFiles}
use Rattle.given_disks.specs.Disks.{disks_of}
use Rattle.host_port.specs.Outside.{Outside}
use Rattle.lfs_check.specs.declared.faults.DiskFault.{DiskFault}
use Rattle.lfs_layout.specs.Images.{opened}
use Rattle.schedule_file.specs.ScheduleFiles.{events_in}
use Rattle.xinu_base.specs.declared.events.Event.{Event}
use Rattle.xinu_model.specs.Boot.{Loaded, Start, Boots, Overlaps, NoRoom, boot_on}
use Rattle.xinu_model.specs.Machine.{Xinu}
use Rattle.run_inputs.specs.InputDisks.{disk_fault, raw_broken, raw_fault, rule_broken}
use Rattle.run_inputs.specs.InputFaults.{have_fault, images_loaded, schedule_fault}
use Rattle.run_inputs.specs.Judging.{Judged, Refused, Accepted, disk0_judged, disk1_judged, images_judged}
use Rattle.run_inputs.specs.Refusals.{status_of}
use Rattle.run_inputs.specs.declared.refusals.Refusal.{Refusal}
use Rattle.run_inputs.specs.declared.refusals.Refusal.TheVariants as refusal
use Rattle.xinu_commands.specs.InputVerdict.{Next, after_judged, inputs_verdict}
use Rattle.xinu_commands.specs.RunVerdict.{run_verdict, start_verdict}
use Rattle.xinu_commands.specs.Statuses.{AreAccepted, disks_fault}
use Rattle.xinu_commands.specs.Theorem.{Answers, Carries, IsWhole, Tells, WorkSends}
use Rattle.xinu_commands.specs.Verdict.{wanted_of}
use Rattle.xinu_commands.specs.Whole.{Given, IsBooted, IsRunOf, SendsBeginning, SendsRun, Whole, given}
use Rattle.xinu_commands.specs.Work.{Does, Left, Output, Refuses, RunOutput, Runs, Verdict, Wanted}
use Rattle.run_inputs.proofs.JudgedFiles.{clean_read, clean_refused, images_read, images_refused, raw_read, raw_refused, schedule_read, schedule_refused}
use Rattle.xinu_commands.proofs.Files.{boot_verdict_at}
use Rattle.xinu_commands.proofs.Statuses.{good_reads}

-- ---- what inputs deserve is a refusal, or what follows accepted ones

module _ (s disk0 disk1 : List ℕ) (files : List (List ℕ)) (next : Next) (P : Verdict → Type 0) (refused : (cause : Refusal) → P (Refuses cause))
    (rest : (events : List Event) (images : List Loaded) → AreAccepted s disk0 disk1 → events_in s ≡ Some events → images_loaded files ≡ Some images
    → P (next events (disks_of disk0 (opened disk1)) images)) where
  abbrev Of : Judged → Type 0
  Of j = P (after_judged next j)

  of_refused : (j : Judged) (cause : Refusal) → j ≡ Refused cause → Of j
  of_refused j cause is = subst Of (sym is) (refused cause)

  module _ (events : List Event) (reads : events_in s ≡ Some events) where
    by_images : (bad : Bool) → AreAccepted s disk0 disk1 → have_fault files ≡ bad → Of (images_judged 1 files (Accepted events (disks_of disk0 (opened disk1))))
    by_images true good bad = (let r = images_refused 1 files (Accepted events (disks_of disk0 (opened disk1))) bad in of_refused _ (refusal.Image r.0 r.1) r.2)
    by_images false good fine =
        let read = images_read 1 files (Accepted events (disks_of disk0 (opened disk1))) fine in
        subst Of (sym read.1.1) (rest events read.0 good reads read.1.0)

    by_disk1 : (f : Option DiskFault) → schedule_fault s ≡ None → raw_fault disk0 ≡ None → disk_fault disk1 ≡ f → Of (disk1_judged events disk0 disk1 files)
    unfolding disks_fault
    by_disk1 (Some x) good raw bad = of_refused (disk1_judged events disk0 disk1 files) (rule_broken x) (clean_refused events files disk0 disk1 x bad)
    by_disk1 None good raw fine =
        subst Of (sym (clean_read events files disk0 disk1 fine))
        (by_images (have_fault files) (record { schedule = good; disks = rw (raw, fine) refl }) refl)

    by_disk0 : (f : Option DiskFault) → schedule_fault s ≡ None → raw_fault disk0 ≡ f → Of (disk0_judged events disk0 disk1 files)
    by_disk0 (Some x) good bad = of_refused (disk0_judged events disk0 disk1 files) (raw_broken x) (raw_refused events files disk0 disk1 x bad)
    by_disk0 None good fine = subst Of (sym (raw_read events files disk0 disk1 fine)) (by_disk1 (disk_fault disk1) good fine refl)

  by_schedule : (f : Option ℕ) → schedule_fault s ≡ f → P (inputs_verdict next s disk0 disk1 files)
  by_schedule (Some l) bad = of_refused _ (refusal.Schedule l) (schedule_refused s l disk0 disk1 files bad)
  by_schedule None good =
      let read = good_reads s good in
      subst Of (sym (schedule_read s read.0 disk0 disk1 files (record { good = good; reads = read.1 }))) (by_disk0 read.0 read.1 (raw_fault disk0) good refl)

  by_inputs : P (inputs_verdict next s disk0 disk1 files)
  by_inputs = by_schedule (schedule_fault s) refl

-- ---- what is sent by the verdict

module _ (g : Given) (wanted : Wanted) where
  -- A command with this verdict sends a run if it is done, and the beginning of one in any case.
  abbrev Shows : Verdict → Type 0
  Shows v = (ended : Option Refusal) (left : Option Left) (h k : Outside) → Carries v ended left h k → (ended ≡ None → SendsRun g wanted h k left) × SendsBeginning g wanted h k

  shows_refusal : (cause : Refusal) → Shows (Refuses cause)
  shows_refusal cause None left h k c = (λ none. (let work = c.deserved.1 in cc), inl c.sends.out)
  shows_refusal cause (Some other) left h k c = (λ none. cc, inl c.sends.out)

  module _ (events : List Event) (start : Xinu) (booted : IsBooted g events start) where
    run_of : (o : Output) (last : Xinu) (disk1 : Option (List ℕ)) → RunOutput wanted start events o last disk1 → IsRunOf g wanted.plain o.out last
    run_of o last disk1 output = record {
      events = events;
      start = start;
      booted = booted;
      lines = output.lines;
      end = output.end;
      runs = output.runs;
      is = ap (λ (x : Output). x.out) output.written;
    }

    done_run : (ended : Option Refusal) (left : Option Left) (h k : Outside) (o : Output) → WorkSends (Runs wanted start events) o ended left h k → ended ≡ None → SendsRun g wanted h k left
    done_run ended left h k o sends none =
        let writes = sends.writes none in
        let whole = sends.whole none in record {
          text = o.out;
          last = writes.last;
          run = run_of o writes.last.state (Some writes.last.disk1) writes.output;
          holds = writes.output.held;
          out = whole.out;
          disk0 = subst (λ (x : Output). IsWhole x.disk0 h.disk0 k.disk0) writes.output.written whole.disk0;
          disk1 = subst (λ (x : Output). IsWhole x.disk1 h.disk1 k.disk1) writes.output.written whole.disk1;
          is_left = writes.leaves;
        }

    begun_run : (ended : Option Refusal) (left : Option Left) (h k : Outside) (o : Output) → WorkSends (Runs wanted start events) o ended left h k → SendsBeginning g wanted h k
    begun_run ended left h k o sends =
        let begins = sends.begins in inr (o.out, begins.last, run_of o begins.last begins.disk1 begins.output, sends.part.out)

    shows_run : Shows (Does (Runs wanted start events))
    shows_run ended left h k c = (done_run ended left h k c.output c.sends, begun_run ended left h k c.output c.sends)

  shows_start : (events : List Event) (images : List Loaded) (start : Start) → AreAccepted g.schedule g.disk0 g.disk1 → events_in g.schedule ≡ Some events
      → images_loaded g.images ≡ Some images → boot_on (disks_of g.disk0 (opened g.disk1)) images ≡ start → Shows (start_verdict wanted events start)
  shows_start events images (Boots x) good reads loads boots =
      shows_run events x (record { accepted = good; reads = reads; images = images; loads = loads; boots = boots })
  shows_start events images (Overlaps i) good reads loads boots = shows_refusal (refusal.Overlap i)
  shows_start events images (NoRoom i) good reads loads boots = shows_refusal (refusal.NoRoom i)

  shows_inputs : Shows (inputs_verdict (run_verdict wanted) g.schedule g.disk0 g.disk1 g.images)
  shows_inputs =
      by_inputs g.schedule g.disk0 g.disk1 g.images (run_verdict wanted) Shows shows_refusal
      (λ events images good reads loads. let disks = disks_of g.disk0 (opened g.disk1) in
      subst Shows (sym (boot_verdict_at (record { disks = disks; wanted = wanted }) events images (boot_on disks images) refl))
      (shows_start events images (boot_on disks images) good reads loads refl))

-- ---- what is told after it

-- no refusal has the status 0
never_0 : (cause : Refusal) → 0 ≡ status_of cause → ⊥
never_0 refusal.Usage is = cc
never_0 refusal.HostFault is = cc
never_0 (refusal.Image i f) is = cc
never_0 (refusal.Schedule l) is = cc
never_0 (refusal.Disk d b r) is = cc
never_0 refusal.NoMemory is = cc
never_0 (refusal.Overlap i) is = cc
never_0 (refusal.NoRoom i) is = cc
never_0 (refusal.Asm l f) is = cc
never_0 refusal.TraceTooLong is = cc
never_0 refusal.NoSuchFile is = cc
never_0 refusal.DoesNotFit is = cc

-- with the status 0 nothing was told
told_none : (ended : Option Refusal) (output : Output) (exit : ℕ) (mid new : Outside) → Tells ended output exit mid new → exit ≡ 0 → (ended ≡ None) × (new ≡ mid)
told_none None output exit mid new tells zero = (refl, tells.1)
told_none (Some cause) output exit mid new tells zero = absurd (never_0 cause (sym zero ∙ tells.answer (λ seven. cc)))

-- the text of a refusal goes elsewhere
told_out : (ended : Option Refusal) (output : Output) (exit : ℕ) (mid new : Outside) → Tells ended output exit mid new → new.out ≡ mid.out
told_out None output exit mid new tells = ap (λ (x : Outside). x.out) tells.1
told_out (Some cause) output exit mid new tells = ap (λ (x : Outside). x.out) tells.part.1

pub is_the_whole : (exit : ℕ) (files : RunFiles) (old new : Outside) (left : Option Left) → Answers exit (Some (Run files)) old new left → Whole exit files old new left
is_the_whole exit files old new left a =
    let g = given files old a.obeys.unseen in
    let wanted = wanted_of files in
    let shows = shows_inputs g wanted a.ended left old a.mid a.obeys.carries in
    let output = a.obeys.carries.output in record {
      unseen = a.obeys.unseen;
      done = λ zero. (let none = told_none a.ended output exit a.mid new a.tells zero in subst (λ (x : Outside). SendsRun g wanted old x left) (sym none.1) (shows.0 none.0));
      broken_off = λ other. (let same = told_out a.ended output exit a.mid new a.tells in elim shows.1 [
        | inl unsent ↦ inl (same ∙ unsent)
        | inr begun ↦ inr (begun.0, begun.1, begun.2, (begun.3.0, same ∙ begun.3.1))
      ]);
    }
