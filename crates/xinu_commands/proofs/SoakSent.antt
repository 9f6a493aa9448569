-- A soak test that was run and whose summary was sent carries out its work, up to where the host refused something.
use Rattle.std.proofs.Common.{◌≡◌, ◌≤◌, ℕ, List, [], take, Option, Some, None, IsSome, refl, sym, ap, subst}
use Rattle.command_line.specs.Commands.{Soak}
use Rattle.given_disks.specs.Disks.{disks_of}
use Rattle.host_port.specs.declared.host.Channel.TheVariants.{Out}
use Rattle.host_port.specs.declared.host.HostFault.{HostFault}
use Rattle.host_port.specs.declared.host.HostFault.TheVariants.{Failed}
use Rattle.host_port.specs.HostCalls.{Rose}
use Rattle.host_port.specs.Outside.{Outside, appended, counted}
use Rattle.kernel_boot.specs.declared.initialize.BootFault.{BootFault}
use Rattle.kernel_boot.specs.declared.initialize.BootFault.TheVariants as boot_fault
use Rattle.lfs_check.specs.declared.faults.DiskFault.{DiskFault}
use Rattle.lfs_layout.specs.Images.{opened}
use Rattle.soak.specs.Soaks.{IsRefused, SoaksOn}
use Rattle.xinu_model.specs.Boot.{Boots, NoRoom, Overlaps}
use Rattle.run_inputs.specs.Conversions.{boot_refusal, host_refusal}
use Rattle.run_inputs.specs.InputDisks.{IsDiskCause, disk_fault, empty_disk0, empty_disk1, raw_fault}
use Rattle.xinu_commands.specs.SoakVerdict.{soak_verdict}
use Rattle.xinu_commands.specs.Stages.{Performs, SendsOutput, Stage, no_fetches}
use Rattle.xinu_commands.specs.Work.{Left, Refuses, Soaking, Verdict, output_of}
use Rattle.run_inputs.specs.declared.refusals.Refusal.{Refusal}
use Rattle.run_inputs.specs.declared.refusals.Refusal.TheVariants as refusal
use Rattle.xinu_commands.proofs.Sent.{text_sent_by}
use Rattle.xinu_commands.proofs.SoakVerdicts.{clean_refuses, raw_refuses, starts_as}
use Rattle.xinu_commands.proofs.Staged.{memory_stage, refused_last, refused_stage, work_stage}

-- ---- text that was emitted at once

-- all of it
pub text_emitted : (text : List ℕ) (n : ℕ) (h k : Outside) → k ≡ counted (appended h Out text) k.faults → k ≡ counted (appended h Out (take n text)) k.faults
    → h.faults ≤ k.faults → SendsOutput (output_of text None None) [] None h k
text_emitted text n h k whole part later = text_sent_by text None None h k (λ none. whole) (n, part) (λ is. absurd (cc)) later refl

-- a part of it
pub text_refused : (text : List ℕ) (n : ℕ) (f : HostFault) (r : Refusal) (h k : Outside) → r ≡ host_refusal f → k ≡ counted (appended h Out (take n text)) k.faults
    → (f ≡ Failed → Rose h.faults k.faults) → h.faults ≤ k.faults → SendsOutput (output_of text None None) [] (Some r) h k
text_refused text n f r h k is part cause later =
    text_sent_by text (Some f) (Some r) h k (λ none. absurd (cc)) (n, part) (λ failed. cause (cc)) later (ap Some is)

-- ---- the stages

-- a soak test that was carried out
pub soak_performs : (seed : ℕ) (ended : Option Refusal) (left : Option Left) (h k : Outside) → Stage (soak_verdict seed) no_fetches [] ended left h k
    → Performs (Some (Soak seed)) ended left h k
soak_performs seed ended left h k s = record {
  obeys = record { unseen = λ input. []; carries = s.carries };
  calls = s.calls;
  keeps = s.keeps;
}

-- a disk that isn't accepted
refused_disk : (v : Verdict) (d : ℕ) (fault : Option DiskFault) (cause : Refusal) (h : Outside) → IsDiskCause d fault cause
    → ((x : DiskFault) → fault ≡ Some x → v ≡ Refuses (refusal.Disk d x.block x.rule)) → Stage v no_fetches [] (Some cause) None h h
refused_disk v d fault (refusal.Disk e b r) h cause refuses =
    let is = refuses (record { block = b; rule = r }) cause.1 in
    let P : ℕ → Type 0 = λ n. Stage v no_fetches [] (Some (refusal.Disk n b r)) None h h in
    subst P (sym cause.0) (refused_stage v no_fetches [] (refusal.Disk d b r) h is (λ decided. refl))
refused_disk v d fault refusal.NoMemory h cause refuses = memory_stage v no_fetches [] h
refused_disk v d fault other h cause refuses = absurd cause

-- the raw disk isn't accepted
pub raw_ends : (seed : ℕ) (cause : Refusal) (h : Outside) → IsDiskCause 0 (raw_fault empty_disk0) cause → Performs (Some (Soak seed)) (Some cause) None h h
raw_ends seed cause h is =
    soak_performs seed (Some cause) None h h (refused_disk (soak_verdict seed) 0 (raw_fault empty_disk0) cause h is (λ x fault. raw_refuses seed x fault))

-- the disk with files isn't
pub clean_ends : (seed : ℕ) (cause : Refusal) (h : Outside) → raw_fault empty_disk0 ≡ None → IsDiskCause 1 (disk_fault empty_disk1) cause
    → Performs (Some (Soak seed)) (Some cause) None h h
clean_ends seed cause h none is =
    soak_performs seed (Some cause) None h h
    (refused_disk (soak_verdict seed) 1 (disk_fault empty_disk1) cause h is (λ x fault. clean_refuses seed x none fault))

module _ (seed : ℕ) (disk0 disk1 : List ℕ) (raw : raw_fault empty_disk0 ≡ None) (clean : disk_fault empty_disk1 ≡ None) (is_raw : disk0 ≡ empty_disk0) (is_clean : disk1 ≡ opened empty_disk1) where
  -- the machine doesn't start
  start_refused : (f : BootFault) (h : Outside) → IsRefused (disks_of disk0 disk1) seed f → Stage (soak_verdict seed) no_fetches [] (Some (boot_refusal f)) None h h
  start_refused (boot_fault.Overlap i) h is =
      refused_last (soak_verdict seed) [] (refusal.Overlap i) h (starts_as seed disk0 disk1 (Overlaps i) raw clean is_raw is_clean is)
  start_refused (boot_fault.NoRoom i) h is = refused_last (soak_verdict seed) [] (refusal.NoRoom i) h (starts_as seed disk0 disk1 (NoRoom i) raw clean is_raw is_clean is)
  start_refused boot_fault.NoMemory h is = refused_last (soak_verdict seed) [] refusal.NoMemory h tt

  pub start_ends : (f : BootFault) (r : Refusal) (h : Outside) → r ≡ boot_refusal f → IsRefused (disks_of disk0 disk1) seed f → Performs (Some (Soak seed)) (Some r) None h h
  start_ends f r h is refused =
      let P : Refusal → Type 0 = λ x. Performs (Some (Soak seed)) (Some x) None h h in
      subst P (sym is) (soak_performs seed (Some (boot_refusal f)) None h h (start_refused f h refused))

  -- it was run, and its summary sent up to where the host refused something
  pub test_ends : (line : List ℕ) (m : Left) (ended : Option Refusal) (left : Option Left) (h k : Outside) → SoaksOn (disks_of disk0 disk1) seed line m.state
      → SendsOutput (output_of line None None) [] ended h k → (ended ≡ None → left ≡ Some m) → (IsSome ended → left ≡ None) → Performs (Some (Soak seed)) ended left h k
  test_ends line m ended left h k s sends leaves refused =
      soak_performs seed ended left h k
      (work_stage (soak_verdict seed) (Soaking seed s.start) (output_of line None None) [] ended left h k (starts_as seed disk0 disk1 (Boots s.start) raw clean is_raw is_clean s.boots)
      (record { last = m.state; output = record { summary_line = line; soaks = s.soaks; written = refl } })
      (λ none. record { last = m; output = record { summary_line = line; soaks = s.soaks; written = refl }; leaves = leaves none }) refused sends)
