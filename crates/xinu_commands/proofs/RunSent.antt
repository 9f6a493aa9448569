-- A run that was printed and whose disks were written carries out its work, up to where the host refused something.
use Rattle.std.proofs.Common.{◌≡◌, ◌∙◌, Bool, ℕ, List, [], Option, Some, None, IsSome, refl, sym, ap, subst}
use Rattle.std.specs.Prelude.{Err, if◌then◌else◌, option_map, is_some}
use Rattle.command_line.specs.Reading.{Text}
use Rattle.command_line.specs.RunArgs.{DiskFiles}
use Rattle.given_disks.specs.HeldFiles.{HoldsFiles}
use Rattle.host_port.proofs.Prints.{grown-nil}
use Rattle.host_port.specs.declared.host.Channel.{Channel}
use Rattle.host_port.specs.declared.host.Channel.TheVariants.{Disk0, Disk1}
use Rattle.host_port.specs.Outside.{Outside, HostCall}
use Rattle.host_port.specs.Printing.{Printing, Prints}
use Rattle.kernel_boot.specs.declared.initialize.BootFault.{BootFault}
use Rattle.kernel_boot.specs.declared.initialize.BootFault.TheVariants as boot_fault
use Rattle.machine.specs.DiskBytes.{raw_bytes}
use Rattle.machine.specs.Starts.{Starts}
use Rattle.transcript_laws.specs.Transcripts.{transcript}
use Rattle.xinu_base.specs.declared.events.Event.{Event}
use Rattle.xinu_model.specs.Boot.{Loaded, Overlaps, NoRoom}
use Rattle.xinu_model.specs.Machine.{Xinu}
use Rattle.xinu_model.specs.Text.{shown}
use Rattle.xinu_commands.specs.Calls.{if_written, run_outputs}
use Rattle.run_inputs.specs.Conversions.{boot_refusal, host_refusal}
use Rattle.xinu_commands.specs.RunVerdict.{Setup, boot_verdict}
use Rattle.xinu_commands.specs.Stages.{SendsDisks, SendsOutput, Stage, disks_output, no_fetches, output_on}
use Rattle.xinu_commands.specs.Transcripts.{SendsTranscript}
use Rattle.xinu_commands.specs.Work.{Does, Left, Output, RunOutput, Runs, Verdict, Wanted, output_of}
use Rattle.run_inputs.specs.declared.refusals.Refusal.{Refusal}
use Rattle.run_inputs.specs.declared.refusals.Refusal.TheVariants as refusal
use Rattle.xinu_commands.proofs.Called.{keeps_refl}
use Rattle.xinu_commands.proofs.Carried.{new_printer, nothing_sent, unsent_refl}
use Rattle.xinu_commands.proofs.Files.{boot_verdict_at}
use Rattle.xinu_commands.proofs.Printed.{PrintsTranscript}
use Rattle.xinu_commands.proofs.InOrder.{AreApart, both_sent, first_sent, joined}
use Rattle.xinu_commands.proofs.Sent.{no_failure, text_sent}
use Rattle.xinu_commands.proofs.Staged.{refused_last, work_stage}

-- what was printed by a new printer was sent
pub transcript_sent : (plain : Bool) (start : Xinu) (events : List Event) (new : Xinu) (a e : Printing) (ended : Option Refusal) (h k : Outside) → a ≡ new_printer plain
    → PrintsTranscript start events new a e h k → ended ≡ option_map host_refusal e.failure → SendsTranscript plain start events new ended h k
transcript_sent plain start events new a e ended h k is_fresh p is =
    let all = transcript start p.lines p.last p.end in
    let P : List ℕ → Type 0 = λ bytes. Prints a e h k bytes in
    let prints : Prints a e h k (shown plain all) = subst P (ap (λ (x : Printing). shown x.plain all) is_fresh) p.prints in record {
      lines = p.lines;
      last = p.last;
      end = p.end;
      runs = p.runs;
      sends = text_sent (shown plain all) a e ended h k (ap (λ (x : Printing). x.failure) is_fresh) prints is;
      whole = λ none. p.whole (no_failure e.failure (sym is ∙ none));
    }

-- the text and the disks of a run
abbrev text_of_run : List ℕ → Output
text_of_run text = output_of text None None

abbrev disks_of_run : Wanted → Xinu → Option (List ℕ) → Output
disks_of_run wanted last disk1 =
    disks_output (if wanted.out0 then Some (raw_bytes last) else None) (if wanted.out1 then disk1 else None)

run_apart : (text : List ℕ) (wanted : Wanted) (last : Xinu) (disk1 : Option (List ℕ)) → AreApart (text_of_run text) (disks_of_run wanted last disk1)
run_apart text wanted last disk1 = record { no_text = refl; no_disk = refl; disk0 = tt; disk1 = tt; image = tt }

-- A transcript that wasn't sent whole ends the run before its disks.
pub transcript_ended : (d : DiskFiles) (plain : Bool) (v : Verdict) (start : Xinu) (events : List Event) (new : Xinu) (r : Refusal) (h k : Outside)
    → v ≡ Does (Runs (record { plain = plain; out0 = is_some d.out0; out1 = is_some d.out1 }) start events) → SendsTranscript plain start events new (Some r) h k
    → Stage v no_fetches (run_outputs d) (Some r) None h k
transcript_ended d plain v start events new r h k is t =
    let wanted : Wanted = record { plain = plain; out0 = is_some d.out0; out1 = is_some d.out1 } in
    let text = shown plain (transcript start t.lines t.last t.end) in
    let output = joined (text_of_run text) (disks_of_run wanted t.last None) in
    let run : RunOutput wanted start events output t.last None =
    record { lines = t.lines; end = t.end; runs = t.runs; held = tt; written = refl } in
    work_stage v (Runs wanted start events) output (run_outputs d) (Some r) None h k is
    (record { last = t.last; disk1 = None; output = run }) (λ none. absurd (cc)) (λ some. refl)
    (first_sent (text_of_run text) (disks_of_run wanted t.last None) [] (run_outputs d) (run_apart text wanted t.last None) r h k t.sends)

-- A transcript that was sent whole is followed by the disks, up to where the host refused something.
pub disks_ended : (d : DiskFiles) (plain : Bool) (v : Verdict) (start : Xinu) (events : List Event) (m : Left) (ended : Option Refusal) (left : Option Left) (h j k : Outside)
    → v ≡ Does (Runs (record { plain = plain; out0 = is_some d.out0; out1 = is_some d.out1 }) start events) → SendsTranscript plain start events m.state None h j
    → SendsDisks d m ended j k → (ended ≡ None → left ≡ Some m) → (IsSome ended → left ≡ None) → Stage v no_fetches (run_outputs d) ended left h k
disks_ended d plain v start events m ended left h j k is t s leaves refused =
    let new = m.state in
    let wanted : Wanted = record { plain = plain; out0 = is_some d.out0; out1 = is_some d.out1 } in
    let same : t.last ≡ new = t.whole refl in
    let text = shown plain (transcript start t.lines new t.end) in
    let output = joined (text_of_run text) (disks_of_run wanted new (Some m.disk1)) in
    let P : Xinu → Type 0 = λ x. SendsOutput (text_of_run (shown plain (transcript start t.lines x t.end))) [] None h j in
    let Q : Xinu → Type 0 = λ x. RunOutput wanted start events (joined (text_of_run (shown plain (transcript start t.lines x t.end))) (disks_of_run wanted x (Some m.disk1))) x (Some m.disk1) in
    let R : Xinu → Type 0 = λ x. HoldsFiles m.disk1 x.parts.devices.files in
    let run : RunOutput wanted start events output new (Some m.disk1) =
    subst Q same (record { lines = t.lines; end = t.end; runs = t.runs; held = subst R (sym same) s.held; written = refl }) in
    work_stage v (Runs wanted start events) output (run_outputs d) ended left h k is
    (record { last = new; disk1 = Some m.disk1; output = run }) (λ none. record { last = m; output = run; leaves = leaves none }) refused
    (both_sent (text_of_run text) (disks_of_run wanted new (Some m.disk1)) [] (run_outputs d) (run_apart text wanted new (Some m.disk1)) ended h j k (subst P same t.sends) s.sends)

-- ---- a machine that doesn't start

boot_refused_of : (setup : Setup) (f : BootFault) (events : List Event) (images : List Loaded) (outputs : List HostCall) (h : Outside) → Starts setup.disks images (Err f)
    → Stage (boot_verdict setup events images) no_fetches outputs (Some (boot_refusal f)) None h h
boot_refused_of setup (boot_fault.Overlap i) events images outputs h starts =
    refused_last (boot_verdict setup events images) outputs (refusal.Overlap i) h (boot_verdict_at setup events images (Overlaps i) starts)
boot_refused_of setup (boot_fault.NoRoom i) events images outputs h starts =
    refused_last (boot_verdict setup events images) outputs (refusal.NoRoom i) h (boot_verdict_at setup events images (NoRoom i) starts)
boot_refused_of setup boot_fault.NoMemory events images outputs h starts = refused_last (boot_verdict setup events images) outputs refusal.NoMemory h tt

pub boot_refused : (setup : Setup) (f : BootFault) (r : Refusal) (events : List Event) (images : List Loaded) (outputs : List HostCall) (h : Outside) → r ≡ boot_refusal f
    → Starts setup.disks images (Err f) → Stage (boot_verdict setup events images) no_fetches outputs (Some r) None h h
boot_refused setup f r events images outputs h is starts =
    let P : Refusal → Type 0 = λ x. Stage (boot_verdict setup events images) no_fetches outputs (Some x) None h h in
    subst P (sym is) (boot_refused_of setup f events images outputs h starts)

-- ---- the disks

-- what is sent of one disk
abbrev one_disk : Channel → Option Text → List ℕ → Output
one_disk c name bytes = if is_some name then output_on c bytes else disks_output None None

raw_apart : (raw clean : Option Text) (disk0 disk1 : List ℕ) → AreApart (one_disk Disk0 raw disk0) (one_disk Disk1 clean disk1)
raw_apart None None disk0 disk1 = record { no_text = refl; no_disk = refl; disk0 = tt; disk1 = tt; image = tt }
raw_apart None (Some d) disk0 disk1 = record { no_text = refl; no_disk = refl; disk0 = tt; disk1 = tt; image = tt }
raw_apart (Some c) None disk0 disk1 = record { no_text = refl; no_disk = refl; disk0 = tt; disk1 = tt; image = tt }
raw_apart (Some c) (Some d) disk0 disk1 = record { no_text = refl; no_disk = refl; disk0 = tt; disk1 = tt; image = tt }

-- both disks together
both_are : (raw clean : Option Text) (disk0 disk1 : List ℕ) → joined (one_disk Disk0 raw disk0) (one_disk Disk1 clean disk1)
    ≡ disks_output (if is_some raw then Some disk0 else None) (if is_some clean then Some disk1 else None)
both_are None None disk0 disk1 = refl
both_are None (Some d) disk0 disk1 = refl
both_are (Some c) None disk0 disk1 = refl
both_are (Some c) (Some d) disk0 disk1 = refl

-- The raw disk wasn't sent whole.
pub raw_disk_sent : (d : DiskFiles) (m : Left) (disk0 disk1 : List ℕ) (r : Refusal) (h k : Outside) → disk0 ≡ raw_bytes m.state → disk1 ≡ m.disk1
    → HoldsFiles m.disk1 m.state.parts.devices.files
    → SendsOutput (one_disk Disk0 d.out0 disk0) (if_written Disk0 d.out0) (Some r) h k → SendsDisks d m (Some r) h k
raw_disk_sent d m disk0 disk1 r h k is own held sends =
    let P : Output → Type 0 = λ o. SendsOutput o (run_outputs d) (Some r) h k in
    let Q : List ℕ → Type 0 = λ b. SendsOutput (disks_output (if is_some d.out0 then Some b else None) (if is_some d.out1 then Some disk1 else None)) (run_outputs d) (Some r) h k in
    let R : List ℕ → Type 0 = λ b. SendsOutput (disks_output (if is_some d.out0 then Some (raw_bytes m.state) else None) (if is_some d.out1 then Some b else None)) (run_outputs d) (Some r) h k in record {
      held = held;
      sends = subst R own (subst Q is (subst P (both_are d.out0 d.out1 disk0 disk1)
          (first_sent (one_disk Disk0 d.out0 disk0) (one_disk Disk1 d.out1 disk1) (if_written Disk0 d.out0) (if_written Disk1 d.out1) (raw_apart d.out0 d.out1 disk0 disk1) r h k sends)));
    }

-- The raw disk was sent, and then the disk with files up to where the host refused something.
pub both_disks_sent : (d : DiskFiles) (m : Left) (disk0 disk1 : List ℕ) (ended : Option Refusal) (h j k : Outside) → disk0 ≡ raw_bytes m.state → disk1 ≡ m.disk1
    → HoldsFiles m.disk1 m.state.parts.devices.files
    → SendsOutput (one_disk Disk0 d.out0 disk0) (if_written Disk0 d.out0) None h j → SendsOutput (one_disk Disk1 d.out1 disk1) (if_written Disk1 d.out1) ended j k → SendsDisks d m ended h k
both_disks_sent d m disk0 disk1 ended h j k is own held first second =
    let P : Output → Type 0 = λ o. SendsOutput o (run_outputs d) ended h k in
    let Q : List ℕ → Type 0 = λ b. SendsOutput (disks_output (if is_some d.out0 then Some b else None) (if is_some d.out1 then Some disk1 else None)) (run_outputs d) ended h k in
    let R : List ℕ → Type 0 = λ b. SendsOutput (disks_output (if is_some d.out0 then Some (raw_bytes m.state) else None) (if is_some d.out1 then Some b else None)) (run_outputs d) ended h k in record {
      held = held;
      sends = subst R own (subst Q is (subst P (both_are d.out0 d.out1 disk0 disk1)
          (both_sent (one_disk Disk0 d.out0 disk0) (one_disk Disk1 d.out1 disk1) (if_written Disk0 d.out0) (if_written Disk1 d.out1) (raw_apart d.out0 d.out1 disk0 disk1) ended h j k first second)));
    }

-- Nothing is sent of a disk for which no file is named.
pub no_disk_sent : (h : Outside) → SendsOutput (disks_output None None) [] None h h
no_disk_sent h = record {
  part = nothing_sent (disks_output None None) h h (unsent_refl h);
  whole = λ none. record { out = sym (grown-nil h.out); disk0 = refl; disk1 = refl; image = refl };
  cause = tt;
  calls = record { count = 0; first = sym (grown-nil h.calls); all = λ decided. sym (grown-nil h.calls); unsent = λ few. unsent_refl h };
  keeps = keeps_refl h;
}
