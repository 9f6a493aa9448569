-- Why the exit statuses of a check say what they do of its inputs and of its trace.
use Rattle.std.proofs.Common.{◌⊎◌, inl, inr, ◌≡◌, ◌≢◌, ◌∙◌, ◌≤◌, ◌<◌, ◌↔◌, ◌+◌, ℕ, suc, Bool, true, false, if◌then◌else◌, List, [], ◌∷◌, length, Option, Some, None, refl, sym, ap, subst, arith}
use Rattle.std.proofs.lemmas.Bool.{cases_lt, le-leb, lt-leb}
use Rattle.std.specs.Option.{option_or}
use Rattle.std.specs.Prelude.{option_and_then, option_map}
use Rattle.command_line.specs.CheckArgs.{CheckFiles}
use Rattle.command_line.specs.Commands.{Check, command_of}
use Rattle.command_line.specs.Reading.{Text}
use Rattle.elf_loader.specs.LoadedFiles.{loads}
use Rattle.given_disks.proofs.Given.{sound_disks}
use Rattle.given_disks.specs.Disks.{disks_of}
use Rattle.host_port.specs.Outside.{Outside}
use Rattle.lfs_check.specs.Faults.{fault}
use Rattle.lfs_check.specs.declared.faults.DiskFault.{DiskFault}
use Rattle.lfs_layout.proofs.MadeClean.{opened_clean}
use Rattle.lfs_layout.specs.Images.{is_raw, opened}
use Rattle.schedule_file.specs.ScheduleFiles.{events_in}
use Rattle.transcript_laws.proofs.Checked.{checks_exactly}
use Rattle.transcript_laws.specs.Transcripts.{IsText, checks, checks_from}
use Rattle.xinu_base.specs.declared.events.Event.{Event}
use Rattle.xinu_model.specs.Boot.{Disks, Loaded, Start, Boots, Overlaps, NoRoom, boot_on}
use Rattle.part_laws.specs.GivenDisks.{AreSoundDisks}
use Rattle.xinu_model.specs.Machine.{Xinu}
use Rattle.run_inputs.specs.InputFaults.{have_fault, images_loaded, schedule_fault}
use Rattle.run_inputs.specs.InputDisks.{disk_fault, empty_disk0, empty_disk1, raw_broken, raw_fault, rule_broken}
use Rattle.xinu_commands.specs.InputVerdict.{inputs_verdict}
use Rattle.xinu_commands.specs.Statuses.{AreAccepted, AreFetched, IsTraceOf, SaysOfTrace, disks_fault, start_with, status_due}
use Rattle.xinu_commands.specs.Theorem.{Answers}
use Rattle.xinu_commands.specs.TraceVerdict.{judged_verdict, longest_trace, trace_verdict}
use Rattle.run_inputs.specs.InputFiles.{disk_bytes, file_bytes, image_bytes}
use Rattle.xinu_commands.specs.Verdict.{ScheduleInput, Disk0Input, Disk1Input, ImageInput, TraceInput}
use Rattle.xinu_commands.specs.Work.{Left, Refuses}
use Rattle.run_inputs.specs.declared.refusals.Refusal.{Refusal}
use Rattle.run_inputs.specs.declared.refusals.Refusal.TheVariants as refusal
use Rattle.run_inputs.proofs.LongDisks.{too_long}
use Rattle.xinu_commands.proofs.Possible.{check_count}
use Rattle.xinu_commands.proofs.Printed.{some_is_none}
use Rattle.xinu_commands.proofs.Statuses.{due, no_more, says_by_inputs, some_of}

-- a trace that is too long
pub trace_long : (trace : List ℕ) (events : List Event) (disks : Disks) (images : List Loaded) → longest_trace < length trace → trace_verdict trace events disks images ≡ Refuses refusal.TraceTooLong
unfolding trace_verdict
trace_long trace events disks images long = rw (lt-leb (length trace) longest_trace long) refl

-- and one that isn't
pub trace_short : (trace : List ℕ) (events : List Event) (disks : Disks) (images : List Loaded) → length trace ≤ longest_trace
    → trace_verdict trace events disks images ≡ judged_verdict (boot_on disks images) (checks disks images events trace)
unfolding trace_verdict
trace_short trace events disks images short = rw (le-leb (length trace) longest_trace short) refl

module _ (exit : ℕ) (s disk0 disk1 : List ℕ) (files : List (List ℕ)) (trace : List ℕ)
    (exact : (events : List Event) (images : List Loaded) → AreAccepted s disk0 disk1 → images_loaded files ≡ Some images
    → checks (disks_of disk0 (opened disk1)) images events trace ≡ true ↔ IsText (disks_of disk0 (opened disk1)) images events trace) where
  -- the disks on which the machine starts
  abbrev own_disks : Disks
  own_disks = disks_of disk0 (opened disk1)

  abbrev Says : Type 0
  Says = SaysOfTrace exit s disk0 disk1 files trace

  says_schedule : (l : ℕ) → schedule_fault s ≡ Some l → exit ≡ 5 → Says
  says_schedule l bad is = record {
    yes = (λ e. absurd (cc), λ p. (let good = p.0.accepted.schedule in cc));
    no = (λ e. absurd (cc), λ p. (let good = p.0.accepted.schedule in cc));
    too_long = (λ e. absurd (cc), λ p. (let good = p.0.schedule in cc));
    bad_schedule = (λ e. some_of (schedule_fault s) l bad, λ p. is);
    bad_disk = (λ e. absurd (cc), λ p. (let good = p.0 in cc));
    bad_image = (λ e. absurd (cc), λ p. (let good = p.0.schedule in cc));
    no_start = (λ e. absurd (cc), λ p. (let good = p.0.accepted.schedule in cc));
  }

  says_disk : (cause : Refusal) → schedule_fault s ≡ None → disks_fault disk0 disk1 ≡ Some cause → exit ≡ 6 → Says
  says_disk cause good bad is = record {
    yes = (λ e. absurd (cc), λ p. (let none = p.0.accepted.disks in cc));
    no = (λ e. absurd (cc), λ p. (let none = p.0.accepted.disks in cc));
    too_long = (λ e. absurd (cc), λ p. (let none = p.0.disks in cc));
    bad_schedule = (λ e. absurd (cc), λ p. absurd (some_is_none (schedule_fault s) p good));
    bad_disk = (λ e. (good, some_of (disks_fault disk0 disk1) cause bad), λ p. is);
    bad_image = (λ e. absurd (cc), λ p. (let none = p.0.disks in cc));
    no_start = (λ e. absurd (cc), λ p. (let none = p.0.accepted.disks in cc));
  }

  says_image : AreAccepted s disk0 disk1 → have_fault files ≡ true → exit ≡ 4 → Says
  says_image good bad is = record {
    yes = (λ e. absurd (cc), λ p. no_more (have_fault files) bad p.0.good);
    no = (λ e. absurd (cc), λ p. no_more (have_fault files) bad p.0.good);
    too_long = (λ e. absurd (cc), λ p. no_more (have_fault files) bad p.1);
    bad_schedule = (λ e. absurd (cc), λ p. absurd (some_is_none (schedule_fault s) p good.schedule));
    bad_disk = (λ e. absurd (cc), λ p. absurd (some_is_none (disks_fault disk0 disk1) p.1 good.disks));
    bad_image = (λ e. (good, bad), λ p. is);
    no_start = (λ e. absurd (cc), λ p. no_more (have_fault files) bad p.0.good);
  }

  says_long : AreAccepted s disk0 disk1 → have_fault files ≡ false → longest_trace < length trace → exit ≡ 11 → Says
  says_long good fine long is = record {
    yes = (λ e. absurd (cc), λ p. (let short = p.0.short in absurd (omega arith)));
    no = (λ e. absurd (cc), λ p. (let short = p.0.short in absurd (omega arith)));
    too_long = (λ e. (good, fine, long), λ p. is);
    bad_schedule = (λ e. absurd (cc), λ p. absurd (some_is_none (schedule_fault s) p good.schedule));
    bad_disk = (λ e. absurd (cc), λ p. absurd (some_is_none (disks_fault disk0 disk1) p.1 good.disks));
    bad_image = (λ e. absurd (cc), λ p. no_more (have_fault files) p.1 fine);
    no_start = (λ e. absurd (cc), λ p. (let short = p.0.short in absurd (omega arith)));
  }

  module _ (good : AreFetched s disk0 disk1 files trace) (events : List Event) (reads : events_in s ≡ Some events) (images : List Loaded) (loaded : images_loaded files ≡ Some images) where
    -- the one way in which the trace can be a transcript
    own_text : IsTraceOf own_disks s files trace → IsText own_disks images events trace
    own_text t =
        let same_events : t.events ≡ events = (let reads_t = t.reads in cc) in
        let same_images : t.images ≡ images = (let loads_t = t.loads in cc) in
        let P : List Event → Type 0 = λ es. IsText own_disks t.images es trace in
        let Q : List Loaded → Type 0 = λ xs. IsText own_disks xs events trace in
        subst Q same_images (subst P same_events t.text)

    -- the machine doesn't start
    says_no_start : (i : ℕ) → (start_with own_disks files ≡ Some (Overlaps i)) ⊎ (start_with own_disks files ≡ Some (NoRoom i))
        → (checks own_disks images events trace ≡ true → ⊥) → exit ≡ 8 → Says
    says_no_start i start never is = record {
      yes = (λ e. absurd (cc), λ p. absurd (never ((exact events images good.accepted loaded).1 (own_text p.1))));
      no = (λ e. absurd (cc), λ p. (let boots = p.1.boots in elim start [ inl overlaps ↦ absurd (cc) | inr full ↦ absurd (cc) ]));
      too_long = (λ e. absurd (cc), λ p. (let short = good.short in absurd (omega (arith, p.2))));
      bad_schedule = (λ e. absurd (cc), λ p. absurd (some_is_none (schedule_fault s) p good.accepted.schedule));
      bad_disk = (λ e. absurd (cc), λ p. absurd (some_is_none (disks_fault disk0 disk1) p.1 good.accepted.disks));
      bad_image = (λ e. absurd (cc), λ p. no_more (have_fault files) p.1 good.good);
      no_start = (λ e. (good, record { good = good.good; image = i; start = start }), λ p. is);
    }

    -- it does, and the trace is judged
    says_judged : (start : Xinu) (b : Bool) → start_with own_disks files ≡ Some (Boots start) → checks own_disks images events trace ≡ b → exit ≡ status_due (judged_verdict (Boots start) b) → Says
    says_judged start true boots judged is =
        let text = (exact events images good.accepted loaded).0 judged in record {
          yes = (λ e. (good, record { events = events; images = images; reads = reads; loads = loaded; text = text }), λ p. is);
          no = (λ e. absurd (cc), λ p. absurd (p.2 (record { events = events; images = images; reads = reads; loads = loaded; text = text })));
          too_long = (λ e. absurd (cc), λ p. (let short = good.short in absurd (omega (arith, p.2))));
          bad_schedule = (λ e. absurd (cc), λ p. absurd (some_is_none (schedule_fault s) p good.accepted.schedule));
          bad_disk = (λ e. absurd (cc), λ p. absurd (some_is_none (disks_fault disk0 disk1) p.1 good.accepted.disks));
          bad_image = (λ e. absurd (cc), λ p. no_more (have_fault files) p.1 good.good);
          no_start = (λ e. absurd (cc), λ p. elim p.1.start [ inl overlaps ↦ cc | inr full ↦ cc ]);
        }
    says_judged start false boots judged is =
        let never : IsTraceOf own_disks s files trace → ⊥ = λ t. no_more (checks own_disks images events trace) ((exact events images good.accepted loaded).1 (own_text t)) judged in record {
          yes = (λ e. absurd (cc), λ p. absurd (never p.1));
          no = (λ e. (good, record { good = good.good; start = start; boots = boots }, never), λ p. is);
          too_long = (λ e. absurd (cc), λ p. (let short = good.short in absurd (omega (arith, p.2))));
          bad_schedule = (λ e. absurd (cc), λ p. absurd (some_is_none (schedule_fault s) p good.accepted.schedule));
          bad_disk = (λ e. absurd (cc), λ p. absurd (some_is_none (disks_fault disk0 disk1) p.1 good.accepted.disks));
          bad_image = (λ e. absurd (cc), λ p. no_more (have_fault files) p.1 good.good);
          no_start = (λ e. absurd (cc), λ p. elim p.1.start [ inl overlaps ↦ cc | inr full ↦ cc ]);
        }

    -- nothing is a transcript of a machine that doesn't start
    overlaps_never : (i : ℕ) → boot_on own_disks images ≡ Overlaps i → checks own_disks images events trace ≡ true → ⊥
    overlaps_never i starts is = (let none : false ≡ true = sym (ap (λ x. checks_from x events trace) starts) ∙ is in cc)

    full_never : (i : ℕ) → boot_on own_disks images ≡ NoRoom i → checks own_disks images events trace ≡ true → ⊥
    full_never i starts is = (let none : false ≡ true = sym (ap (λ x. checks_from x events trace) starts) ∙ is in cc)

    -- by how the machine starts
    says_start : (start : Start) → boot_on own_disks images ≡ start → exit ≡ status_due (judged_verdict start (checks own_disks images events trace)) → Says
    unfolding start_with
    says_start (Boots x) starts is =
        says_judged x (checks own_disks images events trace) (ap (option_map (boot_on own_disks)) loaded ∙ ap Some starts) refl is
    says_start (Overlaps i) starts is =
        says_no_start i (inl (ap (option_map (boot_on own_disks)) loaded ∙ ap Some starts)) (overlaps_never i starts) is
    says_start (NoRoom i) starts is =
        says_no_start i (inr (ap (option_map (boot_on own_disks)) loaded ∙ ap Some starts)) (full_never i starts) is

  -- by the length of the trace
  says_rest : (events : List Event) (images : List Loaded) → AreAccepted s disk0 disk1 → have_fault files ≡ false → events_in s ≡ Some events → images_loaded files ≡ Some images
      → exit ≡ status_due (trace_verdict trace events own_disks images) → Says
  says_rest events images good fine reads loaded is =
      elim (cases_lt longest_trace (length trace)) [
        | inl long ↦ says_long good fine long (is ∙ ap status_due (trace_long trace events own_disks images long))
        | inr short ↦ says_start (record { accepted = good; good = fine; short = short }) events reads images loaded (boot_on own_disks images) refl
            (is ∙ ap status_due (trace_short trace events own_disks images short))
      ]

  pub says_check : exit ≡ status_due (inputs_verdict (trace_verdict trace) s disk0 disk1 files) → Says
  says_check = says_by_inputs exit s disk0 disk1 files (trace_verdict trace) Says says_schedule says_disk says_image says_rest

-- ---- the whole check

-- a disk that isn't refused
raw_accepted : (disk : List ℕ) → raw_fault disk ≡ None → is_raw disk ≡ true
unfolding raw_fault
raw_accepted disk none = by (is_raw disk) none
  where
    by : (b : Bool) → (if b then None else Some too_long) ≡ None → b ≡ true
    by true good = refl
    by false good = absurd (cc)

-- both disks are sound if both are accepted
sound : (schedule disk0 disk1 : List ℕ) → AreAccepted schedule disk0 disk1 → AreSoundDisks (disks_of disk0 (opened disk1))
unfolding disks_fault disk_fault
sound schedule disk0 disk1 good =
    let parts = both_none (raw_fault disk0) (fault disk1) good.disks in
    sound_disks disk0 (opened disk1) (raw_accepted disk0 parts.0) (opened_clean disk1 parts.1)
  where
    both_none : (a b : Option DiskFault) → option_or (option_map raw_broken a) (option_map rule_broken b) ≡ None → (a ≡ None) × (b ≡ None)
    both_none None None is = (refl, refl)
    both_none None (Some y) is = absurd (cc)
    both_none (Some x) b is = absurd (cc)

-- as many images are loaded as there are files
loaded_one : (files : List (List ℕ)) (image : Option Loaded) (rest : Option (List Loaded)) (images : List Loaded) → ((xs : List Loaded) → rest ≡ Some xs → length xs ≡ length files)
    → option_and_then (λ x. option_map (λ xs. x ∷ xs) rest) image ≡ Some images → length images ≡ suc (length files)
loaded_one files None rest images count is = absurd (cc)
loaded_one files (Some x) None images count is = absurd (cc)
loaded_one files (Some x) (Some xs) images count is =
    let same : x ∷ xs ≡ images = cc in sym (ap length same) ∙ ap suc (count xs refl)

loaded_count : (files : List (List ℕ)) (images : List Loaded) → images_loaded files ≡ Some images → length images ≡ length files
loaded_count [] images is = (let none : [] ≡ images = cc in ap length (sym none))
loaded_count (bytes ∷ files) images is = loaded_one files (loads bytes) (images_loaded files) images (λ xs all. loaded_count files xs all) is

-- and as many files as names
bytes_count : (i : ℕ) (names : List Text) (file : Text → Option (List ℕ)) (unseen : ℕ → List ℕ) → length (image_bytes i names file unseen) ≡ length names
bytes_count i [] file unseen = refl
bytes_count i (name ∷ names) file unseen = ap suc (bytes_count (i + 1) names file unseen)

pub says_of_trace : (exit : ℕ) (args : List Text) (files : CheckFiles) (old new : Outside) (left : Option Left) → command_of args ≡ Some (Check files) → (a : Answers exit (Some (Check files)) old new left) → exit ≢ 7 → exit ≢ 3
    → SaysOfTrace exit (file_bytes (old.file files.schedule) (a.obeys.unseen ScheduleInput)) (disk_bytes files.disks.disk0 empty_disk0 old.file (a.obeys.unseen Disk0Input))
    (disk_bytes files.disks.disk1 empty_disk1 old.file (a.obeys.unseen Disk1Input)) (image_bytes 1 files.images old.file (λ i. a.obeys.unseen (ImageInput i))) (file_bytes (old.file files.trace) (a.obeys.unseen TraceInput))
says_of_trace exit args files old new left is a memory fault =
    let schedule = file_bytes (old.file files.schedule) (a.obeys.unseen ScheduleInput) in
    let disk0 = disk_bytes files.disks.disk0 empty_disk0 old.file (a.obeys.unseen Disk0Input) in
    let disk1 = disk_bytes files.disks.disk1 empty_disk1 old.file (a.obeys.unseen Disk1Input) in
    let images = image_bytes 1 files.images old.file (λ i. a.obeys.unseen (ImageInput i)) in
    let trace = file_bytes (old.file files.trace) (a.obeys.unseen TraceInput) in
    let count = check_count args files is in
    let named = bytes_count 1 files.images old.file (λ i. a.obeys.unseen (ImageInput i)) in
    says_check exit schedule disk0 disk1 images trace
    (λ events loaded good all. checks_exactly (disks_of disk0 (opened disk1)) loaded events trace (omega (arith, loaded_count images loaded all, named, count.few)) (sound schedule disk0 disk1 good))
    (due exit (Some (Check files)) old new left a memory fault)
