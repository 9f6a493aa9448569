-- A trace that was judged by inputs that were read.
use Rattle.std.proofs.Common.{◌≡◌, ◌∙◌, ◌<◌, ◌≤◌, ℕ, Bool, true, false, List, [], ◌∷◌, inl, inr, length, map, take, Option, Some, None, refl, sym, ap, subst}
use Rattle.std.specs.Prelude.{Result, Ok, Err}
use Rattle.command_line.specs.Reading.{Text}
use Rattle.given_disks.specs.Disks.{disks_of}
use Rattle.host_port.specs.Outside.{Outside}
use Rattle.reference_boot.specs.Starts.{RefusesAs}
use Rattle.reference_boot.specs.declared.boot.NoStart.{NoStart}
use Rattle.reference_boot.specs.declared.boot.NoStart.TheVariants as start
use Rattle.reference_check.specs.Starting.{has_started}
use Rattle.transcript_laws.specs.Transcripts.{checks}
use Rattle.xinu_model.specs.Boot.{Loaded, Start, Boots, Overlaps, NoRoom, boot_on}
use Rattle.xinu_commands.specs.Conversions.{start_refusal}
use Rattle.run_inputs.specs.InputFaults.{have_fault, images_loaded}
use Rattle.xinu_commands.specs.Judging.{ChecksInputs, JudgesTrace}
use Rattle.xinu_commands.specs.InputVerdict.{left_verdict}
use Rattle.run_inputs.specs.Fetching.{IsFetched}
use Rattle.xinu_commands.specs.Stages.{Fetches, SendsOutput, Stage, no_fetches}
use Rattle.xinu_commands.specs.TraceVerdict.{judged_verdict, longest_trace, trace_verdict}
use Rattle.run_inputs.specs.InputFiles.{file_bytes}
use Rattle.xinu_commands.specs.Work.{Does, Judges, Refuses, judgement, output_of}
use Rattle.run_inputs.specs.declared.inputs.Inputs.{Inputs}
use Rattle.run_inputs.specs.declared.refusals.Refusal.{Refusal}
use Rattle.run_inputs.specs.declared.refusals.Refusal.TheVariants as refusal
use Rattle.xinu_commands.proofs.Files.{later_keeps, trace_later}
use Rattle.xinu_commands.proofs.InputsRead.{left_loaded, left_read}
use Rattle.run_inputs.proofs.InputFaults.{cases_fetched}
use Rattle.xinu_commands.proofs.Staged.{fetched_stage, memory_stage, refused_last, stage_as, unfetched_stage, work_stage}
use Rattle.xinu_commands.proofs.TraceStatuses.{trace_long, trace_short}

-- ---- the verdict

-- what is left is the verdict on the trace by the images that the files load
left_as : (trace : List ℕ) (x : Inputs) (images : List Loaded) → images_loaded (map (λ v. v.items) x.images.items) ≡ Some images
    → left_verdict (trace_verdict trace) x ≡ trace_verdict trace x.schedule (disks_of x.disk0 x.disk1) images
left_as trace x images loaded = left_loaded (trace_verdict trace) x images loaded

-- by how the machine starts
judged_at : (s : Start) (b : Bool) → has_started s ≡ true → judged_verdict s b ≡ Does (Judges b)
judged_at (Boots x) b started = refl
judged_at (Overlaps i) b started = absurd (cc)
judged_at (NoRoom i) b started = absurd (cc)

module _ (trace : List ℕ) (x : Inputs) (images : List Loaded) (loaded : images_loaded (map (λ v. v.items) x.images.items) ≡ Some images) (short : length trace ≤ longest_trace) where
  -- how the machine starts
  abbrev own_start : Start
  own_start = boot_on (disks_of x.disk0 x.disk1) images

  -- the trace was judged
  pub judges : (b : Bool) → has_started own_start ≡ true → b ≡ checks (disks_of x.disk0 x.disk1) images x.schedule trace → JudgesTrace trace x (Ok b)
  judges b started is =
      left_as trace x images loaded ∙ trace_short trace x.schedule (disks_of x.disk0 x.disk1) images short
      ∙ ap (judged_verdict own_start) (sym is) ∙ judged_at own_start b started

  refuses_of : (f : NoStart) → RefusesAs own_start f → JudgesTrace trace x (Err (start_refusal f))
  refuses_of (start.Overlaps i) is =
      left_as trace x images loaded ∙ trace_short trace x.schedule (disks_of x.disk0 x.disk1) images short
      ∙ ap (λ s. judged_verdict s (checks (disks_of x.disk0 x.disk1) images x.schedule trace)) is
  refuses_of (start.NoRoom i) is =
      left_as trace x images loaded ∙ trace_short trace x.schedule (disks_of x.disk0 x.disk1) images short
      ∙ ap (λ s. judged_verdict s (checks (disks_of x.disk0 x.disk1) images x.schedule trace)) is
  refuses_of start.NoMemory is = tt

  -- the machine didn't start
  pub refuses : (f : NoStart) (r : Refusal) → r ≡ start_refusal f → RefusesAs own_start f → JudgesTrace trace x (Err r)
  refuses f r is starts = subst (λ (c : Refusal). JudgesTrace trace x (Err c)) (sym is) (refuses_of f starts)

-- ---- the trace in a file

-- with images that have no fault, what is left never is that there is no command
left_keeps : (trace : List ℕ) (x : Inputs) → have_fault (map (λ v. v.items) x.images.items) ≡ false → left_verdict (trace_verdict trace) x ≡ Refuses refusal.Usage → ⊥
left_keeps trace x good is =
    let disks = disks_of x.disk0 x.disk1 in
    let read = left_read (trace_verdict trace) x good in
    later_keeps (trace_verdict trace x.schedule disks read.0) (trace_later trace x.schedule disks read.0) (sym read.1 ∙ is)

-- what was fetched of a trace is judged as the whole
left_fetched : (x : Inputs) (bytes items : List ℕ) → have_fault (map (λ v. v.items) x.images.items) ≡ false → items ≡ take 67108865 bytes
    → left_verdict (trace_verdict bytes) x ≡ left_verdict (trace_verdict items) x
left_fetched x bytes items good fetched =
    let disks = disks_of x.disk0 x.disk1 in
    let read : (trace : List ℕ) → (images : List Loaded) × (left_verdict (trace_verdict trace) x ≡ trace_verdict trace x.schedule disks images) =
    λ trace. left_read (trace_verdict trace) x good in
    elim (cases_fetched bytes items 67108864 fetched) [
      | inl same ↦ ap (λ (b : List ℕ). left_verdict (trace_verdict b) x) same
      | inr long ↦ (let one = read bytes in let other = read items in
          one.1 ∙ trace_long bytes x.schedule disks one.0 long.0 ∙ sym (trace_long items x.schedule disks other.0 long.1) ∙ sym other.1)
    ]

module _ (name : Text) (x : Inputs) (good : have_fault (map (λ v. v.items) x.images.items) ≡ false) where
  -- it wasn't fetched
  pub trace_unfetched : (r : Refusal) (h k : Outside) → Fetches name (Some r) h k → ChecksInputs name x (Err r) h k
  trace_unfetched r h k f =
      let v = left_verdict (trace_verdict (file_bytes (h.file name) [])) x in record {
        unseen = [];
        stage = unfetched_stage v name no_fetches [] r h k (left_keeps (file_bytes (h.file name) []) x good) f;
        judged = tt;
      }

  -- it was, and what is left was carried out
  fetched_then : (items : List ℕ) (result : Result Bool Refusal) (ended : Option Refusal) (h j k : Outside) → IsFetched 67108864 (h.file name) items → Fetches name None h j
      → Stage (left_verdict (trace_verdict items) x) no_fetches [] ended None j k
      → Stage (left_verdict (trace_verdict (file_bytes (h.file name) items)) x) (λ v. name ∷ []) [] ended None h k
  fetched_then items result ended h j k fetched f s =
      let v = left_verdict (trace_verdict items) x in
      stage_as (left_verdict (trace_verdict (file_bytes (h.file name) items)) x) v (λ y. name ∷ []) [] ended None h k (left_fetched x (file_bytes (h.file name) items) items good fetched.front)
      (fetched_stage v name no_fetches [] ended None h j k f s)

  -- it is too long
  pub trace_refused : (items : List ℕ) (h k : Outside) → IsFetched 67108864 (h.file name) items → Fetches name None h k → 67108864 < length items → ChecksInputs name x (Err refusal.TraceTooLong) h k
  trace_refused items h k fetched f long =
      let read = left_read (trace_verdict items) x good in
      let refused : left_verdict (trace_verdict items) x ≡ Refuses refusal.TraceTooLong = read.1 ∙ trace_long items x.schedule (disks_of x.disk0 x.disk1) read.0 long in record {
        unseen = items;
        stage = fetched_then items (Err refusal.TraceTooLong) (Some refusal.TraceTooLong) h k k fetched f (refused_last (left_verdict (trace_verdict items) x) [] refusal.TraceTooLong k refused);
        judged = tt;
      }

  -- why it wasn't judged
  unjudged_stage : (items : List ℕ) (r : Refusal) (k : Outside) → JudgesTrace items x (Err r) → Stage (left_verdict (trace_verdict items) x) no_fetches [] (Some r) None k k
  unjudged_stage items refusal.NoMemory k is = memory_stage (left_verdict (trace_verdict items) x) no_fetches [] k
  unjudged_stage items (refusal.Overlap i) k is = refused_last (left_verdict (trace_verdict items) x) [] (refusal.Overlap i) k is
  unjudged_stage items (refusal.NoRoom i) k is = refused_last (left_verdict (trace_verdict items) x) [] (refusal.NoRoom i) k is
  unjudged_stage items other k is = absurd is

  pub trace_unjudged : (items : List ℕ) (r : Refusal) (h k : Outside) → IsFetched 67108864 (h.file name) items → Fetches name None h k → JudgesTrace items x (Err r) → ChecksInputs name x (Err r) h k
  trace_unjudged items r h k fetched f is = record {
    unseen = items;
    stage = fetched_then items (Err r) (Some r) h k k fetched f (unjudged_stage items r k is);
    judged = tt;
  }

  -- it was judged, and the judgement sent, up to where the host refused it
  sent_stage : (items : List ℕ) (b : Bool) (ended : Option Refusal) (j k : Outside) → JudgesTrace items x (Ok b) → SendsOutput (judgement b) [] ended j k
      → Stage (left_verdict (trace_verdict items) x) no_fetches [] ended None j k
  sent_stage items b ended j k is sends =
      work_stage (left_verdict (trace_verdict items) x) (Judges b) (judgement b) [] ended None j k is refl (λ none. record { written = refl; leaves = refl }) (λ some. refl) sends

  pub trace_judged : (items : List ℕ) (b : Bool) (h j k : Outside) → IsFetched 67108864 (h.file name) items → Fetches name None h j → JudgesTrace items x (Ok b)
      → SendsOutput (judgement b) [] None j k → ChecksInputs name x (Ok b) h k
  trace_judged items b h j k fetched f is sends = record {
    unseen = items;
    stage = fetched_then items (Ok b) None h j k fetched f (sent_stage items b None j k is sends);
    judged = left_fetched x (file_bytes (h.file name) items) items good fetched.front ∙ is;
  }

  pub trace_unsent : (items : List ℕ) (b : Bool) (r : Refusal) (h j k : Outside) → IsFetched 67108864 (h.file name) items → Fetches name None h j → JudgesTrace items x (Ok b)
      → SendsOutput (judgement b) [] (Some r) j k → ChecksInputs name x (Err r) h k
  trace_unsent items b r h j k fetched f is sends = record {
    unseen = items;
    stage = fetched_then items (Err r) (Some r) h j k fetched f (sent_stage items b (Some r) j k is sends);
    judged = tt;
  }

-- a line that was sent is the judgement
pub judgement_sent : (b : Bool) (line : List ℕ) (ended : Option Refusal) (h k : Outside) → line ≡ (judgement b).out → SendsOutput (output_of line None None) [] ended h k
    → SendsOutput (judgement b) [] ended h k
judgement_sent b line ended h k is sends =
    let P : List ℕ → Type 0 = λ bytes. SendsOutput (output_of bytes None None) [] ended h k in
    by b (subst P is sends)
  where
    by : (b : Bool) → SendsOutput (output_of (judgement b).out None None) [] ended h k → SendsOutput (judgement b) [] ended h k
    by true s = s
    by false s = record {
      part = (let p = s.part in record { out = p.out; disk0 = p.disk0; disk1 = p.disk1; image = p.image; text_first = p.text_first; raw_first = p.raw_first });
      whole = λ none. (let w = s.whole none in record { out = w.out; disk0 = w.disk0; disk1 = w.disk1; image = w.image });
      cause = s.cause;
      calls = s.calls;
      keeps = s.keeps;
    }
