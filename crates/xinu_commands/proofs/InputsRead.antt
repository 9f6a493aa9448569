-- The inputs of a command were read, and then what is left is carried out.
use Rattle.std.proofs.Common.{◌≡◌, ◌≢◌, ◌∙◌, ◌+◌, ℕ, arith, false, List, [], ◌∷◌, ◌++◌, length, map, take, Option, Some, None, refl, sym, ap, subst, append_assoc, append-nil}
use Rattle.std.proofs.Math.Seq.{take-append-add}
use Rattle.std.proofs.lemmas.List.{length-append, length-map, map-append}
use Rattle.std.specs.Prelude.{Ok, Err}
use Rattle.command_line.specs.Reading.{Text}
use Rattle.given_disks.specs.Disks.{disks_of}
use Rattle.host_port.proofs.Prints.{grown-grown}
use Rattle.host_port.specs.Outside.{Outside, HostCall, fetching, grown}
use Rattle.run_inputs.proofs.GoodImages.{good_images}
use Rattle.run_inputs.specs.Fetching.{FetchesFiles, IsDecided, disks_up_to, fetches_due}
use Rattle.run_inputs.specs.InputDisks.{empty_disk0, empty_disk1}
use Rattle.run_inputs.specs.InputFaults.{have_fault, images_loaded}
use Rattle.run_inputs.specs.InputFiles.{InputFiles, Unseen, disk_bytes, file_bytes, held, image_bytes}
use Rattle.run_inputs.specs.Judging.{Judged, Refused, Accepted}
use Rattle.run_inputs.specs.Reading.{IsAnswer, ReadsInputs}
use Rattle.run_inputs.specs.declared.inputs.Inputs.{Inputs}
use Rattle.run_inputs.specs.declared.refusals.Refusal.{Refusal}
use Rattle.run_inputs.specs.declared.refusals.Refusal.TheVariants as refusal
use Rattle.xinu_base.specs.declared.events.Event.{Event}
use Rattle.xinu_model.specs.Boot.{Disks, Loaded}
use Rattle.xinu_commands.specs.Calls.{due_by, input_fetches, unless_refused}
use Rattle.xinu_commands.specs.InputVerdict.{IsLater, Next, after_judged, left_verdict}
use Rattle.xinu_commands.specs.Stages.{Stage}
use Rattle.xinu_commands.specs.Theorem.{Deserved, HasCalled, IsUnsent}
use Rattle.xinu_commands.specs.Verdict.{Input, ScheduleInput, Disk0Input, Disk1Input, ImageInput, TraceInput, DiskInput, SourceInput, held_verdict}
use Rattle.xinu_commands.specs.Work.{Does, Left, Refuses, Verdict, if_some}
use Rattle.xinu_commands.proofs.Answered.{fetches_unsent}
use Rattle.xinu_commands.proofs.Called.{keeps_both}
use Rattle.xinu_commands.proofs.Carried.{carries_nothing, carries_within, unsent_both, unsent_refl}
use Rattle.xinu_commands.proofs.Fetched.{keeps}
use Rattle.xinu_commands.proofs.Files.{inputs_keep}
use Rattle.xinu_commands.proofs.Staged.{stage_as}

-- these bytes for the files of inputs
abbrev pub unseen_by : Unseen → Input → List ℕ
unseen_by u ScheduleInput = u.schedule
unseen_by u Disk0Input = u.disk0
unseen_by u Disk1Input = u.disk1
unseen_by u (ImageInput i) = u.images i
unseen_by u TraceInput = []
unseen_by u DiskInput = []
unseen_by u SourceInput = []

-- What comes after the inputs is no refusal of one.
abbrev IsAfterInputs : Next → Type 0
IsAfterInputs next = (events : List Event) (disks : Disks) (images : List Loaded) → IsLater (next events disks images)

-- ---- what is deserved by inputs that were read

-- the verdict on inputs that were read is that on the images that their files load
pub left_loaded : (next : Next) (x : Inputs) (images : List Loaded) → images_loaded (map (λ v. v.items) x.images.items) ≡ Some images
    → left_verdict next x ≡ next x.schedule (disks_of x.disk0 x.disk1) images
left_loaded next x images loaded = ap (λ o. if_some refusal.NoMemory o (next x.schedule (disks_of x.disk0 x.disk1))) loaded

-- files without a fault load
pub left_read : (next : Next) (x : Inputs) → have_fault (map (λ v. v.items) x.images.items) ≡ false
    → (images : List Loaded) × (left_verdict next x ≡ next x.schedule (disks_of x.disk0 x.disk1) images)
left_read next x good =
    let images = good_images (map (λ v. v.items) x.images.items) good in (images.0, left_loaded next x images.0 images.1)

-- What is carried out with the images that the files load carries out what is left of the inputs.
pub images_carry : (next : Next) (x : Inputs) (images : List Loaded) (fetches : Verdict → List Text) (outputs : List HostCall) (ended : Option Refusal) (left : Option Left) (h k : Outside)
    → images_loaded (map (λ v. v.items) x.images.items) ≡ Some images → Stage (next x.schedule (disks_of x.disk0 x.disk1) images) fetches outputs ended left h k
    → Stage (left_verdict next x) fetches outputs ended left h k
images_carry next x images fetches outputs ended left h k loaded stage =
    stage_as (left_verdict next x) (next x.schedule (disks_of x.disk0 x.disk1) images) fetches outputs ended left h k (left_loaded next x images loaded) stage

-- ---- the calls

-- the calls of the first files
taken : (made : List Text) (more : List HostCall) → take (length made) (map fetching made ++ more) ≡ map fetching made
taken [] more = refl
taken (x ∷ made) more = ap (λ calls. fetching x ∷ calls) (taken made more)

-- of the files that are due the first were fetched, and then it was refused
called_part : (names made rest : List Text) (outputs : List HostCall) (r : Refusal) (h k : Outside) → names ≡ made ++ rest → k.calls ≡ grown h.calls (map fetching made) → IsUnsent h k
    → (IsDecided (Some r) → (rest ≡ []) × (outputs ≡ [])) → HasCalled (record { fetches = names; outputs = outputs }) (Some r) h k
called_part names made rest outputs r h k parts made_calls unsent all =
    let split : map fetching names ++ outputs ≡ map fetching made ++ (map fetching rest ++ outputs) =
    ap (λ (xs : List Text). map fetching xs ++ outputs) parts ∙ ap (λ (xs : List HostCall). xs ++ outputs) (map-append fetching made rest)
    ∙ append_assoc (map fetching made) (map fetching rest) outputs in record {
      count = length made;
      first = made_calls ∙ ap (grown h.calls) (sym (ap (take (length made)) split ∙ taken made (map fetching rest ++ outputs)));
      all = λ decided.
          let none = all decided in
          made_calls ∙ ap (grown h.calls) (sym (split ∙ ap (λ (xs : List Text). map fetching made ++ (map fetching xs ++ outputs)) none.0
          ∙ ap (λ (xs : List HostCall). map fetching made ++ xs) none.1 ∙ append-nil (map fetching made)));
      unsent = λ few. unsent;
    }

-- some files were fetched, and then the next stage made its calls
called_then : (names fetches : List Text) (outputs : List HostCall) (ended : Option Refusal) (h j k : Outside) → IsUnsent h j → j.calls ≡ grown h.calls (map fetching names)
    → HasCalled (record { fetches = fetches; outputs = outputs }) ended j k → HasCalled (record { fetches = names ++ fetches; outputs = outputs }) ended h k
called_then names fetches outputs ended h j k unsent made second =
    let one = map fetching names in
    let rest = map fetching fetches ++ outputs in
    let split : map fetching (names ++ fetches) ++ outputs ≡ one ++ rest =
    ap (λ (xs : List HostCall). xs ++ outputs) (map-append fetching names fetches) ∙ append_assoc one (map fetching fetches) outputs in
    let size : length one ≡ length names = length-map names fetching in
    let sizes : length (names ++ fetches) ≡ length names + length fetches = length-append names fetches in record {
      count = length one + second.count;
      first =
          second.first ∙ ap (λ (o : Option (List HostCall)). grown o (take second.count rest)) made ∙ grown-grown h.calls one (take second.count rest)
          ∙ ap (grown h.calls) (sym (ap (take (length one + second.count)) split ∙ take-append-add one rest second.count));
      all = λ decided.
          second.all decided ∙ ap (λ (o : Option (List HostCall)). grown o rest) made ∙ grown-grown h.calls one rest ∙ ap (grown h.calls) (sym split);
      unsent = λ few. unsent_both h j k unsent (second.unsent (omega (arith, few, size, sizes)));
    }

module _ (f : InputFiles) (next : Next) (after : List Text) (later : IsAfterInputs next) where
  -- ---- the files that are due

  -- after the inputs the others are fetched
  due_later : (v : Verdict) → IsLater v → input_fetches f after v ≡ (f.schedule ∷ disks_up_to 1 f ++ f.images) ++ after
  due_later (Refuses refusal.Usage) is = absurd is
  due_later (Refuses (refusal.Schedule l)) is = absurd is
  due_later (Refuses (refusal.Disk d b r)) is = absurd is
  due_later (Refuses (refusal.Image i x)) is = absurd is
  due_later (Refuses other) is = refl
  due_later (Does work) is = refl

  -- the files of the inputs come first
  due_more : (j : Judged) → (more : List Text) × (input_fetches f after (after_judged next j) ≡ fetches_due f j ++ more)
  due_more (Refused (refusal.Schedule l)) = ([], refl)
  due_more (Refused (refusal.Disk d b r)) = ([], sym (append-nil (f.schedule ∷ disks_up_to d f)))
  due_more (Refused (refusal.Image i x)) = ([], sym (append-nil (f.schedule ∷ disks_up_to 1 f ++ take i f.images)))
  due_more (Refused other) = (after, refl)
  due_more (Accepted events disks images) = (after, due_later (next events disks images) (later events disks images))

  held_keeps : (file : Text → Option (List ℕ)) (u : Unseen) → after_judged next (held f file u) ≢ Refuses refusal.Usage
  held_keeps file u =
      inputs_keep next later (file_bytes (file f.schedule) u.schedule) (disk_bytes f.disk0 empty_disk0 file u.disk0) (disk_bytes f.disk1 empty_disk1 file u.disk1) (image_bytes 1 f.images file u.images)

  -- ---- the inputs weren't read

  refused_deserved : (j : Judged) (cause : Refusal) (h k : Outside) → after_judged next j ≢ Refuses refusal.Usage → IsAnswer j (Err cause) → FetchesFiles (fetches_due f j) (Some cause) h k
      → Deserved (after_judged next j) (Some cause) h k
  refused_deserved j (refusal.Schedule l) h k keeps answers fetches = ap (after_judged next) answers
  refused_deserved j (refusal.Disk d b r) h k keeps answers fetches = ap (after_judged next) answers
  refused_deserved j (refusal.Image i x) h k keeps answers fetches = ap (after_judged next) answers
  refused_deserved j refusal.HostFault h k keeps answers fetches = (keeps, fetches.failed refl)
  refused_deserved j refusal.NoMemory h k keeps answers fetches = tt
  refused_deserved j other h k keeps answers fetches = absurd answers

  -- it was decided by the inputs
  decided_called : (j : Judged) (cause : Refusal) (outputs : List HostCall) (h k : Outside) → IsDecided (Some cause) → j ≡ Refused cause
      → input_fetches f after (Refuses cause) ≡ fetches_due f (Refused cause) → FetchesFiles (fetches_due f j) (Some cause) h k → IsUnsent h k
      → HasCalled (due_by (input_fetches f after) outputs (after_judged next j)) (Some cause) h k
  decided_called j cause outputs h k decided is same fetches unsent =
      let P : Judged → Type 0 = λ x. HasCalled (due_by (input_fetches f after) outputs (after_judged next x)) (Some cause) h k in
      let parts : input_fetches f after (Refuses cause) ≡ fetches.made ++ fetches.rest = same ∙ ap (fetches_due f) (sym is) ∙ fetches.parts in
      subst P (sym is) (called_part (input_fetches f after (Refuses cause)) fetches.made fetches.rest [] cause h k parts (ap (λ (x : Outside). x.calls) fetches.only) unsent
      (λ d. (fetches.all d, refl)))

  -- the host failed or memory ran out
  host_called : (j : Judged) (cause : Refusal) (outputs : List HostCall) (h k : Outside) → (IsDecided (Some cause) → ⊥) → FetchesFiles (fetches_due f j) (Some cause) h k → IsUnsent h k
      → HasCalled (due_by (input_fetches f after) outputs (after_judged next j)) (Some cause) h k
  host_called j cause outputs h k never fetches unsent =
      let v = after_judged next j in
      let more = due_more j in
      called_part (input_fetches f after v) fetches.made (fetches.rest ++ more.0) (unless_refused v outputs) cause h k
      (more.1 ∙ ap (λ (xs : List Text). xs ++ more.0) fetches.parts ∙ append_assoc fetches.made fetches.rest more.0) (ap (λ (x : Outside). x.calls) fetches.only) unsent
      (λ decided. absurd (never decided))

  refused_called : (j : Judged) (cause : Refusal) (outputs : List HostCall) (h k : Outside) → IsAnswer j (Err cause) → FetchesFiles (fetches_due f j) (Some cause) h k → IsUnsent h k
      → HasCalled (due_by (input_fetches f after) outputs (after_judged next j)) (Some cause) h k
  refused_called j (refusal.Schedule l) outputs h k answers fetches unsent = decided_called j (refusal.Schedule l) outputs h k tt answers refl fetches unsent
  refused_called j (refusal.Disk d b r) outputs h k answers fetches unsent = decided_called j (refusal.Disk d b r) outputs h k tt answers refl fetches unsent
  refused_called j (refusal.Image i x) outputs h k answers fetches unsent = decided_called j (refusal.Image i x) outputs h k tt answers refl fetches unsent
  refused_called j refusal.HostFault outputs h k answers fetches unsent = host_called j refusal.HostFault outputs h k (λ decided. decided) fetches unsent
  refused_called j refusal.NoMemory outputs h k answers fetches unsent = host_called j refusal.NoMemory outputs h k (λ decided. decided) fetches unsent
  refused_called j other outputs h k answers fetches unsent = absurd answers

  -- Inputs that weren't read end the command.
  pub inputs_refuse : (cause : Refusal) (outputs : List HostCall) (h k : Outside) (reads : ReadsInputs f (Err cause) h k)
      → Stage (held_verdict next f h.file (unseen_by reads.unseen)) (input_fetches f after) outputs (Some cause) None h k
  inputs_refuse cause outputs h k reads =
      let j = held f h.file reads.unseen in
      let fetches = reads.fetches in
      let unsent = fetches_unsent h k fetches.made k.faults fetches.only in record {
        carries = carries_nothing (after_judged next j) cause h k (refused_deserved j cause h k (held_keeps h.file reads.unseen) reads.answers fetches) unsent;
        calls = refused_called j cause outputs h k reads.answers fetches unsent;
        keeps = keeps h k (map fetching fetches.made) fetches.only fetches.later;
      }

  -- ---- the inputs were read

  module _ (x : Inputs) (h j : Outside) (reads : ReadsInputs f (Ok x) h j) where
    -- what is left is by what was read
    pub inputs_as : held_verdict next f h.file (unseen_by reads.unseen) ≡ left_verdict next x
    inputs_as = ap (after_judged next) reads.answers.accepted ∙ sym (left_loaded next x reads.answers.images reads.answers.loads)

    -- Whatever carries out the rest completes the whole.
    pub inputs_then : (outputs : List HostCall) (ended : Option Refusal) (left : Option Left) (k : Outside) → Stage (left_verdict next x) (λ v. after) outputs ended left j k
        → Stage (held_verdict next f h.file (unseen_by reads.unseen)) (input_fetches f after) outputs ended left h k
    inputs_then outputs ended left k s =
        let fetches = reads.fetches in
        let w = left_verdict next x in
        let images = reads.answers.images in
        let disks = disks_of x.disk0 x.disk1 in
        let is_later : IsLater w = subst IsLater (sym (left_loaded next x images reads.answers.loads)) (later x.schedule disks images) in
        let unsent = fetches_unsent h j fetches.made j.faults fetches.only in
        let all = f.schedule ∷ disks_up_to 1 f ++ f.images in
        let whole : all ≡ fetches.made = sym (ap (fetches_due f) reads.answers.accepted) ∙ fetches.parts ∙ ap (λ (rest : List Text). fetches.made ++ rest) (fetches.all tt) ∙ append-nil fetches.made in
        let made : j.calls ≡ grown h.calls (map fetching all) = ap (λ (y : Outside). y.calls) fetches.only ∙ ap (λ (names : List Text). grown h.calls (map fetching names)) (sym whole) in
        let P : List Text → Type 0 = λ names. HasCalled (record { fetches = names; outputs = unless_refused w outputs }) ended h k in
        stage_as (held_verdict next f h.file (unseen_by reads.unseen)) w (input_fetches f after) outputs ended left h k inputs_as (record {
          carries = carries_within w ended left h j k k unsent fetches.later (unsent_refl k) (omega arith) s.carries;
          calls = subst P (sym (due_later w is_later)) (called_then all after (unless_refused w outputs) ended h j k unsent made s.calls);
          keeps = keeps_both h j k (keeps h j (map fetching fetches.made) fetches.only fetches.later) s.keeps;
        })
