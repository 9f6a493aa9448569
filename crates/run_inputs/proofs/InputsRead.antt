-- The inputs, fetched and judged one after another.
use Rattle.std.proofs.Common.{◌≡◌, ◌∙◌, ℕ, List, [], ◌∷◌, ◌++◌, false, map, Option, Some, None, sym, ap}
use Rattle.std.specs.Prelude.{Result, Ok, Err}
use Rattle.command_line.specs.Reading.{Text}
use Rattle.given_disks.specs.Disks.{disks_of}
use Rattle.host_port.specs.Outside.{Outside}
use Rattle.lfs_layout.specs.Images.{opened}
use Rattle.xinu_base.specs.declared.events.Event.{Event}
use Rattle.run_inputs.specs.Fetching.{FetchesFiles, IsOfHost, fetches_due}
use Rattle.run_inputs.specs.InputDisks.{disk_fault, empty_disk0, empty_disk1, raw_fault}
use Rattle.run_inputs.specs.InputFaults.{have_fault, images_loaded}
use Rattle.run_inputs.specs.InputFiles.{InputFiles, Unseen, disk_bytes, file_bytes, held, if_named, image_bytes}
use Rattle.run_inputs.specs.Judging.{Refused, Accepted, disk0_judged, disk1_judged, images_judged}
use Rattle.run_inputs.specs.Reading.{AreJudged, IsAnswer, ReadsDisk, ReadsImages, ReadsInputs, ReadsSchedule, images_left}
use Rattle.run_inputs.specs.declared.inputs.Inputs.{Inputs}
use Rattle.run_inputs.specs.declared.refusals.Refusal.{Refusal}
use Rattle.run_inputs.specs.declared.refusals.Refusal.TheVariants as refusal
use Rattle.run_inputs.proofs.DueFiles.{due_first, due_second, due_third}
use Rattle.run_inputs.proofs.FetchedFiles.{fetched_as, fetched_files, fetched_stopped, fetched_then}
use Rattle.run_inputs.proofs.JudgedFiles.{clean_read, clean_refused, images_read, raw_read, raw_refused, schedule_read, schedule_refused}

-- what a file holds, where it can be observed
abbrev Contents : Type 0
Contents = Text → Option (List ℕ)

-- these bytes for the files of inputs
abbrev unseen_of : List ℕ → List ℕ → List ℕ → (ℕ → List ℕ) → Unseen
unseen_of schedule disk0 disk1 images = record { schedule = schedule; disk0 = disk0; disk1 = disk1; images = images }

module _ (f : InputFiles) (h : Outside) where
  -- the host failed or memory ran out after these files
  stopped : (unseen : Unseen) (made rest : List Text) (cause : Refusal) (k : Outside) → IsOfHost cause → fetches_due f (held f h.file unseen) ≡ made ++ rest → FetchesFiles made (Some cause) h k
      → ReadsInputs f (Err cause) h k
  stopped unseen made rest refusal.HostFault k is due fetches =
      record { unseen = unseen; answers = tt; fetches = fetched_as (made ++ rest) _ (Some refusal.HostFault) h k due (fetched_stopped made rest refusal.HostFault h k is fetches) }
  stopped unseen made rest refusal.NoMemory k is due fetches =
      record { unseen = unseen; answers = tt; fetches = fetched_as (made ++ rest) _ (Some refusal.NoMemory) h k due (fetched_stopped made rest refusal.NoMemory h k is fetches) }
  stopped unseen made rest other k is due fetches = absurd is

  -- ---- the schedule

  -- it wasn't read
  pub schedule_refuses : (cause : Refusal) (k : Outside) → ReadsSchedule f.schedule (Err cause) h k → ReadsInputs f (Err cause) h k
  schedule_refuses (refusal.Schedule l) k s =
      let unseen = unseen_of s.unseen [] [] (λ i. []) in
      let is : held f h.file unseen ≡ Refused (refusal.Schedule l) =
      schedule_refused (file_bytes (h.file f.schedule) s.unseen) l (disk_bytes f.disk0 empty_disk0 h.file []) (disk_bytes f.disk1 empty_disk1 h.file []) (image_bytes 1 f.images h.file (λ i. [])) s.answers in
      record { unseen = unseen; answers = is; fetches = fetched_as (f.schedule ∷ []) _ (Some (refusal.Schedule l)) h k (ap (fetches_due f) is) s.fetches }
  schedule_refuses refusal.HostFault k s =
      let unseen = unseen_of s.unseen [] [] (λ i. []) in
      let due = due_first f (held f h.file unseen) in stopped unseen (f.schedule ∷ []) due.0 refusal.HostFault k tt due.1 s.fetches
  schedule_refuses refusal.NoMemory k s =
      let unseen = unseen_of s.unseen [] [] (λ i. []) in
      let due = due_first f (held f h.file unseen) in stopped unseen (f.schedule ∷ []) due.0 refusal.NoMemory k tt due.1 s.fetches
  schedule_refuses other k s = absurd s.answers

  module _ (events : List Event) (i : Outside) (s : ReadsSchedule f.schedule (Ok events) h i) where
    -- it was read
    schedule_goes : (u0 u1 : List ℕ) (images : ℕ → List ℕ)
        → held f h.file (unseen_of s.unseen u0 u1 images) ≡ disk0_judged events (disk_bytes f.disk0 empty_disk0 h.file u0) (disk_bytes f.disk1 empty_disk1 h.file u1) (image_bytes 1 f.images h.file images)
    schedule_goes u0 u1 images =
        schedule_read (file_bytes (h.file f.schedule) s.unseen) events (disk_bytes f.disk0 empty_disk0 h.file u0) (disk_bytes f.disk1 empty_disk1 h.file u1) (image_bytes 1 f.images h.file images) s.answers

    -- ---- the raw disk

    -- the files up to it
    abbrev up_to_raw : List Text
    up_to_raw = (f.schedule ∷ []) ++ if_named f.disk0

    raw_stopped : (cause : Refusal) (j : Outside) (u0 : List ℕ) → IsOfHost cause → FetchesFiles up_to_raw (Some cause) h j → ReadsInputs f (Err cause) h j
    raw_stopped cause j u0 is fetches =
        let unseen = unseen_of s.unseen u0 [] (λ n. []) in
        let due = due_second f (held f h.file unseen) events (disk_bytes f.disk0 empty_disk0 h.file u0) (disk_bytes f.disk1 empty_disk1 h.file []) (image_bytes 1 f.images h.file (λ n. [])) (schedule_goes u0 [] (λ n. [])) in
        stopped unseen up_to_raw due.0 cause j is due.1 fetches

    -- it wasn't read
    pub raw_refuses : (cause : Refusal) (j : Outside) → ReadsDisk 0 raw_fault (λ d. d) empty_disk0 f.disk0 (Err cause) i j → ReadsInputs f (Err cause) h j
    raw_refuses (refusal.Disk d b r) j raw =
        let unseen = unseen_of s.unseen raw.unseen [] (λ n. []) in
        let own : raw_fault (disk_bytes f.disk0 empty_disk0 h.file raw.unseen) ≡ Some (record { block = b; rule = r }) =
        ap (λ (file : Contents). raw_fault (disk_bytes f.disk0 empty_disk0 file raw.unseen)) (sym (fetched_files (f.schedule ∷ []) None h i s.fetches)) ∙ raw.answers.1 in
        let is : held f h.file unseen ≡ Refused (refusal.Disk d b r) =
        schedule_goes raw.unseen [] (λ n. [])
        ∙ raw_refused events (image_bytes 1 f.images h.file (λ n. [])) (disk_bytes f.disk0 empty_disk0 h.file raw.unseen) (disk_bytes f.disk1 empty_disk1 h.file []) (record { block = b; rule = r }) own
        ∙ ap (λ n. Refused (refusal.Disk n b r)) (sym raw.answers.0) in
        let due : fetches_due f (held f h.file unseen) ≡ up_to_raw = ap (fetches_due f) is ∙ ap (λ n. fetches_due f (Refused (refusal.Disk n b r))) raw.answers.0 in
        record {
          unseen = unseen;
          answers = is;
          fetches = fetched_as up_to_raw _ (Some (refusal.Disk d b r)) h j due (fetched_then (f.schedule ∷ []) (if_named f.disk0) (Some (refusal.Disk d b r)) h i j s.fetches raw.fetches);
        }
    raw_refuses refusal.HostFault j raw = raw_stopped refusal.HostFault j raw.unseen tt (fetched_then (f.schedule ∷ []) (if_named f.disk0) (Some refusal.HostFault) h i j s.fetches raw.fetches)
    raw_refuses refusal.NoMemory j raw = raw_stopped refusal.NoMemory j raw.unseen tt (fetched_then (f.schedule ∷ []) (if_named f.disk0) (Some refusal.NoMemory) h i j s.fetches raw.fetches)
    raw_refuses other j raw = absurd raw.answers

    module _ (disk0 : List ℕ) (j : Outside) (raw : ReadsDisk 0 raw_fault (λ d. d) empty_disk0 f.disk0 (Ok disk0) i j) where
      to_raw : FetchesFiles up_to_raw None h j
      to_raw = fetched_then (f.schedule ∷ []) (if_named f.disk0) None h i j s.fetches raw.fetches

      -- it was read
      raw_goes : (u1 : List ℕ) (images : ℕ → List ℕ)
          → held f h.file (unseen_of s.unseen raw.unseen u1 images) ≡ disk1_judged events disk0 (disk_bytes f.disk1 empty_disk1 h.file u1) (image_bytes 1 f.images h.file images)
      raw_goes u1 images =
          let bytes = disk_bytes f.disk0 empty_disk0 h.file raw.unseen in
          let same : bytes ≡ disk_bytes f.disk0 empty_disk0 i.file raw.unseen =
          ap (λ (file : Contents). disk_bytes f.disk0 empty_disk0 file raw.unseen) (sym (fetched_files (f.schedule ∷ []) None h i s.fetches)) in
          schedule_goes raw.unseen u1 images
          ∙ raw_read events (image_bytes 1 f.images h.file images) bytes (disk_bytes f.disk1 empty_disk1 h.file u1) (ap raw_fault same ∙ raw.answers.0)
          ∙ ap (λ d. disk1_judged events d (disk_bytes f.disk1 empty_disk1 h.file u1) (image_bytes 1 f.images h.file images)) (same ∙ sym raw.answers.1)

      -- ---- the disk with files

      -- the files up to it
      abbrev up_to_clean : List Text
      up_to_clean = up_to_raw ++ if_named f.disk1

      -- the files that are due
      due_clean : (u1 : List ℕ) (images : ℕ → List ℕ)
          → fetches_due f (held f h.file (unseen_of s.unseen raw.unseen u1 images)) ≡ up_to_clean ++ images_left 0 f.images (held f h.file (unseen_of s.unseen raw.unseen u1 images))
      due_clean u1 images =
          due_third f (held f h.file (unseen_of s.unseen raw.unseen u1 images)) events disk0 (disk_bytes f.disk1 empty_disk1 h.file u1) (image_bytes 1 f.images h.file images) (raw_goes u1 images)

      clean_stopped : (cause : Refusal) (k : Outside) (u1 : List ℕ) → IsOfHost cause → FetchesFiles up_to_clean (Some cause) h k → ReadsInputs f (Err cause) h k
      clean_stopped cause k u1 is fetches =
          stopped (unseen_of s.unseen raw.unseen u1 (λ n. [])) up_to_clean _ cause k is (due_clean u1 (λ n. [])) fetches

      -- it wasn't read
      pub clean_refuses : (cause : Refusal) (k : Outside) → ReadsDisk 1 disk_fault opened empty_disk1 f.disk1 (Err cause) j k → ReadsInputs f (Err cause) h k
      clean_refuses (refusal.Disk d b r) k clean =
          let unseen = unseen_of s.unseen raw.unseen clean.unseen (λ n. []) in
          let own : disk_fault (disk_bytes f.disk1 empty_disk1 h.file clean.unseen) ≡ Some (record { block = b; rule = r }) =
          ap (λ (file : Contents). disk_fault (disk_bytes f.disk1 empty_disk1 file clean.unseen)) (sym (fetched_files up_to_raw None h j to_raw)) ∙ clean.answers.1 in
          let is : held f h.file unseen ≡ Refused (refusal.Disk 1 b r) =
          raw_goes clean.unseen (λ n. []) ∙ clean_refused events (image_bytes 1 f.images h.file (λ n. [])) disk0 (disk_bytes f.disk1 empty_disk1 h.file clean.unseen) (record { block = b; rule = r }) own in
          record {
            unseen = unseen;
            answers = is ∙ ap (λ n. Refused (refusal.Disk n b r)) (sym clean.answers.0);
            fetches = fetched_as up_to_clean _ (Some (refusal.Disk d b r)) h k (ap (fetches_due f) is) (fetched_then up_to_raw (if_named f.disk1) (Some (refusal.Disk d b r)) h j k to_raw clean.fetches);
          }
      clean_refuses refusal.HostFault k clean = clean_stopped refusal.HostFault k clean.unseen tt (fetched_then up_to_raw (if_named f.disk1) (Some refusal.HostFault) h j k to_raw clean.fetches)
      clean_refuses refusal.NoMemory k clean = clean_stopped refusal.NoMemory k clean.unseen tt (fetched_then up_to_raw (if_named f.disk1) (Some refusal.NoMemory) h j k to_raw clean.fetches)
      clean_refuses other k clean = absurd clean.answers

      module _ (disk1 : List ℕ) (k : Outside) (clean : ReadsDisk 1 disk_fault opened empty_disk1 f.disk1 (Ok disk1) j k) where
        to_clean : FetchesFiles up_to_clean None h k
        to_clean = fetched_then up_to_raw (if_named f.disk1) None h j k to_raw clean.fetches

        -- it was read
        clean_goes : (images : ℕ → List ℕ)
            → held f h.file (unseen_of s.unseen raw.unseen clean.unseen images) ≡ images_judged 1 (image_bytes 1 f.images k.file images) (Accepted events (disks_of disk0 disk1))
        clean_goes images =
            let bytes = disk_bytes f.disk1 empty_disk1 h.file clean.unseen in
            let same : bytes ≡ disk_bytes f.disk1 empty_disk1 j.file clean.unseen =
            ap (λ (file : Contents). disk_bytes f.disk1 empty_disk1 file clean.unseen) (sym (fetched_files up_to_raw None h j to_raw)) in
            raw_goes clean.unseen images ∙ clean_read events (image_bytes 1 f.images h.file images) disk0 bytes (ap disk_fault same ∙ clean.answers.0)
            ∙ ap (λ d. images_judged 1 (image_bytes 1 f.images h.file images) (Accepted events (disks_of disk0 d))) (ap opened same ∙ sym clean.answers.1)
            ∙ ap (λ (file : Contents). images_judged 1 (image_bytes 1 f.images file images) (Accepted events (disks_of disk0 disk1))) (sym (fetched_files up_to_clean None h k to_clean))

        module _ {T : Type 0} (files : T → List (List ℕ)) where
          -- ---- the images

          -- the files that were fetched
          all_fetched : (result : Result T Refusal) (ended : Option Refusal) (l : Outside) (images : ℕ → List ℕ)
              → FetchesFiles (images_left 0 f.images (images_judged 1 (image_bytes 1 f.images k.file images) (Accepted events (disks_of disk0 disk1)))) ended k l
              → FetchesFiles (fetches_due f (held f h.file (unseen_of s.unseen raw.unseen clean.unseen images))) ended h l
          all_fetched result ended l images fetches =
              fetched_as _ _ ended h l (due_clean clean.unseen images ∙ ap (λ j. up_to_clean ++ images_left 0 f.images j) (clean_goes images))
              (fetched_then up_to_clean _ ended h k l to_clean fetches)

          image_answer : (cause : Refusal) (images : ℕ → List ℕ) → AreJudged files [] (image_bytes 1 f.images k.file images) (Err cause)
              → IsAnswer (held f h.file (unseen_of s.unseen raw.unseen clean.unseen images)) (Err cause)
          image_answer (refusal.Image n fault) images answers = clean_goes images ∙ answers (Accepted events (disks_of disk0 disk1))
          image_answer refusal.HostFault images answers = tt
          image_answer refusal.NoMemory images answers = tt
          image_answer other images answers = absurd answers

          -- they weren't read
          pub images_refuse : (cause : Refusal) (l : Outside) → ReadsImages files [] f.images (Err cause) k l → ReadsInputs f (Err cause) h l
          images_refuse cause l read = record {
            unseen = unseen_of s.unseen raw.unseen clean.unseen read.unseen;
            answers = image_answer cause read.unseen read.answers;
            fetches = all_fetched (Err cause) (Some cause) l read.unseen (read.fetches (Accepted events (disks_of disk0 disk1)) (λ images. tt));
          }

          -- all was read
          pub inputs_read : (z : T) (inputs : Inputs) (l : Outside) → ReadsImages files [] f.images (Ok z) k l → have_fault (files z) ≡ false → inputs.schedule ≡ events
              → inputs.disk0 ≡ disk0 → inputs.disk1 ≡ disk1 → map (λ v. v.items) inputs.images.items ≡ files z → ReadsInputs f (Ok inputs) h l
          inputs_read z inputs l read good is_events is_disk0 is_disk1 is_images =
              let loaded = images_read 1 (files z) (Accepted events (disks_of disk0 disk1)) good in record {
                unseen = unseen_of s.unseen raw.unseen clean.unseen read.unseen;
                answers = record {
                  images = loaded.0;
                  loads = ap images_loaded is_images ∙ loaded.1.0;
                  accepted =
                      clean_goes read.unseen ∙ ap (λ bs. images_judged 1 bs (Accepted events (disks_of disk0 disk1))) (sym read.answers) ∙ loaded.1.1
                      ∙ ap (λ es. Accepted es (disks_of disk0 disk1) loaded.0) (sym is_events)
                      ∙ ap (λ d. Accepted inputs.schedule (disks_of d disk1) loaded.0) (sym is_disk0)
                      ∙ ap (λ d. Accepted inputs.schedule (disks_of inputs.disk0 d) loaded.0) (sym is_disk1);
                };
                fetches = all_fetched (Ok z) None l read.unseen (read.fetches (Accepted events (disks_of disk0 disk1)) (λ images. tt));
              }
