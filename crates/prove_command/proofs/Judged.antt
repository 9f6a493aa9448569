-- What becomes of files, put together of what becomes of their images.
use Rattle.std.proofs.Common.{◌≡◌, ◌≢◌, ◌∙◌, ℕ, arith, List, None, Option, Some, inl, inr, refl, sym, subst}
use Rattle.std.specs.Prelude.{Err, IfErr, IfOk, Ok, Result}
use Rattle.host_port.specs.Outside.{Outside}
use Rattle.kernel_boot.specs.Boots.{BootsAs}
use Rattle.kernel_boot.specs.declared.initialize.BootFault.{BootFault}
use Rattle.kernel_boot.specs.declared.initialize.BootFault.TheVariants as fault
use Rattle.program_logic.specs.declared.outline.Lock.{Lock}
use Rattle.run_inputs.specs.Conversions.{boot_refusal}
use Rattle.run_inputs.specs.declared.refusals.Refusal.{Refusal}
use Rattle.run_inputs.specs.declared.refusals.Refusal.TheVariants as refusal
use Rattle.xinu_model.specs.Boot.{Boots, Disks, Loaded, NoRoom, Overlaps, Start, and_then, boot, boot_on, on_disks}
use Rattle.xinu_model.specs.Machine.{Xinu}
use Rattle.prove_command.specs.Named.{AreLoaded}
use Rattle.prove_command.specs.Proved.{IsProved}
use Rattle.run_inputs.specs.Fetching.{FetchesFiles, IsOfHost}
use Rattle.prove_command.specs.Named.{AreFetched}
use Rattle.prove_command.specs.Theorem.{AreAnswered, AreRefused, AreUnbooted, Carries, Continues, IsImageFault, IsUnsent, Judges, Obeys, ProvesAsked, Sends, Tells}
use Rattle.proof_words.specs.Words.{Asked, asked}
use Rattle.prove_command.specs.Named.{IsProvedOf}
use Rattle.run_inputs.specs.Refusals.{status_of}

-- images that don't boot on some disks don't boot
overlaps_first : (disks : Disks) (images : List Loaded) (i : ℕ) → boot_on disks images ≡ Overlaps i → boot images ≡ Overlaps i
overlaps_first disks images i is = by (boot images) refl is
  where
    by : (x : Start) → boot images ≡ x → and_then x (λ y. Boots (on_disks disks y)) ≡ Overlaps i → boot images ≡ Overlaps i
    by (Boots y) e is = absurd (cc)
    by (Overlaps j) e is = e ∙ is
    by (NoRoom j) e is = absurd (cc)

no_room_first : (disks : Disks) (images : List Loaded) (i : ℕ) → boot_on disks images ≡ NoRoom i → boot images ≡ NoRoom i
no_room_first disks images i is = by (boot images) refl is
  where
    by : (x : Start) → boot images ≡ x → and_then x (λ y. Boots (on_disks disks y)) ≡ NoRoom i → boot images ≡ NoRoom i
    by (Boots y) e is = absurd (cc)
    by (Overlaps j) e is = absurd (cc)
    by (NoRoom j) e is = e ∙ is

pub unbooted : (disks : Disks) (images : List Loaded) (f : BootFault) (r : Refusal) → BootsAs disks images (Err f) → r ≡ boot_refusal f → AreUnbooted images r
unbooted disks images f r boots is = subst (AreUnbooted images) (sym is) (by f boots)
  where
    by : (x : BootFault) → BootsAs disks images (Err x) → AreUnbooted images (boot_refusal x)
    by (fault.Overlap i) boots = overlaps_first disks images i boots
    by (fault.NoRoom i) boots = no_room_first disks images i boots
    by fault.NoMemory boots = tt

pub answered_in : (l : Lock) (files : List (List ℕ)) (images : List Loaded) (status : ℕ) → AreLoaded files images
    → (start : Xinu) × (boot images ≡ Boots start) → (status ≡ 0 → IsProved l images) → AreAnswered l files status
answered_in l files images status loaded boots proved = record {
  boot = record { images = images; loaded = loaded; start = boots.0; boots = boots.1 };
  proved = λ zero_status. record { images = images; loaded = loaded; proved = proved zero_status };
}

pub unbooted_in : (files : List (List ℕ)) (images : List Loaded) (cause : Refusal) → AreLoaded files images → AreUnbooted images cause → AreRefused files cause
unbooted_in files images (refusal.Overlap i) loaded is = record { images = images; loaded = loaded; overlaps = is }
unbooted_in files images (refusal.NoRoom i) loaded is = record { images = images; loaded = loaded; no_room = is }
unbooted_in files images refusal.NoMemory loaded is = tt
unbooted_in files images _ loaded is = absurd is

pub faulty_in : (files : List (List ℕ)) (cause : Refusal) → IsImageFault files cause → AreRefused files cause
faulty_in files (refusal.Image i f) is = is
faulty_in files refusal.NoMemory is = tt
faulty_in files _ is = absurd is

pub judged_refused : (a : Asked) (files : List (List ℕ)) (cause : Refusal) (h : Outside) → AreRefused files cause → Judges a files (Err cause) h h
judged_refused a files (refusal.Image i f) h is = (is, refl)
judged_refused a files (refusal.Overlap i) h is = (is, refl)
judged_refused a files (refusal.NoRoom i) h is = (is, refl)
judged_refused a files refusal.NoMemory h is = inl refl
judged_refused a files _ h is = absurd is

pub judged_unsent : (a : Asked) (files : List (List ℕ)) (status : ℕ) (cause : Refusal) (old new : Outside) → AreAnswered a.lock files status
    → IsUnsent cause old new → Judges a files (Err cause) old new
judged_unsent a files status refusal.HostFault old new answered is = (answered.boot, is)
judged_unsent a files status refusal.NoMemory old new answered is = is
judged_unsent a files status _ old new answered is = absurd is

pub judged_sent : (a : Asked) (files : List (List ℕ)) (s status : ℕ) (old new : Outside) → AreAnswered a.lock files status → s ≡ status → Sends a status old new
    → Judges a files (Ok s) old new
judged_sent a files s status old new answered is sends =
    subst (λ z. Judges a files (Ok z) old new) (sym is) (answered, sends)

-- ---- of results

pub all_answered : {T : Type 0} (l : Lock) (files : List (List ℕ)) (images : List Loaded) (r : Result (ℕ × T) Refusal) → AreLoaded files images
    → IfOk r (λ a. (start : Xinu) × (boot images ≡ Boots start)) → IfOk r (λ a. a.0 ≡ 0 → IsProved l images) → IfOk r (λ a. AreAnswered l files a.0)
all_answered l files images (Ok a) loaded boots proved = answered_in l files images a.0 loaded boots proved
all_answered l files images (Err cause) loaded boots proved = tt

pub all_refused : {T : Type 0} (files : List (List ℕ)) (images : List Loaded) (r : Result T Refusal) → AreLoaded files images
    → IfErr r (AreUnbooted images) → IfErr r (AreRefused files)
all_refused files images (Ok a) loaded is = tt
all_refused files images (Err cause) loaded is = unbooted_in files images cause loaded is

pub all_judged : (a : Asked) (files : List (List ℕ)) (status : ℕ) (r : Result ℕ Refusal) (old new : Outside) → AreAnswered a.lock files status
    → IfOk r (λ s. s ≡ status) → IfOk r (λ s. Sends a status old new) → IfErr r (λ cause. IsUnsent cause old new) → Judges a files r old new
all_judged a files status (Ok s) old new answered same sent unsent = judged_sent a files s status old new answered same sent
all_judged a files status (Err cause) old new answered same sent unsent = judged_unsent a files status cause old new answered unsent

-- ---- the command

pub obeys_fetched : (a : Asked) (bytes : List (List ℕ)) (ended : Result ℕ Refusal) (old read new : Outside) → FetchesFiles a.images None old read
    → AreFetched old.file a.images bytes → Judges a bytes ended read new → Obeys a ended old new
obeys_fetched a bytes ended old read new fetches fetched judges = record {
  files = Ok bytes;
  read = read;
  fetches = fetches;
  fetched = λ other e. let same : bytes ≡ other = cc in subst (AreFetched old.file a.images) same fetched;
  continues = judges;
}

pub obeys_unfetched : (a : Asked) (cause : Refusal) (old read : Outside) → FetchesFiles a.images (Some cause) old read → IsOfHost cause
    → Obeys a (Err cause) old read
obeys_unfetched a cause old read fetches host = record {
  files = Err cause;
  read = read;
  fetches = fetches;
  fetched = λ other e. absurd (cc);
  continues = (refl, (refl, host));
}

pub carries_asked : (a : Asked) (o : Option Asked) (ended : Result ℕ Refusal) (old new : Outside) → Some a ≡ o → Obeys a ended old new → Carries o ended old new
carries_asked a o ended old new is obeys = subst (λ o. Carries o ended old new) is (inl obeys)

pub carries_nothing : (o : Option Asked) (old : Outside) → None ≡ o → Carries o (Err refusal.Usage) old old
carries_nothing o old is = subst (λ o. Carries o (Err refusal.Usage) old old) is (inl (record { cause = refl; same = refl }))

pub carries_no_memory : (o : Option Asked) (old : Outside) → Carries o (Err refusal.NoMemory) old old
carries_no_memory None old = inr (record { cause = refl; same = refl })
carries_no_memory (Some a) old = inr (record { cause = refl; same = refl })

-- ---- status 0

-- no refusal has it
not_zero : (r : Refusal) → 0 ≡ status_of r → ⊥
not_zero refusal.Usage is = absurd (omega (arith, is))
not_zero refusal.HostFault is = absurd (omega (arith, is))
not_zero (refusal.Image i f) is = absurd (omega (arith, is))
not_zero (refusal.Schedule l) is = absurd (omega (arith, is))
not_zero (refusal.Disk d b r) is = absurd (omega (arith, is))
not_zero refusal.NoMemory is = absurd (omega (arith, is))
not_zero (refusal.Overlap i) is = absurd (omega (arith, is))
not_zero (refusal.NoRoom i) is = absurd (omega (arith, is))
not_zero (refusal.Asm l f) is = absurd (omega (arith, is))
not_zero refusal.TraceTooLong is = absurd (omega (arith, is))
not_zero refusal.NoSuchFile is = absurd (omega (arith, is))
not_zero refusal.DoesNotFit is = absurd (omega (arith, is))

judged_zero : (a : Asked) (files : Result (List (List ℕ)) Refusal) (status : ℕ) (file : List ℕ → Option (List ℕ)) (read new : Outside)
    → ((bytes : List (List ℕ)) → files ≡ Ok bytes → AreFetched file a.images bytes) → Continues a files (Ok status) read new → status ≡ 0
    → IsProvedOf a.lock a.images file
judged_zero a (Ok bytes) status file read new fetched judges is =
    record { files = bytes; fetched = fetched bytes refl; proved = judges.0.proved is }
judged_zero a (Err cause) status file read new fetched judges is = let e = judges.0 in absurd (cc)

-- A command that ends with it proves what is asked.
pub proves_asked : (exit : ℕ) (args : List (List ℕ)) (ended : Result ℕ Refusal) (old mid new : Outside) → Carries (asked args) ended old mid
    → Tells ended exit mid new → exit ≡ 0 → ProvesAsked args old.file
proves_asked exit args (Err cause) old mid new carries tells is =
    let other : exit ≢ 7 = λ e. absurd (omega (arith, is, e)) in absurd (not_zero cause (sym is ∙ tells.answer other))
proves_asked exit args (Ok status) old mid new carries tells is = by (asked args) refl carries
  where
    by : (o : Option Asked) → asked args ≡ o → Carries o (Ok status) old mid → ProvesAsked args old.file
    by None e (inl nothing) = let f = nothing.cause in absurd (cc)
    by None e (inr nothing) = let f = nothing.cause in absurd (cc)
    by (Some a) e (inr nothing) = let f = nothing.cause in absurd (cc)
    by (Some a) e (inl obeys) =
        record { ask = a; asks = e; proved = judged_zero a obeys.files status old.file obeys.read mid obeys.fetched obeys.continues (sym tells.0 ∙ is) }
