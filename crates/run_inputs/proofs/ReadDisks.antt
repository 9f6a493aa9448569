-- A disk that is fetched up to a byte more than it may have, and checked as a whole.
use Rattle.std.proofs.Common.{◌≡◌, ◌<◌, ◌∙◌, inl, inr, ℕ, List, [], length, take, Option, Some, None, sym, subst}
use Rattle.std.specs.Option.{unwrap_or}
use Rattle.std.specs.Prelude.{IfOk, IfErr, Result, Ok, Err}
use Rattle.command_line.specs.Reading.{Text}
use Rattle.host_port.specs.Outside.{Outside}
use Rattle.lfs_check.specs.declared.faults.DiskFault.{DiskFault}
use Rattle.lfs_layout.specs.Images.{opened}
use Rattle.run_inputs.specs.Fetching.{FetchesFiles, IsOfHost, MayBeFetched}
use Rattle.run_inputs.specs.InputDisks.{IsDiskCause, disk_fault, empty_disk0, empty_disk1, raw_fault}
use Rattle.run_inputs.specs.InputFiles.{disk_bytes, file_bytes, if_named}
use Rattle.run_inputs.specs.Reading.{IsDiskAnswer, ReadsDisk}
use Rattle.run_inputs.specs.declared.refusals.Refusal.{Refusal}
use Rattle.run_inputs.specs.declared.refusals.Refusal.TheVariants as refusal
use Rattle.run_inputs.proofs.FetchedFiles.{fetched_ended}
use Rattle.run_inputs.proofs.InputFaults.{cases_fetched}
use Rattle.run_inputs.proofs.LongDisks.{disk_fault-long, raw_fault-long, too_long}

-- a disk isn't refused for a failure of the host
disk_cause_own : (number : ℕ) (fault : Option DiskFault) (cause : Refusal) → IsDiskCause number fault cause → Some cause ≡ Some refusal.HostFault → ⊥
disk_cause_own number fault refusal.HostFault is same = is
disk_cause_own number fault (refusal.Disk d b r) is same = cc
disk_cause_own number fault refusal.NoMemory is same = cc
disk_cause_own number fault other is same = absurd is

module _ (number : ℕ) (fault : List ℕ → Option DiskFault) (opens : List ℕ → List ℕ) (long_is : (bytes : List ℕ) → 33557504 < length bytes → fault bytes ≡ Some too_long) where
  -- the answer on a disk by what was fetched of it is that on the whole
  answer_whole : (bytes items : List ℕ) (result : Result (List ℕ) Refusal) → items ≡ take 33557505 bytes → IsDiskAnswer number fault opens items result → IsDiskAnswer number fault opens bytes result
  answer_whole bytes items result fetched answers =
      elim (cases_fetched bytes items 33557504 fetched) [
        | inl same ↦ subst (λ (b : List ℕ). IsDiskAnswer number fault opens b result) (sym same) answers
        | inr long ↦ answer_long bytes items result (long_is bytes long.0) (long_is items long.1) answers
      ]
    where
      answer_long : (bytes items : List ℕ) (result : Result (List ℕ) Refusal) → fault bytes ≡ Some too_long → fault items ≡ Some too_long → IsDiskAnswer number fault opens items result → IsDiskAnswer number fault opens bytes result
      answer_long bytes items (Ok image) one two answers = absurd (let none = answers.0 in cc)
      answer_long bytes items (Err refusal.HostFault) one two answers = tt
      answer_long bytes items (Err (refusal.Disk d b r)) one two answers = (answers.0, one ∙ sym two ∙ answers.1)
      answer_long bytes items (Err refusal.NoMemory) one two answers = tt
      answer_long bytes items (Err other) one two answers = absurd answers

  -- so it is of a disk that may have no file
  answer_held : (name : Option Text) (first : List ℕ) (file : Text → Option (List ℕ)) (bytes : Option (List ℕ)) (result : Result (List ℕ) Refusal) → MayBeFetched 33557504 name file bytes
      → IsDiskAnswer number fault opens (unwrap_or bytes first) result → IsDiskAnswer number fault opens (disk_bytes name first file (unwrap_or bytes [])) result
  answer_held None first file bytes result is answers = subst (λ (o : Option (List ℕ)). IsDiskAnswer number fault opens (unwrap_or o first) result) is answers
  answer_held (Some name) first file None result is answers = absurd is
  answer_held (Some name) first file (Some items) result is answers = answer_whole (file_bytes (file name) items) items result is.front answers

  -- the host refused to fetch it
  disk_unfetched : (first : List ℕ) (name : Option Text) (cause : Refusal) (h k : Outside) → IsOfHost cause → FetchesFiles (if_named name) (Some cause) h k
      → ReadsDisk number fault opens first name (Err cause) h k
  disk_unfetched first name refusal.HostFault h k is f = record { unseen = []; answers = tt; fetches = f }
  disk_unfetched first name refusal.NoMemory h k is f = record { unseen = []; answers = tt; fetches = f }
  disk_unfetched first name other h k is f = absurd is

  of_cause : (bytes : List ℕ) (cause : Refusal) → IsDiskCause number (fault bytes) cause → IsDiskAnswer number fault opens bytes (Err cause)
  of_cause bytes (refusal.Disk d b r) is = is
  of_cause bytes refusal.NoMemory is = tt
  of_cause bytes other is = absurd is

  -- it was fetched, and refused or accepted
  disk_fetched : (first : List ℕ) (name : Option Text) (bytes : Option (List ℕ)) (result : Result (List ℕ) Refusal) (h k : Outside) → MayBeFetched 33557504 name h.file bytes → FetchesFiles (if_named name) None h k
      → IfOk result (λ x. (fault (unwrap_or bytes first) ≡ None) × (x ≡ opens (unwrap_or bytes first)))
      → IfErr result (λ r. IsDiskCause number (fault (unwrap_or bytes first)) r) → ReadsDisk number fault opens first name result h k
  disk_fetched first name bytes (Err cause) h k fetched f ok refuses = record {
    unseen = unwrap_or bytes [];
    answers = answer_held name first h.file bytes (Err cause) fetched (of_cause (unwrap_or bytes first) cause refuses);
    fetches = fetched_ended (if_named name) (Some cause) h k (disk_cause_own number (fault (unwrap_or bytes first)) cause refuses) f;
  }
  disk_fetched first name bytes (Ok x) h k fetched f ok refuses =
      record { unseen = unwrap_or bytes []; answers = answer_held name first h.file bytes (Ok x) fetched ok; fetches = f }

-- ---- the two disks

pub raw_unfetched : (name : Option Text) (cause : Refusal) (h k : Outside) → IsOfHost cause → FetchesFiles (if_named name) (Some cause) h k → ReadsDisk 0 raw_fault (λ d. d) empty_disk0 name (Err cause) h k
raw_unfetched = disk_unfetched 0 raw_fault (λ d. d) raw_fault-long empty_disk0

pub raw_fetched : (name : Option Text) (bytes : Option (List ℕ)) (result : Result (List ℕ) Refusal) (h k : Outside) → MayBeFetched 33557504 name h.file bytes → FetchesFiles (if_named name) None h k
    → IfOk result (λ x. (raw_fault (unwrap_or bytes empty_disk0) ≡ None) × (x ≡ unwrap_or bytes empty_disk0))
    → IfErr result (λ r. IsDiskCause 0 (raw_fault (unwrap_or bytes empty_disk0)) r) → ReadsDisk 0 raw_fault (λ d. d) empty_disk0 name result h k
raw_fetched = disk_fetched 0 raw_fault (λ d. d) raw_fault-long empty_disk0

pub clean_unfetched : (name : Option Text) (cause : Refusal) (h k : Outside) → IsOfHost cause → FetchesFiles (if_named name) (Some cause) h k → ReadsDisk 1 disk_fault opened empty_disk1 name (Err cause) h k
clean_unfetched = disk_unfetched 1 disk_fault opened disk_fault-long empty_disk1

pub clean_fetched : (name : Option Text) (bytes : Option (List ℕ)) (result : Result (List ℕ) Refusal) (h k : Outside) → MayBeFetched 33557504 name h.file bytes → FetchesFiles (if_named name) None h k
    → IfOk result (λ x. (disk_fault (unwrap_or bytes empty_disk1) ≡ None) × (x ≡ opened (unwrap_or bytes empty_disk1)))
    → IfErr result (λ r. IsDiskCause 1 (disk_fault (unwrap_or bytes empty_disk1)) r) → ReadsDisk 1 disk_fault opened empty_disk1 name result h k
clean_fetched = disk_fetched 1 disk_fault opened disk_fault-long empty_disk1
