-- Files that can't be read are named, and the inputs that words name.
use Rattle.std.proofs.Common.{◌≡◌, ℕ, List, Option, Some, None, sym, subst}
use Rattle.std.specs.Prelude.{Result, Ok, Err, IfErr, option_map}
use Rattle.command_line.specs.Reading.{Text}
use Rattle.host_port.specs.Outside.{Outside}
use Rattle.lfs_check.specs.declared.faults.DiskFault.{DiskFault}
use Rattle.run_inputs.specs.Causes.{NamesLast}
use Rattle.run_inputs.specs.InputDisks.{IsDiskCause}
use Rattle.run_inputs.specs.Reading.{ReadsImages, ReadsInputs}
use Rattle.run_inputs.specs.declared.causes.Cause.TheVariants as cause
use Rattle.run_inputs.specs.declared.inputs.Inputs.{Inputs}
use Rattle.run_inputs.specs.declared.refusals.Refusal.{Refusal}
use Rattle.run_inputs.specs.declared.refusals.Refusal.TheVariants as refusal

-- images that are refused, under the same cause
pub images_refused_as : {T : Type 0} (files : T → List (List ℕ)) (before : List (List ℕ)) (names : List Text) (q r : Refusal) (h k : Outside) → q ≡ r
    → ReadsImages files before names (Err r) h k → ReadsImages files before names (Err q) h k
images_refused_as files before names q r h k is reads = subst (λ (x : Refusal). ReadsImages files before names (Err x) h k) (sym is) reads

-- a disk that is refused isn't refused for the host
pub not_of_host : {T : Type 0} (disk : ℕ) (fault : Option DiskFault) (result : Result T Refusal) → IfErr result (λ r. IsDiskCause disk fault r) → result ≡ Err refusal.HostFault → ⊥
not_of_host disk fault (Ok x) why is = cc
not_of_host disk fault (Err r) why is = (let same : r ≡ refusal.HostFault = cc in subst (IsDiskCause disk fault) same why)

-- an image that is refused isn't refused for the host
pub judged_last : (number : ℕ) (fault : Option ℕ) (r : Refusal) (new : Outside) → Some r ≡ option_map (refusal.Image number) fault → NamesLast (cause.Refused r) new
judged_last number None r new is = absurd (cc)
judged_last number (Some n) r new is =
    let same : refusal.Image number n ≡ r = cc in
    subst (λ (x : Refusal). NamesLast (cause.Refused x) new) same tt

-- the same inputs, under the same names
pub inputs_named : (s0 s1 : Text) (a0 a1 b0 b1 : Option Text) (i0 i1 : List Text) (result : Result Inputs Refusal) (h k : Outside) → s0 ≡ s1 → a0 ≡ a1 → b0 ≡ b1 → i0 ≡ i1
    → ReadsInputs (record { schedule = s0; disk0 = a0; disk1 = b0; images = i0 }) result h k → ReadsInputs (record { schedule = s1; disk0 = a1; disk1 = b1; images = i1 }) result h k
inputs_named s0 s1 a0 a1 b0 b1 i0 i1 result h k es ea eb ei reads =
    let one : ReadsInputs (record { schedule = s1; disk0 = a0; disk1 = b0; images = i0 }) result h k =
    subst (λ (s : Text). ReadsInputs (record { schedule = s; disk0 = a0; disk1 = b0; images = i0 }) result h k) es reads in
    let two : ReadsInputs (record { schedule = s1; disk0 = a1; disk1 = b0; images = i0 }) result h k =
    subst (λ (a : Option Text). ReadsInputs (record { schedule = s1; disk0 = a; disk1 = b0; images = i0 }) result h k) ea one in
    let three : ReadsInputs (record { schedule = s1; disk0 = a1; disk1 = b1; images = i0 }) result h k =
    subst (λ (b : Option Text). ReadsInputs (record { schedule = s1; disk0 = a1; disk1 = b; images = i0 }) result h k) eb two in
    subst (λ (i : List Text). ReadsInputs (record { schedule = s1; disk0 = a1; disk1 = b1; images = i }) result h k) ei three
