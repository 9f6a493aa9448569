-- What a fetch of a host is for `asm` and for an action on a disk.
use Rattle.std.proofs.Common.{◌≡◌, ◌≤◌, ℕ, List, [], ◌∷◌, take, Some, None, sym, ap, subst}
use Rattle.host_port.specs.declared.host.HostFault.{HostFault}
use Rattle.host_port.specs.declared.host.HostFault.TheVariants as host
use Rattle.host_port.specs.HostCalls.{Rose}
use Rattle.host_port.specs.Outside.{Outside, HostCall, counted, fetching, with_calls}
use Rattle.run_inputs.specs.Conversions.{host_refusal}
use Rattle.xinu_commands.specs.Stages.{Fetches, KeepsFiles}
use Rattle.run_inputs.specs.declared.refusals.Refusal.{Refusal}
use Rattle.xinu_commands.proofs.Answered.{fetched_unsent}
use Rattle.xinu_commands.proofs.Called.{undecided}
use Rattle.xinu_commands.proofs.Sent.{host_cause}

-- fetches change no file that can be observed, and send nothing on Fault
pub keeps : (h k : Outside) (calls : List HostCall) → k ≡ counted (with_calls h calls) k.faults → h.faults ≤ k.faults → KeepsFiles h k
keeps h k calls is later = record { file = ap (λ (x : Outside). x.file) is; fault = ap (λ (x : Outside). x.fault) is; later = later }

-- a file that was fetched
pub fetched : (name : List ℕ) (h k : Outside) → k ≡ counted (with_calls h (fetching name ∷ [])) k.faults → h.faults ≤ k.faults → Fetches name None h k
fetched name h k is later = record {
  unsent = fetched_unsent h k name 1 k.faults is;
  cause = tt;
  calls = record {
    count = 1;
    first = ap (λ (x : Outside). x.calls) is;
    all = λ decided. ap (λ (x : Outside). x.calls) is;
    unsent = λ few. fetched_unsent h k name 1 k.faults is;
  };
  keeps = keeps h k (fetching name ∷ []) is later;
}

-- a file that the host refused
pub unfetched : (name : List ℕ) (f : HostFault) (r : Refusal) (n : ℕ) (h k : Outside) → r ≡ host_refusal f → k ≡ counted (with_calls h (take n (fetching name ∷ []))) k.faults
    → (f ≡ host.Failed → Rose h.faults k.faults) → h.faults ≤ k.faults → Fetches name (Some r) h k
unfetched name f r n h k is_r is rose later =
    let P : Refusal → Type 0 = λ x. Fetches name (Some x) h k in
    let unsent = fetched_unsent h k name n k.faults is in
    let cause = host_cause (Some f) h k (λ same. rose (cc)) in
    subst P (sym is_r) (record {
      unsent = unsent;
      cause = cause;
      calls = record {
        count = n;
        first = ap (λ (x : Outside). x.calls) is;
        all = λ decided. absurd (undecided (host_refusal f) h k cause decided);
        unsent = λ few. unsent;
      };
      keeps = keeps h k (take n (fetching name ∷ [])) is later;
    })
