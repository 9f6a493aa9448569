-- What was printed and written is the output of an action, as far as the host took it.
use Rattle.std.proofs.Common.{◌≡◌, ◌≢◌, ◌∙◌, ◌≤◌, inl, inr, ℕ, Bool, true, false, List, [], ◌∷◌, length, take, Option, Some, None, refl, sym, ap, subst, arith}
use Rattle.std.specs.Prelude.{if◌then◌else◌, option_map}
use Rattle.std.proofs.lemmas.List.{take_all}
use Rattle.host_port.specs.declared.host.Channel.{Channel}
use Rattle.host_port.specs.declared.host.Channel.TheVariants.{Out, Fault, Disk0, Disk1, Image}
use Rattle.host_port.specs.declared.host.HostFault.{HostFault}
use Rattle.host_port.specs.declared.host.HostFault.TheVariants as host
use Rattle.host_port.specs.HostCalls.{Rose}
use Rattle.host_port.specs.Outside.{Outside, HostCall, appended, counted, emptied_channel, grown, made_empty, with_calls}
use Rattle.host_port.specs.Printing.{Printing, Prints}
use Rattle.host_port.proofs.Prints.{grown-nil}
use Rattle.run_inputs.specs.Conversions.{host_refusal}
use Rattle.xinu_commands.specs.Stages.{IsHostCause, SendsOutput, output_on, outputs_due}
use Rattle.run_inputs.specs.Fetching.{IsDecided}
use Rattle.xinu_commands.specs.Theorem.{HasCalled, IsPartSent, IsSent, namings}
use Rattle.xinu_commands.specs.Work.{output_of}
use Rattle.run_inputs.specs.declared.refusals.Refusal.{Refusal}
use Rattle.run_inputs.specs.declared.refusals.Refusal.TheVariants as refusal
use Rattle.xinu_commands.proofs.Called.{undecided}
use Rattle.xinu_commands.proofs.Carried.{fresh}

-- why a host ended an action
pub host_cause : (f : Option HostFault) (h k : Outside) → (f ≡ Some host.Failed → Rose h.faults k.faults) → IsHostCause (option_map host_refusal f) h k
host_cause None h k rose = tt
host_cause (Some host.Failed) h k rose = rose refl
host_cause (Some host.NoMemory) h k rose = tt

pub cause_within : (ended : Option Refusal) (h i k : Outside) → h.faults ≤ i.faults → IsHostCause ended i k → IsHostCause ended h k
cause_within None h i k later cause = tt
cause_within (Some refusal.HostFault) h i k later cause = (let rose : Rose i.faults k.faults = cause in omega arith)
cause_within (Some refusal.NoMemory) h i k later cause = tt
cause_within (Some other) h i k later cause = absurd cause

-- an end that the host caused is decided only if it isn't a refusal
host_decided : (ended : Option Refusal) (h k : Outside) → IsHostCause ended h k → IsDecided ended → ended ≡ None
host_decided None h k cause decided = refl
host_decided (Some r) h k cause decided = absurd (undecided r h k cause decided)

-- some of the calls for outputs were made, and all if it wasn't refused
pub outputs_called : (n : ℕ) (outputs : List HostCall) (ended : Option Refusal) (h k : Outside) → IsHostCause ended h k → k.calls ≡ grown h.calls (take n outputs)
    → (ended ≡ None → k.calls ≡ grown h.calls outputs) → HasCalled (outputs_due outputs) ended h k
outputs_called n outputs ended h k cause some all = record {
  count = n;
  first = some;
  all = λ decided. all (host_decided ended h k cause decided);
  unsent = λ few. absurd (omega (arith, few));
}

-- ---- text

pub no_failure : (f : Option HostFault) → option_map host_refusal f ≡ None → f ≡ None
no_failure None is = refl
no_failure (Some host.Failed) is = absurd (cc)
no_failure (Some host.NoMemory) is = absurd (cc)

-- text that was sent up to a failure, if there was one
pub text_sent_by : (text : List ℕ) (failure : Option HostFault) (ended : Option Refusal) (h k : Outside)
    → (failure ≡ None → k ≡ counted (appended h Out text) k.faults) → ((n : ℕ) × (k ≡ counted (appended h Out (take n text)) k.faults))
    → (failure ≡ Some host.Failed → Rose h.faults k.faults) → h.faults ≤ k.faults → ended ≡ option_map host_refusal failure
    → SendsOutput (output_of text None None) [] ended h k
text_sent_by text failure ended h k whole part rose later is =
    let P : Option Refusal → Type 0 = λ x. SendsOutput (output_of text None None) [] x h k in
    subst P (sym is) (record {
      part = record {
        out = (part.0, ap (λ (x : Outside). x.out) part.1);
        disk0 = ap (λ (x : Outside). x.disk0) part.1;
        disk1 = ap (λ (x : Outside). x.disk1) part.1;
        image = ap (λ (x : Outside). x.image) part.1;
        text_first = inr (record {
          disk0 = ap (λ (x : Outside). x.disk0) part.1;
          disk1 = ap (λ (x : Outside). x.disk1) part.1;
          image = ap (λ (x : Outside). x.image) part.1;
          names = ap namings part.1;
        });
        raw_first = inr (ap (λ (x : Outside). x.disk1) part.1);
      };
      whole = λ none. record {
        out = ap (λ (x : Outside). x.out) (whole (no_failure failure none));
        disk0 = ap (λ (x : Outside). x.disk0) part.1;
        disk1 = ap (λ (x : Outside). x.disk1) part.1;
        image = ap (λ (x : Outside). x.image) part.1;
      };
      cause = cause;
      calls = outputs_called 0 [] (option_map host_refusal failure) h k cause same_calls (λ none. same_calls);
      keeps = record { file = ap (λ (x : Outside). x.file) part.1; fault = ap (λ (x : Outside). x.fault) part.1; later = later };
    })
  where
    same_calls : k.calls ≡ grown h.calls []
    same_calls = ap (λ (x : Outside). x.calls) part.1 ∙ sym (grown-nil h.calls)

    cause : IsHostCause (option_map host_refusal failure) h k
    cause = host_cause failure h k rose

-- text that was printed
pub text_sent : (text : List ℕ) (a e : Printing) (ended : Option Refusal) (h k : Outside) → a.failure ≡ None → Prints a e h k text → ended ≡ option_map host_refusal e.failure
    → SendsOutput (output_of text None None) [] ended h k
text_sent text a e ended h k is_fresh p is =
    text_sent_by text e.failure ended h k (λ none. (p.whole none).1) p.part (λ failed. elim (p.cause failed) [
      | inl had ↦ absurd (cc)
      | inr rose ↦ rose
    ]) p.later is

-- a printer that isn't plain prints the whole line
pub line_printed : (a e : Printing) (h k : Outside) (text : List ℕ) → a ≡ fresh → Prints a e h k (if a.plain then [] else text) → Prints a e h k text
line_printed a e h k text is p = (let P : Printing → Type 0 = λ x. Prints a e h k (if x.plain then [] else text) in subst P is p)

-- ---- a file

-- a channel that has a file
data HasFile : Channel → Type 0 where
  on_disk0 : HasFile Disk0
  on_disk1 : HasFile Disk1
  on_image : HasFile Image

has_file : (c : Channel) → c ≢ Out → c ≢ Fault → HasFile c
has_file Out not_out not_fault = absurd (not_out refl)
has_file Fault not_out not_fault = absurd (not_fault refl)
has_file Disk0 not_out not_fault = on_disk0
has_file Disk1 not_out not_fault = on_disk1
has_file Image not_out not_fault = on_image

-- the channel was made empty for a file and these bytes were written, after these calls
abbrev written : Outside → Channel → List HostCall → List ℕ → ℕ → Outside
written h c calls bytes m = counted (appended (with_calls (made_empty h c) calls) c bytes) m

module _ (calls : List HostCall) (bytes : List ℕ) (h k : Outside) (m : ℕ) where
  -- on the other channels nothing is due
  out_part : k.out ≡ h.out → (n : ℕ) × (k.out ≡ grown h.out (take n []))
  out_part same = (0, same ∙ sym (grown-nil h.out))

  out_whole : k.out ≡ h.out → k.out ≡ grown h.out []
  out_whole same = same ∙ sym (grown-nil h.out)

  part_of : (c : Channel) → HasFile c → (n : ℕ) → k ≡ written h c calls (take n bytes) m → IsPartSent (output_on c bytes) h k
  part_of c on_disk0 n is = record {
    out = out_part (ap (λ (x : Outside). x.out) is);
    disk0 = inr (n, ap (λ (x : Outside). x.disk0) is);
    disk1 = ap (λ (x : Outside). x.disk1) is;
    image = ap (λ (x : Outside). x.image) is;
    text_first = inl (out_whole (ap (λ (x : Outside). x.out) is));
    raw_first = inr (ap (λ (x : Outside). x.disk1) is);
  }
  part_of c on_disk1 n is = record {
    out = out_part (ap (λ (x : Outside). x.out) is);
    disk0 = ap (λ (x : Outside). x.disk0) is;
    disk1 = inr (n, ap (λ (x : Outside). x.disk1) is);
    image = ap (λ (x : Outside). x.image) is;
    text_first = inl (out_whole (ap (λ (x : Outside). x.out) is));
    raw_first = inl (ap (λ (x : Outside). x.disk0) is);
  }
  part_of c on_image n is = record {
    out = out_part (ap (λ (x : Outside). x.out) is);
    disk0 = ap (λ (x : Outside). x.disk0) is;
    disk1 = ap (λ (x : Outside). x.disk1) is;
    image = inr (n, ap (λ (x : Outside). x.image) is);
    text_first = inl (out_whole (ap (λ (x : Outside). x.out) is));
    raw_first = inl (ap (λ (x : Outside). x.disk0) is);
  }

  none_of : (c : Channel) → HasFile c → k.out ≡ h.out → k.disk0 ≡ h.disk0 → k.disk1 ≡ h.disk1 → k.image ≡ h.image → IsPartSent (output_on c bytes) h k
  none_of c on_disk0 out disk0 disk1 image =
      record { out = out_part out; disk0 = inl disk0; disk1 = disk1; image = image; text_first = inl (out_whole out); raw_first = inr disk1 }
  none_of c on_disk1 out disk0 disk1 image =
      record { out = out_part out; disk0 = disk0; disk1 = inl disk1; image = image; text_first = inl (out_whole out); raw_first = inr disk1 }
  none_of c on_image out disk0 disk1 image =
      record { out = out_part out; disk0 = disk0; disk1 = disk1; image = inl image; text_first = inl (out_whole out); raw_first = inr disk1 }

  whole_of : (c : Channel) → HasFile c → k ≡ written h c calls bytes m → IsSent (output_on c bytes) h k
  whole_of c on_disk0 is = record {
    out = out_whole (ap (λ (x : Outside). x.out) is);
    disk0 = ap (λ (x : Outside). x.disk0) is;
    disk1 = ap (λ (x : Outside). x.disk1) is;
    image = ap (λ (x : Outside). x.image) is;
  }
  whole_of c on_disk1 is = record {
    out = out_whole (ap (λ (x : Outside). x.out) is);
    disk0 = ap (λ (x : Outside). x.disk0) is;
    disk1 = ap (λ (x : Outside). x.disk1) is;
    image = ap (λ (x : Outside). x.image) is;
  }
  whole_of c on_image is = record {
    out = out_whole (ap (λ (x : Outside). x.out) is);
    disk0 = ap (λ (x : Outside). x.disk0) is;
    disk1 = ap (λ (x : Outside). x.disk1) is;
    image = ap (λ (x : Outside). x.image) is;
  }

  -- what is left alone, and which calls were made
  file_of : (c : Channel) → HasFile c → k ≡ written h c calls bytes m → k.file ≡ h.file
  file_of c on_disk0 is = ap (λ (x : Outside). x.file) is
  file_of c on_disk1 is = ap (λ (x : Outside). x.file) is
  file_of c on_image is = ap (λ (x : Outside). x.file) is

  fault_of : (c : Channel) → HasFile c → k ≡ written h c calls bytes m → k.fault ≡ h.fault
  fault_of c on_disk0 is = ap (λ (x : Outside). x.fault) is
  fault_of c on_disk1 is = ap (λ (x : Outside). x.fault) is
  fault_of c on_image is = ap (λ (x : Outside). x.fault) is

  calls_of : (c : Channel) → HasFile c → k ≡ written h c calls bytes m → k.calls ≡ grown h.calls calls
  calls_of c on_disk0 is = ap (λ (x : Outside). x.calls) is
  calls_of c on_disk1 is = ap (λ (x : Outside). x.calls) is
  calls_of c on_image is = ap (λ (x : Outside). x.calls) is

-- a channel that was made empty holds nothing
empty_written : (h : Outside) (c : Channel) → HasFile c → (calls : List HostCall) (m : ℕ) → counted (with_calls (made_empty h c) calls) m ≡ written h c calls [] m
empty_written h c on_disk0 calls m = ap (λ (o : Option (List ℕ)). record h { disk0 = o; calls = grown h.calls calls; faults = m }) (sym (grown-nil (emptied_channel h.disk0)))
empty_written h c on_disk1 calls m = ap (λ (o : Option (List ℕ)). record h { disk1 = o; calls = grown h.calls calls; faults = m }) (sym (grown-nil (emptied_channel h.disk1)))
empty_written h c on_image calls m = ap (λ (o : Option (List ℕ)). record h { image = o; calls = grown h.calls calls; faults = m }) (sym (grown-nil (emptied_channel h.image)))

-- two changes one after the other
after_naming : (h i k : Outside) (c : Channel) → HasFile c → (call : HostCall) (bytes : List ℕ) (m n : ℕ) → i ≡ counted (with_calls (made_empty h c) (call ∷ [])) m → k ≡ counted (appended i c bytes) n
    → k ≡ written h c (call ∷ []) bytes n
after_naming h i k c on_disk0 call bytes m n first second = second ∙ ap (λ (x : Outside). counted (appended x Disk0 bytes) n) first
after_naming h i k c on_disk1 call bytes m n first second = second ∙ ap (λ (x : Outside). counted (appended x Disk1 bytes) n) first
after_naming h i k c on_image call bytes m n first second = second ∙ ap (λ (x : Outside). counted (appended x Image bytes) n) first

module _ (c : Channel) (f : HasFile c) (call : HostCall) (bytes : List ℕ) where
  -- a file that was named and written up to some byte
  written_sends : (ended : Option Refusal) (n : ℕ) (h k : Outside) → k ≡ written h c (call ∷ []) (take n bytes) k.faults → (ended ≡ None → k ≡ written h c (call ∷ []) bytes k.faults)
      → IsHostCause ended h k → h.faults ≤ k.faults → SendsOutput (output_on c bytes) (call ∷ []) ended h k
  written_sends ended n h k part whole cause later = record {
    part = part_of (call ∷ []) bytes h k k.faults c f n part;
    whole = λ none. whole_of (call ∷ []) bytes h k k.faults c f (whole none);
    cause = cause;
    calls = outputs_called 1 (call ∷ []) ended h k cause (calls_of (call ∷ []) (take n bytes) h k k.faults c f part)
        (λ none. calls_of (call ∷ []) bytes h k k.faults c f (whole none));
    keeps = record {
      file = file_of (call ∷ []) (take n bytes) h k k.faults c f part;
      fault = fault_of (call ∷ []) (take n bytes) h k k.faults c f part;
      later = later;
    };
  }

  -- a file that the host didn't make
  unnamed_by : (is_made_empty : Bool) (r : Refusal) (n : ℕ) (h k : Outside) → k ≡ counted (with_calls (if is_made_empty then made_empty h c else h) (take n (call ∷ []))) k.faults
      → IsHostCause (Some r) h k → h.faults ≤ k.faults → SendsOutput (output_on c bytes) (call ∷ []) (Some r) h k
  unnamed_by true r n h k is cause later =
      let whole = is ∙ empty_written h c f (take n (call ∷ [])) k.faults in
      record {
        part = part_of (take n (call ∷ [])) bytes h k k.faults c f 0 whole;
        whole = λ none. absurd (cc);
        cause = cause;
        calls = outputs_called n (call ∷ []) (Some r) h k cause (calls_of (take n (call ∷ [])) [] h k k.faults c f whole) (λ none. absurd (cc));
        keeps = record {
          file = file_of (take n (call ∷ [])) [] h k k.faults c f whole;
          fault = fault_of (take n (call ∷ [])) [] h k k.faults c f whole;
          later = later;
        };
      }
  unnamed_by false r n h k is cause later = record {
    part = none_of (take n (call ∷ [])) bytes h k k.faults c f (ap (λ (x : Outside). x.out) is) (ap (λ (x : Outside). x.disk0) is)
        (ap (λ (x : Outside). x.disk1) is) (ap (λ (x : Outside). x.image) is);
    whole = λ none. absurd (cc);
    cause = cause;
    calls = outputs_called n (call ∷ []) (Some r) h k cause (ap (λ (x : Outside). x.calls) is) (λ none. absurd (cc));
    keeps = record { file = ap (λ (x : Outside). x.file) is; fault = ap (λ (x : Outside). x.fault) is; later = later };
  }

-- the host refused to make the file
pub unnamed : (c : Channel) → c ≢ Out → c ≢ Fault → (call : HostCall) (bytes : List ℕ) (f : HostFault) (r : Refusal) (b : Bool) (n : ℕ) (h k : Outside) → r ≡ host_refusal f
    → k ≡ counted (with_calls (if b then made_empty h c else h) (take n (call ∷ []))) k.faults → (f ≡ host.Failed → Rose h.faults k.faults) → h.faults ≤ k.faults
    → SendsOutput (output_on c bytes) (call ∷ []) (Some r) h k
unnamed c not_out not_fault call bytes f r b n h k is_r is rose later =
    let P : Refusal → Type 0 = λ x. SendsOutput (output_on c bytes) (call ∷ []) (Some x) h k in
    subst P (sym is_r) (unnamed_by c (has_file c not_out not_fault) call bytes b (host_refusal f) n h k is (host_cause (Some f) h k (λ same. rose (cc))) later)

-- the host refused to write all bytes
pub unwritten : (c : Channel) → c ≢ Out → c ≢ Fault → (call : HostCall) (bytes : List ℕ) (f : HostFault) (r : Refusal) (n : ℕ) (h i k : Outside) → r ≡ host_refusal f
    → i ≡ counted (with_calls (made_empty h c) (call ∷ [])) i.faults → k ≡ counted (appended i c (take n bytes)) k.faults → (f ≡ host.Failed → Rose i.faults k.faults)
    → h.faults ≤ i.faults → i.faults ≤ k.faults → SendsOutput (output_on c bytes) (call ∷ []) (Some r) h k
unwritten c not_out not_fault call bytes f r n h i k is_r first second rose before after =
    let P : Refusal → Type 0 = λ x. SendsOutput (output_on c bytes) (call ∷ []) (Some x) h k in
    let file = has_file c not_out not_fault in
    let cause : IsHostCause (Some (host_refusal f)) h k = host_cause (Some f) h k (λ same. (let later : Rose i.faults k.faults = rose (cc) in omega arith)) in
    subst P (sym is_r) (written_sends c file call bytes (Some (host_refusal f)) n h k (after_naming h i k c file call (take n bytes) i.faults k.faults first second) (λ none. absurd (cc)) cause (omega arith))

-- all bytes were written
pub file_written : (c : Channel) → c ≢ Out → c ≢ Fault → (call : HostCall) (bytes : List ℕ) (h i k : Outside) → i ≡ counted (with_calls (made_empty h c) (call ∷ [])) i.faults
    → k ≡ counted (appended i c bytes) k.faults → h.faults ≤ i.faults → i.faults ≤ k.faults → SendsOutput (output_on c bytes) (call ∷ []) None h k
file_written c not_out not_fault call bytes h i k first second before after =
    let file = has_file c not_out not_fault in
    let whole = after_naming h i k c file call bytes i.faults k.faults first second in
    let all : take (length bytes) bytes ≡ bytes = take_all (length bytes) bytes (omega arith) in
    let P : List ℕ → Type 0 = λ b. k ≡ written h c (call ∷ []) b k.faults in
    written_sends c file call bytes None (length bytes) h k (subst P (sym all) whole) (λ none. whole) tt (omega arith)
