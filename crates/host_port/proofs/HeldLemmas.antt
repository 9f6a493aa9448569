-- From the quiet host to the host that fails on demand: the same changes, with only the added files observable and another count.
use Rattle.std.specs.Prelude.{ℕ, ◌≡◌, List, Option, Result, Ok, Err, take}
use Rattle.std.specs.Option.{option_map}
use Rattle.std.specs.BTreeMap.{get_by_text}
use Rattle.std.proofs.Common.{sym, ◌∙◌, ap, subst}
use Rattle.host_port.specs.declared.host.Channel.{Channel}
use Rattle.host_port.specs.declared.host.Channel.TheVariants.{Out, Fault, Disk0, Disk1, Image}
use Rattle.host_port.specs.declared.host.HostFault.{HostFault}
use Rattle.host_port.specs.declared.quiet.QuietMemoryHost.{QuietMemoryHost}
use Rattle.host_port.specs.Outside.{Outside, appended, counted}
use Rattle.host_port.specs.HostCalls.{Emits}
use Rattle.host_port.specs.QuietHost.{quiet_view, added, added_view}

-- an outside with these files and this count in place of its own
abbrev pub with_files : Outside → (List ℕ → Option (List ℕ)) → ℕ → Outside
with_files h file faults = record h { file = file; faults = faults }

-- what is emitted doesn't depend on the files and the count
pub emitted_over : (old new : Outside) (channel : Channel) (bytes : List ℕ) (m : ℕ) (file : List ℕ → Option (List ℕ)) (before after : ℕ) → new ≡ counted (appended old channel bytes) m → with_files new file after ≡ counted (appended (with_files old file before) channel bytes) after
emitted_over old new Out bytes m file before after e = ap (λ (h : Outside). with_files h file after) e
emitted_over old new Fault bytes m file before after e = ap (λ (h : Outside). with_files h file after) e
emitted_over old new Disk0 bytes m file before after e = ap (λ (h : Outside). with_files h file after) e
emitted_over old new Disk1 bytes m file before after e = ap (λ (h : Outside). with_files h file after) e
emitted_over old new Image bytes m file before after e = ap (λ (h : Outside). with_files h file after) e

pub emits_over : {T : Type 0} (old new : Outside) (channel : Channel) (bytes : List ℕ) (result : Result T HostFault) (file : List ℕ → Option (List ℕ)) (before after : ℕ) → Emits old new channel bytes result → Emits (with_files old file before) (with_files new file after) channel bytes result
emits_over old new channel bytes (Ok x) file before after e = record {
  whole = emitted_over old new channel bytes new.faults file before after e.whole;
  part = (e.part.0, emitted_over old new channel (take e.part.0 bytes) new.faults file before after e.part.1);
}
emits_over old new channel bytes (Err fault) file before after e = record {
  whole = tt;
  part = (e.part.0, emitted_over old new channel (take e.part.0 bytes) new.faults file before after e.part.1);
}

-- the same files are the same to the reader
pub same_files : (p q : QuietMemoryHost) → p.files ≡ q.files → added p ≡ added q
same_files p q same = ap (λ files. λ (name : List ℕ). option_map (λ v. v.items) (get_by_text files name)) same

-- what the quiet host inside emits, the host emits
pub held_emits : {T : Type 0} (old middle new : QuietMemoryHost) (before after : ℕ) (channel : Channel) (bytes : List ℕ) (result : Result T HostFault) → middle ≡ old → new.files ≡ middle.files → Emits (quiet_view middle) (quiet_view new) channel bytes result → Emits (counted (added_view old) before) (counted (added_view new) after) channel bytes result
held_emits old middle new before after channel bytes result same files e =
    let kept : added new ≡ added old =
    same_files new old (files ∙ ap (λ (q : QuietMemoryHost). q.files) same) in
    let P : QuietMemoryHost → Type 0 = λ q. Emits (quiet_view q) (quiet_view new) channel bytes result in
    let Q : (List ℕ → Option (List ℕ)) → Type 0 = λ file. Emits (counted (added_view old) before) (with_files (quiet_view new) file after) channel bytes result in
    subst Q (sym kept) (emits_over (quiet_view old) (quiet_view new) channel bytes result (added old) before after (subst P same e))
