-- What is sent, step by step.
use Rattle.std.proofs.Common.{◌≡◌, ◌∙◌, ◌⊎◌, inl, inr, ℕ, ◌≤◌, Bool, true, false, List, [], ◌∷◌, length, take, Option, Some, None, refl, sym, ap, subst, arith}
use Rattle.std.specs.Prelude.{if◌then◌else◌, option_map}
use Rattle.std.proofs.lemmas.List.{append-nil, take_all}
use Rattle.host_port.specs.HostCalls.{Rose}
use Rattle.host_port.specs.Outside.{Outside, HostCall, appended, counted, emptied_channel, grown, made_empty, naming, with_calls}
use Rattle.host_port.specs.declared.host.Channel.TheVariants.{Out, Image}
use Rattle.host_port.specs.declared.host.HostFault.{HostFault}
use Rattle.host_port.specs.declared.host.HostFault.TheVariants as host
use Rattle.preemptions.specs.Preempted.{preempted_at}
use Rattle.race_tables.specs.Rows.{Row}
use Rattle.run_inputs.specs.Conversions.{host_refusal}
use Rattle.run_inputs.specs.declared.causes.Cause.TheVariants as why
use Rattle.schedule_text.specs.Written.{schedule_text}
use Rattle.xinu_base.specs.declared.events.Event.{Event}
use Rattle.races_command.specs.Searching.{MayWrite, SendsPart, StopsIn, WritesPart, found_file, row_numbered, with_file}
use Rattle.races_command.specs.declared.faults.Fault.{Fault}
use Rattle.races_command.specs.declared.faults.Fault.TheVariants as fault

grown_none : {T : Type 0} (channel : Option (List T)) → channel ≡ grown channel []
grown_none None = refl
grown_none (Some before) = ap Some (sym (append-nil before))

-- nothing was written
nothing_written : (file : Option (List ℕ × List ℕ)) (old new : Outside) → new.image ≡ old.image → new.calls ≡ old.calls → MayWrite file old new
nothing_written None old new image calls = (image, calls)
nothing_written (Some file) old new image calls = record { image = (0, inl image); calls = (0, calls ∙ grown_none old.calls) }

-- what was written after something else was sent
written_after : (file : Option (List ℕ × List ℕ)) (old mid new : Outside) → mid.image ≡ old.image → mid.calls ≡ old.calls → MayWrite file mid new → MayWrite file old new
written_after None old mid new image calls written = (written.0 ∙ image, written.1 ∙ calls)
written_after (Some file) old mid new image calls written = record {
  image = subst (λ (before : Option (List ℕ)). (n : ℕ) × ((new.image ≡ before) ⊎ (new.image ≡ grown (emptied_channel before) (take n file.1)))) image written.image;
  calls = subst (λ (before : Option (List HostCall)). (n : ℕ) × (new.calls ≡ grown before (take n (naming Image file.0 ∷ [])))) calls written.calls;
}

-- nothing was sent
pub sends_nothing : (text : List ℕ) (file : Option (List ℕ × List ℕ)) (h : Outside) → SendsPart text file h h
sends_nothing text file h = record {
  out = (0, grown_none h.out);
  written = nothing_written file h h refl refl;
  fault = refl;
  disk0 = refl;
  disk1 = refl;
  files = refl;
  later = omega arith;
}

-- a part was sent
pub sends_part : (text : List ℕ) (file : Option (List ℕ × List ℕ)) (n : ℕ) (old new : Outside) → new ≡ counted (appended old Out (take n text)) new.faults
    → old.faults ≤ new.faults → SendsPart text file old new
sends_part text file n old new is later = record {
  out = (n, ap (λ (h : Outside). h.out) is);
  written = nothing_written file old new (ap (λ (h : Outside). h.image) is) (ap (λ (h : Outside). h.calls) is);
  fault = ap (λ (h : Outside). h.fault) is;
  disk0 = ap (λ (h : Outside). h.disk0) is;
  disk1 = ap (λ (h : Outside). h.disk1) is;
  files = ap (λ (h : Outside). h.file) is;
  later = later;
}

-- all was sent
pub sends_whole : (text : List ℕ) (file : Option (List ℕ × List ℕ)) (old new : Outside) → new ≡ counted (appended old Out text) new.faults
    → old.faults ≤ new.faults → SendsPart text file old new
sends_whole text file old new is later =
    sends_part text file (length text) old new
    (is ∙ ap (λ (bytes : List ℕ). counted (appended old Out bytes) new.faults) (sym (take_all (length text) text (omega arith)))) later

-- a part was sent, and no file was due
pub sends_with : (text : List ℕ) (file : Option (List ℕ × List ℕ)) (old new : Outside) → SendsPart text None old new → SendsPart text file old new
sends_with text file old new part = record {
  out = part.out;
  written = nothing_written file old new part.written.0 part.written.1;
  fault = part.fault;
  disk0 = part.disk0;
  disk1 = part.disk1;
  files = part.files;
  later = part.later;
}

-- all was sent, and after that only a file changed
pub sends_before : (text : List ℕ) (file : Option (List ℕ × List ℕ)) (old mid new : Outside) → mid ≡ counted (appended old Out text) mid.faults
    → old.faults ≤ mid.faults → SendsPart [] file mid new → SendsPart text file old new
sends_before text file old mid new is later stops =
    let whole = sends_whole text None old mid is later in
    let rest : take stops.out.0 [] ≡ [] = take_all stops.out.0 [] (omega arith) in
    let same : new.out ≡ mid.out = stops.out.1 ∙ ap (grown mid.out) rest ∙ sym (grown_none mid.out) in
    record {
      out = (whole.out.0, same ∙ whole.out.1);
      written = written_after file old mid new whole.written.0 whole.written.1 stops.written;
      fault = stops.fault ∙ whole.fault;
      disk0 = stops.disk0 ∙ whole.disk0;
      disk1 = stops.disk1 ∙ whole.disk1;
      files = stops.files ∙ whole.files;
      later = omega (arith, whole.later, stops.later);
    }

-- the call that was refused
pub stops : (text : List ℕ) (file : Option (List ℕ × List ℕ)) (old new : Outside) (f : HostFault) → SendsPart text file old new
    → (f ≡ host.Failed → Rose old.faults new.faults) → StopsIn text file (fault.Refused (why.Refused (host_refusal f))) old new
stops text file old new host.Failed part rose = record { sends = part; cause = rose refl }
stops text file old new host.NoMemory part rose = record { sends = part; cause = tt }

-- only a file changed
touches_file : (file : List ℕ × List ℕ) (old new : Outside) → WritesPart file old new → new.out ≡ old.out → new.fault ≡ old.fault → new.disk0 ≡ old.disk0
    → new.disk1 ≡ old.disk1 → new.file ≡ old.file → old.faults ≤ new.faults → SendsPart [] (Some file) old new
touches_file file old new written out fault disk0 disk1 files later = record {
  out = (0, out ∙ grown_none old.out);
  written = written;
  fault = fault;
  disk0 = disk0;
  disk1 = disk1;
  files = files;
  later = later;
}

-- naming a file, or the refusal of it
pub names_part : (file : List ℕ × List ℕ) (n : ℕ) (old new : Outside) (is_made_empty : Bool)
    → new ≡ counted (with_calls (if is_made_empty then made_empty old Image else old) (take n (naming Image file.0 ∷ []))) new.faults
    → old.faults ≤ new.faults → SendsPart [] (Some file) old new
names_part file n old new true is later =
    touches_file file old new
    (record { image = (0, inr (ap (λ (h : Outside). h.image) is ∙ grown_none (emptied_channel old.image))); calls = (n, ap (λ (h : Outside). h.calls) is) })
    (ap (λ (h : Outside). h.out) is) (ap (λ (h : Outside). h.fault) is) (ap (λ (h : Outside). h.disk0) is) (ap (λ (h : Outside). h.disk1) is)
    (ap (λ (h : Outside). h.file) is) later
names_part file n old new false is later =
    touches_file file old new
    (record { image = (0, inl (ap (λ (h : Outside). h.image) is)); calls = (n, ap (λ (h : Outside). h.calls) is) })
    (ap (λ (h : Outside). h.out) is) (ap (λ (h : Outside). h.fault) is) (ap (λ (h : Outside). h.disk0) is) (ap (λ (h : Outside). h.disk1) is)
    (ap (λ (h : Outside). h.file) is) later

-- a part of the file was written after it was named
pub writes_part : (file : List ℕ × List ℕ) (n : ℕ) (old mid new : Outside)
    → mid ≡ counted (with_calls (made_empty old Image) (naming Image file.0 ∷ [])) mid.faults
    → new ≡ counted (appended mid Image (take n file.1)) new.faults → old.faults ≤ new.faults → SendsPart [] (Some file) old new
writes_part file n old mid new named is later =
    touches_file file old new
    (record {
      image = (n, inr (ap (λ (h : Outside). h.image) is ∙ ap (λ (h : Outside). grown h.image (take n file.1)) named));
      calls = (1, ap (λ (h : Outside). h.calls) is ∙ ap (λ (h : Outside). h.calls) named);
    })
    (ap (λ (h : Outside). h.out) is ∙ ap (λ (h : Outside). h.out) named) (ap (λ (h : Outside). h.fault) is ∙ ap (λ (h : Outside). h.fault) named)
    (ap (λ (h : Outside). h.disk0) is ∙ ap (λ (h : Outside). h.disk0) named) (ap (λ (h : Outside). h.disk1) is ∙ ap (λ (h : Outside). h.disk1) named)
    (ap (λ (h : Outside). h.file) is ∙ ap (λ (h : Outside). h.file) named) later

-- the whole file was written after it was named
pub writes_whole : (old mid new : Outside) (calls : List HostCall) (bytes : List ℕ) → mid ≡ counted (with_calls (made_empty old Image) calls) mid.faults
    → new ≡ counted (appended mid Image bytes) new.faults → new ≡ counted (appended (with_calls (made_empty old Image) calls) Image bytes) new.faults
writes_whole old mid new calls bytes named is = is ∙ ap (λ (h : Outside). counted (appended h Image bytes) new.faults) named

-- the file after the table
pub both_sent : (text : List ℕ) (file : Option (List ℕ × List ℕ)) (old mid new : Outside) → mid ≡ counted (appended old Out text) mid.faults
    → new ≡ counted (with_file mid file) new.faults → new ≡ counted (with_file (appended old Out text) file) new.faults
both_sent text None old mid new is written = written ∙ ap (λ (h : Outside). counted (with_file h None) new.faults) is
both_sent text (Some file) old mid new is written = written ∙ ap (λ (h : Outside). counted (with_file h (Some file)) new.faults) is

-- ---- the file of a row

found_is : (found : Option (List ℕ)) (name : List ℕ) (outcome : ℕ) (base : List Event) (table : List Row) (row : Row) (written : List ℕ) → found ≡ Some name
    → row_numbered outcome table ≡ Some row → written ≡ schedule_text (preempted_at row.first base)
    → Some (name, written) ≡ found_file found outcome base table
found_is found name outcome base table row written named numbered is =
    ap (λ (t : List ℕ). Some (name, t)) is
    ∙ sym (ap (option_map (λ (r : Row). (name, schedule_text (preempted_at r.first base)))) numbered)
    ∙ sym (ap (λ (f : Option (List ℕ)). found_file f outcome base table) named)

-- a file that wasn't written whole, where a fault of the host is the cause
file_broken : (file : List ℕ × List ℕ) (due : Option (List ℕ × List ℕ)) (f : HostFault) (e : Fault) (old new : Outside) → Some file ≡ due
    → e ≡ fault.Refused (why.Refused (host_refusal f)) → SendsPart [] (Some file) old new → (f ≡ host.Failed → Rose old.faults new.faults) → StopsIn [] due e old new
file_broken file due f e old new same is part rose =
    subst (λ (x : Fault). StopsIn [] due x old new) (sym is)
    (subst (λ (x : Option (List ℕ × List ℕ)). StopsIn [] x (fault.Refused (why.Refused (host_refusal f))) old new) same (stops [] (Some file) old new f part rose))

-- it couldn't be named
pub name_stops : (found : Option (List ℕ)) (name : List ℕ) (outcome : ℕ) (base : List Event) (table : List Row) (row : Row) (written : List ℕ) (n : ℕ) (empty : Bool)
    (f : HostFault) (e : Fault) (old new : Outside) → found ≡ Some name → row_numbered outcome table ≡ Some row
    → written ≡ schedule_text (preempted_at row.first base) → e ≡ fault.Refused (why.Refused (host_refusal f))
    → new ≡ counted (with_calls (if empty then made_empty old Image else old) (take n (naming Image name ∷ []))) new.faults → old.faults ≤ new.faults
    → (f ≡ host.Failed → Rose old.faults new.faults) → StopsIn [] (found_file found outcome base table) e old new
name_stops found name outcome base table row written n empty f e old new named numbered text is new_is later rose =
    file_broken (name, written) (found_file found outcome base table) f e old new (found_is found name outcome base table row written named numbered text) is
    (names_part (name, written) n old new empty new_is later) rose

-- it was named, and a part of it written
pub text_stops : (found : Option (List ℕ)) (name : List ℕ) (outcome : ℕ) (base : List Event) (table : List Row) (row : Row) (written : List ℕ) (n : ℕ)
    (f : HostFault) (e : Fault) (old mid new : Outside) → found ≡ Some name → row_numbered outcome table ≡ Some row
    → written ≡ schedule_text (preempted_at row.first base) → e ≡ fault.Refused (why.Refused (host_refusal f))
    → mid ≡ counted (with_calls (made_empty old Image) (naming Image name ∷ [])) mid.faults → new ≡ counted (appended mid Image (take n written)) new.faults
    → old.faults ≤ mid.faults → mid.faults ≤ new.faults → (f ≡ host.Failed → Rose mid.faults new.faults)
    → StopsIn [] (found_file found outcome base table) e old new
text_stops found name outcome base table row written n f e old mid new named numbered text is mid_is new_is first second rose =
    file_broken (name, written) (found_file found outcome base table) f e old new (found_is found name outcome base table row written named numbered text) is
    (writes_part (name, written) n old mid new mid_is new_is (omega (arith, first, second)))
    (λ failed. (let later : Rose mid.faults new.faults = rose failed in omega (arith, first, later)))
