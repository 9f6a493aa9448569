-- The stages of `asm`, put together.
use Rattle.std.proofs.Common.{◌≡◌, ◌≢◌, ◌∙◌, ◌+◌, ◌≤◌, ◌<◌, inl, inr, ℕ, Bool, true, false, if◌then◌else◌, List, [], ◌∷◌, length, take, drop, Option, Some, None, is_some, refl, sym, ap, subst, arith}
use Rattle.std.proofs.lemmas.Bool.{le-leb, lt-leb, eqb-true}
use Rattle.std.proofs.lemmas.List.{length-drop}
use Rattle.std.specs.Prelude.{nat_le}
use Rattle.std.specs.Option.{option_map_or}
use Rattle.command_line.specs.AsmArgs.{AsmFiles}
use Rattle.command_line.specs.Commands.{Asm}
use Rattle.elf_loader.specs.WrittenElf.{IsWholeImage, elf_file}
use Rattle.host_port.specs.Outside.{Outside, HostCall, naming}
use Rattle.host_port.specs.declared.host.Channel.TheVariants.{Image}
use Rattle.image_loader.specs.ImageFiles.{first_fault, has_length, has_magic, has_version, header_of, image_in, image_of, loaded_unless}
use Rattle.image_loader.specs.declared.faults.ImageFault.{ImageFault}
use Rattle.image_loader.specs.declared.faults.ImageFault.TheVariants as image
use Rattle.rv_asm.specs.Assembly.{Assembly, Makes, Fails, IsFaultOf, assembly}
use Rattle.rv_asm.specs.declared.faults.AsmFault.{AsmFault}
use Rattle.rv_asm.specs.declared.faults.AsmFault.TheVariants as asm
use Rattle.xinu_model.specs.Boot.{Loaded}
use Rattle.xinu_commands.specs.AsmVerdict.{as_elf, asm_refusal, asm_verdict, assembly_verdict, longest_source, written_file}
use Rattle.run_inputs.specs.Fetching.{IsFetched}
use Rattle.xinu_commands.specs.Stages.{Fetches, Performs, SendsOutput, Stage, no_fetches, output_on, outputs_due}
use Rattle.run_inputs.specs.InputFiles.{file_bytes}
use Rattle.xinu_commands.specs.Work.{Output, Refuses}
use Rattle.run_inputs.specs.declared.refusals.Refusal.{Refusal}
use Rattle.run_inputs.specs.declared.refusals.Refusal.TheVariants as refusal
use Rattle.xinu_commands.proofs.Called.{keeps_refl, nothing_called}
use Rattle.xinu_commands.proofs.Carried.{nothing_sent, unsent_refl}
use Rattle.run_inputs.proofs.InputFaults.{cases_fetched}
use Rattle.xinu_commands.proofs.Staged.{action_files, fetched_stage, memory_stage, refused_last, sent_stage, stage_as, unfetched_stage}

-- ---- the verdict

pub asm_long : (elf : Bool) (source : List ℕ) → 1048576 < length source → asm_verdict elf source ≡ Refuses (refusal.Asm 0 3)
unfolding asm_verdict
asm_long elf source long = rw (lt-leb (length source) 1048576 long) refl

pub asm_short : (elf : Bool) (source : List ℕ) (a : Assembly) → length source ≤ 1048576 → assembly source ≡ a
    → asm_verdict elf source ≡ assembly_verdict elf a
unfolding asm_verdict
asm_short elf source a short is = rw (le-leb (length source) 1048576 short) (ap (assembly_verdict elf) is)

-- what was fetched of a source has the verdict of the whole
pub asm_fetched : (elf : Bool) (bytes items : List ℕ) → items ≡ take 1048577 bytes → asm_verdict elf bytes ≡ asm_verdict elf items
asm_fetched elf bytes items fetched =
    elim (cases_fetched bytes items 1048576 fetched) [
      | inl same ↦ ap (asm_verdict elf) same
      | inr long ↦ asm_long elf bytes long.0 ∙ sym (asm_long elf items long.1)
    ]

-- `asm` doesn't find that there is no command
fault_keeps : (f : AsmFault) → asm_refusal f ≢ refusal.Usage
fault_keeps (asm.BadLine line) is = cc
fault_keeps (asm.UnknownName line) is = cc
fault_keeps (asm.OutOfRange line) is = cc
fault_keeps (asm.DoubleLabel line) is = cc
fault_keeps asm.NoMemory is = cc

keeps_by : (short : Bool) (elf : Bool) (a : Assembly)
    → (if short then assembly_verdict elf a else Refuses (refusal.Asm 0 3)) ≢ Refuses refusal.Usage
keeps_by true elf (Makes file) is = cc
keeps_by true elf (Fails f) is = (let same : asm_refusal f ≡ refusal.Usage = cc in fault_keeps f same)
keeps_by false elf a is = cc

pub asm_keeps : (elf : Bool) (source : List ℕ) → asm_verdict elf source ≢ Refuses refusal.Usage
unfolding asm_verdict
asm_keeps elf source is = keeps_by (nat_le (length source) longest_source) elf (assembly source) is

-- ---- a text

-- a text that is too long, or has a fault
pub long_stage : (elf : Bool) (source : List ℕ) (calls : List HostCall) (h : Outside) → 1048576 < length source
    → Stage (asm_verdict elf source) no_fetches calls (Some (refusal.Asm 0 3)) None h h
long_stage elf source calls h long = refused_last (asm_verdict elf source) calls (refusal.Asm 0 3) h (asm_long elf source long)

fault_stage : (elf : Bool) (source : List ℕ) (calls : List HostCall) (f : AsmFault) (h : Outside) → length source ≤ 1048576
    → IsFaultOf f source
    → Stage (asm_verdict elf source) no_fetches calls (Some (asm_refusal f)) None h h
fault_stage elf source calls (asm.BadLine l) h short is =
    refused_last (asm_verdict elf source) calls (refusal.Asm l 1) h (asm_short elf source (Fails (asm.BadLine l)) short is)
fault_stage elf source calls (asm.UnknownName l) h short is =
    refused_last (asm_verdict elf source) calls (refusal.Asm l 2) h (asm_short elf source (Fails (asm.UnknownName l)) short is)
fault_stage elf source calls (asm.OutOfRange l) h short is =
    refused_last (asm_verdict elf source) calls (refusal.Asm l 3) h (asm_short elf source (Fails (asm.OutOfRange l)) short is)
fault_stage elf source calls (asm.DoubleLabel l) h short is =
    refused_last (asm_verdict elf source) calls (refusal.Asm l 4) h (asm_short elf source (Fails (asm.DoubleLabel l)) short is)
fault_stage elf source calls asm.NoMemory h short is = memory_stage (asm_verdict elf source) no_fetches calls h

pub faulty_stage : (elf : Bool) (source : List ℕ) (calls : List HostCall) (f : AsmFault) (r : Refusal) (h : Outside) → r ≡ asm_refusal f
    → length source ≤ 1048576 → IsFaultOf f source
    → Stage (asm_verdict elf source) no_fetches calls (Some r) None h h
faulty_stage elf source calls f r h is_r short is =
    let P : Refusal → Type 0 = λ x. Stage (asm_verdict elf source) no_fetches calls (Some x) None h h in
    subst P (sym is_r) (fault_stage elf source calls f h short is)

-- memory ran out before the file was named
pub unwritten : (output : Output) (calls : List HostCall) (h : Outside) → SendsOutput output calls (Some refusal.NoMemory) h h
unwritten output calls h = record {
  part = nothing_sent output h h (unsent_refl h);
  whole = λ none. absurd (cc);
  cause = tt;
  calls = nothing_called (outputs_due calls) refusal.NoMemory h (λ decided. absurd decided);
  keeps = keeps_refl h;
}

-- a text that was assembled, and its file was written
pub made_stage : (elf : Bool) (source file : List ℕ) (calls : List HostCall) (ended : Option Refusal) (h k : Outside)
    → length source ≤ 1048576 → assembly source ≡ Makes file
    → SendsOutput (output_on Image (written_file elf file)) calls ended h k → Stage (asm_verdict elf source) no_fetches calls ended None h k
made_stage elf source file calls ended h k short is sends =
    sent_stage (asm_verdict elf source) [] None (Some (written_file elf file)) calls ended h k
    (asm_short elf source (Makes file) short is) sends

-- ---- the image of an image file

pub passed : (b : Bool) (fault : ImageFault) (rest : Option ImageFault) → (if b then rest else Some fault) ≡ None
    → (b ≡ true) × (rest ≡ None)
passed true fault rest is = (refl, is)
passed false fault rest is = absurd (cc)

-- it has one part, which has as many bytes as addresses
whole_of : (bytes : List ℕ) → first_fault bytes ≡ None → IsWholeImage (image_of (header_of bytes) (drop 28 bytes))
whole_of bytes none =
    let magic = passed (nat_le 28 (length bytes)) image.Short _ none in
    let version = passed (has_magic (header_of bytes)) image.Magic _ magic.1 in
    let rest = passed (has_version (header_of bytes)) image.Version _ version.1 in
    let sized = passed (has_length (header_of bytes) (length bytes)) image.Length _ rest.1 in
    let all : length bytes ≡ 28 + (header_of bytes).length = eqb-true _ _ sized.0 in
    record { one = refl; size = omega (arith, all, length-drop 28 bytes) }

pub whole_image : (bytes : List ℕ) (loaded : Loaded) → image_in bytes ≡ Some loaded → IsWholeImage loaded
whole_image bytes loaded is = go (first_fault bytes) refl is
  where
    go : (f : Option ImageFault) → first_fault bytes ≡ f → loaded_unless f (image_of (header_of bytes) (drop 28 bytes)) ≡ Some loaded
        → IsWholeImage loaded
    go None none same =
        (let here : image_of (header_of bytes) (drop 28 bytes) ≡ loaded = cc in subst IsWholeImage here (whole_of bytes none))
    go (Some f) none same = absurd (cc)

-- the ELF file of an image file is that of its image
pub elf_of_image : (bytes : List ℕ) (loaded : Loaded) → image_in bytes ≡ Some loaded → as_elf bytes ≡ elf_file loaded
unfolding as_elf
elf_of_image bytes loaded is = ap (λ o. option_map_or elf_file o []) is

pub none_loads : (o : Option Loaded) → is_some o ≡ true → o ≡ None → ⊥
none_loads None some none = cc
none_loads (Some x) some none = cc

-- ---- a whole command

performs_by : (a : AsmFiles) (source : List ℕ) (ended : Option Refusal) (h k : Outside)
    → Stage (asm_verdict a.elf (file_bytes (h.file a.source) source)) (λ v. a.source ∷ no_fetches v) (naming Image a.out ∷ []) ended None h k
    → Performs (Some (Asm a)) ended None h k
performs_by a source ended h k s = record {
  obeys = record { unseen = action_files [] source; carries = s.carries };
  calls = s.calls;
  keeps = s.keeps;
}

-- the source wasn't fetched
pub source_unfetched : (a : AsmFiles) (r : Refusal) (h k : Outside) → Fetches a.source (Some r) h k
    → Performs (Some (Asm a)) (Some r) None h k
source_unfetched a r h k f =
    performs_by a [] (Some r) h k (unfetched_stage (asm_verdict a.elf (file_bytes (h.file a.source) [])) a.source no_fetches
    (naming Image a.out ∷ []) r h k (asm_keeps a.elf (file_bytes (h.file a.source) [])) f)

-- the source was fetched and assembled
pub source_fetched : (a : AsmFiles) (items : List ℕ) (ended : Option Refusal) (h j k : Outside) → IsFetched 1048576 (h.file a.source) items
    → Fetches a.source None h j
    → Stage (asm_verdict a.elf items) no_fetches (naming Image a.out ∷ []) ended None j k → Performs (Some (Asm a)) ended None h k
source_fetched a items ended h j k fetched f s =
    performs_by a items ended h k (stage_as (asm_verdict a.elf (file_bytes (h.file a.source) items)) (asm_verdict a.elf items)
    (λ v. a.source ∷ no_fetches v) (naming Image a.out ∷ []) ended None h k
    (asm_fetched a.elf (file_bytes (h.file a.source) items) items fetched.front) (fetched_stage (asm_verdict a.elf items) a.source no_fetches
    (naming Image a.out ∷ []) ended None h j k f s))
