-- What `asm` deserves by the bytes of its source: it is assembled, and the file is written as it is or as an ELF file.
use Rattle.std.specs.Prelude.{ℕ, nat_le, Bool, if◌then◌else◌, List, [], length, Some, None}
use Rattle.std.specs.Option.{option_map_or}
use Rattle.elf_loader.specs.WrittenElf.{elf_file}
use Rattle.image_loader.specs.ImageFiles.{image_in}
use Rattle.rv_asm.specs.Assembly.{Assembly, Makes, Fails, assembly}
use Rattle.rv_asm.specs.declared.faults.AsmFault.{AsmFault}
use Rattle.rv_asm.specs.declared.faults.AsmFault.TheVariants as asm
use Rattle.xinu_commands.specs.Work.{Verdict, Refuses, Does, Outputs}
use Rattle.run_inputs.specs.declared.refusals.Refusal.{Refusal}
use Rattle.run_inputs.specs.declared.refusals.Refusal.TheVariants as refusal

-- the most bytes of a source: 1 MiB
abbrev pub longest_source : ℕ
longest_source = 1048576

-- the refusal of a text with a fault, by its line and the number of the fault
abbrev pub asm_refusal : AsmFault → Refusal
asm_refusal (asm.BadLine line) = refusal.Asm line 1
asm_refusal (asm.UnknownName line) = refusal.Asm line 2
asm_refusal (asm.OutOfRange line) = refusal.Asm line 3
asm_refusal (asm.DoubleLabel line) = refusal.Asm line 4
asm_refusal asm.NoMemory = refusal.NoMemory

-- an image file as an ELF file, with the image that it loads (what is assembled loads)
unfoldable pub as_elf : List ℕ → List ℕ
as_elf file = option_map_or elf_file (image_in file) []

-- the file that is written of an image file
abbrev pub written_file : Bool → List ℕ → List ℕ
written_file elf file = if elf then as_elf file else file

-- what a text deserves by what it is assembled to
abbrev pub assembly_verdict : Bool → Assembly → Verdict
assembly_verdict elf (Makes file) = Does (Outputs [] None (Some (written_file elf file)))
assembly_verdict elf (Fails fault) = Refuses (asm_refusal fault)

-- A source that is too long is out of range at line 0. Any other is assembled.
unfoldable pub asm_verdict : Bool → List ℕ → Verdict
asm_verdict elf source =
    if nat_le (length source) longest_source then assembly_verdict elf (assembly source) else Refuses (refusal.Asm 0 3)
