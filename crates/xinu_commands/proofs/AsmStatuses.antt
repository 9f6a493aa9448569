-- Why the exit statuses of `asm` say what they do of its source.
use Rattle.std.proofs.Common.{◌≡◌, ◌≢◌, ◌∙◌, ◌≤◌, inl, inr, ℕ, Bool, List, length, Option, Some, refl, ap, arith}
use Rattle.std.proofs.lemmas.Bool.{cases_lt}
use Rattle.command_line.specs.AsmArgs.{AsmFiles}
use Rattle.command_line.specs.Commands.{Asm}
use Rattle.host_port.specs.Outside.{Outside}
use Rattle.rv_asm.specs.Assembly.{Assembly, Makes, Fails, assembly}
use Rattle.rv_asm.specs.declared.faults.AsmFault.{AsmFault}
use Rattle.rv_asm.specs.declared.faults.AsmFault.TheVariants as asm
use Rattle.xinu_commands.specs.AsmVerdict.{asm_refusal, asm_verdict}
use Rattle.run_inputs.specs.Refusals.{status_of}
use Rattle.xinu_commands.specs.Statuses.{HasFault, IsAssembled, SaysOfSource, status_due}
use Rattle.xinu_commands.specs.Theorem.{Answers}
use Rattle.run_inputs.specs.InputFiles.{file_bytes}
use Rattle.xinu_commands.specs.Verdict.{SourceInput}
use Rattle.xinu_commands.specs.Work.{Left}
use Rattle.xinu_commands.proofs.Assembled.{asm_long, asm_short}
use Rattle.xinu_commands.proofs.Statuses.{due}

not_both : (source : List ℕ) → IsAssembled source → HasFault source → ⊥
not_both source good (inl long) = (let short = good.short in omega arith)
not_both source good (inr fails) = (let makes = good.makes in let is = fails.1 in cc)

assembled_says : (exit : ℕ) (source : List ℕ) → IsAssembled source → exit ≡ 0 → SaysOfSource exit source
assembled_says exit source good is = record {
  done = (λ e. good, λ p. is);
  bad_source = (λ e. absurd (cc), λ bad. absurd (not_both source good bad));
}

refused_says : (exit : ℕ) (source : List ℕ) → HasFault source → exit ≡ 9 → SaysOfSource exit source
refused_says exit source bad is = record {
  done = (λ e. absurd (cc), λ good. absurd (not_both source good bad));
  bad_source = (λ e. bad, λ p. is);
}

-- by the fault of the text
fault_says : (exit : ℕ) (source : List ℕ) (f : AsmFault) → HasFault source → exit ≢ 7 → exit ≡ status_of (asm_refusal f)
    → SaysOfSource exit source
fault_says exit source (asm.BadLine l) bad memory is = refused_says exit source bad is
fault_says exit source (asm.UnknownName l) bad memory is = refused_says exit source bad is
fault_says exit source (asm.OutOfRange l) bad memory is = refused_says exit source bad is
fault_says exit source (asm.DoubleLabel l) bad memory is = refused_says exit source bad is
fault_says exit source asm.NoMemory bad memory is = absurd (memory is)

-- by what the text is assembled to
text_says : (exit : ℕ) (elf : Bool) (source : List ℕ) (a : Assembly) → length source ≤ 1048576 → assembly source ≡ a → exit ≢ 7
    → exit ≡ status_due (asm_verdict elf source)
    → SaysOfSource exit source
text_says exit elf source (Makes file) short is memory due_is =
    assembled_says exit source (record { short = short; file = file; makes = is })
    (due_is ∙ ap status_due (asm_short elf source (Makes file) short is))
text_says exit elf source (Fails f) short is memory due_is =
    fault_says exit source f (inr (f, is)) memory (due_is ∙ ap status_due (asm_short elf source (Fails f) short is))

source_says : (exit : ℕ) (elf : Bool) (source : List ℕ) → exit ≢ 7 → exit ≡ status_due (asm_verdict elf source) → SaysOfSource exit source
source_says exit elf source memory due_is =
    elim (cases_lt 1048576 (length source)) [
      | inl long ↦ refused_says exit source (inl long) (due_is ∙ ap status_due (asm_long elf source long))
      | inr short ↦ text_says exit elf source (assembly source) short refl memory due_is
    ]

pub says_of_source : (exit : ℕ) (a : AsmFiles) (old new : Outside) (left : Option Left) (s : Answers exit (Some (Asm a)) old new left)
    → exit ≢ 7 → exit ≢ 3
    → SaysOfSource exit (file_bytes (old.file a.source) (s.obeys.unseen SourceInput))
says_of_source exit a old new left s memory fault =
    source_says exit a.elf (file_bytes (old.file a.source) (s.obeys.unseen SourceInput)) memory
    (due exit (Some (Asm a)) old new left s memory fault)
