-- What the bytes of a source deserve: its listing, or a refusal with a line that says it in words.
use Rattle.std.specs.Prelude.{◌≡◌, ◌≢◌, ◌≤◌, ℕ, nat_le, if◌then◌else◌, List, [], ◌∷◌, length, codes}
use Rattle.host_port.specs.HostCalls.{Rose}
use Rattle.host_port.specs.Outside.{Outside, appended, counted, fetching, with_calls}
use Rattle.host_port.specs.declared.host.Channel.TheVariants.{Out}
use Rattle.refusal_words.specs.Meanings.{meaning}
use Rattle.refusal_words.specs.Tellings.{TellsInWords}
use Rattle.run_inputs.specs.Fetching.{IsFetched}
use Rattle.run_inputs.specs.declared.refusals.Refusal.{Refusal}
use Rattle.run_inputs.specs.declared.refusals.Refusal.TheVariants as refusal
use Rattle.rv_asm.specs.Assembly.{Assembly, Makes, Fails, assembly}
use Rattle.rv_asm.specs.Listings.{listing}
use Rattle.rv_asm.specs.declared.faults.AsmFault.{AsmFault}
use Rattle.rv_asm.specs.declared.faults.AsmFault.TheVariants as asm
use Rattle.fault_words.specs.Texts.{told}

-- what a source deserves
pub data Answer : Type 0 where
  Lists : List ℕ → Answer
  Refuses : Refusal → List ℕ → Answer

-- the most bytes of a source: 1 MiB
abbrev pub longest_source : ℕ
longest_source = 1048576

-- the refusal of a text with a fault, by its line and the number of the fault, as `asm` has it
abbrev pub asm_refusal : AsmFault → Refusal
asm_refusal (asm.BadLine line) = refusal.Asm line 1
asm_refusal (asm.UnknownName line) = refusal.Asm line 2
asm_refusal (asm.OutOfRange line) = refusal.Asm line 3
asm_refusal (asm.DoubleLabel line) = refusal.Asm line 4
asm_refusal asm.NoMemory = refusal.NoMemory

-- what a source deserves by what it is assembled to
abbrev pub answer_of_assembly : List ℕ → Assembly → Answer
answer_of_assembly source (Makes file) = Lists (listing source)
answer_of_assembly source (Fails fault) = Refuses (asm_refusal fault) (told fault source)

-- what a source deserves: one that is too long is out of range at line 0, and any other is assembled
unfoldable pub answer : List ℕ → Answer
answer source =
    if nat_le (length source) longest_source then answer_of_assembly source (assembly source)
    else Refuses (refusal.Asm 0 3) (codes "the text has over 1048576 bytes\n")

-- An answer was given: the listing was sent on Out, with status 0; or the refusal was told in words, with its status.
abbrev pub Gives : Answer → ℕ → Outside → Outside → Type 0
Gives (Lists text) status old new = (status ≡ 0) × (new ≡ counted (appended old Out text) new.faults)
Gives (Refuses cause line) status old new = TellsInWords cause line status old new

-- This answer was given, unless the host failed (status 3, and only if the count of faults rose) or memory ran out (status 7).
pub record Ends (v : Answer) (status : ℕ) (old new : Outside) : Type 0 where
  pub gives : status ≢ 3 → status ≢ 7 → Gives v status old new
  pub failed : status ≡ 3 → Rose old.faults new.faults
  pub later : old.faults ≤ new.faults

-- A file was fetched and the answer that its bytes deserve was given, unless the host failed (status 3, and only if the count of faults rose) or
-- memory ran out (status 7).
pub record AnswersFile (name : List ℕ) (status : ℕ) (old new : Outside) : Type 0 where
  pub gives : status ≢ 3 → status ≢ 7 → (source : List ℕ) × (IsFetched 1048576 (old.file name) source × ((n : ℕ) × Gives (answer source) status (counted (with_calls old (fetching name ∷ [])) n) new))
  pub failed : status ≡ 3 → Rose old.faults new.faults

-- What the arguments ask for was answered: of one name what the bytes of its file deserve; any others are refused in words.
abbrev pub AnswersWords : List (List ℕ) → ℕ → Outside → Outside → Type 0
AnswersWords (name ∷ []) status old new = AnswersFile name status old new
AnswersWords words status old new = TellsInWords refusal.Usage (meaning (codes "SOURCE") refusal.Usage) status old new
