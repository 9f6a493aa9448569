-- Ends of an answer.
use Rattle.std.proofs.Common.{ℕ, ◌≡◌, ◌∙◌, ◌≤◌, List, refl, sym, arith, ap, subst}
use Rattle.host_port.specs.HostCalls.{Rose}
use Rattle.host_port.specs.Outside.{Outside, counted, fetching, with_calls}
use Rattle.run_inputs.proofs.FetchedFiles.{fetched_front}
use Rattle.refusal_words.specs.Tellings.{TellsInWords}
use Rattle.run_inputs.specs.Refusals.{status_of}
use Rattle.run_inputs.specs.declared.refusals.Refusal.{Refusal}
use Rattle.run_inputs.specs.declared.refusals.Refusal.TheVariants as refusal
use Rattle.std.proofs.lemmas.Bool.Decides.{nat_tests}
use Rattle.std.specs.Prelude.{nat_le, codes, length, ◌<◌, ◌∷◌, [], true, false, take, MatchOption, ⊤}
use Rattle.rv_asm.specs.Assembly.{IsFaultOf, Makes, Fails, assembly}
use Rattle.rv_asm.specs.Listings.{listing}
use Rattle.rv_asm.specs.declared.faults.AsmFault.{AsmFault}
use Rattle.rv_asm.specs.declared.faults.AsmFault.TheVariants as fault
use Rattle.fault_words.specs.Texts.{told}
use Rattle.listing_command.specs.Answers.{Answer, AnswersFile, Ends, Gives, Lists, Refuses, answer, answer_of_assembly, asm_refusal}

rose_along : (a b c d : ℕ) → a ≤ b → Rose b c → c ≤ d → Rose a d
rose_along a b c d first rose last = omega (arith, first, rose, last)

-- a refusal was told, which isn't one of the host
pub ends_told : (cause : Refusal) (line : List ℕ) (status : ℕ) (old new : Outside) → (status_of cause ≡ 3 → ⊥)
    → TellsInWords cause line status old new → Ends (Refuses cause line) status old new
ends_told cause line status old new other told = record {
  gives = λ three seven. told;
  failed = λ three. absurd (other (sym (told.answer (λ seven. cc)) ∙ three));
  later = told.later;
}

-- the host failed
pub ends_failed : (v : Answer) (line : List ℕ) (status : ℕ) (old mid new : Outside) → old.faults ≤ mid.faults → Rose old.faults mid.faults
    → TellsInWords refusal.HostFault line status mid new → Ends v status old new
ends_failed v line status old mid new later rose told = record {
  gives = λ three seven. absurd (three (told.answer seven));
  failed = λ three. rose_along old.faults old.faults mid.faults new.faults (omega arith) rose told.later;
  later = omega (arith, later, told.later);
}

-- memory ran out
pub ends_lost : (v : Answer) (line : List ℕ) (status : ℕ) (old mid new : Outside) → old.faults ≤ mid.faults
    → TellsInWords refusal.NoMemory line status mid new → Ends v status old new
ends_lost v line status old mid new later told = record {
  gives = λ three seven. absurd (seven (told.answer seven));
  failed = λ three. absurd (not_both (told.answer (λ seven. cc)) three);
  later = omega (arith, later, told.later);
}
  where
    not_both : {s : ℕ} → s ≡ 7 → s ≡ 3 → ⊥
    not_both seven three = cc

-- a source that is too long
pub answer-long : (source : List ℕ) → 1048576 < length source
    → answer source ≡ Refuses (refusal.Asm 0 3) (codes "the text has over 1048576 bytes\n")
unfolding answer
answer-long source long =
    let test : nat_le (length source) 1048576 ≡ false = grind (arith, nat_tests) in
    rw test refl

-- a source that isn't, by what it is assembled to
answer-short : (source : List ℕ) → length source ≤ 1048576 → answer source ≡ answer_of_assembly source (assembly source)
unfolding answer
answer-short source short =
    let test : nat_le (length source) 1048576 ≡ true = grind (arith, nat_tests) in
    rw test refl

-- a source that is too long was refused
pub ends_long : (source line : List ℕ) (status : ℕ) (old new : Outside) → 1048576 < length source
    → line ≡ codes "the text has over 1048576 bytes\n" → TellsInWords (refusal.Asm 0 3) line status old new → Ends (answer source) status old new
ends_long source line status old new long is told =
    subst (λ (v : Answer). Ends v status old new) (ap (Refuses (refusal.Asm 0 3)) is ∙ sym (answer-long source long))
    (ends_told (refusal.Asm 0 3) line status old new (λ e. cc) told)

-- the listing of a source was sent
pub ends_listed : (source file : List ℕ) (status : ℕ) (old new : Outside) → length source ≤ 1048576 → assembly source ≡ Makes file
    → Ends (Lists (listing source)) status old new → Ends (answer source) status old new
ends_listed source file status old new short is ends =
    subst (λ (v : Answer). Ends v status old new) (sym (answer-short source short ∙ ap (answer_of_assembly source) is)) ends

ends_fails : (source : List ℕ) (f : AsmFault) (status : ℕ) (old new : Outside) → length source ≤ 1048576 → assembly source ≡ Fails f
    → Ends (Refuses (asm_refusal f) (told f source)) status old new → Ends (answer source) status old new
ends_fails source f status old new short is ends =
    subst (λ (v : Answer). Ends v status old new) (sym (answer-short source short ∙ ap (answer_of_assembly source) is)) ends

-- a source with a fault was refused
pub ends_refused : (source : List ℕ) (f : AsmFault) (status : ℕ) (old new : Outside) → length source ≤ 1048576 → IsFaultOf f source
    → Ends (Refuses (asm_refusal f) (told f source)) status old new → Ends (answer source) status old new
ends_refused source (fault.BadLine k) status old new short is ends = ends_fails source (fault.BadLine k) status old new short is ends
ends_refused source (fault.UnknownName k) status old new short is ends = ends_fails source (fault.UnknownName k) status old new short is ends
ends_refused source (fault.OutOfRange k) status old new short is ends = ends_fails source (fault.OutOfRange k) status old new short is ends
ends_refused source (fault.DoubleLabel k) status old new short is ends = ends_fails source (fault.DoubleLabel k) status old new short is ends
ends_refused source fault.NoMemory status old new short is ends = record {
  gives = λ three seven. absurd (seven ((ends.gives three seven).answer seven));
  failed = ends.failed;
  later = ends.later;
}

-- a file was fetched, and what its bytes deserve was answered
pub answers_fetched : (name bytes : List ℕ) (status : ℕ) (old mid new : Outside) → length bytes ≤ 1048577
    → MatchOption (old.file name) ⊤ (λ all. bytes ≡ take 1048577 all) → mid ≡ counted (with_calls old (fetching name ∷ [])) mid.faults
    → old.faults ≤ mid.faults → Ends (answer bytes) status mid new → AnswersFile name status old new
answers_fetched name bytes status old mid new few front is later ends = record {
  gives = λ three seven. (
    bytes,
    (
      fetched_front 1048576 (old.file name) bytes few front,
      (mid.faults, subst (λ (m : Outside). Gives (answer bytes) status m new) is (ends.gives three seven)),
    ),
  );
  failed = λ three. rose_along old.faults mid.faults new.faults new.faults later (ends.failed three) (omega arith);
}

-- nothing was fetched
pub answers_unread : (name : List ℕ) (status : ℕ) (old new : Outside) → Ends (Lists []) status old new → (status ≡ 0 → ⊥)
    → AnswersFile name status old new
answers_unread name status old new ends other = record {
  gives = λ three seven. absurd (other (ends.gives three seven).0);
  failed = ends.failed;
}

-- no other status than 3 and 7 comes of the host
pub never_done : (line : List ℕ) (cause : Refusal) (status : ℕ) (old new : Outside) → (status_of cause ≡ 0 → ⊥) → TellsInWords cause line status old new
    → status ≡ 0 → ⊥
never_done line cause status old new other told zero = other (sym (told.answer (λ seven. cc)) ∙ zero)
