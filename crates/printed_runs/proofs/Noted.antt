-- Lines of a text that were noted, one by one.
use Rattle.std.proofs.Common.{◌≡◌, ◌∙◌, ◌==◌, ℕ, List, [], ◌∷◌, length, true, sym, ap, arith, subst}
use Rattle.std.proofs.lemmas.Bool.Decides.{nat_tests}
use Rattle.printed_runs.specs.Notes.{note_of, said_after}
use Rattle.printed_runs.specs.Semaphores.{Knows}
use Rattle.printed_runs.specs.declared.notes.Note.{Note}
use Rattle.printed_runs.specs.declared.usages.Usages.{Usages}
use Rattle.text_lines.specs.Lines.{lines_of}

-- one line more
pub one_noted : (text rest left line : List ℕ) (said now : List Note) (old new : Usages) (x : Note) → lines_of rest ≡ line ∷ lines_of left
    → x ≡ note_of line → (Knows now old → Knows (x ∷ now) new) → Knows now old
    → said_after (lines_of rest) now ≡ said_after (lines_of text) said
    → (next : List Note) × (Knows next new × (said_after (lines_of left) next ≡ said_after (lines_of text) said))
one_noted text rest left line said now old new x cut is noted knows same = (
  note_of line ∷ now,
  (subst (λ n. Knows (n ∷ now) new) is (noted knows), sym (ap (λ ls. said_after ls now) cut) ∙ same),
)

-- nothing is left
pub all_noted : (text rest : List ℕ) (said now : List Note) (u : Usages) → length rest == 0 ≡ true → Knows now u
    → said_after (lines_of rest) now ≡ said_after (lines_of text) said → Knows (said_after (lines_of text) said) u
all_noted text [] said now u none knows same = subst (λ s. Knows s u) same knows
all_noted text (b ∷ rest) said now u none knows same = let never : ⊥ = grind (arith, nat_tests) in absurd never
