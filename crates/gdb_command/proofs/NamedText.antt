-- Lines with the names of processes, one after another.
use Rattle.std.proofs.Common.{◌≡◌, ◌∙◌, ℕ, ◌==◌, true, List, [], ◌∷◌, ◌++◌, codes, length, refl, sym, ap, append-nil, append_assoc, arith}
use Rattle.std.specs.List.{flat_map}
use Rattle.gdb_command.specs.Monitor.{named_and_fed, named_lines}
use Rattle.printed_runs.specs.Names.{named_line}
use Rattle.text_lines.specs.Lines.{lines_of}

named_none : (rest : List ℕ) → true ≡ (length rest == 0) → named_lines rest ≡ []
unfolding named_lines
named_none [] none = refl
named_none (b ∷ rest) none = absurd (search (arith, none))

named_more : (rest line next : List ℕ) → lines_of rest ≡ line ∷ lines_of next → named_lines rest ≡ named_and_fed line ++ named_lines next
unfolding named_lines
named_more rest line next cut = ap (flat_map named_and_fed) cut

-- one line more
pub named_step : (t0 t1 t2 all line next rest : List ℕ) → t0 ++ named_lines rest ≡ all → lines_of rest ≡ line ∷ lines_of next
    → t1 ≡ t0 ++ named_line line → t2 ≡ t1 ++ codes "\n" → t2 ++ named_lines next ≡ all
named_step t0 t1 t2 all line next rest is cut one two =
    let whole : t2 ≡ t0 ++ named_and_fed line = two ∙ ap (λ (t : List ℕ). t ++ codes "\n") one ∙ simp append_assoc in
    ap (λ (t : List ℕ). t ++ named_lines next) whole
    ∙ append_assoc t0 (named_and_fed line) (named_lines next)
    ∙ ap (λ (t : List ℕ). t0 ++ t) (sym (named_more rest line next cut))
    ∙ is

-- all of them
pub named_end : (t all rest : List ℕ) → t ++ named_lines rest ≡ all → true ≡ (length rest == 0) → t ≡ all
named_end t all rest is none = sym (ap (λ (s : List ℕ). t ++ s) (named_none rest none) ∙ append-nil t) ∙ is
