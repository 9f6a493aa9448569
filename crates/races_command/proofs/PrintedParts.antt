-- The parts of a printed table, step by step.
use Rattle.std.proofs.Common.{◌≡◌, ◌∙◌, ℕ, ◌==◌, ◌≤◌, true, false, List, [], ◌∷◌, ◌++◌, codes, length, take, refl, sym, ap, append_assoc, arith}
use Rattle.std.specs.List.{flat_map}
use Rattle.std.proofs.lemmas.List.{append-nil, take_all}
use Rattle.preemptions.specs.declared.stretches.Stretch.{Stretch}
use Rattle.races_command.specs.Printed.{bounds_text, stretch_text}
use Rattle.races_command.specs.Shown.{indented, listed, number_of, places_text, place_text, shown_console, shown_line}
use Rattle.printed_runs.specs.Names.{named_line}
use Rattle.text_lines.specs.Lines.{lines_of, tokens_of}

-- ---- places

some_places : (places : List ℕ) → false ≡ (length places == 0) → places_text places ≡ flat_map place_text places
unfolding places_text
some_places [] some = cc
some_places (place ∷ places) some = refl

none_text : (places : List ℕ) → true ≡ (length places == 0) → places_text places ≡ codes " none"
unfolding places_text
none_text [] none = refl
none_text (place ∷ places) none = absurd (search (arith, none))

pub no_places : (text old places : List ℕ) → text ≡ old ++ codes " none" → true ≡ (length places == 0) → text ≡ old ++ places_text places
no_places text old places is none = is ∙ ap (λ (t : List ℕ). old ++ t) (sym (none_text places none))

pub places_end : (text old places : List ℕ) (i : ℕ) → text ≡ old ++ flat_map place_text (take i places) → length places ≤ i
    → false ≡ (length places == 0) → text ≡ old ++ places_text places
places_end text old places i is all some =
    is ∙ ap (λ (xs : List ℕ). old ++ flat_map place_text xs) (take_all i places all) ∙ ap (λ (xs : List ℕ). old ++ xs) (sym (some_places places some))

-- ---- lines of the console

shown_none : (rest : List ℕ) → true ≡ (length rest == 0) → shown_console rest ≡ []
unfolding shown_console
shown_none [] none = refl
shown_none (b ∷ rest) none = absurd (search (arith, none))

shown_more : (rest line next : List ℕ) → lines_of rest ≡ line ∷ lines_of next → shown_console rest ≡ shown_line (tokens_of line) ++ shown_console next
unfolding shown_console
shown_more rest line next is = ap (flat_map (λ line. shown_line (tokens_of line))) is

-- one more line is shown
pub shown_step : (t0 t1 all line next rest : List ℕ) → t0 ++ shown_console rest ≡ all → lines_of rest ≡ line ∷ lines_of next
    → t1 ≡ t0 ++ shown_line (tokens_of line) → t1 ++ shown_console next ≡ all
shown_step t0 t1 all line next rest is cut added =
    ap (λ (t : List ℕ). t ++ shown_console next) added
    ∙ append_assoc t0 (shown_line (tokens_of line)) (shown_console next)
    ∙ ap (λ (t : List ℕ). t0 ++ t) (sym (shown_more rest line next cut))
    ∙ is

pub shown_end : (t all rest : List ℕ) → t ++ shown_console rest ≡ all → true ≡ (length rest == 0) → t ≡ all
shown_end t all rest is none = sym (ap (λ (s : List ℕ). t ++ s) (shown_none rest none) ∙ append-nil t) ∙ is

-- ---- lines of the tables

listed_none : (rest : List ℕ) → true ≡ (length rest == 0) → listed rest ≡ []
unfolding listed
listed_none [] none = refl
listed_none (b ∷ rest) none = absurd (search (arith, none))

listed_more : (rest line next : List ℕ) → lines_of rest ≡ line ∷ lines_of next → listed rest ≡ indented line ++ listed next
unfolding listed
listed_more rest line next cut = ap (flat_map indented) cut

-- one more line is listed
pub listed_step : (t0 t1 t2 t3 all line next rest : List ℕ) → t0 ++ listed rest ≡ all → lines_of rest ≡ line ∷ lines_of next
    → t1 ≡ t0 ++ codes "  " → t2 ≡ t1 ++ named_line line → t3 ≡ t2 ++ codes "\n" → t3 ++ listed next ≡ all
listed_step t0 t1 t2 t3 all line next rest is cut one two three =
    let whole : t3 ≡ t0 ++ indented line = three ∙ ap (λ (t : List ℕ). t ++ codes "\n") (two ∙ ap (λ (t : List ℕ). t ++ named_line line) one) ∙ simp append_assoc in
    ap (λ (t : List ℕ). t ++ listed next) whole
    ∙ append_assoc t0 (indented line) (listed next)
    ∙ ap (λ (t : List ℕ). t0 ++ t) (sym (listed_more rest line next cut))
    ∙ is

pub listed_end : (t all rest : List ℕ) → t ++ listed rest ≡ all → true ≡ (length rest == 0) → t ≡ all
listed_end t all rest is none = sym (ap (λ (s : List ℕ). t ++ s) (listed_none rest none) ∙ append-nil t) ∙ is

-- ---- the last line

pub bounds_are : (t0 t1 t2 t3 : List ℕ) (most m : ℕ) (s : Stretch) → t1 ≡ t0 ++ codes ", with at most " → t2 ≡ t1 ++ number_of m (codes "preemption")
    → t3 ≡ t2 ++ stretch_text s → m ≡ most → t3 ≡ t0 ++ bounds_text most s
unfolding bounds_text
bounds_are t0 t1 t2 t3 most m s one two three same =
    let whole : t3 ≡ t0 ++ bounds_text m s = three ∙ ap (λ (t : List ℕ). t ++ stretch_text s)
    (two ∙ ap (λ (t : List ℕ). t ++ number_of m (codes "preemption")) one) ∙ simp append_assoc in
    whole ∙ ap (λ (n : ℕ). t0 ++ bounds_text n s) same
