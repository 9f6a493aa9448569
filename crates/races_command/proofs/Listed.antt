-- Lines that are listed alike are the same.
use Rattle.std.proofs.Common.{◌≡◌, ◌∙◌, ◌==◌, ◌&&◌, ℕ, Bool, true, false, not, if◌then◌else◌, List, [], ◌∷◌, ◌++◌, codes, drop, refl, sym, ap, append_assoc, arith}
use Rattle.std.specs.Prelude.{nat_le}
use Rattle.std.specs.Str.{bytes_eq}
use Rattle.std.specs.List.{All, flat_map, list_all}
use Rattle.std.proofs.lemmas.Bool.{and_from, and_parts, leb-true, ne_eqb}
use Rattle.std.proofs.lemmas.List.Elements.{All-head, All-tail}
use Rattle.printed_runs.proofs.Digits.{name_of-shown}
use Rattle.printed_runs.proofs.Named.{named_apart}
use Rattle.printed_runs.specs.Names.{has_mark, is_name, is_shown, name_of, name_text, name_word, named_line}
use Rattle.printed_runs.specs.Notes.{first_word}
use Rattle.race_tables.specs.Outcomes.{fed}
use Rattle.races_command.specs.Shown.{indented, is_plain, listed}
use Rattle.schedule_text.proofs.Reading.{line_first}
use Rattle.text_lines.specs.Lines.{lines_of, tokens_of}

-- Neither line feed nor carriage return is in a line.
abbrev IsPlain : List ℕ → Type 0
IsPlain line = list_all is_plain line ≡ true

rest_plain : (b : ℕ) (line : List ℕ) → IsPlain (b ∷ line) → IsPlain line
rest_plain b line plain = (and_parts (is_plain b) (list_all is_plain line) plain).1

no_feed : (b : ℕ) (line : List ℕ) → IsPlain (b ∷ line) → not (b == 10) ≡ true
no_feed b line plain = (and_parts (not (b == 10)) (not (b == 13)) (and_parts (is_plain b) (list_all is_plain line) plain).0).0

-- ---- the lines of a text that is made of lines

lines_back : (lines : List (List ℕ)) → All IsPlain lines → lines_of (flat_map fed lines) ≡ lines
lines_back [] plain = refl
lines_back (line ∷ lines) plain =
    ap lines_of (append_assoc line (10 ∷ []) (flat_map fed lines))
    ∙ line_first line (flat_map fed lines) (All-head IsPlain line lines plain)
    ∙ ap (λ (rest : List (List ℕ)). line ∷ rest) (lines_back lines (All-tail IsPlain line lines plain))

listed_lines : (lines : List (List ℕ)) → All IsPlain lines → listed (flat_map fed lines) ≡ flat_map indented lines
unfolding listed
listed_lines lines plain = ap (flat_map indented) (lines_back lines plain)

-- ---- the name after a line

shown_plain : (b : ℕ) → is_shown b ≡ true → is_plain b ≡ true
shown_plain b shown =
    let low = leb-true 32 b (and_parts (nat_le 32 b) (nat_le b 126 && not (b == 34)) shown).0 in
    and_from (not (b == 10)) (not (b == 13)) (ap not (ne_eqb b 10 (λ same. absurd (omega (arith, same, low))))) (ap not (ne_eqb b 13 (λ same. absurd (omega (arith, same, low)))))

shown_all : (bytes : List ℕ) → list_all is_shown bytes ≡ true → IsPlain bytes
shown_all [] shown = refl
shown_all (b ∷ bytes) shown =
    let both = and_parts (is_shown b) (list_all is_shown bytes) shown in
    and_from (is_plain b) (list_all is_plain bytes) (shown_plain b both.0) (shown_all bytes both.1)

plain_both : (x y : List ℕ) → IsPlain x → IsPlain y → IsPlain (x ++ y)
plain_both [] y one other = other
plain_both (b ∷ x) y one other =
    let both = and_parts (is_plain b) (list_all is_plain x) one in
    and_from (is_plain b) (list_all is_plain (x ++ y)) both.0 (plain_both x y both.1 other)

text_plain : (told : Bool) (digits : List ℕ) → (told ≡ true → is_name digits ≡ true)
    → IsPlain (if told then codes " \"" ++ name_of digits ++ codes "\"" else [])
text_plain true digits name = plain_both (name_of digits) (codes "\"") (shown_all (name_of digits) (name_of-shown digits (name refl))) refl
text_plain false digits name = refl

line_plain : (marked : Bool) (line added : List ℕ) → IsPlain line → IsPlain added → IsPlain (if marked then 34 ∷ line else line ++ added)
line_plain true line added plain more = plain
line_plain false line added plain more = plain_both line added plain more

named_plain : (line : List ℕ) → IsPlain line → IsPlain (named_line line)
named_plain line plain =
    let words = tokens_of line in
    let is_told = bytes_eq (first_word words) (codes "proc") in
    line_plain (has_mark line) line (name_text words) plain
    (text_plain (is_told && is_name (name_word words)) (name_word words) (λ told. (and_parts is_told (is_name (name_word words)) told).1))

-- ---- where a line ends

front_back : (x y r s : List ℕ) → IsPlain x → IsPlain y → x ++ 10 ∷ r ≡ y ++ 10 ∷ s → (x ≡ y) × (r ≡ s)
front_back [] [] r s one other same = (refl, ap (drop 1) same)
front_back [] (c ∷ y) r s one other same = absurd (cc (no_feed c y other, same))
front_back (b ∷ x) [] r s one other same = absurd (cc (no_feed b x one, same))
front_back (b ∷ x) (c ∷ y) r s one other same =
    let rest = front_back x y r s (rest_plain b x one) (rest_plain c y other) (ap (drop 1) same) in
    (cc (rest.0, same), rest.1)

indented_line : (line rest : List ℕ) → indented line ++ rest ≡ 32 ∷ 32 ∷ named_line line ++ 10 ∷ rest
indented_line line rest = ap (λ (t : List ℕ). 32 ∷ 32 ∷ t) (append_assoc (named_line line) (10 ∷ []) rest)

indented_apart : (one other : List (List ℕ)) → All IsPlain one → All IsPlain other → flat_map indented one ≡ flat_map indented other → one ≡ other
indented_apart [] [] plain others same = refl
indented_apart [] (y ∷ other) plain others same = absurd (cc (same ∙ indented_line y (flat_map indented other)))
indented_apart (x ∷ one) [] plain others same = absurd (cc (sym same ∙ indented_line x (flat_map indented one)))
indented_apart (x ∷ one) (y ∷ other) plain others same =
    let whole = sym (indented_line x (flat_map indented one)) ∙ same ∙ indented_line y (flat_map indented other) in
    let parts = front_back (named_line x) (named_line y) (flat_map indented one) (flat_map indented other) (named_plain x (All-head IsPlain x one plain))
    (named_plain y (All-head IsPlain y other others)) (ap (drop 2) whole) in
    let rest = indented_apart one other (All-tail IsPlain x one plain) (All-tail IsPlain y other others) parts.1 in
    cc (named_apart x y parts.0, rest)

pub told_apart : (one other : List (List ℕ)) → All IsPlain one → All IsPlain other → listed (flat_map fed one) ≡ listed (flat_map fed other) → one ≡ other
told_apart one other plain others same =
    indented_apart one other plain others (sym (listed_lines one plain) ∙ same ∙ listed_lines other others)
