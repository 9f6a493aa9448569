-- A line can be read off what is shown of it.
use Rattle.std.proofs.Common.{◌≡◌, ◌∙◌, ℕ, ◌==◌, ◌&&◌, Bool, true, false, if◌then◌else◌, List, [], ◌∷◌, ◌++◌, codes, refl, sym, ap, append-nil, ⊎_elim}
use Rattle.std.proofs.Math.Bool.{and-false}
use Rattle.std.proofs.lemmas.Bool.{cases_Bool, or_parts}
use Rattle.std.specs.Str.{bytes_eq}
use Rattle.printed_runs.specs.Names.{has_mark, is_name, name_of, name_text, name_word, named_line}
use Rattle.printed_runs.specs.Notes.{first_word}
use Rattle.text_lines.specs.Lines.{tokens_of}

-- whether bytes begin with a quotation mark
abbrev begins : List ℕ → Bool
begins [] = false
begins (b ∷ bytes) = b == 34

-- what comes before a blank and a quotation mark
abbrev before_mark : List ℕ → List ℕ
before_mark [] = []
before_mark (b ∷ bytes) = if (b == 32) && begins bytes then [] else b ∷ before_mark bytes

-- the line of which this is shown
abbrev line_of : List ℕ → List ℕ
line_of [] = []
line_of (b ∷ bytes) = if b == 34 then bytes else before_mark (b ∷ bytes)

rest_unmarked : (b : ℕ) (line : List ℕ) → has_mark (b ∷ line) ≡ false → has_mark line ≡ false
rest_unmarked b line none = (or_parts (b == 34) (has_mark line) none).1

begins_not : (line : List ℕ) → has_mark line ≡ false → begins line ≡ false
begins_not [] none = refl
begins_not (b ∷ line) none = (or_parts (b == 34) (has_mark line) none).0

-- a byte that no mark follows
goes_on : (b : ℕ) (bytes : List ℕ) → begins bytes ≡ false → before_mark (b ∷ bytes) ≡ b ∷ before_mark bytes
goes_on b bytes not_yet =
    ap (λ (t : Bool). if (b == 32) && t then [] else b ∷ before_mark bytes) not_yet
    ∙ ap (λ (t : Bool). if t then [] else b ∷ before_mark bytes) (and-false (b == 32))

before_none : (line : List ℕ) → has_mark line ≡ false → before_mark line ≡ line
before_none [] none = refl
before_none (b ∷ line) none =
    let rest = rest_unmarked b line none in
    goes_on b line (begins_not line rest) ∙ ap (λ (bytes : List ℕ). b ∷ bytes) (before_none line rest)

added_later : (line name : List ℕ) → has_mark line ≡ false → begins (line ++ 32 ∷ 34 ∷ name) ≡ false
added_later [] name none = refl
added_later (b ∷ line) name none = begins_not (b ∷ line) none

before_added : (line name : List ℕ) → has_mark line ≡ false → before_mark (line ++ 32 ∷ 34 ∷ name) ≡ line
before_added [] name none = refl
before_added (b ∷ line) name none =
    let rest = rest_unmarked b line none in
    goes_on b (line ++ 32 ∷ 34 ∷ name) (added_later line name rest) ∙ ap (λ (bytes : List ℕ). b ∷ bytes) (before_added line name rest)

unmarked_line : (bytes : List ℕ) → begins bytes ≡ false → line_of bytes ≡ before_mark bytes
unmarked_line [] not_marked = refl
unmarked_line (b ∷ bytes) not_marked = ap (λ (t : Bool). if t then bytes else before_mark (b ∷ bytes)) not_marked

with_name : (line : List ℕ) (words : List (List ℕ)) → has_mark line ≡ false → line_of (line ++ name_text words) ≡ line
with_name line words none =
    ⊎_elim
    (λ (told : (bytes_eq (first_word words) (codes "proc") && is_name (name_word words)) ≡ true).
    let name = name_of (name_word words) ++ codes "\"" in
    ap (λ (t : Bool). line_of (line ++ (if t then codes " \"" ++ name_of (name_word words) ++ codes "\"" else []))) told
    ∙ unmarked_line (line ++ 32 ∷ 34 ∷ name) (added_later line name none)
    ∙ before_added line name none)
    (λ (untold : (bytes_eq (first_word words) (codes "proc") && is_name (name_word words)) ≡ false).
    ap (λ (t : Bool). line_of (line ++ (if t then codes " \"" ++ name_of (name_word words) ++ codes "\"" else []))) untold
    ∙ ap line_of (append-nil line)
    ∙ unmarked_line line (begins_not line none)
    ∙ before_none line none)
    (cases_Bool (bytes_eq (first_word words) (codes "proc") && is_name (name_word words)))

line_back : (line : List ℕ) → line_of (named_line line) ≡ line
line_back line =
    ⊎_elim
    (λ (mark : has_mark line ≡ true). ap (λ (t : Bool). line_of (if t then 34 ∷ line else line ++ name_text (tokens_of line))) mark)
    (λ (none : has_mark line ≡ false). ap (λ (t : Bool). line_of (if t then 34 ∷ line else line ++ name_text (tokens_of line))) none
    ∙ with_name line (tokens_of line) none)
    (cases_Bool (has_mark line))

-- lines that are shown alike are the same
pub named_apart : (one other : List ℕ) → named_line one ≡ named_line other → one ≡ other
named_apart one other same = sym (line_back one) ∙ ap line_of same ∙ line_back other
