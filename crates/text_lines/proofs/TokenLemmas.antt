-- The tokens of a line, from its first one.
use Rattle.std.proofs.Common.{◌≡◌, ℕ, suc, ◌+◌, ◌<◌, ◌≤◌, nat_lt, Bool, true, false, not, cond, List, [], ◌∷◌, length, take, drop, Some}
use Rattle.std.proofs.Common.{None, refl, sym, ap, ◌∙◌, arith, length-take, length-drop}
use Rattle.std.specs.List.{All, position, position_or_len, slice_split, filter}
use Rattle.std.proofs.lemmas.List.{drop_all}
use Rattle.std.proofs.lemmas.List.Splits.{slice_split_first, slice_split_none, slice_split-cons_yes}
use Rattle.std.proofs.lemmas.List.Elements.{All-from_get_or}
use Rattle.std.proofs.lemmas.List.Sums.{fails_before_first}
use Rattle.std.proofs.lemmas.Bool.{lt-ltb}
use Rattle.text_lines.proofs.SearchLemmas.{found_at, found_within, found_none}
use Rattle.text_lines.specs.Lines.{is_blank, is_token, tokens_of}

-- a byte that isn't blank
abbrev is_solid : ℕ → Bool
is_solid b = not (is_blank b)

-- the place of a line's first byte that isn't blank
abbrev solid_in : List ℕ → ℕ
solid_in line = position_or_len is_solid line

-- a blank before a line is no token's
blank_head : (b : ℕ) (line : List ℕ) → is_blank b ≡ true → tokens_of (b ∷ line) ≡ tokens_of line
blank_head b line blank = ap (filter is_token) (slice_split-cons_yes is_blank b line blank)

-- one byte at the front
skip_head : (x : Bool) (b : ℕ) (line : List ℕ) → is_blank b ≡ x → tokens_of (drop (solid_in line) line) ≡ tokens_of line
    → tokens_of (drop (cond (not (not x)) (1 + solid_in line) 0) (b ∷ line)) ≡ tokens_of (b ∷ line)
skip_head false b line is rest = refl
skip_head true b line is rest =
    let next : 1 + solid_in line ≡ suc (solid_in line) = omega arith in
    rw next (rest ∙ sym (blank_head b line is))

-- the blanks before a line are no token's
tokens_of-skip : (line : List ℕ) → tokens_of (drop (solid_in line) line) ≡ tokens_of line
tokens_of-skip [] = refl
tokens_of-skip (b ∷ line) = skip_head (is_blank b) b line refl (tokens_of-skip line)

solid_head : (x : Bool) (b : ℕ) (line : List ℕ) → is_blank b ≡ x → solid_in (drop (solid_in line) line) ≡ 0
    → solid_in (drop (cond (not (not x)) (1 + solid_in line) 0) (b ∷ line)) ≡ 0
solid_head false b line is rest = rw is refl
solid_head true b line is rest =
    let next : 1 + solid_in line ≡ suc (solid_in line) = omega arith in
    rw next rest

-- after the blanks a token begins, or nothing is left
solid_first : (line : List ℕ) → solid_in (drop (solid_in line) line) ≡ 0
solid_first [] = refl
solid_first (b ∷ line) = solid_head (is_blank b) b line refl (solid_first line)

-- a line that begins with blanks, from its first token on
pub tokens_of-from : (line : List ℕ) (i : ℕ) → position (λ b. not (is_blank b)) line ≡ Some i → tokens_of line ≡ tokens_of (drop i line)
tokens_of-from line i is = sym (tokens_of-skip line) ∙ ap (λ (k : ℕ). tokens_of (drop k line)) (found_at (solid_in line) (length line) i is)

-- the first place of a test, by its parts
place_is : (n m : ℕ) → n ≡ 0 → 0 < m → cond (nat_lt n m) (Some n) None ≡ Some 0
place_is n m none some = rw (none, lt-ltb 0 m some) refl

-- and a token begins there
pub starts_at : (line : List ℕ) (i : ℕ) → position (λ b. not (is_blank b)) line ≡ Some i
    → position (λ b. not (is_blank b)) (drop i line) ≡ Some 0
starts_at line i is =
    let at : solid_in line ≡ i = found_at (solid_in line) (length line) i is in
    let within : solid_in line < length line = found_within (solid_in line) (length line) i is in
    place_is (solid_in (drop i line)) (length (drop i line)) (ap (λ (k : ℕ). solid_in (drop k line)) (sym at) ∙ solid_first line)
    (omega (arith, length-drop i line))

-- a line of blanks has no token
pub tokens_of-blanks : (line : List ℕ) → position (λ b. not (is_blank b)) line ≡ None → tokens_of line ≡ []
tokens_of-blanks line is =
    sym (tokens_of-skip line) ∙ ap tokens_of (drop_all (solid_in line) line (found_none (solid_in line) (length line) is))

-- a first byte that isn't blank, and the first blank
head_first : (x : Bool) (n m : ℕ) → cond (not (not x)) (1 + n) 0 ≡ 0 → 0 < cond (not x) (1 + m) 0
head_first true n m is = absurd (omega arith)
head_first false n m is = omega arith

-- a line that begins with a token has its first blank after a byte
blank_behind : (line : List ℕ) → position is_solid line ≡ Some 0 → 0 < length line → 0 < position_or_len is_blank line
blank_behind [] is some = absurd (omega arith)
blank_behind (b ∷ line) is some =
    head_first (is_blank b) (solid_in line) (position_or_len is_blank line) (found_at (solid_in (b ∷ line)) (length (b ∷ line)) 0 is)

-- a token before others
token_before_others : (token : List ℕ) (tokens : List (List ℕ)) → 0 < length token
    → filter is_token (token ∷ tokens) ≡ token ∷ filter is_token tokens
token_before_others token tokens some = rw (lt-ltb 0 (length token) some) refl

-- the first token goes to the first blank
pub tokens_of-cut : (line : List ℕ) (i : ℕ) → position (λ b. not (is_blank b)) line ≡ Some 0 → position (λ b. is_blank b) line ≡ Some i
    → tokens_of line ≡ take i line ∷ tokens_of (drop (i + 1) line)
tokens_of-cut line i starts is =
    let within : position_or_len is_blank line < length line = found_within (position_or_len is_blank line) (length line) i is in
    let at : position_or_len is_blank line ≡ i = found_at (position_or_len is_blank line) (length line) i is in
    let behind : 0 < position_or_len is_blank line = blank_behind line starts (omega arith) in
    ap (filter is_token) (slice_split_first is_blank line 0 within)
    ∙ token_before_others (take (position_or_len is_blank line) line) (slice_split is_blank (drop (position_or_len is_blank line + 1) line))
    (omega (arith, length-take (position_or_len is_blank line) line))
    ∙ ap (λ (k : ℕ). take k line ∷ tokens_of (drop (k + 1) line)) at

-- a line that begins with a token and has no blank is this token
pub tokens_of-last : (line : List ℕ) → 0 < length line → position (λ b. is_blank b) line ≡ None → tokens_of line ≡ line ∷ []
tokens_of-last line some is =
    let none : length line ≤ position_or_len is_blank line = found_none (position_or_len is_blank line) (length line) is in
    let fails : All (λ (b : ℕ). is_blank b ≡ false) line =
    All-from_get_or (λ (b : ℕ). is_blank b ≡ false) line 0 (λ k within. fails_before_first is_blank line k 0 (omega arith)) in
    ap (filter is_token) (slice_split_none is_blank line fails) ∙ token_before_others line [] some

-- a line with a first token isn't empty
pub some_there : (line : List ℕ) → position (λ b. not (is_blank b)) line ≡ Some 0 → 0 < length line
some_there [] is = cc
some_there (b ∷ line) is = omega arith
