-- The tokens of a line, from its first one.
use Rattle.std.proofs.Common.{◌≡◌, ℕ, zero, suc, ◌+◌, ◌<◌, ◌≤◌, Bool, true, false, not, cond, ◌||◌, List, [], ◌∷◌, ◌++◌, length, take, drop}
use Rattle.std.proofs.Common.{get_or, Some, None, refl, sym, ap, ◌∙◌, arith, append-nil, inl, inr, ◌⊎◌}
use Rattle.std.specs.Prelude.{◌==◌, if◌then◌else◌, slice_get}
use Rattle.std.specs.List.{position, position_or_len}
use Rattle.std.proofs.Math.Seq.{drop-cons}
use Rattle.std.proofs.lemmas.List.{take_more, drop_all, take_all}
use Rattle.text_lines.proofs.SearchLemmas.{found_at, found_none}
use Rattle.text_lines.specs.Lines.{is_blank}
use Rattle.asm_syntax.specs.Tokens.{Token, Blank, Colon, Comma, Word, Quoted, Unclosed, Quoting, Inside, Escaped, ends_word, joined, quoted}
use Rattle.asm_syntax.specs.Tokens.{tokens_from, tokens_of}

-- tokens that no word's byte joins
abbrev pub apart : List Token → Bool
apart [] = true
apart (Word w ∷ ts) = false
apart (t ∷ ts) = true

pub apart-joined : (b : ℕ) (ts : List Token) → apart ts ≡ true → joined b ts ≡ Word (b ∷ []) ∷ ts
apart-joined b [] is = refl
apart-joined b (Blank ∷ ts) is = refl
apart-joined b (Colon ∷ ts) is = refl
apart-joined b (Comma ∷ ts) is = refl
apart-joined b (Word w ∷ ts) is = cc
apart-joined b (Quoted t ∷ ts) is = refl
apart-joined b (Unclosed ∷ ts) is = refl

apart-quoted : (b : ℕ) (ts : List Token) → apart ts ≡ true → apart (quoted b ts) ≡ true
apart-quoted b [] is = refl
apart-quoted b (Blank ∷ ts) is = refl
apart-quoted b (Colon ∷ ts) is = refl
apart-quoted b (Comma ∷ ts) is = refl
apart-quoted b (Word w ∷ ts) is = cc
apart-quoted b (Quoted t ∷ ts) is = refl
apart-quoted b (Unclosed ∷ ts) is = refl

apart-if : (x : Bool) (ts us : List Token) → apart ts ≡ true → apart us ≡ true → apart (cond x ts us) ≡ true
apart-if true ts us is is' = is
apart-if false ts us is is' = is'

-- a text is no word
apart-text : (line : List ℕ) → (apart (tokens_from Inside line) ≡ true) × (apart (tokens_from Escaped line) ≡ true)
apart-text [] = (refl, refl)
apart-text (b ∷ line) =
    let rest = apart-text line in (
      apart-if (b == 34) (Quoted [] ∷ tokens_of line)
          (cond (b == 92) (quoted b (tokens_from Escaped line)) (quoted b (tokens_from Inside line))) refl
          (apart-if (b == 92) (quoted b (tokens_from Escaped line)) (quoted b (tokens_from Inside line))
          (apart-quoted b (tokens_from Escaped line) rest.1) (apart-quoted b (tokens_from Inside line) rest.0)),
      apart-quoted b (tokens_from Inside line) rest.0,
    )

-- what a byte outside quotes makes, by the tests of it
branches : (hash quote comma colon blank : Bool) (b : ℕ) (line : List ℕ) → (blank || hash || quote || comma || colon) ≡ true
    → apart
    (if hash then [] else if quote then tokens_from Inside line else if comma then Comma ∷ tokens_of line
    else if colon then Colon ∷ tokens_of line else if blank then Blank ∷ tokens_of line else joined b (tokens_of line))
    ≡ true
branches true quote comma colon blank b line is = refl
branches false true comma colon blank b line is = (apart-text line).0
branches false false true colon blank b line is = refl
branches false false false true blank b line is = refl
branches false false false false true b line is = refl
branches false false false false false b line is = cc

joins : (hash quote comma colon blank : Bool) (b : ℕ) (line : List ℕ) → (blank || hash || quote || comma || colon) ≡ false
    → (if hash then [] else if quote then tokens_from Inside line else if comma then Comma ∷ tokens_of line
    else if colon then Colon ∷ tokens_of line else if blank then Blank ∷ tokens_of line else joined b (tokens_of line))
    ≡ joined b (tokens_of line)
joins true quote comma colon true b line is = cc
joins true quote comma colon false b line is = cc
joins false true comma colon true b line is = cc
joins false true comma colon false b line is = cc
joins false false true colon true b line is = cc
joins false false true colon false b line is = cc
joins false false false true true b line is = cc
joins false false false true false b line is = cc
joins false false false false true b line is = cc
joins false false false false false b line is = refl

abbrev at_end : List ℕ → ℕ
at_end line = position_or_len ends_word line

-- a line with no word at its front
apart-head : (x : Bool) (b : ℕ) (line : List ℕ) → ends_word b ≡ x → cond (not x) (1 + at_end line) 0 ≡ 0
    → apart (tokens_of (b ∷ line)) ≡ true
apart-head true b line is none = branches (b == 35) (b == 34) (b == 44) (b == 58) (is_blank b) b line is
apart-head false b line is none = absurd (omega arith)

apart-tokens : (line : List ℕ) → at_end line ≡ 0 → apart (tokens_of line) ≡ true
apart-tokens [] none = refl
apart-tokens (b ∷ line) none = apart-head (ends_word b) b line refl none

-- the first word goes to the first byte that is no word's
word_step : (x : Bool) (b n : ℕ) (line : List ℕ) → ends_word b ≡ x → n ≡ at_end line
    → (0 < n → tokens_of line ≡ Word (take n line) ∷ tokens_of (drop n line)) → 0 < cond (not x) (1 + n) 0
    → tokens_of (b ∷ line) ≡ Word (take (cond (not x) (1 + n) 0) (b ∷ line)) ∷ tokens_of (drop (cond (not x) (1 + n) 0) (b ∷ line))
word_step true b n line is at rest some = absurd (omega arith)
word_step false b zero line is at rest some =
    joins (b == 35) (b == 34) (b == 44) (b == 58) (is_blank b) b line is ∙ apart-joined b (tokens_of line) (apart-tokens line (sym at))
word_step false b (suc n) line is at rest some =
    let next : 1 + suc n ≡ suc (suc n) = omega arith in
    rw next (joins (b == 35) (b == 34) (b == 44) (b == 58) (is_blank b) b line is ∙ ap (joined b) (rest (omega arith)))

word_first : (line : List ℕ) → 0 < at_end line → tokens_of line ≡ Word (take (at_end line) line) ∷ tokens_of (drop (at_end line) line)
word_first [] some = absurd (omega arith)
word_first (b ∷ line) some = word_step (ends_word b) b (at_end line) line refl refl (word_first line) some

-- a text's bytes before tokens
abbrev pub prefixed : List ℕ → List Token → List Token
prefixed [] ts = ts
prefixed (b ∷ bytes) ts = quoted b (prefixed bytes ts)

pub prefixed-more : (bytes : List ℕ) (b : ℕ) (ts : List Token) → prefixed (bytes ++ b ∷ []) ts ≡ prefixed bytes (quoted b ts)
prefixed-more [] b ts = refl
prefixed-more (c ∷ bytes) b ts = ap (quoted c) (prefixed-more bytes b ts)

pub prefixed-text : (bytes text : List ℕ) (ts : List Token) → prefixed bytes (Quoted text ∷ ts) ≡ Quoted (bytes ++ text) ∷ ts
prefixed-text [] text ts = refl
prefixed-text (b ∷ bytes) text ts = ap (quoted b) (prefixed-text bytes text ts)

pub prefixed-broken : (bytes : List ℕ) → prefixed bytes (Unclosed ∷ []) ≡ Unclosed ∷ []
prefixed-broken [] = refl
prefixed-broken (b ∷ bytes) = ap (quoted b) (prefixed-broken bytes)

-- the word that the code cuts off, by what its search says
pub tokens_of-word : (line : List ℕ) (i : ℕ) → 0 < length line → ends_word (get_or line 0 0) ≡ false
    → position (λ b. ends_word b) line ≡ Some i → tokens_of line ≡ Word (take i line) ∷ tokens_of (drop i line)
tokens_of-word [] i some is found = absurd (omega arith)
tokens_of-word (b ∷ line) i some is found =
    let at : at_end (b ∷ line) ≡ i = found_at (at_end (b ∷ line)) (length (b ∷ line)) i found in
    let behind : 0 < at_end (b ∷ line) = rw is (omega arith) in
    word_first (b ∷ line) behind ∙ ap (λ (k : ℕ). Word (take k (b ∷ line)) ∷ tokens_of (drop k (b ∷ line))) at

pub tokens_of-last : (line : List ℕ) → 0 < length line → ends_word (get_or line 0 0) ≡ false → position (λ b. ends_word b) line ≡ None
    → tokens_of line ≡ Word line ∷ []
tokens_of-last [] some is found = absurd (omega arith)
tokens_of-last (b ∷ line) some is found =
    let none : length (b ∷ line) ≤ at_end (b ∷ line) = found_none (at_end (b ∷ line)) (length (b ∷ line)) found in
    let behind : 0 < at_end (b ∷ line) = rw is (omega arith) in
    word_first (b ∷ line) behind ∙ rw (take_all (at_end (b ∷ line)) (b ∷ line) none, drop_all (at_end (b ∷ line)) (b ∷ line) none) refl

-- where a byte stands, by whether a backslash is before it
abbrev pub where_is : Bool → Quoting
where_is true = Escaped
where_is false = Inside

text_branch : (slash : Bool) (b : ℕ) (line : List ℕ)
    → cond slash (quoted b (tokens_from Escaped line)) (quoted b (tokens_from Inside line)) ≡ quoted b (tokens_from (where_is slash) line)
text_branch true b line = refl
text_branch false b line = refl

broken_end : (escaped : Bool) (bytes : List ℕ) → prefixed bytes (tokens_from (where_is escaped) []) ≡ Unclosed ∷ []
broken_end true bytes = prefixed-broken bytes
broken_end false bytes = prefixed-broken bytes

-- one byte of a text
text_byte : (escaped next : Bool) (b : ℕ) (line : List ℕ) → (escaped ≡ true → next ≡ false) → (escaped ≡ false → next ≡ (b == 92))
    → (escaped ≡ true) ⊎ ((escaped ≡ false) × ((b == 34) ≡ false))
    → tokens_from (where_is escaped) (b ∷ line) ≡ quoted b (tokens_from (where_is next) line)
text_byte true next b line e f other = rw (e refl) refl
text_byte false next b line e f (inl bad) = cc
text_byte false next b line e f (inr good) = rw (f refl, good.1) (text_branch (b == 92) b line)

-- the text so far, one byte more
pub text_more : (line : List ℕ) (i : ℕ) (escaped next : Bool) (ts : List Token) → i < length line → (escaped ≡ true → next ≡ false)
    → (escaped ≡ false → next ≡ (get_or line i 0 == 92)) → (escaped ≡ true) ⊎ ((escaped ≡ false) × ((get_or line i 0 == 34) ≡ false))
    → ts ≡ prefixed (take i line) (tokens_from (where_is escaped) (drop i line))
    → ts ≡ prefixed (take (i + 1) line) (tokens_from (where_is next) (drop (i + 1) line))
text_more line i escaped next ts within e f other is =
    let b = get_or line i 0 in
    let step : i + 1 ≡ suc i = omega arith in
    is
    ∙ ap (λ (l : List ℕ). prefixed (take i line) (tokens_from (where_is escaped) l)) (drop-cons line i 0 within)
    ∙ ap (prefixed (take i line)) (text_byte escaped next b (drop (suc i) line) e f other)
    ∙ sym (prefixed-more (take i line) b (tokens_from (where_is next) (drop (suc i) line)))
    ∙ ap (λ (l : List ℕ). prefixed l (tokens_from (where_is next) (drop (suc i) line))) (sym (take_more line i 0 within))
    ∙ ap (λ (k : ℕ). prefixed (take (i + 1) line) (tokens_from (where_is next) (drop k line))) (sym step)

-- the closing quote
pub text_ends : (line : List ℕ) (i : ℕ) (ts : List Token) → i < length line → get_or line i 0 ≡ 34
    → ts ≡ prefixed (take i line) (tokens_from Inside (drop i line)) → ts ≡ Quoted (take i line) ∷ tokens_of (drop (i + 1) line)
text_ends line i ts within quote is =
    let step : i + 1 ≡ suc i = omega arith in
    let here : drop i line ≡ 34 ∷ drop (suc i) line = rw quote at (drop-cons line i 0 within) in
    let made : prefixed (take i line) (Quoted [] ∷ tokens_of (drop (suc i) line)) ≡ Quoted (take i line) ∷ tokens_of (drop (suc i) line) =
    prefixed-text (take i line) [] (tokens_of (drop (suc i) line))
    ∙ ap (λ (l : List ℕ). Quoted l ∷ tokens_of (drop (suc i) line)) (append-nil (take i line)) in
    is ∙ ap (λ (l : List ℕ). prefixed (take i line) (tokens_from Inside l)) here ∙ made
    ∙ ap (λ (k : ℕ). Quoted (take i line) ∷ tokens_of (drop k line)) (sym step)

-- no closing quote
pub text_broken : (line : List ℕ) (i : ℕ) (escaped : Bool) (ts : List Token) → length line ≤ i
    → ts ≡ prefixed (take i line) (tokens_from (where_is escaped) (drop i line)) → ts ≡ Unclosed ∷ []
text_broken line i escaped ts all is =
    is ∙ ap (λ (l : List ℕ). prefixed (take i line) (tokens_from (where_is escaped) l)) (drop_all i line all)
    ∙ broken_end escaped (take i line)

-- a line by its first byte
pub first_byte : (line : List ℕ) (b n : ℕ) → Some b ≡ slice_get line 0 → b ≡ n → tokens_of line ≡ tokens_of (n ∷ drop 1 line)
first_byte [] b n is same = absurd (cc)
first_byte (x ∷ line) b n is same = ap (λ (y : ℕ). tokens_of (y ∷ line)) (let e : x ≡ n = cc in e)
