-- The first word of a line.
use Rattle.std.proofs.Common.{◌≡◌, ℕ, Bool, true, false, not, ◌&&◌, ◌||◌, List, [], ◌∷◌, ◌++◌, refl, ap, ◌∙◌}
use Rattle.std.specs.Prelude.{◌==◌, if◌then◌else◌}
use Rattle.std.specs.List.{list_all}
use Rattle.std.proofs.lemmas.Bool.{and_parts}
use Rattle.text_lines.specs.Lines.{is_blank}
use Rattle.asm_syntax.specs.Tokens.{Blank, Colon, Comma, Word, Inside, ends_word, joined, tokens_from, tokens_of}
use Rattle.asm_syntax.proofs.TokenLemmas.{apart, apart-joined}

-- a byte that ends no word
abbrev pub is_plain : ℕ → Bool
is_plain b = not (ends_word b)

-- a word of such bytes
abbrev pub is_plain_word : List ℕ → Bool
is_plain_word [] = false
is_plain_word (b ∷ word) = list_all is_plain (b ∷ word)

joins : (blank hash quote comma colon : Bool) (b : ℕ) (line : List ℕ) → not (blank || hash || quote || comma || colon) ≡ true
    → (if hash then [] else if quote then tokens_from Inside line else if comma then Comma ∷ tokens_of line
    else if colon then Colon ∷ tokens_of line else if blank then Blank ∷ tokens_of line else joined b (tokens_of line))
    ≡ joined b (tokens_of line)
joins true hash quote comma colon b line is = cc
joins false true quote comma colon b line is = cc
joins false false true comma colon b line is = cc
joins false false false true colon b line is = cc
joins false false false false true b line is = cc
joins false false false false false b line is = refl

-- a byte of a word joins what follows
plain_byte : (b : ℕ) (line : List ℕ) → is_plain b ≡ true → tokens_of (b ∷ line) ≡ joined b (tokens_of line)
plain_byte b line is = joins (is_blank b) (b == 35) (b == 34) (b == 44) (b == 58) b line is

-- a word that ends before the other tokens
pub word_before : (word line : List ℕ) → is_plain_word word ≡ true → apart (tokens_of line) ≡ true
    → tokens_of (word ++ line) ≡ Word word ∷ tokens_of line
word_before [] line is ends = cc
word_before (b ∷ []) line is ends =
    let both = and_parts (is_plain b) true is in
    plain_byte b line both.0 ∙ apart-joined b (tokens_of line) ends
word_before (b ∷ c ∷ word) line is ends =
    let both = and_parts (is_plain b) (is_plain_word (c ∷ word)) is in
    plain_byte b ((c ∷ word) ++ line) both.0 ∙ ap (joined b) (word_before (c ∷ word) line both.1 ends)

-- what each byte of a list has, if it has something stronger
pub all_weaker : (p q : ℕ → Bool) (bytes : List ℕ) → ((b : ℕ) → p b ≡ true → q b ≡ true) → list_all p bytes ≡ true → list_all q bytes ≡ true
all_weaker p q [] weaker is = refl
all_weaker p q (b ∷ bytes) weaker is =
    let both = and_parts (p b) (list_all p bytes) is in
    let first : q b ≡ true = weaker b both.0 in
    let rest : list_all q bytes ≡ true = all_weaker p q bytes weaker both.1 in
    rw (first, rest) refl

-- what each byte of two lists has
pub all-append : (p : ℕ → Bool) (bytes more : List ℕ) → list_all p bytes ≡ true → list_all p more ≡ true → list_all p (bytes ++ more) ≡ true
all-append p [] more is other = other
all-append p (b ∷ bytes) more is other =
    let both = and_parts (p b) (list_all p bytes) is in
    let rest : list_all p (bytes ++ more) ≡ true = all-append p bytes more both.1 other in
    rw (both.0, rest) refl

-- one byte that hasn't it
pub not_all : (p : ℕ → Bool) (bytes : List ℕ) (b : ℕ) (more : List ℕ) → p b ≡ false → list_all p (bytes ++ b ∷ more) ≡ false
not_all p [] b more is = rw is refl
not_all p (c ∷ bytes) b more is =
    let rest : list_all p (bytes ++ b ∷ more) ≡ false = not_all p bytes b more is in
    elim (p c) as (λ x. (x && list_all p (bytes ++ b ∷ more)) ≡ false) [ true ↦ rest | false ↦ refl ]
