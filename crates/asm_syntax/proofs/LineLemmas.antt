-- Lines that begin with a label, and those that don't.
use Rattle.std.proofs.Common.{◌≡◌, ℕ, true, false, List, [], ◌∷◌, None, refl, ap, ◌∙◌}
use Rattle.asm_syntax.specs.Numbers.{is_name}
use Rattle.asm_syntax.specs.CodeLines.{skip, is_named, is_statement, is_blank_token, starts_with_colon}
use Rattle.asm_syntax.specs.Statements.{Malformed, line_in, unlabelled, with_label, statement_of, can_name, said, said_line, after_word, word_with}
use Rattle.asm_syntax.specs.Tokens.{Token, Blank, Colon, Comma, Word, Quoted, Unclosed}

-- a line of blanks
pub line_in-empty : (ts : List Token) → skip ts ≡ [] → line_in ts ≡ unlabelled ts
line_in-empty [] is = refl
line_in-empty (Blank ∷ ts) is = line_in-empty ts is
line_in-empty (Colon ∷ ts) is = cc
line_in-empty (Comma ∷ ts) is = cc
line_in-empty (Word w ∷ ts) is = cc
line_in-empty (Quoted t ∷ ts) is = cc
line_in-empty (Unclosed ∷ ts) is = cc

-- a word that is no name
not_named : (w : List ℕ) (ts : List Token) → is_name w ≡ false → line_in (Word w ∷ ts) ≡ unlabelled (Word w ∷ ts)
not_named w [] is = refl
not_named w (Blank ∷ ts) is = refl
not_named w (Colon ∷ ts) is = rw is refl
not_named w (Comma ∷ ts) is = refl
not_named w (Word v ∷ ts) is = refl
not_named w (Quoted t ∷ ts) is = refl
not_named w (Unclosed ∷ ts) is = refl

-- a line that doesn't begin with a name
pub line_in-unnamed : (ts us : List Token) (t : Token) → skip ts ≡ t ∷ us → is_named t ≡ false → line_in ts ≡ unlabelled ts
line_in-unnamed [] us t is other = refl
line_in-unnamed (Blank ∷ ts) us t is other = line_in-unnamed ts us t is other
line_in-unnamed (Colon ∷ ts) us t is other = refl
line_in-unnamed (Comma ∷ ts) us t is other = refl
line_in-unnamed (Word w ∷ ts) us t is other =
    let same : Word w ≡ t = cc in
    not_named w ts (ap is_named same ∙ other)
line_in-unnamed (Quoted q ∷ ts) us t is other = refl
line_in-unnamed (Unclosed ∷ ts) us t is other = refl

-- a word that no colon follows
no_colon : (w : List ℕ) (ts : List Token) → starts_with_colon ts ≡ false → line_in (Word w ∷ ts) ≡ unlabelled (Word w ∷ ts)
no_colon w [] is = refl
no_colon w (Blank ∷ ts) is = refl
no_colon w (Colon ∷ ts) is = cc
no_colon w (Comma ∷ ts) is = refl
no_colon w (Word v ∷ ts) is = refl
no_colon w (Quoted t ∷ ts) is = refl
no_colon w (Unclosed ∷ ts) is = refl

pub line_in-no_colon : (ts us : List Token) (w : List ℕ) → skip ts ≡ Word w ∷ us → starts_with_colon us ≡ false → line_in ts ≡ unlabelled ts
line_in-no_colon [] us w is other = refl
line_in-no_colon (Blank ∷ ts) us w is other = line_in-no_colon ts us w is other
line_in-no_colon (Colon ∷ ts) us w is other = refl
line_in-no_colon (Comma ∷ ts) us w is other = refl
line_in-no_colon (Word v ∷ ts) us w is other =
    let same : ts ≡ us = cc in
    no_colon v ts (ap starts_with_colon same ∙ other)
line_in-no_colon (Quoted q ∷ ts) us w is other = refl
line_in-no_colon (Unclosed ∷ ts) us w is other = refl

-- a name before a colon
labelled : (w : List ℕ) (us : List Token) → is_name w ≡ true → line_in (Word w ∷ (Colon ∷ us)) ≡ with_label w (line_in us)
labelled w us is = rw is refl

-- a line that begins with a label
pub line_in-label : (ts us : List Token) (w : List ℕ) → skip ts ≡ Word w ∷ (Colon ∷ us) → is_name w ≡ true
    → line_in ts ≡ with_label w (line_in us)
line_in-label [] us w is name = cc
line_in-label (Blank ∷ ts) us w is name = line_in-label ts us w is name
line_in-label (Colon ∷ ts) us w is name = cc
line_in-label (Comma ∷ ts) us w is name = cc
line_in-label (Word v ∷ ts) us w is name =
    let same : Word v ∷ ts ≡ Word w ∷ (Colon ∷ us) = is in
    ap line_in same ∙ labelled w us name
line_in-label (Quoted q ∷ ts) us w is name = cc
line_in-label (Unclosed ∷ ts) us w is name = cc

-- the blanks before a statement
pub statement_of-skip : (ts : List Token) → statement_of ts ≡ statement_of (skip ts)
statement_of-skip [] = refl
statement_of-skip (Blank ∷ ts) = statement_of-skip ts
statement_of-skip (Colon ∷ ts) = refl
statement_of-skip (Comma ∷ ts) = refl
statement_of-skip (Word w ∷ ts) = refl
statement_of-skip (Quoted t ∷ ts) = refl
statement_of-skip (Unclosed ∷ ts) = refl

-- a word that can't name a statement
pub statement_of-unnamed : (w : List ℕ) (ts : List Token) → can_name w ≡ false → Malformed ≡ statement_of (Word w ∷ ts)
statement_of-unnamed w [] is = rw is refl
statement_of-unnamed w (Blank ∷ ts) is = rw is refl
statement_of-unnamed w (Colon ∷ ts) is = refl
statement_of-unnamed w (Comma ∷ ts) is = refl
statement_of-unnamed w (Word v ∷ ts) is = refl
statement_of-unnamed w (Quoted t ∷ ts) is = refl
statement_of-unnamed w (Unclosed ∷ ts) is = refl

-- the blanks before a word
pub said-skip : (ts : List Token) → said ts ≡ said (skip ts)
said-skip [] = refl
said-skip (Blank ∷ ts) = said-skip ts
said-skip (Colon ∷ ts) = refl
said-skip (Comma ∷ ts) = refl
said-skip (Word w ∷ ts) = refl
said-skip (Quoted t ∷ ts) = refl
said-skip (Unclosed ∷ ts) = refl

-- a token that is no word of a statement
pub said-other : (t : Token) (ts : List Token) → is_blank_token t ≡ false → is_statement t ≡ false → said (t ∷ ts) ≡ None
said-other Blank ts solid is = cc
said-other Colon ts solid is = refl
said-other Comma ts solid is = refl
said-other (Word w) ts solid is = rw is refl
said-other (Quoted t) ts solid is = refl
said-other Unclosed ts solid is = refl

-- a word that can name a statement
pub said-word : (w : List ℕ) (ts : List Token) → can_name w ≡ true → said (Word w ∷ ts) ≡ word_with w (after_word ts)
said-word w ts is = rw is refl

-- the word of a line of blanks
pub said_line-empty : (ts : List Token) → skip ts ≡ [] → said_line ts ≡ said ts
said_line-empty [] is = refl
said_line-empty (Blank ∷ ts) is = said_line-empty ts is
said_line-empty (Colon ∷ ts) is = cc
said_line-empty (Comma ∷ ts) is = cc
said_line-empty (Word w ∷ ts) is = cc
said_line-empty (Quoted t ∷ ts) is = cc
said_line-empty (Unclosed ∷ ts) is = cc

-- the same of a word that is no name
not_named-said : (w : List ℕ) (ts : List Token) → is_name w ≡ false → said_line (Word w ∷ ts) ≡ said (Word w ∷ ts)
not_named-said w [] is = refl
not_named-said w (Blank ∷ ts) is = refl
not_named-said w (Colon ∷ ts) is = rw is refl
not_named-said w (Comma ∷ ts) is = refl
not_named-said w (Word v ∷ ts) is = refl
not_named-said w (Quoted t ∷ ts) is = refl
not_named-said w (Unclosed ∷ ts) is = refl

-- the word of a line that doesn't begin with a name
pub said_line-unnamed : (ts us : List Token) (t : Token) → skip ts ≡ t ∷ us → is_named t ≡ false → said_line ts ≡ said ts
said_line-unnamed [] us t is other = refl
said_line-unnamed (Blank ∷ ts) us t is other = said_line-unnamed ts us t is other
said_line-unnamed (Colon ∷ ts) us t is other = refl
said_line-unnamed (Comma ∷ ts) us t is other = refl
said_line-unnamed (Word w ∷ ts) us t is other =
    let same : Word w ≡ t = cc in
    not_named-said w ts (ap is_named same ∙ other)
said_line-unnamed (Quoted q ∷ ts) us t is other = refl
said_line-unnamed (Unclosed ∷ ts) us t is other = refl

-- the same of a word that no colon follows
no_colon-said : (w : List ℕ) (ts : List Token) → starts_with_colon ts ≡ false → said_line (Word w ∷ ts) ≡ said (Word w ∷ ts)
no_colon-said w [] is = refl
no_colon-said w (Blank ∷ ts) is = refl
no_colon-said w (Colon ∷ ts) is = cc
no_colon-said w (Comma ∷ ts) is = refl
no_colon-said w (Word v ∷ ts) is = refl
no_colon-said w (Quoted t ∷ ts) is = refl
no_colon-said w (Unclosed ∷ ts) is = refl

pub said_line-no_colon : (ts us : List Token) (w : List ℕ) → skip ts ≡ Word w ∷ us → starts_with_colon us ≡ false → said_line ts ≡ said ts
said_line-no_colon [] us w is other = refl
said_line-no_colon (Blank ∷ ts) us w is other = said_line-no_colon ts us w is other
said_line-no_colon (Colon ∷ ts) us w is other = refl
said_line-no_colon (Comma ∷ ts) us w is other = refl
said_line-no_colon (Word v ∷ ts) us w is other =
    let same : ts ≡ us = cc in
    no_colon-said v ts (ap starts_with_colon same ∙ other)
said_line-no_colon (Quoted q ∷ ts) us w is other = refl
said_line-no_colon (Unclosed ∷ ts) us w is other = refl

-- the same after a name before a colon
labelled-said : (w : List ℕ) (us : List Token) → is_name w ≡ true → said_line (Word w ∷ (Colon ∷ us)) ≡ said_line us
labelled-said w us is = rw is refl

-- the word of a line that begins with a label
pub said_line-label : (ts us : List Token) (w : List ℕ) → skip ts ≡ Word w ∷ (Colon ∷ us) → is_name w ≡ true
    → said_line ts ≡ said_line us
said_line-label [] us w is name = cc
said_line-label (Blank ∷ ts) us w is name = said_line-label ts us w is name
said_line-label (Colon ∷ ts) us w is name = cc
said_line-label (Comma ∷ ts) us w is name = cc
said_line-label (Word v ∷ ts) us w is name =
    let same : Word v ∷ ts ≡ Word w ∷ (Colon ∷ us) = is in
    ap said_line same ∙ labelled-said w us name
said_line-label (Quoted q ∷ ts) us w is name = cc
said_line-label (Unclosed ∷ ts) us w is name = cc
