-- A listing of operands is read back, and so is the line that it ends.
use Rattle.std.proofs.Common.{◌≡◌, ℕ, true, List, [], ◌∷◌, ◌++◌, Some, refl, sym, ap, ◌∙◌, append_assoc, append-nil}
use Rattle.asm_syntax.specs.Tokens.{Token, Blank, Colon, Comma, Word, tokens_of, solid}
use Rattle.asm_syntax.specs.Operands as asm
use Rattle.asm_syntax.specs.Operands.{separated, operands_of}
use Rattle.asm_syntax.specs.Meanings.{meaning_of}
use Rattle.asm_syntax.specs.Numbers.{is_name}
use Rattle.asm_syntax.specs.Statements.{can_name, stated, with_label, line_in, line_of}
use Rattle.rv_disasm.specs.OperandTexts.{operand_text, listed}
use Rattle.rv_disasm.specs.declared.operands.Operand.{Operand}
use Rattle.rv_disasm.proofs.Words.{is_plain_word, word_before}
use Rattle.rv_disasm.proofs.Offsets.{IsOperand}

-- operands as they are written, and what they are read as, one by one
abbrev pub AreOperands : List asm.Operand → List Operand → Type 0
AreOperands [] [] = Unit {0}
AreOperands (p ∷ ps) (o ∷ os) = IsOperand p (operand_text o) × AreOperands ps os
AreOperands ps os = ⊥

word_last : (word : List ℕ) → is_plain_word word ≡ true → tokens_of word ≡ Word word ∷ []
word_last word is = ap tokens_of (sym (append-nil word)) ∙ word_before word [] is refl

-- what the tokens of a listing are, without the blanks
pub listed_tokens : (p : asm.Operand) (ps : List asm.Operand) (o : Operand) (os : List Operand) → AreOperands (p ∷ ps) (o ∷ os)
    → separated (solid (tokens_of (listed (o ∷ os)))) ≡ Some (p ∷ ps)
listed_tokens p [] o [] are =
    rw (word_last (operand_text o) are.0.word, are.0.read) refl
listed_tokens p (q ∷ ps) o [] are = absurd are.1
listed_tokens p [] o (n ∷ os) are = absurd are.1
listed_tokens p (q ∷ ps) o (n ∷ os) are =
    let text = operand_text o in
    let rest = listed (n ∷ os) in
    let tokens : tokens_of (text ++ 44 ∷ 32 ∷ [] ++ rest) ≡ Word text ∷ Comma ∷ Blank ∷ tokens_of rest =
    ap tokens_of (append_assoc text (44 ∷ 32 ∷ []) rest) ∙ word_before text (44 ∷ 32 ∷ [] ++ rest) are.0.word refl in
    let more : separated (solid (tokens_of rest)) ≡ Some (q ∷ ps) = listed_tokens q ps n os are.1 in
    ap (λ (ts : List Token). separated (solid ts)) tokens ∙ rw (are.0.read, more) refl

-- tokens that are separated operands are the operands of a statement
some_operands : (ts : List Token) (operands : List asm.Operand) → separated ts ≡ Some operands → operands_of ts ≡ Some operands
some_operands [] operands is = cc
some_operands (t ∷ ts) operands is = is

-- the line of a word with operands after a blank
pub line_with : (word : List ℕ) (p : asm.Operand) (ps : List asm.Operand) (o : Operand) (os : List Operand)
    → is_plain_word word ≡ true → can_name word ≡ true → AreOperands (p ∷ ps) (o ∷ os)
    → line_of (word ++ 32 ∷ [] ++ listed (o ∷ os)) ≡ record { labels = []; statement = stated (meaning_of word) (Some (p ∷ ps)) }
line_with word p ps o os plain names are =
    let rest = listed (o ∷ os) in
    let tokens : tokens_of (word ++ 32 ∷ [] ++ rest) ≡ Word word ∷ Blank ∷ tokens_of rest =
    ap tokens_of (append_assoc word (32 ∷ []) rest) ∙ word_before word (32 ∷ [] ++ rest) plain refl in
    let read : operands_of (solid (tokens_of rest)) ≡ Some (p ∷ ps) =
    some_operands (solid (tokens_of rest)) (p ∷ ps) (listed_tokens p ps o os are) in
    ap line_in tokens ∙ rw (names, read) refl

-- the line of a word alone
pub line_alone : (word : List ℕ) → is_plain_word word ≡ true → can_name word ≡ true
    → line_of word ≡ record { labels = []; statement = stated (meaning_of word) (Some []) }
line_alone word plain names = ap line_in (word_last word plain) ∙ rw names refl

-- the line of a word with one operand after a blank
pub line_one : (word text : List ℕ) (p : asm.Operand) → is_plain_word word ≡ true → can_name word ≡ true → IsOperand p text
    → line_of (word ++ 32 ∷ [] ++ text) ≡ record { labels = []; statement = stated (meaning_of word) (Some (p ∷ [])) }
line_one word text p plain names is =
    let tokens : tokens_of (word ++ 32 ∷ [] ++ text) ≡ Word word ∷ Blank ∷ Word text ∷ [] =
    ap tokens_of (append_assoc word (32 ∷ []) text) ∙ word_before word (32 ∷ [] ++ text) plain refl
    ∙ ap (λ (ts : List Token). Word word ∷ Blank ∷ ts) (word_last text is.word) in
    let read : operands_of (Word text ∷ []) ≡ Some (p ∷ []) = rw is.read refl in
    ap line_in tokens ∙ rw (names, read) refl

-- a line with a label before it
pub line_labelled : (name text : List ℕ) → is_plain_word name ≡ true → is_name name ≡ true
    → line_of (name ++ 58 ∷ 32 ∷ [] ++ text) ≡ with_label name (line_of text)
line_labelled name text plain named =
    let tokens : tokens_of (name ++ 58 ∷ 32 ∷ [] ++ text) ≡ Word name ∷ Colon ∷ Blank ∷ tokens_of text =
    ap tokens_of (append_assoc name (58 ∷ 32 ∷ []) text) ∙ word_before name (58 ∷ 32 ∷ [] ++ text) plain refl in
    ap line_in tokens ∙ rw named refl
