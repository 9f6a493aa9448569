-- Hexadecimal digits: the names of labels, and words as data.
use Rattle.std.proofs.Common.{◌≡◌, ℕ, ◌+◌, ◌*◌, ◌/◌, ◌%◌, ◌^◌, ◌<◌, min, Bool, true, List, [], ◌∷◌, ◌++◌, length, drop, pos, Some, refl, sym, ap, ◌∙◌, arith, codes}
use Rattle.std.specs.List.{list_all}
use Rattle.std.specs.Char.{digit_value}
use Rattle.std.specs.Str.Parse.{digits_value}
use Rattle.std.proofs.lemmas.Bool.Decides.{nat_tests}
use Rattle.xinu_base.specs.Hexadecimal.{hex_digit}
use Rattle.asm_syntax.specs.Numbers.{is_hexadecimal, is_in_name, is_name, digits_in, signed_as, number_in}
use Rattle.asm_syntax.specs.Operands.{Name, Number}
use Rattle.rv_disasm.specs.OperandTexts.{hex_word, label_of}
use Rattle.rv_disasm.proofs.Words.{is_plain, all_weaker}
use Rattle.rv_disasm.specs.Readings.{IsLabelled}
use Rattle.rv_disasm.proofs.Offsets.{IsOperand}
use Rattle.rv_disasm.proofs.Listings.{line_labelled}

digit_hexadecimal : (d : ℕ) → d < 16 → is_hexadecimal (hex_digit d) ≡ true
digit_hexadecimal d less = grind (arith, nat_tests)

hexadecimal_plain : (b : ℕ) → is_hexadecimal b ≡ true → is_plain b ≡ true
hexadecimal_plain b is = grind (arith, nat_tests)

hexadecimal_in_name : (b : ℕ) → is_hexadecimal b ≡ true → is_in_name b ≡ true
hexadecimal_in_name b is = grind (arith, nat_tests)

digit_back : (d : ℕ) → d < 16 → digit_value (hex_digit d) ≡ d
digit_back d less = grind (arith, nat_tests)

all_eight : (p : ℕ → Bool) (a b c d e f g h : ℕ) → p a ≡ true → p b ≡ true → p c ≡ true → p d ≡ true → p e ≡ true → p f ≡ true → p g ≡ true
    → p h ≡ true → list_all p (a ∷ b ∷ c ∷ d ∷ e ∷ f ∷ g ∷ h ∷ []) ≡ true
all_eight p a b c d e f g h i j k l m n o q = rw (i, j, k, l, m, n, o, q) refl

eight_digits : (a b c d e f g h : ℕ) → a < 16 → b < 16 → c < 16 → d < 16 → e < 16 → f < 16 → g < 16 → h < 16
    → list_all is_hexadecimal (hex_digit a ∷ hex_digit b ∷ hex_digit c ∷ hex_digit d ∷ hex_digit e ∷ hex_digit f ∷ hex_digit g ∷ hex_digit h ∷ [])
    ≡ true
eight_digits a b c d e f g h i j k l m n o q =
    all_eight is_hexadecimal (hex_digit a) (hex_digit b) (hex_digit c) (hex_digit d) (hex_digit e) (hex_digit f) (hex_digit g) (hex_digit h)
    (digit_hexadecimal a i) (digit_hexadecimal b j) (digit_hexadecimal c k) (digit_hexadecimal d l) (digit_hexadecimal e m)
    (digit_hexadecimal f n) (digit_hexadecimal g o) (digit_hexadecimal h q)

pub word_digits : (n : ℕ) → list_all is_hexadecimal (hex_word n) ≡ true
word_digits n =
    eight_digits (n / 0x10000000 % 16) (n / 0x1000000 % 16) (n / 0x100000 % 16) (n / 0x10000 % 16) (n / 0x1000 % 16) (n / 0x100 % 16)
    (n / 0x10 % 16) (n % 16) (omega arith) (omega arith) (omega arith) (omega arith) (omega arith) (omega arith) (omega arith) (omega arith)

value_of_eight : (a b c d e f g h : ℕ) → a < 16 → b < 16 → c < 16 → d < 16 → e < 16 → f < 16 → g < 16 → h < 16
    → digits_value 16 (hex_digit a ∷ hex_digit b ∷ hex_digit c ∷ hex_digit d ∷ hex_digit e ∷ hex_digit f ∷ hex_digit g ∷ hex_digit h ∷ [])
    ≡ ((((((a * 16 + b) * 16 + c) * 16 + d) * 16 + e) * 16 + f) * 16 + g) * 16 + h
value_of_eight a b c d e f g h i j k l m n o q =
    rw (digit_back a i, digit_back b j, digit_back c k, digit_back d l, digit_back e m, digit_back f n, digit_back g o, digit_back h q) (omega arith)

put_together : (n : ℕ) → n < 2 ^ 32
    → ((((((n / 0x10000000 % 16 * 16 + n / 0x1000000 % 16) * 16 + n / 0x100000 % 16) * 16 + n / 0x10000 % 16) * 16 + n / 0x1000 % 16) * 16
    + n / 0x100 % 16) * 16 + n / 0x10 % 16) * 16 + n % 16 ≡ n
put_together n less = omega arith

word_value : (n : ℕ) → n < 2 ^ 32 → digits_value 16 (hex_word n) ≡ n
word_value n less =
    value_of_eight (n / 0x10000000 % 16) (n / 0x1000000 % 16) (n / 0x100000 % 16) (n / 0x10000 % 16) (n / 0x1000 % 16) (n / 0x100 % 16)
    (n / 0x10 % 16) (n % 16) (omega arith) (omega arith) (omega arith) (omega arith) (omega arith) (omega arith) (omega arith) (omega arith)
    ∙ put_together n less

word_read : (n : ℕ) (digits : List ℕ) → length digits ≡ 8 → list_all is_hexadecimal digits ≡ true → digits_value 16 digits ≡ n → n < 2 ^ 32
    → digits_in 16 is_hexadecimal digits ≡ Some n
word_read n digits eight all value less =
    let clipped : min 4294967296 n ≡ n = omega arith in
    rw (eight, all, value, clipped) refl

-- a word in hexadecimal digits is read back
pub data_is_operand : (n : ℕ) → n < 2 ^ 32 → IsOperand (Number (pos n)) (codes "0x" ++ hex_word n)
data_is_operand n less =
    let number : number_in (codes "0x" ++ hex_word n) ≡ Some (pos n) =
    ap (signed_as pos) (word_read n (hex_word n) refl (word_digits n) (word_value n less) less) in
    record { word = all_weaker is_hexadecimal is_plain (hex_word n) hexadecimal_plain (word_digits n); read = rw number refl }

-- a label is a name
pub label_is_operand : (address : ℕ) → IsOperand (Name (label_of address)) (label_of address)
label_is_operand address =
    let in_name : list_all is_in_name (hex_word address) ≡ true =
    all_weaker is_hexadecimal is_in_name (hex_word address) hexadecimal_in_name (word_digits address) in
    let named : is_name (label_of address) ≡ true = in_name in
    record { word = all_weaker is_hexadecimal is_plain (hex_word address) hexadecimal_plain (word_digits address); read = rw named refl }

-- labels of two addresses are two labels
pub label_of-injective : (a b : ℕ) → a < 2 ^ 32 → b < 2 ^ 32 → label_of a ≡ label_of b → a ≡ b
label_of-injective a b less less' same =
    sym (word_value a less) ∙ ap (λ (l : List ℕ). digits_value 16 (drop 3 l)) same ∙ word_value b less'

-- a label before a text
pub label_before : (address : ℕ) (text : List ℕ) → IsLabelled address text
label_before address text =
    let in_name : list_all is_in_name (hex_word address) ≡ true =
    all_weaker is_hexadecimal is_in_name (hex_word address) hexadecimal_in_name (word_digits address) in
    line_labelled (label_of address) text (label_is_operand address).word in_name
