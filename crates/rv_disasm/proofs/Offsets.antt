-- A number before a register in parentheses is read back.
use Rattle.std.proofs.Common.{◌≡◌, ℕ, ◌+◌, ◌-◌, ◌<◌, Bool, true, false, not, List, [], ◌∷◌, ◌++◌, length, take, drop, ℤ}
use Rattle.std.proofs.Common.{Option, Some, None, refl, sym, ap, ◌∙◌, arith, append_assoc, length-append}
use Rattle.std.specs.Prelude.{◌==◌, nat_lt, if◌then◌else◌, slice_index}
use Rattle.std.specs.Fmt.{signed_decimal}
use Rattle.std.specs.List.{list_all, position, position_or_len}
use Rattle.std.proofs.lemmas.Bool.{and_parts}
use Rattle.std.proofs.lemmas.Bool.Decides.{nat_tests}
use Rattle.std.proofs.lemmas.List.{take_at, drop_at, get_or_push}
use lib.Signed.{mag}
use Rattle.asm_syntax.specs.Numbers.{is_name, number_in}
use Rattle.asm_syntax.specs.Operands.{Operand, Name, Number, Offset, offset_of, offset_at, offset_in, number_or_offset, operand_in}
use Rattle.rv_disasm.proofs.Words.{is_plain, is_plain_word, all-append}
use Rattle.rv_disasm.proofs.Numbers.{number_is_read, number_unread, number_no_name}

-- where the first parenthesis is
opened_at : (front more : List ℕ) → list_all (λ b. not (b == 40)) front ≡ true → position_or_len (λ b. b == 40) (front ++ 40 ∷ more) ≡ length front
opened_at [] more is = refl
opened_at (b ∷ front) more is =
    let both = and_parts (not (b == 40)) (list_all (λ c. not (c == 40)) front) is in
    let rest : position_or_len (λ c. c == 40) (front ++ 40 ∷ more) ≡ length front = opened_at front more both.1 in
    rw (both.0, rest) (omega arith)

pub opened : (front more : List ℕ) → list_all (λ b. not (b == 40)) front ≡ true → position (λ b. b == 40) (front ++ 40 ∷ more) ≡ Some (length front)
opened front more is =
    let within : nat_lt (length front) (length (front ++ 40 ∷ more)) ≡ true = grind (arith, nat_tests, length-append front (40 ∷ more)) in
    rw (opened_at front more is, within) refl

-- what is before the parentheses, and what is in them
pub parted : (front name : List ℕ) → offset_at (front ++ 40 ∷ [] ++ name ++ 41 ∷ []) (Some (length front)) ≡ offset_of front name
parted front name =
    let word = front ++ 40 ∷ [] ++ name ++ 41 ∷ [] in
    let opened_front = length-append front (40 ∷ []) in
    let size : length word ≡ length front + length name + 2 =
    omega (arith, length-append (front ++ 40 ∷ [] ++ name) (41 ∷ []), length-append (front ++ 40 ∷ []) name, opened_front) in
    let within : nat_lt (length front + 1) (length word) ≡ true = grind (arith, nat_tests, size) in
    let closed : slice_index word (length word - 1) ≡ 41 = get_or_push (front ++ 40 ∷ [] ++ name) 41 0 (length word - 1) (omega (arith, size, length-append (front ++ 40 ∷ []) name, opened_front)) in
    let before : take (length front) word ≡ front =
    ap (take (length front)) (append_assoc (front ++ 40 ∷ []) name (41 ∷ []) ∙ append_assoc front (40 ∷ []) (name ++ 41 ∷ []))
    ∙ take_at front (40 ∷ [] ++ (name ++ 41 ∷ [])) (length front) refl in
    let place : length front + 1 ≡ length (front ++ 40 ∷ []) = omega (arith, opened_front) in
    let after : drop (length front + 1) word ≡ name ++ 41 ∷ [] =
    ap (λ (k : ℕ). drop k word) place ∙ ap (drop (length (front ++ 40 ∷ []))) (append_assoc (front ++ 40 ∷ []) name (41 ∷ []))
    ∙ drop_at (front ++ 40 ∷ []) (name ++ 41 ∷ []) (length (front ++ 40 ∷ [])) refl in
    let count : length word - 1 - (length front + 1) ≡ length name = omega (arith, size) in
    let inside : take (length word - 1 - (length front + 1)) (drop (length front + 1) word) ≡ name =
    ap (λ (k : ℕ). take k (drop (length front + 1) word)) count ∙ ap (take (length name)) after ∙ take_at name (41 ∷ []) (length name) refl in
    rw (within, closed, before, inside) refl

-- an operand as it is written: what it is read as, and that no byte of it ends a word
pub record IsOperand (operand : Operand) (text : List ℕ) : Type 0 where
  pub word : is_plain_word text ≡ true
  pub read : operand_in text ≡ Some operand

-- a name
pub name_is_operand : (name : List ℕ) → is_plain_word name ≡ true → is_name name ≡ true → IsOperand (Name name) name
name_is_operand name plain is = record { word = plain; read = rw is refl }

-- a number
pub number_is_operand : (z : ℤ) → mag z < 4294967296 → IsOperand (Number z) (signed_decimal z)
number_is_operand z bound =
    let read = number_is_read z bound in
    record { word = read.word; read = rw (read.unnamed, read.number) refl }

plain_around : (front name : List ℕ) → is_plain_word front ≡ true → is_plain_word name ≡ true → is_plain_word (front ++ 40 ∷ [] ++ name ++ 41 ∷ []) ≡ true
plain_around [] name one other = cc
plain_around (b ∷ front) [] one other = cc
plain_around (b ∷ front) (c ∷ name) one other =
    all-append is_plain (b ∷ front ++ 40 ∷ [] ++ c ∷ name) (41 ∷ [])
    (all-append is_plain (b ∷ front ++ 40 ∷ []) (c ∷ name) (all-append is_plain (b ∷ front) (40 ∷ []) one refl) other) refl

operand_by : (x : Bool) (o : Option ℤ) (word : List ℕ) → x ≡ false → o ≡ None → (if x then Some (Name word) else number_or_offset o word) ≡ offset_in word
operand_by x o word unnamed none = rw (unnamed, none) refl

-- a number before a register in parentheses
pub offset_is_operand : (z : ℤ) (name : List ℕ) → mag z < 4294967296 → is_plain_word name ≡ true → is_name name ≡ true
    → IsOperand (Offset z name) (signed_decimal z ++ 40 ∷ [] ++ name ++ 41 ∷ [])
offset_is_operand z name bound plain is =
    let front = signed_decimal z in
    let more = name ++ 41 ∷ [] in
    let read = number_is_read z bound in
    let grouped : front ++ 40 ∷ [] ++ name ++ 41 ∷ [] ≡ front ++ 40 ∷ more =
    append_assoc (front ++ 40 ∷ []) name (41 ∷ []) ∙ append_assoc front (40 ∷ []) more in
    let place : offset_in (front ++ 40 ∷ more) ≡ offset_at (front ++ 40 ∷ more) (Some (length front)) =
    ap (offset_at (front ++ 40 ∷ more)) (opened front more read.unopened) in
    let inside : offset_of front name ≡ Some (Offset z name) = rw (is, read.number) refl in
    let found : offset_in (front ++ 40 ∷ more) ≡ Some (Offset z name) =
    place ∙ ap (λ (word : List ℕ). offset_at word (Some (length front))) (sym grouped) ∙ parted front name ∙ inside in
    let whole : operand_in (front ++ 40 ∷ more) ≡ Some (Offset z name) =
    operand_by (is_name (front ++ 40 ∷ more)) (number_in (front ++ 40 ∷ more)) (front ++ 40 ∷ more) (number_no_name z (40 ∷ more) bound) (number_unread z more bound) ∙ found in
    record { word = plain_around front name read.word plain; read = ap operand_in grouped ∙ whole }
