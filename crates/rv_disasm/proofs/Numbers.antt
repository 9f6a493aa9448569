-- Numbers that are written are read back.
use Rattle.std.proofs.Common.{◌≡◌, ℕ, suc, ◌<◌, ◌≤◌, min, Bool, true, false, not, ◌&&◌, List, [], ◌∷◌, ◌++◌, length, ℤ, pos, negsuc, neg_ℤ}
use Rattle.std.proofs.Common.{Some, None, refl, ap, arith, le-leb}
use Rattle.std.specs.Prelude.{◌==◌, nat_lt}
use Rattle.std.specs.Fmt.{decimal, signed_decimal}
use Rattle.std.specs.List.{list_all}
use Rattle.std.specs.Str.Parse.{AllDigits, digits_value}
use Rattle.std.proofs.lemmas.Bool.{and_parts}
use Rattle.std.proofs.lemmas.Bool.Decides.{nat_tests}
use Rattle.std.proofs.lemmas.Fmt.{decimal_is_IsNumeral}
use Rattle.std.proofs.lemmas.Str.Parse.{digit_from_value}
use lib.Signed.{mag}
use Rattle.asm_syntax.specs.Numbers.{is_digit, begins_name, is_name, digits_in, signed_as, unsigned_in, number_in}
use Rattle.rv_disasm.proofs.Words.{is_plain, is_plain_word, all_weaker, not_all}

-- a digit is no other byte that matters
pub digit_plain : (b : ℕ) → is_digit b ≡ true → is_plain b ≡ true
digit_plain b is = grind (arith, nat_tests)

digit_is : (b n : ℕ) → is_digit b ≡ true → n < 48 → (b == n) ≡ false
digit_is b n is low = grind (arith, nat_tests)

digit_x : (b : ℕ) → is_digit b ≡ true → (b == 120) ≡ false
digit_x b is = grind (arith, nat_tests)

digit_begins : (b : ℕ) → is_digit b ≡ true → begins_name b ≡ false
digit_begins b is = grind (arith, nat_tests)

digit_bounds : (c : ℕ) → 48 ≤ c → c ≤ 57 → is_digit c ≡ true
digit_bounds c low high = rw (le-leb 48 c low, le-leb c 57 high) refl

all_digits : (ds : List ℕ) → AllDigits 10 ds → list_all is_digit ds ≡ true
all_digits [] are = refl
all_digits (c ∷ ds) are =
    let range = digit_from_value c are.0 in
    let first : is_digit c ≡ true = digit_bounds c (omega (arith, range)) (omega (arith, range)) in
    let rest : list_all is_digit ds ≡ true = all_digits ds are.1 in
    rw (first, rest) refl

-- digits that write a number of at most 4294967296
pub record Writes (n : ℕ) (ds : List ℕ) : Type 0 where
  pub some : 0 < length ds
  pub digits : list_all is_digit ds ≡ true
  pub value : digits_value 10 ds ≡ n
  pub bound : n ≤ 4294967296

pub decimal_writes : (n : ℕ) → n ≤ 4294967296 → Writes n (decimal n)
decimal_writes n bound =
    let numeral = decimal_is_IsNumeral n (omega arith) in
    record { some = numeral.0.0; digits = all_digits (decimal n) numeral.0.1; value = numeral.1; bound = bound }

and_false : (x y : Bool) → y ≡ false → (x && y) ≡ false
and_false true y is = is
and_false false y is = refl

digits_read : (n : ℕ) (ds : List ℕ) → Writes n ds → digits_in 10 is_digit ds ≡ Some n
digits_read n ds w =
    let some : nat_lt 0 (length ds) ≡ true = grind (arith, nat_tests, w.some) in
    let clipped : min 4294967296 n ≡ n = omega (arith, w.bound) in
    rw (some, w.digits, w.value, clipped) refl

unsigned_read : (n : ℕ) (ds : List ℕ) → Writes n ds → unsigned_in ds ≡ Some (pos n)
unsigned_read n [] w = absurd (omega (arith, w.some))
unsigned_read n (b ∷ []) w = ap (signed_as pos) (digits_read n (b ∷ []) w)
unsigned_read n (b ∷ c ∷ ds) w =
    let both = and_parts (is_digit b) (is_digit c && list_all is_digit ds) w.digits in
    let second = and_parts (is_digit c) (list_all is_digit ds) both.1 in
    let other : ((b == 48) && (c == 120)) ≡ false = and_false (b == 48) (c == 120) (digit_x c second.0) in
    rw other (ap (signed_as pos) (digits_read n (b ∷ c ∷ ds) w))

number_read : (n : ℕ) (ds : List ℕ) → Writes n ds → number_in ds ≡ Some (pos n)
number_read n [] w = absurd (omega (arith, w.some))
number_read n (b ∷ ds) w =
    let both = and_parts (is_digit b) (list_all is_digit ds) w.digits in
    rw (digit_is b 45 both.0 (omega arith)) (unsigned_read n (b ∷ ds) w)

-- a number as it is written: what it is read as, and that it is no name and has no byte that ends a word or opens a parenthesis
pub record IsRead (z : ℤ) (text : List ℕ) : Type 0 where
  pub word : is_plain_word text ≡ true
  pub number : number_in text ≡ Some z
  pub unnamed : is_name text ≡ false
  pub unopened : list_all (λ b. not (b == 40)) text ≡ true

digits_opened : (b : ℕ) → is_digit b ≡ true → not (b == 40) ≡ true
digits_opened b is = rw (digit_is b 40 is (omega arith)) refl

-- digits
pub digits_are_read : (n : ℕ) (ds : List ℕ) → Writes n ds → IsRead (pos n) ds
digits_are_read n [] w = absurd (omega (arith, w.some))
digits_are_read n (b ∷ ds) w =
    let both = and_parts (is_digit b) (list_all is_digit ds) w.digits in
    record {
      word = all_weaker is_digit is_plain (b ∷ ds) digit_plain w.digits;
      number = number_read n (b ∷ ds) w;
      unnamed = rw (digit_begins b both.0) refl;
      unopened = all_weaker is_digit (λ c. not (c == 40)) (b ∷ ds) digits_opened w.digits;
    }

-- digits after a sign
minus_is_read : (n : ℕ) (ds : List ℕ) → Writes (suc n) ds → IsRead (negsuc n) (45 ∷ ds)
minus_is_read n ds w = record {
  word = all_weaker is_digit is_plain ds digit_plain w.digits;
  number = ap (signed_as (λ k. neg_ℤ (pos k))) (digits_read (suc n) ds w);
  unnamed = refl;
  unopened = all_weaker is_digit (λ c. not (c == 40)) ds digits_opened w.digits;
}

-- a number of less than 4294967296 in either direction is read back
pub number_is_read : (z : ℤ) → mag z < 4294967296 → IsRead z (signed_decimal z)
number_is_read (pos n) bound = digits_are_read n (decimal n) (decimal_writes n (omega arith))
number_is_read (negsuc n) bound = minus_is_read n (decimal (suc n)) (decimal_writes (suc n) (omega arith))

-- a number with something after it that no digit is, which isn't `x`
digits_unread : (radix : ℕ) (ds more : List ℕ) (b : ℕ) → is_digit b ≡ false → digits_in radix is_digit (ds ++ b ∷ more) ≡ None
digits_unread radix ds more b is =
    rw (not_all is_digit ds b more is, and_false (nat_lt 0 (length (ds ++ b ∷ more))) false refl) refl

unsigned_unread : (d : ℕ) (ds more : List ℕ) → list_all is_digit (d ∷ ds) ≡ true → unsigned_in ((d ∷ ds) ++ 40 ∷ more) ≡ None
unsigned_unread d [] more are =
    rw (and_false (d == 48) false refl) (ap (signed_as pos) (digits_unread 10 (d ∷ []) more 40 refl))
unsigned_unread d (e ∷ ds) more are =
    let both = and_parts (is_digit d) (list_all is_digit (e ∷ ds)) are in
    let second = and_parts (is_digit e) (list_all is_digit ds) both.1 in
    rw (and_false (d == 48) (e == 120) (digit_x e second.0)) (ap (signed_as pos) (digits_unread 10 (d ∷ e ∷ ds) more 40 refl))

digits_no_number : (n : ℕ) (ds more : List ℕ) → Writes n ds → number_in (ds ++ 40 ∷ more) ≡ None
digits_no_number n [] more w = absurd (omega (arith, w.some))
digits_no_number n (b ∷ ds) more w =
    let both = and_parts (is_digit b) (list_all is_digit ds) w.digits in
    rw (digit_is b 45 both.0 (omega arith)) (unsigned_unread b ds more w.digits)

-- a number before a parenthesis is no number
pub number_unread : (z : ℤ) (more : List ℕ) → mag z < 4294967296 → number_in (signed_decimal z ++ 40 ∷ more) ≡ None
number_unread (pos n) more bound = digits_no_number n (decimal n) more (decimal_writes n (omega arith))
number_unread (negsuc n) more bound = ap (signed_as (λ k. neg_ℤ (pos k))) (digits_unread 10 (decimal (suc n)) more 40 refl)

digits_no_name : (n : ℕ) (ds more : List ℕ) → Writes n ds → is_name (ds ++ more) ≡ false
digits_no_name n [] more w = absurd (omega (arith, w.some))
digits_no_name n (b ∷ ds) more w =
    let both = and_parts (is_digit b) (list_all is_digit ds) w.digits in
    rw (digit_begins b both.0) refl

-- what begins with a number is no name
pub number_no_name : (z : ℤ) (more : List ℕ) → mag z < 4294967296 → is_name (signed_decimal z ++ more) ≡ false
number_no_name (pos n) more bound = digits_no_name n (decimal n) more (decimal_writes n (omega arith))
number_no_name (negsuc n) more bound = refl
