-- A schedule that is written reads as its events.
use Rattle.std.proofs.Common.{◌≡◌, ◌∙◌, ℕ, ◌+◌, ◌*◌, ◌/◌, ◌%◌, ◌^◌, ◌<◌, ◌≤◌, nat_lt, Bool, true, false, not, cond, List, [], ◌∷◌, ◌++◌, length, drop, replicate, Option, Some, None, refl, ap, arith, length-append, ⊎_elim}
use Rattle.std.specs.Prelude.{◌==◌, ◌&&◌, codes, option_map}
use Rattle.std.specs.Fmt.{decimal}
use Rattle.std.specs.List.{list_all, position_or_len}
use Rattle.std.specs.Str.Parse.{digits_value}
use Rattle.std.proofs.Math.Seq.{take-append_seam, drop-append-add}
use Rattle.std.proofs.lemmas.Bool.{and_parts, cases_lt, le-leb, le-ltb, lt-leb, lt-ltb}
use Rattle.std.proofs.lemmas.Bool.Decides.{nat_tests}
use Rattle.std.proofs.lemmas.Fmt.{decimal_nonempty, digits_decimal, digits_value-decimal, length-decimal-le}
use Rattle.std.proofs.lemmas.List.Folds.{list_all-append}
use Rattle.std.proofs.lemmas.Str.Parse.{numerals_by_value}
use Rattle.xinu_base.specs.Hexadecimal.{hex_digit}
use Rattle.xinu_base.specs.declared.events.Event.{Event}
use Rattle.xinu_base.specs.declared.events.Event.TheVariants.{Step, Tick, Key, Tx, Disk0, Disk1, Fail0, Fail1, Dump}
use Rattle.text_lines.specs.Lines.{is_blank, lines_of, tokens_of, without_return}
use Rattle.text_lines.proofs.LineLemmas.{lines_of-feed}
use Rattle.text_lines.proofs.TokenLemmas.{tokens_of-cut, tokens_of-last}
use Rattle.schedule_file.specs.LineKinds.{line_events, token_events}
use Rattle.schedule_file.specs.Numbers.{count_written, hex_value, is_digit, most_events}
use Rattle.schedule_text.specs.Written.{is_joined, line_of, counted, IsWritten}
use Rattle.schedule_file.proofs.DigitLemmas.{tests_digits}

-- ---- the bytes of a line

-- a byte of a token ends no line and no token
abbrev pub is_solid : ℕ → Bool
is_solid b = not (b == 10) && (not (b == 13) && not (is_blank b))

-- a byte of a line ends no line
abbrev pub is_plain : ℕ → Bool
is_plain b = not (b == 10) && not (b == 13)

not_true : (b : Bool) → not b ≡ true → b ≡ false
not_true true is = cc
not_true false is = refl

both : (a b : Bool) → a ≡ true → b ≡ true → (a && b) ≡ true
both a b one other = rw (one, other) refl

-- what holds of each byte of a list holds of each by a weaker test
each : (p q : ℕ → Bool) → ((b : ℕ) → p b ≡ true → q b ≡ true) → (bytes : List ℕ) → list_all p bytes ≡ true → list_all q bytes ≡ true
each p q weaker [] all = refl
each p q weaker (b ∷ bytes) all =
    let parts = and_parts (p b) (list_all p bytes) all in
    both (q b) (list_all q bytes) (weaker b parts.0) (each p q weaker bytes parts.1)

solid_plain : (b : ℕ) → is_solid b ≡ true → is_plain b ≡ true
solid_plain b solid =
    let parts = and_parts (not (b == 10)) (not (b == 13) && not (is_blank b)) solid in
    both (not (b == 10)) (not (b == 13)) parts.0 (and_parts (not (b == 13)) (not (is_blank b)) parts.1).0

solid_unblank : (b : ℕ) → is_solid b ≡ true → not (is_blank b) ≡ true
solid_unblank b solid =
    let parts = and_parts (not (b == 10)) (not (b == 13) && not (is_blank b)) solid in
    (and_parts (not (b == 13)) (not (is_blank b)) parts.1).1

-- ---- the first byte that passes a test

first_at : (p : ℕ → Bool) (front rest : List ℕ) (x : ℕ) → list_all (λ b. not (p b)) front ≡ true → p x ≡ true
    → position_or_len p (front ++ x ∷ rest) ≡ length front
first_at p [] rest x none passes = rw passes refl
first_at p (b ∷ front) rest x none passes =
    let parts = and_parts (not (p b)) (list_all (λ (b : ℕ). not (p b)) front) none in
    let one : p b ≡ false = not_true (p b) parts.0 in
    rw one (omega (arith, first_at p front rest x parts.1 passes))

first_nowhere : (p : ℕ → Bool) (bytes : List ℕ) → list_all (λ b. not (p b)) bytes ≡ true → position_or_len p bytes ≡ length bytes
first_nowhere p [] none = refl
first_nowhere p (b ∷ bytes) none =
    let parts = and_parts (not (p b)) (list_all (λ (b : ℕ). not (p b)) bytes) none in
    let one : p b ≡ false = not_true (p b) parts.0 in
    rw one (omega (arith, first_nowhere p bytes parts.1))

found : (n m i : ℕ) → n ≡ i → i < m → cond (nat_lt n m) (Some n) None ≡ Some i
found n m i is within = rw (is, lt-ltb i m within) refl

not_found : (n m : ℕ) → n ≡ m → cond (nat_lt n m) (Some n) None ≡ None
not_found n m is = rw (is, le-ltb m m (omega arith)) refl

-- ---- one line

plain_whole : (line : List ℕ) → list_all is_plain line ≡ true → without_return line ≡ line
plain_whole [] plain = refl
plain_whole (b ∷ []) plain =
    let one : (b == 13) ≡ false = not_true (b == 13) (and_parts (not (b == 10)) (not (b == 13)) (and_parts (is_plain b) true plain).0).1 in
    rw one refl
plain_whole (b ∷ c ∷ line) plain = ap (λ (rest : List ℕ). b ∷ rest) (plain_whole (c ∷ line) (and_parts (is_plain b) (list_all is_plain (c ∷ line)) plain).1)

plain_unfed : (b : ℕ) → is_plain b ≡ true → not (b == 10) ≡ true
plain_unfed b plain = (and_parts (not (b == 10)) (not (b == 13)) plain).0

-- a line comes first in a text that begins with it and a line feed
pub line_first : (line rest : List ℕ) → list_all is_plain line ≡ true → lines_of (line ++ 10 ∷ rest) ≡ line ∷ lines_of rest
line_first line rest plain =
    let text = line ++ 10 ∷ rest in
    let at : position_or_len (λ (b : ℕ). b == 10) text ≡ length line = first_at (λ b. b == 10) line rest 10 (each is_plain (λ b. not (b == 10)) plain_unfed line plain) refl in
    lines_of-feed text (length line) (found (position_or_len (λ (b : ℕ). b == 10) text) (length text) (length line) at (omega (arith, length-append line (10 ∷ rest))))
    ∙ ap (λ (first : List ℕ). without_return first ∷ lines_of (drop (length line + 1) text)) (take-append_seam line (10 ∷ rest))
    ∙ ap (λ (first : List ℕ). first ∷ lines_of (drop (length line + 1) text)) (plain_whole line plain)
    ∙ ap (λ (back : List ℕ). line ∷ lines_of back) (drop-append-add line (10 ∷ rest) 1)

-- two tokens with a blank between them
pub two_tokens : (n : ℕ) (name token : List ℕ) → list_all is_solid (n ∷ name) ≡ true → 0 < length token → list_all is_solid token ≡ true
    → tokens_of ((n ∷ name) ++ 32 ∷ token) ≡ (n ∷ name) ∷ token ∷ []
two_tokens n name token solid some other =
    let first = n ∷ name in
    let line = first ++ 32 ∷ token in
    let unblank : list_all (λ (b : ℕ). not (is_blank b)) first ≡ true = each is_solid (λ b. not (is_blank b)) solid_unblank first solid in
    let at : position_or_len is_blank line ≡ length first = first_at is_blank first token 32 unblank refl in
    let head : not (is_blank n) ≡ true = (and_parts (not (is_blank n)) (list_all (λ (b : ℕ). not (is_blank b)) name) unblank).0 in
    let begins : position_or_len (λ (b : ℕ). not (is_blank b)) line ≡ 0 = rw head refl in
    let none : position_or_len is_blank token ≡ length token = first_nowhere is_blank token (each is_solid (λ b. not (is_blank b)) solid_unblank token other) in
    tokens_of-cut line (length first)
    (found (position_or_len (λ (b : ℕ). not (is_blank b)) line) (length line) 0 begins (omega (arith, length-append first (32 ∷ token))))
    (found (position_or_len is_blank line) (length line) (length first) at (omega (arith, length-append first (32 ∷ token))))
    ∙ ap (λ (front : List ℕ). front ∷ tokens_of (drop (length first + 1) line)) (take-append_seam first (32 ∷ token))
    ∙ ap (λ (back : List ℕ). first ∷ tokens_of back) (drop-append-add first (32 ∷ token) 1)
    ∙ ap (λ (tokens : List (List ℕ)). first ∷ tokens) (tokens_of-last token some (not_found (position_or_len is_blank token) (length token) none))

-- ---- a count

digit_solid : (b : ℕ) → is_digit b ≡ true → is_solid b ≡ true
digit_solid b digit = grind (arith, nat_tests)

-- a count is read back
pub count_reads : (n : ℕ) → 1 ≤ n → n ≤ most_events → count_written (decimal n) ≡ Some n
count_reads n some few =
    let small : n < 2 ^ 64 = omega arith in
    let own = numerals_by_value (λ ds. list_all is_digit ds ≡ true) tests_digits in
    let value : digits_value 10 (decimal n) ≡ n = digits_value-decimal own n small in
    rw (
      le-leb 1 (length (decimal n)) (decimal_nonempty n small),
      le-leb (length (decimal n)) 10 (length-decimal-le 10 n (omega arith) (omega arith) small),
      digits_decimal own n small,
      value,
      le-leb 1 n some,
      le-leb n most_events few,
    )
    refl

decimal_solid : (n : ℕ) → n ≤ most_events → list_all is_solid (decimal n) ≡ true
decimal_solid n few =
    each is_digit is_solid digit_solid (decimal n) (digits_decimal (numerals_by_value (λ ds. list_all is_digit ds ≡ true) tests_digits) n (omega arith))

counted_tokens : (n : ℕ) (name : List ℕ) (count : ℕ) → list_all is_solid (n ∷ name) ≡ true → count ≤ most_events
    → tokens_of (counted (n ∷ name) count) ≡ (n ∷ name) ∷ decimal count ∷ []
counted_tokens n name count solid few = two_tokens n name (decimal count) solid (decimal_nonempty count (omega arith)) (decimal_solid count few)

counted_plain : (name : List ℕ) (count : ℕ) → list_all is_plain name ≡ true → count ≤ most_events → list_all is_plain (counted name count) ≡ true
counted_plain name count plain few =
    list_all-append is_plain name (32 ∷ decimal count)
    ∙ both (list_all is_plain name) (list_all is_plain (decimal count)) plain (each is_solid is_plain solid_plain (decimal count) (decimal_solid count few))

-- ---- a byte

-- what a hexadecimal digit is to the readers of lines and of schedules
record IsDigit (c d : ℕ) : Type 0 where
  pub solid : is_solid c ≡ true
  pub value : hex_value c ≡ Some d

low_digit : (d : ℕ) → d < 10 → IsDigit (48 + d) d
low_digit d low = record {
  solid = grind (arith, nat_tests);
  value = rw (le-leb 48 (48 + d) (omega arith), le-leb (48 + d) 57 (omega arith)) (ap Some (omega arith));
}

high_digit : (d : ℕ) → 10 ≤ d → d < 16 → IsDigit (87 + d) d
high_digit d high few = record {
  solid = grind (arith, nat_tests);
  value = rw (
    le-leb 48 (87 + d) (omega arith),
    lt-leb (87 + d) 57 (omega arith),
    le-leb 97 (87 + d) (omega arith),
    le-leb (87 + d) 102 (omega arith),
  )
      (ap Some (omega arith));
}

either_digit : (is_low : Bool) (d : ℕ) → nat_lt d 10 ≡ is_low → d < 16 → IsDigit (cond is_low (48 + d) (87 + d)) d
either_digit true d is few = let low : d < 10 = grind (arith, nat_tests) in low_digit d low
either_digit false d is few = let high : 10 ≤ d = grind (arith, nat_tests) in high_digit d high few

digit : (d : ℕ) → d < 16 → IsDigit (hex_digit d) d
digit d few = either_digit (nat_lt d 10) d refl few

byte_solid : (h l a b : ℕ) → IsDigit h a → IsDigit l b → list_all is_solid (h ∷ l ∷ []) ≡ true
byte_solid h l a b high low = rw (high.solid, low.solid) refl

typed_reads : (h l a b : ℕ) → IsDigit h a → IsDigit l b → line_events (codes "type " ++ h ∷ l ∷ []) ≡ Some (Key (16 * a + b) ∷ [])
typed_reads h l a b high low =
    ap token_events (two_tokens 116 (121 ∷ 112 ∷ 101 ∷ []) (h ∷ l ∷ []) refl (omega arith) (byte_solid h l a b high low))
    ∙ rw (high.value, low.value) refl

typed_plain : (h l a b : ℕ) → IsDigit h a → IsDigit l b → list_all is_plain (codes "type " ++ h ∷ l ∷ []) ≡ true
typed_plain h l a b high low = each is_solid is_plain solid_plain (h ∷ l ∷ []) (byte_solid h l a b high low)

-- ---- the line of a repeat

-- what is written on one line
pub record IsLine (event : Event) (count : ℕ) : Type 0 where
  pub some : 1 ≤ count
  pub few : count ≤ most_events
  pub counts : 1 < count → is_joined event event ≡ true
  pub written : IsWritten event

is_one : (n : ℕ) → 1 ≤ n → (1 < n → false ≡ true) → n ≡ 1
is_one n some counts = ⊎_elim (λ (many : 1 < n). absurd (let no : false ≡ true = counts many in cc)) (λ (few : n ≤ 1). let one : n ≡ 1 = omega arith in one) (cases_lt 1 n)

asks_one : (event : Event) (count : ℕ) (line : List ℕ) → count ≡ 1 → line_events line ≡ Some (event ∷ []) → line_events line ≡ Some (replicate count event)
asks_one event count line one asks = rw one asks

asks_counted : (event : Event) (n : ℕ) (name : List ℕ) (count : ℕ) → IsLine event count → list_all is_solid (n ∷ name) ≡ true
    → ((o : Option ℕ) (token : List ℕ) → count_written token ≡ o → token_events ((n ∷ name) ∷ token ∷ []) ≡ option_map (λ k. replicate k event) o)
    → line_events (counted (n ∷ name) count) ≡ Some (replicate count event)
asks_counted event n name count is solid reads =
    ap token_events (counted_tokens n name count solid is.few) ∙ reads (Some count) (decimal count) (count_reads count is.some is.few)

by_count : (event : Event) (o : Option ℕ) (token : List ℕ) → count_written token ≡ o
    → option_map (λ k. replicate k event) (count_written token) ≡ option_map (λ k. replicate k event) o
by_count event o token is = ap (option_map (λ (k : ℕ). replicate k event)) is

-- the line asks for the event as often
pub line_asks : (event : Event) (count : ℕ) → IsLine event count → line_events (line_of event count) ≡ Some (replicate count event)
line_asks Step count is = asks_counted Step 115 (116 ∷ 101 ∷ 112 ∷ []) count is refl (by_count Step)
line_asks Tick count is = asks_counted Tick 116 (105 ∷ 99 ∷ 107 ∷ []) count is refl (by_count Tick)
line_asks (Key b) count is =
    let whole : 16 * (b / 16) + b % 16 ≡ b = omega arith in
    let byte : b < 256 = is.written in
    asks_one (Key b) count (line_of (Key b) count) (is_one count is.some is.counts)
    (typed_reads (hex_digit (b / 16)) (hex_digit (b % 16)) (b / 16) (b % 16) (digit (b / 16) (omega arith)) (digit (b % 16) (omega arith))
    ∙ ap (λ (n : ℕ). Some (Key n ∷ [])) whole)
line_asks Tx count is = asks_counted Tx 116 (120 ∷ []) count is refl (by_count Tx)
line_asks Disk0 count is = asks_counted Disk0 100 (105 ∷ 115 ∷ 107 ∷ 48 ∷ []) count is refl (by_count Disk0)
line_asks Disk1 count is = asks_counted Disk1 100 (105 ∷ 115 ∷ 107 ∷ 49 ∷ []) count is refl (by_count Disk1)
line_asks Fail0 count is = asks_one Fail0 count (codes "fail0") (is_one count is.some is.counts) refl
line_asks Fail1 count is = asks_one Fail1 count (codes "fail1") (is_one count is.some is.counts) refl
line_asks Dump count is = asks_one Dump count (codes "dump") (is_one count is.some is.counts) refl

-- and has no byte that ends a line
pub line_plain : (event : Event) (count : ℕ) → IsLine event count → list_all is_plain (line_of event count) ≡ true
line_plain Step count is = counted_plain (codes "step") count refl is.few
line_plain Tick count is = counted_plain (codes "tick") count refl is.few
line_plain (Key b) count is =
    let byte : b < 256 = is.written in
    typed_plain (hex_digit (b / 16)) (hex_digit (b % 16)) (b / 16) (b % 16) (digit (b / 16) (omega arith)) (digit (b % 16) (omega arith))
line_plain Tx count is = counted_plain (codes "tx") count refl is.few
line_plain Disk0 count is = counted_plain (codes "disk0") count refl is.few
line_plain Disk1 count is = counted_plain (codes "disk1") count refl is.few
line_plain Fail0 count is = refl
line_plain Fail1 count is = refl
line_plain Dump count is = refl
