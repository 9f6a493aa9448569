-- The names of the registers.
use Rattle.std.proofs.Common.{◌≡◌, ℕ, zero, suc, ◌<◌, ◌≤◌, Bool, true, false, ◌&&◌, ◌⊎◌, inl, inr, List, [], length, map, get_or, Option, Some, None, refl, sym, ap, ◌∙◌, arith, leb-true, eqb-true}
use Rattle.std.specs.Prelude.{◌==◌, nat_le}
use Rattle.std.proofs.lemmas.Bool.{and_parts}
use Rattle.std.proofs.lemmas.Bool.Decides.{eqb_tells}
use Rattle.asm_syntax.specs.Numbers.{is_name}
use Rattle.std.proofs.lemmas.List.{get_or-map, length-map}
use Rattle.asm_syntax.specs.Values.{registers, register_of, register_named}
use Rattle.rv_disasm.specs.OperandTexts.{register_name}
use Rattle.rv_disasm.proofs.Words.{is_plain_word}

-- whether a number was found and is this one
abbrev is_found : Option ℕ → ℕ → Bool
is_found None n = false
is_found (Some m) n = m == n

found : (o : Option ℕ) (n : ℕ) → is_found o n ≡ true → o ≡ Some n
found None n is = cc
found (Some m) n is = ap (λ (k : ℕ). Some k) (eqb-true m n is)

-- whether a text is a name of at most four bytes, by which the assembler knows this register
abbrev is_name_of : List ℕ → ℕ → Bool
is_name_of word n = is_plain_word word && is_name word && nat_le (length word) 4 && is_found (register_of word) n

-- whether numbers below another have something
abbrev all_below : ℕ → (ℕ → Bool) → Bool
all_below zero test = true
all_below (suc k) test = test k && all_below k test

eq_or_less : (n k : ℕ) → n < suc k → (n ≡ k) ⊎ (n < k)
eq_or_less n k less = elim (eqb_tells n k) [ inl is ↦ inl is.1 | inr not ↦ inr (omega (arith, not)) ]

below : (k : ℕ) (test : ℕ → Bool) (n : ℕ) → all_below k test ≡ true → n < k → test n ≡ true
below zero test n all less = absurd (omega arith)
below (suc k) test n all less =
    let both = and_parts (test k) (all_below k test) all in
    elim (eq_or_less n k less) [
      | inl is ↦ ap test is ∙ both.0
      | inr less' ↦ below k test n both.1 less'
    ]

-- what is true of the name of a register
pub record IsNamed (n : ℕ) : Type 0 where
  pub word : is_plain_word (register_name n) ≡ true
  pub name : is_name (register_name n) ≡ true
  pub short : length (register_name n) ≤ 4
  pub known : register_of (register_name n) ≡ Some n

all_named : all_below 32 (λ n. is_name_of (register_name n) n) ≡ true
unfolding register_name register_named
all_named = refl

pub named : (n : ℕ) → n < 32 → IsNamed n
named n less =
    let word = register_name n in
    let all = below 32 (λ k. is_name_of (register_name k) k) n all_named less in
    let last = and_parts (is_plain_word word && is_name word && nat_le (length word) 4) (is_found (register_of word) n) all in
    let third = and_parts (is_plain_word word && is_name word) (nat_le (length word) 4) last.0 in
    let both = and_parts (is_plain_word word) (is_name word) third.0 in
    record { word = both.0; name = both.1; short = leb-true (length word) 4 third.1; known = found (register_of word) n last.1 }

-- the name among some that are those of the registers
pub name_at : {A : Type 0} (text : A → List ℕ) (items : List A) (n : ℕ) (d : A) → map text items ≡ map (λ row. row.0) registers → n < 32
    → text (get_or items n d) ≡ register_name n
unfolding register_name
name_at text items n d are less =
    let count : length items ≡ 32 = sym (length-map items text) ∙ ap length are in
    let within : n < length items = omega (arith, count) in
    sym (get_or-map text items n d [] within) ∙ ap (λ (names : List (List ℕ)). get_or names n []) are

-- and it has at most four bytes
pub short_at : {A : Type 0} (text : A → List ℕ) (items : List A) (n : ℕ) (d : A) → map text items ≡ map (λ row. row.0) registers → n < 32
    → length (text (get_or items n d)) ≤ 4
short_at text items n d are less =
    let same : length (text (get_or items n d)) ≡ length (register_name n) = ap length (name_at text items n d are less) in
    omega (arith, same, (named n less).short)
