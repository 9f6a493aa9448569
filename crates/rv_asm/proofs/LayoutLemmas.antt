-- What lines without a fault keep.
use Rattle.std.proofs.Common.{◌≡◌, ℕ, ◌+◌, ◌-◌, ◌*◌, ◌%◌, ◌≤◌, ◌<◌, nat_lt, Bool, true, false, not, ◌&&◌, ◌||◌, List, [], ◌∷◌, length, refl}
use Rattle.std.proofs.Common.{arith, length-append}
use Rattle.std.specs.Prelude.{min, ◌==◌, nat_le, unwrap_or, is_some}
use Rattle.std.proofs.lemmas.Bool.Decides.{nat_tests}
use Rattle.std.proofs.lemmas.Bool.{eqb-true, leb-true, not-false}
use Rattle.std.specs.List.{flat_map}
use Rattle.std.proofs.lemmas.List.{length-replicate}
use Rattle.asm_syntax.specs.Statements.{Statement, Empty, Malformed, Unresolved, Excessive, NameFor, NegativeFor, Code, Branch, JumpTo, AddressOf}
use Rattle.asm_syntax.specs.Statements.{Bytes, WordAt, Zeros, Align, Place, Entry, Priority, Stack, word_bytes}
use Rattle.rv_asm.specs.Layouts.{size_at, Labels, Layout, after_statement}
use Rattle.rv_asm.specs.Faults.{is_bad, is_excessive}
use Rattle.rv_asm.specs.Assembly.{bytes_at}

-- four bytes a word
length-words : (words : List ℕ) → length (flat_map word_bytes words) ≡ 4 * length words
length-words [] = refl
length-words (w ∷ words) = omega (arith, length-append (word_bytes w) (flat_map word_bytes words), length-words words)

-- a statement has as many bytes as its size
pub length-bytes_at : (labels : Labels) (at : ℕ) (statement : Statement) → length (bytes_at labels at statement) ≡ size_at at statement
length-bytes_at labels at Empty = refl
length-bytes_at labels at Malformed = refl
length-bytes_at labels at Unresolved = refl
length-bytes_at labels at Excessive = refl
length-bytes_at labels at (NameFor field) = refl
length-bytes_at labels at (NegativeFor field) = refl
length-bytes_at labels at (Code words) = length-words words
length-bytes_at labels at (Branch bits rs1 rs2 l) = refl
length-bytes_at labels at (JumpTo rd l) = refl
length-bytes_at labels at (AddressOf rd l) = refl
length-bytes_at labels at (Bytes bytes) = refl
length-bytes_at labels at (WordAt l) = refl
length-bytes_at labels at (Zeros n) = length-replicate n 0
length-bytes_at labels at Align = length-replicate ((4 - at % 4) % 4) 0
length-bytes_at labels at (Place n) = refl
length-bytes_at labels at (Entry l) = refl
length-bytes_at labels at (Priority n) = refl
length-bytes_at labels at (Stack n) = refl

-- what is true after lines without a fault that put so many bytes
pub record Keeps (s : Layout) (size : ℕ) : Type 0 where
  pub at : s.at ≡ unwrap_or s.place 0 + size
  pub none : s.begun ≡ false → size ≡ 0
  pub inside : s.at ≤ 1048576
  pub aligned : unwrap_or s.place 0 % 4 ≡ 0
  pub priority_low : 1 ≤ unwrap_or s.priority 20
  pub priority_high : unwrap_or s.priority 20 ≤ 32767
  pub stack : unwrap_or s.stack 4096 < 4294967296

fits : (odd : Bool) (at size : ℕ) → (odd || (nat_lt 0 size && nat_lt 1048576 (at + size))) ≡ false → at ≤ 1048576 → at + size ≤ 1048576
fits odd at size is inside = grind (arith, nat_tests)

pub neither : (a b : Bool) → (a || b) ≡ false → (a ≡ false) × (b ≡ false)
neither true b is = cc
neither false b is = (refl, is)

pub both_true : (a b : Bool) → not (a && b) ≡ false → (a ≡ true) × (b ≡ true)
both_true true b is = (refl, not-false b is)
both_true false b is = cc

keeps-content : (s : Layout) (size more : ℕ) (b : Bool) → s.at + more ≤ 1048576 → (b ≡ false → more ≡ 0) → Keeps s size
    → Keeps
    (record {
      place = s.place;
      entry = s.entry;
      priority = s.priority;
      stack = s.stack;
      labels = s.labels;
      begun = s.begun || b;
      at = min (s.at + more) 4294967296;
    })
    (size + more)
keeps-content s size more b inside none keeps = record {
  at = omega (arith, keeps.at, inside);
  none = λ e. let parts = neither s.begun b e in omega (arith, keeps.none parts.0, none parts.1);
  inside = omega (arith, inside);
  aligned = keeps.aligned;
  priority_low = keeps.priority_low;
  priority_high = keeps.priority_high;
  stack = keeps.stack;
}

-- a statement without a fault keeps it
pub keeps-statement : (statement : Statement) (s : Layout) (size : ℕ) → is_bad statement s ≡ false → is_excessive statement s.at ≡ false
    → Keeps s size → Keeps (after_statement statement s) (size + size_at s.at statement)
keeps-statement Empty s size good fit keeps = keeps-content s size 0 false (omega (arith, keeps.inside)) (λ e. refl) keeps
keeps-statement Malformed s size good fit keeps = cc
keeps-statement Unresolved s size good fit keeps = keeps-content s size 0 false (omega (arith, keeps.inside)) (λ e. refl) keeps
keeps-statement Excessive s size good fit keeps = cc
keeps-statement (NameFor field) s size good fit keeps = keeps-content s size 0 false (omega (arith, keeps.inside)) (λ e. refl) keeps
keeps-statement (NegativeFor field) s size good fit keeps = cc
keeps-statement (Code words) s size good fit keeps =
    keeps-content s size (4 * length words) true (fits _ s.at (4 * length words) fit keeps.inside) (λ e. cc) keeps
keeps-statement (Branch bits rs1 rs2 l) s size good fit keeps = keeps-content s size 4 true (fits _ s.at 4 fit keeps.inside) (λ e. cc) keeps
keeps-statement (JumpTo rd l) s size good fit keeps = keeps-content s size 4 true (fits _ s.at 4 fit keeps.inside) (λ e. cc) keeps
keeps-statement (AddressOf rd l) s size good fit keeps = keeps-content s size 8 true (fits _ s.at 8 fit keeps.inside) (λ e. cc) keeps
keeps-statement (Bytes bytes) s size good fit keeps =
    keeps-content s size (length bytes) true (fits false s.at (length bytes) fit keeps.inside) (λ e. cc) keeps
keeps-statement (WordAt l) s size good fit keeps = keeps-content s size 4 true (fits false s.at 4 fit keeps.inside) (λ e. cc) keeps
keeps-statement (Zeros n) s size good fit keeps = keeps-content s size n true (fits false s.at n fit keeps.inside) (λ e. cc) keeps
keeps-statement Align s size good fit keeps =
    keeps-content s size ((4 - s.at % 4) % 4) true (fits false s.at ((4 - s.at % 4) % 4) fit keeps.inside) (λ e. cc) keeps
keeps-statement (Place n) s size good fit keeps =
    let parts = neither (is_some s.place) s.begun good in
    let none : size ≡ 0 = keeps.none parts.1 in
    let tests = both_true (n % 4 == 0) (nat_le n 1048576) fit in
    let aligned : n % 4 ≡ 0 = eqb-true _ _ tests.0 in
    let inside : n ≤ 1048576 = leb-true _ _ tests.1 in
    record {
      at = omega (arith, none, inside);
      none = λ e. omega (arith, none);
      inside = omega (arith, inside);
      aligned = aligned;
      priority_low = keeps.priority_low;
      priority_high = keeps.priority_high;
      stack = keeps.stack;
    }
keeps-statement (Entry l) s size good fit keeps = record {
  at = omega (arith, keeps.at);
  none = λ e. omega (arith, keeps.none e);
  inside = keeps.inside;
  aligned = keeps.aligned;
  priority_low = keeps.priority_low;
  priority_high = keeps.priority_high;
  stack = keeps.stack;
}
keeps-statement (Priority n) s size good fit keeps =
    let tests = both_true (nat_le 1 n) (nat_le n 32767) fit in
    record {
      at = omega (arith, keeps.at);
      none = λ e. omega (arith, keeps.none e);
      inside = keeps.inside;
      aligned = keeps.aligned;
      priority_low = leb-true _ _ tests.0;
      priority_high = leb-true _ _ tests.1;
      stack = keeps.stack;
    }
keeps-statement (Stack n) s size good fit keeps = record {
  at = omega (arith, keeps.at);
  none = λ e. omega (arith, keeps.none e);
  inside = keeps.inside;
  aligned = keeps.aligned;
  priority_low = keeps.priority_low;
  priority_high = keeps.priority_high;
  stack = grind (arith, nat_tests);
}
