-- A trap in the text of lines.
use Rattle.std.proofs.Common.{◌≡◌, ◌≢◌, ◌∙◌, ◌/◌, ◌%◌, ◌<◌, ◌==◌, ℕ, zero, suc, Bool, true, false, cond, List, [], ◌∷◌, ◌++◌, Option, Some, None, refl, sym, ap, arith, append_assoc}
use Rattle.std.proofs.lemmas.Bool.Decides.{nat_tests}
use Rattle.std.specs.Prelude.{codes}
use Rattle.std.specs.Fmt.{decimal, digit_glyph, digits, digits_onto}
use Rattle.xinu_base.specs.Names.{cause_name}
use Rattle.xinu_base.specs.declared.lines.TranscriptLine.{TranscriptLine}
use Rattle.xinu_base.specs.declared.lines.TranscriptLine.TheVariants as line
use Rattle.xinu_base.specs.declared.registers.Cause.{Cause}
use Rattle.xinu_base.specs.declared.registers.Cause.TheVariants.{Fetch, Illegal, Break, Target, Load, Store}
use Rattle.xinu_model.specs.Text.{text, line_fields, with_fields}
use Rattle.watched_run.specs.Traps.{after_blank, cause_of, trap_in}

-- a digit is no blank
glyph-other : (n : ℕ) → (digit_glyph false (n % 10) == 32) ≡ false
glyph-other n = let few : n % 10 < 10 = omega arith in grind (arith, nat_tests)

digit-passed : (n : ℕ) (acc : List ℕ) → after_blank (digit_glyph false (n % 10) ∷ acc) ≡ after_blank acc
digit-passed n acc = ap (λ b. cond b acc (after_blank acc)) (glyph-other n)

-- the last digit
last-digit : (b : Bool) (more acc : List ℕ) → after_blank more ≡ after_blank acc → (one : List ℕ) → after_blank one ≡ after_blank acc
    → after_blank (cond b one more) ≡ after_blank acc
last-digit true more acc is one ends = ends
last-digit false more acc is one ends = is

digits-passed : (k n : ℕ) (acc : List ℕ) → after_blank (digits_onto k 10 false n acc) ≡ after_blank acc
digits-passed zero n acc = refl
digits-passed (suc k) n acc =
    let one = digit_glyph false (n % 10) ∷ acc in
    last-digit (n / 10 == 0) (digits_onto k 10 false (n / 10) one) acc (digits-passed k (n / 10) one ∙ digit-passed n acc) one (digit-passed n acc)

-- the last digit, and what is written after the number
digit-append : (b : Bool) (g : ℕ) (acc rest more others : List ℕ) → more ++ rest ≡ others → cond b (g ∷ acc) more ++ rest ≡ cond b (g ∷ (acc ++ rest)) others
digit-append true g acc rest more others is = refl
digit-append false g acc rest more others is = is

-- the digits come before what is written after them
onto-append : (k n : ℕ) (acc rest : List ℕ) → digits_onto k 10 false n acc ++ rest ≡ digits_onto k 10 false n (acc ++ rest)
onto-append zero n acc rest = refl
onto-append (suc k) n acc rest =
    let g = digit_glyph false (n % 10) in
    digit-append (n / 10 == 0) g acc rest (digits_onto k 10 false (n / 10) (g ∷ acc)) (digits_onto k 10 false (n / 10) (g ∷ (acc ++ rest)))
    (onto-append k (n / 10) (g ∷ acc) rest)

-- no digit of a number is a blank
number-passed : (n : ℕ) (rest : List ℕ) → after_blank (decimal n ++ 32 ∷ rest) ≡ rest
unfolding digits
number-passed n rest = ap after_blank (onto-append 64 n [] (32 ∷ rest)) ∙ digits-passed 64 n (32 ∷ rest)

-- the word of a cause says it
cause-said : (cause : Cause) (rest : List ℕ) → cause_of (cause_name cause ++ rest) ≡ Some cause
cause-said Fetch rest = refl
cause-said Illegal rest = refl
cause-said Break rest = refl
cause-said Target rest = refl
cause-said Load rest = refl
cause-said Store rest = refl

-- the end of a line
line-end : (d c t : List ℕ) → ((d ++ 32 ∷ c) ++ 10 ∷ []) ++ t ≡ d ++ 32 ∷ (c ++ (10 ∷ t))
line-end d c t = simp append_assoc

-- the text of lines of which the first is a trap
trap-text : (p : ℕ) (cause : Cause) (lines : List TranscriptLine)
    → text (line.Trap p cause ∷ lines) ≡ codes "trap " ++ (decimal p ++ 32 ∷ (cause_name cause ++ (10 ∷ text lines)))
trap-text p cause lines = ap (λ (l : List ℕ). 116 ∷ 114 ∷ 97 ∷ 112 ∷ 32 ∷ l) (line-end (decimal p) (cause_name cause) (text lines))

-- Bytes begin with another one than a trap's.
record BeginsOther (bytes : List ℕ) : Type 0 where
  first : ℕ
  rest : List ℕ
  is : bytes ≡ first ∷ rest
  other : first ≢ 116

-- a line begins as its first field does
record BeginsWith (b : ℕ) (bytes : List ℕ) : Type 0 where
  rest : List ℕ
  is : bytes ≡ b ∷ rest

fields-begin : (b : ℕ) (bytes : List ℕ) (fields : List (List ℕ)) → BeginsWith b (with_fields (b ∷ bytes) fields)
fields-begin b bytes [] = record { rest = bytes; is = refl }
fields-begin b bytes (field ∷ fields) = fields-begin b (bytes ++ 32 ∷ field) fields

begins : (b : ℕ) (l : TranscriptLine) (word : List ℕ) (fields : List (List ℕ)) (lines : List TranscriptLine) → line_fields l ≡ (b ∷ word) ∷ fields → b ≢ 116
    → BeginsOther (text (l ∷ lines))
begins b l word fields lines are other =
    let first = fields-begin b word fields in
    record {
      first = b;
      rest = (first.rest ++ 10 ∷ []) ++ text lines;
      is = ap (λ (fs : List (List ℕ)). (with_fields [] fs ++ 10 ∷ []) ++ text lines) are ∙ ap (λ (t : List ℕ). (t ++ 10 ∷ []) ++ text lines) first.is;
      other = other;
    }

other-text : (l : TranscriptLine) (lines : List TranscriptLine) → trap_in (l ∷ lines) ≡ None → BeginsOther (text (l ∷ lines))
other-text (line.Trap p cause) lines none = absurd (cc)
other-text (line.Call p call) lines none = begins 99 (line.Call p call) _ _ lines refl (λ e. absurd (omega arith))
other-text (line.File p moment) lines none = begins 102 (line.File p moment) _ _ lines refl (λ e. absurd (omega arith))
other-text (line.Return p value) lines none = begins 114 (line.Return p value) _ _ lines refl (λ e. absurd (omega arith))
other-text (line.Con b) lines none = begins 99 (line.Con b) _ _ lines refl (λ e. absurd (omega arith))
other-text (line.Switch p) lines none = begins 114 (line.Switch p) _ _ lines refl (λ e. absurd (omega arith))
other-text (line.Now ticks quantum) lines none = begins 110 (line.Now ticks quantum) _ _ lines refl (λ e. absurd (omega arith))
other-text (line.Process p state priority parent message name) lines none = begins 112 (line.Process p state priority parent message name) _ _ lines refl (λ e. absurd (omega arith))
other-text (line.Ready p key) lines none = begins 114 (line.Ready p key) _ _ lines refl (λ e. absurd (omega arith))
other-text (line.Semaphore sem count) lines none = begins 115 (line.Semaphore sem count) _ _ lines refl (λ e. absurd (omega arith))
other-text (line.Waiter sem p) lines none = begins 119 (line.Waiter sem p) _ _ lines refl (λ e. absurd (omega arith))
other-text (line.Sleeper p wake) lines none = begins 115 (line.Sleeper p wake) _ _ lines refl (λ e. absurd (omega arith))
other-text (line.Free address bytes) lines none = begins 102 (line.Free address bytes) _ _ lines refl (λ e. absurd (omega arith))
other-text (line.Pool i size free held) lines none = begins 112 (line.Pool i size free held) _ _ lines refl (λ e. absurd (omega arith))
other-text (line.Buffer i address) lines none = begins 98 (line.Buffer i address) _ _ lines refl (λ e. absurd (omega arith))
other-text (line.Port q seq messages) lines none = begins 112 (line.Port q seq messages) _ _ lines refl (λ e. absurd (omega arith))
other-text (line.Node q message) lines none = begins 110 (line.Node q message) _ _ lines refl (λ e. absurd (omega arith))
other-text (line.Console mode committed l output echo held) lines none = begins 99 (line.Console mode committed l output echo held) _ _ lines refl (λ e. absurd (omega arith))
other-text (line.Disk0 requests) lines none = begins 100 (line.Disk0 requests) _ _ lines refl (λ e. absurd (omega arith))
other-text (line.OpenFile dev position size) lines none = begins 108 (line.OpenFile dev position size) _ _ lines refl (λ e. absurd (omega arith))
other-text (line.Disk1 busy) lines none = begins 100 (line.Disk1 busy) _ _ lines refl (λ e. absurd (omega arith))
other-text (line.End end) lines none = begins 101 (line.End end) _ _ lines refl (λ e. absurd (omega arith))

-- The first line is a trap.
record IsTrap (l : TranscriptLine) (cause : Cause) : Type 0 where
  process : ℕ
  is : l ≡ line.Trap process cause

is-trap : (l : TranscriptLine) (lines : List TranscriptLine) (cause : Cause) → trap_in (l ∷ lines) ≡ Some cause → IsTrap l cause
is-trap (line.Trap p other) lines cause some = record { process = p; is = ap (line.Trap p) (let same : other ≡ cause = cc in same) }
is-trap _ lines cause some = absurd (cc)

-- no trap
none-left : (found : Option Cause) → ((cause : Cause) → found ≡ Some cause → ⊥) → None ≡ found
none-left None none = refl
none-left (Some cause) none = absurd (none cause refl)

-- a text that doesn't begin with a trap
pub no-trap : (lines : List TranscriptLine) (bytes : List ℕ) → bytes ≡ text lines → ((rest : List ℕ) → bytes ≢ codes "trap " ++ rest) → None ≡ trap_in lines
no-trap [] bytes is other = refl
no-trap (l ∷ lines) bytes is other =
    none-left (trap_in (l ∷ lines))
    (λ cause some. let t = is-trap l lines cause some in
    other (decimal t.process ++ 32 ∷ (cause_name cause ++ (10 ∷ text lines)))
    (is ∙ ap (λ x. text (x ∷ lines)) t.is ∙ trap-text t.process cause lines))

-- a text that begins with a trap, by whether its first line is one
trap-found : (found : Option Cause) (l : TranscriptLine) (lines : List TranscriptLine) (bytes rest : List ℕ) → trap_in (l ∷ lines) ≡ found
    → bytes ≡ text (l ∷ lines) → bytes ≡ codes "trap " ++ rest → cause_of (after_blank rest) ≡ found
trap-found None l lines bytes rest none is begins =
    let other = other-text l lines none in
    let same : other.first ∷ other.rest ≡ 116 ∷ 114 ∷ 97 ∷ 112 ∷ 32 ∷ rest = sym other.is ∙ sym is ∙ begins in
    absurd (other.other (cc))
trap-found (Some cause) l lines bytes rest some is begins =
    let t = is-trap l lines cause some in
    let tail = decimal t.process ++ 32 ∷ (cause_name cause ++ (10 ∷ text lines)) in
    let same : 116 ∷ 114 ∷ 97 ∷ 112 ∷ 32 ∷ rest ≡ 116 ∷ 114 ∷ 97 ∷ 112 ∷ 32 ∷ tail =
    sym begins ∙ is ∙ ap (λ x. text (x ∷ lines)) t.is ∙ trap-text t.process cause lines in
    let e : rest ≡ tail = cc in
    ap (λ r. cause_of (after_blank r)) e
    ∙ ap cause_of (number-passed t.process (cause_name cause ++ (10 ∷ text lines)))
    ∙ cause-said cause (10 ∷ text lines)

-- a text that begins with a trap
pub trap-is : (lines : List TranscriptLine) (bytes rest : List ℕ) → bytes ≡ text lines → bytes ≡ codes "trap " ++ rest → cause_of (after_blank rest) ≡ trap_in lines
trap-is [] bytes rest is begins = absurd (cc)
trap-is (l ∷ lines) bytes rest is begins = trap-found (trap_in (l ∷ lines)) l lines bytes rest refl is begins
