-- What is known of registers and of the guarded word: how it is kept, weakened and said as claims.
use Rattle.std.proofs.Common.{List, None, Option, Some, [], ap, arith, cond, false, inl, inr, length, set, subst, suc, sym, true, zero, ℕ, ◌%◌, ◌*◌, ◌+◌, ◌<◌, ◌==◌, ◌^◌, ◌∙◌, ◌∷◌, ◌≡◌, ◌≢◌, ◌⊎◌}
use Rattle.std.proofs.lemmas.Bool.{and_parts, cases_Bool, cases_eq, cond-false, cond-true, eqb-true, true≢false}
use Rattle.std.proofs.lemmas.List.{get_or-set_other, get_or-set_same}
use Rattle.std.specs.Prelude.{get_or, slice_index}
use Rattle.xinu_model.specs.Isa.Effects.{register, with_register}
use Rattle.program_logic.specs.Claims.{registers_claim, side_claim, slot_claim, word_claim}
use Rattle.program_logic.specs.Outlines.{Says}
use Rattle.program_logic.specs.PlaceCheck.{arrives}
use Rattle.program_logic.specs.Terms.{all_fixed, constant, facts_entail, fixed, given, is_constant, slot_entails, slot_of, slots_entail, value}
use Rattle.program_logic.specs.declared.knowledge.Facts.{Facts}
use Rattle.program_logic.specs.declared.values.Slot.{Slot}
use Rattle.program_logic.specs.declared.values.Slot.TheVariants.{Known, Unknown}

-- what a slot means of a number
abbrev pub Means : Slot → ℕ → ℕ → Type 0
Means Unknown n x = Unit {0}
Means (Known t) n x = x ≡ value t n

-- what facts mean of the count, the word and the registers
pub record Describes (f : Facts) (n v : ℕ) (regs : List ℕ) : Type 0 where
  pub registers : (j : ℕ) → Means (get_or f.registers j Unknown) n (slice_index regs j)
  pub word : Means f.word n v

pub means_constant : (s : Slot) (c n x : ℕ) → c < 2 ^ 32 → is_constant s c ≡ true → Means s n x → x ≡ c
means_constant Unknown c n x fits is m = absurd (true≢false (sym is))
means_constant (Known t) c n x fits is m =
    let a = and_parts (t.times == 0) (t.plus == c) is in
    let e = eqb-true t.times 0 a.0 in
    let d = eqb-true t.plus c a.1 in
    m ∙ ap (λ z. (z * n + t.plus) % 2 ^ 32) e ∙ omega (arith, d)

pub means_entailed : (h w : Slot) (n x : ℕ) → slot_entails h w ≡ true → Means h n x → Means w n x
means_entailed h Unknown n x is m = tt
means_entailed Unknown (Known b) n x is m = absurd (true≢false (sym is))
means_entailed (Known a) (Known b) n x is m =
    let z = and_parts (a.times == b.times) (a.plus == b.plus) is in
    m ∙ ap (λ t. (t * n + a.plus) % 2 ^ 32) (eqb-true a.times b.times z.0) ∙ ap (λ p. (b.times * n + p) % 2 ^ 32) (eqb-true a.plus b.plus z.1)

pub means_fixed : (s : Slot) (n m x : ℕ) → Means s n x → Means (fixed s) m x
means_fixed Unknown n m x is = tt
means_fixed (Known t) n m x is = by (cases_Bool (t.times == 0))
  where
    by : ((t.times == 0) ≡ true) ⊎ ((t.times == 0) ≡ false) → Means (cond (t.times == 0) (Known t) Unknown) m x
    by (inl zero_times) =
        let e = eqb-true t.times 0 zero_times in
        subst (λ s. Means s m x) (sym (cond-true (t.times == 0) (Known t) Unknown zero_times))
        (is ∙ ap (λ z. (z * n + t.plus) % 2 ^ 32) e ∙ ap (λ z. z % 2 ^ 32) (omega arith) ∙ ap (λ z. (z * m + t.plus) % 2 ^ 32) (sym e))
    by (inr some) = subst (λ s. Means s m x) (sym (cond-false (t.times == 0) (Known t) Unknown some)) tt

-- of all registers
pub all_means_fixed : (ss : List Slot) (j n m x : ℕ) → Means (get_or ss j Unknown) n x → Means (get_or (all_fixed ss) j Unknown) m x
all_means_fixed [] j n m x is = tt
all_means_fixed (s ∷ ss) zero n m x is = means_fixed s n m x is
all_means_fixed (s ∷ ss) (suc j) n m x is = all_means_fixed ss j n m x is

pub all_means_entailed : (hs ws : List Slot) (j n x : ℕ) → slots_entail hs ws ≡ true → Means (get_or hs j Unknown) n x → Means (get_or ws j Unknown) n x
all_means_entailed hs [] j n x is m = tt
all_means_entailed [] (w ∷ ws) zero n x is m = means_entailed Unknown w n x (and_parts (slot_entails Unknown w) (slots_entail [] ws) is).0 tt
all_means_entailed [] (w ∷ ws) (suc j) n x is m = all_means_entailed [] ws j n x (and_parts (slot_entails Unknown w) (slots_entail [] ws) is).1 tt
all_means_entailed (h ∷ hs) (w ∷ ws) zero n x is m = means_entailed h w n x (and_parts (slot_entails h w) (slots_entail hs ws) is).0 m
all_means_entailed (h ∷ hs) (w ∷ ws) (suc j) n x is m = all_means_entailed hs ws j n x (and_parts (slot_entails h w) (slots_entail hs ws) is).1 m

means_set_same : (ss : List Slot) (i : ℕ) (s : Slot) (n x : ℕ) → Means s n x → Means (get_or (set ss i s) i Unknown) n x
means_set_same [] i s n x m = tt
means_set_same (z ∷ ss) zero s n x m = m
means_set_same (z ∷ ss) (suc i) s n x m = means_set_same ss i s n x m

pub all_means_set : (ss : List Slot) (regs : List ℕ) (i : ℕ) (s : Slot) (n x : ℕ) → length regs ≡ 32 → i < 32
    → ((j : ℕ) → Means (get_or ss j Unknown) n (slice_index regs j)) → Means s n x
    → (j : ℕ) → Means (get_or (set ss i s) j Unknown) n (slice_index (set regs i x) j)
all_means_set ss regs i s n x many few all m j = by (cases_eq j i)
  where
    by : (j ≡ i) ⊎ (j ≢ i) → Means (get_or (set ss i s) j Unknown) n (slice_index (set regs i x) j)
    by (inl same) =
        subst (λ j. Means (get_or (set ss i s) j Unknown) n (slice_index (set regs i x) j)) (sym same)
        (subst (Means (get_or (set ss i s) i Unknown) n) (sym (get_or-set_same regs i x 0 (omega (arith, many)))) (means_set_same ss i s n x m))
    by (inr other) =
        subst (Means (get_or (set ss i s) j Unknown) n) (sym (get_or-set_other regs i j x 0 other))
        (subst (λ z. Means z n (slice_index regs j)) (sym (get_or-set_other ss i j s Unknown other)) (all j))

-- ---- facts

pub facts_entailed : (have want : Facts) (n v : ℕ) (regs : List ℕ) → facts_entail have want ≡ true → Describes have n v regs → Describes want n v regs
facts_entailed have want n v regs is d =
    let z = and_parts (slot_entails have.word want.word) (slots_entail have.registers want.registers) is in
    record {
      registers = λ j. all_means_entailed have.registers want.registers j n (slice_index regs j) z.1 (d.registers j);
      word = means_entailed have.word want.word n v z.0 d.word;
    }

pub read : (f : Facts) (i n v : ℕ) (regs : List ℕ) → Describes f n v regs → Means (slot_of f i) n (register regs i)
read f i n v regs d = by (cases_Bool (i == 0))
  where
    by : ((i == 0) ≡ true) ⊎ ((i == 0) ≡ false) → Means (cond (i == 0) (Known (constant 0)) (get_or f.registers i Unknown)) n (cond (i == 0) 0 (slice_index regs i))
    by (inl e) = subst (λ b. Means (cond b (Known (constant 0)) (get_or f.registers i Unknown)) n (cond b 0 (slice_index regs i))) (sym e) (omega arith)
    by (inr e) = subst (λ b. Means (cond b (Known (constant 0)) (get_or f.registers i Unknown)) n (cond b 0 (slice_index regs i))) (sym e) (d.registers i)

pub put : (f : Facts) (i : ℕ) (s : Slot) (n v x : ℕ) (regs : List ℕ) → length regs ≡ 32 → i < 32 → Describes f n v regs → Means s n x
    → Describes (given f i s) n v (with_register regs i x)
put f i s n v x regs many few d m = by (cases_Bool (i == 0))
  where
    by : ((i == 0) ≡ true) ⊎ ((i == 0) ≡ false)
        → Describes (cond (i == 0) f (record { registers = set f.registers i s; word = f.word })) n v (cond (i == 0) regs (set regs i x))
    by (inl e) = subst (λ b. Describes (cond b f (record { registers = set f.registers i s; word = f.word })) n v (cond b regs (set regs i x))) (sym e) d
    by (inr e) =
        subst (λ b. Describes (cond b f (record { registers = set f.registers i s; word = f.word })) n v (cond b regs (set regs i x))) (sym e)
        (record { registers = all_means_set f.registers regs i s n x many few d.registers m; word = d.word })

-- ---- claims

slot_said : (i : ℕ) (s : Slot) (n v : ℕ) (regs : List ℕ) → Says (slot_claim i s) n v regs → Means s n (slice_index regs i)
slot_said i Unknown n v regs says = tt
slot_said i (Known t) n v regs says = says

slot_says : (i : ℕ) (s : Slot) (n v : ℕ) (regs : List ℕ) → Means s n (slice_index regs i) → Says (slot_claim i s) n v regs
slot_says i Unknown n v regs m = tt
slot_says i (Known t) n v regs m = m

registers_said : (i : ℕ) (ss : List Slot) (n v : ℕ) (regs : List ℕ) → Says (registers_claim i ss) n v regs
    → (j : ℕ) → Means (get_or ss j Unknown) n (slice_index regs (i + j))
registers_said i [] n v regs says j = tt
registers_said i (s ∷ ss) n v regs says zero =
    let e : i ≡ i + 0 = omega arith in subst (λ k. Means s n (slice_index regs k)) e (slot_said i s n v regs says.0)
registers_said i (s ∷ ss) n v regs says (suc j) =
    let e : suc i + j ≡ i + suc j = omega arith in
    subst (λ k. Means (get_or ss j Unknown) n (slice_index regs k)) e (registers_said (suc i) ss n v regs says.1 j)

registers_say : (i : ℕ) (ss : List Slot) (n v : ℕ) (regs : List ℕ)
    → ((j : ℕ) → Means (get_or ss j Unknown) n (slice_index regs (i + j))) → Says (registers_claim i ss) n v regs
registers_say i [] n v regs all = tt
registers_say i (s ∷ ss) n v regs all =
    let e : i + 0 ≡ i = omega arith in (
      slot_says i s n v regs (subst (λ k. Means s n (slice_index regs k)) e (all 0)),
      registers_say (suc i) ss n v regs
          (λ j. let d : i + suc j ≡ suc i + j = omega arith in subst (λ k. Means (get_or ss j Unknown) n (slice_index regs k)) d (all (suc j))),
    )

word_said : (s : Slot) (n v : ℕ) (regs : List ℕ) → Says (word_claim s) n v regs → Means s n v
word_said Unknown n v regs says = tt
word_said (Known t) n v regs says = says

word_says : (s : Slot) (n v : ℕ) (regs : List ℕ) → Means s n v → Says (word_claim s) n v regs
word_says Unknown n v regs m = tt
word_says (Known t) n v regs m = m

pub said : (f : Facts) (n v : ℕ) (regs : List ℕ) → Says (side_claim (Some f)) n v regs → Describes f n v regs
said f n v regs says = record {
  registers = λ j. let e : 0 + j ≡ j = omega arith in
      subst (λ k. Means (get_or f.registers j Unknown) n (slice_index regs k)) e (registers_said 0 f.registers n v regs says.1 j);
  word = word_said f.word n v regs says.0;
}

pub says_so : (f : Facts) (n v : ℕ) (regs : List ℕ) → Describes f n v regs → Says (side_claim (Some f)) n v regs
says_so f n v regs d = (
  word_says f.word n v regs d.word,
  registers_say 0 f.registers n v regs (λ j. let e : j ≡ 0 + j = omega arith in
      subst (λ k. Means (get_or f.registers j Unknown) n (slice_index regs k)) e (d.registers j)),
)

pub arrived : (want : Option Facts) (have : Facts) (n v : ℕ) (regs : List ℕ) → arrives want have ≡ true → Describes have n v regs
    → Says (side_claim want) n v regs
arrived None have n v regs is d = absurd (true≢false (sym is))
arrived (Some want) have n v regs is d = says_so want n v regs (facts_entailed have want n v regs is d)
