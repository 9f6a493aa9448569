-- One step of a program stays within its code.
use Rattle.std.proofs.Common.{◌≡◌, ◌∙◌, ℕ, zero, suc, ◌+◌, ◌*◌, ◌%◌, ◌≤◌, ◌<◌, ◌==◌, Bool, true, false, cond, ◌&&◌, List, [], ◌∷◌, length, drop, inl, inr, refl, sym, ap, subst, arith}
use Rattle.std.proofs.lemmas.Bool.{eq-eqb, le-leb, ne_eqb}
use Rattle.soak_laws.specs.Code.{HoldsNumber, IsCode, IsLoaded, IsPlain, IsWithin, Lie}
use Rattle.soak_laws.specs.Steps.{StepsWithin, WentOrCalled}
use Rattle.xinu_base.specs.Constants.{INITRET}
use Rattle.xinu_base.specs.declared.registers.Cause.TheVariants.{Fetch}
use Rattle.xinu_base.specs.declared.registers.Hart.{Hart}
use Rattle.xinu_base.specs.declared.registers.Outcome.TheVariants.{Exit, Trap}
use Rattle.xinu_model.specs.Isa.Effects.{Executed, following, stops}
use Rattle.xinu_model.specs.Isa.Exec.{exec, perform}
use Rattle.xinu_model.specs.Memory.{in_ram, may_access, number_at, ram_size}

-- the word at a place of a program, which lies in RAM, and what comes after it
record IsFound (memory : List ℕ) (a place : ℕ) (words : List ℕ) (w : ℕ) (more : List ℕ) : Type 0 where
  word : number_at memory a 4 ≡ w
  inside : place < length words
  rest : more ≡ drop (suc place) words

found : (memory : List ℕ) (first a place : ℕ) (words : List ℕ) (w : ℕ) (more : List ℕ) → a ≡ first + 4 * place → w ∷ more ≡ drop place words
    → Lie memory first words → IsFound memory a place words w more
found memory first a zero [] w more is e lie = absurd (cc)
found memory first a (suc place) [] w more is e lie = absurd (cc)
found memory first a zero (x ∷ words) w more is e lie =
    let here : a ≡ first = omega arith in
    let same : w ≡ x = cc in
    let left : more ≡ words = cc in
    record { word = ap (λ b. number_at memory b 4) here ∙ lie.1.0 ∙ sym same; inside = omega arith; rest = left }
found memory first a (suc place) (x ∷ words) w more is e lie =
    let next = found memory (first + 4) a place words w more (omega arith) e lie.1.1 in
    record { word = next.word; inside = omega (arith, next.inside); rest = next.rest }

-- a step at a word
at_word : (h : Hart) (memory : List ℕ) (w : ℕ) → h.pc == INITRET ≡ false → may_access h.pc 4 ≡ true → number_at memory h.pc 4 ≡ w
    → exec h memory ≡ perform w h memory
unfolding exec
at_word h memory w inner may is =
    ap (λ b. cond b (stops h memory Exit) (cond (may_access h.pc 4) (perform (number_at memory h.pc 4) h memory) (stops h memory (Trap Fetch)))) inner
    ∙ ap (λ b. cond b (perform (number_at memory h.pc 4) h memory) (stops h memory (Trap Fetch))) may
    ∙ ap (λ x. perform x h memory) is

-- a word of RAM may be fetched from a multiple of 4
fetched : (pc : ℕ) → pc % 4 ≡ 0 → pc + 4 ≤ ram_size → may_access pc 4 ≡ true
fetched pc whole inside =
    ap (λ b. b && in_ram pc 4) (eq-eqb (pc % 4) 0 whole) ∙ le-leb (pc + 4) ram_size inside

-- One step of a program that is loaded.
pub steps_within : (first : ℕ) (words : List ℕ) (low : ℕ) (memory : List ℕ) (h : Hart) → IsLoaded first words low memory → IsWithin first words h
    → StepsWithin first words memory (exec h memory)
steps_within first words low memory h loaded k = by_word k.ready (drop k.place words) refl k.code k.number
  where
    -- a plain instruction at a word
    plain : (ready : Bool) (w : ℕ) (more : List ℕ) (did : Executed) → IsFound memory h.pc k.place words w more → h.pc + 4 ≤ ram_size → IsPlain h memory did
        → IsCode ready (suc k.place) more → HoldsNumber ready did.hart.regs → StepsWithin first words memory did
    plain ready w more did is inside p code number =
        let next : did.hart.pc ≡ first + 4 * suc k.place = omega (arith, p.pc, k.pc) in
        record {
          ram = p.ram;
          within = record { place = suc k.place; ready = ready; pc = next; regs = p.regs; code = subst (IsCode ready (suc k.place)) is.rest code; number = number };
          outcome = subst (λ o. WentOrCalled o did.hart) (sym p.outcome) tt;
        }

    by_kind : (w : ℕ) (more : List ℕ) → IsFound memory h.pc k.place words w more → h.pc + 4 ≤ ram_size → exec h memory ≡ perform w h memory
        → IsCode false k.place (w ∷ more) → StepsWithin first words memory (exec h memory)
    by_kind w more is inside runs (inl (loads, code)) =
        subst (StepsWithin first words memory) (sym runs) (plain false w more (perform w h memory) is inside (loads h memory k.regs) code tt)
    by_kind w more is inside runs (inr (inl (puts, code))) =
        subst (StepsWithin first words memory) (sym runs)
        (plain true w more (perform w h memory) is inside (puts.plain h memory k.regs) code (puts.number h memory k.regs))
    by_kind w more is inside runs (inr (inr (jumps, last))) =
        subst (StepsWithin first words memory) (sym (runs ∙ jumps h memory first k.pc loaded.whole (omega arith))) (record {
          ram = refl;
          within = record { place = 0; ready = false; pc = omega arith; regs = k.regs; code = loaded.code; number = tt };
          outcome = tt;
        })

    by_word : (ready : Bool) (tail : List ℕ) → tail ≡ drop k.place words → IsCode ready k.place tail → HoldsNumber ready h.regs
        → StepsWithin first words memory (exec h memory)
    by_word true [] e code number = absurd code
    by_word false [] e code number = absurd code
    by_word true (w ∷ more) e code number =
        let is = found memory first h.pc k.place words w more k.pc e loaded.lie in
        let inside : h.pc + 4 ≤ ram_size = omega (arith, k.pc, is.inside, loaded.ram) in
        let runs = at_word h memory w (ne_eqb h.pc INITRET (omega arith)) (fetched h.pc (omega (arith, k.pc, loaded.whole)) inside) is.word in
        let next : following h ≡ first + 4 * suc k.place = omega (arith, k.pc) in
        subst (StepsWithin first words memory) (sym (runs ∙ code.0 h memory)) (record {
          ram = refl;
          within = record { place = suc k.place; ready = false; pc = next; regs = k.regs; code = subst (IsCode false (suc k.place)) is.rest code.1; number = tt };
          outcome = number;
        })
    by_word false (w ∷ more) e code number =
        let is = found memory first h.pc k.place words w more k.pc e loaded.lie in
        let inside : h.pc + 4 ≤ ram_size = omega (arith, k.pc, is.inside, loaded.ram) in
        let runs = at_word h memory w (ne_eqb h.pc INITRET (omega arith)) (fetched h.pc (omega (arith, k.pc, loaded.whole)) inside) is.word in
        by_kind w more is inside runs code
