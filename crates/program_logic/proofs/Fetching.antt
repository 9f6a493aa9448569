-- The word that the current process carries out is that of its place.
use Rattle.std.proofs.Common.{Bool, List, [], ap, arith, cond, false, get_or, length, subst, suc, true, zero, ℕ, ◌%◌, ◌&&◌, ◌*◌, ◌+◌, ◌<◌, ◌==◌, ◌∙◌, ◌∷◌, ◌≡◌, ◌≤◌}
use Rattle.std.proofs.lemmas.Bool.{eq-eqb, le-leb, ne_eqb}
use Rattle.xinu_base.specs.Constants.{INITRET}
use Rattle.xinu_base.specs.declared.registers.Cause.TheVariants.{Fetch}
use Rattle.xinu_base.specs.declared.registers.Hart.{Hart}
use Rattle.xinu_base.specs.declared.registers.Outcome.TheVariants.{Exit, Trap}
use Rattle.xinu_model.specs.Isa.Effects.{stops}
use Rattle.xinu_model.specs.Isa.Exec.{exec, perform}
use Rattle.xinu_model.specs.Memory.{in_ram, may_access, number_at, ram_size}
use Rattle.program_logic.specs.Images.{Lie}
use Rattle.program_logic.specs.Obeying.{AreObeyed, IsObeyed}
use Rattle.program_logic.specs.Outlines.{Row, System, no_row, says, words_of}

-- the row of a place
pub record IsRow (y : System) (p j : ℕ) (memory : List ℕ) (a k : ℕ) (rows : List Row) : Type 0 where
  pub word : number_at memory a 4 ≡ (get_or rows k no_row).word
  pub inside : k < length (words_of rows)
  pub obeys : IsObeyed y p j (get_or rows k no_row)

nothing_said : (b : Bool) (n v : ℕ) (regs : List ℕ) → says b no_row n v regs → ⊥
nothing_said false n v regs h = h
nothing_said true n v regs h = h

pub row_there : (y : System) (p i j : ℕ) (memory : List ℕ) (first a k : ℕ) (rows : List Row) (b : Bool) (n v : ℕ) (regs : List ℕ) → a ≡ first + 4 * k → j ≡ i + k
    → Lie memory first (words_of rows) → AreObeyed y p i rows → says b (get_or rows k no_row) n v regs → IsRow y p j memory a k rows
row_there y p i j memory first a zero [] b n v regs is place lie all may = absurd (nothing_said b n v regs may)
row_there y p i j memory first a (suc k) [] b n v regs is place lie all may = absurd (nothing_said b n v regs may)
row_there y p i j memory first a zero (r ∷ rows) b n v regs is place lie all may =
    let here : a ≡ first = omega arith in
    let same : i ≡ j = omega arith in
    record { word = ap (λ x. number_at memory x 4) here ∙ lie.1.0; inside = omega arith; obeys = subst (λ x. IsObeyed y p x r) same all.0 }
row_there y p i j memory first a (suc k) (r ∷ rows) b n v regs is place lie all may =
    let next = row_there y p (suc i) j memory (first + 4) a k rows b n v regs (omega arith) (omega arith) lie.1.1 all.1 may in
    record { word = next.word; inside = omega (arith, next.inside); obeys = next.obeys }

-- a step at a word
at_word : (h : Hart) (memory : List ℕ) (w : ℕ) → h.pc == INITRET ≡ false → may_access h.pc 4 ≡ true → number_at memory h.pc 4 ≡ w
    → exec h memory ≡ perform w h memory
unfolding exec
at_word h memory w inner may is =
    ap (λ b. cond b (stops h memory Exit) (cond (may_access h.pc 4) (perform (number_at memory h.pc 4) h memory) (stops h memory (Trap Fetch)))) inner
    ∙ ap (λ b. cond b (perform (number_at memory h.pc 4) h memory) (stops h memory (Trap Fetch))) may
    ∙ ap (λ x. perform x h memory) is

-- a word of RAM may be fetched from a multiple of 4
fetched : (pc : ℕ) → pc % 4 ≡ 0 → pc + 4 ≤ ram_size → may_access pc 4 ≡ true
fetched pc whole inside = ap (λ b. b && in_ram pc 4) (eq-eqb (pc % 4) 0 whole) ∙ le-leb (pc + 4) ram_size inside

pub performed : (h : Hart) (memory : List ℕ) (w : ℕ) → h.pc % 4 ≡ 0 → h.pc + 4 ≤ ram_size → number_at memory h.pc 4 ≡ w → exec h memory ≡ perform w h memory
performed h memory w whole inside is = at_word h memory w (ne_eqb h.pc INITRET (omega arith)) (fetched h.pc whole inside) is
