-- One step, by whether RAM has a word at the pc.
use Rattle.std.proofs.Common.{◌≡◌, ◌==◌, ℕ, Bool, true, false, if◌then◌else◌, List, Option, None, Some, refl, sym, ap, ◌∙◌, unwrap_or}
use Rattle.std.proofs.lemmas.Bool.{ne_eqb, true≢false}
use Rattle.xinu_base.specs.Constants.{INITRET}
use Rattle.xinu_base.specs.declared.Hart.{Hart}
use Rattle.xinu_base.specs.declared.Outcome.TheVariants.{Exit, Trap}
use Rattle.xinu_base.specs.declared.Cause.TheVariants.{Fetch}
use Rattle.xinu_model.specs.Isa.Effects.{stops}
use Rattle.xinu_model.specs.Isa.Exec.{exec, perform}
use Rattle.xinu_model.specs.Memory.{may_access, number_at}

-- the word at the pc, if it may be fetched
abbrev pub fetched : Hart → List ℕ → Option ℕ
fetched h memory = if may_access h.pc 4 then Some (number_at memory h.pc 4) else None

-- RAM has no word at the address that ends a process
apart : (pc : ℕ) → may_access pc 4 ≡ true → pc == INITRET ≡ false
apart pc fits = ne_eqb pc INITRET (λ is. let at_end : false ≡ may_access INITRET 4 = refl in true≢false (sym fits ∙ ap (λ a. may_access a 4) is ∙ sym at_end))

chosen : (exits fits : Bool) (w word : ℕ) (h : Hart) (memory : List ℕ) → (fits ≡ true → exits ≡ false) → (if fits then Some w else None) ≡ Some word
    → (if exits then stops h memory Exit else (if fits then perform w h memory else stops h memory (Trap Fetch))) ≡ perform word h memory
chosen true true w word h memory apart is = absurd (true≢false (apart refl))
chosen false true w word h memory apart is = ap (λ o. perform (unwrap_or o 0) h memory) is
chosen exits false w word h memory apart is = absurd (cc)

stopped : (exits fits : Bool) (w : ℕ) (h : Hart) (memory : List ℕ) → (if fits then Some w else None) ≡ None
    → (if exits then stops h memory Exit else (if fits then perform w h memory else stops h memory (Trap Fetch))) ≡ stops h memory (if exits then Exit else Trap Fetch)
stopped true fits w h memory is = refl
stopped false true w h memory is = absurd (cc)
stopped false false w h memory is = refl

-- A word is carried out.
pub performs : (h : Hart) (memory : List ℕ) (word : ℕ) → fetched h memory ≡ Some word → exec h memory ≡ perform word h memory
unfolding exec
performs h memory word is = chosen (h.pc == INITRET) (may_access h.pc 4) (number_at memory h.pc 4) word h memory (apart h.pc) is

-- No word is there.
pub ended : (h : Hart) (memory : List ℕ) → fetched h memory ≡ None → (exits : Bool) → h.pc == INITRET ≡ exits
    → exec h memory ≡ stops h memory (if exits then Exit else Trap Fetch)
unfolding exec
ended h memory is exits e =
    stopped (h.pc == INITRET) (may_access h.pc 4) (number_at memory h.pc 4) h memory is ∙ ap (λ b. stops h memory (if b then Exit else Trap Fetch)) e
