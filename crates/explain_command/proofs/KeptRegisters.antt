-- Registers that are as they were, one after another.
use Rattle.std.proofs.Common.{◌≡◌, ◌∙◌, ◌+◌, ⊎_elim, ℕ, List, Bool, true, false, if◌then◌else◌, Option, None, slice_index, arith, ap, refl, subst, sym}
use Rattle.std.proofs.lemmas.Bool.{cases_eq}
use Rattle.explain_command.specs.Changes.{AreKept, IsFirstChange}
use Rattle.xinu_base.specs.declared.processes.State.{State}
use Rattle.xinu_base.specs.declared.processes.State.TheVariants.{Free, Current, Ready, Receiving, Sleeping, Suspended, Waiting, Timed}
use Rattle.xinu_model.specs.Tables.{is_free}

-- none is before the first
pub kept_none : (before after : List ℕ) → AreKept before after 1
kept_none before after k some below = absurd (omega arith)

-- one more
pub kept_more : (before after : List ℕ) (n : ℕ) → AreKept before after n → slice_index before n ≡ slice_index after n
    → AreKept before after (n + 1)
kept_more before after n kept same k some below =
    ⊎_elim (λ (at : k ≡ n). ap (slice_index after) at ∙ sym same ∙ ap (slice_index before) (sym at)) (λ other. kept k some (omega arith)) (cases_eq k n)

-- the change is that of other registers that are equal
pub change_of : (before after others : List ℕ) (ended : Bool) (found : Option (ℕ × ℕ)) → ended ≡ false → after ≡ others
    → IsFirstChange before after found → IsFirstChange before (if ended then before else others) found
change_of before after others ended found lives same first =
    let P : List ℕ → Type 0 = λ regs. IsFirstChange before regs found in
    subst P (same ∙ sym (ap (λ b. if b then before else others) lives)) first

-- an ended process has no change
pub change_none : (before others : List ℕ) (ended : Bool) → ended ≡ true → IsFirstChange before (if ended then before else others) None
change_none before others ended is k some below = ap (λ b. slice_index (if b then before else others) k) is

-- a process in another state isn't free
pub not_free : (x : State) → (x ≡ Free → ⊥) → is_free x ≡ false
not_free Free h = absurd (h refl)
not_free Current h = refl
not_free Ready h = refl
not_free Receiving h = refl
not_free Sleeping h = refl
not_free Suspended h = refl
not_free Waiting h = refl
not_free Timed h = refl
