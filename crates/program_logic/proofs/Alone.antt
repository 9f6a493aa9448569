-- Two processes are never at places to which a process comes with the token only.
use Rattle.std.proofs.Common.{List, None, Option, Some, ap, arith, false, inl, inr, length, set, subst, sym, true, ℕ, ◌∙◌, ◌≡◌, ◌≤◌, ◌⊎◌}
use Rattle.std.proofs.lemmas.Bool.{cases_Bool, eqb-true, true≢false}
use Rattle.std.specs.Prelude.{get_or, slice_index_or}
use Rattle.scheduling_laws.specs.Moments.{LeadTo, Moment}
use Rattle.xinu_base.specs.declared.processes.State.{State}
use Rattle.xinu_model.specs.Boot.{Disks, Loaded}
use Rattle.xinu_model.specs.Machine.{Xinu, no_hart}
use Rattle.xinu_model.specs.Memory.{number_at}
use Rattle.xinu_model.specs.Tables.{state_at}
use Rattle.program_logic.proofs.CheckedRows.{row_get}
use Rattle.program_logic.proofs.Kept.{ran}
use Rattle.program_logic.specs.Claims.{Program, no_place, outlines_of, program_in, rows_at, side_claim}
use Rattle.program_logic.specs.Kept.{HasStarted, IsInside}
use Rattle.program_logic.specs.Outlines.{Says, has, no_row, says}
use Rattle.program_logic.specs.Running.{Runs, Stands}
use Rattle.program_logic.specs.SystemCheck.{system_checks}
use Rattle.program_logic.specs.declared.knowledge.Facts.{Facts}
use Rattle.program_logic.specs.declared.outline.Lock.{Lock}
use Rattle.program_logic.specs.declared.outline.Place.{Place}

-- nobody comes to such a place without the token
never : (places : List Place) (k n v : ℕ) (regs : List ℕ) → (get_or places k no_place).free ≡ None → says false (get_or (rows_at places) k no_row) n v regs → ⊥
never places k n v regs none at =
    subst (λ (o : Option Facts). Says (side_claim o) 0 0 regs) none (subst (λ r. says false r n v regs) (row_get places k) at)

stands_not : (l : Lock) (programs : List Program) (p k n v : ℕ) (regs : List ℕ) (state : State) → (get_or ((program_in programs p).places) k no_place).free ≡ None
    → Stands (outlines_of l programs) p false k n v regs state → ⊥
stands_not l programs p k n v regs state none (inl z) = never ((program_in programs p).places) k n v regs none z.1
stands_not l programs p k n v regs state none (inr (inl z)) = never ((program_in programs p).places) k 0 0 (set regs 10 4294967295) none z.1.1.1
stands_not l programs p k n v regs state none (inr (inr z)) = never ((program_in programs p).places) k n v (set regs 10 0) none z.1

-- who is at such a place has the token
pub holds_it : (l : Lock) (programs : List Program) (holder : Option ℕ) (n : ℕ) (s : Xinu) (p : ℕ) → Runs (outlines_of l programs) holder n s → 1 ≤ p
    → p ≤ (outlines_of l programs).many → IsInside programs p s → has holder p ≡ true
holds_it l programs holder n s p runs some few is = by (cases_Bool (has holder p))
  where
    by : (has holder p ≡ true) ⊎ (has holder p ≡ false) → has holder p ≡ true
    by (inl e) = e
    by (inr e) =
        let t = runs.running.threads p some few in
        let same : t.place ≡ is.place = omega (arith, t.pc, is.pc) in
        absurd (stands_not l programs p t.place n (number_at s.memory l.word 4) ((slice_index_or s.harts p no_hart).regs) (state_at s.tables p)
        (ap (λ k. (get_or ((program_in programs p).places) k no_place).free) same ∙ is.inside)
        (subst (λ b. Stands (outlines_of l programs) p b t.place n (number_at s.memory l.word 4) ((slice_index_or s.harts p no_hart).regs) (state_at s.tables p)) e t.stands))

one_holder : (holder : Option ℕ) (p q : ℕ) → has holder p ≡ true → has holder q ≡ true → p ≡ q
one_holder None p q a b = absurd (true≢false (sym a))
one_holder (Some z) p q a b = sym (eqb-true z p a) ∙ eqb-true z q b

pub one_inside : (l : Lock) (programs : List Program) (holder : Option ℕ) (n : ℕ) (s : Xinu) (p q : ℕ) → Runs (outlines_of l programs) holder n s → 1 ≤ p
    → p ≤ (outlines_of l programs).many → 1 ≤ q → q ≤ (outlines_of l programs).many → IsInside programs p s → IsInside programs q s → p ≡ q
one_inside l programs holder n s p q runs a b c d one two =
    one_holder holder p q (holds_it l programs holder n s p runs a b one) (holds_it l programs holder n s q runs c d two)

pub alone : (l : Lock) (programs : List Program) (disks : Disks) (images : List Loaded) (start now : Xinu) (ms : List Moment) (p q : ℕ) → system_checks l programs ≡ true
    → HasStarted l programs disks images start → LeadTo start ms now → 1 ≤ p → p ≤ length programs → 1 ≤ q → q ≤ length programs → IsInside programs p now
    → IsInside programs q now → p ≡ q
alone l programs disks images start now ms p q is has_started lead a b c d one two =
    let r = ran l programs disks images start now ms is has_started lead in
    one_inside l programs r.holder r.count now p q r.runs a b c d one two
