-- The registers of a process among those of all.
use Rattle.std.proofs.Common.{◌≡◌, ◌∙◌, ℕ, zero, suc, ◌<◌, List, [], ◌∷◌, length, refl, subst, sym, ap, arith}
use Rattle.std.specs.List.{slice_index_or}
use Rattle.xinu_base.specs.declared.registers.Hart.{Hart}
use Rattle.xinu_model.specs.Machine.{no_hart}

-- what a list has at one of its places doesn't depend on what stands for the others
same_place : {A : Type 0} (xs : List A) (i : ℕ) (d e : A) → i < length xs → slice_index_or xs i d ≡ slice_index_or xs i e
same_place [] i d e inside = elim inside [ ]
same_place (x ∷ xs) zero d e inside = refl
same_place (x ∷ xs) (suc i) d e inside = same_place xs i d e (omega arith)

-- the registers of a process are those at its number
pub hart_at : (hs ks : List Hart) (i p : ℕ) (d : Hart) → hs ≡ ks → i ≡ p → length ks ≡ 64 → i < 64
    → slice_index_or hs i d ≡ slice_index_or ks p no_hart
hart_at hs ks i p d same number many inside =
    let fits : i < length ks = subst (λ (n : ℕ). i < n) (sym many) inside in
    ap (λ (l : List Hart). slice_index_or l i d) same ∙ same_place ks i d no_hart fits ∙ ap (λ (n : ℕ). slice_index_or ks n no_hart) number
