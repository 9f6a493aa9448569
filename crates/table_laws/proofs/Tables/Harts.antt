-- There are registers for each process number, and x0 is 0 in each, whatever is written into the others.
use Rattle.std.proofs.Common.{◌≡◌, ℕ, zero, suc, List, [], ◌∷◌, slice_index, slice_index_or, slice_set, replicate, refl, sym, subst, ◌∙◌, ℤ}
use Rattle.std.proofs.Math.ListN.{length-set}
use Rattle.std.proofs.lemmas.List.{get_or-set_other}
use Rattle.xinu_base.specs.declared.registers.Hart.{Hart}
use Rattle.xinu_model.specs.Machine.{no_hart, with_reply, with_replies}
use Rattle.xinu_model.specs.Sound.State.{AreHarts}

-- the registers of a number after a write to those of number p: the new ones, or what they were
written : (harts : List Hart) (p q : ℕ) (h : Hart) → slice_index h.regs 0 ≡ 0
    → ((r : ℕ) → slice_index (slice_index_or harts r no_hart).regs 0 ≡ 0)
    → slice_index (slice_index_or (slice_set harts p h) q no_hart).regs 0 ≡ 0
written [] p q h first all = refl
written (x ∷ harts) zero zero h first all = first
written (x ∷ harts) zero (suc q) h first all = all (suc q)
written (x ∷ harts) (suc p) zero h first all = all 0
written (x ∷ harts) (suc p) (suc q) h first all = written harts p q h first (λ r. all (suc r))

-- a number gets registers in which x0 is 0
pub harts_set : (harts : List Hart) (p : ℕ) (h : Hart) → slice_index h.regs 0 ≡ 0 → AreHarts harts → AreHarts (slice_set harts p h)
harts_set harts p h first a = record { many = length-set harts p h ∙ a.many; zero = λ q. written harts p q h first a.zero }

-- nothing is written
pub harts_same : (harts others : List Hart) → others ≡ harts → AreHarts harts → AreHarts others
harts_same harts others same a = subst AreHarts (sym same) a

-- replies go into a0
pub harts_with_replies : (replies : List (ℕ × ℤ)) (harts : List Hart) → AreHarts harts → AreHarts (with_replies replies harts)
harts_with_replies [] harts a = a
harts_with_replies (reply ∷ replies) harts a =
    let hart = slice_index_or harts reply.0 no_hart in
    harts_with_replies replies (with_reply harts reply)
    (harts_set harts reply.0 _ (get_or-set_other hart.regs 10 0 _ 0 (λ e. cc) ∙ a.zero reply.0) a)

-- the registers of free numbers
pub harts_of_none : (p n : ℕ) → slice_index (slice_index_or (replicate n no_hart) p no_hart).regs 0 ≡ 0
harts_of_none p zero = refl
harts_of_none zero (suc n) = refl
harts_of_none (suc p) (suc n) = harts_of_none p n
