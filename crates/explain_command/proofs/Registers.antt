-- Reads of the registers of a process.
use Rattle.std.proofs.Common.{arith, ◌≡◌, ℕ, zero, suc, ◌<◌, List, [], ◌∷◌, length, refl, subst, sym, ◌∙◌, ap, if◌then◌else◌, Option, Some, None}
use Rattle.std.specs.List.{slice_index_or}
use Rattle.xinu_base.specs.declared.registers.Hart.{Hart}
use Rattle.xinu_model.specs.Machine.{no_hart}
use Rattle.xinu_model.specs.Memory.{may_access, number_at}

-- what a list has at one of its places doesn't depend on what stands for the others
pub same_place : {A : Type 0} (xs : List A) (i : ℕ) (d e : A) → i < length xs → slice_index_or xs i d ≡ slice_index_or xs i e
same_place [] i d e inside = elim inside [ ]
same_place (x ∷ xs) zero d e inside = refl
same_place (x ∷ xs) (suc i) d e inside = same_place xs i d e (omega arith)

-- the registers of a process are those at its number
pub seen_hart : (hs ks : List Hart) (i p : ℕ) (d : Hart) → hs ≡ ks → i ≡ p → length ks ≡ 64 → i < 64
    → slice_index_or hs i d ≡ slice_index_or ks p no_hart
seen_hart hs ks i p d same number many inside =
    let fits : i < length ks = subst (λ (n : ℕ). i < n) (sym many) inside in
    ap (λ (l : List Hart). slice_index_or l i d) same ∙ same_place ks i d no_hart fits ∙ ap (λ (n : ℕ). slice_index_or ks n no_hart) number

-- the word at a process's pc, if RAM has one there
abbrev pub word_there : Hart → List ℕ → Option ℕ
word_there hart memory = if may_access hart.pc 4 then Some (number_at memory hart.pc 4) else None

-- it is that of equal registers and an equal memory
pub seen_word : (h k : Hart) (ram memory : List ℕ) (word : Option ℕ) → h ≡ k → ram ≡ memory → word ≡ word_there h ram → word ≡ word_there k memory
seen_word h k ram memory word hart same read =
    read ∙ ap (λ (x : Hart). word_there x ram) hart ∙ ap (λ (m : List ℕ). word_there k m) same
