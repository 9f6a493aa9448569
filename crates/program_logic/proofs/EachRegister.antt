-- What is known, register by register.
use Rattle.std.proofs.Common.{List, [], ap, arith, drop, false, length, refl, set, subst, suc, sym, take, true, zero, ℕ, ◌&&◌, ◌++◌, ◌+◌, ◌<◌, ◌∙◌, ◌∷◌, ◌≡◌, ◌≤◌}
use Rattle.std.specs.Prelude.{get_or}
use Rattle.program_logic.specs.Terms.{all_fixed, fixed, slot_entails, slots_entail}
use Rattle.program_logic.specs.declared.values.Slot.{Slot}
use Rattle.program_logic.specs.declared.values.Slot.TheVariants.{Unknown}

entail_suc : (hs ws : List Slot) (i : ℕ) → i < length hs → i < length ws
    → slots_entail (drop i hs) (drop i ws) ≡ (slot_entails (get_or hs i Unknown) (get_or ws i Unknown) && slots_entail (drop (suc i) hs) (drop (suc i) ws))
entail_suc [] ws i a b = absurd (omega arith)
entail_suc (h ∷ hs) [] i a b = absurd (omega arith)
entail_suc (h ∷ hs) (w ∷ ws) zero a b = refl
entail_suc (h ∷ hs) (w ∷ ws) (suc i) a b = entail_suc hs ws i (omega arith) (omega arith)

entail_step : (hs ws : List Slot) (i : ℕ) → i < length hs → i < length ws
    → slots_entail (drop i hs) (drop i ws) ≡ (slot_entails (get_or hs i Unknown) (get_or ws i Unknown) && slots_entail (drop (i + 1) hs) (drop (i + 1) ws))
entail_step hs ws i a b =
    let e : suc i ≡ i + 1 = omega arith in
    subst (λ j. slots_entail (drop i hs) (drop i ws) ≡ (slot_entails (get_or hs i Unknown) (get_or ws i Unknown) && slots_entail (drop j hs) (drop j ws))) e (entail_suc hs ws i a b)

-- a pair that isn't entailed, and one that is
pub entail_stops : (hs ws : List Slot) (i : ℕ) → i < length hs → i < length ws → slots_entail hs ws ≡ slots_entail (drop i hs) (drop i ws)
    → slot_entails (get_or hs i Unknown) (get_or ws i Unknown) ≡ false → false ≡ slots_entail hs ws
entail_stops hs ws i a b so stops =
    sym (so ∙ entail_step hs ws i a b ∙ ap (λ t. t && slots_entail (drop (i + 1) hs) (drop (i + 1) ws)) stops)

pub entail_goes : (hs ws : List Slot) (i : ℕ) → i < length hs → i < length ws → slots_entail hs ws ≡ slots_entail (drop i hs) (drop i ws)
    → slot_entails (get_or hs i Unknown) (get_or ws i Unknown) ≡ true → slots_entail hs ws ≡ slots_entail (drop (i + 1) hs) (drop (i + 1) ws)
entail_goes hs ws i a b so goes = so ∙ entail_step hs ws i a b ∙ ap (λ t. t && slots_entail (drop (i + 1) hs) (drop (i + 1) ws)) goes

pub entail_done : (hs ws : List Slot) → length ws ≡ 32 → slots_entail (drop 32 hs) (drop 32 ws) ≡ true
entail_done hs ws n = ap (λ z. slots_entail (drop 32 hs) z) (drop_all ws 32 (omega (arith, n)))
  where
    drop_all : (xs : List Slot) (i : ℕ) → length xs ≤ i → drop i xs ≡ []
    drop_all [] zero a = refl
    drop_all [] (suc i) a = refl
    drop_all (x ∷ xs) zero a = absurd (omega arith)
    drop_all (x ∷ xs) (suc i) a = drop_all xs i (omega arith)

fixed_suc : (xs : List Slot) (i : ℕ) → i < length xs
    → set (all_fixed (take i xs) ++ drop i xs) i (fixed (get_or xs i Unknown)) ≡ all_fixed (take (suc i) xs) ++ drop (suc i) xs
fixed_suc [] i a = absurd (omega arith)
fixed_suc (x ∷ xs) zero a = refl
fixed_suc (x ∷ xs) (suc i) a = ap (λ z. fixed x ∷ z) (fixed_suc xs i (omega arith))

pub fixed_step : (xs : List Slot) (i : ℕ) → i < length xs
    → set (all_fixed (take i xs) ++ drop i xs) i (fixed (get_or xs i Unknown)) ≡ all_fixed (take (i + 1) xs) ++ drop (i + 1) xs
fixed_step xs i a =
    let e : suc i ≡ i + 1 = omega arith in
    subst (λ j. set (all_fixed (take i xs) ++ drop i xs) i (fixed (get_or xs i Unknown)) ≡ all_fixed (take j xs) ++ drop j xs) e (fixed_suc xs i a)

pub fixed_all : (xs : List Slot) → all_fixed (take (length xs) xs) ++ drop (length xs) xs ≡ all_fixed xs
fixed_all [] = refl
fixed_all (x ∷ xs) = ap (λ z. fixed x ∷ z) (fixed_all xs)
