-- Bytes in RAM.
use Rattle.std.proofs.Common.{◌≡◌, ◌∙◌, ◌+◌, ◌≤◌, ◌<◌, ℕ, zero, suc, List, [], ◌∷◌, ◌++◌, append-nil, drop, drop-cons, length, take, refl, sym, ap, arith}
use Rattle.std.proofs.lemmas.List.{length-drop, length-take}
use Rattle.std.specs.Prelude.{slice_index}
use Rattle.part_laws.proofs.FileWork.Sizes.{effect_brings}
use Rattle.xinu_model.specs.Files.Calls.{FileCall, Open, Delete, Close, Read, Write, Getc, Putc, Seek, Truncate, Size, file_effect}
use Rattle.xinu_model.specs.Files.Sound.{InRam}
use Rattle.xinu_model.specs.Files.Systems.{FileSystem}
use Rattle.xinu_model.specs.Memory.{bytes_from, ram_size, with_bytes}
use Rattle.reference_files.specs.Steps.{IsPut}

-- the bytes from an address on are a part of RAM
pub range_is : (memory : List ℕ) (at n : ℕ) → at + n ≤ length memory → bytes_from memory at n ≡ take n (drop at memory)
unfolding bytes_from
range_is memory at zero h = refl
range_is memory at (suc n) h =
    let next : suc at ≡ at + 1 = omega arith in
    let inside : at < length memory = omega (arith, h) in
    let others : (at + 1) + n ≤ length memory = omega (arith, h) in
    ap (λ l. slice_index memory at ∷ l) (range_is memory (at + 1) n others ∙ ap (λ k. take n (drop k memory)) (sym next))
    ∙ ap (λ l. take (suc n) l) (sym (drop-cons memory at 0 inside))

-- what a call brings has room in RAM
few_put : (at n : ℕ) (l : List ℕ) → length l ≤ n → at + n ≤ ram_size → IsPut at l
few_put at n [] few h = tt
few_put at n (b ∷ l) few h = omega (arith, few, h)

none_put : (at : ℕ) (l : List ℕ) → length l ≤ 0 → IsPut at l
none_put at [] few = tt
none_put at (b ∷ l) few = absurd (omega (arith, few))

pub effect_put : (call : FileCall) (at : ℕ) (bytes : List ℕ) (s : FileSystem) → InRam call at → IsPut at (file_effect call bytes s).bytes
effect_put (Read d n) at bytes s range = few_put at n (file_effect (Read d n) bytes s).bytes (effect_brings (Read d n) bytes s) range
effect_put (Open name mode) at bytes s range = none_put at (file_effect (Open name mode) bytes s).bytes (effect_brings (Open name mode) bytes s)
effect_put (Delete name) at bytes s range = none_put at (file_effect (Delete name) bytes s).bytes (effect_brings (Delete name) bytes s)
effect_put (Close d) at bytes s range = none_put at (file_effect (Close d) bytes s).bytes (effect_brings (Close d) bytes s)
effect_put (Write d n) at bytes s range = none_put at (file_effect (Write d n) bytes s).bytes (effect_brings (Write d n) bytes s)
effect_put (Getc d) at bytes s range = none_put at (file_effect (Getc d) bytes s).bytes (effect_brings (Getc d) bytes s)
effect_put (Putc d b) at bytes s range = none_put at (file_effect (Putc d b) bytes s).bytes (effect_brings (Putc d b) bytes s)
effect_put (Seek d n) at bytes s range = none_put at (file_effect (Seek d n) bytes s).bytes (effect_brings (Seek d n) bytes s)
effect_put (Truncate d) at bytes s range = none_put at (file_effect (Truncate d) bytes s).bytes (effect_brings (Truncate d) bytes s)
effect_put (Size d) at bytes s range = none_put at (file_effect (Size d) bytes s).bytes (effect_brings (Size d) bytes s)

-- so they are if as many were read as were asked for
pub range_read : (memory : List ℕ) (at n : ℕ) → length (take n (drop at memory)) ≡ n → bytes_from memory at n ≡ take n (drop at memory)
unfolding bytes_from
range_read memory at zero e = refl
range_read memory at (suc n) e =
    let a = length-take (suc n) (drop at memory) in
    let b = length-drop at memory in
    range_is memory at (suc n) (omega (arith, a, b, e))

-- no bytes change nothing
put_none : (memory : List ℕ) (at : ℕ) → take at memory ++ drop at memory ≡ memory
put_none [] zero = refl
put_none [] (suc at) = refl
put_none (b ∷ memory) zero = refl
put_none (b ∷ memory) (suc at) = ap (λ l. b ∷ l) (put_none memory at)

pub nothing_put : (memory : List ℕ) (at : ℕ) → with_bytes memory at 0 [] ≡ memory
nothing_put memory at =
    let same : at + 0 ≡ at = omega arith in
    ap (λ l. l ++ drop (at + 0) memory) (append-nil (take at memory)) ∙ ap (λ n. take at memory ++ drop n memory) same ∙ put_none memory at
