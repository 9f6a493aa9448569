-- The blocks of a disk of zero bytes.
use Rattle.std.proofs.Common.{◌≡◌, ◌∙◌, ℕ, zero, suc, ◌-◌, ◌*◌, ◌/◌, ◌∷◌, List, length, replicate, drop, refl, ap, arith}
use Rattle.std.proofs.lemmas.List.{length-replicate}
use Rattle.std.proofs.Math.Nat.{mul-suc}
use Rattle.std.proofs.lemmas.List.{drop-replicate, take-replicate}
use Rattle.std.specs.Simd.{first_chunks}
use Rattle.lfs_layout.specs.Images.{blocks_of}
use Rattle.xinu_model.specs.Devices.State.{empty_blocks}

-- the chunks of equal elements have equal elements
chunks_equal : {A : Type 0} (w n m : ℕ) (x : A) → m ≡ w * n → first_chunks w n (replicate m x) ≡ replicate n (replicate w x)
chunks_equal w zero m x e = refl
chunks_equal w (suc n) m x e =
    let s = mul-suc w n in
    ap (λ l. l ∷ first_chunks w n (drop w (replicate m x))) (take-replicate w m x (omega (arith, e, s)))
    ∙ ap (λ l. replicate w x ∷ first_chunks w n l) (drop-replicate w m x)
    ∙ ap (λ l. replicate w x ∷ l) (chunks_equal w n (m - w) x (omega (arith, e, s)))

-- So n blocks of zero bytes are n empty blocks.
pub zero_blocks : (n : ℕ) → blocks_of (replicate (512 * n) 0) ≡ replicate n (replicate 512 0)
zero_blocks n =
    let bytes : List ℕ = replicate (512 * n) 0 in
    let count : length bytes / 512 ≡ n = (let e = length-replicate {A = ℕ} (512 * n) 0 in omega (arith, e)) in
    ap (λ k. first_chunks 512 k bytes) count ∙ chunks_equal 512 n (512 * n) 0 refl

pub first_blocks : blocks_of (replicate 32768 0) ≡ empty_blocks
unfolding empty_blocks
first_blocks = zero_blocks 64
