-- The count of completions that are left falls.
use Rattle.std.proofs.Common.{◌≡◌, ℕ, suc, ◌+◌, ◌*◌, ◌-◌, ◌<◌, ◌≤◌, true, sym, subst, arith}
use Rattle.std.proofs.Math.Nat.{mul-le-mul_left, mul-suc}
use Rattle.xinu_model.specs.Files.Work.{FileWork}
use Rattle.bounded_waits.specs.Places.{waits_for_files, calls_before, most_completions, completions_left}

-- no more calls are before it
no_more : (m a b t : ℕ) → b ≤ a → m * suc b - t + 0 ≤ m * suc a - t
no_more m a b t h = let f : m * suc b ≤ m * suc a = mul-le-mul_left m (let g : suc b ≤ suc a = omega arith in g) in omega (arith, f)

-- the first call has a turn
one_turn : (m a t : ℕ) → t < m → m * suc a - (t + 1) + 1 ≤ m * suc a - t
one_turn m a t h = let f = mul-suc m a in omega (arith, f, h)

-- calls take effect
some_effects : (m a b t k : ℕ) → t < m → b + suc k ≡ a → m * suc b - 0 + 1 ≤ m * suc a - t
some_effects m a b t k h e =
    let f : m * suc (suc b) ≤ m * suc a = mul-le-mul_left m (let g : suc (suc b) ≤ suc a = omega arith in g) in
    let g = mul-suc m (suc b) in
    omega (arith, f, g, h)

-- there is at least one left
some_left : (m a t : ℕ) → t < m → 0 < m * suc a - t
some_left m a t h = let f = mul-suc m a in omega (arith, f, h)

-- From calls under way to others p still waits, and this many completions fewer are left.
abbrev pub Nearer : ℕ → ℕ → FileWork → FileWork → Type 0
Nearer p n w v = (waits_for_files p v ≡ true) × (completions_left p v + n ≤ completions_left p w)

-- so far no call took effect
pub nearer_kept : (p : ℕ) (w v : FileWork) → waits_for_files p v ≡ true → calls_before p v ≤ calls_before p w → v.turns ≡ w.turns
    → v.system.blocks ≡ w.system.blocks → Nearer p 0 w v
nearer_kept p w v h less turns blocks = (
  h,
  subst (λ k. most_completions k * suc (calls_before p v) - v.turns + 0 ≤ completions_left p w) (sym blocks)
      (subst (λ t. most_completions w.system.blocks * suc (calls_before p v) - t + 0 ≤ completions_left p w) (sym turns)
      (no_more (most_completions w.system.blocks) (calls_before p w) (calls_before p v) w.turns less)),
)

pub nearer_turned : (p : ℕ) (w v : FileWork) → waits_for_files p v ≡ true → calls_before p v ≡ calls_before p w → v.turns ≡ w.turns + 1
    → v.system.blocks ≡ w.system.blocks → w.turns < most_completions w.system.blocks → Nearer p 1 w v
nearer_turned p w v h same turns blocks few = (
  h,
  subst (λ k. most_completions k * suc (calls_before p v) - v.turns + 1 ≤ completions_left p w) (sym blocks)
      (subst (λ t. most_completions w.system.blocks * suc (calls_before p v) - t + 1 ≤ completions_left p w) (sym turns)
      (subst (λ b. most_completions w.system.blocks * suc b - (w.turns + 1) + 1 ≤ completions_left p w) (sym same)
      (one_turn (most_completions w.system.blocks) (calls_before p w) w.turns few))),
)

pub nearer_served : (p k : ℕ) (w v : FileWork) → waits_for_files p v ≡ true → calls_before p v + suc k ≡ calls_before p w → v.turns ≡ 0
    → v.system.blocks ≡ w.system.blocks → w.turns < most_completions w.system.blocks → Nearer p 1 w v
nearer_served p k w v h less turns blocks few = (
  h,
  subst (λ j. most_completions j * suc (calls_before p v) - v.turns + 1 ≤ completions_left p w) (sym blocks)
      (subst (λ t. most_completions w.system.blocks * suc (calls_before p v) - t + 1 ≤ completions_left p w) (sym turns)
      (some_effects (most_completions w.system.blocks) (calls_before p w) (calls_before p v) w.turns k few less)),
)

pub left_over : (p : ℕ) (w : FileWork) → w.turns < most_completions w.system.blocks → 0 < completions_left p w
left_over p w few = some_left (most_completions w.system.blocks) (calls_before p w) w.turns few
