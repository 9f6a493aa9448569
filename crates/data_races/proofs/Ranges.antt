-- The bytes of a range are touched.
use Rattle.std.proofs.Common.{◌≡◌, ℕ, zero, suc, ◌+◌, ◌≤◌, ◌<◌, Bool, inl, inr, ap, arith}
use Rattle.std.specs.List.{Contains}
use Rattle.std.proofs.lemmas.Bool.{cases_lt}
use Rattle.happens_before.specs.Histories.{Accessed}
use Rattle.data_races.specs.Instructions.{touches}

pub touched_in : (stores : Bool) (p place at n b : ℕ) → at ≤ b → b < at + n →
    Contains (touches stores p place at n) (Accessed (record { process = p; byte = b; stores = stores; place = place }))
touched_in stores p place at zero b from within = absurd (omega arith)
touched_in stores p place at (suc n) b from within =
    elim (cases_lt at b) [
      | inl later ↦ let rest = touched_in stores p place (at + 1) n b (omega arith) (omega arith) in (suc rest.0, omega (arith, rest.1), rest.2)
      | inr here ↦
          let same : at ≡ b = omega arith in
          (0, omega arith, ap (λ k. Accessed (record { process = p; byte = k; stores = stores; place = place })) same)
    ]
