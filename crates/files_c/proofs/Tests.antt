-- Two tests, one after another.
use Rattle.std.proofs.Common.{arith, ◌≡◌, ◌≢◌, ◌==◌, ℕ, Bool, true, false, if◌then◌else◌}
use Rattle.std.proofs.lemmas.Bool.Decides.{nat_tests}

-- if both tests hold, the rest decides
pub both_hold : (a b c r : Bool) → a ≡ true → b ≡ true → r ≡ c → r ≡ (if a then (if b then c else false) else false)
both_hold true true c r ea eb e = e
both_hold true false c r ea eb e = absurd (cc)
both_hold false b c r ea eb e = absurd (cc)

-- if two tests hold and a third doesn't, the rest decides
pub two_hold : (a b e n c r : Bool) → a ≡ true → b ≡ true → e ≡ false → r ≡ c → r ≡ (if a then (if b then (if e then n else c) else false) else false)
two_hold true true false n c r ea eb ee is = is
two_hold true true true n c r ea eb ee is = absurd (cc)
two_hold true false e n c r ea eb ee is = absurd (cc)
two_hold false b e n c r ea eb ee is = absurd (cc)

-- equal numbers pass the test, and others don't
pub test_holds : (a b : ℕ) → a ≡ b → (a == b) ≡ true
test_holds a b e = grind (arith, nat_tests)

pub test_fails : (a b : ℕ) → a ≢ b → (a == b) ≡ false
test_fails a b n = grind (arith, nat_tests)
