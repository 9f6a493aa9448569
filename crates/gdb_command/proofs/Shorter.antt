-- What comes after a unit is shorter than the input, unless the unit isn't whole.
use Rattle.std.proofs.Common.{◌≡◌, ◌∙◌, ◌==◌, ◌&&◌, ◌≤◌, ◌<◌, ℕ, Bool, true, false, List, [], ◌∷◌, length, take, drop, if◌then◌else◌, refl, sym, ap, arith, length-drop}
use Rattle.std.specs.Prelude.{nat_lt}
use Rattle.std.specs.List.{position_or_len}
use Rattle.gdb_packets.specs.Digits.{is_hexadecimal}
use Rattle.gdb_packets.specs.SeenUnits.{seen}
use Rattle.gdb_packets.specs.declared.units.InputUnit.{InputUnit as Seen}
use Rattle.gdb_packets.specs.declared.units.InputUnit.TheVariants as is
use Rattle.gdb_packets.specs.Units.{InputUnit, Damaged, Accepted, Refused, Interrupt, Noise, Partial, closed, first_unit, is_mark, judged, most_bytes, packet_in, summed}

-- the unit of a pair, and what comes after it
abbrev unit-of : InputUnit × List ℕ → InputUnit
unit-of p = p.0

abbrev rest-of : InputUnit × List ℕ → List ℕ
rest-of p = p.1

-- a unit, and what comes after it
abbrev with-rest : InputUnit → List ℕ → InputUnit × List ℕ
with-rest u rest = (u, rest)

-- one of two things
either-of : {A : Type 0} (b : Bool) (x y z : A) (P : Type 0) → (if b then x else y) ≡ z → (x ≡ z → P) → (y ≡ z → P) → P
either-of true x y z P is one two = one is
either-of false x y z P is one two = two is

-- a unit that isn't whole
not-whole : (u : InputUnit) (input rest : List ℕ) (P : Type 0) → with-rest Partial input ≡ with-rest u rest → (u ≡ Partial → ⊥) → P
not-whole u input rest P is whole = absurd (whole (sym (ap (λ (p : InputUnit × List ℕ). p.0) is)))

-- what comes after a unit is this
after-is : (u v : InputUnit) (left rest : List ℕ) (n : ℕ) → with-rest v left ≡ with-rest u rest → length left ≤ n → length rest ≤ n
after-is u v left rest n is few =
    let same : left ≡ rest = ap (λ (p : InputUnit × List ℕ). p.1) is in
    let long : length left ≡ length rest = ap length same in
    omega (arith, few, long)

-- a list is no longer than itself
not-longer : (xs : List ℕ) → length xs ≤ length xs
not-longer xs = omega arith

summed-shorter : (u : InputUnit) (input bytes digits rest : List ℕ) → summed input bytes digits ≡ with-rest u rest → (u ≡ Partial → ⊥)
    → length rest ≤ length digits
summed-shorter u input bytes [] rest is whole = not-whole u input rest (length rest ≤ 0) is whole
summed-shorter u input bytes (high ∷ []) rest is whole = not-whole u input rest (length rest ≤ length (high ∷ [])) is whole
summed-shorter u input bytes (high ∷ low ∷ digits) rest is whole =
    either-of (is_hexadecimal high && is_hexadecimal low) (judged bytes high low, digits) (Damaged, high ∷ low ∷ digits) (u, rest)
    (length rest ≤ length (high ∷ low ∷ digits)) is
    (λ e. (let few = after-is u (judged bytes high low) digits rest (length digits) e (not-longer digits) in omega (arith, few)))
    (λ e. after-is u Damaged (high ∷ low ∷ digits) rest (length (high ∷ low ∷ digits)) e (not-longer (high ∷ low ∷ digits)))

closed-shorter : (u : InputUnit) (input bytes from rest : List ℕ) → closed input bytes from ≡ with-rest u rest → (u ≡ Partial → ⊥) → length rest ≤ length from
closed-shorter u input bytes [] rest is whole =
    either-of (nat_lt most_bytes (length bytes)) (Damaged, []) (Partial, input) (u, rest) (length rest ≤ 0) is
    (λ e. after-is u Damaged [] rest 0 e (omega arith)) (λ e. not-whole u input rest (length rest ≤ 0) e whole)
closed-shorter u input bytes (mark ∷ from) rest is whole =
    either-of (mark == 36) (Noise, mark ∷ from) (summed input bytes from) (u, rest) (length rest ≤ length (mark ∷ from)) is
    (λ e. after-is u Noise (mark ∷ from) rest (length (mark ∷ from)) e (not-longer (mark ∷ from)))
    (λ e. (let few = summed-shorter u input bytes from rest e whole in omega (arith, few)))

packet-shorter : (u : InputUnit) (input bytes rest : List ℕ) → packet_in input bytes ≡ with-rest u rest → (u ≡ Partial → ⊥) → length rest ≤ length bytes
packet-shorter u input bytes rest is whole =
    let n = position_or_len is_mark bytes in
    let few = closed-shorter u input (take n bytes) (drop n bytes) rest is whole in
    let left : length (drop n bytes) ≤ length bytes = grind (arith, length-drop) in
    omega (arith, few, left)

pub unit-shorter : (u : InputUnit) (input rest : List ℕ) → first_unit input ≡ with-rest u rest → (u ≡ Partial → ⊥) → length rest < length input
unit-shorter u [] rest is whole = not-whole u [] rest (length rest < 0) is whole
unit-shorter u (b ∷ bytes) rest is whole =
    let one : length rest ≤ length bytes → length rest < length (b ∷ bytes) = λ few. omega (arith, few) in
    let plain : (v : InputUnit) → with-rest v bytes ≡ with-rest u rest → length rest < length (b ∷ bytes) =
    λ v e. one (after-is u v bytes rest (length bytes) e (not-longer bytes)) in
    let P = length rest < length (b ∷ bytes) in
    let noise : InputUnit × List ℕ = (Noise, bytes) in
    let interrupt : InputUnit × List ℕ = if b == 3 then (Interrupt, bytes) else noise in
    let refused : InputUnit × List ℕ = if b == 45 then (Refused, bytes) else interrupt in
    let accepted : InputUnit × List ℕ = if b == 43 then (Accepted, bytes) else refused in
    either-of (b == 36) (packet_in (b ∷ bytes) bytes) accepted (u, rest) P is (λ e. one (packet-shorter u (b ∷ bytes) bytes rest e whole))
    (λ e. either-of (b == 43) (Accepted, bytes) refused (u, rest) P e (plain Accepted)
    (λ e. either-of (b == 45) (Refused, bytes) interrupt (u, rest) P e (plain Refused)
    (λ e. either-of (b == 3) (Interrupt, bytes) noise (u, rest) P e (plain Interrupt) (plain Noise))))

-- the code's unit
pub seen-whole : (u : Seen) → (u ≡ is.Partial → ⊥) → seen u ≡ Partial → ⊥
seen-whole (is.Packet bytes) whole e = absurd (cc)
seen-whole is.Damaged whole e = absurd (cc)
seen-whole is.Accepted whole e = absurd (cc)
seen-whole is.Refused whole e = absurd (cc)
seen-whole is.Interrupt whole e = absurd (cc)
seen-whole is.Noise whole e = absurd (cc)
seen-whole is.Partial whole e = whole refl

-- nothing is no whole unit
pub none-partial : (u : InputUnit) (input rest : List ℕ) → first_unit input ≡ with-rest u rest → u ≡ Partial → (first_unit input).0 ≡ Partial
none-partial u input rest is partial = ap (λ (p : InputUnit × List ℕ). p.0) is ∙ partial
