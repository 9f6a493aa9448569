-- What was framed is read back.
use Rattle.std.proofs.Common.{ℕ, ◌≡◌, ◌∙◌, ◌+◌, ◌*◌, ◌<◌, ◌/◌, ◌%◌, ◌==◌, inl, inr, true, false, List, [], ◌∷◌, ◌++◌, length, Some, refl, ap, sym, subst, arith, append_assoc, length-append}
use Rattle.std.specs.Prelude.{sum}
use Rattle.std.specs.List.{position_or_len}
use Rattle.std.proofs.Math.Seq.{take-append_seam, drop-append_seam}
use Rattle.std.proofs.lemmas.Bool.{eq-eqb}
use Rattle.std.proofs.lemmas.Bool.Decides.{eqb_tells, nat_tests}
use Rattle.xinu_base.specs.Hexadecimal.{hex_byte, hex_digit}
use Rattle.gdb_packets.specs.Digits.{is_hexadecimal, value_in}
use Rattle.gdb_packets.specs.Frames.{escaped, escaped_byte, frame}
use Rattle.gdb_packets.specs.Units.{Packet, first_unit, is_mark, judged, packet_in, unescaped, unescaped_after}

-- a byte is one of the four that are escaped, or another
data Kind : ℕ → Type 0 where
  Hash : Kind 35
  Dollar : Kind 36
  Brace : Kind 125
  Star : Kind 42
  Plain : (b : ℕ) → ((b == 35) ≡ false) → ((b == 36) ≡ false) → ((b == 125) ≡ false) → ((b == 42) ≡ false) → Kind b

kind_of : (b : ℕ) → Kind b
kind_of b =
    elim (eqb_tells b 35) [
      | inl is ↦ subst Kind (sym is.1) Hash
      | inr hash ↦ elim (eqb_tells b 36) [
        | inl is ↦ subst Kind (sym is.1) Dollar
        | inr dollar ↦ elim (eqb_tells b 125) [
          | inl is ↦ subst Kind (sym is.1) Brace
          | inr brace ↦ elim (eqb_tells b 42) [
            | inl is ↦ subst Kind (sym is.1) Star
            | inr star ↦ Plain b hash.0 dollar.0 brace.0 star.0
          ]
        ]
      ]
    ]

-- an escaped byte, read
said-escaped : (b : ℕ) (rest : List ℕ) → Kind b → unescaped_after false (escaped_byte b ++ rest) ≡ b ∷ unescaped_after false rest
said-escaped b rest Hash = refl
said-escaped b rest Dollar = refl
said-escaped b rest Brace = refl
said-escaped b rest Star = refl
said-escaped b rest (Plain x hash dollar brace star) = rw (hash, dollar, brace, star, brace) refl

-- what was escaped is said
unescaped-escaped : (bytes : List ℕ) → unescaped (escaped bytes) ≡ bytes
unescaped-escaped [] = refl
unescaped-escaped (b ∷ bytes) = said-escaped b (escaped bytes) (kind_of b) ∙ ap (λ (x : List ℕ). b ∷ x) (unescaped-escaped bytes)

-- an escaped byte is no mark
passes-byte : (b : ℕ) (rest : List ℕ) → Kind b → position_or_len is_mark (escaped_byte b ++ rest) ≡ length (escaped_byte b) + position_or_len is_mark rest
passes-byte b rest Hash = omega arith
passes-byte b rest Dollar = omega arith
passes-byte b rest Brace = omega arith
passes-byte b rest Star = omega arith
passes-byte b rest (Plain x hash dollar brace star) = rw (hash, dollar, brace, star, hash, dollar) refl

-- no byte of what was escaped is a mark
passes : (bytes rest : List ℕ) → position_or_len is_mark (escaped bytes ++ 35 ∷ rest) ≡ length (escaped bytes)
passes [] rest = refl
passes (b ∷ bytes) rest =
    rw (append_assoc (escaped_byte b) (escaped bytes) (35 ∷ rest), passes-byte b (escaped bytes ++ 35 ∷ rest) (kind_of b), passes bytes rest)
    (sym (length-append (escaped_byte b) (escaped bytes)))

-- a digit that was written, read
read-digit : (d : ℕ) → d < 16 → value_in (hex_digit d) ≡ Some d
read-digit d few = grind (arith, nat_tests)

is-digit : (d : ℕ) → d < 16 → is_hexadecimal (hex_digit d) ≡ true
is-digit d few = grind (arith, nat_tests)

-- the digits of a sum write it
sums : (bytes : List ℕ) (total : ℕ) → total < 256 → total ≡ sum bytes % 256
    → judged bytes (hex_digit (total / 16)) (hex_digit (total % 16)) ≡ Packet (unescaped bytes)
sums bytes total few is =
    rw (read-digit (total / 16) (omega arith), read-digit (total % 16) (omega arith))
    (let same : (16 * (total / 16) + total % 16) == (sum bytes % 256) ≡ true = eq-eqb _ _ (omega arith) in rw same refl)

-- a packet whose digits write its sum, read
read-whole : (input payload rest : List ℕ) (high low : ℕ) → judged (escaped payload) high low ≡ Packet payload → is_hexadecimal high ≡ true
    → is_hexadecimal low ≡ true → packet_in input (escaped payload ++ 35 ∷ high ∷ low ∷ rest) ≡ (Packet payload, rest)
read-whole input payload rest high low reads is_high is_low =
    rw (
      passes payload (high ∷ low ∷ rest),
      take-append_seam (escaped payload) (35 ∷ high ∷ low ∷ rest),
      drop-append_seam (escaped payload) (35 ∷ high ∷ low ∷ rest),
      is_high,
      is_low,
      reads,
    )
    refl

-- what was framed, read
pub read-framed : (payload rest : List ℕ) → first_unit (frame payload ++ rest) ≡ (Packet payload, rest)
read-framed payload rest =
    let total = sum (escaped payload) % 256 in
    let few : total < 256 = omega arith in
    ap (λ (bytes : List ℕ). packet_in (36 ∷ bytes) bytes) (append_assoc (escaped payload) (35 ∷ hex_byte total) rest)
    ∙ read-whole (36 ∷ (escaped payload ++ 35 ∷ (hex_byte total ++ rest))) payload rest (hex_digit (total / 16)) (hex_digit (total % 16))
    (sums (escaped payload) total few refl ∙ ap Packet (unescaped-escaped payload))
    (is-digit (total / 16) (omega arith))
    (is-digit (total % 16) (omega arith))
