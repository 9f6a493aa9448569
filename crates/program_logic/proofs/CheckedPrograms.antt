-- Programs that check are a system of outlines that obey.
use Rattle.std.proofs.Common.{List, [], ap, arith, false, length, refl, suc, true, zero, ℕ, ◌%◌, ◌&&◌, ◌*◌, ◌+◌, ◌-◌, ◌<◌, ◌==◌, ◌^◌, ◌∷◌, ◌≡◌, ◌≤◌}
use Rattle.std.proofs.lemmas.Bool.{and_parts, eqb-true, leb-true, ltb-true}
use Rattle.std.specs.Prelude.{get_or, nat_le, nat_lt}
use Rattle.xinu_model.specs.Memory.{ram_size}
use Rattle.program_logic.proofs.CheckedWords.{place_obeys}
use Rattle.program_logic.specs.Claims.{Program, no_program, outlines_of, program_in, rows_at, system_of}
use Rattle.program_logic.specs.Obeying.{AreObeyed, IsSystem}
use Rattle.program_logic.specs.Outlines.{words_of}
use Rattle.program_logic.specs.PlaceCheck.{follows, place_checks, places_check}
use Rattle.program_logic.specs.SystemCheck.{lock_checks, program_checks, programs_check, system_checks}
use Rattle.program_logic.specs.Terms.{nothing}
use Rattle.program_logic.specs.declared.outline.Lock.{Lock}
use Rattle.program_logic.specs.declared.outline.Place.{Place}

pub places_obey : (l : Lock) (many : ℕ) (first : ℕ → ℕ) (places : ℕ → List Place) (p : ℕ) → first p % 4 ≡ 0 → l.word % 4 ≡ 0 → l.word + 4 ≤ ram_size
    → l.sem < 2 ^ 32 → (k : ℕ) (rest : List Place) → first p + 4 * (k + length rest) ≤ l.word
    → places_check l (first p) (places p) k rest ≡ true → AreObeyed (system_of many first places l) p k (rows_at rest)
places_obey l many first places p whole word_whole word_in sem_fits k [] below is = tt
places_obey l many first places p whole word_whole word_in sem_fits k (q ∷ rest) below is =
    let a = and_parts (place_checks l (first p) (places p) k q) (places_check l (first p) (places p) (suc k) rest) is in (
      place_obeys (record { near = omega (arith, below, word_in); whole = whole; word_whole = word_whole; word_in = word_in; sem_fits = sem_fits }) q a.0,
      places_obey l many first places p whole word_whole word_in sem_fits (suc k) rest (omega (arith, below)) a.1,
    )

rows_length : (qs : List Place) → length (words_of (rows_at qs)) ≡ length qs
rows_length [] = refl
rows_length (q ∷ qs) = ap suc (rows_length qs)

program_is_checked : (l : Lock) (programs : List Program) (i : ℕ) → programs_check l programs ≡ true → i < length programs
    → program_checks l (get_or programs i no_program) ≡ true
program_is_checked l [] i is few = absurd (omega arith)
program_is_checked l (g ∷ programs) zero is few = (and_parts (program_checks l g) (programs_check l programs) is).0
program_is_checked l (g ∷ programs) (suc i) is few =
    program_is_checked l programs i (and_parts (program_checks l g) (programs_check l programs) is).1 (omega arith)

pub record IsFit (l : Lock) (many : ℕ) : Type 0 where
  pub whole : l.word % 4 ≡ 0
  pub within : l.word + 4 ≤ ram_size
  pub few : many < 64
  pub no_device : 4 ≤ l.sem
  pub sem : l.sem < 128

pub lock_fits : (l : Lock) (many : ℕ) → lock_checks l many ≡ true → IsFit l many
lock_fits l many is =
    let a = and_parts ((l.word % 4 == 0) && nat_le (l.word + 4) ram_size) (nat_lt many 64 && (nat_le 4 l.sem && nat_lt l.sem 128)) is in
    let b = and_parts (l.word % 4 == 0) (nat_le (l.word + 4) ram_size) a.0 in
    let c = and_parts (nat_lt many 64) (nat_le 4 l.sem && nat_lt l.sem 128) a.1 in
    let d = and_parts (nat_le 4 l.sem) (nat_lt l.sem 128) c.1 in
    record {
      whole = eqb-true (l.word % 4) 0 b.0;
      within = leb-true (l.word + 4) ram_size b.1;
      few = ltb-true many 64 c.0;
      no_device = leb-true 4 l.sem d.0;
      sem = ltb-true l.sem 128 d.1;
    }

pub record IsPlaced (l : Lock) (g : Program) : Type 0 where
  pub whole : g.first % 4 ≡ 0
  pub below : g.first + 4 * length g.places ≤ l.word
  pub begins : follows g.places false 0 nothing ≡ true
  pub checks : places_check l g.first g.places 0 g.places ≡ true

placed : (l : Lock) (g : Program) → program_checks l g ≡ true → IsPlaced l g
placed l g is =
    let a = and_parts ((g.first % 4 == 0) && nat_le (g.first + 4 * length g.places) l.word) (follows g.places false 0 nothing && places_check l g.first g.places 0 g.places) is in
    let b = and_parts (g.first % 4 == 0) (nat_le (g.first + 4 * length g.places) l.word) a.0 in
    let c = and_parts (follows g.places false 0 nothing) (places_check l g.first g.places 0 g.places) a.1 in
    record { whole = eqb-true (g.first % 4) 0 b.0; below = leb-true (g.first + 4 * length g.places) l.word b.1; begins = c.0; checks = c.1 }

pub each_placed : (l : Lock) (programs : List Program) → programs_check l programs ≡ true → (p : ℕ) → 1 ≤ p → p ≤ length programs → IsPlaced l (program_in programs p)
each_placed l programs is p some few = placed l (program_in programs p) (program_is_checked l programs (p - 1) is (omega arith))

-- Programs that check are a system of outlines that obey.
pub system_obeys : (l : Lock) (programs : List Program) → system_checks l programs ≡ true → IsSystem (outlines_of l programs)
system_obeys l programs is = record {
  each = λ p some few. let z = one p some few in
      places_obey l (length programs) (λ p. (program_in programs p).first) (λ p. (program_in programs p).places) p z.whole fit.whole fit.within
      (omega (arith, fit.sem)) 0 ((program_in programs p).places) (omega (arith, z.below)) z.checks;
  whole = λ p some few. (one p some few).whole;
  below = λ p some few. let z = (one p some few).below in let e = rows_length ((program_in programs p).places) in omega (arith, z, e);
  ram = fit.within;
  few = fit.few;
  no_device = fit.no_device;
  within = fit.sem;
}
  where
    a : (lock_checks l (length programs) ≡ true) × (programs_check l programs ≡ true)
    a = and_parts (lock_checks l (length programs)) (programs_check l programs) is

    fit : IsFit l (length programs)
    fit = lock_fits l (length programs) a.0

    one : (p : ℕ) → 1 ≤ p → p ≤ length programs → IsPlaced l (program_in programs p)
    one = each_placed l programs a.1
