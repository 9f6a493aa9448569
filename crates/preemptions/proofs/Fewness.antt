-- How many placements there are, and how many events a schedule has with one.
use Rattle.std.proofs.Common.{◌≡◌, ◌∙◌, ℕ, zero, suc, ◌+◌, ◌-◌, ◌*◌, ◌<◌, ◌≤◌, List, [], ◌∷◌, length, map, ap, arith, length-append}
use Rattle.std.proofs.lemmas.List.{length-map}
use Rattle.xinu_base.specs.declared.events.Event.{Event}
use Rattle.xinu_base.specs.declared.events.Event.TheVariants.{Step, Tick, Key, Tx, Disk0, Disk1, Fail0, Fail1, Dump}
use Rattle.preemptions.specs.Placements.{ascending_from, placements_from, placements}
use Rattle.preemptions.specs.Preempted.{preempted, preempted_at}
use Rattle.preemptions.specs.declared.stretches.Stretch.{Stretch}
use Rattle.preemptions.proofs.Unfolded.{ascending_from-zero, ascending_from-none, ascending_from-suc, placements_from-zero, placements_from-suc}

-- the lists of n numbers, n at most 3, are fewer than the power
length-suc : (n first numbers : ℕ) → length (ascending_from (suc n) first (suc numbers)) ≡ length (ascending_from n (first + 1) numbers) + length (ascending_from (suc n) (first + 1) numbers)
length-suc n first numbers =
    let one = ascending_from n (first + 1) numbers in
    ap (λ (xs : List (List ℕ)). length xs) (ascending_from-suc n first numbers)
    ∙ length-append (map (λ (places : List ℕ). first ∷ places) one) (ascending_from (suc n) (first + 1) numbers)
    ∙ ap (λ (k : ℕ). k + length (ascending_from (suc n) (first + 1) numbers)) (length-map one (λ (places : List ℕ). first ∷ places))

length-none : (n first : ℕ) → length (ascending_from (suc n) first 0) ≡ 0
length-none n first = ap (λ (xs : List (List ℕ)). length xs) (ascending_from-none n first)

of_none : (first numbers : ℕ) → length (ascending_from 0 first numbers) ≡ 1
of_none first numbers = ap (λ (xs : List (List ℕ)). length xs) (ascending_from-zero first numbers)

of_one : (numbers first : ℕ) → length (ascending_from 1 first numbers) ≡ numbers
of_one zero first = length-none 0 first
of_one (suc numbers) first = omega (arith, length-suc 0 first numbers, of_none (first + 1) numbers, of_one numbers (first + 1))

of_two : (numbers first : ℕ) → numbers ≤ 1000000 → length (ascending_from 2 first numbers) ≤ numbers * 1000000
of_two zero first few = omega (arith, length-none 1 first)
of_two (suc numbers) first few =
    omega (arith, length-suc 1 first numbers, of_one numbers (first + 1), of_two numbers (first + 1) (omega arith))

of_three : (numbers first : ℕ) → numbers ≤ 1000000 → length (ascending_from 3 first numbers) ≤ numbers * 1000000000000
of_three zero first few = omega (arith, length-none 2 first)
of_three (suc numbers) first few =
    omega (arith, length-suc 2 first numbers, of_two numbers (first + 1) (omega arith), of_three numbers (first + 1) (omega arith))

-- the lists of at most three numbers
of_size : (n first numbers : ℕ) → n ≤ 3 → numbers ≤ 1000000 → length (ascending_from n first numbers) ≤ 1000000000000000000
of_size zero first numbers small few = omega (arith, of_none first numbers)
of_size (suc zero) first numbers small few = omega (arith, of_one numbers first)
of_size (suc (suc zero)) first numbers small few = omega (arith, of_two numbers first few)
of_size (suc (suc (suc zero))) first numbers small few = omega (arith, of_three numbers first few)
of_size (suc (suc (suc (suc n)))) first numbers small few = absurd (omega arith)

of_sizes : (sizes n : ℕ) (s : Stretch) → n + sizes ≤ 4 → s.within ≤ 1000000 → length (placements_from sizes n s) ≤ sizes * 1000000000000000000
of_sizes zero n s small few = omega (arith, ap (λ (xs : List (List ℕ)). length xs) (placements_from-zero n s))
of_sizes (suc sizes) n s small few =
    omega (
      arith,
      ap (λ (xs : List (List ℕ)). length xs) (placements_from-suc sizes n s),
      length-append (ascending_from n (s.after + 1) (s.within - s.after)) (placements_from sizes (n + 1) s),
      of_size n (s.after + 1) (s.within - s.after) (omega arith) (omega (arith, few)),
      of_sizes sizes (n + 1) s (omega arith) few,
    )

-- the placements of at most three places are fewer than 2 ^ 64
pub few_placements : (most : ℕ) (s : Stretch) → most ≤ 3 → s.within ≤ 1000000 → length (placements most s) < 18446744073709551616
few_placements most s small few = omega (arith, of_sizes (most + 1) 0 s (omega arith) few)

-- two events more for each place
longer : (k : ℕ) (events : List Event) → length (preempted k events) ≤ length events + 2
unfolding preempted
longer zero [] = omega arith
longer (suc k) [] = omega arith
longer zero (Step ∷ events) = omega arith
longer (suc k) (Step ∷ events) = omega (arith, longer k events)
longer zero (Tick ∷ events) = omega (arith, longer zero events)
longer (suc k) (Tick ∷ events) = omega (arith, longer (suc k) events)
longer zero ((Key b) ∷ events) = omega (arith, longer zero events)
longer (suc k) ((Key b) ∷ events) = omega (arith, longer (suc k) events)
longer zero (Tx ∷ events) = omega (arith, longer zero events)
longer (suc k) (Tx ∷ events) = omega (arith, longer (suc k) events)
longer zero (Disk0 ∷ events) = omega (arith, longer zero events)
longer (suc k) (Disk0 ∷ events) = omega (arith, longer (suc k) events)
longer zero (Disk1 ∷ events) = omega (arith, longer zero events)
longer (suc k) (Disk1 ∷ events) = omega (arith, longer (suc k) events)
longer zero (Fail0 ∷ events) = omega (arith, longer zero events)
longer (suc k) (Fail0 ∷ events) = omega (arith, longer (suc k) events)
longer zero (Fail1 ∷ events) = omega (arith, longer zero events)
longer (suc k) (Fail1 ∷ events) = omega (arith, longer (suc k) events)
longer zero (Dump ∷ events) = omega (arith, longer zero events)
longer (suc k) (Dump ∷ events) = omega (arith, longer (suc k) events)

pub longer_by_places : (places : List ℕ) (events : List Event) → length (preempted_at places events) ≤ length events + 2 * length places
longer_by_places [] events = omega arith
longer_by_places (k ∷ places) events = omega (arith, longer k (preempted_at places events), longer_by_places places events)
