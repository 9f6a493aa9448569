-- The events of a round, and of rounds one after another.
use Rattle.std.proofs.Common.{◌≡◌, ℕ, zero, suc, ◌+◌, ◌-◌, ◌*◌, ◌%◌, ◌<◌, ◌≤◌, List, [], ◌∷◌, ◌++◌, length, replicate, refl, sym}
use Rattle.std.proofs.Common.{arith, length-append, subst, ⊎_elim, ◌⊎◌}
use Rattle.std.proofs.lemmas.List.{length-replicate}
use Rattle.std.proofs.lemmas.Bool.{cases_lt}
use Rattle.xinu_base.specs.declared.events.Event.{Event}
use Rattle.xinu_base.specs.declared.events.Event.TheVariants.{Step, Tick, Tx, Disk0, Disk1}
use Rattle.schedule_file.specs.LineKinds.{round, rounds}
use Rattle.schedule_file.proofs.PlaceLemmas.{Comes, comes-left, comes-replicate, comes-right}

-- a round with other counts
abbrev pub stretches : ℕ → ℕ → ℕ → ℕ → List Event
stretches a b c d = replicate a Step ++ (replicate b Tx ++ (replicate c Disk1 ++ (replicate d Disk0 ++ Tick ∷ [])))

-- how many events these are
length-stretches : (a b c d : ℕ) → length (stretches a b c d) ≡ a + (b + (c + (d + 1)))
length-stretches a b c d = simp (length-append, length-replicate) refl

-- a round has 1081 events
pub length-round : length round ≡ 1081
unfolding round
length-round = length-stretches 1000 64 8 8

-- rounds have 1081 events each
pub length-rounds : (n : ℕ) → length (rounds n) ≡ n * 1081
unfolding rounds
length-rounds zero = refl
length-rounds (suc n) = omega (arith, length-append round (rounds n), length-round, length-rounds n)

-- copies that come before others, and what comes after them
copies_come : {X : Type 0} (n k : ℕ) (x : X) (ys : List X) → k < n → Comes (replicate n x ++ ys) k (n - k - 1) x
copies_come n k x ys within =
    comes-left (replicate n x) ys k (n - k - 1) x (omega (arith, length-replicate n x)) (comes-replicate n k x within)

comes_after : {X : Type 0} (n k more : ℕ) (x y : X) (ys : List X) → n ≤ k → Comes ys (k - n) more y → Comes (replicate n x ++ ys) k more y
comes_after {X} n k more x y ys behind comes =
    comes-right (replicate n x) ys k more y (omega (arith, length-replicate n x))
    (subst (λ (m : ℕ). Comes ys (k - m) more y) (sym (length-replicate n x)) comes)

-- the events of a round by their places
pub steps_come : (a b c d k : ℕ) → k < a → Comes (stretches a b c d) k (a - k - 1) Step
steps_come a b c d k within = copies_come a k Step (replicate b Tx ++ (replicate c Disk1 ++ (replicate d Disk0 ++ Tick ∷ []))) within

txs_come : (b c d k more : ℕ) → k < b → more ≡ b - k - 1 → Comes (replicate b Tx ++ (replicate c Disk1 ++ (replicate d Disk0 ++ Tick ∷ []))) k more Tx
txs_come b c d k more within is = rw is (copies_come b k Tx (replicate c Disk1 ++ (replicate d Disk0 ++ Tick ∷ [])) within)

pub tx_comes : (a b c d k : ℕ) → a ≤ k → k < a + b → Comes (stretches a b c d) k (a + b - k - 1) Tx
tx_comes a b c d k behind within =
    comes_after a k (a + b - k - 1) Step Tx (replicate b Tx ++ (replicate c Disk1 ++ (replicate d Disk0 ++ Tick ∷ []))) behind
    (txs_come b c d (k - a) (a + b - k - 1) (omega arith) (omega arith))

disk1s_come : (b c d k more : ℕ) → b ≤ k → k < b + c → more ≡ b + c - k - 1
    → Comes (replicate b Tx ++ (replicate c Disk1 ++ (replicate d Disk0 ++ Tick ∷ []))) k more Disk1
disk1s_come b c d k more behind within is =
    comes_after b k more Tx Disk1 (replicate c Disk1 ++ (replicate d Disk0 ++ Tick ∷ [])) behind
    (let same : more ≡ c - (k - b) - 1 = omega arith in rw same (copies_come c (k - b) Disk1 (replicate d Disk0 ++ Tick ∷ []) (omega arith)))

pub disk1_comes : (a b c d k : ℕ) → a + b ≤ k → k < a + b + c → Comes (stretches a b c d) k (a + b + c - k - 1) Disk1
disk1_comes a b c d k behind within =
    comes_after a k (a + b + c - k - 1) Step Disk1 (replicate b Tx ++ (replicate c Disk1 ++ (replicate d Disk0 ++ Tick ∷ []))) (omega arith)
    (disk1s_come b c d (k - a) (a + b + c - k - 1) (omega arith) (omega arith) (omega arith))

disk0s_come : (b c d k more : ℕ) → b + c ≤ k → k < b + c + d → more ≡ b + c + d - k - 1
    → Comes (replicate b Tx ++ (replicate c Disk1 ++ (replicate d Disk0 ++ Tick ∷ []))) k more Disk0
disk0s_come b c d k more behind within is =
    comes_after b k more Tx Disk0 (replicate c Disk1 ++ (replicate d Disk0 ++ Tick ∷ [])) (omega arith)
    (comes_after c (k - b) more Disk1 Disk0 (replicate d Disk0 ++ Tick ∷ []) (omega arith)
    (let same : more ≡ d - (k - b - c) - 1 = omega arith in rw same (copies_come d (k - b - c) Disk0 (Tick ∷ []) (omega arith))))

pub disk0_comes : (a b c d k : ℕ) → a + b + c ≤ k → k < a + b + c + d → Comes (stretches a b c d) k (a + b + c + d - k - 1) Disk0
disk0_comes a b c d k behind within =
    comes_after a k (a + b + c + d - k - 1) Step Disk0 (replicate b Tx ++ (replicate c Disk1 ++ (replicate d Disk0 ++ Tick ∷ []))) (omega arith)
    (disk0s_come b c d (k - a) (a + b + c + d - k - 1) (omega arith) (omega arith) (omega arith))

pub tick_comes : (a b c d k : ℕ) → k ≡ a + b + c + d → Comes (stretches a b c d) k 0 Tick
tick_comes a b c d k is =
    let last : k - a - b - c - d ≡ 0 = omega arith in
    comes_after a k 0 Step Tick (replicate b Tx ++ (replicate c Disk1 ++ (replicate d Disk0 ++ Tick ∷ []))) (omega arith)
    (comes_after b (k - a) 0 Tx Tick (replicate c Disk1 ++ (replicate d Disk0 ++ Tick ∷ [])) (omega arith)
    (comes_after c (k - a - b) 0 Disk1 Tick (replicate d Disk0 ++ Tick ∷ []) (omega arith)
    (comes_after d (k - a - b - c) 0 Disk0 Tick (Tick ∷ []) (omega arith) (rw last refl))))

-- a place in the first of some rounds, or in the others
rounds_step : (n k more : ℕ) (x : Event) → (k < 1081) ⊎ (1081 ≤ k) → k % 1081 + 1 + more ≤ 1081 → Comes round (k % 1081) more x
    → (1081 ≤ k → Comes (rounds n) (k - 1081) more x) → Comes (round ++ rounds n) k more x
rounds_step n k more x side fits comes rest =
    ⊎_elim
    (λ (first : k < 1081).
    let same : k % 1081 ≡ k = omega arith in
    comes-left round (rounds n) k more x (omega (arith, length-round)) (subst (λ (m : ℕ). Comes round m more x) same comes))
    (λ (later : 1081 ≤ k).
    comes-right round (rounds n) k more x (omega (arith, length-round))
    (subst (λ (m : ℕ). Comes (rounds n) (k - m) more x) (sym length-round) (rest later)))
    side

-- what comes at a place of some rounds is what comes in a round at what is left of the place
pub rounds_come : (n k more : ℕ) (x : Event) → k < n * 1081 → k % 1081 + 1 + more ≤ 1081 → Comes round (k % 1081) more x
    → Comes (rounds n) k more x
unfolding rounds
rounds_come zero k more x within fits comes = absurd (omega arith)
rounds_come (suc n) k more x within fits comes =
    rounds_step n k more x (cases_lt k 1081) fits comes
    (λ later.
    let same : k % 1081 ≡ (k - 1081) % 1081 = omega arith in
    rounds_come n (k - 1081) more x (omega arith) (omega arith) (subst (λ (m : ℕ). Comes round m more x) same comes))
