-- Clocks: how a detector knows what comes before what, while it goes through a history.
use Rattle.std.specs.Prelude.{ℕ, zero, suc, ◌==◌, if◌then◌else◌, List, [], ◌∷◌, max}
use Rattle.happens_before.specs.Histories.{Edge, Moment, is_stepper, moment_of}

-- Of each process an event: what it did up to then comes before.
abbrev pub Clock : Type 0
Clock = ℕ → ℕ

-- what two clocks say together
abbrev pub join : Clock → Clock → Clock
join c d u = max (c u) (d u)

-- The clocks of a detector: of each process, what comes before what it does next; and of each part so far, what comes before it, and itself.
pub record Clocks : Type 0 where
  pub knows : ℕ → Clock
  pub kept : ℕ → ℕ → Clock

abbrev pub no_clock : Clock
no_clock u = 0

abbrev pub first_clocks : Clocks
first_clocks = record { knows = λ v. no_clock; kept = λ n v. no_clock }

-- the clock of v's part in event n, if this is what v knows in it
abbrev pub own : ℕ → ℕ → Clock → Clock
own n v c u = if u == v then n else c u

-- the clock of each part, if this is what each process knows in event n
abbrev pub with_parts : ℕ → (ℕ → Clock) → (ℕ → ℕ → Clock) → ℕ → ℕ → Clock
with_parts n knows kept k v = if k == n then own n v (knows v) else kept k v

-- what v knows once the edges to it have come, if these are the clocks of their sources
abbrev pub learnt : (ℕ → ℕ → Clock) → List Edge → ℕ → Clock → Clock
learnt kept [] v c = c
learnt kept (e ∷ edges) v c = learnt kept edges v (if e.target == v then join c (kept e.event e.source) else c)

-- what each process knows in event n: the edges to the one that steps have come
abbrev pub knows_in : ℕ → Moment → Clocks → ℕ → Clock
knows_in n m c v = if is_stepper m.stepper v then learnt (with_parts n c.knows c.kept) m.edges v (c.knows v) else c.knows v

-- after the event: the edges to the others have come, too
abbrev pub knows_after : Moment → (ℕ → ℕ → Clock) → (ℕ → Clock) → ℕ → Clock
knows_after m kept knows v = if is_stepper m.stepper v then knows v else learnt kept m.edges v (knows v)

-- the clocks after event n, from those before it
abbrev pub clocks_next : ℕ → Moment → Clocks → Clocks
clocks_next n m c =
    let kept = with_parts n (knows_in n m c) c.kept in
    record { knows = knows_after m kept (knows_in n m c); kept = kept }

-- the clocks after the first n events of a history
unfoldable pub clocks_after : List Moment → ℕ → Clocks
clocks_after h zero = first_clocks
clocks_after h (suc n) = clocks_next (suc n) (moment_of h (suc n)) (clocks_after h n)

-- the clock of v's part in event n
abbrev pub clock_of : List Moment → ℕ → ℕ → Clock
clock_of h n v = (clocks_after h n).kept n v
