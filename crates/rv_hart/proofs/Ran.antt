-- Plain instructions, by the first of them.
use Rattle.std.proofs.Common.{◌≡◌, ◌∙◌, ◌+◌, ℕ, suc, List, refl, ap}
use Rattle.xinu_base.specs.declared.Hart.{Hart}
use Rattle.xinu_base.specs.declared.Outcome.{Outcome}
use Rattle.xinu_base.specs.declared.Outcome.TheVariants.{Went}
use Rattle.xinu_model.specs.Isa.Exec.{exec}
use Rattle.xinu_model.specs.Isa.Ran.{Ran, ran_on, unless_stopped}
use Rattle.xinu_model.proofs.Stops.{exec_undone}

-- a plain instruction: the others follow
pub ran_goes : (count left : ℕ) (h u : Hart) (m v : List ℕ)
    → Went ≡ (exec h m).outcome → u ≡ (exec h m).hart → v ≡ (exec h m).memory
    → ran_on (count + 1) left u v ≡ ran_on count (suc left) h m
ran_goes count left h u m v goes hart memory =
    let did = exec h m in
    ap (λ u. ran_on (count + 1) left u v) hart
    ∙ ap (λ v. ran_on (count + 1) left did.hart v) memory
    ∙ ap (λ (o : Outcome). unless_stopped o (record { count = count; hart = h; memory = m }) (ran_on (count + 1) left did.hart did.memory)) goes

-- after what is no plain instruction no other follows
unless : (o : Outcome) (before after : Ran) → (o ≡ Went → ⊥) → before ≡ unless_stopped o before after
unless Went before after n = absurd (n refl)
unless _ before after n = refl

-- any other: it is undone by putting its pc back
pub ran_stops : (count left : ℕ) (h u : Hart) (m v : List ℕ)
    → ((exec h m).outcome ≡ Went → ⊥) → u ≡ (exec h m).hart → v ≡ (exec h m).memory
    → record { count = count; hart = record u { pc = h.pc }; memory = v } ≡ ran_on count (suc left) h m
ran_stops count left h u m v n hart memory =
    let did = exec h m in
    let i = exec_undone h m n in
    ap (λ (u : Hart). record { count = count; hart = record u { pc = h.pc }; memory = v }) hart
    ∙ ap (λ (u : Hart). record { count = count; hart = u; memory = v }) i.hart
    ∙ ap (λ v. record { count = count; hart = h; memory = v }) (memory ∙ i.memory)
    ∙ unless did.outcome (record { count = count; hart = h; memory = m }) (ran_on (count + 1) left did.hart did.memory) n
