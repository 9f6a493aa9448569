-- A free number keeps the registers that it had at the start, whoever else gets others.
use Rattle.std.proofs.Common.{◌≡◌, ◌≢◌, ℕ, zero, suc, ◌<◌, true, false, List, [], ◌∷◌, length, refl, sym, ap, subst, ◌∙◌, None, get_or-set_other}
use Rattle.std.specs.Prelude.{slice_index_or, slice_set}
use Rattle.std.proofs.lemmas.Bool.{both_ways}
use Rattle.xinu_base.specs.declared.processes.Process.{Process}
use Rattle.xinu_base.specs.declared.processes.State.TheVariants.{Current}
use Rattle.xinu_base.specs.declared.registers.Hart.{Hart}
use Rattle.xinu_model.specs.Machine.{no_hart}
use Rattle.xinu_model.specs.Sound.State.{AreUnused}
use Rattle.xinu_model.specs.Sound.Tables.{IsSoundTables}
use Rattle.xinu_model.specs.Tables.{no_process, Tables, state_at, is_free, Nowhere, move_to}
use Rattle.table_laws.proofs.Tables.MoveTo.{by_number, state_move_same, state_move_other}

-- The current process gets other registers.
pub unused_executed : (t : Tables) (harts : List Hart) (hart : Hart) → IsSoundTables t → AreUnused t harts
    → AreUnused t (slice_set harts t.current hart)
unused_executed t harts hart k a p h =
    get_or-set_other harts t.current p hart no_hart
    (λ e. both_ways (is_free (state_at t p)) (ap is_free (subst (λ r. state_at t r ≡ Current) (sym e) k.runs)) h) ∙ a p h

-- A process is made.
pub unused_made : (t : Tables) (harts : List Hart) (p : ℕ) (x : Process) (hart : Hart) → length t.processes ≡ 64 → p < 64
    → is_free x.state ≡ false → AreUnused t harts → AreUnused (move_to p x None Nowhere t) (slice_set harts p hart)
unused_made t harts p x hart many within alive a q h =
    let n : q ≢ p = λ e. both_ways (is_free x.state) alive
    (sym (ap is_free (state_move_same t p x None Nowhere many within))
    ∙ subst (λ r. is_free (state_at (move_to p x None Nowhere t) r) ≡ true) e h) in
    get_or-set_other harts p q hart no_hart n ∙ a q (sym (ap is_free (state_move_other t q p x None Nowhere n)) ∙ h)

-- what is written at a number as it is at a free one
reset : (harts : List Hart) (p : ℕ) → slice_index_or (slice_set harts p no_hart) p no_hart ≡ no_hart
reset [] p = refl
reset (x ∷ harts) zero = refl
reset (x ∷ harts) (suc p) = reset harts p

-- A process is gone.
pub unused_gone : (t : Tables) (harts : List Hart) (p : ℕ) → AreUnused t harts
    → AreUnused (move_to p no_process None Nowhere t) (slice_set harts p no_hart)
unused_gone t harts p a q =
    by_number q p
    (λ r. is_free (state_at (move_to p no_process None Nowhere t) r) ≡ true → slice_index_or
    (slice_set harts p no_hart) r no_hart ≡ no_hart)
    (λ _. reset harts p)
    (λ n h. get_or-set_other harts p q no_hart no_hart n ∙ a q (sym (ap is_free (state_move_other t q p no_process None Nowhere n)) ∙ h))
