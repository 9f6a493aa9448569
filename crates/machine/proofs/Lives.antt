-- While a process other than the null process runs, the run isn't over.
use Rattle.std.proofs.Common.{◌≡◌, ◌≢◌, ◌∙◌, ℕ, zero, suc, ◌&&◌, Bool, true, false, List, [], ◌∷◌, drop, get_or, refl, sym, ap}
use Rattle.std.specs.List.{list_all}
use Rattle.xinu_base.specs.declared.processes.Process.{Process}
use Rattle.xinu_base.specs.declared.processes.State.{State}
use Rattle.xinu_base.specs.declared.processes.State.TheVariants.{Free}
use Rattle.xinu_model.specs.Machine.{Xinu}
use Rattle.xinu_model.specs.Runs.{is_over}
use Rattle.xinu_model.specs.Sound.State.{IsSound}
use Rattle.xinu_model.specs.Tables.{is_free, no_process}

-- whoever isn't free isn't
lives : (s : State) → s ≢ Free → is_free s ≡ false
lives Free n = absurd (n refl)
lives _ n = refl

-- nothing more holds of all
never : (b : Bool) → (b && false) ≡ false
never true = refl
never false = refl

-- not all are free if one of them isn't
one_lives : (p : ℕ) (l : List Process) → (get_or l p no_process).state ≢ Free → list_all (λ (x : Process). is_free x.state) l ≡ false
one_lives p [] alive = absurd (alive refl)
one_lives zero (x ∷ l) alive = ap (λ b. b && list_all (λ (x : Process). is_free x.state) l) (lives x.state alive)
one_lives (suc p) (x ∷ l) alive = ap (λ b. is_free x.state && b) (one_lives p l alive) ∙ never (is_free x.state)

-- nor are those behind the first
behind_lives : (p : ℕ) (l : List Process) → p ≢ 0 → (get_or l p no_process).state ≢ Free → list_all (λ (x : Process). is_free x.state) (drop 1 l) ≡ false
behind_lives zero l n alive = absurd (n refl)
behind_lives (suc p) [] n alive = absurd (alive refl)
behind_lives (suc p) (x ∷ l) n alive = one_lives p l alive

-- The current process lives.
pub current_lives : (s : Xinu) → IsSound s → s.tables.current ≢ 0 → is_over s ≡ false
current_lives s k n = behind_lives s.tables.current s.tables.processes n (λ f. let e = sym k.tables.runs ∙ f in cc)
