-- Runs that pass events.
use Rattle.std.proofs.Common.{◌≡◌, ◌∙◌, ◌+◌, ◌<◌, ◌≤◌, ◌||◌, ◌&&◌, not, ℕ, zero, suc, Bool, true, false, cond, List, [], Option, Some, None, refl, sym, ap, subst, arith}
use Rattle.std.specs.Prelude.{slice_get}
use Rattle.replayed_run.specs.Progress.{TakesSteps}
use Rattle.replayed_run.specs.Replayed.{Replayed}
use Rattle.watched_run.specs.Goals.{has_points, is_alone, is_free, is_met, tells}
use Rattle.watched_run.proofs.Taking.{after_steps, step-taken, steps-stand, takes-then-stands}
use Rattle.watched_run.specs.Moments.{Stands, actor, is_at_point, is_left, was_told}
use Rattle.watched_run.specs.Stops.{Orders, Passes, PassesAll, is_reached, stops_ahead, told_trap}
use Rattle.watched_run.specs.Watching.{Area, first_changed}
use Rattle.watched_run.specs.declared.goals.Goal.{Goal}
use Rattle.watched_run.specs.declared.goals.Goal.TheVariants.{Alone, Any, Instruction, Point}
use Rattle.xinu_base.specs.declared.events.Event.TheVariants.{Step}
use Rattle.xinu_base.specs.declared.registers.Cause.{Cause}
use Rattle.xinu_model.specs.Events.{stepped}
use Rattle.xinu_model.specs.Machine.{Xinu}
use Rattle.xinu_model.specs.Steps.{ArePlain, IsPlain, stepped_times}

-- it stands where it stands
pub stands-still : (r : Replayed) → Stands r r
stands-still r = record { stays = refl }

-- it stood, and then stands once more
pub stands-again : (a b c : Replayed) → Stands a b → Stands b c → Stands a c
stands-again a b c one two = record {
  stays = two.stays ∙ ap (λ (r : Replayed). record r { told = c.told; known = c.known }) one.stays;
}

-- an event is passed, and then the run stands
pub passes-then-stands : (o : Orders) (a b c : Replayed) → Passes o a b → Stands b c → Passes o a c
passes-then-stands o a b c passes stands =
    let state : b.state ≡ c.state = ap (λ (r : Replayed). r.state) (sym stands.stays) in
    record {
      lines = passes.lines;
      takes = takes-then-stands a b c passes.lines passes.takes stands;
      no_point = passes.no_point;
      no_trap = passes.no_trap;
      no_change = (let P : Xinu → Type 0 = λ s. first_changed a.state.memory s.memory o.areas ≡ None in subst P state passes.no_change);
      not_reached = (let P : Xinu → Type 0 = λ s. is_reached o s (actor a) ≡ false in subst P state passes.not_reached);
    }

-- events are passed, and then the run stands
pub all-then-stands : (o : Orders) (n : ℕ) (a b c : Replayed) → PassesAll o n a b → Stands b c → PassesAll o n a c
unfolding PassesAll
all-then-stands o zero a b c all stands = stands-again a b c all stands
all-then-stands o (suc n) a b c all stands = record { mid = all.mid; earlier = all.earlier; passes = passes-then-stands o all.mid b c all.passes stands }

-- one event more
pub all-more : (o : Orders) (n : ℕ) (a b c : Replayed) → PassesAll o n a b → Passes o b c → PassesAll o (suc n) a c
unfolding PassesAll
all-more o n a b c all passes = record { mid = b; earlier = all; passes = passes }

-- none
pub all-none : (o : Orders) (a b : Replayed) → Stands a b → PassesAll o 0 a b
unfolding PassesAll
all-none o a b stands = stands

-- sums
no-more : (n : ℕ) → n + 0 ≡ n
no-more n = grind arith

one-more : (n k : ℕ) → suc (n + k) ≡ n + suc k
one-more n k = grind arith

-- events, and then more events
pub all-joined : (o : Orders) (n k : ℕ) (a b c : Replayed) → PassesAll o n a b → PassesAll o k b c → PassesAll o (n + k) a c
unfolding PassesAll
all-joined o n zero a b c first then =
    let P : ℕ → Type 0 = λ m. PassesAll o m a c in subst P (sym (no-more n)) (all-then-stands o n a b c first then)
all-joined o n (suc k) a b c first then =
    let P : ℕ → Type 0 = λ m. PassesAll o m a c in
    subst P (one-more n k) (all-more o (n + k) a then.mid c (all-joined o n k a b then.mid first then.earlier) then.passes)

-- a goal that is free
free-point : (g : Goal) → is_free g ≡ true → g ≡ Point
free-point Point free = refl
free-point (Instruction q) free = absurd (cc)
free-point Any free = absurd (cc)
free-point (Alone q) free = absurd (cc)

-- What stops the run is a trap alone.
pub record IsFree (o : Orders) : Type 0 where
  pub free : is_free o.goal ≡ true
  pub no_addresses : o.addresses ≡ []
  pub no_areas : o.areas ≡ []

neither : (b : Bool) → (b && false) ≡ false
neither true = refl
neither false = refl

either : (b : Bool) (x : Option Cause) → cond b x x ≡ x
either true x = refl
either false x = refl

no-points : (o : Orders) → o.addresses ≡ [] → (s : Xinu) (who : Option ℕ) → stops_ahead o s who ≡ false
no-points o none s None = refl
no-points o none s (Some p) =
    ap (λ (addresses : List ℕ). has_points o.goal p && is_at_point addresses s p) none ∙ neither (has_points o.goal p)

no-traps : (o : Orders) (n : ℕ) (who : Option ℕ) → told_trap o n [] who ≡ None
no-traps o n None = refl
no-traps o n (Some p) = either (tells o.goal p && not (was_told o.told n)) None

no-changes : (areas : List Area) → areas ≡ [] → (old new : List ℕ) → first_changed old new areas ≡ None
no-changes areas none old new = ap (first_changed old new) none

no-goals : (o : Orders) → o.goal ≡ Point → (s : Xinu) (who : Option ℕ) → is_reached o s who ≡ false
no-goals o point s None = refl
no-goals o point s (Some p) =
    ap (λ (g : Goal). cond (is_alone g) (tells g p && (is_at_point o.addresses s p || not (is_left s p))) (is_met g p)) point

-- one of the steps that are plain
plain-at : (j n : ℕ) (s : Xinu) → ArePlain n s → j < n → IsPlain (stepped_times j s)
plain-at j zero s plain within = absurd (omega (arith, within))
plain-at zero (suc n) s plain within = plain.0
plain-at (suc j) (suc n) s plain within = plain-at j n (stepped s).state plain.1 (omega (arith, within))

-- a plain step is passed
step-passed : (o : Orders) (j : ℕ) (r : Replayed) → IsFree o → r.over ≡ false → slice_get r.events (r.taken + j) ≡ Some Step → IsPlain (stepped_times j r.state)
    → Passes o (after_steps j r) (after_steps (suc j) r)
step-passed o j r is goes next plain =
    let old = after_steps j r in
    let new = after_steps (suc j) r in
    record {
      lines = [];
      takes = step-taken j r goes next plain;
      no_point = no-points o is.no_addresses old.state (actor old);
      no_trap = no-traps o old.taken (actor old);
      no_change = no-changes o.areas is.no_areas old.state.memory new.state.memory;
      not_reached = no-goals o (free-point o.goal is.free) new.state (actor old);
    }

-- plain steps are passed
steps-passed : (o : Orders) (j n : ℕ) (r : Replayed) → IsFree o → j ≤ n → (0 < n → r.over ≡ false)
    → ((i : ℕ) → i < n → slice_get r.events (r.taken + i) ≡ Some Step) → ArePlain n r.state → PassesAll o j r (after_steps j r)
steps-passed o zero n r is within goes next plain =
    all-none o r (after_steps 0 r) (record { stays = ap (λ (t : ℕ). record r { taken = t }) (no-more r.taken) })
steps-passed o (suc j) n r is within goes next plain =
    all-more o j r (after_steps j r) (after_steps (suc j) r)
    (steps-passed o j n r is (omega (arith, within)) goes next plain)
    (step-passed o j r is (goes (omega (arith, within))) (next j (omega (arith, within))) (plain-at j n r.state plain (omega (arith, within))))

-- steps that are taken at once are passed, if a trap alone stops the run
pub taken-passed : (o : Orders) (n : ℕ) (old new : Replayed) → IsFree o → TakesSteps n old new → PassesAll o n old new
taken-passed o n old new is takes =
    all-then-stands o n old (after_steps n old) new
    (steps-passed o n n old is (omega arith) takes.goes_on takes.next takes.plain)
    (steps-stand n old new takes)
