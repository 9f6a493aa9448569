-- How causes and the tests of a call go together: each test of the call has its cause, in any order.
use Rattle.std.proofs.Common.{◌≡◌, ℕ, Bool, true, false, not, cond, ◌&&◌, ◌||◌, List, [], ◌∷◌, Option, Some, None, refl, ℤ, pos}
use Rattle.std.specs.Prelude.{is_some}
use Rattle.refusal_reasons.specs.Causes.{cause, first_reason, is_minus_one, answers_minus_one}
use Rattle.refusal_reasons.specs.declared.reasons.Cause.{Cause}
use Rattle.refusal_reasons.specs.declared.reasons.Reason.{Reason}
use Rattle.xinu_base.specs.declared.semaphores.Owner.{Owner}
use Rattle.xinu_model.specs.Machine.{Xinu, CallState, CallResult, returns, refused}
use Rattle.xinu_model.specs.Semaphores.Counts.{is_images}

-- a call answers -1 if and only if one of these causes holds
pub record Tells (causes : List Cause) (result : CallResult) : Type 0 where
  pub told : answers_minus_one result.answer ≡ is_some (first_reason causes)

-- the same by an equation
pub tells : {causes : List Cause} {result : CallResult} → answers_minus_one result.answer ≡ is_some (first_reason causes) → Tells causes result
tells e = record { told = e }

-- a cause for which a call is refused, ahead of the others
pub by_cause : (r : Reason) (b : Bool) (causes : List Cause) (x : CallResult) → (b ≡ true → answers_minus_one x.answer ≡ true)
    → (b ≡ false → Tells causes x) → Tells (cause r b ∷ causes) x
by_cause r true causes x f g = tells (f refl)
by_cause r false causes x f g = tells (g refl).told

-- a call that is refused if a test holds
pub refused_if : (r : Reason) (b : Bool) (causes : List Cause) (s : Xinu) (x : CallResult) → (b ≡ false → Tells causes x)
    → Tells (cause r b ∷ causes) (cond b (refused s) x)
refused_if r true causes s x g = tells refl
refused_if r false causes s x g = tells (g refl).told

-- a call that is refused unless a test holds
pub refused_unless : (r : Reason) (b : Bool) (causes : List Cause) (s : Xinu) (x : CallResult) → (b ≡ true → Tells causes x)
    → Tells (cause r (not b) ∷ causes) (cond b x (refused s))
refused_unless r true causes s x g = tells (g refl).told
refused_unless r false causes s x g = tells refl

-- a call that is refused if one of two tests holds
pub refused_if_either : (r q : Reason) (a b : Bool) (causes : List Cause) (s : Xinu) (x : CallResult)
    → (a ≡ false → b ≡ false → Tells causes x) → Tells (cause r a ∷ cause q b ∷ causes) (cond (a || b) (refused s) x)
refused_if_either r q true b causes s x g = tells refl
refused_if_either r q false true causes s x g = tells refl
refused_if_either r q false false causes s x g = tells (g refl refl).told

-- a call that is refused unless two tests hold
pub refused_unless_both : (r q : Reason) (a b : Bool) (causes : List Cause) (s : Xinu) (x : CallResult)
    → (a ≡ true → b ≡ true → Tells causes x) → Tells (cause r (not a) ∷ cause q (not b) ∷ causes) (cond (a && b) x (refused s))
refused_unless_both r q true true causes s x g = tells (g refl refl).told
refused_unless_both r q true false causes s x g = tells refl
refused_unless_both r q false b causes s x g = tells refl

-- a cause that holds or not is a reason or none
pub one_cause : (r : Reason) (b : Bool) → b ≡ is_some (first_reason (cause r b ∷ []))
one_cause r true = refl
one_cause r false = refl

-- a call that answers a number that may be -1
pub value_told : (r : Reason) (value : ℤ) (d : CallState) → Tells (cause r (is_minus_one value) ∷ []) (returns d value)
value_told r value d = tells (one_cause r (is_minus_one value))

-- a call that answers 0 or another number unless it is refused
pub status_if : (r : Reason) (b : Bool) (n : ℕ) (d : CallState) (s : Xinu) → Tells (cause r (not b) ∷ []) (cond b (returns d (pos n)) (refused s))
status_if r b n d s = refused_unless r b [] s (returns d (pos n)) (λ _. tells refl)

pub status_unless : (r : Reason) (b : Bool) (n : ℕ) (d : CallState) (s : Xinu) → Tells (cause r b ∷ []) (cond b (refused s) (returns d (pos n)))
status_unless r b n d s = refused_if r b [] s (returns d (pos n)) (λ _. tells refl)

-- either of two ways to go on, neither of which answers -1
pub neither : (b : Bool) (x y : CallResult) → Tells [] x → Tells [] y → Tells [] (cond b x y)
neither true x y k l = k
neither false x y k l = l

-- a call that names a semaphore, which has to be in use and a process's own
pub semaphore_told : (r q : Reason) (owner : Option Owner) (causes : List Cause) (s : Xinu) (x : CallResult) → Tells causes x
    → Tells (cause r (not (is_some owner)) ∷ cause q (not (is_images owner)) ∷ causes) (cond (is_images owner) x (refused s))
semaphore_told r q None causes s x g = tells refl
semaphore_told r q (Some o) causes s x g = tells (refused_unless q (is_images (Some o)) causes s x (λ _. g)).told

-- the same with one test more
pub semaphore_tested : (r q t : Reason) (owner : Option Owner) (b : Bool) (s : Xinu) (x : CallResult) → Tells [] x
    → Tells (cause r (not (is_some owner)) ∷ cause q (not (is_images owner)) ∷ cause t (not b) ∷ [])
    (cond (is_images owner && b) x (refused s))
semaphore_tested r q t None b s x g = tells refl
semaphore_tested r q t (Some o) b s x g = tells (refused_unless_both q t (is_images (Some o)) b [] s x (λ _ _. g)).told

-- and one that is refused whatever it names
pub semaphore_refused : (r q t : Reason) (a b : Bool) (causes : List Cause) (s : Xinu)
    → Tells (cause r a ∷ cause q b ∷ cause t true ∷ causes) (refused s)
semaphore_refused r q t true b causes s = tells refl
semaphore_refused r q t false true causes s = tells refl
semaphore_refused r q t false false causes s = tells refl
