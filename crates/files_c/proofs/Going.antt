-- A call goes on from block to block, and then has its reply.
use Rattle.std.proofs.Common.{false, is_some, ◌≡◌, ℕ, ℤ, List, Option, Some, None, refl, sym, subst}
use Rattle.std.specs.Prelude.{IsSome}
use Rattle.std.proofs.lemmas.Bool.{false≢true}
use Rattle.local_files.proofs.Freeing.{goes_from}
use Rattle.local_files.specs.Hands.{system}
use Rattle.local_files.specs.Standing.{GoesTo, HasEffect, Stands, call_bytes, gathered, reply_in, taken_in, wanted, wanted_in}
use Rattle.local_files.specs.declared.BlockWork.{BlockWork}
use Rattle.local_files.specs.declared.FileCall.{FileCall}
use Rattle.local_files.specs.declared.Files.{Files}
use Rattle.local_files.specs.declared.Phase.{Phase}
use Rattle.local_files.specs.declared.Phase.TheVariants.{Idle, Done, Wants}

-- a call that waits for a block is as it began
pub waits : (p : Phase) (call : FileCall) (bytes : List ℕ) (old new : Files) (base disk : List ℕ) → IsSome (wanted_in p new)
    → GoesTo p call bytes old new base disk
    → Stands new base disk × (new.call ≡ call) × (call_bytes new ≡ bytes) × (system new base ≡ system old base)
waits Idle call bytes old new base disk some g = absurd (false≢true some)
waits (Done r) call bytes old new base disk some g = absurd (false≢true some)
waits (Wants purpose) call bytes old new base disk some g = (g.0, g.1, g.2, g.3)

-- a block more is served
pub goes_on : (call : FileCall) (bytes : List ℕ) (first old new : Files) (base disk disk' : List ℕ) → IsSome (wanted old)
    → GoesTo old.phase call bytes first old base disk → GoesTo new.phase old.call (call_bytes old) old new base disk'
    → GoesTo new.phase call bytes first new base disk'
goes_on call bytes first old new base disk disk' some before after =
    let w = waits old.phase call bytes first old base disk some before in
    goes_from new.phase call bytes old first new base disk' w.3
    (subst (λ (b : List ℕ). GoesTo new.phase call b old new base disk') w.2
    (subst (λ (c : FileCall). GoesTo new.phase c (call_bytes old) old new base disk') w.1 after))

-- What holds of a call that wants no block: it has a reply, and, once that is taken, its effect.
pub record HasReply (p : Phase) (call : FileCall) (bytes : List ℕ) (old new : Files) (base disk : List ℕ) : Type 0 where
  pub reply : ℤ
  pub known : reply_in p ≡ Some reply
  pub effect : HasEffect call bytes (system old base) reply (gathered (taken_in p new)) (system (taken_in p new) disk)
  pub stands : Stands (taken_in p new) disk disk
  pub idle : (taken_in p new).phase ≡ Idle

pub replied : (p : Phase) (call : FileCall) (bytes : List ℕ) (old new : Files) (base disk : List ℕ) → wanted_in p new ≡ None
    → GoesTo p call bytes old new base disk → HasReply p call bytes old new base disk
replied Idle call bytes old new base disk none g = absurd g
replied (Done r) call bytes old new base disk none g =
    record {
      reply = r;
      known = refl;
      effect = g.0;
      stands = record { standing = g.1.standing; hand = refl };
      idle = refl;
    }
replied (Wants purpose) call bytes old new base disk none g = absurd (cc (none))

-- nothing is wanted
pub nothing : (o : Option BlockWork) → is_some o ≡ false → o ≡ None
nothing None e = refl
nothing (Some w) e = absurd (false≢true (sym e))

-- the reply that was taken is the one that is known
pub same_reply : (a b : ℤ) → ◌≡◌ {A = Option ℤ} (Some a) (Some b) → a ≡ b
same_reply a b e = cc e
