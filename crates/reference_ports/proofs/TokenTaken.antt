-- What a caller that took its token leaves behind.
use Rattle.std.proofs.Common.{◌≡◌, ℕ, zero, suc, refl, sym, ap}
use Rattle.xinu_base.specs.declared.processes.Rest.{Rest}
use Rattle.xinu_model.specs.Machine.{Xinu, CallResult, Silent, start}
use Rattle.xinu_model.specs.Semaphores.Counts.{with_tokens}
use Rattle.xinu_model.specs.Semaphores.Waiting.{await, take_token}
use Rattle.xinu_model.specs.Tables.{semaphore_at}

-- From s to u one of the tokens of a semaphore was taken.
pub record IsTaken (sem : ℕ) (s u : Xinu) : Type 0 where
  pub left : ℕ
  pub some : (semaphore_at s.tables sem).tokens ≡ suc left
  pub is : u ≡ record s { tables = with_tokens sem left s.tables }

-- whoever goes on whatever follows took a token
pub token_taken : (sem : ℕ) (left : Rest) (s u : Xinu) → ((then_ : Xinu → CallResult) → await sem left then_ s ≡ then_ u) → IsTaken sem s u
token_taken sem left s u h = by_tokens (semaphore_at s.tables sem).tokens refl h
  where
    done : Xinu → CallResult
    done x = record { call = start x; answer = Silent }

    by_tokens : (n : ℕ) → (semaphore_at s.tables sem).tokens ≡ n → ((then_ : Xinu → CallResult) → take_token n sem left then_ s ≡ then_ u)
        → IsTaken sem s u
    by_tokens zero e h = (let w = ap (λ (r : CallResult). r.answer) (h done) in absurd (cc))
    by_tokens (suc n) e h = record { left = n; some = e; is = sym (ap (λ (r : CallResult). r.call.state) (h done)) }
