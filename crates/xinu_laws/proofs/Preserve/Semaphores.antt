-- The calls on semaphores keep what holds of the tables.
use Rattle.std.proofs.Common.{◌≡◌, ◌≢◌, ℕ, ◌+◌, ◌<◌, ◌≤◌, true, ◌&&◌, List, [], ◌∷◌, take, refl, sym, ap, subst, ◌∙◌, inr, Option, Some, None, ℤ, pos, negsuc}
use Rattle.std.specs.Prelude.{int_lt, ◌+ℤ◌, is_some, not}
use Rattle.std.proofs.lemmas.Bool.{and_parts}
use Rattle.xinu_base.specs.Constants.{OK, SYSERR}
use Rattle.xinu_base.specs.declared.processes.Rest.TheVariants.{Nothing}
use Rattle.xinu_base.specs.declared.semaphores.Owner.{Owner}
use Rattle.xinu_base.specs.declared.semaphores.Owner.TheVariants.{Image, Pool, Port, Device}
use Rattle.xinu_model.specs.Machine.{Xinu, CallState, start}
use Rattle.xinu_model.specs.Semaphores.Counts.{most_tokens, count_of, with_semaphore, with_tokens, make_semaphore, is_images, is_good, free_semaphore}
use Rattle.xinu_model.specs.Semaphores.Waiting.{emptied, signal_first, signalled}
use Rattle.xinu_model.specs.Semaphores.Calls.{answers, made_semaphore, semcreate, semdelete, semreset, semcount, wait, signal, signaln}
use Rattle.xinu_model.specs.Sound.Tables.{FitsOwner, IsInside, IsSoundTables}
use Rattle.xinu_model.specs.Tables.{no_semaphore, Tables, semaphore_at}
use Rattle.table_laws.proofs.Tables.Found.{free_semaphore_free}
use Rattle.table_laws.proofs.Tables.Changes.{sound_tokens, sound_given_up, sound_made_semaphore, owned_is_no_device}
use Rattle.table_laws.specs.Preserve.{IsPreserved, MayCall}
use Rattle.table_laws.proofs.Preserve.{Preserves, refused_preserves, answers_preserves, either_preserves, await_preserves}
use Rattle.table_laws.proofs.Tables.MoveTo.{semaphore_within}
use Rattle.table_laws.proofs.Tables.Unblock.{unblock_all_ready, emptied_alike, owner_emptied, sound_emptied, emptied_has_no_waiters, sound_signalled, sound_signalled_times}
use Rattle.table_laws.proofs.Lists.Searches.{search_within}
use Rattle.table_laws.proofs.Tables.Harts.{harts_same}
use Rattle.table_laws.proofs.Tables.Alive.{alive_signalled, alive_signalled_times, alive_emptied}

-- whose semaphore a process may name
images_of : (by : Option Owner) → is_images by ≡ true → by ≡ Some Image
images_of (Some Image) h = refl
images_of (Some (Pool i)) h = cc
images_of (Some (Port q)) h = cc
images_of (Some Device) h = cc
images_of None h = cc

-- what is known of a semaphore that a process may name
pub record IsGood (t : Tables) (sem : ℕ) : Type 0 where
  pub owner : (semaphore_at t sem).owner ≡ Some Image
  pub within : sem < 128
  pub no_device : 4 ≤ sem

-- it is one that a process made, and so it is in use and not the kernel's
pub good_semaphore : (t : Tables) (sem : ℕ) → IsInside t → is_good sem t ≡ true → IsGood t sem
good_semaphore t sem o h =
    let e = images_of (semaphore_at t sem).owner h in
    record { owner = e; within = semaphore_within t sem o.semaphores (λ f. cc); no_device = owned_is_no_device t sem o (λ f. cc) }

-- A semaphore is made if a search found a number.
pub sound_found_semaphore : (t : Tables) (sem tokens : ℕ) (by : Owner) → IsSoundTables t → free_semaphore t ≡ Some sem → by ≢ Device
    → IsSoundTables (make_semaphore sem by tokens t)
sound_found_semaphore t sem tokens by k e n =
    sound_made_semaphore t sem tokens by k (search_within (λ r. not (is_some (semaphore_at t r).owner)) 128 (t.last_semaphore + 1) sem e)
    (free_semaphore_free t sem e) n

-- a semaphore that is made if one was found
made_semaphore_preserves : (n : ℕ) (found : Option ℕ) (x : Xinu) → free_semaphore x.tables ≡ found → MayCall x
    → IsPreserved (made_semaphore n found x)
made_semaphore_preserves n None x e c = refused_preserves x c
made_semaphore_preserves n (Some s) x e c = record { tables = sound_found_semaphore x.tables s n Image c.tables e (λ f. cc); harts = c.harts; released = tt }

-- Call 14.
pub semcreate_preserves : (count : ℤ) → Preserves (semcreate count)
semcreate_preserves (negsuc n) = refused_preserves
semcreate_preserves (pos n) = λ x c. made_semaphore_preserves n (free_semaphore x.tables) x refl c

-- who is released changes no registers
pub harts_emptied : (sem : ℕ) (d : CallState) → (emptied sem d).state.harts ≡ d.state.harts
harts_emptied sem d = ap (λ (s : Xinu). s.harts) (unblock_all_ready (semaphore_at d.state.tables sem).waiters d)

-- Call 15.
pub semdelete_preserves : (sem : ℕ) → Preserves (semdelete sem)
semdelete_preserves sem x c = either_preserves (is_good sem x.tables) _ _
    (λ b. let g = good_semaphore x.tables sem c.tables.inside b in
    let d = emptied sem (start x) in
    let same = emptied_alike SYSERR sem (start x) in
    record {
      tables = subst (λ (u : Xinu). IsSoundTables (with_semaphore sem no_semaphore u.tables)) (sym same)
          (sound_given_up d.state.tables sem (sound_emptied sem (start x) c.tables) g.within g.no_device (emptied_has_no_waiters sem (start x)));
      harts = harts_same x.harts _ (ap (λ (u : Xinu). u.harts) same ∙ harts_emptied sem (start x)) c.harts;
      released = alive_emptied SYSERR sem (start x) c.tables.inside tt;
    })
    (λ _. refused_preserves x c)

-- Call 16.
pub semreset_preserves : (sem : ℕ) (count : ℤ) → Preserves (semreset sem count)
semreset_preserves sem (negsuc n) = refused_preserves
semreset_preserves sem (pos n) = λ x c. either_preserves (is_good sem x.tables) _ _
    (λ b. let g = good_semaphore x.tables sem c.tables.inside b in
    let d = emptied sem (start x) in
    record {
      tables = sound_tokens d.state.tables sem n (sound_emptied sem (start x) c.tables) g.within (λ f. let o = owner_emptied sem sem (start x) in let e = g.owner in cc) (inr (emptied_has_no_waiters sem (start x)));
      harts = harts_same x.harts _ (harts_emptied sem (start x)) c.harts;
      released = alive_emptied OK sem (start x) c.tables.inside tt;
    })
    (λ _. refused_preserves x c)

-- Call 17.
pub semcount_preserves : (sem : ℕ) → Preserves (semcount sem)
semcount_preserves sem x c =
    either_preserves (is_good sem x.tables) _ _ (λ _. answers_preserves (count_of (semaphore_at x.tables sem)) x c)
    (λ _. refused_preserves x c)

-- Call 18.
pub wait_preserves : (sem : ℕ) → Preserves (wait sem)
wait_preserves sem x c = either_preserves (is_good sem x.tables) _ _
    (λ b. let g = good_semaphore x.tables sem c.tables.inside b in
    await_preserves sem Nothing (answers (pos 0)) x c g.within (subst (λ k. FitsOwner sem k Nothing) (sym g.owner) refl)
    (λ n e k. answers_preserves (pos 0) (record x { tables = with_tokens sem n x.tables }) k))
    (λ _. refused_preserves x c)

-- a signal changes no registers
pub harts_signalled : (sem : ℕ) (d : CallState) → (signalled sem d).state.harts ≡ d.state.harts
harts_signalled sem d = by_waiters (semaphore_at d.state.tables sem).waiters
  where
    by_waiters : (l : List ℕ) → (signal_first sem l d).state.harts ≡ d.state.harts
    by_waiters [] = refl
    by_waiters (p ∷ ps) = refl

-- Call 19.
pub signal_preserves : (sem : ℕ) → Preserves (signal sem)
signal_preserves sem x c =
    let less = int_lt (count_of (semaphore_at x.tables sem)) most_tokens in
    either_preserves (is_good sem x.tables && less) _ _
    (λ b. let g = good_semaphore x.tables sem c.tables.inside (and_parts (is_good sem x.tables) less b).0 in
    record { tables = sound_signalled sem (start x) c.tables g.within (λ f. let e = g.owner in cc); harts = harts_same x.harts _ (harts_signalled sem (start x)) c.harts; released = alive_signalled sem (start x) c.tables.inside tt })
    (λ _. refused_preserves x c)

-- Call 20.
pub signaln_preserves : (sem : ℕ) (n : ℤ) → Preserves (signaln sem n)
signaln_preserves sem (negsuc n) = refused_preserves
signaln_preserves sem (pos n) = λ x c.
    let most = not (int_lt most_tokens (count_of (semaphore_at x.tables sem) +ℤ pos n)) in
    either_preserves (is_good sem x.tables && most) _ _
    (λ b. let g = good_semaphore x.tables sem c.tables.inside (and_parts (is_good sem x.tables) most b).0 in
    record {
      tables = sound_signalled_times sem n (start x) c.tables g.within (λ f. let e = g.owner in cc);
      harts = harts_same x.harts _ (ap (λ (y : Xinu). y.harts) (unblock_all_ready (take n (semaphore_at x.tables sem).waiters) (start x))) c.harts;
      released = alive_signalled_times sem n (start x) c.tables.inside tt;
    })
    (λ _. refused_preserves x c)
