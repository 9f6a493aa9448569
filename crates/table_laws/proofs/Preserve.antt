-- What holds of a call before its event is closed, and what the calls have in common.
pub mod Tokens
use Rattle.std.proofs.Common.{◌≡◌, ◌≢◌, ℕ, zero, suc, ◌<◌, Bool, cond, refl, sym, subst, ◌∙◌, true, false, inl, Option, Some, None, ℤ}
use Rattle.std.proofs.lemmas.Bool.{cond_both}
use Rattle.xinu_base.specs.declared.processes.Rest.{Rest}
use Rattle.xinu_base.specs.declared.processes.Rest.TheVariants as rest
use Rattle.xinu_base.specs.declared.processes.State.{State}
use Rattle.xinu_base.specs.declared.processes.State.TheVariants.{Free, Waiting}
use Rattle.xinu_base.specs.declared.semaphores.Owner.{Owner}
use Rattle.xinu_base.specs.declared.semaphores.Owner.TheVariants as owner
use Rattle.table_laws.specs.Moves.{CanMove, FitsPlace, IsPlaceOf}
use Rattle.xinu_model.specs.Machine.{Xinu, CallResult, refused, blocked, goes_on}
use Rattle.table_laws.specs.Preserve.{IsPreserved, MayCall}
use Rattle.xinu_model.specs.Semaphores.Counts.{with_tokens}
use Rattle.xinu_model.specs.Semaphores.Waiting.{take_token, await}
use Rattle.xinu_model.specs.Semaphores.Calls.{answers}
use Rattle.xinu_model.specs.Sound.Tables.{HoldsFor, FitsMessage, FitsDevice, FitsOwner, IsForPort, IsSoundTables}
use Rattle.xinu_model.specs.Tables.{Tables, process_at, message_at, semaphore_at, Place, Nowhere, InSemaphore}
use Rattle.table_laws.proofs.Tables.Changes.{sound_token_taken}
use Rattle.table_laws.proofs.Tables.MoveTo.{within_table, state_move_same, inside_move}

-- a call that any process but the null process may make
abbrev pub Preserves : (Xinu → CallResult) → Type 0
Preserves effect = (s : Xinu) → MayCall s → IsPreserved (effect s)

-- the current process has a number of the table
pub current_within : (t : Tables) → IsSoundTables t → t.current < 64
current_within t k = let e = k.runs in within_table t t.current k.inside.processes (λ f. cc)

-- What is answered if nothing is changed.
pub answers_preserves : (value : ℤ) → Preserves (answers value)
answers_preserves value s c = record { tables = c.tables; harts = c.harts; released = tt }

-- A refusal changes nothing.
pub refused_preserves : Preserves refused
refused_preserves s c = record { tables = c.tables; harts = c.harts; released = tt }

-- either of two ways to go on
pub either_preserves : (b : Bool) (x y : CallResult) → (b ≡ true → IsPreserved x) → (b ≡ false → IsPreserved y) → IsPreserved (cond b x y)
either_preserves b x y f g = cond_both b x y IsPreserved f g

-- The caller goes to a place that fits its new state and what is left of its call.
pub blocked_preserves : (state : State) (left : Rest) (place : Place) (s : Xinu) → MayCall s → state ≢ Free → IsPlaceOf state place
    → FitsPlace s.tables (record (process_at s.tables s.tables.current) { state = state; rest = left }) place
    → FitsMessage state left (message_at s.tables s.tables.current) → IsPreserved (blocked state left place s)
blocked_preserves state left place s c alive place_of fits slot =
    let t = s.tables in
    let x = record (process_at t t.current) { state = state; rest = left } in
    let k : CanMove t t.current x (message_at t t.current) place = record {
      within = current_within t c.tables;
      place_of = place_of;
      if_current = λ _. refl;
      if_null = λ e. absurd (c.not_null e);
      fits = fits;
      slot = slot;
      if_free = λ e. absurd (alive e);
    } in
    record { tables = inside_move t t.current x (message_at t t.current) place c.tables.inside k; harts = c.harts; released = tt }

-- The current process goes on with any message, and nothing is left of its call.
pub sound_goes_on : (message : Option ℕ) (s : Xinu) → IsSoundTables s.tables → IsSoundTables (goes_on message s).tables
sound_goes_on message s k =
    let t = s.tables in
    let x = record (process_at t t.current) { rest = rest.Nothing } in
    let w = current_within t k in
    let c : CanMove t t.current x message Nowhere = record {
      within = w;
      place_of = subst (λ y. IsPlaceOf y Nowhere) (sym k.runs) (refl, refl, refl);
      if_current = λ _. refl;
      if_null = λ e. (inl k.runs, refl);
      fits = tt;
      slot = subst (λ y. FitsMessage y rest.Nothing message) (sym k.runs) tt;
      if_free = λ e. let f = sym k.runs ∙ e in absurd (cc);
    } in
    record { inside = inside_move t t.current x message Nowhere k.inside c; runs = state_move_same t t.current x message Nowhere k.inside.processes w ∙ k.runs }

-- It may go on with its call.
pub goes_on_may_call : (message : Option ℕ) (s : Xinu) → MayCall s → MayCall (goes_on message s)
goes_on_may_call message s c = record { tables = sound_goes_on message s c.tables; harts = c.harts; not_null = c.not_null }

-- the same with other tables, in which the same process is current
pub tables_may_call : (s : Xinu) (t : Tables) → MayCall s → IsSoundTables t → t.current ≡ s.tables.current
    → MayCall (record s { tables = t })
tables_may_call s t c k e = record { tables = k; harts = c.harts; not_null = λ f. c.not_null (sym e ∙ f) }

-- the call of one who may wait on a semaphore is no receive
pub waits_hold : (sem : ℕ) (by : Option Owner) (left : Rest) (message : Option ℕ) → FitsOwner sem by left → HoldsFor left message
waits_hold sem None left message f = absurd f
waits_hold sem (Some owner.Image) left message f = subst (λ k. HoldsFor k message) (sym f) tt
waits_hold sem (Some (owner.Pool i)) left message f = subst (λ k. HoldsFor k message) (sym f) tt
waits_hold sem (Some (owner.Port q)) left message f = of_port left f
  where
    of_port : (k : Rest) → IsForPort q sem k → HoldsFor k message
    of_port (rest.PtSend ticket m) g = tt
    of_port (rest.PtRecv ticket) g = tt
    of_port _ g = absurd g
waits_hold sem (Some owner.Device) left message f = of_device sem left f
  where
    of_device : (r : ℕ) (k : Rest) → FitsDevice r k → HoldsFor k message
    of_device zero rest.Receive g = cc
    of_device (suc zero) rest.Receive g = cc
    of_device (suc (suc r)) rest.Receive g = cc
    of_device r _ g = tt

-- one who waits if these are the tokens
take_token_preserves : (tokens sem : ℕ) (left : Rest) (then_ : Xinu → CallResult) (s : Xinu) → tokens ≡ (semaphore_at s.tables sem).tokens
    → MayCall s → sem < 128 → FitsOwner sem (semaphore_at s.tables sem).owner left
    → ((n : ℕ) → (semaphore_at s.tables sem).tokens ≡ suc n → MayCall (record s { tables = with_tokens sem n s.tables }) → IsPreserved (then_ (record s { tables = with_tokens sem n s.tables })))
    → IsPreserved (take_token tokens sem left then_ s)
take_token_preserves zero sem left then_ s e c w fits go =
    let t = s.tables in
    blocked_preserves Waiting left (InSemaphore sem) s c (λ f. cc) (refl, refl, refl) (w, sym e, fits)
    (waits_hold sem (semaphore_at t sem).owner left (message_at t t.current) fits)
take_token_preserves (suc n) sem left then_ s e c w fits go =
    go n (sym e) (tables_may_call s (with_tokens sem n s.tables) c (sound_token_taken s.tables sem n c.tables w (sym e)) refl)

-- The caller takes a token and goes on, or waits for one, with what the semaphore's owner calls for left of its call.
pub await_preserves : (sem : ℕ) (left : Rest) (then_ : Xinu → CallResult) (s : Xinu) → MayCall s → sem < 128
    → FitsOwner sem (semaphore_at s.tables sem).owner left
    → ((n : ℕ) → (semaphore_at s.tables sem).tokens ≡ suc n → MayCall (record s { tables = with_tokens sem n s.tables }) → IsPreserved (then_ (record s { tables = with_tokens sem n s.tables })))
    → IsPreserved (await sem left then_ s)
await_preserves sem left then_ s c w fits go = take_token_preserves (semaphore_at s.tables sem).tokens sem left then_ s refl c w fits go
