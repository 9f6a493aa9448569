-- A message that is sent and the death of a process keep what holds of the tables.
use Rattle.std.proofs.Common.{◌≡◌, ◌≢◌, ℕ, ◌<◌, true, false, refl, sym, ap, subst, ◌∙◌, Option, Some, None, rules}
use Rattle.std.specs.Prelude.{slice_set, not, is_some}
use Rattle.std.proofs.lemmas.Bool.{cond_both, and_parts, not-true}
use Rattle.xinu_base.specs.declared.processes.Rest.{Rest}
use Rattle.xinu_base.specs.declared.processes.Rest.TheVariants as rest
use Rattle.xinu_base.specs.declared.processes.State.{State}
use Rattle.xinu_base.specs.declared.processes.State.TheVariants.{Free, Current, Ready, Receiving, Sleeping, Suspended, Waiting, Timed}
use Rattle.table_laws.specs.Moves.{CanMove}
use Rattle.table_laws.specs.Preserve.{AreAlive}
use Rattle.xinu_model.specs.Machine.{Xinu, no_hart, CallState, start, with_tables}
use Rattle.xinu_model.specs.Messages.{listens, can_get, delivered, sent}
use Rattle.xinu_model.specs.Process.Scheduling.{in_state}
use Rattle.xinu_model.specs.Process.Death.{killed}
use Rattle.xinu_model.specs.Sound.Tables.{HoldsFor, FitsMessage, IsInside, IsSoundTables}
use Rattle.xinu_model.specs.Tables.{no_process, Tables, process_at, state_at, message_at, is_free, move_to, Nowhere, InReady}
use Rattle.table_laws.proofs.Tables.Changes.{inside_message}
use Rattle.table_laws.proofs.Tables.Scheduling.{can_move_ready, idle_differs, sound_move}
use Rattle.table_laws.proofs.Tables.MoveTo.{within_table, inside_move}
use Rattle.table_laws.proofs.Tables.Harts.{harts_set, harts_same}
use Rattle.xinu_model.specs.Sound.State.{AreHarts}

-- and doesn't run
pub listens_idle : (s : State) → listens s ≡ true → s ≢ Current
listens_idle s h e = let f = ap listens e in cc

-- who doesn't isn't
pub not_free : (s : State) → is_free s ≡ false → s ≢ Free
not_free s h e = let f = ap is_free e in cc

-- who can get a message isn't free
pub can_get_alive : (t : Tables) (p : ℕ) → can_get p t ≡ true → state_at t p ≢ Free
can_get_alive t p h =
    not_free (state_at t p)
    (not-true (is_free (state_at t p)) (and_parts (not (is_free (state_at t p))) (not (is_some (message_at t p))) h).0)

-- a message is held if a call is to answer one
pub holds_some : (left : Rest) (m : ℕ) → HoldsFor left (Some m)
holds_some rest.Receive m = search rules
holds_some _ m = tt

-- any message fits if none is waited for
pub fits_some : (s : State) (left : Rest) (m : ℕ) (old : Option ℕ) → listens s ≡ false → FitsMessage s left old
    → FitsMessage s left (Some m)
fits_some Receiving left m old h f = cc
fits_some Timed left m old h f = cc
fits_some Sleeping left m old h f = f
fits_some Free left m old h f = holds_some left m
fits_some Current left m old h f = holds_some left m
fits_some Ready left m old h f = holds_some left m
fits_some Suspended left m old h f = holds_some left m
fits_some Waiting left m old h f = holds_some left m

-- what holds of both forms of a delivery holds of it
by_delivery : (p message : ℕ) (d : CallState) (P : CallState → Type 0)
    → (listens (state_at d.state.tables p) ≡ true → P (record (with_tables (move_to p (in_state Ready (process_at d.state.tables p)) (Some message) InReady d.state.tables) d) { owes_resched = true }))
    → (listens (state_at d.state.tables p) ≡ false → P (with_tables (record d.state.tables { messages = slice_set d.state.tables.messages p (Some message) }) d))
    → P (delivered p message d)
by_delivery p message d P wakeup kept =
    let t = d.state.tables in
    cond_both (listens (state_at t p))
    (record (with_tables (move_to p (in_state Ready (process_at t p)) (Some message) InReady t) d) { owes_resched = true })
    (with_tables (record t { messages = slice_set t.messages p (Some message) }) d) P wakeup kept

-- A message is delivered to a process that isn't free.
pub inside_delivered : (p message : ℕ) (d : CallState) → IsInside d.state.tables → state_at d.state.tables p ≢ Free
    → IsInside (delivered p message d).state.tables
inside_delivered p message d o alive =
    let t = d.state.tables in
    by_delivery p message d (λ e. IsInside e.state.tables)
    (λ b. inside_move t p (in_state Ready (process_at t p)) (Some message) InReady o
    (can_move_ready t p (Some message) o alive (holds_some (process_at t p).rest message)))
    (λ b. inside_message t p (Some message) o (within_table t p o.processes alive) alive
    (fits_some (state_at t p) (process_at t p).rest message (message_at t p) b (o.slots p)))

-- The current process goes on after that.
pub sound_delivered : (p message : ℕ) (d : CallState) → IsSoundTables d.state.tables → state_at d.state.tables p ≢ Free
    → IsSoundTables (delivered p message d).state.tables
sound_delivered p message d k alive =
    let t = d.state.tables in
    by_delivery p message d (λ e. IsSoundTables e.state.tables)
    (λ b. sound_move t p (in_state Ready (process_at t p)) (Some message) InReady k
    (idle_differs t p t.current (listens_idle (state_at t p) b) k.runs)
    (can_move_ready t p (Some message) k.inside alive (holds_some (process_at t p).rest message)))
    (λ b. record {
      inside = inside_message t p (Some message) k.inside (within_table t p k.inside.processes alive) alive (fits_some (state_at t p) (process_at t p).rest message (message_at t p) b (k.inside.slots p));
      runs = k.runs;
    })

-- A message is sent, or refused.
pub inside_sent : (p message : ℕ) (d : CallState) → IsInside d.state.tables → IsInside (sent p message d).state.tables
inside_sent p message d o =
    cond_both (can_get p d.state.tables) (delivered p message d) d (λ e. IsInside e.state.tables)
    (λ b. inside_delivered p message d o (can_get_alive d.state.tables p b)) (λ _. o)

-- The current process goes on after that.
pub sound_sent : (p message : ℕ) (d : CallState) → IsSoundTables d.state.tables → IsSoundTables (sent p message d).state.tables
sound_sent p message d k =
    cond_both (can_get p d.state.tables) (delivered p message d) d (λ e. IsSoundTables e.state.tables)
    (λ b. sound_delivered p message d k (can_get_alive d.state.tables p b)) (λ _. k)

-- a delivery changes the tables alone, not who is current, and answers nobody
pub record ChangesTables (d e : CallState) : Type 0 where
  pub state : e.state ≡ record d.state { tables = e.state.tables }
  pub current : e.state.tables.current ≡ d.state.tables.current
  pub released : e.released ≡ d.released

-- A message changes the tables alone.
pub delivered_changes : (p message : ℕ) (d : CallState) → ChangesTables d (delivered p message d)
delivered_changes p message d =
    by_delivery p message d (ChangesTables d) (λ _. record { state = refl; current = refl; released = refl })
    (λ _. record { state = refl; current = refl; released = refl })

-- and so does one that is sent or refused
pub sent_changes : (p message : ℕ) (d : CallState) → ChangesTables d (sent p message d)
sent_changes p message d =
    cond_both (can_get p d.state.tables) (delivered p message d) d (ChangesTables d) (λ _. delivered_changes p message d) (λ _. record { state = refl; current = refl; released = refl })

-- a process that isn't the null process can be taken out
pub can_move_free : (t : Tables) (p : ℕ) → p < 64 → p ≢ 0 → CanMove t p no_process None Nowhere
can_move_free t p w n = record { within = w; place_of = (refl, refl, refl); if_current = λ e. cc; if_null = λ e. absurd (n e); fits = tt; slot = tt; if_free = λ e. (refl, refl) }

-- A process that isn't the null process dies.
pub inside_killed : (p : ℕ) (d : CallState) → IsInside d.state.tables → p < 64 → p ≢ 0 → IsInside (killed p d).state.tables
inside_killed p d o w n =
    let told = sent (process_at d.state.tables p).parent p d in
    inside_move told.state.tables p no_process None Nowhere (inside_sent (process_at d.state.tables p).parent p d o)
    (can_move_free told.state.tables p w n)

-- If it isn't the current one, this one goes on.
pub sound_killed : (p : ℕ) (d : CallState) → IsSoundTables d.state.tables → p < 64 → p ≢ 0 → p ≢ d.state.tables.current
    → IsSoundTables (killed p d).state.tables
sound_killed p d k w n other =
    let parent = (process_at d.state.tables p).parent in
    let told = sent parent p d in
    sound_move told.state.tables p no_process None Nowhere (sound_sent parent p d k) (λ e. other (e ∙ (sent_changes parent p d).current))
    (can_move_free told.state.tables p w n)

-- Each number keeps its registers if a process dies.
pub harts_killed : (p : ℕ) (d : CallState) → AreHarts d.state.harts → AreHarts (killed p d).state.harts
harts_killed p d a =
    let parent = (process_at d.state.tables p).parent in
    harts_set (sent parent p d).state.harts p no_hart refl
    (harts_same d.state.harts _ (ap (λ (s : Xinu). s.harts) (sent_changes parent p d).state) a)

-- A death answers nobody.
pub nobody_answered : (p : ℕ) (s : Xinu) → AreAlive (killed p (start s)).state.tables (killed p (start s)).released
nobody_answered p s =
    subst (AreAlive (killed p (start s)).state.tables) (sym (sent_changes (process_at s.tables p).parent p (start s)).released) tt
