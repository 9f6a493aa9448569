-- Who waits for the disks and who has a reply, after a process moved.
use Rattle.std.proofs.Common.{◌≡◌, ◌≢◌, ℕ, suc, ◌<◌, ◌==◌, false, cond, List, [], ◌∷◌, ◌++◌, length, Option, Some, None, refl, sym, ap, subst, ◌∙◌, arith, ⊎_elim, get_or-set_same, get_or-set_other, ℤ}
use Rattle.std.proofs.lemmas.Bool.{and_right, eq-eqb}
use Rattle.xinu_base.specs.declared.processes.Process.{Process}
use Rattle.xinu_base.specs.declared.processes.Rest.TheVariants.{Disk}
use Rattle.xinu_base.specs.declared.processes.State.{State}
use Rattle.xinu_base.specs.declared.processes.State.TheVariants.{Free, Current, Ready, Receiving, Sleeping, Suspended, Waiting, Timed}
use Rattle.table_laws.proofs.Tables.Signals.{others_wait}
use Rattle.table_laws.specs.Moves.{CanMove}
use Rattle.xinu_laws.specs.Touches.{Reach, Touches}
use Rattle.xinu_model.specs.Machine.{Xinu}
use Rattle.xinu_model.specs.Sound.Disks.{HasReply}
use Rattle.xinu_model.specs.Sound.Pools.{is_waiting}
use Rattle.xinu_model.specs.Sound.Tables.{count_in, waiting_places, FitsOwner, IsInside, IsSoundTables}
use Rattle.xinu_model.specs.Tables.{Semaphore, no_semaphore, Tables, process_at, state_at, message_at, semaphore_at, waits_without, numbers_without, Place, InReady, InSemaphore, move_to}
use Rattle.table_laws.proofs.Frame.MoveTo.{tokens_move}
use Rattle.table_laws.proofs.Lists.Counts.{first_is_counted, get_or-le-total, two-le-total, filter_absent}
use Rattle.xinu_laws.proofs.RawDisks.Framed.{AreDisks}
use Rattle.table_laws.proofs.Tables.MoveTo.{by_number, process_move_same, process_move_other, within_table}
use Rattle.table_laws.proofs.Tables.Places.{length-waits_without, semaphore_at_without}
use Rattle.table_laws.proofs.Tables.Scheduling.{idle_differs, sound_move}
use Rattle.table_laws.proofs.Tables.Unblock.{waiter_waits}
use Rattle.xinu_laws.proofs.Touches.Moves.{touches_unasked}

-- what holds of the disks of a state
abbrev pub HasDisks : Xinu → Type 0
HasDisks s = AreDisks s.tables s.parts.devices

-- who is in a call on a disk has a reply exactly if it doesn't wait
abbrev pub HaveReplies : Tables → Type 0
HaveReplies t = (p : ℕ) → HasReply (is_waiting (state_at t p)) (process_at t p).rest

-- Replies are had as soon as they should be if a process moves of which that holds.
pub replies_move : (t : Tables) (q : ℕ) (x : Process) (m : Option ℕ) (place : Place) → length t.processes ≡ 64 → q < 64
    → HasReply (is_waiting x.state) x.rest → HaveReplies t → HaveReplies (move_to q x m place t)
replies_move t q x m place many w own all p =
    by_number p q (λ r. HasReply (is_waiting (state_at (move_to q x m place t) r)) (process_at (move_to q x m place t) r).rest)
    (subst (λ (y : Process). HasReply (is_waiting y.state) y.rest) (sym (process_move_same t q x m place many w)) own)
    (λ n. subst (λ (y : Process). HasReply (is_waiting y.state) y.rest) (sym (process_move_other t p q x m place n)) (all p))

-- who doesn't wait has no place among waiters
no_places : (s : State) → is_waiting s ≡ false → waiting_places s ≡ 0
no_places Waiting e = cc
no_places Free e = refl
no_places Current e = refl
no_places Ready e = refl
no_places Receiving e = refl
no_places Sleeping e = refl
no_places Suspended e = refl
no_places Timed e = refl

not_among : (t : Tables) (p sem : ℕ) → IsInside t → is_waiting (state_at t p) ≡ false → count_in p (semaphore_at t sem).waiters ≡ 0
not_among t p sem o e =
    let a = o.waiting p in
    let b = no_places (state_at t p) e in
    let c = get_or-le-total (λ (x : Semaphore). count_in p x.waiters) t.semaphores sem no_semaphore refl in
    omega arith

-- A caller that waits is the last waiter of its semaphore,
pub waiter_added : (t : Tables) (q : ℕ) (x : Process) (m : Option ℕ) (sem : ℕ) → sem < 128 → IsInside t → is_waiting (state_at t q) ≡ false
    → (semaphore_at (move_to q x m (InSemaphore sem) t) sem).waiters ≡ (semaphore_at t sem).waiters ++ q ∷ []
waiter_added t q x m sem few o idle =
    let l = waits_without q t.semaphores in
    let n = length-waits_without q t.semaphores in
    let k = o.semaphores in
    ap (λ (y : Semaphore). y.waiters) (get_or-set_same l sem _ no_semaphore (omega arith))
    ∙ ap (λ (y : Semaphore). y.waiters ++ q ∷ []) (semaphore_at_without q sem t.semaphores)
    ∙ ap (λ ws. ws ++ q ∷ []) (filter_absent (λ w. w == q) (semaphore_at t sem).waiters (not_among t q sem o idle))

-- and every other has the waiters that it had.
pub waiters_elsewhere : (t : Tables) (q : ℕ) (x : Process) (m : Option ℕ) (sem other : ℕ) → other ≢ sem → IsInside t
    → is_waiting (state_at t q) ≡ false → (semaphore_at (move_to q x m (InSemaphore sem) t) other).waiters ≡ (semaphore_at t other).waiters
waiters_elsewhere t q x m sem other n o idle =
    ap (λ (y : Semaphore). y.waiters) (get_or-set_other (waits_without q t.semaphores) sem other _ no_semaphore n)
    ∙ ap (λ (y : Semaphore). y.waiters) (semaphore_at_without q other t.semaphores)
    ∙ filter_absent (λ w. w == q) (semaphore_at t other).waiters (not_among t q other o idle)

-- From t to u the first waiter of a disk's semaphore has its reply, and those after it still wait.
pub record Releases (sem : ℕ) (l : List ℕ) (t u : Tables) : Type 0 where
  pub tables : IsSoundTables u
  pub waiters : (semaphore_at u sem).waiters ≡ l
  pub others : (other : ℕ) → other ≢ sem → (semaphore_at u other).waiters ≡ (semaphore_at t other).waiters
  pub tokens : (other : ℕ) → (semaphore_at u other).tokens ≡ (semaphore_at t other).tokens
  pub replies : HaveReplies t → HaveReplies u

-- p is ready, with its reply
abbrev pub replied : ℕ → ℤ → Tables → Tables
replied p reply t = move_to p (record (process_at t p) { state = Ready; rest = Disk (Some reply) }) (message_at t p) InReady t

-- the null process doesn't wait
pub waits_not_null : (t : Tables) (p : ℕ) → IsInside t → state_at t p ≡ Waiting → p ≢ 0
waits_not_null t p o w e =
    let f : state_at t 0 ≡ Waiting = sym (ap (state_at t) e) ∙ w in
    ⊎_elim (λ (g : state_at t 0 ≡ Current). let h = sym f ∙ g in cc) (λ (g : state_at t 0 ≡ Ready). let h = sym f ∙ g in cc) o.null

module _ (k p : ℕ) (reply : ℤ) (l : List ℕ) (t : Tables) (few : suc (suc k) < 4) (sound : IsSoundTables t)
    (first : (semaphore_at t (suc (suc k))).waiters ≡ p ∷ l) where
  is_counted : 0 < count_in p (semaphore_at t (suc (suc k))).waiters
  is_counted = subst (λ ws. 0 < count_in p ws) (sym first) (first_is_counted p l)

  -- the first waiter waits, in a call on a disk without a reply
  pub first_waits : state_at t p ≡ Waiting
  first_waits = waiter_waits t (suc (suc k)) p sound.inside is_counted

  pub first_asks : (process_at t p).rest ≡ Disk None
  first_asks =
      subst (λ w. FitsOwner (suc (suc k)) w (process_at t p).rest) (sound.inside.devices (suc (suc k)) few)
      (sound.inside.rests (suc (suc k)) p is_counted)

  -- it is none of the others,
  pub first_once : count_in p l ≡ 0
  first_once =
      let a = sound.inside.waiting p in
      let b : waiting_places (state_at t p) ≡ 1 = ap waiting_places first_waits in
      let c = get_or-le-total (λ (x : Semaphore). count_in p x.waiters) t.semaphores (suc (suc k)) no_semaphore refl in
      let f : count_in p (semaphore_at t (suc (suc k))).waiters ≡ suc (count_in p l) =
      ap (count_in p) first ∙ ap (λ b. cond b (suc (count_in p l)) (count_in p l)) (eq-eqb p p refl) in
      omega arith

  -- and waits nowhere else
  first_only : (other : ℕ) → other ≢ suc (suc k) → count_in p (semaphore_at t other).waiters ≡ 0
  first_only other n =
      let a = sound.inside.waiting p in
      let b : waiting_places (state_at t p) ≡ 1 = ap waiting_places first_waits in
      let c = two-le-total (λ (x : Semaphore). count_in p x.waiters) t.semaphores other (suc (suc k)) no_semaphore refl n in
      let f = is_counted in
      omega arith

  pub first_within : p < 64
  first_within = within_table t p sound.inside.processes (λ e. let g = sym first_waits ∙ e in cc)

  -- The first waiter gets its reply.
  pub first_replied : Releases (suc (suc k)) l t (replied p reply t)
  first_replied =
      let y : Process = record (process_at t p) { state = Ready; rest = Disk (Some reply) } in
      let m = message_at t p in
      let can : CanMove t p y m InReady = record {
        within = first_within;
        place_of = (refl, refl, refl);
        if_current = λ e. cc;
        if_null = λ e. absurd (waits_not_null t p sound.inside first_waits e);
        fits = tt;
        slot = tt;
        if_free = λ e. absurd (cc);
      } in
      record {
        tables = sound_move t p y m InReady sound (idle_differs t p t.current (λ e. let g = sym first_waits ∙ e in cc) sound.runs) can;
        waiters = ap (λ (z : Semaphore). z.waiters) (semaphore_at_without p (suc (suc k)) t.semaphores) ∙ ap (numbers_without p) first ∙ others_wait p l first_once;
        others = λ other n. ap (λ (z : Semaphore). z.waiters) (semaphore_at_without p other t.semaphores) ∙ filter_absent (λ x. x == p) (semaphore_at t other).waiters (first_only other n);
        tokens = λ other. tokens_move t p y m InReady other;
        replies = replies_move t p y m InReady sound.inside.processes first_within refl;
      }

-- That touches no call that is left alone, unless calls on disks are.
pub replied_touches : {f : Reach} → ((r : Option ℤ) → f.asks (Disk r) ≡ false) → (k p : ℕ) (reply : ℤ) (l : List ℕ) (s : Xinu)
    → suc (suc k) < 4 → IsSoundTables s.tables → (semaphore_at s.tables (suc (suc k))).waiters ≡ p ∷ l
    → Touches f s (record s { tables = replied p reply s.tables })
replied_touches {f} asks k p reply l s few sound first =
    let t = s.tables in
    touches_unasked s p (record (process_at t p) { state = Ready; rest = Disk (Some reply) }) (message_at t p) InReady tt
    (asks (Some reply)) refl (λ e. absurd (cc))
    (and_right (is_waiting (state_at t p)) (f.asks (process_at t p).rest)
    (ap f.asks (first_asks k p reply l t few sound first) ∙ asks None))
