-- The engine over its disk: a call that has no reply waits for a block, and one that has its reply had its effect.
use Rattle.std.proofs.Common.{◌≡◌, ℕ, ◌-◌, ◌<◌, ◌≤◌, List, refl, sym, ap, ◌∙◌, subst, arith, Option, Some, None, ℤ}
use Rattle.std.specs.Prelude.{IsSome, MatchOption}
use Rattle.std.proofs.lemmas.Bool.{false≢true}
use Rattle.file_server.specs.DiskStates.{HeldCall, DiskState, Waits, IsDone}
use Rattle.file_server.specs.FileDisks.{held_for}
use Rattle.local_files.specs.declared.Files.{Files}
use Rattle.local_files.specs.declared.FileCall.{FileCall}
use Rattle.local_files.specs.declared.BlockWork.{BlockWork}
use Rattle.local_files.specs.declared.Phase.{Phase}
use Rattle.local_files.specs.declared.Phase.TheVariants.{Idle, Done, Wants}
use Rattle.xinu_model.specs.Files.Calls as model
use Rattle.xinu_model.specs.Files.Work.{most_turns}
use Rattle.local_files.specs.Bounds.{left}
use Rattle.local_files.specs.Hands.{system}
use Rattle.local_files.specs.Resting.{OnlyReads, WillBeRefused}
use Rattle.xinu_base.specs.Constants.{SYSERR}
use Rattle.local_files.specs.Standing.{Stands, InHand, GoesTo, HasEffect, wanted_in, wanted, call_of, call_bytes, gathered, reply_in, taken_in}

-- what is seen of an engine over a disk
abbrev pub state_of : Files → List ℕ → List ℕ → DiskState
state_of e base disk = record { system = system e base; hand = held_for (wanted e) e base; given = gathered e; image = disk }

-- a call that has no reply is still in hand
pub record IsStill (call : FileCall) (bytes : List ℕ) (old new : Files) (base disk : List ℕ) : Type 0 where
  pub stands : Stands new base disk
  pub call_is : new.call ≡ call
  pub bytes_is : call_bytes new ≡ bytes
  pub system_is : system new base ≡ system old base
  pub busy : IsSome (wanted new)

still : (p : Phase) (call : FileCall) (bytes : List ℕ) (old new : Files) (base disk : List ℕ) → new.phase ≡ p → reply_in p ≡ None
    → GoesTo p call bytes old new base disk → IsStill call bytes old new base disk
still Idle call bytes old new base disk is none g = absurd g
still (Done r) call bytes old new base disk is none g = absurd (cc (none))
still (Wants purpose) call bytes old new base disk is none g =
    let P : Phase → Type 0 = λ p. IsSome (wanted_in p new) in
    record { stands = g.0; call_is = g.1; bytes_is = g.2; system_is = g.3; busy = subst P (sym is) refl }

pub still_stands : (new : Files) (call : FileCall) (bytes : List ℕ) (old : Files) (base disk : List ℕ) → reply_in new.phase ≡ None
    → GoesTo new.phase call bytes old new base disk → Stands new base disk
still_stands new call bytes old base disk none g = (still new.phase call bytes old new base disk refl none g).stands

-- and the engine keeps it, as no answer is taken
pub kept_in : (p : Phase) (e : Files) → reply_in p ≡ None → taken_in p e ≡ e
kept_in Idle e none = refl
kept_in (Done r) e none = absurd (cc (none))
kept_in (Wants purpose) e none = refl

-- one that has its reply had its effect, and the engine is idle once the answer is taken
pub record IsOver (call : FileCall) (bytes : List ℕ) (old new : Files) (reply : ℤ) (base disk : List ℕ) : Type 0 where
  pub effect : HasEffect call bytes (system old base) reply (gathered (taken_in new.phase new)) (system (taken_in new.phase new) disk)
  pub stands : Stands (taken_in new.phase new) disk disk
  pub idle : (taken_in new.phase new).phase ≡ Idle

same_reply : (a b : ℤ) → ◌≡◌ {A = Option ℤ} (Some a) (Some b) → a ≡ b
same_reply a b e = cc e

over : (p : Phase) (call : FileCall) (bytes : List ℕ) (old new : Files) (reply : ℤ) (base disk : List ℕ) → new.phase ≡ p
    → reply_in p ≡ Some reply → GoesTo p call bytes old new base disk → IsOver call bytes old new reply base disk
over Idle call bytes old new reply base disk is some g = absurd g
over (Done r) call bytes old new reply base disk is some g =
    let idle : Files = record new { phase = Idle } in
    let taken : taken_in new.phase new ≡ idle = ap (λ p. taken_in p new) is in
    let P : Files → Type 0 = λ x. HasEffect call bytes (system old base) reply (gathered x) (system x disk) in
    let Q : Files → Type 0 = λ x. Stands x disk disk in
    let R : ℤ → Type 0 = λ z. HasEffect call bytes (system old base) z (gathered new) (system new disk) in
    record {
      effect = subst P (sym taken) (subst R (same_reply r reply some) g.0);
      stands = subst Q (sym taken) (record { standing = g.1.standing; hand = refl });
      idle = ap (λ x. x.phase) taken;
    }
over (Wants purpose) call bytes old new reply base disk is some g = absurd (cc (some))

pub over_stands : (new : Files) (call : FileCall) (bytes : List ℕ) (old : Files) (reply : ℤ) (base disk : List ℕ) → Some reply ≡ reply_in new.phase
    → GoesTo new.phase call bytes old new base disk
    → Stands (taken_in new.phase new) disk disk × (reply_in (taken_in new.phase new).phase ≡ None)
over_stands new call bytes old reply base disk is g =
    let o = over new.phase call bytes old new reply base disk refl (sym is) g in (o.stands, ap reply_in o.idle)

-- nothing is in hand: the engine is idle, and the disk is as it was
pub record IsQuiet (e : Files) (base disk : List ℕ) : Type 0 where
  pub idle : e.phase ≡ Idle
  pub same : disk ≡ base

quiet_in : (p : Phase) (e : Files) (base disk : List ℕ) → e.phase ≡ p → reply_in p ≡ None → held_for (wanted_in p e) e base ≡ None
    → InHand p e base disk → IsQuiet e base disk
quiet_in Idle e base disk is none free h = record { idle = is; same = h }
quiet_in (Done r) e base disk is none free h = absurd (cc (none))
quiet_in (Wants purpose) e base disk is none free h = absurd (cc (free))

pub quiet : (e : Files) (base disk : List ℕ) → Stands e base disk → reply_in e.phase ≡ None → held_for (wanted e) e base ≡ None
    → IsQuiet e base disk
quiet e base disk s none free = quiet_in e.phase e base disk refl none free s.hand

-- an idle engine has no call in hand, and no answer
pub idle_hand : (e : Files) (base : List ℕ) → e.phase ≡ Idle → held_for (wanted e) e base ≡ None
idle_hand e base is = ap (λ p. held_for (wanted_in p e) e base) is

pub idle_taken : (e : Files) → e.phase ≡ Idle → reply_in e.phase ≡ None
idle_taken e is = ap reply_in is

-- a call that waits is seen with its bytes
held_some : (o : Option BlockWork) (e : Files) (base : List ℕ) → IsSome o
    → held_for o e base ≡ Some (record { call = call_of e.call (call_bytes e); bytes = call_bytes e; left = left e base })
held_some None e base some = absurd (false≢true some)
held_some (Some w) e base some = refl

pub some_held : (o : Option BlockWork) (e : Files) (base : List ℕ) → IsSome (held_for o e base) → IsSome o
some_held None e base some = absurd (false≢true some)
some_held (Some w) e base some = refl

-- what is seen to wait is the call of the engine
pub record IsHeld (e : Files) (base : List ℕ) (h : HeldCall) : Type 0 where
  pub call : call_of e.call (call_bytes e) ≡ h.call
  pub bytes : call_bytes e ≡ h.bytes
  pub left_is : left e base ≡ h.left

held_is : (o : Option BlockWork) (e : Files) (base : List ℕ) (h : HeldCall) → held_for o e base ≡ Some h → IsHeld e base h
held_is None e base h is = absurd (cc (is))
held_is (Some w) e base h is =
    let g : HeldCall = record { call = call_of e.call (call_bytes e); bytes = call_bytes e; left = left e base } in
    let same : g ≡ h = some_same g h is in
    record { call = ap (λ x. x.call) same; bytes = ap (λ x. x.bytes) same; left_is = ap (λ x. x.left) same }
  where
    some_same : (a b : HeldCall) → ◌≡◌ {A = Option HeldCall} (Some a) (Some b) → a ≡ b
    some_same a b e = cc e

-- if that will be refused, so will the call of the engine
pub held_refused : (e : Files) (base : List ℕ) (h : HeldCall) → held_for (wanted e) e base ≡ Some h
    → (model.file_effect h.call h.bytes (system e base)).reply ≡ SYSERR → WillBeRefused e base
held_refused e base h is refused =
    let held = held_is (wanted e) e base h is in
    ap (λ k. (model.file_effect k (call_bytes e) (system e base)).reply) held.call
    ∙ ap (λ b. (model.file_effect h.call b (system e base)).reply) held.bytes ∙ refused

-- if that writes no file, neither does the call of the engine
pub held_reads : (e : Files) (base : List ℕ) (h : HeldCall) → held_for (wanted e) e base ≡ Some h → OnlyReads h.call (system e base)
    → OnlyReads (call_of e.call (call_bytes e)) (system e base)
held_reads e base h is reads = subst (λ k. OnlyReads k (system e base)) (sym (held_is (wanted e) e base h is).call) reads

-- It waits: with its bytes, and with a completion left.
waits : (call : FileCall) (bytes : List ℕ) (most : ℕ) (e f g : Files) (base disk disk' : List ℕ) → g ≡ f
    → IsStill call bytes e f base disk' → 1 ≤ left f base → left f base ≤ most
    → Waits (call_of call bytes) bytes most (state_of e base disk) (state_of g base disk')
waits call bytes most e f g base disk disk' same s some bound =
    let P : Files → Type 0 = λ x. Waits (call_of call bytes) bytes most (state_of e base disk) (state_of x base disk') in
    let call_is : call_of f.call (call_bytes f) ≡ call_of call bytes = ap (λ b. call_of f.call b) s.bytes_is ∙ ap (λ c. call_of c bytes) s.call_is in
    subst P (sym same) (record {
      left = left f base;
      hand = held_some (wanted f) f base s.busy
          ∙ ap (λ c. let h : HeldCall = record { call = c; bytes = call_bytes f; left = left f base } in Some h) call_is
          ∙ ap (λ b. let h : HeldCall = record { call = call_of call bytes; bytes = b; left = left f base } in Some h) s.bytes_is;
      some = some;
      bound = bound;
      system = s.system_is;
    })

-- It is done: nothing is in hand, and the bytes are those that it has given.
is_done : (call : FileCall) (bytes : List ℕ) (reply : ℤ) (e f g : Files) (base disk disk' : List ℕ) → g ≡ taken_in f.phase f
    → IsOver call bytes e f reply base disk'
    → IsDone (call_of call bytes) bytes reply (state_of e base disk) (state_of g disk' disk')
is_done call bytes reply e f g base disk disk' same o =
    let P : Files → Type 0 = λ x. IsDone (call_of call bytes) bytes reply (state_of e base disk) (state_of x disk' disk') in
    subst P (sym same) (record { effect = o.effect; hand = idle_hand (taken_in f.phase f) disk' o.idle })

-- A call begins.
pub record HasBegunWith (o : Option ℤ) (call : FileCall) (bytes : List ℕ) (e g : Files) (base disk : List ℕ) : Type 0 where
  pub goes : MatchOption o
      (Waits (call_of call bytes) bytes (most_turns (call_of call bytes) (system e base)) (state_of e base disk) (state_of g base disk))
      (λ reply. IsDone (call_of call bytes) bytes reply (state_of e base disk) (state_of g base disk))
  pub stands : Stands g base disk
  pub taken : reply_in g.phase ≡ None

begun_same : (o : Option ℤ) (call : FileCall) (bytes : List ℕ) (e f g : Files) (base : List ℕ) → o ≡ reply_in f.phase
    → g ≡ taken_in f.phase f → GoesTo f.phase call bytes e f base base → left f base ≤ most_turns (call_of call bytes) (system e base)
    → ((base disk : List ℕ) → Stands f base disk → IsSome (wanted f) → 1 ≤ left f base)
    → HasBegunWith o call bytes e g base base
begun_same None call bytes e f g base reply new goes bound some =
    let s = still f.phase call bytes e f base base refl (sym reply) goes in
    let kept : g ≡ f = new ∙ kept_in f.phase f (sym reply) in
    let P : Files → Type 0 = λ x. Stands x base base in
    record {
      goes = waits call bytes (most_turns (call_of call bytes) (system e base)) e f g base base base kept s (some base base s.stands s.busy) bound;
      stands = subst P (sym kept) s.stands;
      taken = ap (λ (x : Files). reply_in x.phase) kept ∙ sym reply;
    }
begun_same (Some r) call bytes e f g base reply new goes bound some =
    let o = over f.phase call bytes e f r base base refl (sym reply) goes in
    let P : Files → Type 0 = λ x. Stands x base base in
    record {
      goes = is_done call bytes r e f g base base base new o;
      stands = subst P (sym new) o.stands;
      taken = ap (λ (x : Files). reply_in x.phase) new ∙ idle_taken (taken_in f.phase f) o.idle;
    }

pub begun : (o : Option ℤ) (call : FileCall) (bytes : List ℕ) (e f g : Files) (base disk : List ℕ) → o ≡ reply_in f.phase
    → g ≡ taken_in f.phase f → Stands e base disk → reply_in e.phase ≡ None → held_for (wanted e) e base ≡ None
    → ((disk : List ℕ) → Stands e disk disk → GoesTo f.phase call bytes e f disk disk)
    → ((disk : List ℕ) → Stands e disk disk → left f disk ≤ most_turns (call_of call bytes) (system e disk))
    → ((base disk : List ℕ) → Stands f base disk → IsSome (wanted f) → 1 ≤ left f base)
    → HasBegunWith o call bytes e g base disk
begun o call bytes e f g base disk reply new s none free goes bound some =
    let q = quiet e base disk s none free in
    let P : List ℕ → Type 0 = λ d. Stands e base d in
    let here : Stands e base base = subst P q.same s in
    let R : List ℕ → Type 0 = λ d. HasBegunWith o call bytes e g base d in
    subst R (sym q.same) (begun_same o call bytes e f g base reply new (goes base here) (bound base here) some)

-- A completion, after which the call waits on.
pub record WaitsOn (h : HeldCall) (e g : Files) (base disk disk' : List ℕ) : Type 0 where
  pub goes : Waits h.call h.bytes (h.left - 1) (state_of e base disk) (state_of g base disk')
  pub stands : Stands g base disk'
  pub taken : reply_in g.phase ≡ None

pub waits_on : (h : HeldCall) (e f g : Files) (base disk disk' : List ℕ) → None ≡ reply_in f.phase → g ≡ taken_in f.phase f
    → held_for (wanted e) e base ≡ Some h → GoesTo f.phase e.call (call_bytes e) e f base disk' → left f base < left e base
    → ((base disk : List ℕ) → Stands f base disk → IsSome (wanted f) → 1 ≤ left f base) → WaitsOn h e g base disk disk'
waits_on h e f g base disk disk' reply new held goes less some =
    let s = still f.phase e.call (call_bytes e) e f base disk' refl (sym reply) goes in
    let kept : g ≡ f = new ∙ kept_in f.phase f (sym reply) in
    let i = held_is (wanted e) e base h held in
    let P : Files → Type 0 = λ x. Stands x base disk' in
    let Q : model.FileCall → Type 0 = λ c. Waits c (call_bytes e) (h.left - 1) (state_of e base disk) (state_of g base disk') in
    let R : List ℕ → Type 0 = λ b. Waits h.call b (h.left - 1) (state_of e base disk) (state_of g base disk') in
    let bound : left f base ≤ h.left - 1 = (let l = i.left_is in omega (arith, less, l)) in
    record {
      goes = subst R i.bytes (subst Q i.call
          (waits e.call (call_bytes e) (h.left - 1) e f g base disk disk' kept s (some base disk' s.stands s.busy) bound));
      stands = subst P (sym kept) s.stands;
      taken = ap (λ (x : Files). reply_in x.phase) kept ∙ sym reply;
    }

-- A completion, after which it is done.
pub record IsDoneWith (h : HeldCall) (reply : ℤ) (e g : Files) (base disk disk' : List ℕ) : Type 0 where
  pub goes : IsDone h.call h.bytes reply (state_of e base disk) (state_of g disk' disk')
  pub stands : Stands g disk' disk'
  pub taken : reply_in g.phase ≡ None

pub done_with : (h : HeldCall) (reply : ℤ) (e f g : Files) (base disk disk' : List ℕ) → Some reply ≡ reply_in f.phase
    → g ≡ taken_in f.phase f → held_for (wanted e) e base ≡ Some h → GoesTo f.phase e.call (call_bytes e) e f base disk'
    → IsDoneWith h reply e g base disk disk'
done_with h reply e f g base disk disk' is new held goes =
    let o = over f.phase e.call (call_bytes e) e f reply base disk' refl (sym is) goes in
    let i = held_is (wanted e) e base h held in
    let P : Files → Type 0 = λ x. Stands x disk' disk' in
    let Q : model.FileCall → Type 0 = λ c. IsDone c (call_bytes e) reply (state_of e base disk) (state_of g disk' disk') in
    let R : List ℕ → Type 0 = λ b. IsDone h.call b reply (state_of e base disk) (state_of g disk' disk') in
    record {
      goes = subst R i.bytes (subst Q i.call (is_done e.call (call_bytes e) reply e f g base disk disk' new o));
      stands = subst P (sym new) o.stands;
      taken = ap (λ (x : Files). reply_in x.phase) new ∙ idle_taken (taken_in f.phase f) o.idle;
    }
