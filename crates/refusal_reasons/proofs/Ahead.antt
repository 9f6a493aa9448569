-- The reason of a call is that of the first cause that holds, and can be read off the state ahead of the event.
use Rattle.std.proofs.Common.{◌≡◌, ◌∙◌, ◌↔◌, ℕ, zero, suc, ◌==◌, Bool, true, false, cond, List, [], ◌∷◌, ◌++◌, refl, sym, ap, Option, Some, None, IsSome, ℤ, pos, negsuc}
use Rattle.std.specs.Prelude.{is_some, slice_index, slice_set}
use Rattle.std.specs.List.{AllByRecursion}
use Rattle.event_laws.proofs.Reply.Ecall.{exec_leaves_call}
use Rattle.event_laws.specs.Ownership.GivingAway.{next}
use Rattle.event_laws.specs.Replies.{IsCalling}
use Rattle.refusal_reasons.specs.Causes.{IsFirst, CauseRow, cause, causes_in, first_reason, is_negative}
use Rattle.refusal_reasons.specs.Devices.{by_kind, control_causes, device_calls, open_causes, read_causes, read_leaves_ram, switch_causes, write_causes}
use Rattle.refusal_reasons.specs.Reasons.{cause_rows, reason}
use Rattle.refusal_reasons.specs.declared.reasons.Cause.{Cause}
use Rattle.refusal_reasons.specs.declared.reasons.Reason.{Reason}
use Rattle.refusal_reasons.specs.declared.reasons.Reason.TheVariants as why
use Rattle.refusal_reasons.proofs.Rows.{refusals_have_reasons}
use Rattle.xinu_base.specs.Constants.{SYSERR}
use Rattle.xinu_base.specs.declared.devices.Kind.{Kind}
use Rattle.xinu_base.specs.declared.devices.Kind.TheVariants as kind
use Rattle.xinu_base.specs.declared.devices.Op.{Op}
use Rattle.xinu_base.specs.declared.devices.Op.TheVariants as op
use Rattle.xinu_base.specs.declared.registers.Hart.{Hart}
use Rattle.xinu_laws.proofs.Rows.RowByRow.{◌⨾◌}
use Rattle.xinu_model.specs.Calls.{called}
use Rattle.xinu_model.specs.Devices.Table.{kind_of}
use Rattle.xinu_model.specs.Events.{with_executed}
use Rattle.xinu_model.specs.Machine.{Xinu, Returns, current_hart}
use Rattle.xinu_model.specs.Sound.State.{IsSound}
use Rattle.xinu_model.specs.Words.{signed}

-- one cause more before those that don't hold
one_more : (c : Cause) (causes : List Cause) (r : Reason) → c.holds ≡ false → IsFirst causes r → IsFirst (c ∷ causes) r
one_more c causes r e f = record {
  before = c ∷ f.before;
  first = f.first;
  after = f.after;
  are = ap (λ l. c ∷ l) f.are;
  none = (e, f.none);
  holds = f.holds;
  gives = f.gives;
}

-- The first cause that holds.
pub first_is : (causes : List Cause) (r : Reason) → first_reason causes ≡ Some r → IsFirst causes r
first_is [] r e = absurd (cc)
first_is (c ∷ causes) r e = by_test c.holds refl e (first_is causes r)
  where
    by_test : (b : Bool) → c.holds ≡ b → cond b (Some c.reason) (first_reason causes) ≡ Some r → (first_reason causes ≡ Some r → IsFirst causes r)
        → IsFirst (c ∷ causes) r
    by_test true h g rest = record { before = []; first = c; after = causes; are = refl; none = tt; holds = h; gives = cc }
    by_test false h g rest = one_more c causes r h (rest g)

-- the same state with other registers
abbrev with_harts : List Hart → Xinu → Xinu
with_harts harts s = record s { harts = harts }

-- causes that agree for each kind agree for a device
by_kind_agree : (found : Option Kind) (f g : Kind → List Cause) → ((k : Kind) → f k ≡ g k) → by_kind found f ≡ by_kind found g
by_kind_agree None f g e = refl
by_kind_agree (Some k) f g e = e k

calls_agree : (call : Op) (dev : ℕ) (f g : Kind → List Cause) → ((k : Kind) → f k ≡ g k) → device_calls call dev f ≡ device_calls call dev g
calls_agree call dev f g e = ap (λ l. switch_causes call dev ++ l) (by_kind_agree (kind_of dev) f g e)

-- `open`, `read`, `write` and `control` don't look at registers
same_open : (dev name mode : ℕ) (s : Xinu) (h : List Hart)
    → device_calls op.Open dev (open_causes name mode (with_harts h s)) ≡ device_calls op.Open dev (open_causes name mode s)
same_open dev name mode s h = calls_agree op.Open dev (open_causes name mode (with_harts h s)) (open_causes name mode s) (λ k. refl)

same_range : (at : ℕ) (n : ℤ) (s : Xinu) (h : List Hart) → read_leaves_ram at n (with_harts h s) ≡ read_leaves_ram at n s
same_range at (negsuc n) s h = refl
same_range at (pos zero) s h = refl
same_range at (pos (suc n)) s h = refl

same_read : (dev at n : ℕ) (s : Xinu) (h : List Hart)
    → device_calls op.Read dev (read_causes at n (with_harts h s)) ≡ device_calls op.Read dev (read_causes at n s)
same_read dev at n s h = calls_agree op.Read dev (read_causes at n (with_harts h s)) (read_causes at n s) each
  where
    each : (k : Kind) → read_causes at n (with_harts h s) k ≡ read_causes at n s k
    each kind.Console = ap (λ b. cause why.NegativeBytes (is_negative (signed n)) ∷ cause why.OutsideRam b ∷ []) (same_range at (signed n) s h)
    each kind.NameSpace = refl
    each kind.RawDisk = refl
    each kind.FileSystem = refl
    each kind.File = refl

same_write : (dev at n : ℕ) (s : Xinu) (h : List Hart)
    → device_calls op.Write dev (write_causes at n (with_harts h s)) ≡ device_calls op.Write dev (write_causes at n s)
same_write dev at n s h = calls_agree op.Write dev (write_causes at n (with_harts h s)) (write_causes at n s) each
  where
    each : (k : Kind) → write_causes at n (with_harts h s) k ≡ write_causes at n s k
    each kind.Console = refl
    each kind.NameSpace = refl
    each kind.RawDisk = refl
    each kind.FileSystem = refl
    each kind.File = refl

same_control : (dev f x : ℕ) (s : Xinu) (h : List Hart)
    → device_calls op.Control dev (control_causes f x (with_harts h s)) ≡ device_calls op.Control dev (control_causes f x s)
same_control dev f x s h = calls_agree op.Control dev (control_causes f x (with_harts h s)) (control_causes f x s) each
  where
    each : (k : Kind) → control_causes f x (with_harts h s) k ≡ control_causes f x s k
    each kind.Console = refl
    each kind.NameSpace = refl
    each kind.RawDisk = refl
    each kind.FileSystem = refl
    each kind.File = refl

-- No row looks at registers.
abbrev IsBlind : CauseRow → Type 0
IsBlind r = (a : ℕ → ℕ) (s : Xinu) (h : List Hart) → r.causes a (with_harts h s) ≡ r.causes a s

rows_blind : AllByRecursion IsBlind cause_rows
unfolding cause_rows
rows_blind =
    (λ a s h. refl) ⨾
    (λ a s h. refl) ⨾
    (λ a s h. refl) ⨾
    (λ a s h. refl) ⨾
    (λ a s h. refl) ⨾
    (λ a s h. refl) ⨾
    (λ a s h. refl) ⨾
    (λ a s h. refl) ⨾
    (λ a s h. refl) ⨾
    (λ a s h. refl) ⨾
    (λ a s h. refl) ⨾
    (λ a s h. refl) ⨾
    (λ a s h. refl) ⨾
    (λ a s h. refl) ⨾
    (λ a s h. refl) ⨾
    (λ a s h. refl) ⨾
    (λ a s h. refl) ⨾
    (λ a s h. refl) ⨾
    (λ a s h. refl) ⨾
    (λ a s h. refl) ⨾
    (λ a s h. refl) ⨾
    (λ a s h. refl) ⨾
    (λ a s h. refl) ⨾
    (λ a s h. refl) ⨾
    (λ a s h. refl) ⨾
    (λ a s h. refl) ⨾
    (λ a s h. refl) ⨾
    (λ a s h. refl) ⨾
    (λ a s h. refl) ⨾
    (λ a s h. refl) ⨾
    (λ a s h. refl) ⨾
    (λ a s h. refl) ⨾
    (λ a s h. refl) ⨾
    (λ a s h. refl) ⨾
    (λ a s h. refl) ⨾
    (λ a s h. same_open (a 0) (a 1) (a 2) s h) ⨾
    (λ a s h. refl) ⨾
    (λ a s h. same_read (a 0) (a 1) (a 2) s h) ⨾
    (λ a s h. same_write (a 0) (a 1) (a 2) s h) ⨾
    (λ a s h. refl) ⨾
    (λ a s h. refl) ⨾
    (λ a s h. refl) ⨾
    (λ a s h. same_control (a 0) (a 1) (a 2) s h) ⨾
    (λ a s h. refl) ⨾
    tt

causes_blind : (rows : List CauseRow) (number : ℕ) (a : ℕ → ℕ) (s : Xinu) (h : List Hart) → AllByRecursion IsBlind rows
    → causes_in rows number a (with_harts h s) ≡ causes_in rows number a s
causes_blind [] number a s h all = refl
causes_blind (r ∷ rows) number a s h all =
    ap (λ l. cond (number == r.number) l (causes_in rows number a (with_harts h s))) (all.0 a s h)
    ∙ ap (λ l. cond (number == r.number) (r.causes a s) l) (causes_blind rows number a s h all.1)

same_reason : (number : ℕ) (args : List ℕ) (s : Xinu) (h : List Hart) → reason number args (with_harts h s) ≡ reason number args s
same_reason number args s h = ap first_reason (causes_blind cause_rows number (slice_index args) s h rows_blind)

-- what a call executes leaves what is looked at
reason_ahead : (old : Xinu) (number : ℕ) (args : List ℕ) → IsCalling old → reason number args (with_executed (next old) old) ≡ reason number args old
reason_ahead old number args k =
    let harts = slice_set old.harts old.tables.current (next old).hart in
    ap (λ (m : List ℕ). reason number args (record old { harts = harts; memory = m })) (exec_leaves_call (current_hart old) old.memory k.call).1
    ∙ same_reason number args old harts

pub told_ahead : (old : Xinu) (number : ℕ) (args : List ℕ) → IsSound old → IsCalling old
    → ((called number args (with_executed (next old) old)).answer ≡ Returns SYSERR ↔ IsSome (reason number args old))
told_ahead old number args sound k =
    let same = ap is_some (reason_ahead old number args k) in
    let told = refusals_have_reasons number args (with_executed (next old) old) sound.tables sound.pools sound.ports in
    (λ e. sym same ∙ told.0 e, λ e. told.1 (same ∙ e))
