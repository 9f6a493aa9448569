-- An event is at most one tick, raises the number of a port by at most one, and keeps the blocks of the disk with files, whatever is chosen
-- in it.
use Rattle.std.proofs.Common.{◌≡◌, ◌∙◌, ℕ, zero, suc, ◌+◌, ◌≤◌, ◌||◌, true, false, List, [], ◌∷◌, map, Option, Some, None, ℤ, refl, ap, arith, subst, sym}
use Rattle.std.proofs.lemmas.Bool.{cond_both}
use Rattle.xinu_base.specs.declared.events.Event.{Event}
use Rattle.xinu_base.specs.declared.events.Event.TheVariants.{Step, Tick, Key, Tx, Disk0, Disk1, Fail0, Fail1, Dump}
use Rattle.xinu_base.specs.declared.lines.TranscriptLine.{TranscriptLine}
use Rattle.xinu_laws.proofs.Preserve.Events.{state_event}
use Rattle.event_laws.proofs.Rises.ClockEvents.{resched_ticks, ticks_keyed, ticks_stepped, ticks_ticked, ticks_transmits}
use Rattle.event_laws.proofs.Rises.PortEvents.{RisesOnce, keyed_once, stepped_once, ticked_once, transmits_once}
use Rattle.xinu_model.specs.Events.{call_line, call_of, effect_of, next_file_call, step_at_once, step_with, with_executed}
use Rattle.xinu_model.specs.Files.Syscalls.{all_told, at_once, completed_in, completing, file_line, file_step, files_of, told, with_step}
use Rattle.xinu_model.specs.Files.Work.{FileNote, FileRequest, calls_completed, copied, issued, least_effects}
use Rattle.xinu_model.specs.Isa.Exec.{exec}
use Rattle.xinu_model.specs.Machine.{CallResult, CallState, Xinu, current_hart, end_of_event, is_off, start}
use Rattle.xinu_model.specs.Ports.Queues.{MessagePort, port_at}
use Rattle.xinu_model.specs.Process.Scheduling.{resched}
use Rattle.xinu_model.specs.RawDisk.Calls.{disk_of, reply_kept, served_in, serving, with_disk}
use Rattle.xinu_model.specs.RawDisk.Completions.{Served, raw_completed}
use Rattle.xinu_model.specs.Sound.State.{IsSound}
use Rattle.xinu_model.specs.Tables.{Tables}
use Rattle.reference_check.specs.Bounds.{IsWithin}
use Rattle.reference_check.proofs.Blocks.{KeepsBlocks, completed_blocks, issued_blocks, keyed_blocks, stepped_blocks, ticked_blocks, transmits_blocks}

-- from s to u the counts rise by at most one
record RiseByOne (s u : Xinu) : Type 0 where
  ticks : u.tables.ticks ≤ s.tables.ticks + 1
  numbers : RisesOnce s u
  blocks : KeepsBlocks s u

-- the clock, the ports and the blocks stay
record Stays (s u : Xinu) : Type 0 where
  ticks : u.tables.ticks ≡ s.tables.ticks
  ports : u.parts.ports ≡ s.parts.ports
  blocks : KeepsBlocks s u

itself : (s : Xinu) → Stays s s
itself s = record { ticks = refl; ports = refl; blocks = refl }

stays_rise : (s u : Xinu) → Stays s u → RiseByOne s u
stays_rise s u k = record {
  ticks = (let e = k.ticks in omega (arith, e));
  numbers = λ q. (let same = ap (λ (ports : List MessagePort). (port_at ports q).seq) k.ports in omega (arith, same));
  blocks = k.blocks;
}

-- they stay at the end of an event in which they stayed so far
ended : (s : Xinu) (was : ℕ) (first : List TranscriptLine) (r : CallResult) → Stays s r.call.state → Stays s (end_of_event was first r).state
ended s was first r k =
    let t = r.call.state.tables in
    record {
      ticks = cond_both (r.call.owes_resched || is_off r.answer) (resched t) t (λ (u : Tables). u.ticks ≡ s.tables.ticks)
          (λ _. resched_ticks t ∙ k.ticks) (λ _. k.ticks);
      ports = k.ports;
      blocks = k.blocks;
    }

-- replies that are kept leave them alone
kept : (s : Xinu) (caller : Option ℕ) (reply : ℤ) (d : CallState) → Stays s d.state → Stays s (reply_kept caller reply d).state
kept s None reply d k = k
kept s (Some p) reply d k = record { ticks = k.ticks; ports = k.ports; blocks = k.blocks }

all_kept : (s : Xinu) (notes : List FileNote) (d : CallState) → Stays s d.state → Stays s (all_told notes d).state
all_kept s [] d k = k
all_kept s (n ∷ notes) d k = all_kept s notes (told n.reply n.caller d) (by_reply n.reply)
  where
    by_reply : (reply : Option ℤ) → Stays s (told reply n.caller d).state
    by_reply None = k
    by_reply (Some reply) = kept s n.caller reply d k

-- a call on files that takes effect as it is made
at_once_rises : (a : FileRequest) (s : Xinu) → RiseByOne s (step_at_once a s).state
at_once_rises a s =
    let u = with_executed (exec (current_hart s) s.memory) s in
    let x = issued 1 a u.memory (files_of u) in
    let first = call_line u (call_of (current_hart u)) ∷ map file_line x.notes in
    stays_rise s (step_at_once a s).state (ended s s.tables.current first (at_once a u)
    (record { ticks = refl; ports = refl; blocks = issued_blocks a u.memory (files_of u) }))

step_rises : (c : ℕ) (found : Option FileRequest) (s : Xinu) → IsSound s → RiseByOne s (step_with c found s).state
step_rises zero found s k = record { ticks = (let e = ticks_stepped s k in omega (arith, e)); numbers = stepped_once s k; blocks = stepped_blocks s k }
step_rises (suc c) None s k = record { ticks = (let e = ticks_stepped s k in omega (arith, e)); numbers = stepped_once s k; blocks = stepped_blocks s k }
step_rises (suc c) (Some a) s k = at_once_rises a s

-- completions
served_stays : (found : Option Served) (s : Xinu) → Stays s (served_in found s).state
served_stays None s = itself s
served_stays (Some x) s =
    let r = x.request in
    let d = start (record (with_disk x.disk s) { memory = copied r.caller r.at x.bytes s.memory }) in
    ended s s.tables.current [] (serving x s) (kept s r.caller x.reply d (record { ticks = refl; ports = refl; blocks = refl }))

completed_stays : (calls : List FileRequest) (c : ℕ) (s : Xinu) → Stays s (completed_in calls c s).state
completed_stays [] c s = itself s
completed_stays (a ∷ calls) c s =
    let n = least_effects (a ∷ calls) (files_of s) + c in
    let x = calls_completed n (file_step s) in
    ended s s.tables.current (map file_line x.notes) (completing x s)
    (all_kept s x.notes (start (with_step x s))
    (record { ticks = refl; ports = refl; blocks = completed_blocks n (file_step s) }))

-- Each event is so.
event_rises : (s : Xinu) (e : Event) (c : ℕ) → IsSound s → RiseByOne s (effect_of s e c).state
event_rises s Step c k = step_rises c (next_file_call s) s k
event_rises s Tick c k = record { ticks = (let e = ticks_ticked s in omega (arith, e)); numbers = ticked_once s k; blocks = ticked_blocks s k }
event_rises s (Key b) c k = record { ticks = (let e = ticks_keyed b s k in omega (arith, e)); numbers = keyed_once b s k; blocks = keyed_blocks b s k }
event_rises s Tx c k = record { ticks = (let e = ticks_transmits s k in omega (arith, e)); numbers = transmits_once s k; blocks = transmits_blocks s k }
event_rises s Disk0 c k = stays_rise s _ (served_stays (raw_completed true (disk_of s)) s)
event_rises s Fail0 c k = stays_rise s _ (served_stays (raw_completed false (disk_of s)) s)
event_rises s Disk1 c k = stays_rise s _ (completed_stays (files_of s).calls c s)
event_rises s Dump c k = stays_rise s s (itself s)
event_rises s Fail1 c k = stays_rise s s (itself s)

-- So a state within some events is within one more after the next.
within_next : (n : ℕ) (s : Xinu) (e : Event) (c : ℕ) → IsWithin n s → IsWithin (n + 1) (effect_of s e c).state
within_next n s e c k =
    let r = event_rises s e c k.sound in
    record {
      sound = state_event s e c k.sound;
      ticks = (let a = r.ticks in let b = k.ticks in omega (arith, a, b));
      numbers = λ q. (let a = r.numbers q in let b = k.numbers q in omega (arith, a, b));
      blocks = (let a = r.blocks in let b = k.blocks in omega (arith, a, b));
    }

pub within_after : (n : ℕ) (s : Xinu) (e : Event) (c : ℕ) (new : Xinu) → new ≡ (effect_of s e c).state → IsWithin n s → IsWithin (n + 1) new
within_after n s e c new is k = subst (λ (x : Xinu). IsWithin (n + 1) x) (sym is) (within_next n s e c k)

-- and within more events than those
pub within_more : (n m : ℕ) (s : Xinu) → n ≤ m → IsWithin n s → IsWithin m s
within_more n m s h k = record {
  sound = k.sound;
  ticks = (let b = k.ticks in omega (arith, b, h));
  numbers = λ q. (let b = k.numbers q in omega (arith, b, h));
  blocks = k.blocks;
}
