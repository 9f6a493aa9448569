-- Moves of a run that is watched.
use Rattle.std.proofs.Common.{◌≡◌, ◌∙◌, ◌+◌, ◌&&◌, inl, inr, not, ℕ, zero, suc, Bool, true, false, cond, List, Option, Some, None, refl, sym, ap, subst, arith}
use Rattle.std.proofs.lemmas.Option.{slice_get_within}
use Rattle.gdb_answers.specs.declared.stops.Stop.TheVariants.{Changed, End, Here, Trapped}
use Rattle.gdb_answers.specs.Threads.{shown_process}
use Rattle.replayed_run.specs.Replayed.{IsSameRun, Replayed, is_at_end}
use Rattle.replayed_run.proofs.SameRuns.{still}
use Rattle.watched_run.proofs.Passing.{IsFree, all-joined, all-more, all-none, stands-still, taken-passed}
use Rattle.watched_run.specs.Goals.{tells}
use Rattle.watched_run.specs.Moments.{HasTaken, TakesSome, actor, was_told}
use Rattle.watched_run.specs.Moves.{Advances, GoesOn, Moves, StandsAhead, Steps, Stops, TakesUntold, orders_of, told_after, told_by, stop_after, stop_at_trap, stop_by, stopped_ahead}
use Rattle.watched_run.specs.Stops.{HasPassed, IsStopped, Orders, Passes, PassesAll, changer, is_reached, stops_ahead, told_trap}
use Rattle.watched_run.specs.Traps.{trap_in}
use Rattle.watched_run.specs.Watching.{Area, HaveSeen, areas_of, first_changed}
use Rattle.watched_run.specs.declared.goals.Goal.{Goal}
use Rattle.watched_run.specs.declared.points.Points.{Points}
use Rattle.watched_run.specs.declared.points.Watch.{Watch}
use Rattle.watched_run.specs.declared.watched.WatchedRun.{WatchedRun}
use Rattle.watched_run.specs.declared.stopped.Stopped.{Stopped}
use Rattle.xinu_base.specs.declared.lines.TranscriptLine.{TranscriptLine}
use Rattle.xinu_base.specs.declared.registers.Cause.{Cause}
use Rattle.xinu_model.specs.Machine.{Xinu}

-- a choice that is made
chosen : {X : Type 0} (b : Bool) (o : Option X) (x : X) → cond b o None ≡ Some x → b ≡ true
chosen true o x is = refl
chosen false o x is = absurd (cc)

-- and what it chooses
choice : {X : Type 0} (b : Bool) (o : Option X) (x : X) → cond b o None ≡ Some x → o ≡ Some x
choice true o x is = is
choice false o x is = absurd (cc)

-- a choice that isn't made
not-chosen : {X : Type 0} (b : Bool) (x : X) → cond b (Some x) None ≡ None → b ≡ false
not-chosen true x is = absurd (cc)
not-chosen false x is = refl

-- no point stops the run
no-point-ahead : (o : Orders) (s : Xinu) (who : Option ℕ) → stopped_ahead o s who ≡ None → stops_ahead o s who ≡ false
no-point-ahead o s None none = refl
no-point-ahead o s (Some p) none = not-chosen (stops_ahead o s (Some p)) p none

-- a point stops the run ahead of an instruction
pub at-point : (o : Orders) (old : Replayed) (p : ℕ) → stopped_ahead o old.state (actor old) ≡ Some p → IsStopped o old old p Here
at-point o old p is =
    let stops : stops_ahead o old.state (actor old) ≡ true = chosen (stops_ahead o old.state (actor old)) (actor old) p is in
    let acts : actor old ≡ Some p = choice (stops_ahead o old.state (actor old)) (actor old) p is in
    inl (record { stands = stands-still old; acts = acts; point = ap (stops_ahead o old.state) (sym acts) ∙ stops })

-- no cause
abbrev the-none : Option Cause
the-none = None

-- a choice of nothing
no-choice : (b : Bool) → cond b the-none the-none ≡ the-none
no-choice true = refl
no-choice false = refl

-- no trap is told
untold : (o : Orders) (n : ℕ) (lines : List TranscriptLine) (trap : Option Cause) (who : Option ℕ) → trap_in lines ≡ trap
    → stop_at_trap o n trap who ≡ None → told_trap o n lines who ≡ None
untold o n lines trap None is none = refl
untold o n lines None (Some p) is none = ap (λ (x : Option Cause). cond (tells o.goal p && not (was_told o.told n)) x None) is ∙ no-choice (tells o.goal p && not (was_told o.told n))
untold o n lines (Some cause) (Some p) is none =
    ap (λ (b : Bool). cond b (trap_in lines) None) (not-chosen (tells o.goal p && not (was_told o.told n)) _ none)

-- none is passed
pub none-passed : (o : Orders) (r : Replayed) → HasPassed o r r
none-passed o r = record { count = 0; passes = all-none o r r (stands-still r) }

-- steps are passed
pub jumped : (o : Orders) (old mid new : Replayed) → IsFree o → TakesSome old mid → new ≡ mid → HasPassed o old new
jumped o old mid new free takes stays =
    let P : Replayed → Type 0 = λ r. HasPassed o old r in
    subst P (sym stays) (record { count = takes.count; passes = taken-passed o takes.count old mid free takes.takes })

-- a stop for a trap of process p
abbrev pub trap_stop : Cause → ℕ → Stopped
trap_stop cause p = record { stop = Trapped cause; process = p }

-- a stop of process p where it was to stop
abbrev pub here_stop : ℕ → Stopped
here_stop p = record { stop = Here; process = p }

-- a stop for a change
abbrev pub change_stop : ℕ → ℕ → Stopped
change_stop at p = record { stop = Changed at; process = p }

-- a stop for a trap that is told
record IsTold (o : Orders) (n : ℕ) (trap : Option Cause) (who : Option ℕ) (stopped : Stopped) : Type 0 where
  p : ℕ
  cause : Cause
  acts : who ≡ Some p
  caused : trap ≡ Some cause
  may : (tells o.goal p && not (was_told o.told n)) ≡ true
  is : trap_stop cause p ≡ stopped

-- what such a stop tells
is-told : (o : Orders) (n : ℕ) (trap : Option Cause) (who : Option ℕ) (stopped : Stopped) → stop_at_trap o n trap who ≡ Some stopped
    → IsTold o n trap who stopped
is-told o n None who stopped is = absurd (cc)
is-told o n (Some cause) None stopped is = absurd (cc)
is-told o n (Some cause) (Some p) stopped is =
    let b = tells o.goal p && not (was_told o.told n) in
    let same : Some (trap_stop cause p) ≡ Some stopped = choice b (Some (trap_stop cause p)) stopped is in
    record {
      p = p;
      cause = cause;
      acts = refl;
      caused = refl;
      may = chosen b (Some (trap_stop cause p)) stopped is;
      is = cc;
    }

-- the run stands ahead of an instruction whose trap is told
pub at-trap : (o : Orders) (old new : Replayed) (who : Option ℕ) (stopped : Stopped) → who ≡ actor old → stopped_ahead o old.state who ≡ None
    → StandsAhead o old new who stopped → IsStopped o old new stopped.process stopped.stop
at-trap o old new who stopped acts none stands =
    let told = is-told o old.taken (trap_in stands.lines) who stopped stands.trap in
    let P : Stopped → Type 0 = λ s. IsStopped o old new s.process s.stop in
    subst P told.is (record {
      lines = stands.lines;
      after = stands.after;
      takes = stands.takes;
      acts = sym acts ∙ told.acts;
      no_point = ap (stops_ahead o old.state) (sym told.acts) ∙ no-point-ahead o old.state who none;
      trap = ap (λ (b : Bool). cond b (trap_in stands.lines) None) told.may ∙ told.caused;
      taken = stands.taken;
      state = stands.state;
    })

-- of which event a trap was told
pub trap-is-told : (o : Orders) (n m : ℕ) (trap : Option Cause) (who : Option ℕ) (stopped : Stopped) → Some stopped ≡ stop_at_trap o n trap who
    → told_by stopped.stop m o ≡ record o { told = Some m }
trap-is-told o n m trap who stopped is =
    let told = is-told o n trap who stopped (sym is) in
    ap (λ (s : Stopped). told_by s.stop m o) (sym told.is)

-- an event was taken in which no trap is told
pub taken-untold : (o : Orders) (old new : Replayed) (who : Option ℕ) (trap : Option Cause) → HasTaken old new trap
    → stop_at_trap o old.taken trap who ≡ None → TakesUntold o old new who
taken-untold o old new who trap taken none = record {
  lines = taken.lines;
  takes = taken.takes;
  no_trap = ap (λ (t : Option Cause). stop_at_trap o old.taken t who) (sym taken.says) ∙ none;
}

-- an event was taken in which a trap is told, and the run went back
pub stands-ahead : (o : Orders) (old after new : Replayed) (who : Option ℕ) (trap : Option Cause) (stopped : Stopped) → HasTaken old after trap
    → Some stopped ≡ stop_at_trap o old.taken trap who → new.taken ≡ old.taken → (old.known ≡ true → new.state ≡ old.state)
    → StandsAhead o old new who stopped
stands-ahead o old after new who trap stopped taken is stood same = record {
  lines = taken.lines;
  after = after;
  takes = taken.takes;
  trap = ap (λ (t : Option Cause). stop_at_trap o old.taken t who) (sym taken.says) ∙ sym is;
  taken = stood;
  state = same;
}

-- no bytes changed
not-changed : (o : Orders) (s : Xinu) (who changed : Option ℕ) → stop_by o s who changed ≡ None → changed ≡ None
not-changed o s who None none = refl
not-changed o s who (Some at) none = absurd (cc)

-- the goal isn't reached
not-at-goal : (o : Orders) (s : Xinu) (who changed : Option ℕ) → stop_by o s who changed ≡ None → is_reached o s who ≡ false
not-at-goal o s None None none = refl
not-at-goal o s (Some p) None none = not-chosen (is_reached o s (Some p)) (here_stop p) none
not-at-goal o s who (Some at) none = absurd (cc)

-- no trap in an event was told
no-trap : (o : Orders) (old new : Replayed) (who : Option ℕ) (takes : TakesUntold o old new who) → told_trap o old.taken takes.lines who ≡ None
no-trap o old new who takes = untold o old.taken takes.lines (trap_in takes.lines) who refl takes.no_trap

-- an event was passed
passed : (o : Orders) (old new : Replayed) (who : Option ℕ) → who ≡ actor old → stopped_ahead o old.state who ≡ None → TakesUntold o old new who
    → stop_after o old.state.memory new.state who ≡ None → Passes o old new
passed o old new who acts none takes stop =
    let changed = first_changed old.state.memory new.state.memory o.areas in
    record {
      lines = takes.lines;
      takes = takes.takes;
      no_point = ap (stops_ahead o old.state) (sym acts) ∙ no-point-ahead o old.state who none;
      no_trap = ap (told_trap o old.taken takes.lines) (sym acts) ∙ no-trap o old new who takes;
      no_change = not-changed o new.state who changed stop;
      not_reached = ap (is_reached o new.state) (sym acts) ∙ not-at-goal o new.state who changed stop;
    }

-- an event was taken, and the run stops after it
stopped-after : (o : Orders) (old new : Replayed) (who changed : Option ℕ) (stopped : Stopped) → who ≡ actor old
    → stopped_ahead o old.state who ≡ None → TakesUntold o old new who → first_changed old.state.memory new.state.memory o.areas ≡ changed
    → stop_by o new.state who changed ≡ Some stopped → IsStopped o old new stopped.process stopped.stop
stopped-after o old new who (Some at) stopped acts none takes changed is =
    let P : Stopped → Type 0 = λ s. IsStopped o old new s.process s.stop in
    let same : change_stop at (changer o.goal new.state who) ≡ stopped = cc in
    subst P same (record {
      lines = takes.lines;
      takes = takes.takes;
      no_point = ap (stops_ahead o old.state) (sym acts) ∙ no-point-ahead o old.state who none;
      no_trap = ap (told_trap o old.taken takes.lines) (sym acts) ∙ no-trap o old new who takes;
      changed = changed;
      teller = ap (changer o.goal new.state) acts;
    })
stopped-after o old new None None stopped acts none takes changed is = absurd (cc)
stopped-after o old new (Some p) None stopped acts none takes changed is =
    let P : Stopped → Type 0 = λ s. IsStopped o old new s.process s.stop in
    let same : Some (here_stop p) ≡ Some stopped = choice (is_reached o new.state (Some p)) (Some (here_stop p)) stopped is in
    let equal : here_stop p ≡ stopped = cc in
    subst P equal (inr (record {
      lines = takes.lines;
      takes = takes.takes;
      acts = sym acts;
      no_point = no-point-ahead o old.state (Some p) none;
      no_trap = no-trap o old new (Some p) takes;
      no_change = changed;
      reached = chosen (is_reached o new.state (Some p)) (Some (here_stop p)) stopped is;
    }))

-- an event was taken, and the run stops after it or goes on
moved-on : (o : Orders) (old new : Replayed) (who : Option ℕ) (found : Option Stopped) → who ≡ actor old → stopped_ahead o old.state who ≡ None
    → TakesUntold o old new who → stop_after o old.state.memory new.state who ≡ found → Moves o old new found
moved-on o old new who None acts none takes is = passed o old new who acts none takes is
moved-on o old new who (Some stopped) acts none takes is =
    stopped-after o old new who (first_changed old.state.memory new.state.memory o.areas) stopped acts none takes refl is

-- the same where it stays afterwards
pub moved : (o now : Orders) (old mid new : Replayed) (who : Option ℕ) (found : Option Stopped) → now ≡ o → who ≡ actor old
    → stopped_ahead o old.state who ≡ None → TakesUntold o old mid who → new ≡ mid → found ≡ stop_after now old.state.memory mid.state who
    → Moves o old new found
moved o now old mid new who found orders acts none takes stays is =
    let P : Replayed → Type 0 = λ r. Moves o old r found in
    subst P (sym stays) (moved-on o old mid who found acts none takes
    (ap (λ (x : Orders). stop_after x old.state.memory mid.state who) (sym orders) ∙ sym is))

-- no such stop is at a trap
told-if : (b : Bool) (stopped : Stopped) (n : ℕ) (o : Orders) → told_by stopped.stop n o ≡ o → told_after (cond b (Some stopped) None) n o ≡ o
told-if true stopped n o is = is
told-if false stopped n o is = refl

told-by : (o : Orders) (s : Xinu) (who changed : Option ℕ) (n : ℕ) (to : Orders) → told_after (stop_by o s who changed) n to ≡ to
told-by o s who (Some at) n to = refl
told-by o s None None n to = refl
told-by o s (Some p) None n to = told-if (is_reached o s (Some p)) (here_stop p) n to refl

-- so what was told stays
pub nothing-told : (o : Orders) (memory : List ℕ) (s : Xinu) (who : Option ℕ) (found : Option Stopped) (n : ℕ) (to : Orders)
    → found ≡ stop_after o memory s who → told_after found n to ≡ to
nothing-told o memory s who found n to is =
    ap (λ (f : Option Stopped). told_after f n to) is ∙ told-by o s who (first_changed memory s.memory o.areas) n to

-- how many events were taken after some more
pub taken-more : (o : Orders) (n : ℕ) (a b : Replayed) → PassesAll o n a b → b.taken ≡ a.taken + n
unfolding PassesAll
taken-more o zero a b all = ap (λ (r : Replayed). r.taken) all.stays ∙ (let e : a.taken ≡ a.taken + 0 = omega arith in e)
taken-more o (suc n) a b all =
    let before = taken-more o n a all.mid all.earlier in
    let after : b.taken ≡ all.mid.taken + 1 = ap (λ (r : Replayed). r.taken) all.passes.takes.changes in
    omega (arith, before, after)

-- an event is passed, and then some more
pub goes-on : (o now : Orders) (old mid new : Replayed) → now ≡ o → Passes o old mid → HasPassed now mid new → GoesOn o old new
goes-on o now old mid new orders passes more =
    let one : PassesAll o 1 old mid = all-more o 0 old old mid (all-none o old old (stands-still old)) passes in
    let then : PassesAll o more.count mid new = (let P : Orders → Type 0 = λ x. PassesAll x more.count mid new in subst P orders more.passes) in
    let all : PassesAll o (1 + more.count) old new = all-joined o 1 more.count old mid new one then in
    let taken = taken-more o (1 + more.count) old new all in
    let within = slice_get_within old.events old.taken passes.takes.event passes.takes.next in
    record { count = 1 + more.count; passes = all; further = omega (arith, taken); within = within }

-- some events are passed, and then some more
pub passed-more : (o now : Orders) (a b c : Replayed) → now ≡ o → HasPassed o a b → GoesOn now b c → HasPassed o a c
passed-more o now a b c orders first more =
    let then : PassesAll o more.count b c = (let P : Orders → Type 0 = λ x. PassesAll x more.count b c in subst P orders more.passes) in
    record { count = first.count + more.count; passes = all-joined o first.count more.count a b c first.passes then }

-- some events are passed, and then the run stops
pub stops-then : (o now : Orders) (old mid new : Replayed) (stopped : Stopped) → now ≡ o → HasPassed o old mid
    → IsStopped now mid new stopped.process stopped.stop → Stops o old new stopped
stops-then o now old mid new stopped orders first why = record {
  count = first.count;
  mid = mid;
  passes = first.passes;
  why = (let P : Orders → Type 0 = λ x. IsStopped x mid new stopped.process stopped.stop in subst P orders why);
}

-- some events are passed, and then the run is at its end
pub stops-at-end : (o : Orders) (old new : Replayed) (stopped : Stopped) (p : ℕ) → HasPassed o old new → is_at_end new ≡ true
    → p ≡ shown_process new.state.tables → record { stop = End; process = p } ≡ stopped → Stops o old new stopped
stops-at-end o old new stopped p first ends shows is =
    let P : Stopped → Type 0 = λ s. Stops o old new s in
    subst P is (record {
      count = first.count;
      mid = new;
      passes = first.passes;
      why = record { stands = stands-still new; ends = ends; shows = shows };
    })

-- the same points, and the same trap that was told
pub kept-orders : (goal : Goal) (old new : WatchedRun) → new.points ≡ old.points → new.told ≡ old.told → orders_of goal new ≡ orders_of goal old
kept-orders goal old new points told =
    ap (λ (n : Option ℕ). record (orders_of goal new) { told = n }) told
    ∙ ap (λ (p : Points). let r : Orders = record {
      goal = goal;
      addresses = p.addresses.items;
      areas = areas_of p.watches.items;
      told = old.told;
    } in r) points

-- nothing is found: so the event was taken
pub takes-none : (o : Orders) (old new : Replayed) (who : Option ℕ) (found : Option Stopped) → found ≡ None → Steps o old new who found
    → TakesUntold o old new who
takes-none o old new who None is steps = steps
takes-none o old new who (Some stopped) is steps = absurd (cc)

-- so an event is passed
pub passes-none : (o : Orders) (old new : Replayed) (found : Option Stopped) → found ≡ None → Moves o old new found → Passes o old new
passes-none o old new None is moves = moves
passes-none o old new (Some stopped) is moves = absurd (cc)

-- so the run goes on
pub goes-on-none : (o : Orders) (old new : Replayed) (found : Option Stopped) → found ≡ None → Advances o old new found → GoesOn o old new
goes-on-none o old new None is advances = advances
goes-on-none o old new (Some stopped) is advances = absurd (cc)

-- and no trap was told
pub told-none : (n : ℕ) (o now : Orders) (found : Option Stopped) → found ≡ None → now ≡ told_after found n o → now ≡ o
told-none n o now None is told = told
told-none n o now (Some stopped) is told = absurd (cc)

-- nothing is passed where the run stays
pub none-passed-still : (o : Orders) (old new : Replayed) → new ≡ old → HasPassed o old new
none-passed-still o old new stays =
    let P : Replayed → Type 0 = λ r. HasPassed o old r in
    subst P (sym stays) (none-passed o old)

-- what was seen of a state
pub seen-still : (old new : Replayed) (watches : List Watch) → new ≡ old → HaveSeen old.state.memory watches → HaveSeen new.state.memory watches
seen-still old new watches stays have =
    let P : Replayed → Type 0 = λ r. HaveSeen r.state.memory watches in
    subst P (sym stays) have

-- the same run where the run stays
pub same-still : (old new : Replayed) → new ≡ old → IsSameRun old new
same-still old new stays =
    let P : Replayed → Type 0 = λ r. IsSameRun old r in
    subst P (sym stays) (still old)

-- the same addresses and areas, and the same trap that was told
pub looked-at : (goal : Goal) (old new : WatchedRun) → new.points.addresses ≡ old.points.addresses
    → areas_of new.points.watches.items ≡ areas_of old.points.watches.items → new.told ≡ old.told → orders_of goal new ≡ orders_of goal old
looked-at goal old new addresses areas told =
    let items : new.points.addresses.items ≡ old.points.addresses.items = cc in
    ap (λ (n : Option ℕ). record (orders_of goal new) { told = n }) told
    ∙ ap (λ (a : List Area). let r : Orders = record { goal = goal; addresses = new.points.addresses.items; areas = a; told = old.told } in r) areas
    ∙ ap (λ (l : List ℕ). record (orders_of goal old) { addresses = l }) items
