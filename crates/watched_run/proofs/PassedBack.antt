-- Events that a run on its way back passes, or stops ahead of.
use Rattle.std.proofs.Common.{◌≡◌, ◌∙◌, ◌+◌, ℕ, zero, suc, Bool, true, false, cond, Option, Some, None, refl, sym, ap, subst, arith}
use Rattle.gdb_answers.specs.declared.stops.Stop.{Stop}
use Rattle.gdb_answers.specs.declared.stops.Stop.TheVariants.{Beginning, Changed, End, Here, Trapped}
use Rattle.replayed_run.specs.Replayed.{IsReplayed, IsSameRun, Replayed}
use Rattle.replayed_run.proofs.SameRuns.{again}
use Rattle.watched_run.proofs.Passing.{stands-again, stands-still}
use Rattle.watched_run.proofs.Taking.{takes-standing, takes-then-stands}
use Rattle.watched_run.specs.Backward.{ArePassedBack, IsPassedBack, IsStoppedBack, StopsBack, stops_back}
use Rattle.watched_run.specs.Moments.{Stands, actor}
use Rattle.watched_run.specs.Stops.{Orders, changer}
use Rattle.watched_run.specs.Watching.{first_changed}
use Rattle.watched_run.specs.Windows.{Finds, HasPassedBack, Retreats, TakesNext, latest, stop_ahead, stop_over}
use Rattle.watched_run.specs.declared.backward.Found.{Found}
use Rattle.watched_run.specs.declared.stopped.Stopped.{Stopped}
use Rattle.xinu_model.specs.Machine.{Xinu}

-- it stands where the other one does
pub stands-too : (a b : Replayed) → Stands a b → Stands b a
stands-too a b stands = record { stays = sym (ap (λ (r : Replayed). record r { told = a.told; known = a.known }) stands.stays) }

-- an event is passed, and then the run stands
passed-then-stands : (o : Orders) (a b c : Replayed) → IsPassedBack o a b → Stands b c → IsPassedBack o a c
passed-then-stands o a b c passed stands =
    let state : b.state ≡ c.state = ap (λ (r : Replayed). r.state) (sym stands.stays) in
    record {
      lines = passed.lines;
      takes = takes-then-stands a b c passed.lines passed.takes stands;
      no_change = (let P : Xinu → Type 0 = λ s. first_changed a.state.memory s.memory o.areas ≡ None in subst P state passed.no_change);
      no_stop = passed.no_stop;
    }

-- events are passed, and then the run stands
back-then-stands : (o : Orders) (n : ℕ) (a b c : Replayed) → ArePassedBack o n a b → Stands b c → ArePassedBack o n a c
unfolding ArePassedBack
back-then-stands o zero a b c all stands = stands-again a b c all stands
back-then-stands o (suc n) a b c all stands = record { mid = all.mid; earlier = all.earlier; passed = passed-then-stands o all.mid b c all.passed stands }

-- one event more
back-more : (o : Orders) (n : ℕ) (a b c : Replayed) → ArePassedBack o n a b → IsPassedBack o b c → ArePassedBack o (suc n) a c
unfolding ArePassedBack
back-more o n a b c all passed = record { mid = b; earlier = all; passed = passed }

-- none
back-none : (o : Orders) (a b : Replayed) → Stands a b → ArePassedBack o 0 a b
unfolding ArePassedBack
back-none o a b stands = stands

-- sums
no-more : (n : ℕ) → n + 0 ≡ n
no-more n = grind arith

one-more : (n k : ℕ) → suc (n + k) ≡ n + suc k
one-more n k = grind arith

-- events, and then more events
back-joined : (o : Orders) (n k : ℕ) (a b c : Replayed) → ArePassedBack o n a b → ArePassedBack o k b c → ArePassedBack o (n + k) a c
unfolding ArePassedBack
back-joined o n zero a b c first then =
    let P : ℕ → Type 0 = λ m. ArePassedBack o m a c in subst P (sym (no-more n)) (back-then-stands o n a b c first then)
back-joined o n (suc k) a b c first then =
    let P : ℕ → Type 0 = λ m. ArePassedBack o m a c in
    subst P (one-more n k) (back-more o (n + k) a then.mid c (back-joined o n k a b then.mid first then.earlier) then.passed)

-- the same without their number
pub none-passed-back : (o : Orders) (a b : Replayed) → Stands a b → HasPassedBack o a b
none-passed-back o a b stands = record { count = 0; passed = back-none o a b stands }

pub passed-one-more : (o : Orders) (a b c : Replayed) → HasPassedBack o a b → IsPassedBack o b c → HasPassedBack o a c
passed-one-more o a b c all passed = record { count = suc all.count; passed = back-more o all.count a b c all.passed passed }

pub passed-joined : (o : Orders) (a b c : Replayed) → HasPassedBack o a b → HasPassedBack o b c → HasPassedBack o a c
passed-joined o a b c first then = record { count = first.count + then.count; passed = back-joined o first.count then.count a b c first.passed then.passed }

pub passed-to-there : (o : Orders) (a b c : Replayed) → HasPassedBack o a b → Stands b c → HasPassedBack o a c
passed-to-there o a b c all stands = record { count = all.count; passed = back-then-stands o all.count a b c all.passed stands }

-- it stops, and then it stops farther back from there
pub stops-from : (o : Orders) (a b c : Replayed) (stopped : Stopped) → StopsBack o b c stopped → HasPassedBack o b a → StopsBack o a c stopped
stops-from o a b c stopped stops all = record {
  after = stops.after;
  why = stops.why;
  count = stops.count + all.count;
  passed = back-joined o stops.count all.count stops.after b a stops.passed all.passed;
}

-- it stops where it stands, seen from a place that is the same
stopped-where : (o : Orders) (a b c : Replayed) (p : ℕ) (stop : Stop) → Stands a b
    → IsStoppedBack o (record a { told = b.told; known = b.known }) c p stop → IsStoppedBack o a c p stop
stopped-where o a b c p Here stands x = record {
  lines = x.lines;
  takes = takes-standing a (record a { told = b.told; known = b.known }) c x.lines (record { stays = refl }) x.takes;
  acts = x.acts;
  no_change = x.no_change;
  stop = x.stop;
}
stopped-where o a b c p (Changed at) stands x = record {
  lines = x.lines;
  takes = takes-standing a (record a { told = b.told; known = b.known }) c x.lines (record { stays = refl }) x.takes;
  changed = x.changed;
  teller = x.teller;
}
stopped-where o a b c p Beginning stands x = record {
  stands = stands-again a (record a { told = b.told; known = b.known }) c (record { stays = refl }) x.stands;
  begins = x.begins;
  shows = x.shows;
}
stopped-where o a b c p (Trapped cause) stands x = absurd x
stopped-where o a b c p End stands x = absurd x

pub stopped-there : (o : Orders) (a b c : Replayed) (p : ℕ) (stop : Stop) → Stands a b → IsStoppedBack o b c p stop → IsStoppedBack o a c p stop
stopped-there o a b c p stop stands stopped =
    let P : Replayed → Type 0 = λ r. IsStoppedBack o r c p stop in
    stopped-where o a b c p stop stands (subst P stands.stays stopped)

-- a choice that is made
chosen : (b : Bool) (x : Stopped) → cond b (Some x) None ≡ None → b ≡ false
chosen true x none = absurd (cc)
chosen false x none = refl

chosen-some : (b : Bool) (x y : Stopped) → cond b (Some x) None ≡ Some y → b ≡ true
chosen-some true x y some = refl
chosen-some false x y some = absurd (cc)

choice : (b : Bool) (x y : Stopped) → cond b (Some x) None ≡ Some y → x ≡ y
choice true x y some = cc
choice false x y some = absurd (cc)

-- a stop of process p ahead of its instruction
abbrev here_stop : ℕ → Stopped
here_stop p = record { stop = Here; process = p }

-- a stop of process p for a change
abbrev change_stop : ℕ → ℕ → Stopped
change_stop at p = record { stop = Changed at; process = p }

-- nothing stops the run
no-stop : (o : Orders) (s : Xinu) (who : Option ℕ) → stop_ahead o s who ≡ None → stops_back o s who ≡ false
no-stop o s None none = refl
no-stop o s (Some p) none = chosen (stops_back o s (Some p)) (here_stop p) none

-- an event in which nothing changed
retreats-still : (o : Orders) (old new : Replayed) (who : Option ℕ) (found : Option Stopped) → actor old ≡ who → TakesNext old new
    → first_changed old.state.memory new.state.memory o.areas ≡ None → stop_ahead o old.state who ≡ found → Retreats o old new found
retreats-still o old new who None acts took none is = record {
  lines = took.lines;
  takes = took.takes;
  no_change = none;
  no_stop = ap (stops_back o old.state) acts ∙ no-stop o old.state who is;
}
retreats-still o old new None (Some stopped) acts took none is = absurd (cc)
retreats-still o old new (Some p) (Some stopped) acts took none is =
    let P : Stopped → Type 0 = λ s. IsStoppedBack o old new s.process s.stop in
    subst P (choice (stops_back o old.state (Some p)) (here_stop p) stopped is) (record {
      lines = took.lines;
      takes = took.takes;
      acts = acts;
      no_change = none;
      stop = chosen-some (stops_back o old.state (Some p)) (here_stop p) stopped is;
    })

-- an event, by what changed in it
retreats-by : (o : Orders) (old new : Replayed) (changed : Option ℕ) (found : Option Stopped) → TakesNext old new
    → first_changed old.state.memory new.state.memory o.areas ≡ changed
    → stop_over changed (changer o.goal old.state (actor old)) (stop_ahead o old.state (actor old)) ≡ found → Retreats o old new found
retreats-by o old new None found took changed is = retreats-still o old new (actor old) found refl took changed is
retreats-by o old new (Some at) None took changed is = absurd (cc)
retreats-by o old new (Some at) (Some stopped) took changed is =
    let P : Stopped → Type 0 = λ s. IsStoppedBack o old new s.process s.stop in
    let same : change_stop at (changer o.goal old.state (actor old)) ≡ stopped = cc in
    subst P same (record { lines = took.lines; takes = took.takes; changed = changed; teller = refl })

pub retreats-over : (o : Orders) (old mid new : Replayed) (found : Option Stopped) → TakesNext old mid → new ≡ mid
    → found ≡ stop_over (first_changed old.state.memory mid.state.memory o.areas) (changer o.goal old.state (actor old)) (stop_ahead o old.state (actor old))
    → Retreats o old new found
retreats-over o old mid new found took stays is =
    let P : Replayed → Type 0 = λ r. Retreats o old r found in
    subst P (sym stays) (retreats-by o old mid (first_changed old.state.memory mid.state.memory o.areas) found took refl (sym is))

-- one event more was taken
pub further : (old mid new : Replayed) → TakesNext old mid → new ≡ mid → new.taken ≡ old.taken + 1
further old mid new took stays = ap (λ (r : Replayed). r.taken) (stays ∙ took.takes.changes)

-- the last stop so far, after one event more
pub finds-more : (o now : Orders) (start mid new : Replayed) (found : Option Found) (n : ℕ) (stop : Option Stopped) → now ≡ o → Finds o start mid found
    → IsReplayed mid → IsSameRun start mid → IsSameRun mid new → mid.taken ≡ n → new.taken ≡ mid.taken + 1
    → Retreats now mid new stop → Finds o start new (latest found n stop)
finds-more o now start mid new None n None orders finds is before since number further retreats =
    let P : Orders → Type 0 = λ x. IsPassedBack x mid new in
    passed-one-more o start mid new finds (subst P orders retreats)
finds-more o now start mid new (Some found) n None orders finds is before since number further retreats =
    let P : Orders → Type 0 = λ x. IsPassedBack x mid new in
    record {
      place = finds.place;
      stood = finds.stood;
      same = finds.same;
      since = again finds.place mid new finds.since since;
      number = finds.number;
      earlier = (let e = finds.earlier in omega (arith, e, further));
      next = finds.next;
      why = finds.why;
      rest = passed-one-more o finds.next mid new finds.rest (subst P orders retreats);
    }
finds-more o now start mid new found n (Some stopped) orders finds is before since number further retreats =
    let P : Orders → Type 0 = λ x. IsStoppedBack x mid new stopped.process stopped.stop in
    record {
      place = mid;
      stood = is;
      same = before;
      since = since;
      number = number;
      earlier = omega (arith, number, further);
      next = new;
      why = subst P orders retreats;
      rest = none-passed-back o new new (stands-still new);
    }
