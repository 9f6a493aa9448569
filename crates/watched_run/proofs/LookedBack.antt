-- A run that came back to where it stood, and what it found on its way.
use Rattle.std.proofs.Common.{◌≡◌, ◌∙◌, ◌<◌, ◌≤◌, ◌==◌, ◌||◌, inl, inr, ℕ, Bool, true, false, length, List, Option, Some, None, Result, Ok, Err, sym, ap, subst, arith, ne_eqb}
use Rattle.std.proofs.Math.Nat.{eq-or-lt_of_le}
use Rattle.std.specs.Prelude.{IfOk}
use Rattle.gdb_answers.specs.Threads.{shown_process}
use Rattle.gdb_answers.specs.declared.stops.Stop.TheVariants.{Beginning}
use Rattle.replayed_run.specs.Replayed.{IsReplayed, IsSameRun, Replayed, is_at_end}
use Rattle.replayed_run.proofs.OneRun.{one-place, over-later}
use Rattle.replayed_run.proofs.SameRuns.{again, still}
use Rattle.watched_run.proofs.PassedBack.{none-passed-back, passed-joined, passed-to-there, stands-too, stopped-there, stops-from}
use Rattle.watched_run.proofs.Passing.{stands-still}
use Rattle.watched_run.specs.Backward.{IsStoppedBack, StopsBack}
use Rattle.watched_run.specs.Moments.{Stands}
use Rattle.watched_run.specs.Stops.{Orders}
use Rattle.watched_run.specs.Windows.{Finds, HasPassedBack, HasStood, HasStop, IsLookedThrough, LooksBack}
use Rattle.watched_run.specs.declared.backward.Found.{Found}
use Rattle.watched_run.specs.declared.stopped.Stopped.{Stopped}
use Rattle.xinu_base.specs.declared.events.Event.{Event}

-- a number that was reached, or else the run had ended
reached-less : (t m n len : ℕ) (over : Bool) → t < m → m ≤ n → n ≤ len → (t < n → over ≡ false) → ((t == m) || (over || (t == len))) ≡ true → ⊥
reached-less t m n len over less few within goes reached =
    let far : (t == m) ≡ false = ne_eqb t m (λ same. absurd (omega (arith, less, same))) in
    let short : (t == len) ≡ false = ne_eqb t len (λ same. absurd (omega (arith, less, few, within, same))) in
    let none : ((t == m) || (over || (t == len))) ≡ false =
    ap (λ (b : Bool). b || (over || (t == len))) far
    ∙ ap (λ (b : Bool). b || (t == len)) (goes (omega (arith, less, few)))
    ∙ short in
    absurd (cc (none, reached))

reached-by : (t m n len : ℕ) (over : Bool) → t ≤ m → m ≤ n → n ≤ len → (t < n → over ≡ false) → ((t == m) || (over || (t == len))) ≡ true → t ≡ m
reached-by t m n len over most few within goes reached =
    elim (eq-or-lt_of_le most) [
      | inl same ↦ same
      | inr less ↦ absurd (reached-less t m n len over less few within goes reached)
    ]

-- a run that goes to where it was before is there, and hasn't ended before
pub comes-to : (place r : Replayed) (m n : ℕ) → HasStood n place r → IsReplayed r → r.taken ≤ m → m ≤ n → (r.taken == m || is_at_end r) ≡ true → r.taken ≡ m
comes-to place r m n stood is most few reached =
    let within : n ≤ length r.events = (let w = stood.within in let e : length r.events ≡ length place.events = ap (λ (es : List Event). length es) stood.same.inputs.same_events in omega (arith, w, e)) in
    reached-by r.taken m n (length r.events) r.over most few within
    (λ less. over-later place r stood.replayed is stood.same stood.known (let t = stood.taken in omega (arith, less, t))) reached

-- it stands where it stood
pub stands-where : (place r : Replayed) (n : ℕ) → HasStood n place r → IsReplayed r → r.taken ≡ n → Stands place r
stands-where place r n stood is taken = record { stays = one-place place r stood.replayed is stood.same stood.known (taken ∙ sym stood.taken) }

-- the same run since
pub stood-since : (n : ℕ) (place r s : Replayed) → HasStood n place r → IsSameRun r s → HasStood n place s
stood-since n place r s stood same = record {
  replayed = stood.replayed;
  known = stood.known;
  taken = stood.taken;
  within = stood.within;
  same = again place r s stood.same same;
}

-- a stretch of events was looked through: from start to end, where the run stood before
pub looked-none : (o : Orders) (from to : ℕ) (place old start end : Replayed) → HasStood to place old → IsSameRun old start → IsReplayed start
    → start.taken ≤ from → from < to → (start.taken == from || is_at_end start) ≡ true → IsSameRun start end → IsReplayed end → end.taken ≤ to
    → (end.taken == to || is_at_end end) ≡ true → HasPassedBack o start end → IsLookedThrough o from place end
looked-none o from to place old start end stood went is most few reached same is_end most_end reached_end passed =
    let at_start = stood-since to place old start stood went in
    let at_end = stood-since to place start end at_start same in
    let there = stands-where place end to at_end is_end (comes-to place end to to at_end is_end most_end (omega arith) reached_end) in
    record {
      far = start;
      stood = record {
        replayed = is;
        known = at_start.same.known stood.known;
        taken = comes-to place start from to at_start is most (omega (arith, few)) reached;
        within = (let w = stood.within in let e : length start.events ≡ length place.events = ap (λ (es : List Event). length es) at_start.same.inputs.same_events in omega (arith, w, e, few));
        same = same;
      };
      passed = passed-to-there o start end place passed (stands-too place end there);
    }

-- and a stop was found
pub looked-some : (o : Orders) (to : ℕ) (place old start end new : Replayed) (found : Found) → HasStood to place old → IsSameRun old start → IsReplayed end
    → IsSameRun start end → end.taken ≤ to → (end.taken == to || is_at_end end) ≡ true → HasStop o start end found → IsSameRun end new → IsReplayed new
    → new.taken ≤ found.number → (new.taken == found.number || is_at_end new) ≡ true → StopsBack o place new found.stopped
looked-some o to place old start end new found stood went is_end same most_end reached_end stop then is_new most_new reached_new =
    let n = found.number in
    let at_start = stood-since to place old start stood went in
    let at_end = stood-since to place start end at_start same in
    let there = stands-where place end to at_end is_end (comes-to place end to to at_end is_end most_end (omega arith) reached_end) in
    let run = again place start stop.place at_start.same stop.same in
    let at_stop : HasStood n stop.place end = record {
      replayed = stop.stood;
      known = run.known stood.known;
      taken = stop.number;
      within = (let w = stood.within in let early = stop.earlier in let e : length stop.place.events ≡ length place.events = ap (λ (es : List Event). length es) run.inputs.same_events in omega (arith, w, early, most_end, e));
      same = stop.since;
    } in
    let at_new = stood-since n stop.place end new at_stop then in
    let again_there = stands-where stop.place new n at_new is_new (comes-to stop.place new n n at_new is_new most_new (omega arith) reached_new) in
    let rest = passed-to-there o stop.next end place stop.rest (stands-too place end there) in
    record {
      after = stop.next;
      why = stopped-there o new stop.place stop.next found.stopped.process found.stopped.stop (stands-too stop.place new again_there) stop.why;
      count = rest.count;
      passed = rest.passed;
    }

-- the events before the first are none
pub none-looked : (o : Orders) (n : ℕ) (r s : Replayed) → IsReplayed r → r.known ≡ true → n ≡ r.taken → n ≤ length r.events → s ≡ r → IsLookedThrough o n r s
none-looked o n r s is known taken within stays =
    let P : Replayed → Type 0 = λ x. IsLookedThrough o n r x in
    subst P (sym stays) (record {
      far = r;
      stood = record { replayed = is; known = known; taken = sym taken; within = within; same = still r };
      passed = none-passed-back o r r (stands-still r);
    })

-- a stretch more
pub looked-more : (o now : Orders) (from to : ℕ) (place mid new : Replayed) (found : Option Stopped) → now ≡ o → found ≡ None → (is : IsLookedThrough o to place mid)
    → LooksBack now from is.far new found → IsLookedThrough o from place new
looked-more o now from to place mid new None orders none is looks =
    let P : Orders → Type 0 = λ x. IsLookedThrough x from is.far new in
    let more = subst P orders looks in
    record { far = more.far; stood = more.stood; passed = passed-joined o more.far is.far place more.passed is.passed }
looked-more o now from to place mid new (Some stopped) orders none is looks = absurd (cc)

-- and then a stop
pub looked-stop : (o now : Orders) (to : ℕ) (place mid new : Replayed) (stopped : Stopped) → now ≡ o → (is : IsLookedThrough o to place mid)
    → StopsBack now is.far new stopped → StopsBack o place new stopped
looked-stop o now to place mid new stopped orders is stops =
    let P : Orders → Type 0 = λ x. StopsBack x is.far new stopped in
    stops-from o place is.far new stopped (subst P orders stops) is.passed

-- the beginning
pub begins : (o : Orders) (place old new : Replayed) (stopped : Stopped) (p : ℕ) → HasStood 0 place old → IsSameRun old new → IsReplayed new → new.taken ≤ 0
    → (new.taken == 0 || is_at_end new) ≡ true → p ≡ shown_process new.state.tables → record { stop = Beginning; process = p } ≡ stopped
    → IsStoppedBack o new place stopped.process stopped.stop
begins o place old new stopped p stood same is most reached shows stops =
    let at_new = stood-since 0 place old new stood same in
    let none = comes-to place new 0 0 at_new is most (omega arith) reached in
    let P : Stopped → Type 0 = λ s. IsStoppedBack o new place s.process s.stop in
    subst P stops (record {
      stands = stands-too place new (stands-where place new 0 at_new is none);
      begins = none;
      shows = shows;
    })

-- so all was looked through
pub stops-at-beginning : (o : Orders) (place mid new : Replayed) (stopped : Stopped) (is : IsLookedThrough o 0 place mid)
    → IsStoppedBack o new is.far stopped.process stopped.stop → StopsBack o place new stopped
stops-at-beginning o place mid new stopped is why = record { after = is.far; why = why; count = is.passed.count; passed = is.passed.passed }

-- what was found, as it is said of what it was
pub found-none : (o now : Orders) (a b : Replayed) (found : Option Found) → now ≡ o → found ≡ None → Finds now a b found → HasPassedBack o a b
found-none o now a b None orders none finds = let P : Orders → Type 0 = λ x. HasPassedBack x a b in subst P orders finds
found-none o now a b (Some f) orders none finds = absurd (cc)

pub found-some : (o now : Orders) (a b : Replayed) (found : Option Found) (f : Found) → now ≡ o → found ≡ Some f → Finds now a b found → HasStop o a b f
found-some o now a b None f orders some finds = absurd (cc)
found-some o now a b (Some g) f orders some finds =
    let P : Orders → Type 0 = λ x. HasStop x a b g in
    let Q : Found → Type 0 = λ x. HasStop o a b x in
    let same : g ≡ f = cc in
    subst Q same (subst P orders finds)

-- a stop, as it is said of what was found
pub looks-some : (o : Orders) (n : ℕ) (place now : Replayed) (found : Option Stopped) (stopped : Stopped) → found ≡ Some stopped → LooksBack o n place now found
    → StopsBack o place now stopped
looks-some o n place now None stopped some looks = absurd (cc)
looks-some o n place now (Some other) stopped some looks =
    let P : Stopped → Type 0 = λ s. StopsBack o place now s in
    let same : other ≡ stopped = cc in
    subst P same looks

-- a result that is good, if it leads to another fact
pub with-ok : {T E : Type 0} (P Q : T → Type 0) (r : Result T E) → IfOk r P → ((x : T) → P x → Q x) → IfOk r Q
with-ok P Q (Ok x) p f = f x p
with-ok P Q (Err e) p f = tt
