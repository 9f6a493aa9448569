-- A run that goes on: by one event, and by steps that print nothing.
use Rattle.std.proofs.Common.{◌≡◌, ◌≢◌, ◌∙◌, ◌+◌, ◌≤◌, ◌<◌, ℕ, zero, suc, Bool, true, false, List, [], ◌∷◌, ◌++◌, take, drop, length, replicate, Option, Some, None, refl, sym, ap, subst, arith, append-nil, below_more, drop-cons}
use Rattle.std.proofs.lemmas.List.{take-append-le, take-replicate, length-replicate}
use Rattle.std.proofs.lemmas.Option.{slice_get_within, get_or_from_slice_get}
use Rattle.std.proofs.Math.Seq.{take-add}
use Rattle.std.specs.Prelude.{is_some, unwrap_or, slice_get}
use Rattle.xinu_base.specs.declared.events.Event.{Event}
use Rattle.xinu_base.specs.declared.events.Event.TheVariants.{Step}
use Rattle.xinu_base.specs.declared.events.End.{End}
use Rattle.xinu_base.specs.declared.events.End.TheVariants.{Schedule}
use Rattle.xinu_base.specs.declared.lines.TranscriptLine.{TranscriptLine}
use Rattle.xinu_laws.proofs.PlainSteps.{run_after}
use Rattle.xinu_model.specs.Events.{Happens, panics_in, stepped}
use Rattle.xinu_model.specs.Machine.{Xinu}
use Rattle.xinu_model.specs.Runs.{Follows, RunsTo, end_with, is_over}
use Rattle.xinu_model.specs.Steps.{ArePlain, stepped_times}
use Rattle.transcript_laws.proofs.Texts.{text_append}
use Rattle.xinu_model.specs.Text.{text}
use Rattle.replayed_run.proofs.Joined.{run-joined}
use Rattle.replayed_run.proofs.Told.{first-kept, first-more, first-silent}
use Rattle.replayed_run.specs.Replayed.{GoesOnAfter, IsReplayed, Replayed}
use Rattle.replayed_run.specs.Told.{Grows, text_at, text_of_first}

-- what follows an event that is the last
follows-last : (o : Option End) (first : List TranscriptLine) (mid : Xinu)
    → Follows o (λ rest. RunsTo mid [] rest mid (unwrap_or o Schedule)) first first mid mid (unwrap_or o Schedule)
follows-last None first mid = ([], (refl, refl, refl), sym (append-nil first))
follows-last (Some end) first mid = (refl, refl, refl)

-- a run of one event
run-one : (old : Xinu) (e : Event) (first : List TranscriptLine) (mid : Xinu) → Happens old e first mid
    → RunsTo old (e ∷ []) first mid (unwrap_or (end_with (panics_in old e) (is_over mid)) Schedule)
run-one old e first mid happens = (mid, first, happens, follows-last (end_with (panics_in old e) (is_over mid)) first mid)

-- no event ended it
goes-on : (o : Option End) → is_some o ≡ false → unwrap_or o Schedule ≡ Schedule
goes-on None none = refl
goes-on (Some end) none = absurd (cc)

-- one ended it
has-ended : (p q : Bool) → is_some (end_with p q) ≡ true → unwrap_or (end_with p q) Schedule ≢ Schedule
has-ended true q is same = absurd (cc)
has-ended false true is same = absurd (cc)
has-ended false false is same = absurd (cc)

-- what holds below a number, and of the next ones
all-below : (P : ℕ → Type 0) (n k : ℕ) → ((m : ℕ) → m < n → P m) → ((j : ℕ) → j < k → P (n + j)) → (m : ℕ) → m < n + k → P m
all-below P n zero first then m less = first m (omega (arith, less))
all-below P n (suc k) first then m less =
    below_more P (n + k) (all-below P n k first (λ j few. then j (omega (arith, few)))) (then k (omega arith)) m (omega (arith, less))

-- what is known of the first events of a run stays
kept-before : (start : Xinu) (r s : Replayed) (n : ℕ) → s.events ≡ r.events → (r.known ≡ true → Grows r.told s.told)
    → (s.known ≡ true → r.known ≡ true) → (r.known ≡ true → n ≤ length r.told) → GoesOnAfter start r n → GoesOnAfter start s n
kept-before start r s n events grows known within goes = record {
  lines = goes.lines;
  state = goes.state;
  runs = (let P : List Event → Type 0 = λ es. RunsTo start (take n es) goes.lines goes.state Schedule in subst P (sym events) goes.runs);
  printed = λ k. goes.printed (known k) ∙ sym (first-kept r.told s.told n (grows (known k)) (within (known k)));
}

-- one event more
take-one : (events : List Event) (n : ℕ) (e : Event) → slice_get events n ≡ Some e → take (n + 1) events ≡ take n events ++ e ∷ []
take-one events n e is =
    let within = slice_get_within events n e is in
    let cut : drop n events ≡ e ∷ drop (suc n) events =
    drop-cons events n e within ∙ ap (λ (x : Event). x ∷ drop (suc n) events) (get_or_from_slice_get events n e e is) in
    take-add n 1 events ∙ ap (λ (xs : List Event). take n events ++ take 1 xs) cut

-- What is known after one event more: nothing of before has changed, and the event printed what is known of it.
pub record IsTold (old new : List (List ℕ)) (n : ℕ) (was is : Bool) (first : List TranscriptLine) : Type 0 where
  pub grows : Grows old new
  pub before : is ≡ true → was ≡ true
  pub told : is ≡ true → text_at new n ≡ text first
  pub far : is ≡ true → n < length new

-- the state and the end after one event more
pub replayed-event : (r : Replayed) (e : Event) (first : List TranscriptLine) (next : Xinu) (told : List (List ℕ)) (known : Bool) → IsReplayed r
    → r.over ≡ false → slice_get r.events r.taken ≡ Some e → Happens r.state e first next → IsTold r.told told r.taken r.known known first
    → IsReplayed (record r { taken = r.taken + 1; state = next; over = is_some (end_with (panics_in r.state e) (is_over next)); told = told; known = known })
replayed-event r e first next told known is goes next-is happens says =
    let end = unwrap_or (end_with (panics_in r.state e) (is_over next)) Schedule in
    let new : Replayed = record r { taken = r.taken + 1; state = next; over = is_some (end_with (panics_in r.state e) (is_over next)); told = told; known = known } in
    let before : RunsTo is.start (take r.taken r.events) is.lines r.state Schedule =
    (let P : End → Type 0 = λ x. RunsTo is.start (take r.taken r.events) is.lines r.state x in subst P (is.goes_on goes) is.runs) in
    let keeps = λ (m : ℕ) (few : m ≤ r.taken) (was : GoesOnAfter is.start r m).
    kept-before is.start r new m refl (λ k. says.grows) says.before (λ k. (let far = is.within k in omega (arith, far, few))) was in
    let both = run-joined (take r.taken r.events) (e ∷ []) is.start r.state next is.lines first end before (run-one r.state e first next happens) in
    let Q : List Event → Type 0 = λ es. RunsTo is.start es (is.lines ++ first) next end in
    record {
      start = is.start;
      starts = is.starts;
      sound = is.sound;
      lines = is.lines ++ first;
      end = end;
      runs = subst Q (sym (take-one r.events r.taken e next-is)) both;
      goes_on = λ none. goes-on (end_with (panics_in r.state e) (is_over next)) none;
      ends = has-ended (panics_in r.state e) (is_over next);
      before = below_more (GoesOnAfter is.start new) r.taken (λ m less. keeps m (omega (arith, less)) (is.before m less))
          (keeps r.taken (omega arith) (record { lines = is.lines; state = r.state; runs = before; printed = is.printed }));
      within = λ k. (let far = says.far k in omega (arith, far));
      printed = λ k.
          text_append is.lines first
          ∙ ap (λ (t : List ℕ). t ++ text first) (is.printed (says.before k) ∙ sym (first-kept r.told told r.taken says.grows (is.within (says.before k))))
          ∙ ap (λ (t : List ℕ). text_of_first told r.taken ++ t) (sym (says.told k))
          ∙ sym (first-more told r.taken (says.far k));
    }

-- the first of copies that come first
pub take-copies : {X : Type 0} (k n : ℕ) (x : X) (xs ys : List X) → k ≤ n → xs ≡ replicate n x ++ ys → take k xs ≡ replicate k x
take-copies k n x xs ys few is =
    let many = length-replicate n x in
    ap (take k) is ∙ take-append-le k (replicate n x) ys (omega (arith, many)) ∙ take-replicate k n x few

-- What is known after steps that print nothing: nothing of before has changed, and nothing is known to have been printed in them.
pub record AreSilent (old new : List (List ℕ)) (n k : ℕ) (was : Bool) : Type 0 where
  pub grows : was ≡ true → Grows old new
  pub silent : was ≡ true → (m : ℕ) → n ≤ m → m < n + k → text_at new m ≡ []
  pub far : was ≡ true → n + k ≤ length new

-- fewer steps are plain too
plain-fewer : (j k : ℕ) (s : Xinu) → j ≤ k → ArePlain k s → ArePlain j s
plain-fewer zero k s few plain = tt
plain-fewer (suc j) zero s few plain = absurd (omega (arith, few))
plain-fewer (suc j) (suc k) s few plain = (plain.0, plain-fewer j k (stepped s).state (omega (arith, few)) plain.1)

-- a run that took steps which print nothing
ran-steps : (r : Replayed) (k n : ℕ) (rest : List Event) (is : IsReplayed r) → r.over ≡ false → k ≤ n → drop r.taken r.events ≡ replicate n Step ++ rest
    → ArePlain k r.state → RunsTo is.start (take (r.taken + k) r.events) (is.lines ++ []) (stepped_times k r.state) Schedule
ran-steps r k n rest is goes few ahead plain =
    let next = stepped_times k r.state in
    let before : RunsTo is.start (take r.taken r.events) is.lines r.state Schedule =
    (let P : End → Type 0 = λ x. RunsTo is.start (take r.taken r.events) is.lines r.state x in subst P (is.goes_on goes) is.runs) in
    let steps : RunsTo r.state (replicate k Step ++ []) [] next Schedule = run_after k r.state [] [] next Schedule plain (refl, refl, refl) in
    let both = run-joined (take r.taken r.events) (replicate k Step ++ []) is.start r.state next is.lines [] Schedule before steps in
    let some : take (r.taken + k) r.events ≡ take r.taken r.events ++ (replicate k Step ++ []) =
    take-add r.taken k r.events ∙ ap (λ (xs : List Event). take r.taken r.events ++ xs)
    (take-copies k n Step (drop r.taken r.events) rest few ahead ∙ sym (append-nil (replicate k Step))) in
    let Q : List Event → Type 0 = λ es. RunsTo is.start es (is.lines ++ []) next Schedule in
    subst Q (sym some) both

-- and what it printed
ran-silent : (r : Replayed) (j k : ℕ) (told : List (List ℕ)) (is : IsReplayed r) → j ≤ k → AreSilent r.told told r.taken k r.known → r.known ≡ true
    → text (is.lines ++ []) ≡ text_of_first told (r.taken + j)
ran-silent r j k told is few quiet known =
    ap text (append-nil is.lines)
    ∙ is.printed known
    ∙ sym (first-kept r.told told r.taken (quiet.grows known) (is.within known))
    ∙ sym (first-silent told r.taken j (let far = quiet.far known in omega (arith, far, few)) (λ m low high. quiet.silent known m low (omega (arith, high, few))))

-- the state after steps that print nothing
pub replayed-steps : (r : Replayed) (k n : ℕ) (rest : List Event) (told : List (List ℕ)) → IsReplayed r → r.over ≡ false → k ≤ n
    → drop r.taken r.events ≡ replicate n Step ++ rest → ArePlain k r.state → AreSilent r.told told r.taken k r.known
    → IsReplayed (record r { taken = r.taken + k; state = stepped_times k r.state; told = told })
replayed-steps r k n rest told is goes few ahead plain quiet =
    let new : Replayed = record r { taken = r.taken + k; state = stepped_times k r.state; told = told } in
    record {
      start = is.start;
      starts = is.starts;
      sound = is.sound;
      lines = is.lines ++ [];
      end = Schedule;
      runs = ran-steps r k n rest is goes few ahead plain;
      goes_on = λ none. refl;
      ends = λ over. absurd (cc (over, goes));
      before = all-below (GoesOnAfter is.start new) r.taken k
          (λ m less.
          kept-before is.start r new m refl quiet.grows (λ known. known) (λ known. (let far = is.within known in omega (arith, far, less))) (is.before m less))
          (λ j less. record {
            lines = is.lines ++ [];
            state = stepped_times j r.state;
            runs = ran-steps r j n rest is goes (omega (arith, less, few)) ahead (plain-fewer j k r.state (omega (arith, less)) plain);
            printed = ran-silent r j k told is (omega (arith, less)) quiet;
          });
      within = λ known. quiet.far known;
      printed = ran-silent r k k told is (omega arith) quiet;
    }

-- the same of the state and the end that are said in other words
pub replayed-event-to : (r : Replayed) (e : Event) (first : List TranscriptLine) (next : Xinu) (over : Bool) (told : List (List ℕ)) (known : Bool)
    → IsReplayed r → r.over ≡ false → slice_get r.events r.taken ≡ Some e → Happens r.state e first next
    → over ≡ is_some (end_with (panics_in r.state e) (is_over next)) → IsTold r.told told r.taken r.known known first
    → IsReplayed (record r { taken = r.taken + 1; state = next; over = over; told = told; known = known })
replayed-event-to r e first next over told known is goes next-is happens same says =
    let P : Bool → Type 0 = λ o. IsReplayed (record r { taken = r.taken + 1; state = next; over = o; told = told; known = known }) in
    subst P (sym same) (replayed-event r e first next told known is goes next-is happens says)

pub replayed-steps-to : (r : Replayed) (k n : ℕ) (rest : List Event) (next : Xinu) (over : Bool) (told : List (List ℕ)) → IsReplayed r → r.over ≡ false
    → k ≤ n → drop r.taken r.events ≡ replicate n Step ++ rest → ArePlain k r.state → next ≡ stepped_times k r.state → over ≡ false
    → AreSilent r.told told r.taken k r.known → IsReplayed (record r { taken = r.taken + k; state = next; over = over; told = told })
replayed-steps-to r k n rest next over told is goes few ahead plain state same quiet =
    let P : Bool → Type 0 = λ o. IsReplayed (record r { taken = r.taken + k; state = next; over = o; told = told }) in
    let Q : Xinu → Type 0 = λ s. IsReplayed (record r { taken = r.taken + k; state = s; told = told }) in
    subst P (goes ∙ sym same) (subst Q (sym state) (replayed-steps r k n rest told is goes few ahead plain quiet))
