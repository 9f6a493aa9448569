-- The lines of a run, event by event.
use Rattle.std.proofs.Common.{◌≡◌, ◌∙◌, ◌+◌, ◌<◌, ◌≤◌, ◌||◌, ◌==◌, ℕ, suc, Bool, true, false, List, [], ◌∷◌, ◌++◌, take, drop, length, Option, Some, None, refl, sym, ap, subst, arith, append-nil, drop-cons}
use Rattle.std.proofs.lemmas.Option.{slice_get_within, get_or_from_slice_get}
use Rattle.std.proofs.Math.Seq.{take-add}
use Rattle.std.specs.Prelude.{is_some, unwrap_or, slice_get}
use Rattle.xinu_base.specs.declared.events.Event.{Event}
use Rattle.xinu_base.specs.declared.events.End.{End}
use Rattle.xinu_base.specs.declared.events.End.TheVariants.{Schedule}
use Rattle.xinu_base.specs.declared.lines.TranscriptLine.{TranscriptLine}
use Rattle.xinu_model.specs.Events.{Happens, panics_in}
use Rattle.xinu_model.specs.Machine.{Xinu}
use Rattle.xinu_model.specs.Runs.{Follows, RunsTo, end_with, is_over}
use Rattle.transcript_laws.proofs.Texts.{text_append}
use Rattle.xinu_model.specs.Text.{text}
use Rattle.gdb_command.specs.Monitored.{IsTranscript, StandsAt}
use Rattle.gdb_command.specs.Transcripts.{TakesOne}
use Rattle.replayed_run.proofs.Joined.{run-joined}
use Rattle.replayed_run.specs.Replayed.{IsReplayed, Replayed, is_at_end}

-- what follows an event that is the last
follows-last : (o : Option End) (first : List TranscriptLine) (mid : Xinu)
    → Follows o (λ rest. RunsTo mid [] rest mid (unwrap_or o Schedule)) first first mid mid (unwrap_or o Schedule)
follows-last None first mid = ([], (refl, refl, refl), sym (append-nil first))
follows-last (Some end) first mid = (refl, refl, refl)

-- a run of one event
run-one : (old : Xinu) (e : Event) (first : List TranscriptLine) (mid : Xinu) → Happens old e first mid
    → RunsTo old (e ∷ []) first mid (unwrap_or (end_with (panics_in old e) (is_over mid)) Schedule)
run-one old e first mid happens = (mid, first, happens, follows-last (end_with (panics_in old e) (is_over mid)) first mid)

-- no event ended it
goes-on : (o : Option End) → is_some o ≡ false → unwrap_or o Schedule ≡ Schedule
goes-on None none = refl
goes-on (Some end) none = absurd (cc)

-- one event more
take-one : (events : List Event) (n : ℕ) (e : Event) → slice_get events n ≡ Some e → take (n + 1) events ≡ take n events ++ e ∷ []
take-one events n e is =
    let within = slice_get_within events n e is in
    let cut : drop n events ≡ e ∷ drop (suc n) events =
    drop-cons events n e within ∙ ap (λ (x : Event). x ∷ drop (suc n) events) (get_or_from_slice_get events n e e is) in
    take-add n 1 events ∙ ap (λ (xs : List Event). take n events ++ take 1 xs) cut

-- neither of two
neither : (a b : Bool) → (a || b) ≡ false → a ≡ false
neither true b is = absurd (cc)
neither false b is = refl

-- no event was taken
none-taken : (n : ℕ) → n ≤ 0 → n ≡ 0
none-taken n few = omega (arith, few)

pub transcript-none : (r : Replayed) (bytes : List ℕ) → IsReplayed r → r.taken ≤ 0 → bytes ≡ [] → IsTranscript r bytes
transcript-none r bytes is few none =
    let P : List Event → Type 0 = λ es. RunsTo is.start es is.lines r.state is.end in
    let run = subst P (ap (λ (n : ℕ). take n r.events) (none-taken r.taken few)) is.runs in
    record {
      start = is.start;
      starts = is.starts;
      lines = is.lines;
      end = is.end;
      runs = is.runs;
      goes_on = is.goes_on;
      printed = none ∙ sym (ap text run.0);
    }

-- a run that took one event more
more-lines : (r : Replayed) (e : Event) (first : List TranscriptLine) (next : Xinu) (told : List (List ℕ)) (known : Bool) (before after : List ℕ)
    → IsTranscript r before → r.over ≡ false → slice_get r.events r.taken ≡ Some e → Happens r.state e first next → after ≡ before ++ text first
    → IsTranscript (record r { taken = r.taken + 1; state = next; over = is_some (end_with (panics_in r.state e) (is_over next)); told = told; known = known })
    after
more-lines r e first next told known before after is goes comes happens more =
    let end = unwrap_or (end_with (panics_in r.state e) (is_over next)) Schedule in
    let ran : RunsTo is.start (take r.taken r.events) is.lines r.state Schedule =
    (let P : End → Type 0 = λ x. RunsTo is.start (take r.taken r.events) is.lines r.state x in subst P (is.goes_on goes) is.runs) in
    let both = run-joined (take r.taken r.events) (e ∷ []) is.start r.state next is.lines first end ran (run-one r.state e first next happens) in
    let Q : List Event → Type 0 = λ es. RunsTo is.start es (is.lines ++ first) next end in
    record {
      start = is.start;
      starts = is.starts;
      lines = is.lines ++ first;
      end = end;
      runs = subst Q (sym (take-one r.events r.taken e comes)) both;
      goes_on = λ none. goes-on (end_with (panics_in r.state e) (is_over next)) none;
      printed = more ∙ ap (λ (t : List ℕ). t ++ text first) is.printed ∙ sym (text_append is.lines first);
    }

pub transcript-more : (r s : Replayed) (before after : List ℕ) → IsTranscript r before → is_at_end r ≡ false → TakesOne r s before after → IsTranscript s after
transcript-more r s before after is goes one =
    let t = one.takes in
    let P : Replayed → Type 0 = λ x. IsTranscript x after in
    subst P (sym t.changes)
    (more-lines r t.event t.happens.lines s.state s.told s.known before after is (neither r.over (r.taken == length r.events) goes) t.next t.happens.happens
    (one.appends ∙ ap (λ (x : List ℕ). before ++ x) t.happens.bytes))

-- one event more was taken
pub taken-more : (r s : Replayed) (before after : List ℕ) → TakesOne r s before after → s.taken ≡ r.taken + 1
taken-more r s before after one = ap (λ (x : Replayed). x.taken) one.takes.changes

-- there were fewer
pub within-more : (count n : ℕ) (r s : Replayed) (before after : List ℕ) → TakesOne r s before after → n ≡ r.taken → n < count → s.taken ≤ count
within-more count n r s before after one is few = (let more = taken-more r s before after one in omega (arith, more, is, few))

-- it stands where it stood, or at its end
either-way : (a b : Bool) → b ≡ true → (a || b) ≡ true
either-way true b is = refl
either-way false b is = is

same-number : (m n : ℕ) → m ≤ n → n ≤ m → (m == n) ≡ true
same-number m n low high = grind arith

left-way : (a b : Bool) → a ≡ true → (a || b) ≡ true
left-way true b is = refl
left-way false b is = absurd (cc)

pub stands-at-end : (count : ℕ) (r : Replayed) → r.taken ≤ count → is_at_end r ≡ true → StandsAt count r
stands-at-end count r within end = record { reached = either-way (r.taken == count) (is_at_end r) end; within = within }

pub stands-there : (count : ℕ) (r : Replayed) → r.taken ≤ count → count ≤ r.taken → StandsAt count r
stands-there count r within far = record { reached = left-way (r.taken == count) (is_at_end r) (same-number r.taken count within far); within = within }
