-- Runs and their histories.
use Rattle.std.proofs.Common.{ℕ, zero, suc, ◌+◌, ◌≤◌, List, [], ◌∷◌, ◌++◌, get_or, Option, Some, None, refl, sym, subst, arith}
use Rattle.std.specs.List.{Contains}
use Rattle.std.proofs.lemmas.List.Elements.{All-contains}
use Rattle.xinu_base.specs.declared.events.End.{End}
use Rattle.xinu_base.specs.declared.events.End.TheVariants.{Schedule}
use Rattle.xinu_base.specs.declared.events.Event.{Event}
use Rattle.xinu_base.specs.declared.lines.TranscriptLine.{TranscriptLine}
use Rattle.xinu_model.specs.Events.{panics_in}
use Rattle.xinu_model.specs.Machine.{Xinu}
use Rattle.xinu_model.specs.Runs.{Follows, RunsTo, end_with, is_over}
use Rattle.happens_before.specs.Histories.{Edge, IsHistory, Moment, nothing_happens}
use Rattle.data_races.specs.Ledger.{Ledger, first_ledger}
use Rattle.data_races.specs.Runs.{FollowsMoment, GoesOn, HasHistory, call_in, ledger_in, moment_in}
use Rattle.data_races.specs.Changes.{stepper_of}
use Rattle.data_races.proofs.Kept.{EarlyEdge, Holds, UpTo, edges_up, first_up_to, later_up, ledger_up}

-- The edges of each moment are early, if the first one is event n.
AreEarly : ℕ → List Moment → Type 0
AreEarly n [] = Unit {0}
AreEarly n (m ∷ h) = Holds (EarlyEdge n) m.edges × AreEarly (suc n) h

follow_early : (n : ℕ) (o : Option End) (Rest : List Moment → Type 0) (m : Moment) (h : List Moment) (mid new : Xinu) →
    Holds (EarlyEdge n) m.edges → ((rest : List Moment) → Rest rest → AreEarly (suc n) rest) → FollowsMoment o Rest m h mid new → AreEarly n h
unfolding AreEarly
follow_early n (Some end) Rest m h mid new here later follows = subst (AreEarly n) (sym follows.0) (here, tt)
follow_early n None Rest m h mid new here later follows = subst (AreEarly n) (sym follows.2) (here, later follows.0 follows.1)

goes_early : (n : ℕ) (ledger : Ledger) (old : Xinu) (events : List Event) (h : List Moment) (new : Xinu) → UpTo n ledger →
    GoesOn n ledger old events h new → AreEarly n h
unfolding AreEarly
goes_early n ledger old [] h new up goes = subst (AreEarly n) (sym goes.0) tt
goes_early n ledger old (e ∷ events) h new up goes =
    follow_early n (end_with (panics_in old e) (is_over goes.0)) (λ rest. GoesOn (suc n) (ledger_in n ledger old e goes.0) goes.0 events rest new)
    (moment_in n ledger old e goes.0) h goes.0 new
    (edges_up n (stepper_of old e) (call_in (stepper_of old e) old) old goes.0 ledger up)
    (λ rest later. goes_early (suc n) (ledger_in n ledger old e goes.0) goes.0 events rest new
    (later_up n (ledger_in n ledger old e goes.0) (ledger_up n (stepper_of old e) (call_in (stepper_of old e) old) old goes.0 ledger up)) later)
    goes.3

edges_at : (n : ℕ) (h : List Moment) (k : ℕ) (e : Edge) → AreEarly n h → Contains (get_or h k nothing_happens).edges e → e.event ≤ n + k
unfolding AreEarly
edges_at n [] k e early held = absurd (omega (arith, held.1))
edges_at n (m ∷ h) zero e early held =
    let found : EarlyEdge n e = All-contains (EarlyEdge n) m.edges e early.0.each held in omega (arith, found.early)
edges_at n (m ∷ h) (suc k) e early held = omega (arith, edges_at (suc n) h k e early.1 held)

pub is_history : (start : Xinu) (events : List Event) (h : List Moment) (new : Xinu) → HasHistory start events h new → IsHistory h
is_history start events h new goes zero e held = absurd (omega (arith, held.1))
is_history start events h new goes (suc n) e held =
    omega (arith, edges_at 1 h n e (goes_early 1 first_ledger start events h new (first_up_to 1) goes) held)

-- a run has a history
follow_on : (o : Option End) (Lines : List TranscriptLine → Type 0) (Rest : List Moment → Type 0) (first lines : List TranscriptLine) (m : Moment)
    (mid new : Xinu) (end : End) → ((rest : List TranscriptLine) → Lines rest → (h : List Moment) × Rest h) → Follows o Lines first lines mid new end →
    (h : List Moment) × FollowsMoment o Rest m h mid new
follow_on (Some with_event) Lines Rest first lines m mid new end later follows = (m ∷ [], (refl, follows.1))
follow_on None Lines Rest first lines m mid new end later follows =
    let found : (h : List Moment) × Rest h = later follows.0 follows.1 in (m ∷ found.0, (found.0, found.1, refl))

pub goes_on : (n : ℕ) (ledger : Ledger) (old : Xinu) (events : List Event) (lines : List TranscriptLine) (new : Xinu) (end : End) →
    RunsTo old events lines new end → (h : List Moment) × GoesOn n ledger old events h new
goes_on n ledger old [] lines new end runs = ([], (refl, runs.1))
goes_on n ledger old (e ∷ events) lines new end runs =
    let mid : Xinu = runs.0 in
    let found : (h : List Moment) × FollowsMoment (end_with (panics_in old e) (is_over mid)) (λ rest. GoesOn (suc n) (ledger_in n ledger old e mid) mid events rest new)
    (moment_in n ledger old e mid) h mid new =
    follow_on (end_with (panics_in old e) (is_over mid)) (λ rest. RunsTo mid events rest new end) _ runs.1 lines (moment_in n ledger old e mid) mid new end
    (λ rest later. goes_on (suc n) (ledger_in n ledger old e mid) mid events rest new end later) runs.3 in
    (found.0, (mid, runs.1, runs.2, found.1))

-- and a history is that of a run
follow_back : (o : Option End) (Lines : End → List TranscriptLine → Type 0) (Rest : List Moment → Type 0) (first : List TranscriptLine) (m : Moment)
    (h : List Moment) (mid new : Xinu) → ((rest : List Moment) → Rest rest → (end : End) × (lines : List TranscriptLine) × Lines end lines) →
    FollowsMoment o Rest m h mid new → (end : End) × (lines : List TranscriptLine) × Follows o (Lines end) first lines mid new end
follow_back (Some end) Lines Rest first m h mid new later follows = (end, first, (refl, follows.1, refl))
follow_back None Lines Rest first m h mid new later follows =
    let found : (end : End) × (lines : List TranscriptLine) × Lines end lines = later follows.0 follows.1 in
    (found.0, first ++ found.1, (found.1, found.2, refl))

pub goes_back : (n : ℕ) (ledger : Ledger) (old : Xinu) (events : List Event) (h : List Moment) (new : Xinu) → GoesOn n ledger old events h new →
    (end : End) × (lines : List TranscriptLine) × RunsTo old events lines new end
goes_back n ledger old [] h new goes = (Schedule, [], (refl, goes.1, refl))
goes_back n ledger old (e ∷ events) h new goes =
    let mid : Xinu = goes.0 in
    let found : (end : End) × (lines : List TranscriptLine) × Follows (end_with (panics_in old e) (is_over mid)) (λ rest. RunsTo mid events rest new end) goes.1 lines mid new end =
    follow_back (end_with (panics_in old e) (is_over mid)) (λ end rest. RunsTo mid events rest new end) _ goes.1 (moment_in n ledger old e mid) h mid new
    (λ rest later. goes_back (suc n) (ledger_in n ledger old e mid) mid events rest new later) goes.3 in
    (found.0, found.1, (mid, goes.1, goes.2, found.2))
