-- How the search and the command end.
use Rattle.std.proofs.Common.{◌≡◌, ◌∙◌, ℕ, ◌≤◌, ◌<◌, ◌+◌, Bool, true, false, List, [], length, map, length-append, Option, Some, None, refl, sym, ap, subst, arith}
use Rattle.std.specs.Prelude.{Result, Ok, Err, MatchResult, option_map}
use denote.Ref.{Bor}
use Rattle.std.specs.List.{sum}
use Rattle.std.proofs.lemmas.List.{length-map}
use Rattle.host_port.specs.Outside.{Outside, appended, counted}
use Rattle.host_port.specs.declared.host.Channel.TheVariants.{Out}
use Rattle.kernel_boot.specs.declared.initialize.BootFault.{BootFault}
use Rattle.kernel_boot.specs.declared.initialize.BootFault.TheVariants as boot
use Rattle.preemptions.specs.Placements.{placements}
use Rattle.race_runs.specs.Runs.{IsRefused}
use Rattle.race_runs.specs.Explored.{Explores, ExploresSome}
use Rattle.race_runs.specs.Forced.{AreForced}
use Rattle.race_tables.specs.Rows.{Row, Run, rows}
use Rattle.race_runs.proofs.Exploring.{under_way-start}
use Rattle.preemptions.proofs.Fewness.{few_placements}
use Rattle.race_tables.proofs.Tables.{adds_up}
use Rattle.preemptions.proofs.Members.{all_placements}
use Rattle.run_inputs.specs.Conversions.{boot_refusal}
use Rattle.run_inputs.specs.declared.causes.Cause.TheVariants as why
use Rattle.run_inputs.specs.declared.refusals.Refusal.TheVariants as refusal
use Rattle.xinu_base.specs.declared.events.Event.{Event}
use Rattle.xinu_model.specs.Boot.{Disks, Loaded}
use Rattle.races_command.specs.Printed.{table_text}
use Rattle.races_command.specs.Searching.{BreaksOff, IsBreak, Searched, Searches, SendsPart, StopsIn, ended_by, found_file, unwritten, with_file}
use Rattle.races_command.specs.declared.faults.Fault.{Fault}
use Rattle.races_command.specs.declared.faults.Fault.TheVariants as fault
use Rattle.races_command.specs.Judged.{IsLongOrMemory}
use Rattle.races_command.specs.Theorem.{Goes}
use Rattle.races_command.specs.Words.{Asked}
use Rattle.races_command.proofs.Sending.{both_sent, sends_before, sends_nothing, sends_whole, sends_with}
use Rattle.preemptions.specs.declared.stretches.Stretch.{Stretch}

-- the counts of a table of placements fit
total : (table : List Row) (runs : List Run) → table ≡ rows runs → sum (map (λ row. row.count) table) ≡ length runs
total table runs is = ap (λ (t : List Row). sum (map (λ row. row.count) t)) is ∙ adds_up runs

pub all_fit : (disks : Disks) (images : List Loaded) (base : List Event) (most : ℕ) (stretch : Stretch) (table : List Row) → most ≤ 3 → stretch.within ≤ 1000000
    → Explores disks images base (placements most stretch) table → sum (map (λ row. row.count) table) < 18446744073709551616
all_fit disks images base most stretch table small few explores =
    let sized : length (map (λ (run : Run). run.places) explores.runs) ≡ length (placements most stretch) = ap (λ (ps : List (List ℕ)). length ps) explores.are in
    omega (arith, total table explores.runs explores.is, sized, length-map explores.runs (λ (run : Run). run.places), few_placements most stretch small few)

pub some_fit : (disks : Disks) (images : List Loaded) (base : List Event) (most : ℕ) (stretch : Stretch) (table : List Row) → most ≤ 3 → stretch.within ≤ 1000000
    → ExploresSome disks images base (placements most stretch) table → sum (map (λ row. row.count) table) < 18446744073709551616
some_fit disks images base most stretch table small few some =
    let sized : length (map (λ (run : Run). run.places) some.explores.runs) ≡ length some.tried = ap (λ (ps : List (List ℕ)). length ps) some.explores.are in
    let parts : length some.tried + length some.left ≡ length (placements most stretch) = sym (length-append some.tried some.left) ∙ ap (λ (ps : List (List ℕ)). length ps) some.split in
    omega (arith, total table some.explores.runs some.explores.is, sized, length-map some.explores.runs (λ (run : Run). run.places), parts, few_placements most stretch small few)

-- that nothing was chosen isn't said
none_forced : (s : Searched) → AreForced false s.disks s.images s.base (placements s.most s.stretch)
none_forced s = record { nothing = λ is. absurd (cc) }

-- no placement was gone through
pub breaks_at_once : (s : Searched) (h : Outside) → BreaksOff s h h
breaks_at_once s h =
    let start = under_way-start false s.disks s.images s.base s.most s.stretch (placements s.most s.stretch) [] refl (all_placements s.most s.stretch) in
    record {
      are_all = false;
      table = [];
      explores = record { tried = start.tried; left = placements s.most s.stretch; split = start.split; explores = start.explores };
      are_forced = false;
      forced = none_forced s;
      sends = sends_nothing (table_text false false s.most s.stretch s.base []) None h;
    }

-- the images didn't boot
pub boot_ends : (s : Searched) (f : BootFault) (h : Outside) → IsRefused s.disks s.images f → Searches s (Some (fault.Refused (why.Refused (boot_refusal f)))) h h
boot_ends s (boot.Overlap i) h is = (is, refl)
boot_ends s (boot.NoRoom i) h is = (is, refl)
boot_ends s boot.NoMemory h is = breaks_at_once s h

-- the table was sent, and then the file
pub finds : (s : Searched) (are_forced : Bool) (table : List Row) (old mid new : Outside) → Explores s.disks s.images s.base (placements s.most s.stretch) table
    → AreForced are_forced s.disks s.images s.base (placements s.most s.stretch)
    → mid ≡ counted (appended old Out (table_text true are_forced s.most s.stretch s.base table)) mid.faults
    → new ≡ counted (with_file mid (found_file s.found s.outcome s.base table)) new.faults → Searches s None old new
finds s are_forced table old mid new explores forced sent written = record {
  table = table;
  explores = explores;
  are_forced = are_forced;
  forced = forced;
  sent = both_sent (table_text true are_forced s.most s.stretch s.base table) (found_file s.found s.outcome s.base table) old mid new sent written;
}

-- sending was broken off
stops_so : (s : Searched) (are_forced : Bool) (table : List Row) (f : Fault) (old new : Outside) → Explores s.disks s.images s.base (placements s.most s.stretch) table
    → AreForced are_forced s.disks s.images s.base (placements s.most s.stretch)
    → SendsPart (table_text true are_forced s.most s.stretch s.base table) (found_file s.found s.outcome s.base table) old new → IsBreak f old.faults new.faults → Searches s (Some f) old new
stops_so s are_forced table (fault.Refused (why.Refused refusal.NoMemory)) old new explores forced sends cause = record { are_all = true; table = table; explores = explores; are_forced = are_forced; forced = forced; sends = sends }
stops_so s are_forced table (fault.Refused (why.Refused refusal.HostFault)) old new explores forced sends cause = (record { are_all = true; table = table; explores = explores; are_forced = are_forced; forced = forced; sends = sends }, cause)
stops_so s are_forced table (fault.Refused (why.Refused refusal.Usage)) old new explores forced sends cause = absurd cause
stops_so s are_forced table (fault.Refused (why.Refused (refusal.Image i k))) old new explores forced sends cause = absurd cause
stops_so s are_forced table (fault.Refused (why.Refused (refusal.Schedule l))) old new explores forced sends cause = absurd cause
stops_so s are_forced table (fault.Refused (why.Refused (refusal.Disk d b r))) old new explores forced sends cause = absurd cause
stops_so s are_forced table (fault.Refused (why.Refused (refusal.Overlap i))) old new explores forced sends cause = absurd cause
stops_so s are_forced table (fault.Refused (why.Refused (refusal.NoRoom i))) old new explores forced sends cause = absurd cause
stops_so s are_forced table (fault.Refused (why.Refused (refusal.Asm l k))) old new explores forced sends cause = absurd cause
stops_so s are_forced table (fault.Refused (why.Refused refusal.TraceTooLong)) old new explores forced sends cause = absurd cause
stops_so s are_forced table (fault.Refused (why.Refused refusal.NoSuchFile)) old new explores forced sends cause = absurd cause
stops_so s are_forced table (fault.Refused (why.Refused refusal.DoesNotFit)) old new explores forced sends cause = absurd cause
stops_so s are_forced table (fault.Refused (why.Words wrong)) old new explores forced sends cause = absurd cause
stops_so s are_forced table (fault.Refused (why.Unread name)) old new explores forced sends cause = absurd cause
stops_so s are_forced table (fault.Refused (why.Unwritten name)) old new explores forced sends cause = absurd cause
stops_so s are_forced table fault.TooMany old new explores forced sends cause = absurd cause
stops_so s are_forced table fault.TooLong old new explores forced sends cause = absurd cause
stops_so s are_forced table fault.TooFar old new explores forced sends cause = absurd cause

-- sending the table was broken off
pub table_stops : (s : Searched) (are_forced : Bool) (table one : List Row) (f : Fault) (old new : Outside) → Explores s.disks s.images s.base (placements s.most s.stretch) table
    → AreForced are_forced s.disks s.images s.base (placements s.most s.stretch)
    → one ≡ table → StopsIn (table_text true are_forced s.most s.stretch s.base one) None f old new → Searches s (Some f) old new
table_stops s are_forced table one f old new explores forced same stops =
    let whole = subst (λ (t : List Row). StopsIn (table_text true are_forced s.most s.stretch s.base t) None f old new) same stops in
    stops_so s are_forced table f old new explores forced (sends_with (table_text true are_forced s.most s.stretch s.base table) (found_file s.found s.outcome s.base table) old new whole.sends) whole.cause

-- the host failed later
breaks_later : (f : Fault) (a b c : ℕ) → a ≤ b → IsBreak f b c → IsBreak f a c
breaks_later (fault.Refused (why.Refused refusal.NoMemory)) a b c le cause = cause
breaks_later (fault.Refused (why.Refused refusal.HostFault)) a b c le cause = omega (arith, le, cause)
breaks_later (fault.Refused (why.Refused refusal.Usage)) a b c le cause = cause
breaks_later (fault.Refused (why.Refused (refusal.Image i k))) a b c le cause = cause
breaks_later (fault.Refused (why.Refused (refusal.Schedule l))) a b c le cause = cause
breaks_later (fault.Refused (why.Refused (refusal.Disk d k r))) a b c le cause = cause
breaks_later (fault.Refused (why.Refused (refusal.Overlap i))) a b c le cause = cause
breaks_later (fault.Refused (why.Refused (refusal.NoRoom i))) a b c le cause = cause
breaks_later (fault.Refused (why.Refused (refusal.Asm l k))) a b c le cause = cause
breaks_later (fault.Refused (why.Refused refusal.TraceTooLong)) a b c le cause = cause
breaks_later (fault.Refused (why.Refused refusal.NoSuchFile)) a b c le cause = cause
breaks_later (fault.Refused (why.Refused refusal.DoesNotFit)) a b c le cause = cause
breaks_later (fault.Refused (why.Words wrong)) a b c le cause = cause
breaks_later (fault.Refused (why.Unread name)) a b c le cause = cause
breaks_later (fault.Refused (why.Unwritten name)) a b c le cause = cause
breaks_later fault.TooMany a b c le cause = cause
breaks_later fault.TooLong a b c le cause = cause
breaks_later fault.TooFar a b c le cause = cause

-- a file that isn't written whole leaves what was sent before it
pub file_stops : (s : Searched) (are_forced : Bool) (table : List Row) (f : Fault) (old mid new : Outside) → Explores s.disks s.images s.base (placements s.most s.stretch) table
    → AreForced are_forced s.disks s.images s.base (placements s.most s.stretch)
    → mid ≡ counted (appended old Out (table_text true are_forced s.most s.stretch s.base table)) mid.faults → old.faults ≤ mid.faults → StopsIn [] (found_file s.found s.outcome s.base table) f mid new → Searches s (Some f) old new
file_stops s are_forced table f old mid new explores forced is later stops =
    stops_so s are_forced table f old new explores forced (sends_before (table_text true are_forced s.most s.stretch s.base table) (found_file s.found s.outcome s.base table) old mid new is later stops.sends)
    (breaks_later f old.faults mid.faults new.faults later stops.cause)

-- the table was sent; then the file was written, or that was broken off
pub file_ends : {T : Type 0} (s : Searched) (are_forced : Bool) (table one two : List Row) (r : Result T Fault) (old mid new : Outside)
    → Explores s.disks s.images s.base (placements s.most s.stretch) table → AreForced are_forced s.disks s.images s.base (placements s.most s.stretch) → one ≡ table → two ≡ table
    → mid ≡ counted (appended old Out (table_text true are_forced s.most s.stretch s.base one)) mid.faults → old.faults ≤ mid.faults
    → MatchResult r (λ _. new ≡ counted (with_file mid (found_file s.found s.outcome s.base two)) new.faults) (λ f. StopsIn [] (found_file s.found s.outcome s.base two) f mid new)
    → Searches s (ended_by r) old new
file_ends s are_forced table one two (Ok x) old mid new explores forced first second sent later written =
    finds s are_forced table old mid new explores forced
    (sent ∙ ap (λ (t : List Row). counted (appended old Out (table_text true are_forced s.most s.stretch s.base t)) mid.faults) first)
    (written ∙ ap (λ (t : List Row). counted (with_file mid (found_file s.found s.outcome s.base t)) new.faults) second)
file_ends s are_forced table one two (Err f) old mid new explores forced first second sent later stops =
    file_stops s are_forced table f old mid new explores forced
    (sent ∙ ap (λ (t : List Row). counted (appended old Out (table_text true are_forced s.most s.stretch s.base t)) mid.faults) first) later
    (subst (λ (t : List Row). StopsIn [] (found_file s.found s.outcome s.base t) f mid new) second stops)

-- memory ran out, and the table so far was sent, or a part of it
pub some_ends : {T : Type 0} (s : Searched) (table one : List Row) (r : Result T Fault) (old new : Outside)
    → ExploresSome s.disks s.images s.base (placements s.most s.stretch) table → one ≡ table
    → MatchResult r (λ _. new ≡ counted (appended old Out (table_text false false s.most s.stretch s.base one)) new.faults) (λ f. StopsIn (table_text false false s.most s.stretch s.base one) None f old new)
    → old.faults ≤ new.faults → BreaksOff s old new
some_ends s table one (Ok x) old new explores same sent later = record {
  are_all = false;
  table = table;
  explores = explores;
  are_forced = false;
  forced = none_forced s;
  sends = subst (λ (t : List Row). SendsPart (table_text false false s.most s.stretch s.base t) None old new) same (sends_whole (table_text false false s.most s.stretch s.base one) None old new sent later);
}
some_ends s table one (Err f) old new explores same stops later = record {
  are_all = false;
  table = table;
  explores = explores;
  are_forced = false;
  forced = none_forced s;
  sends = subst (λ (t : List Row). SendsPart (table_text false false s.most s.stretch s.base t) None old new) same stops.sends;
}

-- the schedule is too long, or memory ran out
pub long_ends : (a : Asked) (schedule : List Event) (s : Searched) (f : Fault) (h : Outside) → IsLongOrMemory schedule f → Goes a schedule s (Some f) h h
long_ends a schedule s fault.TooLong h long = (long, refl)
long_ends a schedule s fault.TooMany h is = subst (λ (f : Fault). Goes a schedule s (Some f) h h) (sym is) (breaks_at_once s h)
long_ends a schedule s fault.TooFar h is = subst (λ (f : Fault). Goes a schedule s (Some f) h h) (sym is) (breaks_at_once s h)
long_ends a schedule s (fault.Refused cause) h is = subst (λ (f : Fault). Goes a schedule s (Some f) h h) (sym is) (breaks_at_once s h)

-- a file that couldn't be written is named
pub unwritten_ends : (s : Searched) (found : Option (Bor (List ℕ))) (ended : Option Fault) (old new : Outside) → s.found ≡ option_map (λ n. n.now) found → Searches s ended old new
    → Searches s (unwritten found ended) old new
unwritten_ends s None None old new is searches = searches
unwritten_ends s (Some name) None old new is searches = searches
unwritten_ends s None (Some f) old new is searches = searches
unwritten_ends s (Some name) (Some (fault.Refused (why.Refused refusal.HostFault))) old new is searches = (searches.0, searches.1, is)
unwritten_ends s (Some name) (Some (fault.Refused (why.Words wrong))) old new is searches = searches
unwritten_ends s (Some name) (Some (fault.Refused (why.Unread path))) old new is searches = searches
unwritten_ends s (Some name) (Some (fault.Refused (why.Unwritten path))) old new is searches = searches
unwritten_ends s (Some name) (Some (fault.Refused (why.Refused refusal.NoMemory))) old new is searches = searches
unwritten_ends s (Some name) (Some (fault.Refused (why.Refused refusal.Usage))) old new is searches = searches
unwritten_ends s (Some name) (Some (fault.Refused (why.Refused (refusal.Image i k)))) old new is searches = searches
unwritten_ends s (Some name) (Some (fault.Refused (why.Refused (refusal.Schedule l)))) old new is searches = searches
unwritten_ends s (Some name) (Some (fault.Refused (why.Refused (refusal.Disk d b r)))) old new is searches = searches
unwritten_ends s (Some name) (Some (fault.Refused (why.Refused (refusal.Overlap i)))) old new is searches = searches
unwritten_ends s (Some name) (Some (fault.Refused (why.Refused (refusal.NoRoom i)))) old new is searches = searches
unwritten_ends s (Some name) (Some (fault.Refused (why.Refused (refusal.Asm l k)))) old new is searches = searches
unwritten_ends s (Some name) (Some (fault.Refused (why.Refused refusal.TraceTooLong))) old new is searches = searches
unwritten_ends s (Some name) (Some (fault.Refused (why.Refused refusal.NoSuchFile))) old new is searches = searches
unwritten_ends s (Some name) (Some (fault.Refused (why.Refused refusal.DoesNotFit))) old new is searches = searches
unwritten_ends s (Some name) (Some fault.TooMany) old new is searches = searches
unwritten_ends s (Some name) (Some fault.TooLong) old new is searches = searches
unwritten_ends s (Some name) (Some fault.TooFar) old new is searches = searches

-- the table was sent; then the file was written, or that was broken off, and the file is named if it couldn't be written
pub named_ends : {T : Type 0} (s : Searched) (are_forced : Bool) (table one two : List Row) (r : Result T Fault) (ended : Option Fault) (found : Option (Bor (List ℕ))) (old mid new : Outside)
    → s.found ≡ option_map (λ n. n.now) found → ended ≡ unwritten found (ended_by r)
    → Explores s.disks s.images s.base (placements s.most s.stretch) table → AreForced are_forced s.disks s.images s.base (placements s.most s.stretch) → one ≡ table → two ≡ table
    → mid ≡ counted (appended old Out (table_text true are_forced s.most s.stretch s.base one)) mid.faults → old.faults ≤ mid.faults
    → MatchResult r (λ _. new ≡ counted (with_file mid (found_file s.found s.outcome s.base two)) new.faults) (λ f. StopsIn [] (found_file s.found s.outcome s.base two) f mid new)
    → Searches s ended old new
named_ends s are_forced table one two r ended found old mid new named is explores forced first second sent later written =
    subst (λ (e : Option Fault). Searches s e old new) (sym is) (unwritten_ends s found (ended_by r) old new named (file_ends s are_forced table one two r old mid new explores forced first second sent later written))
