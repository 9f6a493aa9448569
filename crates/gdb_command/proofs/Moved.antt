-- The run moves, or is watched for something else.
use Rattle.std.proofs.Common.{◌≡◌, ℕ, List, true, Result, rules, sym, subst, inl, inr}
use Rattle.std.specs.Prelude.{OnErr, codes}
use Rattle.gdb_answers.specs.Stops.{stop_text}
use Rattle.gdb_command.specs.Answered.{IsAnswered}
use Rattle.gdb_command.specs.Console.{ShowsDigits}
use Rattle.gdb_command.specs.Deeds.{IsMovedBack, IsMovedOn, IsPointed, IsSet}
use Rattle.gdb_command.specs.Held.{Held, held, standing}
use Rattle.gdb_command.specs.declared.session.Session.{Session}
use Rattle.gdb_packets.specs.declared.commands.PointKind.{PointKind}
use Rattle.gdb_packets.specs.declared.commands.PointKind.TheVariants.{Break, Write}
use Rattle.watched_run.specs.Backward.{StopsBack, untold}
use Rattle.watched_run.specs.Moves.{Stops, orders_of, told_by}
use Rattle.watched_run.specs.declared.goals.Goal.{Goal}
use Rattle.watched_run.specs.declared.stopped.Stopped.{Stopped}
use Rattle.watched_run.specs.declared.watched.WatchedRun.{WatchedRun}

-- it went on to where it stops
pub moved-on : (goal : Goal) (old new : Held) (run : WatchedRun) (stopped : Stopped) (digits before shown sent : List ℕ)
    → Stops (orders_of goal old.run) old.run.replay run.replay stopped → orders_of goal run ≡ told_by stopped.stop run.replay.taken (orders_of goal old.run)
    → ShowsDigits digits before shown
    → IsAnswered (standing stopped.stop stopped.process (record old { run = run })) new (stop_text stopped.stop stopped.process) shown sent
    → IsMovedOn goal old new before sent
moved-on goal old new run stopped digits before shown sent stops told shows answers = record {
  run = run;
  stopped = stopped;
  goes = record { stops = stops; told = told };
  digits = digits;
  shown = shown;
  shows = shows;
  answers = answers;
}

-- it went back to where it stops
pub moved-back : (goal : Goal) (old new : Held) (run : WatchedRun) (stopped : Stopped) (before sent : List ℕ)
    → (old.run.replay.known ≡ true → StopsBack (orders_of goal old.run) old.run.replay run.replay stopped)
    → orders_of goal run ≡ untold (orders_of goal old.run)
    → IsAnswered (standing stopped.stop stopped.process (record old { run = run })) new (stop_text stopped.stop stopped.process) before sent
    → IsMovedBack goal old new before sent
moved-back goal old new run stopped before sent stops told answers = record {
  run = run;
  stopped = stopped;
  goes = record { stops = stops; told = told };
  answers = answers;
}

pub pointed : (old new : Held) (run : WatchedRun) (text before sent : List ℕ) → run.replay ≡ old.run.replay
    → IsAnswered (record old { run = run }) new text before sent → IsPointed old new text before sent
pointed old new run text before sent stays answers = record { run = run; stays = stays; answers = answers }

-- what the session holds then
pub pointed-in : (old mid new : Session) (run : WatchedRun) (text before sent : List ℕ) → mid ≡ record old { run = run } → run.replay ≡ old.run.replay
    → IsAnswered (held mid) (held new) text before sent → IsPointed (held old) (held new) text before sent
pointed-in old mid new run text before sent is stays answers =
    pointed (held old) (held new) run text before sent stays (subst (λ (s : Session). IsAnswered (held s) (held new) text before sent) is answers)

pub set-break : (kind : PointKind) (old new : Held) (before sent : List ℕ) → kind ≡ Break → IsPointed old new (codes "OK") before sent → IsSet kind old new before sent
set-break kind old new before sent is p = subst (λ (k : PointKind). IsSet k old new before sent) (sym is) p

pub set-write : (kind : PointKind) (old new : Held) (before sent : List ℕ) → kind ≡ Write → IsPointed old new (codes "OK") before sent → IsSet kind old new before sent
set-write kind old new before sent is p = subst (λ (k : PointKind). IsSet k old new before sent) (sym is) (inl p)

pub not-set : (kind : PointKind) (old new : Held) (before sent : List ℕ) → kind ≡ Write → IsPointed old new (codes "E01") before sent → IsSet kind old new before sent
not-set kind old new before sent is p = subst (λ (k : PointKind). IsSet k old new before sent) (sym is) (inr p)

-- what comes of a result that is bad
pub on-err : {T E A : Type 0} (r : Result T E) → A → OnErr r A
on-err r a = search rules
