-- What a session holds.
use Rattle.std.specs.Prelude.{ℕ, List, unwrap_or}
use Rattle.gdb_answers.specs.Threads.{process_of}
use Rattle.gdb_answers.specs.declared.stops.Stop.{Stop}
use Rattle.gdb_command.specs.declared.session.Session.{Session}
use Rattle.gdb_packets.specs.declared.commands.Threads.{Threads}
use Rattle.gdb_packets.specs.declared.commands.Threads.TheVariants.{Any, One}
use Rattle.watched_run.specs.declared.watched.WatchedRun.{WatchedRun}
use Rattle.xinu_model.specs.Tables.{Tables}

-- the run; the process that is looked at and the one that goes on; the last stop with the process that it was told of; and the last packet that was
-- sent
pub record Held : Type 0 where
  pub run : WatchedRun
  pub look : ℕ
  pub go : ℕ
  pub stop : Stop
  pub process : ℕ
  pub sent : List ℕ

-- what a session holds, beside whether packets are acknowledged and whether it has ended
abbrev pub held : Session → Held
held s = record { run = s.run; look = s.look; go = s.go; stop = s.stop; process = s.process; sent = s.sent.items }

-- the same at a stop: its process is looked at, and goes on
abbrev pub standing : Stop → ℕ → Held → Held
standing stop p h = record h { look = p; go = p; stop = stop; process = p }

-- the process of a thread that is named; this one if none is, or if the thread is gone
abbrev pub named : Tables → Threads → ℕ → ℕ
named t Any otherwise = otherwise
named t (One thread) otherwise = unwrap_or (process_of t thread) otherwise
