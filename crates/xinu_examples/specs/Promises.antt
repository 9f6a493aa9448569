-- Examples: who runs, when a sleeper wakes, and whom a semaphore lets in.
use Rattle.std.specs.Prelude.{List, [], ◌∷◌, pos, negsuc}
use Rattle.xinu_base.specs.declared.lines.TranscriptLine.{TranscriptLine}
use Rattle.xinu_base.specs.declared.lines.TranscriptLine.TheVariants.{Call, Return, Switch}
use Rattle.xinu_examples.specs.NamedCalls.{sys_exit, sys_getpid, sys_kill, sys_receive, sys_semcount, sys_semcreate, sys_send, sys_signal, sys_signaln, sys_sleepms, sys_wait}
use Rattle.xinu_examples.specs.Played.{Example, Steps, Ticks, system}

-- The highest priority runs: a process that gets a message runs before the one that sent it goes on.
abbrev pub message_preempts : Example
message_preempts = record {
  start = system (30 ∷ 20 ∷ []) 4096 8;
  programs =
      (sys_receive ∷ []) ∷
      (sys_send 1 7 ∷ sys_getpid ∷ []) ∷
      [];
  turns = Steps 100 ∷ [];
}

abbrev pub message_preempts_lines : List TranscriptLine
message_preempts_lines =
    Switch 1 ∷ Call 1 sys_receive ∷ Switch 2 ∷ Call 2 (sys_send 1 7) ∷ Return 2 (pos 0) ∷
    Switch 1 ∷ Return 1 (pos 7) ∷
    []

-- Among equals each has its turn: the last of three waits for three ticks, and runs in the fourth.
abbrev pub third_waits : Example
third_waits = record {
  start = system (20 ∷ 20 ∷ 20 ∷ []) 4096 8;
  programs = [] ∷ [] ∷ [] ∷ [];
  turns = Ticks 3 ∷ [];
}

abbrev pub third_waits_lines : List TranscriptLine
third_waits_lines = Switch 1 ∷ Switch 2 ∷ []

abbrev pub third_runs : Example
third_runs = record third_waits { turns = Ticks 4 ∷ [] }

abbrev pub third_runs_lines : List TranscriptLine
third_runs_lines = Switch 1 ∷ Switch 2 ∷ Switch 3 ∷ []

-- A sleeper doesn't wake before its tick, and wakes in it.
abbrev pub sleeper_sleeps : Example
sleeper_sleeps = record {
  start = system (30 ∷ 20 ∷ []) 4096 8;
  programs = (sys_sleepms 3 ∷ []) ∷ [] ∷ [];
  turns = Steps 100 ∷ Ticks 2 ∷ [];
}

abbrev pub sleeper_sleeps_lines : List TranscriptLine
sleeper_sleeps_lines = Switch 1 ∷ Call 1 (sys_sleepms 3) ∷ Switch 2 ∷ []

abbrev pub sleeper_wakes : Example
sleeper_wakes = record sleeper_sleeps { turns = Steps 100 ∷ Ticks 3 ∷ [] }

abbrev pub sleeper_wakes_lines : List TranscriptLine
sleeper_wakes_lines =
    Switch 1 ∷ Call 1 (sys_sleepms 3) ∷ Switch 2 ∷ Return 1 (pos 0) ∷ Switch 1 ∷
    []

-- Waiters go on in the order in which they came, also if a later one has a higher priority.
abbrev pub first_come : Example
first_come = record {
  start = system (30 ∷ 40 ∷ 20 ∷ []) 4096 8;
  programs =
      (sys_semcreate 0 ∷ sys_wait 4 ∷ sys_exit ∷ []) ∷
      (sys_sleepms 1 ∷ sys_wait 4 ∷ sys_exit ∷ []) ∷
      (sys_sleepms 2 ∷ sys_signal 4 ∷ sys_signal 4 ∷ []) ∷
      [];
  turns = Steps 100 ∷ Ticks 1 ∷ Steps 100 ∷ Ticks 1 ∷ Steps 100 ∷ [];
}

abbrev pub first_come_lines : List TranscriptLine
first_come_lines =
    Switch 2 ∷ Call 2 (sys_sleepms 1) ∷ Switch 1 ∷ Call 1 (sys_semcreate 0) ∷ Return 1 (pos 4) ∷
    Call 1 (sys_wait 4) ∷ Switch 3 ∷ Call 3 (sys_sleepms 2) ∷ Switch 0 ∷ Return 2 (pos 0) ∷
    Switch 2 ∷ Call 2 (sys_wait 4) ∷ Switch 0 ∷ Return 3 (pos 0) ∷ Switch 3 ∷
    Call 3 (sys_signal 4) ∷ Return 1 (pos 0) ∷ Return 3 (pos 0) ∷ Switch 1 ∷ Call 1 sys_exit ∷
    Switch 3 ∷ Call 3 (sys_signal 4) ∷ Return 2 (pos 0) ∷ Return 3 (pos 0) ∷ Switch 2 ∷
    Call 2 sys_exit ∷ Switch 3 ∷
    []

-- The count is what it was, the signals and the killed waiters, less the waits: here 1 and 3 and 1, less 3.
abbrev pub count_adds_up : Example
count_adds_up = record {
  start = system (30 ∷ 30 ∷ 20 ∷ []) 4096 8;
  programs =
      (sys_semcreate 1 ∷ sys_wait 4 ∷ sys_wait 4 ∷ sys_exit ∷ []) ∷
      (sys_wait 4 ∷ []) ∷
      (sys_semcount 4 ∷ sys_kill 2 ∷ sys_semcount 4 ∷ sys_signaln 4 3 ∷ sys_semcount 4 ∷ []) ∷
      [];
  turns = Steps 100 ∷ [];
}

abbrev pub count_adds_up_lines : List TranscriptLine
count_adds_up_lines =
    Switch 1 ∷ Call 1 (sys_semcreate 1) ∷ Return 1 (pos 4) ∷ Call 1 (sys_wait 4) ∷ Return 1 (pos 0) ∷
    Call 1 (sys_wait 4) ∷ Switch 2 ∷ Call 2 (sys_wait 4) ∷ Switch 3 ∷ Call 3 (sys_semcount 4) ∷
    Return 3 (negsuc 1) ∷ Call 3 (sys_kill 2) ∷ Return 3 (pos 0) ∷ Call 3 (sys_semcount 4) ∷ Return 3 (negsuc 0) ∷
    Call 3 (sys_signaln 4 3) ∷ Return 1 (pos 0) ∷ Return 3 (pos 0) ∷ Switch 1 ∷ Call 1 sys_exit ∷
    Switch 3 ∷ Call 3 (sys_semcount 4) ∷ Return 3 (pos 2) ∷
    []

-- One process at a time is between its `wait` and its `signal`: the other one waits until then, though it runs.
abbrev pub one_at_a_time : Example
one_at_a_time = record {
  start = system (20 ∷ 20 ∷ []) 4096 8;
  programs =
      (sys_semcreate 1 ∷ sys_wait 4 ∷ sys_signal 4 ∷ []) ∷
      (sys_wait 4 ∷ sys_signal 4 ∷ []) ∷
      [];
  turns = Steps 2 ∷ Ticks 2 ∷ Steps 100 ∷ [];
}

abbrev pub one_at_a_time_lines : List TranscriptLine
one_at_a_time_lines =
    Switch 1 ∷ Call 1 (sys_semcreate 1) ∷ Return 1 (pos 4) ∷ Call 1 (sys_wait 4) ∷ Return 1 (pos 0) ∷
    Switch 2 ∷ Call 2 (sys_wait 4) ∷ Switch 1 ∷ Call 1 (sys_signal 4) ∷ Return 2 (pos 0) ∷
    Return 1 (pos 0) ∷ Switch 2 ∷ Call 2 (sys_signal 4) ∷ Return 2 (pos 0) ∷
    []
