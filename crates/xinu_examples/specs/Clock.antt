-- Examples: the clock.
use Rattle.std.specs.Prelude.{List, [], ◌∷◌, pos, negsuc}
use Rattle.xinu_base.specs.declared.lines.TranscriptLine.{TranscriptLine}
use Rattle.xinu_base.specs.declared.lines.TranscriptLine.TheVariants.{Call, Return, Switch, Sleeper}
use Rattle.xinu_examples.specs.NamedCalls.{sys_clktime, sys_exit, sys_kill, minus_one, sys_recvtime, sys_send, sys_sleep, sys_sleepms}
use Rattle.xinu_examples.specs.Played.{Example, Steps, Ticks, system}

-- The time of a timed receive runs out; a second message is refused if one is held.
abbrev pub timed_receive_and_sleep : Example
timed_receive_and_sleep = record {
  start = system (30 ∷ 20 ∷ []) 4096 8;
  programs =
      (sys_recvtime 5 ∷ sys_sleep 1 ∷ []) ∷
      (sys_sleepms 6 ∷ sys_send 1 77 ∷ sys_send 1 78 ∷ []) ∷
      [];
  turns = Steps 100 ∷ Ticks 5 ∷ Steps 100 ∷ Ticks 1 ∷ Steps 100 ∷ [];
}

abbrev pub timed_receive_and_sleep_lines : List TranscriptLine
timed_receive_and_sleep_lines =
    Switch 1 ∷ Call 1 (sys_recvtime 5) ∷ Switch 2 ∷ Call 2 (sys_sleepms 6) ∷ Switch 0 ∷
    Switch 1 ∷ Return 1 (negsuc 2) ∷ Call 1 (sys_sleep 1) ∷ Switch 0 ∷ Return 2 (pos 0) ∷
    Switch 2 ∷ Call 2 (sys_send 1 77) ∷ Return 2 (pos 0) ∷ Call 2 (sys_send 1 78) ∷ Return 2 (negsuc 0) ∷
    []

-- A message comes in time, and its receiver leaves the sleepers.
abbrev pub timed_receive_in_time : Example
timed_receive_in_time = record {
  start = system (30 ∷ 20 ∷ []) 4096 8;
  programs =
      (sys_recvtime 5 ∷ sys_sleep 1 ∷ []) ∷
      (sys_sleepms 4 ∷ sys_send 1 77 ∷ []) ∷
      [];
  turns = Steps 100 ∷ Ticks 4 ∷ Steps 100 ∷ [];
}

abbrev pub timed_receive_in_time_lines : List TranscriptLine
timed_receive_in_time_lines =
    Switch 1 ∷ Call 1 (sys_recvtime 5) ∷ Switch 2 ∷ Call 2 (sys_sleepms 4) ∷ Switch 0 ∷
    Return 2 (pos 0) ∷ Switch 2 ∷ Call 2 (sys_send 1 77) ∷ Return 2 (pos 0) ∷ Switch 1 ∷
    Return 1 (pos 77) ∷ Call 1 (sys_sleep 1) ∷ Switch 2 ∷
    []

-- A sleeper that is killed leaves the wake ticks of the others as they are.
abbrev pub three_sleepers_and_a_kill : Example
three_sleepers_and_a_kill = record {
  start = system (30 ∷ 30 ∷ 30 ∷ 20 ∷ []) 4096 8;
  programs =
      (sys_sleepms 5 ∷ []) ∷
      (sys_sleepms 5 ∷ sys_exit ∷ []) ∷
      (sys_sleepms 7 ∷ []) ∷
      (sys_sleepms 3 ∷ sys_kill 1 ∷ sys_recvtime 0 ∷ []) ∷
      [];
  turns = Steps 100 ∷ Ticks 3 ∷ Steps 100 ∷ Ticks 1 ∷ Steps 100 ∷ Ticks 1 ∷ Steps 100 ∷ Ticks 2 ∷ [];
}

abbrev pub three_sleepers_and_a_kill_lines : List TranscriptLine
three_sleepers_and_a_kill_lines =
    Switch 1 ∷ Call 1 (sys_sleepms 5) ∷ Switch 2 ∷ Call 2 (sys_sleepms 5) ∷ Switch 3 ∷
    Call 3 (sys_sleepms 7) ∷ Switch 4 ∷ Call 4 (sys_sleepms 3) ∷ Switch 0 ∷ Return 4 (pos 0) ∷
    Switch 4 ∷ Call 4 (sys_kill 1) ∷ Return 4 (pos 0) ∷ Call 4 (sys_recvtime 0) ∷ Switch 0 ∷
    Switch 4 ∷ Return 4 (negsuc 2) ∷ Return 2 (pos 0) ∷ Switch 2 ∷ Call 2 sys_exit ∷
    Switch 4 ∷ Return 3 (pos 0) ∷ Switch 3 ∷
    []

-- The seconds pass with the ticks; times that are negative or too long are refused.
abbrev pub seconds : Example
seconds = record {
  start = system (20 ∷ []) 4096 8;
  programs =
      (sys_clktime ∷ sys_sleepms 1000 ∷ sys_clktime ∷ sys_sleep 2147484 ∷ sys_sleepms minus_one ∷ sys_sleepms 0 ∷ []) ∷
      [];
  turns = Steps 100 ∷ Ticks 1000 ∷ Steps 100 ∷ [];
}

abbrev pub seconds_lines : List TranscriptLine
seconds_lines =
    Switch 1 ∷ Call 1 sys_clktime ∷ Return 1 (pos 0) ∷ Call 1 (sys_sleepms 1000) ∷ Switch 0 ∷
    Return 1 (pos 0) ∷ Switch 1 ∷ Call 1 sys_clktime ∷ Return 1 (pos 1) ∷ Call 1 (sys_sleep 2147484) ∷
    Return 1 (negsuc 0) ∷ Call 1 (sys_sleepms minus_one) ∷ Return 1 (negsuc 0) ∷ Call 1 (sys_sleepms 0) ∷ Return 1 (pos 0) ∷
    []

-- The longest sleep, as the tables show it.
abbrev pub longest_sleep : Example
longest_sleep = record {
  start = system (20 ∷ []) 4096 8;
  programs =
      (sys_sleepms 2147483647 ∷ []) ∷
      [];
  turns = Steps 100 ∷ [];
}

abbrev pub longest_sleep_sleepers : List TranscriptLine
longest_sleep_sleepers = Sleeper 1 2147483647 ∷ []
