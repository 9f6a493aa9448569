-- Examples: processes.
use Rattle.std.specs.Prelude.{List, None, [], codes, negsuc, pos, replicate, ◌++◌, ◌∷◌, false}
use Rattle.xinu_base.specs.declared.console.TtyMode.TheVariants.{Cooked}
use Rattle.xinu_base.specs.declared.lines.TranscriptLine.{TranscriptLine}
use Rattle.xinu_base.specs.declared.lines.TranscriptLine.TheVariants as line
use Rattle.xinu_base.specs.declared.processes.State.TheVariants.{Current, Ready}
use Rattle.xinu_base.specs.declared.lines.TranscriptLine.TheVariants.{Console, Disk0, Disk1, Free, Now, Call, Return, Switch}
use Rattle.xinu_examples.specs.NamedCalls.{sys_chprio, sys_create, sys_getprio, sys_kill, minus_one, sys_resume, sys_suspend}
use Rattle.xinu_examples.specs.Played.{Example, Steps, Ticks, system}

-- Two processes of one priority take turns at each second tick.
abbrev pub round_robin : Example
round_robin = record {
  start = system (20 ∷ 20 ∷ []) 4096 8;
  programs =
      [] ∷
      [] ∷
      [];
  turns = Steps 5 ∷ Ticks 2 ∷ Steps 5 ∷ Ticks 2 ∷ [];
}

abbrev pub round_robin_lines : List TranscriptLine
round_robin_lines =
    Switch 1 ∷ Switch 2 ∷ Switch 1 ∷
    []

-- A new process of a higher priority runs as soon as it is resumed.
abbrev pub preemption : Example
preemption = record {
  start = system (20 ∷ []) 4096 100;
  programs =
      (sys_create 2048 100 30 3072 0 0 ∷ sys_resume 2 ∷ []) ∷
      [];
  turns = Ticks 1 ∷ Steps 100 ∷ Ticks 1 ∷ [];
}

abbrev pub preemption_lines : List TranscriptLine
preemption_lines =
    Switch 1 ∷ Call 1 (sys_create 2048 100 30 3072 0 0) ∷ Return 1 (pos 2) ∷ Call 1 (sys_resume 2) ∷ Return 1 (pos 30) ∷
    Switch 2 ∷
    []

-- A process that suspended itself answers the priority that it has when it goes on.
abbrev pub self_suspension : Example
self_suspension = record {
  start = system (30 ∷ 20 ∷ []) 4096 8;
  programs =
      (sys_suspend 1 ∷ []) ∷
      (sys_chprio 1 25 ∷ sys_resume 1 ∷ []) ∷
      [];
  turns = Steps 100 ∷ [];
}

abbrev pub self_suspension_lines : List TranscriptLine
self_suspension_lines =
    Switch 1 ∷ Call 1 (sys_suspend 1) ∷ Switch 2 ∷ Call 2 (sys_chprio 1 25) ∷ Return 2 (pos 30) ∷
    Call 2 (sys_resume 1) ∷ Return 2 (pos 25) ∷ Switch 1 ∷ Return 1 (pos 25) ∷
    []

-- What is refused of processes; the creator stays current before those of lower priority.
abbrev pub process_refusals : Example
process_refusals = record {
  start = system (30 ∷ []) 4096 200;
  programs =
      (sys_create 2048 100 20 3072 0 0 ∷ sys_create 2048 100 20 3072 0 0 ∷ sys_kill 0 ∷ sys_kill 64 ∷ sys_suspend 0 ∷ sys_resume 2 ∷ sys_resume 2 ∷ sys_resume 3 ∷ sys_create 2048 100 0 3072 0 0 ∷ sys_create 2048 100 20 1048561 0 0 ∷ sys_create 2048 minus_one 20 3072 0 0 ∷ []) ∷
      [];
  turns = Steps 100 ∷ [];
}

abbrev pub process_refusals_lines : List TranscriptLine
process_refusals_lines =
    Switch 1 ∷ Call 1 (sys_create 2048 100 20 3072 0 0) ∷ Return 1 (pos 2) ∷ Call 1 (sys_create 2048 100 20 3072 0 0) ∷ Return 1 (pos 3) ∷
    Call 1 (sys_kill 0) ∷ Return 1 (negsuc 0) ∷ Call 1 (sys_kill 64) ∷ Return 1 (negsuc 0) ∷ Call 1 (sys_suspend 0) ∷
    Return 1 (negsuc 0) ∷ Call 1 (sys_resume 2) ∷ Return 1 (pos 20) ∷ Call 1 (sys_resume 2) ∷ Return 1 (negsuc 0) ∷
    Call 1 (sys_resume 3) ∷ Return 1 (pos 20) ∷ Call 1 (sys_create 2048 100 0 3072 0 0) ∷ Return 1 (negsuc 0) ∷ Call 1 (sys_create 2048 100 20 1048561 0 0) ∷
    Return 1 (negsuc 0) ∷ Call 1 (sys_create 2048 minus_one 20 3072 0 0) ∷ Return 1 (negsuc 0) ∷
    []

-- If all 64 numbers are taken no process is created; a number that becomes free is found, going round.
abbrev pub full_table : Example
full_table = record {
  start = system (30 ∷ replicate 62 20) 4096 100;
  programs =
      (sys_create 2048 100 20 3072 0 0 ∷ sys_kill 5 ∷ sys_create 2048 100 20 3072 0 0 ∷ sys_getprio 5 ∷ []) ∷
      [];
  turns = Steps 100 ∷ [];
}

abbrev pub full_table_lines : List TranscriptLine
full_table_lines =
    Switch 1 ∷ Call 1 (sys_create 2048 100 20 3072 0 0) ∷ Return 1 (negsuc 0) ∷ Call 1 (sys_kill 5) ∷ Return 1 (pos 0) ∷
    Call 1 (sys_create 2048 100 20 3072 0 0) ∷ Return 1 (pos 5) ∷ Call 1 (sys_getprio 5) ∷ Return 1 (pos 20) ∷
    []

-- the tables at its end
abbrev pub preemption_tables : List TranscriptLine
preemption_tables =
    Now 2 1 ∷
    line.Process 0 Ready (pos 0) 0 None (codes "prnull" ++ replicate 9 0) ∷
    line.Process 1 Ready (pos 20) 0 None (codes "image1" ++ replicate 9 0) ∷
    line.Process 2 Current (pos 30) 1 None (replicate 15 0) ∷
    line.Ready 1 (pos 20) ∷
    line.Ready 0 (pos 0) ∷
    Free 4096 400 ∷
    Console Cooked 0 0 0 0 false ∷ Disk0 0 ∷ Disk1 false ∷
    []
