-- Examples: a process gets another priority.
use Rattle.std.specs.Prelude.{List, None, Some, [], codes, negsuc, pos, replicate, ◌++◌, ◌∷◌, false}
use Rattle.xinu_base.specs.declared.console.TtyMode.TheVariants.{Cooked}
use Rattle.xinu_base.specs.declared.events.End.TheVariants.{Schedule}
use Rattle.xinu_base.specs.declared.lines.TranscriptLine.{TranscriptLine}
use Rattle.xinu_base.specs.declared.lines.TranscriptLine.TheVariants as line
use Rattle.xinu_base.specs.declared.lines.TranscriptLine.TheVariants.{Call, Console, Disk0, Disk1, End, Free, Now, Return, Switch}
use Rattle.xinu_base.specs.declared.processes.State.TheVariants.{Current, Ready}
use Rattle.xinu_examples.specs.NamedCalls.{minus_five, sys_chprio, sys_exit}
use Rattle.xinu_examples.specs.Played.{Example, Steps, system}

-- A ready process whose priority rises above the caller's runs at once.
abbrev pub raised_above_caller : Example
raised_above_caller = record {
  start = system (20 ∷ 20 ∷ []) 4096 8;
  programs =
      (sys_chprio 2 30 ∷ []) ∷
      (sys_exit ∷ []) ∷
      [];
  turns = Steps 1000 ∷ [];
}

abbrev pub raised_above_caller_transcript : List TranscriptLine
raised_above_caller_transcript =
    Switch 1 ∷ Call 1 (sys_chprio 2 30) ∷ Return 1 (pos 20) ∷ Switch 2 ∷ Call 2 sys_exit ∷
    Switch 1 ∷
    Now 0 2 ∷
    line.Process 0 Ready (pos 0) 0 (Some 2) (codes "prnull" ++ replicate 9 0) ∷
    line.Process 1 Current (pos 20) 0 None (codes "image1" ++ replicate 9 0) ∷
    line.Ready 0 (pos 0) ∷
    Free 4096 64 ∷
    Console Cooked 0 0 0 0 false ∷ Disk0 0 ∷ Disk1 false ∷
    End Schedule ∷
    []

-- A process that puts itself below the null process gives way to it.
abbrev pub lowered_below_null : Example
lowered_below_null = record {
  start = system (20 ∷ []) 4096 8;
  programs =
      (sys_chprio 1 minus_five ∷ []) ∷
      [];
  turns = Steps 1000 ∷ [];
}

abbrev pub lowered_below_null_transcript : List TranscriptLine
lowered_below_null_transcript =
    Switch 1 ∷ Call 1 (sys_chprio 1 minus_five) ∷ Return 1 (pos 20) ∷ Switch 0 ∷
    Now 0 2 ∷
    line.Process 0 Current (pos 0) 0 None (codes "prnull" ++ replicate 9 0) ∷
    line.Process 1 Ready (negsuc 4) 0 None (codes "image1" ++ replicate 9 0) ∷
    line.Ready 1 (negsuc 4) ∷
    Free 4096 64 ∷
    Console Cooked 0 0 0 0 false ∷ Disk0 0 ∷ Disk1 false ∷
    End Schedule ∷
    []

-- The null process is in the ready list by the priority that it gets.
abbrev pub raised_null : Example
raised_null = record {
  start = system (20 ∷ []) 4096 8;
  programs =
      (sys_chprio 0 20 ∷ []) ∷
      [];
  turns = Steps 1000 ∷ [];
}

abbrev pub raised_null_transcript : List TranscriptLine
raised_null_transcript =
    Switch 1 ∷ Call 1 (sys_chprio 0 20) ∷ Return 1 (pos 0) ∷ Switch 0 ∷
    Now 0 2 ∷
    line.Process 0 Current (pos 20) 0 None (codes "prnull" ++ replicate 9 0) ∷
    line.Process 1 Ready (pos 20) 0 None (codes "image1" ++ replicate 9 0) ∷
    line.Ready 1 (pos 20) ∷
    Free 4096 64 ∷
    Console Cooked 0 0 0 0 false ∷ Disk0 0 ∷ Disk1 false ∷
    End Schedule ∷
    []

-- A ready process that gets the priority that it has goes after its equals.
abbrev pub entered_again : Example
entered_again = record {
  start = system (30 ∷ 20 ∷ 20 ∷ []) 4096 8;
  programs =
      (sys_chprio 2 20 ∷ []) ∷
      [];
  turns = Steps 1000 ∷ [];
}

abbrev pub entered_again_transcript : List TranscriptLine
entered_again_transcript =
    Switch 1 ∷ Call 1 (sys_chprio 2 20) ∷ Return 1 (pos 20) ∷
    Now 0 2 ∷
    line.Process 0 Ready (pos 0) 0 None (codes "prnull" ++ replicate 9 0) ∷
    line.Process 1 Current (pos 30) 0 None (codes "image1" ++ replicate 9 0) ∷
    line.Process 2 Ready (pos 20) 0 None (codes "image2" ++ replicate 9 0) ∷
    line.Process 3 Ready (pos 20) 0 None (codes "image3" ++ replicate 9 0) ∷
    line.Ready 3 (pos 20) ∷
    line.Ready 2 (pos 20) ∷
    line.Ready 0 (pos 0) ∷
    Free 4096 64 ∷
    Console Cooked 0 0 0 0 false ∷ Disk0 0 ∷ Disk1 false ∷
    End Schedule ∷
    []

-- A process that gives itself the priority that it has gives way to its equals.
abbrev pub yields_to_equals : Example
yields_to_equals = record {
  start = system (20 ∷ 20 ∷ []) 4096 8;
  programs =
      (sys_chprio 1 20 ∷ []) ∷
      [];
  turns = Steps 1000 ∷ [];
}

abbrev pub yields_to_equals_lines : List TranscriptLine
yields_to_equals_lines =
    Switch 1 ∷ Call 1 (sys_chprio 1 20) ∷ Return 1 (pos 20) ∷ Switch 2 ∷
    []
