-- Examples: semaphores.
use Rattle.std.specs.Prelude.{List, [], ◌∷◌, pos, negsuc, replicate, ◌++◌, ℕ, None, codes, false}
use Rattle.xinu_base.specs.declared.console.TtyMode.TheVariants.{Cooked}
use Rattle.xinu_base.specs.declared.events.End.TheVariants.{Schedule}
use Rattle.xinu_base.specs.declared.lines.TranscriptLine.{TranscriptLine}
use Rattle.xinu_base.specs.declared.lines.TranscriptLine.TheVariants as line
use Rattle.xinu_base.specs.declared.lines.TranscriptLine.TheVariants.{Call, Console, Disk0, Disk1, End, Free, Now, Return, Switch}
use Rattle.xinu_base.specs.declared.processes.State.TheVariants.{Current, Ready}
use Rattle.xinu_examples.specs.NamedCalls.{sys_exit, sys_kill, minus_one, sys_semcount, sys_semcreate, sys_semdelete, sys_semreset, sys_signal, sys_signaln, sys_wait}
use Rattle.xinu_examples.specs.Played.{Example, Steps, system}
use Rattle.xinu_model.specs.Searches.{numbers_from}

-- A killed waiter gives its place back, and two signals release the two who are left.
abbrev pub semaphore_with_a_kill : Example
semaphore_with_a_kill = record {
  start = system (30 ∷ 30 ∷ 30 ∷ 20 ∷ []) 4096 8;
  programs =
      (sys_semcreate 0 ∷ sys_wait 4 ∷ sys_exit ∷ []) ∷
      (sys_wait 4 ∷ []) ∷
      (sys_wait 4 ∷ sys_exit ∷ []) ∷
      (sys_semcount 4 ∷ sys_kill 2 ∷ sys_semcount 4 ∷ sys_signaln 4 2 ∷ sys_semcount 4 ∷ sys_signaln 4 minus_one ∷ sys_semreset 4 2147483647 ∷ sys_signal 4 ∷ sys_exit ∷ []) ∷
      [];
  turns = Steps 1000 ∷ [];
}

abbrev pub semaphore_with_a_kill_lines : List TranscriptLine
semaphore_with_a_kill_lines =
    Switch 1 ∷ Call 1 (sys_semcreate 0) ∷ Return 1 (pos 4) ∷ Call 1 (sys_wait 4) ∷ Switch 2 ∷
    Call 2 (sys_wait 4) ∷ Switch 3 ∷ Call 3 (sys_wait 4) ∷ Switch 4 ∷ Call 4 (sys_semcount 4) ∷
    Return 4 (negsuc 2) ∷ Call 4 (sys_kill 2) ∷ Return 4 (pos 0) ∷ Call 4 (sys_semcount 4) ∷ Return 4 (negsuc 1) ∷
    Call 4 (sys_signaln 4 2) ∷ Return 1 (pos 0) ∷ Return 3 (pos 0) ∷ Return 4 (pos 0) ∷ Switch 1 ∷
    Call 1 sys_exit ∷ Switch 3 ∷ Call 3 sys_exit ∷ Switch 4 ∷ Call 4 (sys_semcount 4) ∷
    Return 4 (pos 0) ∷ Call 4 (sys_signaln 4 minus_one) ∷ Return 4 (negsuc 0) ∷ Call 4 (sys_semreset 4 2147483647) ∷ Return 4 (pos 0) ∷
    Call 4 (sys_signal 4) ∷ Return 4 (negsuc 0) ∷ Call 4 sys_exit ∷ Switch 0 ∷
    []

-- A reset releases all who wait, in their order.
abbrev pub reset_releases : Example
reset_releases = record {
  start = system (30 ∷ 30 ∷ 20 ∷ []) 4096 8;
  programs =
      (sys_semcreate 0 ∷ sys_wait 4 ∷ []) ∷
      (sys_wait 4 ∷ []) ∷
      (sys_semreset 4 0 ∷ []) ∷
      [];
  turns = Steps 1000 ∷ [];
}

abbrev pub reset_releases_lines : List TranscriptLine
reset_releases_lines =
    Switch 1 ∷ Call 1 (sys_semcreate 0) ∷ Return 1 (pos 4) ∷ Call 1 (sys_wait 4) ∷ Switch 2 ∷
    Call 2 (sys_wait 4) ∷ Switch 3 ∷ Call 3 (sys_semreset 4 0) ∷ Return 1 (pos 0) ∷ Return 2 (pos 0) ∷
    Return 3 (pos 0) ∷ Switch 1 ∷
    []

-- A process can make 124 semaphores, and not name one of the kernel's.
abbrev pub all_semaphores : Example
all_semaphores = record {
  start = system (20 ∷ []) 4096 8;
  programs =
      (sys_semcount 0 ∷ sys_signal 0 ∷ replicate 125 (sys_semcreate 0)) ∷
      [];
  turns = Steps 200 ∷ [];
}

-- a call and its reply, for each of these semaphores
abbrev pub semaphores_made : List ℕ → List TranscriptLine
semaphores_made [] = []
semaphores_made (s ∷ semaphores) = Call 1 (sys_semcreate 0) ∷ Return 1 (pos s) ∷ semaphores_made semaphores

abbrev pub all_semaphores_lines : List TranscriptLine
all_semaphores_lines =
    (Switch 1 ∷ Call 1 (sys_semcount 0) ∷ Return 1 (negsuc 0) ∷ Call 1 (sys_signal 0) ∷ Return 1 (negsuc 0) ∷ [])
    ++ semaphores_made (numbers_from 4 124) ++ Call 1 (sys_semcreate 0) ∷ Return 1 (negsuc 0) ∷ []

-- A process that waits on a semaphore that is deleted is refused.
abbrev pub deleted_semaphore : Example
deleted_semaphore = record {
  start = system (30 ∷ 20 ∷ []) 4096 8;
  programs =
      (sys_semcreate 0 ∷ sys_wait 4 ∷ []) ∷
      (sys_semdelete 4 ∷ []) ∷
      [];
  turns = Steps 1000 ∷ [];
}

abbrev pub deleted_semaphore_transcript : List TranscriptLine
deleted_semaphore_transcript =
    Switch 1 ∷ Call 1 (sys_semcreate 0) ∷ Return 1 (pos 4) ∷ Call 1 (sys_wait 4) ∷ Switch 2 ∷
    Call 2 (sys_semdelete 4) ∷ Return 1 (negsuc 0) ∷ Return 2 (pos 0) ∷ Switch 1 ∷
    Now 0 2 ∷
    line.Process 0 Ready (pos 0) 0 None (codes "prnull" ++ replicate 9 0) ∷
    line.Process 1 Current (pos 30) 0 None (codes "image1" ++ replicate 9 0) ∷
    line.Process 2 Ready (pos 20) 0 None (codes "image2" ++ replicate 9 0) ∷
    line.Ready 2 (pos 20) ∷
    line.Ready 0 (pos 0) ∷
    Free 4096 64 ∷
    Console Cooked 0 0 0 0 false ∷ Disk0 0 ∷ Disk1 false ∷
    End Schedule ∷
    []
