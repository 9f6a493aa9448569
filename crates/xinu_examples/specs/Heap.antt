-- Examples: the heap. It has a hundred cells from address 4096 on.
use Rattle.std.specs.Prelude.{List, [], ◌∷◌, pos, negsuc}
use Rattle.xinu_base.specs.declared.lines.TranscriptLine.{TranscriptLine}
use Rattle.xinu_base.specs.declared.lines.TranscriptLine.TheVariants.{Call, Return, Switch}
use Rattle.xinu_examples.specs.NamedCalls.{sys_freemem, sys_freestk, sys_getmem, sys_getstk, minus_one}
use Rattle.xinu_examples.specs.Played.{Example, Steps, system}

-- The lowest free block is taken, and what is given back is merged with its neighbours.
abbrev pub heap_replies : Example
heap_replies = record {
  start = system (20 ∷ []) 4096 100;
  programs =
      (sys_getmem 12 ∷ sys_getmem 8 ∷ sys_freemem 4096 12 ∷ sys_freemem 4112 8 ∷ sys_getmem 24 ∷ sys_freemem 4096 24 ∷ sys_freemem 4096 24 ∷ sys_getmem 0 ∷ sys_getmem minus_one ∷ sys_getstk 400 ∷ sys_freestk 4892 400 ∷ []) ∷
      [];
  turns = Steps 100 ∷ [];
}

abbrev pub heap_replies_lines : List TranscriptLine
heap_replies_lines =
    Switch 1 ∷ Call 1 (sys_getmem 12) ∷ Return 1 (pos 4096) ∷ Call 1 (sys_getmem 8) ∷ Return 1 (pos 4112) ∷
    Call 1 (sys_freemem 4096 12) ∷ Return 1 (pos 0) ∷ Call 1 (sys_freemem 4112 8) ∷ Return 1 (pos 0) ∷ Call 1 (sys_getmem 24) ∷
    Return 1 (pos 4096) ∷ Call 1 (sys_freemem 4096 24) ∷ Return 1 (pos 0) ∷ Call 1 (sys_freemem 4096 24) ∷ Return 1 (negsuc 0) ∷
    Call 1 (sys_getmem 0) ∷ Return 1 (negsuc 0) ∷ Call 1 (sys_getmem minus_one) ∷ Return 1 (negsuc 0) ∷ Call 1 (sys_getstk 400) ∷
    Return 1 (pos 4892) ∷ Call 1 (sys_freestk 4892 400) ∷ Return 1 (pos 0) ∷
    []

-- Stacks come from the highest cells, in whole cells; a stack of 9 bytes passes over 8 free ones.
abbrev pub stacks : Example
stacks = record {
  start = system (20 ∷ []) 4096 100;
  programs =
      (sys_getstk 8 ∷ sys_getstk 1 ∷ sys_freestk 4892 8 ∷ sys_freestk 4892 8 ∷ sys_getstk 9 ∷ sys_freemem 4100 8 ∷ sys_freemem 1048568 16 ∷ sys_freemem 0 8 ∷ []) ∷
      [];
  turns = Steps 100 ∷ [];
}

abbrev pub stacks_lines : List TranscriptLine
stacks_lines =
    Switch 1 ∷ Call 1 (sys_getstk 8) ∷ Return 1 (pos 4892) ∷ Call 1 (sys_getstk 1) ∷ Return 1 (pos 4884) ∷
    Call 1 (sys_freestk 4892 8) ∷ Return 1 (pos 0) ∷ Call 1 (sys_freestk 4892 8) ∷ Return 1 (negsuc 0) ∷ Call 1 (sys_getstk 9) ∷
    Return 1 (pos 4876) ∷ Call 1 (sys_freemem 4100 8) ∷ Return 1 (negsuc 0) ∷ Call 1 (sys_freemem 1048568 16) ∷ Return 1 (negsuc 0) ∷
    Call 1 (sys_freemem 0 8) ∷ Return 1 (negsuc 0) ∷
    []
