-- Examples: buffer pools.
use Rattle.std.specs.Prelude.{List, [], ◌∷◌, pos, negsuc, replicate, ◌++◌, ℕ}
use Rattle.xinu_base.specs.declared.lines.TranscriptLine.{TranscriptLine}
use Rattle.xinu_base.specs.declared.lines.TranscriptLine.TheVariants.{Buffer, Call, Pool, Return, Switch}
use Rattle.xinu_examples.specs.NamedCalls.{sys_freebuf, sys_freemem, sys_getbuf, sys_getmem, sys_mkbufpool, sys_receive}
use Rattle.xinu_examples.specs.Played.{Example, Steps, system}
use Rattle.xinu_model.specs.Searches.{numbers_from}

-- The third caller waits for a buffer, gets the one that is given back, and a second return of one is refused.
abbrev pub buffer_pool : Example
buffer_pool = record {
  start = system (30 ∷ 20 ∷ []) 8192 100;
  programs =
      (sys_mkbufpool 9 2 ∷ sys_getbuf 0 ∷ sys_getbuf 0 ∷ sys_getbuf 0 ∷ sys_receive ∷ []) ∷
      (sys_freebuf 8196 ∷ sys_freebuf 8212 ∷ sys_freebuf 8212 ∷ []) ∷
      [];
  turns = Steps 1000 ∷ [];
}

abbrev pub buffer_pool_lines : List TranscriptLine
buffer_pool_lines =
    Switch 1 ∷ Call 1 (sys_mkbufpool 9 2) ∷ Return 1 (pos 0) ∷ Call 1 (sys_getbuf 0) ∷ Return 1 (pos 8196) ∷
    Call 1 (sys_getbuf 0) ∷ Return 1 (pos 8212) ∷ Call 1 (sys_getbuf 0) ∷ Switch 2 ∷ Call 2 (sys_freebuf 8196) ∷
    Return 2 (pos 0) ∷ Switch 1 ∷ Return 1 (pos 8196) ∷ Call 1 sys_receive ∷ Switch 2 ∷
    Call 2 (sys_freebuf 8212) ∷ Return 2 (pos 0) ∷ Call 2 (sys_freebuf 8212) ∷ Return 2 (negsuc 0) ∷
    []

abbrev pub buffer_pool_pools : List TranscriptLine
buffer_pool_pools = Pool 0 12 1 1 ∷ Buffer 0 8212 ∷ []

-- There are at most twenty pools.
abbrev pub all_pools : Example
all_pools = record {
  start = system (20 ∷ []) 4096 100;
  programs =
      (replicate 21 (sys_mkbufpool 8 1)) ∷
      [];
  turns = Steps 100 ∷ [];
}

-- a call and its reply, for each of these pools
abbrev pub pools_made : List ℕ → List TranscriptLine
pools_made [] = []
pools_made (i ∷ pools) = Call 1 (sys_mkbufpool 8 1) ∷ Return 1 (pos i) ∷ pools_made pools

abbrev pub all_pools_lines : List TranscriptLine
all_pools_lines = (Switch 1 ∷ []) ++ pools_made (numbers_from 0 20) ++ Call 1 (sys_mkbufpool 8 1) ∷ Return 1 (negsuc 0) ∷ []

-- Sizes and numbers of buffers that no pool has, and a pool that isn't made.
abbrev pub pool_refusals : Example
pool_refusals = record {
  start = system (20 ∷ []) 4096 100;
  programs =
      (sys_mkbufpool 7 1 ∷ sys_mkbufpool 8193 1 ∷ sys_mkbufpool 8 0 ∷ sys_mkbufpool 8 2049 ∷ sys_getbuf 0 ∷ sys_freebuf 4100 ∷ []) ∷
      [];
  turns = Steps 100 ∷ [];
}

abbrev pub pool_refusals_lines : List TranscriptLine
pool_refusals_lines =
    Switch 1 ∷ Call 1 (sys_mkbufpool 7 1) ∷ Return 1 (negsuc 0) ∷ Call 1 (sys_mkbufpool 8193 1) ∷ Return 1 (negsuc 0) ∷
    Call 1 (sys_mkbufpool 8 0) ∷ Return 1 (negsuc 0) ∷ Call 1 (sys_mkbufpool 8 2049) ∷ Return 1 (negsuc 0) ∷ Call 1 (sys_getbuf 0) ∷
    Return 1 (negsuc 0) ∷ Call 1 (sys_freebuf 4100) ∷ Return 1 (negsuc 0) ∷
    []

-- Memory of a pool that a process gave back isn't handed to a second pool.
abbrev pub pool_given_back : Example
pool_given_back = record {
  start = system (20 ∷ []) 4096 3;
  programs =
      (sys_mkbufpool 8 2 ∷ sys_freemem 4096 24 ∷ sys_mkbufpool 8 2 ∷ sys_getmem 24 ∷ []) ∷
      [];
  turns = Steps 100 ∷ [];
}

abbrev pub pool_given_back_lines : List TranscriptLine
pool_given_back_lines =
    Switch 1 ∷ Call 1 (sys_mkbufpool 8 2) ∷ Return 1 (pos 0) ∷ Call 1 (sys_freemem 4096 24) ∷ Return 1 (pos 0) ∷
    Call 1 (sys_mkbufpool 8 2) ∷ Return 1 (negsuc 0) ∷ Call 1 (sys_getmem 24) ∷ Return 1 (pos 4096) ∷
    []

-- The buffer that was given back last is given out first, and the number of its pool is in the word before it.
abbrev pub freed_last_first : Example
freed_last_first = record {
  start = record (system (20 ∷ []) 4096 100) { memory = replicate 4200 0 };
  programs =
      (sys_mkbufpool 8 1 ∷ sys_mkbufpool 8 2 ∷ sys_getbuf 1 ∷ sys_getbuf 1 ∷ sys_freebuf 4116 ∷ sys_freebuf 4128 ∷ sys_getbuf 1 ∷ []) ∷
      [];
  turns = Steps 1000 ∷ [];
}

abbrev pub freed_last_first_lines : List TranscriptLine
freed_last_first_lines =
    Switch 1 ∷ Call 1 (sys_mkbufpool 8 1) ∷ Return 1 (pos 0) ∷ Call 1 (sys_mkbufpool 8 2) ∷ Return 1 (pos 1) ∷
    Call 1 (sys_getbuf 1) ∷ Return 1 (pos 4116) ∷ Call 1 (sys_getbuf 1) ∷ Return 1 (pos 4128) ∷ Call 1 (sys_freebuf 4116) ∷
    Return 1 (pos 0) ∷ Call 1 (sys_freebuf 4128) ∷ Return 1 (pos 0) ∷ Call 1 (sys_getbuf 1) ∷ Return 1 (pos 4128) ∷
    []

-- The most buffers of a pool are 2048, and the greatest have 8192 bytes.
abbrev pub greatest_pools : Example
greatest_pools = record {
  start = system (20 ∷ []) 4096 3074;
  programs =
      (sys_mkbufpool 8193 1 ∷ sys_mkbufpool 8 2049 ∷ sys_mkbufpool 8 2048 ∷ []) ∷
      [];
  turns = Steps 1000 ∷ [];
}

abbrev pub greatest_pools_lines : List TranscriptLine
greatest_pools_lines =
    Switch 1 ∷ Call 1 (sys_mkbufpool 8193 1) ∷ Return 1 (negsuc 0) ∷ Call 1 (sys_mkbufpool 8 2049) ∷ Return 1 (negsuc 0) ∷
    Call 1 (sys_mkbufpool 8 2048) ∷ Return 1 (pos 0) ∷
    []

-- A pool of one of the greatest buffers.
abbrev pub greatest_buffers : Example
greatest_buffers = record {
  start = system (20 ∷ []) 4096 1026;
  programs =
      (sys_mkbufpool 8193 1 ∷ sys_mkbufpool 8192 1 ∷ []) ∷
      [];
  turns = Steps 1000 ∷ [];
}

abbrev pub greatest_buffers_lines : List TranscriptLine
greatest_buffers_lines =
    Switch 1 ∷ Call 1 (sys_mkbufpool 8193 1) ∷ Return 1 (negsuc 0) ∷ Call 1 (sys_mkbufpool 8192 1) ∷ Return 1 (pos 0) ∷
    []
