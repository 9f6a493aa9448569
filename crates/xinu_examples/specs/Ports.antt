-- Examples: ports.
use Rattle.std.specs.Prelude.{List, [], ◌∷◌, pos, negsuc, replicate, ◌++◌, ℕ}
use Rattle.xinu_base.specs.declared.lines.TranscriptLine.{TranscriptLine}
use Rattle.xinu_base.specs.declared.lines.TranscriptLine.TheVariants.{Call, Node, Pool, Port, Return, Semaphore, Switch, Waiter}
use Rattle.xinu_examples.specs.NamedCalls.{sys_chprio, sys_freebuf, sys_getbuf, sys_getpid, sys_mkbufpool, sys_ptcreate, sys_ptdelete, sys_ptrecv, sys_ptreset, sys_ptsend, sys_receive, sys_semcount, sys_semcreate}
use Rattle.xinu_examples.specs.Played.{Example, Steps, system}
use Rattle.std.specs.Prelude.{zero, suc}
use Rattle.xinu_model.specs.Searches.{numbers_from}

-- A sender that waited over a reset is refused, and its message doesn't come into the renewed port.
abbrev pub stale_sender : Example
stale_sender = record {
  start = system (30 ∷ 20 ∷ []) 4096 8;
  programs =
      (sys_ptcreate 1 ∷ sys_ptsend 0 11 ∷ sys_ptsend 0 12 ∷ sys_ptdelete 0 0 ∷ sys_ptcreate 1 ∷ []) ∷
      (sys_ptreset 0 0 ∷ []) ∷
      [];
  turns = Steps 1000 ∷ [];
}

abbrev pub stale_sender_lines : List TranscriptLine
stale_sender_lines =
    Switch 1 ∷ Call 1 (sys_ptcreate 1) ∷ Return 1 (pos 0) ∷ Call 1 (sys_ptsend 0 11) ∷ Return 1 (pos 0) ∷
    Call 1 (sys_ptsend 0 12) ∷ Switch 2 ∷ Call 2 (sys_ptreset 0 0) ∷ Return 2 (pos 0) ∷ Switch 1 ∷
    Return 1 (negsuc 0) ∷ Call 1 (sys_ptdelete 0 0) ∷ Return 1 (pos 0) ∷ Call 1 (sys_ptcreate 1) ∷ Return 1 (pos 0) ∷
    []

-- The hundred and first message of all ports is a panic.
abbrev pub panic : Example
panic = record {
  start = system (20 ∷ []) 4096 8;
  programs =
      (sys_ptcreate 101 ∷ replicate 101 (sys_ptsend 0 1)) ∷
      [];
  turns = Steps 200 ∷ [];
}

-- process p sends n messages to port q
abbrev pub messages_sent : ℕ → ℕ → ℕ → List TranscriptLine
messages_sent p q zero = []
messages_sent p q (suc n) = Call p (sys_ptsend q 1) ∷ Return p (pos 0) ∷ messages_sent p q n

abbrev pub panic_lines : List TranscriptLine
panic_lines = (Switch 1 ∷ Call 1 (sys_ptcreate 101) ∷ Return 1 (pos 0) ∷ []) ++ messages_sent 1 0 100 ++ Call 1 (sys_ptsend 0 1) ∷ []

-- A reset gives the messages of a port back as buffers.
abbrev pub buffers_through_a_port : Example
buffers_through_a_port = record {
  start = system (20 ∷ []) 4096 100;
  programs =
      (sys_mkbufpool 8 1 ∷ sys_getbuf 0 ∷ sys_ptcreate 2 ∷ sys_ptsend 0 4100 ∷ sys_ptreset 0 1 ∷ sys_freebuf 4100 ∷ sys_getbuf 0 ∷ sys_ptreset 0 2 ∷ sys_ptsend 1 5 ∷ sys_semcount 4 ∷ []) ∷
      [];
  turns = Steps 100 ∷ [];
}

abbrev pub buffers_through_a_port_lines : List TranscriptLine
buffers_through_a_port_lines =
    Switch 1 ∷ Call 1 (sys_mkbufpool 8 1) ∷ Return 1 (pos 0) ∷ Call 1 (sys_getbuf 0) ∷ Return 1 (pos 4100) ∷
    Call 1 (sys_ptcreate 2) ∷ Return 1 (pos 0) ∷ Call 1 (sys_ptsend 0 4100) ∷ Return 1 (pos 0) ∷ Call 1 (sys_ptreset 0 1) ∷
    Return 1 (pos 0) ∷ Call 1 (sys_freebuf 4100) ∷ Return 1 (negsuc 0) ∷ Call 1 (sys_getbuf 0) ∷ Return 1 (pos 4100) ∷
    Call 1 (sys_ptreset 0 2) ∷ Return 1 (negsuc 0) ∷ Call 1 (sys_ptsend 1 5) ∷ Return 1 (negsuc 0) ∷ Call 1 (sys_semcount 4) ∷
    Return 1 (negsuc 0) ∷
    []

abbrev pub buffers_through_a_port_tables : List TranscriptLine
buffers_through_a_port_tables = Pool 0 8 0 1 ∷ Port 0 2 0 ∷ []

-- There are thirty ports.
abbrev pub all_ports : Example
all_ports = record {
  start = system (20 ∷ []) 4096 8;
  programs =
      (replicate 31 (sys_ptcreate 0)) ∷
      [];
  turns = Steps 100 ∷ [];
}

-- a call and its reply, for each of these ports
abbrev pub ports_made : List ℕ → List TranscriptLine
ports_made [] = []
ports_made (q ∷ ports) = Call 1 (sys_ptcreate 0) ∷ Return 1 (pos q) ∷ ports_made ports

abbrev pub all_ports_lines : List TranscriptLine
all_ports_lines = (Switch 1 ∷ []) ++ ports_made (numbers_from 0 30) ++ Call 1 (sys_ptcreate 0) ∷ Return 1 (negsuc 0) ∷ []

-- Two processes pass messages through a port, and each waits in its turn.
abbrev pub through_a_port : Example
through_a_port = record {
  start = system (30 ∷ 20 ∷ []) 4096 8;
  programs =
      (sys_ptcreate 1 ∷ sys_ptrecv 0 ∷ sys_ptsend 0 1 ∷ sys_ptsend 0 2 ∷ sys_ptrecv 0 ∷ sys_getpid ∷ []) ∷
      (sys_ptsend 0 7 ∷ sys_ptrecv 0 ∷ sys_getpid ∷ []) ∷
      [];
  turns = Steps 1000 ∷ [];
}

abbrev pub through_a_port_lines : List TranscriptLine
through_a_port_lines =
    Switch 1 ∷ Call 1 (sys_ptcreate 1) ∷ Return 1 (pos 0) ∷ Call 1 (sys_ptrecv 0) ∷ Switch 2 ∷
    Call 2 (sys_ptsend 0 7) ∷ Return 2 (pos 0) ∷ Switch 1 ∷ Return 1 (pos 7) ∷ Call 1 (sys_ptsend 0 1) ∷
    Return 1 (pos 0) ∷ Call 1 (sys_ptsend 0 2) ∷ Switch 2 ∷ Call 2 (sys_ptrecv 0) ∷ Return 2 (pos 1) ∷
    Switch 1 ∷ Return 1 (pos 0) ∷ Call 1 (sys_ptrecv 0) ∷ Return 1 (pos 2) ∷ Call 1 sys_getpid ∷
    Return 1 (pos 1) ∷
    []

-- Messages leave a port in the order in which they came.
abbrev pub messages_in_order : Example
messages_in_order = record {
  start = system (20 ∷ []) 4096 8;
  programs =
      (sys_ptcreate 3 ∷ sys_ptsend 0 1 ∷ sys_ptsend 0 2 ∷ sys_ptsend 0 3 ∷ sys_ptrecv 0 ∷ sys_ptrecv 0 ∷ sys_ptrecv 1 ∷ []) ∷
      [];
  turns = Steps 1000 ∷ [];
}

abbrev pub messages_in_order_lines : List TranscriptLine
messages_in_order_lines =
    Switch 1 ∷ Call 1 (sys_ptcreate 3) ∷ Return 1 (pos 0) ∷ Call 1 (sys_ptsend 0 1) ∷ Return 1 (pos 0) ∷
    Call 1 (sys_ptsend 0 2) ∷ Return 1 (pos 0) ∷ Call 1 (sys_ptsend 0 3) ∷ Return 1 (pos 0) ∷ Call 1 (sys_ptrecv 0) ∷
    Return 1 (pos 1) ∷ Call 1 (sys_ptrecv 0) ∷ Return 1 (pos 2) ∷ Call 1 (sys_ptrecv 1) ∷ Return 1 (negsuc 0) ∷
    []

-- A port that is deleted gives its messages back as buffers before its senders go on.
abbrev pub order_at_a_delete : Example
order_at_a_delete = record {
  start = system (50 ∷ 40 ∷ 30 ∷ 30 ∷ 20 ∷ []) 4096 100;
  programs =
      (sys_mkbufpool 8 1 ∷ sys_getbuf 0 ∷ sys_ptcreate 2 ∷ sys_ptcreate 0 ∷ sys_ptsend 0 9 ∷ sys_ptsend 0 4100 ∷ sys_receive ∷ []) ∷
      (sys_ptsend 0 7 ∷ []) ∷
      (sys_ptsend 0 8 ∷ []) ∷
      (sys_getbuf 0 ∷ []) ∷
      (sys_chprio 2 20 ∷ sys_chprio 3 20 ∷ sys_chprio 4 20 ∷ sys_ptdelete 0 1 ∷ []) ∷
      [];
  turns = Steps 1000 ∷ [];
}

abbrev pub order_at_a_delete_lines : List TranscriptLine
order_at_a_delete_lines =
    Switch 1 ∷ Call 1 (sys_mkbufpool 8 1) ∷ Return 1 (pos 0) ∷ Call 1 (sys_getbuf 0) ∷ Return 1 (pos 4100) ∷
    Call 1 (sys_ptcreate 2) ∷ Return 1 (pos 0) ∷ Call 1 (sys_ptcreate 0) ∷ Return 1 (pos 1) ∷ Call 1 (sys_ptsend 0 9) ∷
    Return 1 (pos 0) ∷ Call 1 (sys_ptsend 0 4100) ∷ Return 1 (pos 0) ∷ Call 1 sys_receive ∷ Switch 2 ∷
    Call 2 (sys_ptsend 0 7) ∷ Switch 3 ∷ Call 3 (sys_ptsend 0 8) ∷ Switch 4 ∷ Call 4 (sys_getbuf 0) ∷
    Switch 5 ∷ Call 5 (sys_chprio 2 20) ∷ Return 5 (pos 40) ∷ Call 5 (sys_chprio 3 20) ∷ Return 5 (pos 30) ∷
    Call 5 (sys_chprio 4 20) ∷ Return 5 (pos 30) ∷ Call 5 (sys_ptdelete 0 1) ∷ Return 5 (pos 0) ∷ Switch 4 ∷
    Return 4 (pos 4100) ∷
    []

-- When a port is deleted its senders go on before its receivers.
abbrev pub receivers_after_senders : Example
receivers_after_senders = record {
  start = system (30 ∷ 30 ∷ 20 ∷ []) 4096 8;
  programs =
      (sys_ptcreate 0 ∷ sys_ptrecv 0 ∷ []) ∷
      (sys_ptsend 0 3 ∷ []) ∷
      (sys_ptdelete 0 0 ∷ []) ∷
      [];
  turns = Steps 1000 ∷ [];
}

abbrev pub receivers_after_senders_lines : List TranscriptLine
receivers_after_senders_lines =
    Switch 1 ∷ Call 1 (sys_ptcreate 0) ∷ Return 1 (pos 0) ∷ Call 1 (sys_ptrecv 0) ∷ Switch 2 ∷
    Call 2 (sys_ptsend 0 3) ∷ Switch 3 ∷ Call 3 (sys_ptdelete 0 0) ∷ Return 3 (pos 0) ∷ Switch 2 ∷
    Return 2 (negsuc 0) ∷
    []

-- A sender whose port was reset is refused also while all nodes are used.
abbrev pub stale_while_full : Example
stale_while_full = record {
  start = system (30 ∷ 20 ∷ []) 4096 8;
  programs =
      (sys_ptcreate 0 ∷ sys_ptsend 0 5 ∷ []) ∷
      (sys_ptcreate 101 ∷ replicate 100 (sys_ptsend 1 1) ++ sys_ptreset 0 0 ∷ []) ∷
      [];
  turns = Steps 1000 ∷ [];
}

abbrev pub stale_while_full_lines : List TranscriptLine
stale_while_full_lines =
    (Switch 1 ∷ Call 1 (sys_ptcreate 0) ∷ Return 1 (pos 0) ∷ Call 1 (sys_ptsend 0 5) ∷ Switch 2 ∷ Call 2 (sys_ptcreate 101) ∷ Return 2 (pos 1) ∷ [])
    ++ messages_sent 2 1 100
    ++ Call 2 (sys_ptreset 0 0) ∷ Return 2 (pos 0) ∷ Switch 1 ∷ Return 1 (negsuc 0) ∷ []

-- A port has two semaphores, and its receivers wait on the second.
abbrev pub whose_semaphores : Example
whose_semaphores = record {
  start = system (30 ∷ 20 ∷ []) 4096 8;
  programs =
      (sys_semcreate 0 ∷ sys_ptcreate 1 ∷ sys_ptrecv 0 ∷ []) ∷
      (sys_semcreate 0 ∷ []) ∷
      [];
  turns = Steps 1000 ∷ [];
}

abbrev pub whose_semaphores_lines : List TranscriptLine
whose_semaphores_lines =
    Switch 1 ∷ Call 1 (sys_semcreate 0) ∷ Return 1 (pos 4) ∷ Call 1 (sys_ptcreate 1) ∷ Return 1 (pos 0) ∷
    Call 1 (sys_ptrecv 0) ∷ Switch 2 ∷ Call 2 (sys_semcreate 0) ∷ Return 2 (pos 7) ∷
    []

-- The search for a semaphore goes on after those of a port that is gone.
abbrev pub search_moves : Example
search_moves = record {
  start = system (20 ∷ []) 4096 8;
  programs =
      (sys_ptcreate 1 ∷ sys_ptdelete 0 0 ∷ sys_semcreate 0 ∷ []) ∷
      [];
  turns = Steps 1000 ∷ [];
}

abbrev pub search_moves_lines : List TranscriptLine
search_moves_lines =
    Switch 1 ∷ Call 1 (sys_ptcreate 1) ∷ Return 1 (pos 0) ∷ Call 1 (sys_ptdelete 0 0) ∷ Return 1 (pos 0) ∷
    Call 1 (sys_semcreate 0) ∷ Return 1 (pos 6) ∷
    []

-- The search for a port begins at the one that was deleted last.
abbrev pub ports_go_round : Example
ports_go_round = record {
  start = system (20 ∷ []) 4096 8;
  programs =
      (sys_ptcreate 1 ∷ sys_ptcreate 1 ∷ sys_ptcreate 1 ∷ sys_ptdelete 0 0 ∷ sys_ptdelete 2 0 ∷ sys_ptcreate 1 ∷ sys_ptcreate 1 ∷ sys_ptdelete 1 2 ∷ []) ∷
      [];
  turns = Steps 1000 ∷ [];
}

abbrev pub ports_go_round_lines : List TranscriptLine
ports_go_round_lines =
    Switch 1 ∷ Call 1 (sys_ptcreate 1) ∷ Return 1 (pos 0) ∷ Call 1 (sys_ptcreate 1) ∷ Return 1 (pos 1) ∷
    Call 1 (sys_ptcreate 1) ∷ Return 1 (pos 2) ∷ Call 1 (sys_ptdelete 0 0) ∷ Return 1 (pos 0) ∷ Call 1 (sys_ptdelete 2 0) ∷
    Return 1 (pos 0) ∷ Call 1 (sys_ptcreate 1) ∷ Return 1 (pos 2) ∷ Call 1 (sys_ptcreate 1) ∷ Return 1 (pos 3) ∷
    Call 1 (sys_ptdelete 1 2) ∷ Return 1 (negsuc 0) ∷
    []

-- A port that was reset has its whole room again.
abbrev pub reset_gives_room : Example
reset_gives_room = record {
  start = system (20 ∷ []) 4096 8;
  programs =
      (sys_ptcreate 1 ∷ sys_ptsend 0 1 ∷ sys_ptreset 0 0 ∷ sys_ptsend 0 2 ∷ sys_ptrecv 0 ∷ []) ∷
      [];
  turns = Steps 1000 ∷ [];
}

abbrev pub reset_gives_room_lines : List TranscriptLine
reset_gives_room_lines =
    Switch 1 ∷ Call 1 (sys_ptcreate 1) ∷ Return 1 (pos 0) ∷ Call 1 (sys_ptsend 0 1) ∷ Return 1 (pos 0) ∷
    Call 1 (sys_ptreset 0 0) ∷ Return 1 (pos 0) ∷ Call 1 (sys_ptsend 0 2) ∷ Return 1 (pos 0) ∷ Call 1 (sys_ptrecv 0) ∷
    Return 1 (pos 2) ∷
    []

abbrev pub messages_in_order_ports : List TranscriptLine
messages_in_order_ports = Port 0 1 1 ∷ Node 0 3 ∷ []

abbrev pub whose_semaphores_semaphores : List TranscriptLine
whose_semaphores_semaphores = Semaphore 4 (pos 0) ∷ Semaphore 6 (negsuc 0) ∷ Waiter 6 1 ∷ Semaphore 7 (pos 0) ∷ []
