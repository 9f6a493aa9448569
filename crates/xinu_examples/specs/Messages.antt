-- Examples: messages.
use Rattle.std.specs.Prelude.{List, [], ◌∷◌, pos, negsuc}
use Rattle.xinu_base.specs.declared.lines.TranscriptLine.{TranscriptLine}
use Rattle.xinu_base.specs.declared.lines.TranscriptLine.TheVariants.{Call, Return, Switch}
use Rattle.xinu_examples.specs.NamedCalls.{sys_exit, sys_receive, sys_recvclr, sys_resume, sys_send, sys_suspend}
use Rattle.xinu_examples.specs.Played.{Example, Steps, system}

-- A message is waited for, taken, refused if one is held, and taken back.
abbrev pub messages : Example
messages = record {
  start = system (30 ∷ 20 ∷ []) 4096 8;
  programs =
      (sys_receive ∷ sys_recvclr ∷ sys_receive ∷ sys_exit ∷ []) ∷
      (sys_send 1 7 ∷ sys_send 1 8 ∷ sys_send 2 9 ∷ sys_send 2 9 ∷ sys_send 70 1 ∷ []) ∷
      [];
  turns = Steps 1000 ∷ [];
}

abbrev pub messages_lines : List TranscriptLine
messages_lines =
    Switch 1 ∷ Call 1 sys_receive ∷ Switch 2 ∷ Call 2 (sys_send 1 7) ∷ Return 2 (pos 0) ∷
    Switch 1 ∷ Return 1 (pos 7) ∷ Call 1 sys_recvclr ∷ Return 1 (pos 0) ∷ Call 1 sys_receive ∷
    Switch 2 ∷ Call 2 (sys_send 1 8) ∷ Return 2 (pos 0) ∷ Switch 1 ∷ Return 1 (pos 8) ∷
    Call 1 sys_exit ∷ Switch 2 ∷ Call 2 (sys_send 2 9) ∷ Return 2 (pos 0) ∷ Call 2 (sys_send 2 9) ∷
    Return 2 (negsuc 0) ∷ Call 2 (sys_send 70 1) ∷ Return 2 (negsuc 0) ∷
    []

-- A process that suspended itself keeps the message that it is sent.
abbrev pub kept_message : Example
kept_message = record {
  start = system (30 ∷ 20 ∷ []) 4096 8;
  programs =
      (sys_suspend 1 ∷ sys_recvclr ∷ []) ∷
      (sys_send 1 5 ∷ sys_resume 1 ∷ []) ∷
      [];
  turns = Steps 1000 ∷ [];
}

abbrev pub kept_message_lines : List TranscriptLine
kept_message_lines =
    Switch 1 ∷ Call 1 (sys_suspend 1) ∷ Switch 2 ∷ Call 2 (sys_send 1 5) ∷ Return 2 (pos 0) ∷
    Call 2 (sys_resume 1) ∷ Return 2 (pos 30) ∷ Switch 1 ∷ Return 1 (pos 30) ∷ Call 1 sys_recvclr ∷
    Return 1 (pos 5) ∷
    []
