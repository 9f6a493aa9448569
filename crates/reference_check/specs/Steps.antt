-- A machine step by what the current process's instruction came to.
use Rattle.std.specs.Prelude.{ℕ, suc, if◌then◌else◌, List, [], ◌∷◌, ◌++◌, map, Option, Some}
use Rattle.transcript_laws.specs.Choices.{says_done}
use Rattle.xinu_base.specs.declared.lines.TranscriptLine.{TranscriptLine}
use Rattle.xinu_base.specs.declared.registers.Outcome.{Outcome}
use Rattle.xinu_base.specs.declared.registers.Outcome.TheVariants as outcome
use Rattle.xinu_model.specs.Calls.{called}
use Rattle.xinu_model.specs.Events.{call_line, call_of, made_first, reacted}
use Rattle.xinu_model.specs.Files.Syscalls.{at_once, awaits_files, file_line, files_of}
use Rattle.xinu_model.specs.Files.Work.{FileRequest, issued}
use Rattle.xinu_model.specs.Machine.{CallResult, EventResult, Xinu, current_hart, end_of_event}

-- what the call comes to that the registers of the current process ask for
abbrev pub call_result : Xinu → CallResult
call_result s = let call = call_of (current_hart s) in called call.number call.args s

-- the call on files that it makes, if none is before it
abbrev pub call_made : Xinu → Option FileRequest
call_made s = made_first s.tables.current (files_of s).calls (files_of (call_result s).call.state).calls

-- how many calls on files a text tells to take effect as they are made: the one that a step makes, or none
abbrev pub done_told : List ℕ → ℕ
done_told rest = if says_done rest then 1 else 0

-- the end of an event in which a call on files takes effect as it is made, after the first lines
abbrev pub ends_at_once : FileRequest → List TranscriptLine → Xinu → EventResult
ends_at_once a first s =
    end_of_event s.tables.current (first ++ map file_line (issued 1 a s.memory (files_of s)).notes) (at_once a s)

-- The event of a call. A call on files takes effect in it, if one is chosen to and there is one that may.
abbrev pub called_with : ℕ → Option FileRequest → Xinu → EventResult
called_with (suc choice) (Some a) s = ends_at_once a (call_line s (call_of (current_hart s)) ∷ []) s
called_with _ _ s = reacted outcome.Call s

-- the event of a call on files, by whether one is chosen to take effect and which calls are before it
abbrev pub asked_with : ℕ → List FileRequest → FileRequest → List TranscriptLine → Xinu → EventResult
asked_with (suc choice) [] a first s = ends_at_once a first s
asked_with _ _ a first s = end_of_event s.tables.current first (awaits_files a.call a.at s)

-- What comes of an instruction, in the state that it left.
abbrev pub reacted_with : ℕ → Outcome → Xinu → EventResult
reacted_with choice outcome.Call s = called_with choice (call_made s) s
reacted_with choice o s = reacted o s
