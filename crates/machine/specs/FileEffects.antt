-- The calls on files that take effect in an event: what is chosen, and what is printed of it.
use Rattle.std.specs.Prelude.{◌≡◌, ℕ, Bool, List, [], ◌∷◌, map, Option, Some, None}
use Rattle.host_port.specs.Outside.{Outside}
use Rattle.host_port.specs.Printing.{Printing}
use Rattle.kernel_state.specs.declared.begun.Begun.{Begun}
use Rattle.kernel_state.specs.declared.begun.Begun.TheVariants as begun
use Rattle.machine.specs.Printed.{EffectPrints}
use Rattle.xinu_base.specs.declared.events.Event.{Event}
use Rattle.xinu_base.specs.declared.lines.FileMoment.TheVariants.{Finished}
use Rattle.xinu_base.specs.declared.lines.TranscriptLine.{TranscriptLine}
use Rattle.xinu_base.specs.declared.lines.TranscriptLine.TheVariants as line
use Rattle.xinu_base.specs.declared.registers.Outcome.{Outcome}
use Rattle.xinu_base.specs.declared.registers.Outcome.TheVariants as outcome
use Rattle.xinu_model.specs.Calls.{called}
use Rattle.xinu_model.specs.Events.{MayChoose, call_line, call_of, effect_of, panics_in, reacted}
use Rattle.xinu_model.specs.Files.Syscalls.{at_once, awaits_files, file_line, files_of}
use Rattle.xinu_model.specs.Files.Work.{FileRequest, issued}
use Rattle.xinu_model.specs.Machine.{current_hart, end_of_event, EventResult, Xinu}

-- So many calls on files took effect in an event, more than have to. What it comes to with these was printed and is the new state; and it
-- is said whether the kernel panicked.
pub record ChosenPrints (old : Xinu) (e : Event) (new : Xinu) (has_panicked : Bool) (before after : Printing) (was is : Outside) : Type 0 where
  pub choice : ℕ
  pub allowed : MayChoose old e choice
  pub prints : EffectPrints (effect_of old e choice) new has_panicked before after was is
  pub panics : panics_in old e ≡ has_panicked

-- The current process makes this call on files. None is before it, and by its row its caller would wait.
pub record IsFirstMade (a : FileRequest) (o : Outcome) (s : Xinu) : Type 0 where
  pub is_call : o ≡ outcome.Call
  pub caller : a.caller ≡ Some s.tables.current
  pub alone : (files_of s).calls ≡ []
  pub waits : called (call_of (current_hart s)).number (call_of (current_hart s)).args s ≡ awaits_files a.call a.at s

-- a call on files may take effect as an instruction makes it, if one does
abbrev pub MayTake : Option FileRequest → Outcome → Xinu → Type 0
MayTake None o s = Unit {0}
MayTake (Some a) o s = IsFirstMade a o s

-- what comes of an instruction, if this call takes effect as it makes it
abbrev pub reacted_with : Option FileRequest → Outcome → Xinu → EventResult
reacted_with None o s = reacted o s
reacted_with (Some a) o s =
    let x = issued 1 a s.memory (files_of s) in
    end_of_event s.tables.current (call_line s (call_of (current_hart s)) ∷ map file_line x.notes) (at_once a s)

-- What came of an instruction was printed, is the new state, and says whether the kernel panicked.
pub record ReactPrints (o : Outcome) (s new : Xinu) (has_panicked : Bool) (before after : Printing) (was is : Outside) : Type 0 where
  pub made : Option FileRequest
  pub may : MayTake made o s
  pub prints : EffectPrints (reacted_with made o s) new has_panicked before after was is

-- the line of a call that took effect on files as process p made it, if it did
abbrev pub made_lines : Begun → ℕ → List TranscriptLine
made_lines (begun.ByRow next) p = []
made_lines (begun.AtOnce reply) p = line.File p Finished ∷ []
