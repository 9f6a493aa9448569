-- What is told of a process ahead of an instruction: where it is, and its registers.
use Rattle.std.specs.Prelude.{◌≡◌, ◌==◌, ℕ, List, Some, None, if◌then◌else◌, ◌++◌, ◌+◌, slice_index, codes}
use Rattle.explain_command.specs.declared.sights.Deed.{Deed}
use Rattle.explain_command.specs.declared.sights.Deed.TheVariants as deed
use Rattle.explain_command.specs.declared.sights.Sight.{Sight}
use Rattle.replayed_run.specs.Replayed.{IsReplayed, Replayed}
use Rattle.rv_disasm.specs.OperandTexts.{hex_word, register_name}
use Rattle.xinu_base.specs.declared.registers.Hart.{Hart}
use Rattle.xinu_model.specs.Events.{call_of, is_done}
use Rattle.xinu_model.specs.Machine.{Xinu, current_hart}
use Rattle.xinu_model.specs.Memory.{may_access, number_at}
use Rattle.xinu_model.specs.Tables.{process_at}

-- What the current process does in a step: nothing if it is the null process; else it goes on in the call that it waited in, if something is
-- left of one; else it executes the word at its pc.
abbrev pub deed_in : Xinu → Deed
deed_in s =
    if s.tables.current == 0 then deed.Nothing
    else (if is_done (process_at s.tables s.tables.current).rest then deed.Executes
    else deed.GoesOn)

-- It is the current process of the state, with what it does next, its registers, the word at its pc if RAM has one there, and the call that
-- its registers ask for.
pub record IsSeen (s : Xinu) (seen : Sight) : Type 0 where
  pub process : seen.process ≡ s.tables.current
  pub deed : seen.deed ≡ deed_in s
  pub hart : seen.hart ≡ current_hart s
  pub word : seen.word ≡ (if may_access (current_hart s).pc 4 then Some (number_at s.memory (current_hart s).pc 4) else None)
  pub call : seen.call ≡ call_of (current_hart s)

-- It is seen after the first events of a run, as many as were taken.
pub record IsSeenIn (r : Replayed) (seen : Sight) : Type 0 where
  pub runs : IsReplayed r
  pub taken : seen.taken ≡ r.taken
  pub state : IsSeen r.state seen

-- the name of a register, and the word that it holds
abbrev pub register_text : Hart → ℕ → List ℕ
register_text hart n = codes " " ++ register_name n ++ codes " " ++ hex_word (slice_index hart.regs n)

-- four registers in a line, from this one on
abbrev pub register_line : Hart → ℕ → List ℕ
register_line hart n = register_text hart n ++ register_text hart (n + 1) ++ register_text hart (n + 2) ++ register_text hart (n + 3)

-- the address of an instruction
abbrev pub place_line : ℕ → List ℕ
place_line pc = codes "pc 0x" ++ hex_word pc
