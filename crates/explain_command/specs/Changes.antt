-- What a step is said to have changed: a register of its process, and a word of RAM.
use Rattle.std.specs.Prelude.{◌≡◌, ◌≢◌, ◌+◌, ◌-◌, ◌%◌, ◌^◌, ◌==◌, ◌<◌, ◌≤◌, ℕ, Bool, List, Option, None, Some, MatchOption, if◌then◌else◌, slice_index, slice_index_or}
use Rattle.explain_command.specs.declared.changes.Changes.{Changes}
use Rattle.explain_command.specs.declared.sights.Deed.{Deed}
use Rattle.explain_command.specs.declared.sights.Deed.TheVariants as deed
use Rattle.explain_command.specs.declared.sights.Sight.{Sight}
use Rattle.xinu_base.specs.declared.registers.Hart.{Hart}
use Rattle.xinu_model.specs.Isa.Instructions.{imm_s, rs1_of}
use Rattle.xinu_model.specs.Machine.{Xinu, no_hart}
use Rattle.xinu_model.specs.Memory.{may_access, number_at}
use Rattle.xinu_model.specs.Tables.{is_free, state_at}

-- The registers below number n, from x1 on, hold what they held.
abbrev pub AreKept : List ℕ → List ℕ → ℕ → Type 0
AreKept before after n = (k : ℕ) → 1 ≤ k → k < n → slice_index after k ≡ slice_index before k

-- It is the first register that holds something else, with what that is.
pub record IsFirst (before after : List ℕ) (found : ℕ × ℕ) : Type 0 where
  pub kept : AreKept before after found.0
  pub now : found.1 ≡ slice_index after found.0
  pub other : slice_index before found.0 ≢ found.1

-- The first register that holds something else, if one does.
abbrev pub IsFirstChange : List ℕ → List ℕ → Option (ℕ × ℕ) → Type 0
IsFirstChange before after found = MatchOption found (AreKept before after 32) (λ r. IsFirst before after r)

-- the address of the word in which a store stores
abbrev pub stored_at : ℕ → Hart → ℕ
stored_at word hart = let address = (slice_index hart.regs (rs1_of word) + imm_s word) % 2 ^ 32 in address - address % 4

-- a word of a memory, with its address
abbrev pub word_of : List ℕ → ℕ → Option (ℕ × ℕ)
word_of memory a = if may_access a 4 then Some (a, number_at memory a 4) else None

-- the word in which a step stored, as the memory after it has it: none unless the process executed a store
abbrev pub stored_in : Deed → Option ℕ → Hart → List ℕ → Option (ℕ × ℕ)
stored_in deed.Nothing word hart memory = None
stored_in deed.GoesOn word hart memory = None
stored_in deed.Executes None hart memory = None
stored_in deed.Executes (Some word) hart memory = if word % 128 == 35 then word_of memory (stored_at word hart) else None

-- whether the process of a step doesn't live after it
abbrev pub has_ended : Xinu → Sight → Bool
has_ended s seen = is_free (state_at s.tables seen.process)

-- What a step that led to this state is said to have changed: the first register of its process that isn't as it was, and the word in which it
-- stored; nothing if it ended its process.
pub record AreChanged (s : Xinu) (seen : Sight) (changes : Changes) : Type 0 where
  pub register : IsFirstChange seen.hart.regs
      (if has_ended s seen then seen.hart.regs else (slice_index_or s.harts seen.process no_hart).regs) changes.register
  pub stored : changes.stored ≡ (if has_ended s seen then None else stored_in seen.deed seen.word seen.hart s.memory)
