-- One step of a program: it stays within its code, and if it makes a call that is one of those that programs make.
use Rattle.std.specs.Prelude.{◌≡◌, ℕ, List, slice_index}
use Rattle.soak_laws.specs.Code.{IsNumber, IsWithin}
use Rattle.xinu_base.specs.declared.registers.Hart.{Hart}
use Rattle.xinu_base.specs.declared.registers.Outcome.{Outcome}
use Rattle.xinu_base.specs.declared.registers.Outcome.TheVariants.{Went, Call, Exit, Trap}
use Rattle.xinu_model.specs.Isa.Effects.{Executed}

-- an instruction went on, or made such a call
abbrev pub WentOrCalled : Outcome → Hart → Type 0
WentOrCalled Went h = Unit {0}
WentOrCalled Call h = IsNumber (slice_index h.regs 17)
WentOrCalled Exit h = ⊥
WentOrCalled (Trap cause) h = ⊥

-- an instruction of a program whose first word lies at an address
pub record StepsWithin (first : ℕ) (words memory : List ℕ) (did : Executed) : Type 0 where
  pub ram : did.memory ≡ memory
  pub within : IsWithin first words did.hart
  pub outcome : WentOrCalled did.outcome did.hart
