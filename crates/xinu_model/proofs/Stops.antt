-- What is no plain instruction changes nothing but the pc.
use Rattle.std.proofs.Common.{◌≡◌, ℕ, List, Bool, true, false, Option, Some, None, refl, cond}
use Rattle.std.specs.Prelude.{◌==◌, ◌%◌, ◌+◌, ◌/◌, ◌*◌, not}
use Rattle.xinu_base.specs.Constants.{INITRET}
use Rattle.xinu_base.specs.declared.Hart.{Hart}
use Rattle.xinu_base.specs.declared.Outcome.{Outcome}
use Rattle.xinu_base.specs.declared.Outcome.TheVariants.{Exit, Trap, Went}
use Rattle.xinu_base.specs.declared.Cause.TheVariants.{Fetch, Illegal, Load, Store, Target}
use Rattle.xinu_model.specs.Isa.Effects.{branches, effect_on, Executed, following, gives, goes, jumps, less, less_unsigned, loads, plus, register, stops, stores, wrapped, as_it_is}
use Rattle.xinu_model.specs.Isa.Exec.{exec, obeyed, perform}
use Rattle.xinu_model.specs.Isa.Instructions.{sign_extended, Fields, Name, Row, row_of, fields, Jal, Jalr, Beq, Bne, Blt, Bge, Bltu, Bgeu, Lb, Lh, Lw, Lbu, Lhu, Sb, Sh, Sw, Ecall, Ebreak}
use Rattle.xinu_model.specs.Memory.{may_access, number_at}

-- the registers are those of h with this pc, and RAM is m
pub record IsUndone (h : Hart) (m : List ℕ) (did : Executed) : Type 0 where
  pub hart : record did.hart { pc = h.pc } ≡ h
  pub memory : did.memory ≡ m

-- what was done is a plain instruction, or is undone by its pc
abbrev pub CanUndo : Hart → List ℕ → Executed → Type 0
CanUndo h m did = (did.outcome ≡ Went → ⊥) → IsUndone h m did

-- a plain instruction need not be undone
went : (h : Hart) (m : List ℕ) (did : Executed) → did.outcome ≡ Went → CanUndo h m did
went h m did e n = absurd (n e)

-- what changes nothing is undone
stopped : (h : Hart) (m : List ℕ) (o : Outcome) → CanUndo h m (stops h m o)
stopped h m o n = record { hart = refl; memory = refl }

-- one of two
either : (h : Hart) (m : List ℕ) (b : Bool) (x y : Executed) → CanUndo h m x → CanUndo h m y → CanUndo h m (cond b x y)
either h m true x y i j = i
either h m false x y i j = j

-- what the effects of instructions are made of
module _ (f : Fields) (h : Hart) (m : List ℕ) where
  jumped : (target : ℕ) → CanUndo h m (jumps f h m target)
  jumped target =
      either h m (target % 4 == 0) (goes h m f.rd (following h) target) (stops h m (Trap Target))
      (went h m _ refl) (stopped h m (Trap Target))

  branched : (b : Bool) → CanUndo h m (branches f h m b)
  branched true =
      let target = wrapped (h.pc + f.imm) in
      either h m (target % 4 == 0) (record { outcome = Went; hart = record h { pc = target }; memory = m }) (stops h m (Trap Target))
      (went h m _ refl) (stopped h m (Trap Target))
  branched false = went h m _ refl

  loaded : (width : ℕ) (extended : ℕ → ℕ) → CanUndo h m (loads f h m width extended)
  loaded width extended =
      let a = wrapped (register h.regs f.rs1 + f.imm) in
      either h m (may_access a width) (gives f h m (extended (number_at m a width))) (stops h m (Trap Load))
      (went h m _ refl) (stopped h m (Trap Load))

  stored : (width : ℕ) → CanUndo h m (stores f h m width)
  stored width =
      either h m (may_access (wrapped (register h.regs f.rs1 + f.imm)) width) _ (stops h m (Trap Store))
      (went h m _ refl) (stopped h m (Trap Store))

  -- the effect of each row
  done : (name : Name) (a b : ℕ) → CanUndo h m (effect_on name f h m a b)
  done Jal a b = jumped (plus h.pc f.imm)
  done Jalr a b = jumped (plus a f.imm / 2 * 2)
  done Beq a b = branched (a == b)
  done Bne a b = branched (not (a == b))
  done Blt a b = branched (less a b)
  done Bge a b = branched (not (less a b))
  done Bltu a b = branched (less_unsigned a b)
  done Bgeu a b = branched (not (less_unsigned a b))
  done Lb a b = loaded 1 (sign_extended 8)
  done Lh a b = loaded 2 (sign_extended 16)
  done Lw a b = loaded 4 as_it_is
  done Lbu a b = loaded 1 as_it_is
  done Lhu a b = loaded 2 as_it_is
  done Sb a b = stored 1
  done Sh a b = stored 2
  done Sw a b = stored 4
  done Ecall a b = λ n. record { hart = refl; memory = refl }
  done Ebreak a b = λ n. record { hart = refl; memory = refl }
  done _ a b = went h m _ refl

-- what a word does
obeys : (row : Option Row) (word : ℕ) (h : Hart) (m : List ℕ) → CanUndo h m (obeyed row word h m)
obeys None word h m = stopped h m (Trap Illegal)
obeys (Some row) word h m = done (fields row.form word) h m row.name _ _

-- Any step that is no plain instruction is undone by putting its pc back.
pub exec_undone : (h : Hart) (m : List ℕ) → CanUndo h m (exec h m)
unfolding exec
exec_undone h m =
    either h m (h.pc == INITRET) (stops h m Exit) (cond (may_access h.pc 4) (perform (number_at m h.pc 4) h m) (stops h m (Trap Fetch)))
    (stopped h m Exit)
    (either h m (may_access h.pc 4) (perform (number_at m h.pc 4) h m) (stops h m (Trap Fetch))
    (obeys (row_of (number_at m h.pc 4)) (number_at m h.pc 4) h m) (stopped h m (Trap Fetch)))
