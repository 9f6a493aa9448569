-- A place that checks obeys: a branch or a jump.
use Rattle.std.proofs.Common.{Bool, List, None, Option, Some, arith, cond, false, length, refl, subst, suc, sym, true, ℕ, ◌%◌, ◌*◌, ◌+◌, ◌<◌, ◌==◌, ◌≡◌}
use Rattle.std.proofs.lemmas.Bool.{and_parts, true≢false}
use Rattle.xinu_base.specs.declared.registers.Cause.TheVariants.{Target}
use Rattle.xinu_base.specs.declared.registers.Hart.{Hart}
use Rattle.xinu_base.specs.declared.registers.Outcome.TheVariants.{Trap}
use Rattle.xinu_model.specs.Isa.Effects.{branches, following, goes, jumps, stops, wrapped}
use Rattle.xinu_model.specs.Isa.Instructions.{Fields}
use Rattle.xinu_model.specs.Memory.{number_at}
use Rattle.program_logic.proofs.CheckedRows.{Spot, leads_obeys, passes_obeys, seen}
use Rattle.program_logic.proofs.Known.{Describes}
use Rattle.program_logic.proofs.TermValues.{Tells}
use Rattle.program_logic.specs.Claims.{system_of}
use Rattle.program_logic.specs.Obeying.{Obeys}
use Rattle.program_logic.specs.Outlines.{System}
use Rattle.program_logic.specs.PlaceCheck.{branch_checks, follows, jump_checks, leads}
use Rattle.program_logic.specs.Terms.{constant}
use Rattle.program_logic.specs.declared.knowledge.Facts.{Facts}
use Rattle.program_logic.specs.declared.outline.Lock.{Lock}
use Rattle.program_logic.specs.declared.outline.Place.{Place}
use Rattle.program_logic.specs.declared.values.Slot.TheVariants.{Known, Unknown}

module _ {l : Lock} {many : ℕ} {first : ℕ → ℕ} {places : ℕ → List Place} {p k : ℕ} (spot : Spot l many first places p k) where
  abbrev y : System
  y = system_of many first places l

  taken : (b : Bool) (n : ℕ) (h : Hart) (memory : List ℕ) (f : Fields) (s : Facts) → h.pc ≡ first p + 4 * k → length h.regs ≡ 32
      → leads (first p) (places p) b (wrapped (first p + 4 * k + f.imm)) s ≡ true
      → Describes s (seen b n) (seen b (number_at memory l.word 4)) h.regs → Obeys y p b k n h memory (branches f h memory true)
  taken b n h memory f s pc regs is d =
      subst (λ pc. Obeys y p b k n h memory (cond (wrapped (pc + f.imm) % 4 == 0) (goes h memory 0 0 (wrapped (pc + f.imm))) (stops h memory (Trap Target)))) (sym pc)
      (leads_obeys spot b n h memory s 0 Unknown 0 (wrapped (first p + 4 * k + f.imm)) regs (omega arith) is d tt)

  -- what is known of the condition is so
  pub branch_obeys : (b : Bool) (n : ℕ) (h : Hart) (memory : List ℕ) (f : Fields) (s : Facts) (known : Option Bool) (holds : Bool)
      → h.pc ≡ first p + 4 * k → length h.regs ≡ 32 → branch_checks (first p) (places p) k b f.imm known s ≡ true
      → Describes s (seen b n) (seen b (number_at memory l.word 4)) h.regs → Tells known holds → Obeys y p b k n h memory (branches f h memory holds)
  branch_obeys b n h memory f s (Some true) true pc regs is d tells = taken b n h memory f s pc regs is d
  branch_obeys b n h memory f s (Some true) false pc regs is d tells = absurd (true≢false (sym tells))
  branch_obeys b n h memory f s (Some false) true pc regs is d tells = absurd (true≢false tells)
  branch_obeys b n h memory f s (Some false) false pc regs is d tells = passes_obeys spot b n h memory s pc regs is d
  branch_obeys b n h memory f s None true pc regs is d tells =
      taken b n h memory f s pc regs (and_parts (leads (first p) (places p) b (wrapped (first p + 4 * k + f.imm)) s) (follows (places p) b (suc k) s) is).0 d
  branch_obeys b n h memory f s None false pc regs is d tells =
      passes_obeys spot b n h memory s pc regs (and_parts (leads (first p) (places p) b (wrapped (first p + 4 * k + f.imm)) s) (follows (places p) b (suc k) s) is).1 d

  pub jump_obeys : (b : Bool) (n : ℕ) (h : Hart) (memory : List ℕ) (f : Fields) (s : Facts) (known : Option ℕ) (target : ℕ)
      → h.pc ≡ first p + 4 * k → length h.regs ≡ 32 → f.rd < 32 → jump_checks (first p) (places p) k b f.rd known s ≡ true
      → Describes s (seen b n) (seen b (number_at memory l.word 4)) h.regs → ((t : ℕ) → known ≡ Some t → target ≡ t)
      → Obeys y p b k n h memory (jumps f h memory target)
  jump_obeys b n h memory f s None target pc regs few is d tells = absurd (true≢false (sym is))
  jump_obeys b n h memory f s (Some t) target pc regs few is d tells =
      subst (λ t. Obeys y p b k n h memory (jumps f h memory t)) (sym (tells t refl))
      (leads_obeys spot b n h memory s f.rd (Known (constant (wrapped (first p + 4 * k + 4)))) (following h) t regs few is d (omega (arith, pc)))
