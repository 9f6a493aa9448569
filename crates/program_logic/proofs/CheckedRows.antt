-- A place that checks obeys: an instruction that gives a register a value, or that goes on elsewhere.
use Rattle.std.proofs.Common.{Bool, List, [], ap, arith, cond, false, inl, inr, length, refl, set, subst, suc, sym, true, zero, ℕ, ◌%◌, ◌&&◌, ◌*◌, ◌+◌, ◌-◌, ◌/◌, ◌<◌, ◌==◌, ◌^◌, ◌∙◌, ◌∷◌, ◌≡◌, ◌≤◌, ◌⊎◌}
use Rattle.std.proofs.Math.ListN.{length-set}
use Rattle.std.proofs.lemmas.Bool.{and_parts, cases_Bool, cond-false, cond-true, eq-eqb, eqb-true, leb-true}
use Rattle.std.specs.Prelude.{get_or, nat_le}
use Rattle.xinu_base.specs.declared.registers.Cause.TheVariants.{Target}
use Rattle.xinu_base.specs.declared.registers.Hart.{Hart}
use Rattle.xinu_base.specs.declared.registers.Outcome.TheVariants.{Trap, Went}
use Rattle.xinu_model.specs.Isa.Effects.{following, gives, goes, stops, with_register}
use Rattle.xinu_model.specs.Isa.Instructions.{Fields}
use Rattle.xinu_model.specs.Memory.{number_at, ram_size}
use Rattle.program_logic.proofs.Known.{Describes, Means, arrived, put}
use Rattle.program_logic.specs.Claims.{no_place, row_at, rows_at, system_of}
use Rattle.program_logic.specs.Obeying.{Obeys}
use Rattle.program_logic.specs.Outlines.{At, System, no_row, says}
use Rattle.program_logic.specs.PlaceCheck.{follows, leads}
use Rattle.program_logic.specs.Terms.{given}
use Rattle.program_logic.specs.declared.knowledge.Facts.{Facts}
use Rattle.program_logic.specs.declared.outline.Lock.{Lock}
use Rattle.program_logic.specs.declared.outline.Place.{Place}
use Rattle.program_logic.specs.declared.values.Slot.{Slot}

-- Place k of process p: its program lies in RAM, and so does the guarded word.
pub record Spot (l : Lock) (many : ℕ) (first : ℕ → ℕ) (places : ℕ → List Place) (p k : ℕ) : Type 0 where
  pub near : first p + 4 * suc k < 2 ^ 32
  pub whole : first p % 4 ≡ 0
  pub word_whole : l.word % 4 ≡ 0
  pub word_in : l.word + 4 ≤ ram_size
  pub sem_fits : l.sem < 2 ^ 32

pub row_get : (qs : List Place) (k : ℕ) → get_or (rows_at qs) k no_row ≡ row_at (get_or qs k no_place)
row_get [] k = refl
row_get (q ∷ qs) zero = refl
row_get (q ∷ qs) (suc k) = row_get qs k

-- who hasn't the token sees neither the count nor the word
abbrev pub seen : Bool → ℕ → ℕ
seen false n = 0
seen true n = n

register_length : (regs : List ℕ) (i x : ℕ) → length (with_register regs i x) ≡ length regs
register_length regs i x = by (cases_Bool (i == 0))
  where
    by : ((i == 0) ≡ true) ⊎ ((i == 0) ≡ false) → length (cond (i == 0) regs (set regs i x)) ≡ length regs
    by (inl e) = ap length (cond-true (i == 0) regs (set regs i x) e)
    by (inr e) = ap length (cond-false (i == 0) regs (set regs i x) e) ∙ length-set regs i x

module _ {l : Lock} {many : ℕ} {first : ℕ → ℕ} {places : ℕ → List Place} {p k : ℕ} (spot : Spot l many first places p k) where
  abbrev y : System
  y = system_of many first places l

  pub at : (b : Bool) (j n v : ℕ) (have : Facts) (regs : List ℕ) → follows (places p) b j have ≡ true → Describes have (seen b n) (seen b v) regs
      → At y p b j n v regs
  at false j n v have regs is d =
      subst (λ r. says false r n v regs) (sym (row_get (places p) j)) (arrived ((get_or (places p) j no_place).free) have 0 0 regs is d)
  at true j n v have regs is d =
      subst (λ r. says true r n v regs) (sym (row_get (places p) j)) (arrived ((get_or (places p) j no_place).held) have n v regs is d)

  -- a register takes a value
  pub gives_obeys : (b : Bool) (n : ℕ) (h : Hart) (memory : List ℕ) (f : Fields) (s : Facts) (slot : Slot) (x : ℕ) → h.pc ≡ first p + 4 * k → length h.regs ≡ 32
      → f.rd < 32 → follows (places p) b (suc k) (given s f.rd slot) ≡ true → Describes s (seen b n) (seen b (number_at memory l.word 4)) h.regs
      → Means slot (seen b n) x → Obeys y p b k n h memory (gives f h memory x)
  gives_obeys b n h memory f s slot x pc regs few is d m = inl (record {
    outcome = refl;
    next = suc k;
    pc = (let near = spot.near in omega arith);
    regs = register_length h.regs f.rd x ∙ regs;
    ram = inl refl;
    holds = at b (suc k) n (number_at memory l.word 4) (given s f.rd slot) (with_register h.regs f.rd x) is
        (put s f.rd slot (seen b n) (seen b (number_at memory l.word 4)) x h.regs regs few d m);
  })

  -- it goes on at the next place, or at another one
  pub passes_obeys : (b : Bool) (n : ℕ) (h : Hart) (memory : List ℕ) (s : Facts) → h.pc ≡ first p + 4 * k → length h.regs ≡ 32
      → follows (places p) b (suc k) s ≡ true → Describes s (seen b n) (seen b (number_at memory l.word 4)) h.regs
      → Obeys y p b k n h memory (record { outcome = Went; hart = record h { pc = following h }; memory = memory })
  passes_obeys b n h memory s pc regs is d = inl (record {
    outcome = refl;
    next = suc k;
    pc = (let near = spot.near in omega arith);
    regs = regs;
    ram = inl refl;
    holds = at b (suc k) n (number_at memory l.word 4) s h.regs is d;
  })

  -- it goes on at an address, and a register takes a value
  pub leads_obeys : (b : Bool) (n : ℕ) (h : Hart) (memory : List ℕ) (s : Facts) (rd : ℕ) (slot : Slot) (x target : ℕ) → length h.regs ≡ 32 → rd < 32
      → leads (first p) (places p) b target (given s rd slot) ≡ true → Describes s (seen b n) (seen b (number_at memory l.word 4)) h.regs
      → Means slot (seen b n) x
      → Obeys y p b k n h memory (cond (target % 4 == 0) (goes h memory rd x target) (stops h memory (Trap Target)))
  leads_obeys b n h memory s rd slot x target regs few is d m =
      let a = and_parts (nat_le (first p) target && ((target - first p) % 4 == 0)) (follows (places p) b ((target - first p) / 4) (given s rd slot)) is in
      let c = and_parts (nat_le (first p) target) ((target - first p) % 4 == 0) a.0 in
      let low = leb-true (first p) target c.0 in
      let aligned = eqb-true ((target - first p) % 4) 0 c.1 in
      let whole_target : target % 4 ≡ 0 = omega (arith, low, aligned, spot.whole) in
      subst (λ b'. Obeys y p b k n h memory (cond b' (goes h memory rd x target) (stops h memory (Trap Target))))
      (sym (eq-eqb (target % 4) 0 whole_target))
      (inl (record {
        outcome = refl;
        next = (target - first p) / 4;
        pc = omega (arith, low, aligned);
        regs = register_length h.regs rd x ∙ regs;
        ram = inl refl;
        holds = at b ((target - first p) / 4) n (number_at memory l.word 4) (given s rd slot) (with_register h.regs rd x) a.1
            (put s rd slot (seen b n) (seen b (number_at memory l.word 4)) x h.regs regs few d m);
      }))
