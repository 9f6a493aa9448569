-- A place that checks obeys: a load or a store.
use Rattle.std.proofs.Common.{Bool, List, None, Some, ap, arith, cond, false, inl, inr, length, refl, subst, suc, sym, true, ℕ, ◌%◌, ◌&&◌, ◌*◌, ◌+◌, ◌<◌, ◌^◌, ◌||◌, ◌∙◌, ◌≡◌, ◌≤◌, ◌⊎◌}
use Rattle.std.proofs.lemmas.Bool.{and_parts, eq-eqb, le-leb, leb-true, or_cases, true≢false}
use Rattle.std.specs.Prelude.{nat_le}
use Rattle.xinu_base.specs.declared.registers.Cause.TheVariants.{Load, Store}
use Rattle.xinu_base.specs.declared.registers.Hart.{Hart}
use Rattle.xinu_base.specs.declared.registers.Outcome.TheVariants.{Trap, Went}
use Rattle.xinu_model.specs.Isa.Effects.{Executed, following, gives, stops}
use Rattle.xinu_model.specs.Isa.Instructions.{Fields}
use Rattle.xinu_model.specs.Memory.{in_ram, may_access, number_at, ram_size, with_number}
use Rattle.program_logic.proofs.CheckedRows.{Spot, at, gives_obeys, seen}
use Rattle.program_logic.proofs.Known.{Describes, Means, means_constant}
use Rattle.program_logic.proofs.Ram.{kept_below}
use Rattle.program_logic.proofs.TermValues.{means_stored, number_is}
use Rattle.program_logic.specs.Acts.{bytes_in}
use Rattle.program_logic.specs.Claims.{system_of}
use Rattle.program_logic.specs.Obeying.{Obeys}
use Rattle.program_logic.specs.Outlines.{At, System}
use Rattle.program_logic.specs.PlaceCheck.{follows, lie_apart, load_checks, may_load, may_store, store_checks}
use Rattle.program_logic.specs.Terms.{given, is_constant, number_in}
use Rattle.program_logic.specs.declared.acts.Width.{Width}
use Rattle.program_logic.specs.declared.acts.Width.TheVariants.{Word}
use Rattle.program_logic.specs.declared.knowledge.Facts.{Facts}
use Rattle.program_logic.specs.declared.outline.Lock.{Lock}
use Rattle.program_logic.specs.declared.outline.Place.{Place}
use Rattle.program_logic.specs.declared.values.Slot.{Slot}
use Rattle.program_logic.specs.declared.values.Slot.TheVariants.{Unknown}

-- an address at which a load is allowed may be accessed
loaded : (l : Lock) (b : Bool) (width : Width) (slot : Slot) (n a : ℕ) → may_load l b (number_in slot) width ≡ true → Means slot n a
    → may_access a (bytes_in width) ≡ true
loaded l b width slot n a is m = by (number_is slot n a m)
  where
    by : (number_in slot ≡ None) ⊎ ((number_in slot ≡ Some a) × (a < 2 ^ 32)) → may_access a (bytes_in width) ≡ true
    by (inl e) = absurd (true≢false (sym is ∙ ap (λ o. may_load l b o width) e))
    by (inr e) =
        (and_parts (may_access a (bytes_in width)) (b || lie_apart l a (bytes_in width)) (subst (λ o. may_load l b o width ≡ true) e.0 is)).0

-- and one at which a store is allowed lies behind the guarded word
stored : (l : Lock) (width : Width) (slot : Slot) (n a : ℕ) → may_store l (number_in slot) width ≡ true → Means slot n a
    → (may_access a (bytes_in width) ≡ true) × (l.word + 4 ≤ a)
stored l width slot n a is m = by (number_is slot n a m)
  where
    by : (number_in slot ≡ None) ⊎ ((number_in slot ≡ Some a) × (a < 2 ^ 32)) → (may_access a (bytes_in width) ≡ true) × (l.word + 4 ≤ a)
    by (inl e) = absurd (true≢false (sym is ∙ ap (λ o. may_store l o width) e))
    by (inr e) =
        let c = and_parts (may_access a (bytes_in width)) (nat_le (l.word + 4) a) (subst (λ o. may_store l o width ≡ true) e.0 is) in
        (c.0, leb-true (l.word + 4) a c.1)

module _ {l : Lock} {many : ℕ} {first : ℕ → ℕ} {places : ℕ → List Place} {p k : ℕ} (spot : Spot l many first places p k) where
  abbrev y : System
  y = system_of many first places l

  accessed : may_access l.word 4 ≡ true
  accessed = ap (λ b. b && in_ram l.word 4) (eq-eqb (l.word % 4) 0 spot.word_whole) ∙ le-leb (l.word + 4) ram_size spot.word_in

  -- what is done where it may be accessed
  abbrev stored_at : Hart → List ℕ → ℕ → ℕ → ℕ → Executed
  stored_at h memory a bytes x = record { outcome = Went; hart = record h { pc = following h }; memory = with_number memory a bytes x }

  guarded_load : (b : Bool) (n : ℕ) (h : Hart) (memory : List ℕ) (f : Fields) (s : Facts) (address : ℕ) → h.pc ≡ first p + 4 * k → length h.regs ≡ 32
      → f.rd < 32 → b ≡ true → follows (places p) b (suc k) (given s f.rd s.word) ≡ true
      → Describes s (seen b n) (seen b (number_at memory l.word 4)) h.regs → address ≡ l.word
      → Obeys y p b k n h memory (cond (may_access address 4) (gives f h memory (number_at memory address 4)) (stops h memory (Trap Load)))
  guarded_load false n h memory f s address pc regs few held is d e = absurd (true≢false (sym held))
  guarded_load true n h memory f s address pc regs few held is d e =
      subst (λ a. Obeys y p true k n h memory (cond (may_access a 4) (gives f h memory (number_at memory a 4)) (stops h memory (Trap Load)))) (sym e)
      (subst (λ b'. Obeys y p true k n h memory (cond b' (gives f h memory (number_at memory l.word 4)) (stops h memory (Trap Load)))) (sym accessed)
      (gives_obeys spot true n h memory f s s.word (number_at memory l.word 4) pc regs few is d d.word))

  -- a load of what isn't known
  pub other_load : (b : Bool) (n : ℕ) (h : Hart) (memory : List ℕ) (f : Fields) (s : Facts) (width : Width) (slot : Slot) (a x : ℕ)
      → h.pc ≡ first p + 4 * k → length h.regs ≡ 32 → f.rd < 32
      → (may_load l b (number_in slot) width && follows (places p) b (suc k) (given s f.rd Unknown)) ≡ true
      → Describes s (seen b n) (seen b (number_at memory l.word 4)) h.regs → Means slot (seen b n) a
      → Obeys y p b k n h memory (cond (may_access a (bytes_in width)) (gives f h memory x) (stops h memory (Trap Load)))
  other_load b n h memory f s width slot a x pc regs few is d m =
      let c = and_parts (may_load l b (number_in slot) width) (follows (places p) b (suc k) (given s f.rd Unknown)) is in
      subst (λ b'. Obeys y p b k n h memory (cond b' (gives f h memory x) (stops h memory (Trap Load)))) (sym (loaded l b width slot (seen b n) a c.0 m))
      (gives_obeys spot b n h memory f s Unknown x pc regs few c.1 d tt)

  -- a load of a word
  pub word_load : (b : Bool) (n : ℕ) (h : Hart) (memory : List ℕ) (f : Fields) (s : Facts) (slot : Slot) (a : ℕ)
      → h.pc ≡ first p + 4 * k → length h.regs ≡ 32 → f.rd < 32 → load_checks l (places p) k b f.rd Word slot s ≡ true
      → Describes s (seen b n) (seen b (number_at memory l.word 4)) h.regs → Means slot (seen b n) a
      → Obeys y p b k n h memory (cond (may_access a 4) (gives f h memory (number_at memory a 4)) (stops h memory (Trap Load)))
  word_load b n h memory f s slot a pc regs few is d m = by (or_cases (is_constant slot l.word && (b && follows (places p) b (suc k) (given s f.rd s.word)))
      (may_load l b (number_in slot) Word && follows (places p) b (suc k) (given s f.rd Unknown)) is)
    where
      by : ((is_constant slot l.word && (b && follows (places p) b (suc k) (given s f.rd s.word))) ≡ true)
          ⊎ ((may_load l b (number_in slot) Word && follows (places p) b (suc k) (given s f.rd Unknown)) ≡ true)
          → Obeys y p b k n h memory (cond (may_access a 4) (gives f h memory (number_at memory a 4)) (stops h memory (Trap Load)))
      by (inl z) =
          let c = and_parts (is_constant slot l.word) (b && follows (places p) b (suc k) (given s f.rd s.word)) z in
          let e = and_parts b (follows (places p) b (suc k) (given s f.rd s.word)) c.1 in
          guarded_load b n h memory f s a pc regs few e.0 e.1 d (means_constant slot l.word (seen b n) a (omega (arith, spot.word_in)) c.0 m)
      by (inr z) = other_load b n h memory f s Word slot a (number_at memory a 4) pc regs few z d m

  guarded_store : (b : Bool) (n : ℕ) (h : Hart) (memory : List ℕ) (s : Facts) (address x : ℕ) (slot : Slot) → h.pc ≡ first p + 4 * k → length h.regs ≡ 32
      → length memory ≡ ram_size → b ≡ true → follows (places p) b (suc k) (record { registers = s.registers; word = slot }) ≡ true
      → Describes s (seen b n) (seen b (number_at memory l.word 4)) h.regs → Means slot (seen b n) x → address ≡ l.word
      → Obeys y p b k n h memory (cond (may_access address 4) (stored_at h memory address 4 x) (stops h memory (Trap Store)))
  guarded_store false n h memory s address x slot pc regs ram held is d m e = absurd (true≢false (sym held))
  guarded_store true n h memory s address x slot pc regs ram held is d m e =
      subst (λ a. Obeys y p true k n h memory (cond (may_access a 4) (stored_at h memory a 4 x) (stops h memory (Trap Store)))) (sym e)
      (subst (λ b'. Obeys y p true k n h memory (cond b' (stored_at h memory l.word 4 x) (stops h memory (Trap Store)))) (sym accessed)
      (inl (record {
        outcome = refl;
        next = suc k;
        pc = (let near = spot.near in omega arith);
        regs = regs;
        ram = inr (inl (refl, (x, refl)));
        holds = at spot true (suc k) n (number_at (with_number memory l.word 4 x) l.word 4) (record { registers = s.registers; word = slot }) h.regs is
            (record { registers = d.registers; word = means_stored slot memory l.word n x (omega (arith, ram, spot.word_in)) m });
      })))

  -- a store behind the guarded word
  pub other_store : (b : Bool) (n : ℕ) (h : Hart) (memory : List ℕ) (s : Facts) (width : Width) (slot : Slot) (a x : ℕ)
      → h.pc ≡ first p + 4 * k → length h.regs ≡ 32 → length memory ≡ ram_size
      → (may_store l (number_in slot) width && follows (places p) b (suc k) s) ≡ true
      → Describes s (seen b n) (seen b (number_at memory l.word 4)) h.regs → Means slot (seen b n) a
      → Obeys y p b k n h memory (cond (may_access a (bytes_in width)) (stored_at h memory a (bytes_in width) x) (stops h memory (Trap Store)))
  other_store b n h memory s width slot a x pc regs ram is d m =
      let c = and_parts (may_store l (number_in slot) width) (follows (places p) b (suc k) s) is in
      let e = stored l width slot (seen b n) a c.0 m in
      let same : number_at (with_number memory a (bytes_in width) x) l.word 4 ≡ number_at memory l.word 4 =
      kept_below memory a (bytes_in width) _ l.word e.1 (omega (arith, ram, spot.word_in)) in
      subst (λ b'. Obeys y p b k n h memory (cond b' (stored_at h memory a (bytes_in width) x) (stops h memory (Trap Store)))) (sym e.0)
      (inl (record {
        outcome = refl;
        next = suc k;
        pc = (let near = spot.near in omega arith);
        regs = regs;
        ram = inr (inr (record { address = a; bytes = bytes_in width; value = x; behind = e.1; is = refl }));
        holds = subst (λ v. At y p b (suc k) n v h.regs) (sym same) (at spot b (suc k) n (number_at memory l.word 4) s h.regs c.1 d);
      }))

  -- a store of a word
  pub word_store : (b : Bool) (n : ℕ) (h : Hart) (memory : List ℕ) (s : Facts) (value slot : Slot) (a x : ℕ)
      → h.pc ≡ first p + 4 * k → length h.regs ≡ 32 → length memory ≡ ram_size → store_checks l (places p) k b Word value slot s ≡ true
      → Describes s (seen b n) (seen b (number_at memory l.word 4)) h.regs → Means value (seen b n) x → Means slot (seen b n) a
      → Obeys y p b k n h memory (cond (may_access a 4) (stored_at h memory a 4 x) (stops h memory (Trap Store)))
  word_store b n h memory s value slot a x pc regs ram is d v m = by
      (or_cases (is_constant slot l.word && (b && follows (places p) b (suc k) (record { registers = s.registers; word = value })))
      (may_store l (number_in slot) Word && follows (places p) b (suc k) s) is)
    where
      by : ((is_constant slot l.word && (b && follows (places p) b (suc k) (record { registers = s.registers; word = value }))) ≡ true)
          ⊎ ((may_store l (number_in slot) Word && follows (places p) b (suc k) s) ≡ true)
          → Obeys y p b k n h memory (cond (may_access a 4) (stored_at h memory a 4 x) (stops h memory (Trap Store)))
      by (inl z) =
          let c = and_parts (is_constant slot l.word) (b && follows (places p) b (suc k) (record { registers = s.registers; word = value })) z in
          let e = and_parts b (follows (places p) b (suc k) (record { registers = s.registers; word = value })) c.1 in
          guarded_store b n h memory s a x value pc regs ram e.0 e.1 d v (means_constant slot l.word (seen b n) a (omega (arith, spot.word_in)) c.0 m)
      by (inr z) = other_store b n h memory s Word slot a x pc regs ram z d m
