-- Sections and symbols, one after another.
use Rattle.std.proofs.Common.{◌≡◌, ℕ, suc, ◌+◌, ◌-◌, ◌*◌, ◌<◌, ◌≤◌, Bool, true, false, cond, ◌&&◌, List, [], ◌∷◌, Option, Some, None, IfSome, rules, refl, sym, ap, subst, ◌∙◌, arith, nat_lt, nat_le, ne_eqb, leb-true}
use Rattle.std.specs.Prelude.{◌==◌}
use Rattle.std.proofs.lemmas.Bool.{and_parts}
use Rattle.std.proofs.lemmas.Bool.Decides.{nat_tests}
use Rattle.elf_symbols.specs.Sections.{section_at, symbols_among}
use Rattle.elf_symbols.specs.SoFar.{best_of, next_best}
use Rattle.elf_symbols.specs.Symbols.{symbol_at, symbols_from, nearer, nearest}
use Rattle.elf_symbols.specs.declared.sections.Section.{Section}
use Rattle.elf_symbols.specs.declared.symbols.Symbol.{Symbol}

-- the sections that are left, after so many of those of a table
pub record SectionsLeft (bytes : List ℕ) (table count at counter : ℕ) : Type 0 where
  pub place : at ≡ table + 40 * counter
  pub rest : symbols_among bytes table count ≡ symbols_among bytes at (count - counter)

-- a section that has no symbols
pub sections-next : (bytes : List ℕ) (table count at counter : ℕ) (s : Section) → SectionsLeft bytes table count at counter → counter < count
    → s ≡ section_at bytes at → (s.kind ≡ 2 → ⊥) → SectionsLeft bytes table count (at + 40) (counter + 1)
sections-next bytes table count at counter s left more is other =
    let now : count - counter ≡ suc (count - (counter + 1)) = omega arith in
    let unlike : (s.kind == 2) ≡ false = ne_eqb s.kind 2 other in
    let unlike' : ((section_at bytes at).kind == 2) ≡ false = ap (λ (t : Section). t.kind == 2) (sym is) ∙ unlike in
    let step : symbols_among bytes at (suc (count - (counter + 1))) ≡ symbols_among bytes (at + 40) (count - (counter + 1)) = rw unlike' refl in
    record { place = omega (arith, left.place); rest = left.rest ∙ ap (symbols_among bytes at) now ∙ step }

-- a section that has some
pub sections-here : (bytes : List ℕ) (table count at counter : ℕ) → SectionsLeft bytes table count at counter → counter < count
    → ((section_at bytes at).kind == 2) ≡ true → Some (section_at bytes at) ≡ symbols_among bytes table count
sections-here bytes table count at counter left more same =
    let now : count - counter ≡ suc (count - (counter + 1)) = omega arith in
    let step : symbols_among bytes at (suc (count - (counter + 1))) ≡ Some (section_at bytes at) = rw same refl in
    sym (left.rest ∙ ap (symbols_among bytes at) now ∙ step)

-- no section is left
pub sections-end : (bytes : List ℕ) (table count at counter : ℕ) → SectionsLeft bytes table count at counter → count ≤ counter
    → None ≡ symbols_among bytes table count
sections-end bytes table count at counter left all =
    let none : count - counter ≡ 0 = omega arith in
    sym (left.rest ∙ ap (symbols_among bytes at) none)

-- the symbols that are left, after so many of those of a table, and the nearest so far
pub record SymbolsLeft (test : Symbol → Bool) (address : ℕ) (bytes : List ℕ) (table count at counter : ℕ) (best : Option Symbol) : Type 0 where
  pub place : at ≡ table + 16 * counter
  pub rest : nearest test address (symbols_from bytes table count)
      ≡ best_of best (nearest test address (symbols_from bytes at (count - counter)))

nearer_none : (x : Bool) (s t : Symbol) → cond x (Some t) (Some s) ≡ best_of (cond x (Some t) (Some s)) None
nearer_none true s t = refl
nearer_none false s t = refl

three : (x y z : Bool) (s t u : Symbol) → nat_lt s.value t.value ≡ x → nat_lt t.value u.value ≡ y → nat_lt s.value u.value ≡ z
    → nearer s (cond y (Some u) (Some t)) ≡ best_of (cond x (Some t) (Some s)) (Some u)
three true true z s t u a b c = (let chain : nat_lt s.value u.value ≡ true = grind (arith, nat_tests) in rw (b, chain) refl)
three true false z s t u a b c = rw (a, b) refl
three false true z s t u a b c = refl
three false false z s t u a b c = (let chain : nat_lt s.value u.value ≡ false = grind (arith, nat_tests) in rw (a, chain) refl)

-- the nearer of two, and of a third
nearer-nearer : (s t : Symbol) (later : Option Symbol) → nearer s (nearer t later) ≡ best_of (nearer s (Some t)) later
nearer-nearer s t None = nearer_none (nat_lt s.value t.value) s t
nearer-nearer s t (Some u) = three (nat_lt s.value t.value) (nat_lt t.value u.value) (nat_lt s.value u.value) s t u refl refl refl

best-nearer : (best : Option Symbol) (t : Symbol) (later : Option Symbol) → best_of best (nearer t later) ≡ best_of (best_of best (Some t)) later
best-nearer None t later = refl
best-nearer (Some s) t later = nearer-nearer s t later

step-best : (x : Bool) (best : Option Symbol) (t : Symbol) (later : Option Symbol)
    → best_of best (cond x (nearer t later) later) ≡ best_of (cond x (best_of best (Some t)) best) later
step-best true best t later = best-nearer best t later
step-best false best t later = refl

-- one symbol more
pub symbols-next : (test : Symbol → Bool) (address : ℕ) (bytes : List ℕ) (table count at counter : ℕ) (best next : Option Symbol) (s : Symbol)
    → SymbolsLeft test address bytes table count at counter best → counter < count → s ≡ symbol_at bytes at
    → next ≡ next_best test address best s → SymbolsLeft test address bytes table count (at + 16) (counter + 1) next
symbols-next test address bytes table count at counter best next s left more here is =
    let now : count - counter ≡ suc (count - (counter + 1)) = omega arith in
    let later = nearest test address (symbols_from bytes (at + 16) (count - (counter + 1))) in
    let t = symbol_at bytes at in
    record {
      place = omega (arith, left.place);
      rest = left.rest ∙ ap (λ (n : ℕ). best_of best (nearest test address (symbols_from bytes at n))) now
          ∙ step-best (test t && nat_le t.value address) best t later
          ∙ ap (λ o. best_of o later) (sym (is ∙ ap (next_best test address best) here));
    }

best-none : (best : Option Symbol) → best_of best None ≡ best
best-none None = refl
best-none (Some s) = refl

-- no symbol is left
pub symbols-end : (test : Symbol → Bool) (address : ℕ) (bytes : List ℕ) (table count at counter : ℕ) (best : Option Symbol)
    → SymbolsLeft test address bytes table count at counter best → count ≤ counter
    → best ≡ nearest test address (symbols_from bytes table count)
symbols-end test address bytes table count at counter best left all =
    let none : count - counter ≡ 0 = omega arith in
    sym (left.rest ∙ ap (λ (n : ℕ). best_of best (nearest test address (symbols_from bytes at n))) none ∙ best-none best)

nearer-bound : (x : Bool) (address : ℕ) (s u t : Symbol) → s.value ≤ address → u.value ≤ address → cond x (Some u) (Some s) ≡ Some t
    → t.value ≤ address
nearer-bound true address s u t low later is = let same : u ≡ t = cc in subst (λ (v : Symbol). v.value ≤ address) same later
nearer-bound false address s u t low later is = let same : s ≡ t = cc in subst (λ (v : Symbol). v.value ≤ address) same low

first-bound : (o : Option Symbol) (address : ℕ) (s t : Symbol) → s.value ≤ address → ((u : Symbol) → o ≡ Some u → u.value ≤ address)
    → nearer s o ≡ Some t → t.value ≤ address
first-bound None address s t low later is = let same : s ≡ t = cc in subst (λ (v : Symbol). v.value ≤ address) same low
first-bound (Some u) address s t low later is = nearer-bound (nat_lt s.value u.value) address s u t low (later u refl) is

step-bound : (x : Bool) (test : Symbol → Bool) (address : ℕ) (s t : Symbol) (o : Option Symbol) → (test s && nat_le s.value address) ≡ x
    → ((u : Symbol) → o ≡ Some u → u.value ≤ address) → cond x (nearer s o) o ≡ Some t → t.value ≤ address
step-bound true test address s t o allowed later is =
    first-bound o address s t (leb-true s.value address (and_parts (test s) (nat_le s.value address) allowed).1) later is
step-bound false test address s t o allowed later is = later t is

-- the nearest symbol isn't above the address
pub nearest-bound : (test : Symbol → Bool) (address : ℕ) (symbols : List Symbol) (t : Symbol) → nearest test address symbols ≡ Some t
    → t.value ≤ address
nearest-bound test address [] t is = cc
nearest-bound test address (s ∷ symbols) t is =
    step-bound (test s && nat_le s.value address) test address s t (nearest test address symbols) refl (nearest-bound test address symbols) is

pub found-bound : (o : Option Symbol) (test : Symbol → Bool) (address : ℕ) (symbols : List Symbol) → o ≡ nearest test address symbols
    → IfSome o (λ symbol. symbol.value ≤ address)
found-bound None test address symbols is = search rules
found-bound (Some t) test address symbols is = nearest-bound test address symbols t (sym is)
