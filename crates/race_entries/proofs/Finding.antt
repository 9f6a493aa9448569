-- Which entry of a list is found.
use Rattle.std.proofs.Common.{◌≡◌, ◌∙◌, ◌<◌, ◌≤◌, ◌+◌, ◌++◌, ℕ, zero, suc, Bool, true, false, if◌then◌else◌, List, [], ◌∷◌, length, Some, None, slice_index_or, slice_set, ap, refl, sym, arith, inl, inr}
use Rattle.std.proofs.lemmas.Bool.{cases_Bool}
use Rattle.std.proofs.lemmas.Bool.Decides.{eqb_tells}
use Rattle.race_entries.specs.Entries.{found, is_by}
use Rattle.race_entries.specs.declared.entry.Entry.{Entry}
use Rattle.race_entries.proofs.Keys.{Keyed, keyed_apart, keyed_by, no_entry}

abbrev pub at : List Entry → ℕ → Entry
at es i = slice_index_or es i no_entry

-- what is read of entry i is the entry
pub read_at : (es : List Entry) (i : ℕ) (x : Entry) → i < length es → x ≡ slice_index_or es i x → at es i ≡ x
read_at [] i x low is = absurd (omega (arith, low))
read_at (y ∷ es) zero x low is = sym is
read_at (y ∷ es) (suc i) x low is = read_at es i x (omega (arith, low)) is

-- none of the first n entries is of this kind and process
pub record Missed (stores : Bool) (u : ℕ) (es : List Entry) (n : ℕ) : Type 0 where
  pub none : (k : ℕ) → k < n → is_by stores u (at es k) ≡ false

pub missed_next : (stores : Bool) (u : ℕ) (es : List Entry) (n : ℕ) → is_by stores u (at es n) ≡ false → Missed stores u es n
    → Missed stores u es (n + 1)
missed_next stores u es n other before = record {
  none = λ k low. elim (eqb_tells k n) [
    | inl (_, e) ↦ rw e other
    | inr (_, e) ↦ before.none k (omega (arith, low, e))
  ];
}

missed_rest : (stores : Bool) (u : ℕ) (x : Entry) (es : List Entry) (n : ℕ) → Missed stores u (x ∷ es) (suc n) → Missed stores u es n
missed_rest stores u x es n before = record { none = λ k low. before.none (suc k) (omega (arith, low)) }

pub here : (stores : Bool) (u : ℕ) (x : Entry) (es : List Entry) → is_by stores u x ≡ true → found stores u (x ∷ es) ≡ Some x
here stores u x es is = rw is refl

pub past : (stores : Bool) (u : ℕ) (x : Entry) (es : List Entry) → is_by stores u x ≡ false → found stores u (x ∷ es) ≡ found stores u es
past stores u x es other = rw other refl

-- it is the first of its kind and process
pub first_found : (stores : Bool) (u : ℕ) (es : List Entry) (i : ℕ) → i < length es → Missed stores u es i → is_by stores u (at es i) ≡ true
    → found stores u es ≡ Some (at es i)
first_found stores u [] i low before is = absurd (omega (arith, low))
first_found stores u (x ∷ es) zero low before is = here stores u x es is
first_found stores u (x ∷ es) (suc i) low before is =
    past stores u x es (before.none 0 (omega arith))
    ∙ first_found stores u es i (omega (arith, low)) (missed_rest stores u x es i before) is

-- there is none of this kind and process
pub none_found : (stores : Bool) (u : ℕ) (es : List Entry) (n : ℕ) → length es ≤ n → Missed stores u es n → found stores u es ≡ None
none_found stores u [] n all before = refl
none_found stores u (x ∷ es) zero all before = absurd (omega (arith, all))
none_found stores u (x ∷ es) (suc n) all before =
    past stores u x es (before.none 0 (omega arith)) ∙ none_found stores u es n (omega (arith, all)) (missed_rest stores u x es n before)

-- an entry takes the place of the first of its kind and process
pub set_found : (e : Entry) (es : List Entry) (i : ℕ) → i < length es → Missed e.stores e.process es i → Keyed (at es i) e
    → (stores : Bool) (u : ℕ) → found stores u (slice_set es i e) ≡ (if is_by stores u e then Some e else found stores u es)
set_found e [] i low before k stores u = absurd (omega (arith, low))
set_found e (x ∷ es) zero low before k stores u = elim (cases_Bool (is_by stores u e)) [
  | inl is ↦ rw is refl
  | inr other ↦ rw (other, past stores u x es (keyed_by x e k stores u ∙ other)) refl
]
set_found e (x ∷ es) (suc i) low before k stores u = elim (cases_Bool (is_by stores u x)) [
  | inl is ↦ let apart = keyed_apart e x stores u (before.none 0 (omega arith)) is in
      here stores u x (slice_set es i e) is ∙ sym (rw apart (here stores u x es is))
  | inr other ↦ let rest = set_found e es i (omega (arith, low)) (missed_rest e.stores e.process x es i before) k stores u in
      past stores u x (slice_set es i e) other ∙ rest ∙ ap (λ o. if is_by stores u e then Some e else o) (sym (past stores u x es other))
]

-- an entry comes after all
pub push_found : (e : Entry) (es : List Entry) → found e.stores e.process es ≡ None
    → (stores : Bool) (u : ℕ) → found stores u (es ++ e ∷ []) ≡ (if is_by stores u e then Some e else found stores u es)
push_found e [] none stores u = refl
push_found e (x ∷ es) none stores u = elim (cases_Bool (is_by e.stores e.process x)) [
  | inl is ↦ absurd (cc (sym (here e.stores e.process x es is) ∙ none))
  | inr other ↦ let fewer : found e.stores e.process es ≡ None = sym (past e.stores e.process x es other) ∙ none in
      elim (cases_Bool (is_by stores u x)) [
        | inl is ↦ let apart = keyed_apart e x stores u other is in
            here stores u x (es ++ e ∷ []) is ∙ sym (rw apart (here stores u x es is))
        | inr differs ↦ past stores u x (es ++ e ∷ []) differs ∙ push_found e es fewer stores u
            ∙ ap (λ o. if is_by stores u e then Some e else o) (sym (past stores u x es differs))
      ]
]

-- none of the first n of these entries is of this kind and process, and they are those of before
pub record Unmatched (stores : Bool) (u : ℕ) (old es : List Entry) (n : ℕ) : Type 0 where
  pub same : es ≡ old
  pub missed : Missed stores u es n
