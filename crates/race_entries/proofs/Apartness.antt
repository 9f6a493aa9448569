-- No two entries of a list are of one kind and process.
use Rattle.std.proofs.Common.{◌≡◌, ◌∙◌, ◌<◌, ◌++◌, ℕ, zero, suc, Bool, true, false, List, [], ◌∷◌, length, Some, None, slice_index_or, slice_set, ap, refl, sym, arith, inl, inr}
use Rattle.std.proofs.lemmas.Bool.{cases_Bool}
use Rattle.race_entries.specs.Entries.{Apart, found, is_by}
use Rattle.race_entries.specs.declared.entry.Entry.{Entry}
use Rattle.race_entries.proofs.Finding.{at, here, past, push_found}
use Rattle.race_entries.proofs.Keys.{Keyed, keyed_by, keyed_is, self_key}

-- what isn't found isn't first
missed_first : (stores : Bool) (u : ℕ) (x : Entry) (es : List Entry) → found stores u (x ∷ es) ≡ None → is_by stores u x ≡ false
missed_first stores u x es none = elim (cases_Bool (is_by stores u x)) [
  | inl is ↦ absurd (cc (sym (here stores u x es is) ∙ none))
  | inr other ↦ other
]

missed_past : (stores : Bool) (u : ℕ) (x : Entry) (es : List Entry) → found stores u (x ∷ es) ≡ None → found stores u es ≡ None
missed_past stores u x es none = sym (past stores u x es (missed_first stores u x es none)) ∙ none

missed_set : (e : Entry) (es : List Entry) (i : ℕ) → i < length es → Keyed (at es i) e → (stores : Bool) (u : ℕ) → found stores u es ≡ None
    → found stores u (slice_set es i e) ≡ None
missed_set e [] i low k stores u none = absurd (omega (arith, low))
missed_set e (x ∷ es) zero low k stores u none =
    past stores u e es (sym (keyed_by x e k stores u) ∙ missed_first stores u x es none) ∙ missed_past stores u x es none
missed_set e (x ∷ es) (suc i) low k stores u none =
    past stores u x (slice_set es i e) (missed_first stores u x es none)
    ∙ missed_set e es i (omega (arith, low)) k stores u (missed_past stores u x es none)

-- an entry takes the place of one of its kind and process
pub apart_set : (e : Entry) (es : List Entry) (i : ℕ) → i < length es → Keyed (at es i) e → Apart es → Apart (slice_set es i e)
apart_set e [] i low k apart = absurd (omega (arith, low))
apart_set e (x ∷ es) zero low k apart = (rw (← k.stores, ← k.process) apart.0, apart.1)
apart_set e (x ∷ es) (suc i) low k apart =
    (missed_set e es i (omega (arith, low)) k x.stores x.process apart.0, apart_set e es i (omega (arith, low)) k apart.1)

-- x differs from e, so e differs from x
other_way : (e x : Entry) → is_by e.stores e.process x ≡ false → is_by x.stores x.process e ≡ false
other_way e x other = elim (cases_Bool (is_by x.stores x.process e)) [
  | inl is ↦ absurd (cc (sym other ∙ sym (keyed_by e x (keyed_is e x is) e.stores e.process) ∙ self_key e))
  | inr differs ↦ differs
]

-- an entry comes after all
pub apart_push : (e : Entry) (es : List Entry) → found e.stores e.process es ≡ None → Apart es → Apart (es ++ e ∷ [])
apart_push e [] none apart = (refl, tt)
apart_push e (x ∷ es) none apart =
    let fewer = missed_past e.stores e.process x es none in
    let other = other_way e x (missed_first e.stores e.process x es none) in
    (push_found e es fewer x.stores x.process ∙ rw other apart.0, apart_push e es fewer apart.1)

same_found : (x e : Entry) (es : List Entry) → Keyed x e → found e.stores e.process es ≡ found x.stores x.process es
same_found x e es k = rw (k.stores, k.process) refl

-- e is found among entries of other kinds and processes than x's
apart_other : (x e : Entry) (es : List Entry) → found x.stores x.process es ≡ None → found e.stores e.process es ≡ Some e
    → is_by e.stores e.process x ≡ false
apart_other x e es none some = elim (cases_Bool (is_by e.stores e.process x)) [
  | inl is ↦ absurd (cc (sym some ∙ same_found x e es (keyed_is x e is) ∙ none))
  | inr other ↦ other
]

-- each is the one of its kind and process
pub apart_at : (es : List Entry) (i : ℕ) (e : Entry) → i < length es → e ≡ slice_index_or es i e → Apart es
    → found e.stores e.process es ≡ Some e
apart_at [] i e low is apart = absurd (omega (arith, low))
apart_at (x ∷ es) zero e low is apart =
    let key : is_by e.stores e.process x ≡ true = rw (sym is) (self_key e) in
    here e.stores e.process x es key ∙ ap Some (sym is)
apart_at (x ∷ es) (suc i) e low is apart =
    let rest = apart_at es i e (omega (arith, low)) is apart.1 in
    past e.stores e.process x es (apart_other x e es apart.0 rest) ∙ rest
