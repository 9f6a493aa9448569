-- The entries of a byte are told one after another.
use Rattle.std.proofs.Common.{◌≡◌, ◌∙◌, ◌<◌, ◌+◌, ◌++◌, ℕ, zero, suc, Bool, List, [], ◌∷◌, Some, false, append_assoc, cond, get_or, inl, inr, length, map, slice_get, take, ap, arith, refl, sym}
use Rattle.std.proofs.lemmas.Bool.{cases_lt}
use Rattle.std.proofs.lemmas.List.{map-append}
use Rattle.std.proofs.lemmas.List.Elements.{filter_more}
use Rattle.std.specs.List.{filter}
use Rattle.race_entries.specs.Entries.{entries_of, last}
use Rattle.race_entries.specs.declared.entry.Entry.{Entry}
use Rattle.race_detector.specs.declared.pair.Pair.{Pair}
use Rattle.race_detector.specs.Told.{listed}

no_entry : Entry
no_entry = record { event = 0; place = 0; process = 0; stores = false }

-- entry i alone
one_told : (p : Entry → Bool) (es : List Entry) (i : ℕ) (d : Entry) → i < length es
    → filter p (listed (slice_get es i)) ≡ cond (p (get_or es i d)) (get_or es i d ∷ []) []
one_told p [] i d low = absurd (omega (arith, low))
one_told p (x ∷ es) zero d low = refl
one_told p (x ∷ es) (suc i) d low = one_told p es i d (omega (arith, low))

-- entry i comes after those before it
pub told_next : (f : Entry → Pair) (p : Entry → Bool) (es : List Entry) (old now new : List Pair) (i : ℕ) → i < length es
    → now ≡ old ++ map f (filter p (take i es)) → new ≡ now ++ map f (filter p (listed (slice_get es i)))
    → new ≡ old ++ map f (filter p (take (i + 1) es))
told_next f p es old now new i low before next =
    next ∙ ap (λ l. l ++ map f (filter p (listed (slice_get es i)))) before
    ∙ append_assoc old (map f (filter p (take i es))) (map f (filter p (listed (slice_get es i))))
    ∙ ap (λ l. old ++ (map f (filter p (take i es)) ++ map f l)) (one_told p es i no_entry low)
    ∙ ap (λ l. old ++ l) (sym (map-append f (filter p (take i es)) (cond (p (get_or es i no_entry)) (get_or es i no_entry ∷ []) [])))
    ∙ ap (λ l. old ++ map f l) (sym (filter_more p es i no_entry low))

-- Each entry before i is the last access of its kind and process.
pub record AreLast (bytes : List (List Entry)) (b i : ℕ) : Type 0 where
  pub is : (k : ℕ) (e : Entry) → k < i → slice_get (entries_of bytes b) k ≡ Some e → last bytes e.stores b e.process ≡ Some e

-- so is the next one
pub last_next : (bytes : List (List Entry)) (b i : ℕ) → AreLast bytes b i
    → ((e : Entry) → slice_get (entries_of bytes b) i ≡ Some e → last bytes e.stores b e.process ≡ Some e) → AreLast bytes b (i + 1)
last_next bytes b i before here = record {
  is = λ k e low at. elim (cases_lt k i) [
    | inl less ↦ before.is k e less at
    | inr from ↦ let same : k ≡ i = omega arith in here e (ap (slice_get (entries_of bytes b)) (sym same) ∙ at)
  ];
}
