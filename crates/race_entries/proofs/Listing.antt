-- What is found among entries is one of them.
use Rattle.std.proofs.Common.{◌≡◌, ◌∙◌, ◌<◌, ℕ, suc, Bool, true, List, [], ◌∷◌, length, Some, slice_index_or, arith, inl, inr, sym}
use Rattle.std.proofs.lemmas.Bool.{cases_Bool}
use Rattle.std.specs.List.{Contains}
use Rattle.race_entries.specs.Entries.{found, is_by}
use Rattle.race_entries.specs.declared.entry.Entry.{Entry}
use Rattle.race_entries.proofs.Finding.{here, past}
use Rattle.race_entries.proofs.Keys.{matched}

-- e is one of these, and has this kind and process
record Listed (stores : Bool) (u : ℕ) (es : List Entry) (e : Entry) : Type 0 where
  place : ℕ
  low : place < length es
  is : slice_index_or es place e ≡ e
  stored : e.stores ≡ stores
  process : e.process ≡ u

listed_here : (stores : Bool) (u : ℕ) (x : Entry) (es : List Entry) (e : Entry) → is_by stores u x ≡ true → x ≡ e → Listed stores u (x ∷ es) e
listed_here stores u x es e is same =
    let (s, p) = matched e stores u (rw same at is) in
    record { place = 0; low = omega arith; is = same; stored = sym s; process = p }

listed : (stores : Bool) (u : ℕ) (es : List Entry) (e : Entry) → found stores u es ≡ Some e → Listed stores u es e
listed stores u [] e is = absurd (cc is)
listed stores u (x ∷ es) e is = elim (cases_Bool (is_by stores u x)) [
  | inl first ↦ let some : Some x ≡ Some e = sym (here stores u x es first) ∙ is in listed_here stores u x es e first (cc some)
  | inr other ↦ let rest = listed stores u es e (sym (past stores u x es other) ∙ is) in
      record { place = suc rest.place; low = omega (arith, rest.low); is = rest.is; stored = rest.stored; process = rest.process }
]

pub found_listed : (stores : Bool) (u : ℕ) (es : List Entry) (e : Entry) → found stores u es ≡ Some e
    → Contains es e × (e.stores ≡ stores) × (e.process ≡ u)
found_listed stores u es e is = let l = listed stores u es e is in ((l.place, l.low, l.is), l.stored, l.process)
