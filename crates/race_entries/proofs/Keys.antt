-- The kind and the process of an entry.
use Rattle.std.proofs.Common.{◌≡◌, ◌∙◌, ℕ, Bool, true, false, ◌&&◌, inl, inr, refl, sym}
use Rattle.std.proofs.lemmas.Bool.{cases_Bool, eq-eqb, eqb-true}
use Rattle.happens_before.specs.Told.{is_kind}
use Rattle.race_entries.specs.Entries.{is_by}
use Rattle.race_entries.specs.declared.entry.Entry.{Entry}

-- what is read if there is no entry
abbrev pub no_entry : Entry
no_entry = record { event = 0; place = 0; process = 0; stores = false }

both : (a b : Bool) → (a && b) ≡ true → (a ≡ true) × (b ≡ true)
both true true h = (refl, refl)
both true false h = absurd (cc)
both false b h = absurd (cc)

kind_same : (a b : Bool) → is_kind a b ≡ true → a ≡ b
kind_same true true h = refl
kind_same true false h = absurd (cc)
kind_same false true h = absurd (cc)
kind_same false false h = refl

kind_self : (a : Bool) → is_kind a a ≡ true
kind_self true = refl
kind_self false = refl

-- an entry is of its own kind and process
pub self_key : (e : Entry) → is_by e.stores e.process e ≡ true
self_key e = rw (kind_self e.stores) (eq-eqb e.process e.process refl)

-- x and e are of one kind, by one process
pub record Keyed (x e : Entry) : Type 0 where
  pub stores : x.stores ≡ e.stores
  pub process : x.process ≡ e.process

pub keyed_is : (x e : Entry) → is_by e.stores e.process x ≡ true → Keyed x e
keyed_is x e h =
    let (k, p) = both (is_kind e.stores x.stores) _ h in
    record { stores = sym (kind_same e.stores x.stores k); process = eqb-true x.process e.process p }

pub keyed_by : (x e : Entry) → Keyed x e → (stores : Bool) (u : ℕ) → is_by stores u x ≡ is_by stores u e
keyed_by x e k stores u = rw (k.stores, k.process) refl

-- what is of u's kind is keyed as all of it
pub matched : (x : Entry) (stores : Bool) (u : ℕ) → is_by stores u x ≡ true → (stores ≡ x.stores) × (x.process ≡ u)
matched x stores u is = let (k, p) = both (is_kind stores x.stores) _ is in (kind_same stores x.stores k, eqb-true x.process u p)

-- both would be of u's kind
apart_no : (e x : Entry) (stores : Bool) (u : ℕ) → is_by e.stores e.process x ≡ false → is_by stores u x ≡ true → is_by stores u e ≡ true → ⊥
apart_no e x stores u other is also =
    let (a, b) = matched x stores u is in
    let (f, g) = matched e stores u also in
    let key : is_by e.stores e.process x ≡ is_by x.stores x.process x = rw (sym f ∙ a, g ∙ sym b) refl in
    cc (sym other ∙ key ∙ self_key x)

-- what x is e isn't, if they are of two kinds or processes
pub keyed_apart : (e x : Entry) (stores : Bool) (u : ℕ) → is_by e.stores e.process x ≡ false → is_by stores u x ≡ true
    → is_by stores u e ≡ false
keyed_apart e x stores u other is = elim (cases_Bool (is_by stores u e)) [
  | inr differs ↦ differs
  | inl also ↦ absurd (apart_no e x stores u other is also)
]
