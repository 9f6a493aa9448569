-- An entry is told if the history tells its access.
use Rattle.std.proofs.Common.{◌≡◌, ◌≢◌, ◌∙◌, ◌↔◌, ◌<◌, ℕ, Bool, true, false, ◌&&◌, ◌||◌, ◌==◌, not, Option, None, Some, List, ap, refl, sym, subst, inl, inr}
use Rattle.std.proofs.lemmas.Bool.{lt-ltb, ltb-true}
use Rattle.std.proofs.lemmas.Bool.Decides.{eqb_tells}
use Rattle.happens_before.specs.Clocks.{Clock}
use Rattle.happens_before.specs.Histories.{Moment}
use Rattle.happens_before.specs.Races.{IsMade, Made}
use Rattle.happens_before.specs.Told.{IsTold, entries_at}
use Rattle.race_entries.specs.Entries.{Holds, entry_of, last, made_entry}
use Rattle.race_entries.specs.declared.entry.Entry.{Entry}
use Rattle.race_detector.specs.Told.{Knows, is_told}

both : (a b : Bool) → (a && b) ≡ true → (a ≡ true) × (b ≡ true)
both true true h = (refl, refl)
both true false h = absurd (cc)
both false b h = absurd (cc)

differ : (a b : ℕ) → not (a == b) ≡ true → a ≢ b
differ a b h = elim (eqb_tells a b) [
  | inl (same, _) ↦ absurd (cc (sym (ap not same) ∙ h))
  | inr (_, other) ↦ other
]

differs : (a b : ℕ) → a ≢ b → not (a == b) ≡ true
differs a b h = elim (eqb_tells a b) [
  | inl (_, same) ↦ absurd (h same)
  | inr (other, _) ↦ ap not other
]

-- the access of an entry
made_of : (o : Option Made) (e : Entry) → entry_of o ≡ Some e → (x : Made) × (o ≡ Some x) × (made_entry x ≡ e)
made_of None e h = absurd (cc h)
made_of (Some x) e h = (x, refl, cc)

tells : (h : List Moment) (x y : Made) (clock : Clock) → IsMade h y → Knows h y clock
    → entries_at h y.time.event y.time.turn x.access.stores y.access.byte x.access.process ≡ Some x
    → is_told clock (made_entry y) (made_entry x) ≡ true → IsTold h x y
tells h x y clock made knows entry is =
    let (apart, rest) = both (not (x.access.process == y.access.process)) _ is in
    let (store, before) = both (x.access.stores || y.access.stores) _ rest in
    let others = differ x.access.process y.access.process apart in
    let P : ℕ → Type 0 = λ n. n < x.time.event in
    record {
      made = made;
      entry = entry;
      others = others;
      store = store;
      unknown = subst P (knows.same x.access.process others) (ltb-true (clock x.access.process) x.time.event before);
    }

told : (h : List Moment) (x y : Made) (clock : Clock) → Knows h y clock → IsTold h x y → is_told clock (made_entry y) (made_entry x) ≡ true
told h x y clock knows is =
    let P : ℕ → Type 0 = λ n. n < x.time.event in
    let before = subst P (sym (knows.same x.access.process is.others)) is.unknown in
    rw (differs x.access.process y.access.process is.others, is.store) (lt-ltb (clock x.access.process) x.time.event before)

pub tells_alike : (h : List Moment) (y : Made) (clock : Clock) (bytes : List (List Entry)) (e : Entry) → IsMade h y → Knows h y clock
    → Holds bytes (entries_at h y.time.event y.time.turn) → last bytes e.stores y.access.byte e.process ≡ Some e
    → (is_told clock (made_entry y) e ≡ true) ↔ ((x : Made) × (made_entry x ≡ e) × IsTold h x y)
tells_alike h y clock bytes e made knows held is =
    let at = entries_at h y.time.event y.time.turn in
    let (x, entry, same) = made_of (at e.stores y.access.byte e.process) e (sym (held.same e.stores y.access.byte e.process) ∙ is) in
    let found : at x.access.stores y.access.byte x.access.process ≡ Some x =
    ap (λ (f : Entry). at f.stores y.access.byte f.process) same ∙ entry in (
      λ t. (x, same, tells h x y clock made knows found (ap (is_told clock (made_entry y)) same ∙ t)),
      λ s. sym (ap (is_told clock (made_entry y)) s.1) ∙ told h s.0 y clock knows s.2,
    )
