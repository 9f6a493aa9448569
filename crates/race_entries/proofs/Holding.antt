-- The entries and those of a detector change alike.
use Rattle.std.proofs.Common.{◌≡◌, ◌∙◌, ℕ, Bool, true, false, ◌&&◌, ◌==◌, Option, None, Some, List, if◌then◌else◌, ap, refl, sym, inl, inr}
use Rattle.std.proofs.lemmas.Bool.Decides.{eqb_tells}
use Rattle.happens_before.specs.Histories.{Access, Accessed, Given}
use Rattle.happens_before.specs.Races.{Made, Time}
use Rattle.happens_before.specs.Told.{Entries, entered, is_kind, is_of}
use Rattle.race_entries.specs.Entries.{Holds, entry_of, is_among, is_by, last, made_entry}
use Rattle.race_entries.specs.declared.entry.Entry.{Entry}

swap_and : (p k q : Bool) → (p && (k && q)) ≡ (k && (p && q))
swap_and true true q = refl
swap_and true false q = refl
swap_and false true q = refl
swap_and false false q = refl

eqb_swap : (a b : ℕ) → (a == b) ≡ (b == a)
eqb_swap a b = elim (eqb_tells a b) [
  | inl (yes1, e) ↦ rw e refl
  | inr (no1, n) ↦ elim (eqb_tells b a) [
    | inl (yes2, e) ↦ absurd (n (sym e))
    | inr (no2, m) ↦ no1 ∙ sym no2
  ]
]

-- one of two accesses that were made
chosen : (c : Bool) (x : Made) (o : Option Made) → (if c then Some (made_entry x) else entry_of o) ≡ entry_of (if c then Some x else o)
chosen true x o = refl
chosen false x o = refl

-- none, or what was
dropped : (c : Bool) (o : Option Made) → (if c then None else entry_of o) ≡ entry_of (if c then None else o)
dropped true o = refl
dropped false o = refl

pub held_access : (old new : List (List Entry)) (entries : Entries) (t : Time) (a : Access) (e : Entry) → e ≡ made_entry (record { time = t; access = a })
    → ((stores : Bool) (b u : ℕ) → last new stores b u ≡ (if (b == a.byte) && is_by stores u e then Some e else last old stores b u))
    → Holds old entries → Holds new (entered t (Some (Accessed a)) entries)
held_access old new entries t a e is enters held = record {
  same = λ stores b u.
      let x : Made = record { time = t; access = a } in
      let test : ((b == a.byte) && is_by stores u (made_entry x)) ≡ is_of stores b u a =
      swap_and (b == a.byte) (is_kind stores a.stores) (a.process == u)
      ∙ ap (λ p. is_kind stores a.stores && (p && (a.process == u))) (eqb_swap b a.byte) in
      enters stores b u
      ∙ ap (λ (y : Entry). if (b == a.byte) && is_by stores u y then Some y else last old stores b u) is
      ∙ ap (λ o. if (b == a.byte) && is_by stores u (made_entry x) then Some (made_entry x) else o) (held.same stores b u)
      ∙ ap (λ p. if p then Some (made_entry x) else entry_of (entries stores b u)) test
      ∙ chosen (is_of stores b u a) x (entries stores b u);
}

pub held_gift : (old new : List (List Entry)) (entries : Entries) (t : Time) (first count : ℕ)
    → ((stores : Bool) (b u : ℕ) → last new stores b u ≡ (if is_among first count b then None else last old stores b u))
    → Holds old entries → Holds new (entered t (Some (Given first count)) entries)
held_gift old new entries t first count gives held = record {
  same = λ stores b u. gives stores b u ∙ ap (λ o. if is_among first count b then None else o) (held.same stores b u)
      ∙ dropped (is_among first count b) (entries stores b u);
}
