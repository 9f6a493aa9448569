-- What is told is a race, and a race is told.
use Rattle.std.proofs.Common.{◌≡◌, ◌≢◌, ℕ, ◌≤◌, ◌<◌, ◌||◌, Bool, true, false, not, ◌⊎◌, inl, inr, List, Option, Some, None, refl, sym, subst, ◌∙◌, arith}
use Rattle.std.proofs.lemmas.Bool.{cases_lt}
use Rattle.happens_before.specs.Clocks.{clock_of}
use Rattle.happens_before.specs.Histories.{Accessed, IsHistory, Moment}
use Rattle.happens_before.specs.Order.{HappensBefore, program, chain, part}
use Rattle.happens_before.specs.Races.{IsEarlier, IsLastConflict, IsMade, IsRace, KeepsOwner, Made, Time, deed_at, part_of, time}
use Rattle.happens_before.specs.Told.{IsTold, entries_at}
use Rattle.happens_before.proofs.Knowing.{order_known, own_component}
use Rattle.happens_before.proofs.Before.{has_before}
use Rattle.happens_before.proofs.Recent.{IsEntry, recent}
use Rattle.happens_before.proofs.Times.{earlier_both, earlier_self, not_both, one_is_earlier}

or_first : (a b : Bool) → (a || b) ≡ true → b ≡ false → a ≡ true
or_first true b either loads = refl
or_first false b either loads = absurd (cc (either, loads))

or_second : (a b : Bool) → b ≡ true → (a || b) ≡ true
or_second true b second = refl
or_second false b second = second

-- there are two kinds of access
two_kinds : (s k : Bool) → (k ≡ s) ⊎ (not k ≡ s)
two_kinds true true = inl refl
two_kinds true false = inr refl
two_kinds false true = inr refl
two_kinds false false = inl refl

module _ (h : List Moment) (sound : IsHistory h) where
  -- what happens before a part is in its clock
  pub before_has : (m u n v : ℕ) → HappensBefore h (part m u) (part n v) → m ≤ clock_of h n v u
  before_has m u n v before = omega (arith, order_known h sound before u, own_component h m u)

  pub told_is_race : (x y : Made) → IsTold h x y → IsRace h x y
  told_is_race x y told =
      let entry : IsEntry h y.time x.access.stores y.access.byte x.access.process x =
      (recent h y.time.event y.time.turn).found x.access.stores y.access.byte x.access.process x told.entry in
      record {
        first = entry.made;
        second = told.made;
        earlier = entry.earlier;
        others = told.others;
        byte = entry.byte;
        store = told.store;
        owner = entry.owner;
        unordered = λ before. absurd (omega (arith, told.unknown, before_has x.time.event x.access.process y.time.event y.access.process before));
      }

  -- nothing is made before the first event
  made_in_event : (x : Made) → IsMade h x → 0 < x.time.event
  made_in_event x made =
      elim (cases_lt 0 x.time.event) [
        | inl later ↦ later
        | inr start ↦
            let zeroth : x.time.event ≡ 0 = omega arith in
            let none : deed_at h (time 0 x.time.turn) ≡ Some (Accessed x.access) = subst (λ k. deed_at h (time k x.time.turn) ≡ Some (Accessed x.access)) zeroth made in
            absurd (cc none)
      ]

  module _ (x y : Made) (race : IsRace h x y) where
    abbrev entry : Bool → Option Made
    entry stores = entries_at h y.time.event y.time.turn stores y.access.byte x.access.process

    -- z is x, or made later than x
    abbrev IsNotBefore : Made → Type 0
    IsNotBefore z = (z ≡ x) ⊎ IsEarlier x.time z.time

    owner_from : (z : Made) → IsEarlier x.time z.time → KeepsOwner h y.access.byte z.time y.time
    owner_from z later r d after before is = race.owner r d (earlier_both x.time z.time r later after) before is

    -- what comes after x in its process isn't ordered before y either
    unordered_too : (z : Made) → z.access.process ≡ x.access.process → IsNotBefore z → HappensBefore h (part_of z) (part_of y) → ⊥
    unordered_too z process from before =
        elim from [
          | inl same ↦ race.unordered (subst (λ (w : Made). HappensBefore h (part_of w) (part_of y)) same before)
          | inr later ↦
              let own : HappensBefore h (part z.time.event x.access.process) (part_of y) = subst (λ u. HappensBefore h (part z.time.event u) (part_of y)) process before in
              elim (cases_lt x.time.event z.time.event) [
                | inl less ↦ race.unordered (chain (program less) own)
                | inr upto ↦
                    let events : z.time.event ≡ x.time.event = grind arith in
                    race.unordered (subst (λ k. HappensBefore h (part k x.access.process) (part_of y)) events own)
              ]
        ]

    told_too : (z : Made) → entry z.access.stores ≡ Some z → IsNotBefore z → (z.access.stores || y.access.stores) ≡ true → IsTold h z y
    told_too z held from store =
        let e : IsEntry h y.time z.access.stores y.access.byte x.access.process z =
        (recent h y.time.event y.time.turn).found z.access.stores y.access.byte x.access.process z held in
        let others : z.access.process ≢ y.access.process = λ same. race.others (sym e.process ∙ same) in
        record {
          made = race.second;
          entry = subst (λ u. entries_at h y.time.event y.time.turn z.access.stores y.access.byte u ≡ Some z) (sym e.process) held;
          others = others;
          store = store;
          unknown = elim (cases_lt (clock_of h y.time.event y.access.process z.access.process) z.time.event) [
            | inl less ↦ less
            | inr has ↦ absurd (unordered_too z e.process from
                (has_before h sound z.time.event z.access.process y.time.event y.access.process (made_in_event z e.made) others has))
          ];
        }

    -- no access of x's process to the byte, of this kind, is made after w and before y
    NoneLater : Bool → Made → Type 0
    NoneLater stores w = (z : Made) → IsMade h z → z.access.process ≡ x.access.process → z.access.byte ≡ y.access.byte → z.access.stores ≡ stores →
        IsEarlier z.time y.time → IsEarlier w.time z.time → ⊥

    -- an access that the byte's owner saw has an entry that isn't earlier
    entry_since : (stores : Bool) (z : Made) → IsMade h z → z.access.process ≡ x.access.process → z.access.byte ≡ y.access.byte → z.access.stores ≡ stores →
        IsEarlier z.time y.time → KeepsOwner h y.access.byte z.time y.time → (e : Made) × (entry stores ≡ Some e) × ((e ≡ z) ⊎ IsEarlier z.time e.time)
    entry_since stores z made process byte kind before owner =
        let old : (e : Made) × (entries_at h y.time.event y.time.turn z.access.stores z.access.byte z.access.process ≡ Some e) × ((e ≡ z) ⊎ IsEarlier z.time e.time) =
        (recent h y.time.event y.time.turn).has z made before (subst (λ b. KeepsOwner h b z.time y.time) (sym byte) owner) in
        (old.0, cc (old.1, process, byte, kind), old.2)

    since_later : (stores : Bool) (w z : Made) → IsMade h z → z.access.process ≡ x.access.process → z.access.byte ≡ y.access.byte → z.access.stores ≡ stores →
        IsEarlier z.time y.time → IsNotBefore w → IsEarlier w.time z.time → (e : Made) × (entry stores ≡ Some e) × ((e ≡ z) ⊎ IsEarlier z.time e.time)
    since_later stores w z made process byte kind before from later =
        let since : IsEarlier x.time z.time = elim from [
          | inl same ↦ subst (λ (v : Made). IsEarlier v.time z.time) same later
          | inr after ↦ earlier_both x.time w.time z.time after later
        ] in
        entry_since stores z made process byte kind before (owner_from z since)

    none_later : (stores : Bool) (w e : Made) → entry stores ≡ Some e → IsNotBefore w → (IsEarlier w.time e.time → ⊥) → NoneLater stores w
    unfolding NoneLater
    none_later stores w e held from last z made process byte kind before later =
        let found : (d : Made) × (entry stores ≡ Some d) × ((d ≡ z) ⊎ IsEarlier z.time d.time) = since_later stores w z made process byte kind before from later in
        let same : found.0 ≡ e = cc (held, found.1) in
        elim found.2 [
          | inl itself ↦ last (subst (λ (v : Made). IsEarlier w.time v.time) (sym itself ∙ same) later)
          | inr after ↦ last (subst (λ (v : Made). IsEarlier w.time v.time) same (earlier_both w.time z.time found.0.time later after))
        ]

    none_at_all : (stores : Bool) (w : Made) → entry stores ≡ None → IsNotBefore w → NoneLater stores w
    unfolding NoneLater
    none_at_all stores w none from z made process byte kind before later =
        let found : (d : Made) × (entry stores ≡ Some d) × ((d ≡ z) ⊎ IsEarlier z.time d.time) = since_later stores w z made process byte kind before from later in
        absurd (cc (none, found.1))

    abbrev LastIsTold : Type 0
    LastIsTold = (z : Made) × IsLastConflict h z y × (z.access.process ≡ x.access.process) × IsTold h z y

    last_is : (stores : Bool) (w : Made) → entry stores ≡ Some w → IsNotBefore w → (stores || y.access.stores) ≡ true →
        ((other : Bool) → (other || y.access.stores) ≡ true → NoneLater other w) → LastIsTold
    unfolding NoneLater
    last_is stores w held from store none =
        let e : IsEntry h y.time stores y.access.byte x.access.process w =
        (recent h y.time.event y.time.turn).found stores y.access.byte x.access.process w held in
        let conflict : (w.access.stores || y.access.stores) ≡ true = subst (λ s. (s || y.access.stores) ≡ true) (sym e.kind) store in
        let last : IsLastConflict h w y = record {
          made = e.made;
          earlier = e.earlier;
          byte = e.byte;
          store = conflict;
          last = λ z made process byte store before later. none z.access.stores store z made (process ∙ e.process) byte refl before later;
        } in
        (w, last, e.process, told_too w (subst (λ s. entry s ≡ Some w) (sym e.kind) held) from conflict)

    -- if y loads, only stores conflict
    last_store : (w : Made) → entry x.access.stores ≡ Some w → IsNotBefore w → y.access.stores ≡ false → LastIsTold
    last_store w held from loads = last_is x.access.stores w held from race.store (λ other store.
        let same : x.access.stores ≡ other = or_first x.access.stores y.access.stores race.store loads ∙ sym (or_first other y.access.stores store loads) in
        subst (λ s. NoneLater s w) same (none_later x.access.stores w w held from (earlier_self w.time)))

    -- if y stores, the later one of the last store and the last load
    of_both : (w : Made) → NoneLater x.access.stores w → NoneLater (not x.access.stores) w → (other : Bool) → NoneLater other w
    of_both w one two other = elim (two_kinds other x.access.stores) [
      | inl same ↦ subst (λ s. NoneLater s w) same one
      | inr same ↦ subst (λ s. NoneLater s w) same two
    ]

    last_of_both : (w : Made) → entry x.access.stores ≡ Some w → IsNotBefore w → y.access.stores ≡ true → (o : Option Made) → entry (not x.access.stores) ≡ o → LastIsTold
    last_of_both w held from stores None none = last_is x.access.stores w held from race.store (λ other store.
        of_both w (none_later x.access.stores w w held from (earlier_self w.time)) (none_at_all (not x.access.stores) w none from) other)
    last_of_both w held from stores (Some v) other =
        elim (one_is_earlier w.time v.time) [
          | inl later ↦
              let after : IsNotBefore v = inr (elim from [
                | inl same ↦ subst (λ (z : Made). IsEarlier z.time v.time) same later
                | inr after ↦ earlier_both x.time w.time v.time after later
              ]) in
              last_is (not x.access.stores) v other after (or_second (not x.access.stores) y.access.stores stores) (λ s store.
              of_both v (none_later x.access.stores v w held after (not_both w.time v.time later))
              (none_later (not x.access.stores) v v other after (earlier_self v.time)) s)
          | inr rest ↦
              let not_later : IsEarlier w.time v.time → ⊥ = λ later. elim rest [
                | inl same ↦ earlier_self v.time (subst (λ (t : Time). IsEarlier t v.time) same later)
                | inr earlier ↦ not_both w.time v.time later earlier
              ] in
              last_is x.access.stores w held from race.store (λ s store.
              of_both w (none_later x.access.stores w w held from (earlier_self w.time)) (none_later (not x.access.stores) w v other from not_later) s)
        ]

    pub last_told : LastIsTold
    last_told =
        let found : (e : Made) × (entry x.access.stores ≡ Some e) × ((e ≡ x) ⊎ IsEarlier x.time e.time) =
        entry_since x.access.stores x race.first refl race.byte refl race.earlier race.owner in
        by_kind found y.access.stores refl where
          by_kind : (e : Made) × (entry x.access.stores ≡ Some e) × ((e ≡ x) ⊎ IsEarlier x.time e.time) → (s : Bool) → y.access.stores ≡ s → LastIsTold
          by_kind found true stores = last_of_both found.0 found.1 found.2 stores (entry (not x.access.stores)) refl
          by_kind found false loads = last_store found.0 found.1 found.2 loads
