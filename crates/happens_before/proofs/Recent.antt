-- The entries are the last accesses.
use Rattle.std.proofs.Common.{◌≡◌, ℕ, zero, suc, ◌==◌, ◌&&◌, Bool, true, false, if◌then◌else◌, ◌⊎◌, inl, inr, List, length, Option, Some, None, refl, sym, ap, subst, ◌∙◌, arith}
use Rattle.std.proofs.lemmas.Bool.{and_parts, eq-eqb, eqb-true, false≢true}
use Rattle.happens_before.specs.Histories.{Access, Deed, Accessed, Given, Moment, moment_of}
use Rattle.happens_before.specs.Races.{IsEarlier, IsMade, KeepsOwner, Made, Time, deed_at, gives, time}
use Rattle.happens_before.specs.Told.{Entries, entered, entries_after, entries_at, entries_in, is_kind, is_of, no_entries}
use Rattle.happens_before.proofs.Times.{before_event, before_next, earlier_both, earlier_event, earlier_next, none_between}

-- whose entry an access is
kind_self : (s : Bool) → is_kind s s ≡ true
kind_self true = refl
kind_self false = refl

kind_is : (s t : Bool) → is_kind s t ≡ true → t ≡ s
kind_is true t is = is
kind_is false true is = absurd (false≢true is)
kind_is false false is = refl

of_self : (a : Access) → is_of a.stores a.byte a.process a ≡ true
of_self a = rw (kind_self a.stores, eq-eqb a.byte a.byte refl, eq-eqb a.process a.process refl)

of_is : (stores : Bool) (b u : ℕ) (a : Access) → is_of stores b u a ≡ true → (a.stores ≡ stores) × (a.byte ≡ b) × (a.process ≡ u)
of_is stores b u a is =
    let kind : (is_kind stores a.stores ≡ true) × (((a.byte == b) && (a.process == u)) ≡ true) = and_parts _ _ is in
    let rest : ((a.byte == b) ≡ true) × ((a.process == u) ≡ true) = and_parts _ _ kind.1 in
    (kind_is stores a.stores kind.0, eqb-true a.byte b rest.0, eqb-true a.process u rest.1)

same_made : (x y : Made) → x.time ≡ y.time → x.access ≡ y.access → x ≡ y
same_made x y times accesses =
    ap (λ (t : Time). ◌≔◌ t x.access) times ∙ ap (λ (a : Access). ◌≔◌ y.time a) accesses where
      ◌≔◌ : Time → Access → Made
      ◌≔◌ t a = record { time = t; access = a }

module _ (h : List Moment) where
  -- x is of this kind, of byte b, by process u; it is made before t, and the byte keeps its owner up to then.
  pub record IsEntry (t : Time) (stores : Bool) (b u : ℕ) (x : Made) : Type 0 where
    pub made : IsMade h x
    pub kind : x.access.stores ≡ stores
    pub byte : x.access.byte ≡ b
    pub process : x.access.process ≡ u
    pub earlier : IsEarlier x.time t
    pub owner : KeepsOwner h b x.time t

  -- Each entry is such an access, and such an access has an entry that isn't earlier.
  pub record IsRecent (t : Time) (last : Entries) : Type 0 where
    pub found : (stores : Bool) (b u : ℕ) (x : Made) → last stores b u ≡ Some x → IsEntry t stores b u x
    pub has : (x : Made) → IsMade h x → IsEarlier x.time t → KeepsOwner h x.access.byte x.time t →
        (y : Made) × (last x.access.stores x.access.byte x.access.process ≡ Some y) × ((y ≡ x) ⊎ IsEarlier x.time y.time)

  -- a byte's owner, one deed further
  owner_more : (b : ℕ) (s : Time) (n j : ℕ) → KeepsOwner h b s (time n j) → ((d : Deed) → deed_at h (time n j) ≡ Some d → gives b d ≡ false) →
      KeepsOwner h b s (time n (suc j))
  owner_more b s n j keeps here r d after before is =
      elim (before_next r n j before) [
        | inl less ↦ keeps r d after less is
        | inr same ↦ here d (subst (λ (q : Time). deed_at h q ≡ Some d) (sym same) is)
      ]

  owner_less : (b : ℕ) (s : Time) (n j : ℕ) → KeepsOwner h b s (time n (suc j)) → KeepsOwner h b s (time n j)
  owner_less b s n j keeps r d after before is = keeps r d after (earlier_both r (time n j) (time n (suc j)) before (earlier_next n j)) is

  entry_more : (n j : ℕ) (stores : Bool) (b u : ℕ) (x : Made) → IsEntry (time n j) stores b u x →
      ((d : Deed) → deed_at h (time n j) ≡ Some d → gives b d ≡ false) → IsEntry (time n (suc j)) stores b u x
  entry_more n j stores b u x e here = record {
    made = e.made;
    kind = e.kind;
    byte = e.byte;
    process = e.process;
    earlier = earlier_both x.time (time n j) (time n (suc j)) e.earlier (earlier_next n j);
    owner = owner_more b x.time n j e.owner here;
  }

  module _ (n j : ℕ) (last : Entries) (recent : IsRecent (time n j) last) where
    after_none : deed_at h (time n j) ≡ None → IsRecent (time n (suc j)) (entered (time n j) None last)
    after_none none =
        let keeps : (b : ℕ) (d : Deed) → deed_at h (time n j) ≡ Some d → gives b d ≡ false = λ b d is. absurd (cc (none, is)) in
        record {
          found = λ stores b u x is. entry_more n j stores b u x (recent.found stores b u x is) (keeps b);
          has = λ x made before owner. elim (before_next x.time n j before) [
            | inl less ↦ recent.has x made less (owner_less x.access.byte x.time n j owner)
            | inr same ↦
                let here : deed_at h (time n j) ≡ Some (Accessed x.access) = subst (λ (q : Time). deed_at h q ≡ Some (Accessed x.access)) (sym same) made in
                absurd (cc (none, here))
          ];
        }

    after_access : (a : Access) → deed_at h (time n j) ≡ Some (Accessed a) → IsRecent (time n (suc j)) (entered (time n j) (Some (Accessed a)) last)
    after_access a is =
        record {
          found = λ stores b u x held. found stores b u x (is_of stores b u a) refl held;
          has = λ x made before owner. elim (before_next x.time n j before) [
            | inl less ↦ newer x less (is_of x.access.stores x.access.byte x.access.process a) refl (recent.has x made less (owner_less x.access.byte x.time n j owner))
            | inr same ↦
                let here : deed_at h (time n j) ≡ Some (Accessed x.access) = subst (λ (q : Time). deed_at h q ≡ Some (Accessed x.access)) (sym same) made in
                let access : a ≡ x.access = cc (is, here) in
                let whole : now ≡ x = same_made now x same access in
                subst (λ (z : Made). Newest z) whole (now, rw (of_self a) refl, inl refl)
          ];
        } where
          now : Made
          now = record { time = time n j; access = a }

          Newest : Made → Type 0
          Newest x = (y : Made) × (entered (time n j) (Some (Accessed a)) last x.access.stores x.access.byte x.access.process ≡ Some y) × ((y ≡ x) ⊎ IsEarlier x.time y.time)

          found : (stores : Bool) (b u : ℕ) (x : Made) (r : Bool) → is_of stores b u a ≡ r → (if r then Some now else last stores b u) ≡ Some x →
              IsEntry (time n (suc j)) stores b u x
          found stores b u x true of held =
              let whole : now ≡ x = cc held in
              let parts : (a.stores ≡ stores) × (a.byte ≡ b) × (a.process ≡ u) = of_is stores b u a of in
              let entry : IsEntry (time n (suc j)) stores b u now = record {
                made = is;
                kind = parts.0;
                byte = parts.1;
                process = parts.2;
                earlier = earlier_next n j;
                owner = λ r d after before held. absurd (none_between n j r after before);
              } in
              subst (λ (z : Made). IsEntry (time n (suc j)) stores b u z) whole entry
          found stores b u x false not_of held = entry_more n j stores b u x (recent.found stores b u x held)
              (λ d here. let same : d ≡ Accessed a = cc (is, here) in subst (λ (e : Deed). gives b e ≡ false) (sym same) refl)

          newer : (x : Made) → IsEarlier x.time (time n j) → (r : Bool) → is_of x.access.stores x.access.byte x.access.process a ≡ r →
              (y : Made) × (last x.access.stores x.access.byte x.access.process ≡ Some y) × ((y ≡ x) ⊎ IsEarlier x.time y.time) → Newest x
          newer x less true of old = (now, rw of refl, inr less)
          newer x less false not_of old = (old.0, rw not_of old.1, old.2)

    after_given : (first count : ℕ) → deed_at h (time n j) ≡ Some (Given first count) →
        IsRecent (time n (suc j)) (entered (time n j) (Some (Given first count)) last)
    after_given first count is =
        record {
          found = λ stores b u x held. found stores b u x (gives b (Given first count)) refl held;
          has = λ x made before owner. elim (before_next x.time n j before) [
            | inl less ↦
                let kept : gives x.access.byte (Given first count) ≡ false = owner (time n j) (Given first count) less (earlier_next n j) is in
                let old : (y : Made) × (last x.access.stores x.access.byte x.access.process ≡ Some y) × ((y ≡ x) ⊎ IsEarlier x.time y.time) =
                recent.has x made less (owner_less x.access.byte x.time n j owner) in
                (old.0, rw kept old.1, old.2)
            | inr same ↦
                let here : deed_at h (time n j) ≡ Some (Accessed x.access) = subst (λ (q : Time). deed_at h q ≡ Some (Accessed x.access)) (sym same) made in
                absurd (cc (is, here))
          ];
        } where
          found : (stores : Bool) (b u : ℕ) (x : Made) (r : Bool) → gives b (Given first count) ≡ r → (if r then None else last stores b u) ≡ Some x →
              IsEntry (time n (suc j)) stores b u x
          found stores b u x true gave held = absurd (cc held)
          found stores b u x false kept held = entry_more n j stores b u x (recent.found stores b u x held)
              (λ d here. let same : d ≡ Given first count = cc (is, here) in subst (λ (e : Deed). gives b e ≡ false) (sym same) kept)

    after_deed : (o : Option Deed) → deed_at h (time n j) ≡ o → IsRecent (time n (suc j)) (entered (time n j) o last)
    after_deed None is = after_none is
    after_deed (Some (Accessed a)) is = after_access a is
    after_deed (Some (Given first count)) is = after_given first count is

  recent_in : (n : ℕ) (last : Entries) → IsRecent (time n zero) last → (j : ℕ) → IsRecent (time n j) (entries_in (moment_of h n).deeds n last j)
  unfolding entries_in
  recent_in n last recent zero = recent
  recent_in n last recent (suc j) = after_deed n j (entries_in (moment_of h n).deeds n last j) (recent_in n last recent j) (deed_at h (time n j)) refl

  recent_next : (n : ℕ) (last : Entries) → IsRecent (time n (length (moment_of h n).deeds)) last → IsRecent (time (suc n) zero) last
  recent_next n last recent = record {
    found = λ stores b u x held.
        let e : IsEntry (time n (length (moment_of h n).deeds)) stores b u x = recent.found stores b u x held in
        record {
          made = e.made;
          kind = e.kind;
          byte = e.byte;
          process = e.process;
          earlier = earlier_event x.time n _ e.earlier;
          owner = λ r d after before is. e.owner r d after (before_event h r n d is before) is;
        };
    has = λ x made before owner. recent.has x made (before_event h x.time n (Accessed x.access) made before)
        (λ r d after before is. owner r d after (earlier_event r n _ before) is);
  }

  recent_first : (t : Time) → (t.event ≡ 0) ⊎ ((t.event ≡ 1) × (t.turn ≡ 0)) → IsRecent t no_entries
  recent_first t early = record {
    found = λ stores b u x held. absurd (cc held);
    has = λ x made before owner.
        let start : x.time.event ≡ 0 = grind arith in
        let none : deed_at h (time 0 x.time.turn) ≡ Some (Accessed x.access) = subst (λ k. deed_at h (time k x.time.turn) ≡ Some (Accessed x.access)) start made in
        absurd (cc none);
  }

  recent_after : (n : ℕ) → IsRecent (time (suc n) zero) (entries_after h n)
  unfolding entries_after
  recent_after zero = recent_first (time 1 0) (inr (refl, refl))
  recent_after (suc n) = recent_next (suc n) _ (recent_in (suc n) (entries_after h n) (recent_after n) (length (moment_of h (suc n)).deeds))

  pub recent : (n j : ℕ) → IsRecent (time n j) (entries_at h n j)
  unfolding entries_at
  recent zero j = recent_first (time zero j) (inl refl)
  recent (suc n) j = recent_in (suc n) (entries_after h n) (recent_after n) j
