-- What is told as deeds are done and moments come.
use Rattle.std.proofs.Common.{◌≡◌, ◌∙◌, ◌++◌, ◌<◌, ◌≤◌, ℕ, zero, suc, true, List, [], ◌∷◌, length, slice_get, Some, inl, inr, ap, arith, refl, subst, sym}
use Rattle.std.specs.List.{Contains}
use Rattle.std.proofs.lemmas.List.Elements.{Contains-append_cases, Contains-append_left, Contains-append_right}
use Rattle.std.proofs.lemmas.Bool.{cases_lt}
use Rattle.std.proofs.lemmas.List.{get_or_append_left, get_or_past}
use Rattle.std.proofs.lemmas.Option.{slice_get-get_or}
use Rattle.happens_before.specs.Clocks.{Clock}
use Rattle.happens_before.specs.Histories.{Access, Accessed, Moment, moment_of, nothing_happens}
use Rattle.happens_before.specs.Races.{IsEarlier, IsMade, Made, Time, deed_at, time}
use Rattle.happens_before.specs.Told.{IsTold, entries_at}
use Rattle.happens_before.proofs.Prefixes.{told_stays}
use Rattle.happens_before.proofs.Times.{before_event, before_next, earlier_both, earlier_event, earlier_next}
use Rattle.race_entries.specs.Entries.{Holds, entries_of, entry_of, last, made_entry}
use Rattle.race_entries.specs.declared.entry.Entry.{Entry}
use Rattle.race_entries.proofs.Listing.{found_listed}
use Rattle.race_detector.specs.declared.pair.Pair.{Pair}
use Rattle.race_detector.specs.Finds.{Finds, FindsAll, pair_of}
use Rattle.race_detector.specs.Told.{Knows, is_told, pair_with, pairs_of, told_of}
use Rattle.race_detector.proofs.Alike.{tells_alike}
use Rattle.race_detector.proofs.Elements.{kept_from, kept_has, map_from, map_has}

-- the access that is made at a time
abbrev pub now_made : ℕ → ℕ → Access → Made
now_made n j a = record { time = time n j; access = a }

-- no access is made after the last event
within : (h : List Moment) (n j : ℕ) (a : Access) → slice_get (moment_of h n).deeds j ≡ Some (Accessed a) → n ≤ length h
within h zero j a made = omega arith
within h (suc n) j a made = elim (cases_lt n (length h)) [
  | inl less ↦ omega arith
  | inr past ↦
      let nothing : slice_get nothing_happens.deeds j ≡ Some (Accessed a) =
      subst (λ (m : Moment). slice_get m.deeds j ≡ Some (Accessed a)) (get_or_past h n nothing_happens past) made in
      absurd (cc nothing)
]

made_within : (h : List Moment) (y : Made) → IsMade h y → y.time.event ≤ length h
made_within h y made = within h y.time.event y.time.turn y.access made

module _ (h : List Moment) where
  -- no access is made
  pub none_found : (n j : ℕ) (told : List Pair) → ((a : Access) → deed_at h (time n j) ≡ Some (Accessed a) → ⊥) → Finds h (time n j) told
      → Finds h (time n (suc j)) told
  none_found n j told nothing finds = record {
    sound = λ p held.
        let (x, y, (is, (before, pair))) = finds.sound p held in
        (x, y, (is, (earlier_both y.time (time n j) (time n (suc j)) before (earlier_next n j), pair)));
    complete = λ x y is before. elim (before_next y.time n j before) [
      | inl less ↦ finds.complete x y is less
      | inr same ↦ absurd (nothing y.access (subst (λ (t : Time). deed_at h t ≡ Some (Accessed y.access)) (sym same) is.made))
    ];
  }

  -- an access is made
  module _ (n j : ℕ) (a : Access) (clock : Clock) (bytes : List (List Entry)) (made : deed_at h (time n j) ≡ Some (Accessed a))
      (knows : Knows h (now_made n j a) clock) (held : Holds bytes (entries_at h n j))
      (only : (k : ℕ) (e : Entry) → slice_get (entries_of bytes a.byte) k ≡ Some e → last bytes e.stores a.byte e.process ≡ Some e) where
    abbrev y : Made
    y = now_made n j a

    abbrev news : List Pair
    news = pairs_of clock a.byte (made_entry y) (entries_of bytes a.byte)

    is_last : (e : Entry) → Contains (entries_of bytes a.byte) e → last bytes e.stores a.byte e.process ≡ Some e
    is_last e at = only at.0 e (slice_get-get_or (entries_of bytes a.byte) at.0 e at.1 ∙ ap Some at.2)

    -- each pair is told
    news_sound : (p : Pair) → Contains news p → (x : Made) × (IsTold h x y × (pair_of x y ≡ p))
    news_sound p has =
        let (e, (kept, pair)) = map_from (pair_with a.byte (made_entry y)) (told_of clock (made_entry y) (entries_of bytes a.byte)) p has in
        let (listed, test) = kept_from (is_told clock (made_entry y)) (entries_of bytes a.byte) e kept in
        let (x, same, is) = (tells_alike h y clock bytes e made knows held (is_last e listed)).0 test in
        (x, (is, ap (pair_with a.byte (made_entry y)) same ∙ pair))

    -- each told access is in a pair
    news_complete : (x : Made) → IsTold h x y → Contains news (pair_of x y)
    news_complete x is =
        let e : Entry = made_entry x in
        let entry : last bytes e.stores a.byte e.process ≡ Some e = held.same x.access.stores a.byte x.access.process ∙ ap entry_of is.entry in
        let test : is_told clock (made_entry y) e ≡ true = (tells_alike h y clock bytes e made knows held entry).1 (x, refl, is) in
        let listed = found_listed e.stores e.process (entries_of bytes a.byte) e entry in
        map_has (pair_with a.byte (made_entry y)) (told_of clock (made_entry y) (entries_of bytes a.byte)) e
        (kept_has (is_told clock (made_entry y)) (entries_of bytes a.byte) e listed.0 test)

    -- what is made now is y
    made_now : (z : Made) → IsMade h z → time n j ≡ z.time → z ≡ y
    made_now z is same =
        let here : deed_at h (time n j) ≡ Some (Accessed z.access) = subst (λ (t : Time). deed_at h t ≡ Some (Accessed z.access)) (sym same) is in
        let access : z.access ≡ a = cc (here, made) in
        ap (λ (t : Time). at t z.access) (sym same) ∙ ap (λ (b : Access). at (time n j) b) access where
          at : Time → Access → Made
          at t b = record { time = t; access = b }

    pub access_found : (old new : List Pair) → new ≡ old ++ pairs_of clock a.byte (made_entry (now_made n j a)) (entries_of bytes a.byte)
        → Finds h (time n j) old → Finds h (time n (suc j)) new
    access_found old new is finds = record {
      sound = λ p has. elim (Contains-append_cases old news p (subst (λ l. Contains l p) is has)) [
        | inl before ↦
            let (x, z, (told, (earlier, pair))) = finds.sound p before in
            (x, z, (told, (earlier_both z.time (time n j) (time n (suc j)) earlier (earlier_next n j), pair)))
        | inr here ↦ let (x, (told, pair)) = news_sound p here in (x, y, (told, (earlier_next n j, pair)))
      ];
      complete = λ x z told before. elim (before_next z.time n j before) [
        | inl less ↦ subst (λ l. Contains l (pair_of x z)) (sym is) (Contains-append_left old news (pair_of x z) (finds.complete x z told less))
        | inr same ↦
            let now : z ≡ y = made_now z told.made same in
            let here : Contains news (pair_of x z) =
            subst (λ (w : Made). Contains news (pair_of x w)) (sym now) (news_complete x (subst (λ (w : Made). IsTold h x w) now told)) in
            subst (λ l. Contains l (pair_of x z)) (sym is) (Contains-append_right old news (pair_of x z) here)
      ];
    }

  -- the deeds of an event are done
  pub event_found : (n : ℕ) (told : List Pair) → Finds h (time n (length (moment_of h n).deeds)) told → Finds h (time (suc n) 0) told
  event_found n told finds = record {
    sound = λ p held.
        let (x, y, (is, (before, pair))) = finds.sound p held in
        (x, y, (is, (earlier_event y.time n (length (moment_of h n).deeds) before, pair)));
    complete = λ x y is before. finds.complete x y is (before_event h y.time n (Accessed y.access) is.made before);
  }

-- the moments so far are those of before
moment_stays : (h : List Moment) (m : Moment) (k : ℕ) → k ≤ length h → moment_of (h ++ m ∷ []) k ≡ moment_of h k
moment_stays h m zero within = refl
moment_stays h m (suc k) within = get_or_append_left h (m ∷ []) nothing_happens k (omega arith)

made_before : (h : List Moment) (m : Moment) (y : Made) → IsEarlier y.time (time (suc (length h)) 0) → IsMade (h ++ m ∷ []) y → IsMade h y
made_before h m y before made =
    let upto : y.time.event ≤ length h = grind arith in
    ap (λ (n : Moment). slice_get n.deeds y.time.turn) (sym (moment_stays h m y.time.event upto)) ∙ made

-- a moment comes, and nothing of it is done
pub moment_found : (h : List Moment) (m : Moment) (told : List Pair) → Finds h (time (suc (length h)) 0) told
    → Finds (h ++ m ∷ []) (time (suc (length h)) 0) told
moment_found h m told finds = record {
  sound = λ p held.
      let (x, y, (is, (before, pair))) = finds.sound p held in
      (x, y, ((told_stays h m x y is.made).1 is, (before, pair)));
  complete = λ x y is before.
      finds.complete x y ((told_stays h m x y (made_before h m y before is.made)).0 is) before;
}

-- all moments are done
pub all_found : (h : List Moment) (told : List Pair) → Finds h (time (suc (length h)) 0) told → FindsAll h told
all_found h told finds = record {
  sound = λ p held. let (x, y, (is, (before, pair))) = finds.sound p held in (x, y, (is, pair));
  complete = λ x y is.
      let upto : y.time.event ≤ length h = made_within h y is.made in
      let before : y.time.event < suc (length h) = omega arith in
      finds.complete x y is (inl before);
}

-- at the start nothing is told
pub nothing_found : (told : List Pair) → told ≡ [] → Finds [] (time 1 0) told
nothing_found told is = record {
  sound = λ p held. let none : Contains [] p = subst (λ l. Contains l p) is held in absurd (omega (arith, none.1));
  complete = λ x y told_is before.
      let upto : y.time.event ≤ 0 = made_within [] y told_is.made in
      let start : y.time.event ≡ 0 = omega arith in
      let none : slice_get (moment_of [] 0).deeds y.time.turn ≡ Some (Accessed y.access) =
      subst (λ k. slice_get (moment_of [] k).deeds y.time.turn ≡ Some (Accessed y.access)) start told_is.made in
      absurd (cc none);
}
