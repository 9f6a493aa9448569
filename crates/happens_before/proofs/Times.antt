-- The order in which deeds stand.
use Rattle.std.proofs.Common.{◌≡◌, ℕ, suc, ◌⊎◌, inl, inr, List, length, Some, refl, sym, ap, subst, ◌∙◌, arith}
use Rattle.std.specs.Prelude.{slice_get}
use Rattle.std.proofs.lemmas.Bool.{cases_lt}
use Rattle.std.proofs.lemmas.Option.{slice_get_within}
use Rattle.happens_before.specs.Histories.{Deed, Moment, moment_of}
use Rattle.happens_before.specs.Races.{IsEarlier, Time, deed_at, time}

pub same_time : (s t : Time) → s.event ≡ t.event → s.turn ≡ t.turn → s ≡ t
same_time s t events turns = ap (λ k. time k s.turn) events ∙ ap (λ k. time t.event k) turns

pub earlier_both : (r s t : Time) → IsEarlier r s → IsEarlier s t → IsEarlier r t
earlier_both r s t first second = grind arith

pub earlier_self : (t : Time) → IsEarlier t t → ⊥
earlier_self t h = grind arith

pub not_both : (s t : Time) → IsEarlier s t → IsEarlier t s → ⊥
not_both s t first second = earlier_self s (earlier_both s t s first second)

pub earlier_next : (n j : ℕ) → IsEarlier (time n j) (time n (suc j))
earlier_next n j = inr (refl, omega arith)

pub none_between : (n j : ℕ) (r : Time) → IsEarlier (time n j) r → IsEarlier r (time n (suc j)) → ⊥
none_between n j r after before = grind arith

pub before_next : (s : Time) (n j : ℕ) → IsEarlier s (time n (suc j)) → IsEarlier s (time n j) ⊎ (time n j ≡ s)
before_next s n j h =
    elim h [
      | inl less ↦ inl (inl less)
      | inr same ↦ elim (cases_lt s.turn j) [
        | inl less ↦ inl (inr (same.0, less))
        | inr last ↦ let turns : j ≡ s.turn = omega (arith, same.1) in inr (same_time (time n j) s (sym same.0) turns)
      ]
    ]

pub one_is_earlier : (s t : Time) → IsEarlier s t ⊎ ((s ≡ t) ⊎ IsEarlier t s)
one_is_earlier s t =
    elim (cases_lt s.event t.event) [
      | inl less ↦ inl (inl less)
      | inr from ↦ elim (cases_lt t.event s.event) [
        | inl more ↦ inr (inr (inl more))
        | inr upto ↦
            let events : s.event ≡ t.event = omega arith in
            elim (cases_lt s.turn t.turn) [
              | inl less ↦ inl (inr (events, less))
              | inr after ↦ elim (cases_lt t.turn s.turn) [
                | inl more ↦ inr (inr (inr (sym events, more)))
                | inr same ↦ let turns : s.turn ≡ t.turn = omega arith in inr (inl (same_time s t events turns))
              ]
            ]
      ]
    ]

pub earlier_event : (s : Time) (n j : ℕ) → IsEarlier s (time n j) → IsEarlier s (time (suc n) 0)
earlier_event s n j h = grind arith

pub before_event : (h : List Moment) (s : Time) (n : ℕ) (d : Deed) → deed_at h s ≡ Some d → IsEarlier s (time (suc n) 0) →
    IsEarlier s (time n (length (moment_of h n).deeds))
before_event h s n d is before =
    elim (cases_lt s.event n) [
      | inl less ↦ inl less
      | inr from ↦
          let same : s.event ≡ n = grind arith in
          let here : slice_get (moment_of h n).deeds s.turn ≡ Some d = subst (λ k. slice_get (moment_of h k).deeds s.turn ≡ Some d) same is in
          inr (same, slice_get_within (moment_of h n).deeds s.turn d here)
    ]
