-- The moments of preemptions, one by one.
use Rattle.std.proofs.Common.{◌≡◌, ◌∙◌, ℕ, ◌+◌, ◌*◌, ◌<◌, ◌≤◌, List, ◌++◌, codes, length, get_or, drop, sym, ap, append_assoc}
use Rattle.std.specs.List.{flat_map}
use Rattle.std.specs.Fmt.{decimal}
use Rattle.std.proofs.lemmas.List.{append-nil, at_drop_all, drop_more}
use Rattle.preemptions.proofs.MomentLaws.{moments-cons, moments-nil}
use Rattle.preemptions.specs.Moments.{events_before, moments_from}
use Rattle.races_command.specs.Shown.{place_text}
use Rattle.xinu_base.specs.declared.events.Event.{Event}

-- the text of the moments of these preemptions, if so many come before them
abbrev text_of : ℕ → List ℕ → List Event → List ℕ
text_of earlier places base = flat_map place_text (moments_from earlier places base)

text_at : (places : List ℕ) (base : List Event) (i d : ℕ) → i < length places
    → text_of i (drop i places) base ≡ place_text (events_before (get_or places i d) base + 2 * i) ++ text_of (i + 1) (drop (i + 1) places) base
text_at places base i d inside =
    ap (λ (ps : List ℕ). text_of i ps base) (drop_more places i d inside)
    ∙ ap (flat_map place_text) (moments-cons i (get_or places i d) (drop (i + 1) places) base)

-- one more moment is printed
pub moments_step : (t0 t1 t2 all places : List ℕ) (base : List Event) (i d n : ℕ) → t0 ++ text_of i (drop i places) base ≡ all → i < length places
    → t1 ≡ t0 ++ codes " " → t2 ≡ t1 ++ decimal n → n ≡ events_before (get_or places i d) base + 2 * i
    → t2 ++ text_of (i + 1) (drop (i + 1) places) base ≡ all
moments_step t0 t1 t2 all places base i d n is inside one two moment =
    let more = text_of (i + 1) (drop (i + 1) places) base in
    let whole : t2 ≡ t0 ++ place_text n = two ∙ ap (λ (t : List ℕ). t ++ decimal n) one ∙ append_assoc t0 (codes " ") (decimal n) in
    ap (λ (t : List ℕ). t ++ more) (whole ∙ ap (λ (k : ℕ). t0 ++ place_text k) moment)
    ∙ append_assoc t0 (place_text (events_before (get_or places i d) base + 2 * i)) more
    ∙ ap (λ (t : List ℕ). t0 ++ t) (sym (text_at places base i d inside))
    ∙ is

pub moments_end : (t all places : List ℕ) (base : List Event) (i : ℕ) → t ++ text_of i (drop i places) base ≡ all → length places ≤ i → t ≡ all
moments_end t all places base i is past =
    sym
    (ap (λ (s : List ℕ). t ++ s) (at_drop_all (λ (ps : List ℕ). text_of i ps base) places i past ∙ ap (flat_map place_text) (moments-nil i base))
    ∙ append-nil t)
    ∙ is
