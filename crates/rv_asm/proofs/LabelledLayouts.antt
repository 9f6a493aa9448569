-- Layouts with more labels.
use Rattle.std.proofs.Common.{◌≡◌, ℕ, Bool, true, false, ◌||◌, List, [], ◌∷◌, length, nat_lt, refl, sym, ap, ◌∙◌, arith}
use Rattle.std.specs.Prelude.{is_some}
use Rattle.std.proofs.lemmas.Bool.{lt-ltb}
use Rattle.asm_syntax.specs.Statements.{Line, with_label}
use Rattle.rv_asm.specs.Layouts.{Layout, labelled, labelled_all, after_labels}
use Rattle.rv_asm.specs.Faults.{is_double}

or_or : (a x y : Bool) → x ≡ true → (a || x) ≡ (a || true || y)
or_or true x y is = refl
or_or false x y is = is

-- the first label of several, and then the others
pub first_of_labels : (s : Layout) (name : List ℕ) (names : List (List ℕ))
    → after_labels (name ∷ names) s ≡ after_labels names (after_labels (name ∷ []) s)
first_of_labels s name names =
    ap
    (λ (b : Bool).
    let t : Layout = record {
      place = s.place;
      entry = s.entry;
      priority = s.priority;
      stack = s.stack;
      labels = labelled_all names s.at (labelled name s.at s.labels);
      begun = b;
      at = s.at;
    } in
    t)
    (or_or s.begun (nat_lt 0 (length (name ∷ names))) (nat_lt 0 (length names)) (lt-ltb 0 (length (name ∷ names)) (omega arith)))

-- One label of a line, and then what is left of the line.
pub labels_layout : (first rest next : Line) (s0 s t : Layout) (name : List ℕ) → rest ≡ with_label name next
    → t ≡ after_labels (name ∷ []) s → after_labels first.labels s0 ≡ after_labels rest.labels s
    → after_labels first.labels s0 ≡ after_labels next.labels t
labels_layout first rest next s0 s t name is then so_far =
    so_far ∙ ap (λ (l : Line). after_labels l.labels s) is ∙ first_of_labels s name next.labels ∙ ap (after_labels next.labels) (sym then)

pub labels_double : (rest next : Line) (s t : Layout) (name : List ℕ) (known : Bool) → rest ≡ with_label name next
    → t ≡ after_labels (name ∷ []) s → known ≡ is_some (s.labels name)
    → is_double rest.labels s.at s.labels ≡ (known || is_double next.labels t.at t.labels)
labels_double rest next s t name known is then found =
    ap (λ (l : Line). is_double l.labels s.at s.labels) is
    ∙ ap (λ (b : Bool). b || is_double next.labels s.at (labelled name s.at s.labels)) (sym found)
    ∙ ap (λ (u : Layout). known || is_double next.labels u.at u.labels) (sym then)

pub or_known : (b x y : Bool) → b ≡ true → (b || x) ≡ (b || y)
or_known true x y is = refl
or_known false x y is = cc

pub or_unknown : (b x : Bool) → b ≡ false → (b || x) ≡ x
or_unknown true x is = cc
or_unknown false x is = refl
