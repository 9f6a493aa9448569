-- Packets for the console, one after another.
use Rattle.std.proofs.Common.{◌≡◌, ◌∙◌, ◌++◌, ◌∷◌, ℕ, List, [], true, ◌==◌, length, take, drop, take-append-drop, refl, sym, ap, arith, subst, append-nil, append_assoc}
use Rattle.std.proofs.lemmas.List.Folds.{concat-append}
use Rattle.std.specs.List.{concat, flat_map}
use Rattle.gdb_command.specs.Console.{ShowsDigits, console_packet}

-- no packet
pub shows-none : (out : List ℕ) → ShowsDigits [] out out
shows-none out = record { parts = []; whole = refl; sends = sym (append-nil out) }

-- one packet more
flat-more : (f : List ℕ → List ℕ) (parts : List (List ℕ)) (part : List ℕ) → flat_map f (parts ++ part ∷ []) ≡ flat_map f parts ++ f part
flat-more f [] part = append-nil (f part)
flat-more f (p ∷ parts) part = ap (λ (l : List ℕ). f p ++ l) (flat-more f parts part) ∙ sym (append_assoc (f p) (flat_map f parts) (f part))

pub shows-more : (shown part before mid after : List ℕ) → ShowsDigits shown before mid → after ≡ mid ++ console_packet part
    → ShowsDigits (shown ++ part) before after
shows-more shown part before mid after shows more = record {
  parts = shows.parts ++ part ∷ [];
  whole =
      concat-append shows.parts (part ∷ [])
      ∙ ap (λ (l : List ℕ). concat shows.parts ++ l) (append-nil part)
      ∙ ap (λ (l : List ℕ). l ++ part) shows.whole;
  sends =
      more
      ∙ ap (λ (l : List ℕ). l ++ console_packet part) shows.sends
      ∙ append_assoc before (flat_map console_packet shows.parts) (console_packet part)
      ∙ ap (λ (l : List ℕ). before ++ l) (sym (flat-more console_packet shows.parts part));
}

-- Some of the digits are shown.
pub record ShowsSome (digits before after rest : List ℕ) : Type 0 where
  pub shown : List ℕ
  pub shows : ShowsDigits shown before after
  pub whole : digits ≡ shown ++ rest

-- none yet
pub some-none : (digits out : List ℕ) → ShowsSome digits out out digits
some-none digits out = record { shown = []; shows = shows-none out; whole = refl }

-- a part of the rest more
pub some-more : (digits before mid after rest part next : List ℕ) (n : ℕ) → ShowsSome digits before mid rest → part ≡ take n rest → next ≡ drop n rest
    → after ≡ mid ++ console_packet part → ShowsSome digits before after next
some-more digits before mid after rest part next n some front back more = record {
  shown = some.shown ++ part;
  shows = shows-more some.shown part before mid after some.shows more;
  whole =
      some.whole
      ∙ ap (λ (l : List ℕ). some.shown ++ l) (sym (take-append-drop n rest) ∙ ap (λ (l : List ℕ). l ++ drop n rest) (sym front))
      ∙ sym (append_assoc some.shown part (drop n rest))
      ∙ ap (λ (l : List ℕ). (some.shown ++ part) ++ l) (sym back);
}

-- all of them
pub some-all : (digits before after rest : List ℕ) → ShowsSome digits before after rest → true ≡ (length rest == 0) → ShowsDigits digits before after
some-all digits before after [] some empty =
    subst (λ (l : List ℕ). ShowsDigits l before after) (sym (some.whole ∙ append-nil some.shown)) some.shows
some-all digits before after (b ∷ rest) some empty = absurd (grind arith)
