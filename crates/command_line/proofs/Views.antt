-- An argument as the definition and as the parser see it.
use Rattle.std.proofs.Common.{◌≡◌, ℕ, ◌==◌, Bool, true, false, List, [], ◌∷◌, Option, Some, None, refl, subst, eqb-true, arith, slice_get, chars, bytes_eq, IsUtf8, encode_utf8_all}
use Rattle.std.proofs.lemmas.Str.{IsCharBoundary-after_ascii, IsUtf8-drop, encodes-chars}
use Rattle.clap.specs.Lexer.{long_of, short_of, name_and_value as named_text}
use Rattle.command_line.specs.Reading.{Text, bare, dashed, end_mark, naming, arg_of}

abbrev pub two_hyphens : Text
two_hyphens = 45 ∷ 45 ∷ []

-- the four kinds of argument, each with what the parser makes of it
pub data View (arg : Text) : Type 0 where
  sees_end : arg_of arg ≡ end_mark → bytes_eq arg two_hyphens ≡ true → View arg
  sees_name : (name : Text) (value : Option Text) → arg_of arg ≡ naming name value → long_of arg ≡ Some (name, value) → bytes_eq arg two_hyphens ≡ false → View arg
  sees_dashed : (x : ℕ) (xs : Text) (c : ℕ) → arg_of arg ≡ dashed → long_of arg ≡ None → short_of arg ≡ Some (x ∷ xs) → slice_get (chars (x ∷ xs)) 0 ≡ Some c
      → bytes_eq arg two_hyphens ≡ false → View arg
  sees_bare : arg_of arg ≡ bare → long_of arg ≡ None → short_of arg ≡ None → bytes_eq arg two_hyphens ≡ false → View arg

-- a text that isn't empty has a first character
pub first_char : (x : ℕ) (xs : Text) → IsUtf8 (x ∷ xs) → (c : ℕ) × (slice_get (chars (x ∷ xs)) 0 ≡ Some c)
first_char x xs u = go (chars (x ∷ xs)) (encodes-chars (x ∷ xs) u)
  where
    go : (cs : List ℕ) → encode_utf8_all cs ≡ x ∷ xs → (c : ℕ) × (slice_get cs 0 ≡ Some c)
    go [] e = absurd (cc)
    go (c ∷ cs) e = (c, refl)

-- what follows a leading hyphen is text too
pub behind_hyphen : (rest : Text) → IsUtf8 (45 ∷ rest) → IsUtf8 rest
behind_hyphen rest u = IsUtf8-drop (45 ∷ rest) 1 u (IsCharBoundary-after_ascii (45 ∷ rest) 0 u (omega arith) (omega arith))

one_byte : (x : ℕ) (b : Bool) → (x == 45) ≡ b → View (x ∷ [])
one_byte x true e = sees_bare refl (rw e refl) (rw e refl) (rw e refl)
one_byte x false e = sees_bare refl (rw e refl) (rw e refl) (rw e refl)

two_bytes : (x y : ℕ) (rest : Text) (b d : Bool) → (x == 45) ≡ b → (y == 45) ≡ d → (b ≡ true → (c : ℕ) × (slice_get (chars (y ∷ rest)) 0 ≡ Some c)) → View (x ∷ y ∷ rest)
two_bytes x y rest false d e f first = sees_bare (rw e refl) (rw e refl) (rw e refl) (rw e refl)
two_bytes x y rest true false e f first = sees_dashed y rest (first refl).0 (rw (e, f) refl) (rw (e, f) refl) (rw (e, f) refl) (first refl).1 (rw (e, f) refl)
two_bytes x y [] true true e f first = sees_end (rw (e, f) refl) (rw (e, f) refl)
two_bytes x y (z ∷ zs) true true e f first = sees_name (named_text (z ∷ zs)).0 (named_text (z ∷ zs)).1 (rw (e, f) refl) (rw (e, f) refl) (rw (e, f) refl)

pub view : (arg : Text) → IsUtf8 arg → View arg
view [] u = sees_bare refl refl refl refl
view (x ∷ []) u = one_byte x (x == 45) refl
view (x ∷ y ∷ rest) u = two_bytes x y rest (x == 45) (y == 45) refl refl (λ e. first_char y rest (behind_hyphen (y ∷ rest) (subst (λ h. IsUtf8 (h ∷ y ∷ rest)) (eqb-true x 45 e) u)))
