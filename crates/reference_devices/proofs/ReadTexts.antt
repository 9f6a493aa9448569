-- A text is read byte by byte: what was read, and the text of what is left.
use Rattle.std.proofs.Common.{◌≡◌, ℕ, zero, suc, ◌==◌, false, List, [], ◌∷◌, ◌++◌, Option, Some, None, refl, sym, ap, append_assoc}
use Rattle.std.specs.Prelude.{option_map}
use Rattle.xinu_model.specs.Devices.Texts.{text_in}

-- a text after these bytes
abbrev pub after_bytes : List ℕ → Option (List ℕ) → Option (List ℕ)
after_bytes read o = option_map (λ text. read ++ text) o

-- the text of a byte that isn't zero and of what follows
more_read : (read : List ℕ) (b : ℕ) (o : Option (List ℕ)) → after_bytes read (option_map (λ text. b ∷ text) o) ≡ after_bytes (read ++ b ∷ []) o
more_read read b None = refl
more_read read b (Some text) = ap Some (sym (append_assoc read (b ∷ []) text))

pub text_more : (read : List ℕ) (b : ℕ) (rest : List ℕ) → (b == 0) ≡ false → after_bytes read (text_in (b ∷ rest)) ≡ after_bytes (read ++ b ∷ []) (text_in rest)
text_more read zero rest h = absurd (cc)
text_more read (suc b) rest h = more_read read (suc b) (text_in rest)
