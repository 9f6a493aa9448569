-- Texts, and the files from one on.
use Rattle.std.proofs.Common.{◌≡◌, ◌∙◌, ℕ, Bool, true, false, List, [], refl, sym, ap}
use Rattle.std.specs.Prelude.{if◌then◌else◌}
use Rattle.std.specs.Str.{IsUtf8, is_utf8}
use Rattle.std.proofs.lemmas.Str.{IsUtf8-from_is_utf8, is_utf8-from_IsUtf8}
use Rattle.told_places.specs.Places.{shown}

-- bytes that are a text
pub shown_text : (text bytes : List ℕ) → text ≡ bytes → IsUtf8 bytes → text ≡ shown bytes
unfolding shown
shown_text text bytes same is = same ∙ sym (ap (λ (b : Bool). if b then bytes else []) (is_utf8-from_IsUtf8 bytes is))

no_text : (b : Bool) (bytes : List ℕ) → (b ≡ true → ⊥) → [] ≡ (if b then bytes else [])
no_text true bytes h = absurd (h refl)
no_text false bytes h = refl

-- bytes that are none
pub shown_none : (bytes : List ℕ) → (IsUtf8 bytes → ⊥) → [] ≡ shown bytes
unfolding shown
shown_none bytes h = no_text (is_utf8 bytes) bytes (λ e. h (IsUtf8-from_is_utf8 bytes e))
