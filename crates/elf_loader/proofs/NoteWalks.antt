-- A walk over notes: how far it is allowed to go makes no difference.
use Rattle.std.proofs.Common.{◌≡◌, ◌≤◌, ◌∙◌, ℕ, zero, suc, Bool, true, false, List, [], ◌∷◌, length, drop, Some, None, refl, sym, arith}
use Rattle.std.proofs.Common.{length-drop, rules}
use Rattle.elf_loader.specs.Notes.{has_note, is_xinu_note, note_length, settings_at, settings_within, settings_of}

-- no bytes begin with no note
no_note : (bytes : List ℕ) → length bytes ≤ 0 → has_note bytes ≡ false
no_note [] none = refl
no_note (x ∷ xs) none = absurd (omega arith)

-- a whole note isn't longer than the bytes
note_inside : (bytes : List ℕ) → has_note bytes ≡ true → note_length bytes ≤ length bytes
note_inside bytes whole = search rules

enough_by : (whole named : Bool) (n m : ℕ) (bytes : List ℕ) → has_note bytes ≡ whole → is_xinu_note bytes ≡ named
    → (has_note bytes ≡ true → settings_within n (drop (note_length bytes) bytes) ≡ settings_within m (drop (note_length bytes) bytes))
    → settings_within (suc n) bytes ≡ settings_within (suc m) bytes
enough_by false named n m bytes whole is rest = rw whole refl
enough_by true true n m bytes whole is rest = rw (whole, is) refl
enough_by true false n m bytes whole is rest = rw (whole, is) (rest whole)

-- A walk that may take as many steps as there are bytes takes enough.
pub enough : (n m : ℕ) (bytes : List ℕ) → length bytes ≤ n → length bytes ≤ m → settings_within n bytes ≡ settings_within m bytes
enough zero zero bytes n-is m-is = refl
enough zero (suc m) bytes n-is m-is = rw (no_note bytes n-is) refl
enough (suc n) zero bytes n-is m-is = rw (no_note bytes m-is) refl
enough (suc n) (suc m) bytes n-is m-is =
    enough_by (has_note bytes) (is_xinu_note bytes) n m bytes refl refl
    (λ whole. let shorter : length (drop (note_length bytes) bytes) ≤ n =
    omega (arith, length-drop (note_length bytes) bytes, note_inside bytes whole) in
    let shorter' : length (drop (note_length bytes) bytes) ≤ m =
    omega (arith, length-drop (note_length bytes) bytes, note_inside bytes whole) in
    enough n m (drop (note_length bytes) bytes) shorter shorter')

-- The walk may take a step more than there are bytes.
one_more : (bytes : List ℕ) → settings_of bytes ≡ settings_within (suc (length bytes)) bytes
unfolding settings_of
one_more bytes = enough (length bytes) (suc (length bytes)) bytes (omega arith) (omega arith)

-- Without a whole note there are no settings.
pub settings_none : (bytes : List ℕ) → has_note bytes ≡ false → settings_of bytes ≡ None
settings_none bytes whole = one_more bytes ∙ rw whole refl

-- The first note that counts gives the settings.
pub settings_here : (bytes : List ℕ) → has_note bytes ≡ true → is_xinu_note bytes ≡ true → settings_of bytes ≡ Some (settings_at bytes)
settings_here bytes whole is = one_more bytes ∙ rw (whole, is) refl

-- Any other note is passed over.
pub settings_next : (bytes : List ℕ) → has_note bytes ≡ true → is_xinu_note bytes ≡ false
    → settings_of bytes ≡ settings_of (drop (note_length bytes) bytes)
settings_next bytes whole is =
    one_more bytes ∙ rw (whole, is) refl
    ∙ enough (length bytes) (suc (length (drop (note_length bytes) bytes))) (drop (note_length bytes) bytes)
    (omega (arith, length-drop (note_length bytes) bytes)) (omega arith)
    ∙ sym (one_more (drop (note_length bytes) bytes))
