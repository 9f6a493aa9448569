-- Why a file's name or a mode isn't one (book, chapter 19).
use Rattle.std.specs.Prelude.{ℕ, ◌==◌, nat_le, nat_lt, not, ◌&&◌, List, [], ◌∷◌, ◌++◌, length}
use Rattle.std.specs.List.{list_all}
use Rattle.refusal_reasons.specs.Causes.{cause}
use Rattle.refusal_reasons.specs.declared.reasons.Cause.{Cause}
use Rattle.refusal_reasons.specs.declared.reasons.Reason.TheVariants.{EmptyName, NameTooLong, ZeroInName, NoModeLetter, LetterTwice, OldAndNew}
use Rattle.xinu_model.specs.Files.Constants.{LF_NAME_LEN}
use Rattle.xinu_model.specs.Files.Modes.{LF_MODE_O, LF_MODE_N, is_mode_letter, has_letter, are_apart}

-- a text isn't a file's name
abbrev pub name_causes : List ℕ → List Cause
name_causes name =
    cause EmptyName (not (nat_lt 0 (length name)))
    ∷ cause NameTooLong (not (nat_le (length name) LF_NAME_LEN))
    ∷ cause ZeroInName (not (list_all (λ b. not (b == 0)) name))
    ∷ []

-- a text isn't a mode
abbrev pub mode_causes : List ℕ → List Cause
mode_causes mode =
    cause NoModeLetter (not (list_all is_mode_letter mode))
    ∷ cause LetterTwice (not (are_apart mode))
    ∷ cause OldAndNew (has_letter LF_MODE_O mode && has_letter LF_MODE_N mode)
    ∷ []

-- `open` of a file: its name, and then the mode
abbrev pub file_causes : List ℕ → List ℕ → List Cause
file_causes name mode = name_causes name ++ mode_causes mode
