-- What is shown of the files that are open.
use Rattle.std.proofs.Common.{◌≡◌, ◌∙◌, ℕ, ◌+◌, true, cond, List, [], ◌∷◌, map, Option, Some, None, refl, sym, ap, arith}
use Rattle.std.proofs.lemmas.Bool.Decides.{nat_tests}
use Rattle.std.proofs.lemmas.List.Sums.{sum_by-cons}
use Rattle.std.specs.Prelude.{count_by, is_some, nat_lt}
use Rattle.std.specs.List.{list_any}
use Rattle.file_server.specs.OpenFiles.{place_of}
use Rattle.local_files.proofs.Devices.{device_some, open_size, shown_at}
use Rattle.local_files.specs.Hands.{system}
use Rattle.local_files.specs.Standing.{Stands}
use Rattle.local_files.specs.Steps.{device_at, shown}
use Rattle.local_files.specs.declared.Files.{Files}
use Rattle.local_files.specs.declared.OpenFile.{OpenFile}
use Rattle.xinu_model.specs.Files.Systems as systems

-- A device with nothing open shows nothing.
pub place_closed : (e : Files) (base : List ℕ) (d : ℕ) → device_at e d ≡ None → None ≡ place_of (systems.open_at (system e base) d) (system e base)
place_closed e base d none = sym (ap (λ o. place_of o (system e base)) (shown_at e.devices d ∙ ap shown none))

-- One with a file open shows the position, and the size that the entry says.
pub place_open : (e : Files) (base disk : List ℕ) (d : ℕ) (f : OpenFile) → Stands e base disk → device_at e d ≡ Some f
    → Some (f.position, f.entry.size) ≡ place_of (systems.open_at (system e base) d) (system e base)
place_open e base disk d f s at =
    sym (ap (λ o. place_of o (system e base)) (shown_at e.devices d ∙ ap shown at)
    ∙ ap (λ (n : ℕ). Some (f.position, n)) (open_size base f s.clean (device_some e base disk d f s at)))

-- one and some more are some
one_and_more : (n : ℕ) → nat_lt 0 (1 + n) ≡ true
one_and_more n = grind (arith, nat_tests)

-- Whether a file is open is told by how many are.
pub any_open : (xs : List (Option OpenFile)) → nat_lt 0 (count_by is_some xs) ≡ list_any (λ (x : Option systems.OpenFile). is_some x) (map shown xs)
any_open [] = refl
any_open (None ∷ xs) = any_open xs
any_open (Some f ∷ xs) =
    let e = sum_by-cons (λ (o : Option OpenFile). cond (is_some o) 1 0) (Some f) xs in
    ap (nat_lt 0) e ∙ one_and_more (count_by is_some xs)
