-- The lines of the files of a disk, printed one after another.
use Rattle.std.proofs.Common.{◌≡◌, ◌∙◌, ◌+◌, ◌≤◌, inl, inr, ℕ, Bool, true, false, List, [], ◌∷◌, ◌++◌, length, take, Option, Some, None, refl, sym, ap, subst, arith, append-nil}
use Rattle.std.specs.Prelude.{if◌then◌else◌}
use Rattle.std.specs.List.{flat_map, slice_get}
use Rattle.std.specs.Option.{option_map_or}
use Rattle.std.proofs.lemmas.Grind.{flat_map-append}
use Rattle.std.proofs.lemmas.List.{length-map, take_all, take_more}
use Rattle.std.proofs.lemmas.Option.{get_or_from_slice_get, slice_get_cases, slice_get_within}
use Rattle.host_port.specs.Outside.{Outside}
use Rattle.host_port.specs.Printing.{Printing, Prints}
use Rattle.host_port.proofs.Prints.{prints_both, prints_nothing}
use Rattle.lfs_layout.specs.Files.{File, files_of, listing, placed_files, bare_name}
use Rattle.lfs_layout.specs.Images.{IsCleanImage}
use Rattle.lfs_layout.proofs.CleanOpens.{placed_room}
use Rattle.xinu_commands.specs.DiskVerdict.{file_line, file_lines}
use Rattle.xinu_commands.specs.Stages.{line_at}
use Rattle.xinu_commands.proofs.Carried.{fresh}
use Rattle.lfs_layout.proofs.ImageLaws.{length-sorted}

-- the lines of the first k files
unfoldable pub lines_to : ℕ → List ℕ → List ℕ
lines_to k d = flat_map file_line (take k (listing (files_of d)))

-- ---- a disk has at most 78 files

few_files : (d : List ℕ) → IsCleanImage d → length (listing (files_of d)) ≤ 78
few_files d c =
    let few = (placed_room d c.faultless c.version).few in
    let one = length-map {B = List ℕ × ℕ} (files_of d) (λ (f : File). (bare_name f.name, length f.bytes)) in
    let all = length-sorted (placed_files d) in omega (arith, few, one, all)

-- ---- the lines

lines_after : (files : List (List ℕ × ℕ)) (k : ℕ) (f : Option (List ℕ × ℕ)) → slice_get files k ≡ f
    → flat_map file_line (take (k + 1) files) ≡ flat_map file_line (take k files) ++ option_map_or file_line f []
lines_after files k (Some f) is =
    let more = take_more files k f (slice_get_within files k f is) in
    ap (flat_map file_line) (more ∙ ap (λ x. take k files ++ x ∷ []) (get_or_from_slice_get files k f f is)) ∙ flat_map-append file_line (take k files) (f ∷ [])
    ∙ ap (λ x. flat_map file_line (take k files) ++ x) (append-nil (file_line f))
lines_after files k None is =
    elim (slice_get_cases files k).1 [
      | inl there ↦ (let some = there.2 in absurd (cc))
      | inr past ↦ ap (flat_map file_line) (take_all (k + 1) files (let short = past.0 in omega arith) ∙ sym (take_all k files past.0)) ∙ sym (append-nil (flat_map file_line (take k files)))
    ]

lines_more : (d : List ℕ) (k : ℕ) → lines_to (k + 1) d ≡ lines_to k d ++ line_at k d
unfolding lines_to line_at
lines_more d k = lines_after (listing (files_of d)) k (slice_get (listing (files_of d)) k) refl

pub lines_all : (d : List ℕ) → IsCleanImage d → lines_to 78 d ≡ file_lines d
unfolding lines_to file_lines
lines_all d c = ap (flat_map file_line) (take_all 78 (listing (files_of d)) (few_files d c))

-- ---- the loop

-- no line was printed yet
pub first_lines : (a : Printing) (h : Outside) (d : List ℕ) → a ≡ fresh → Prints fresh a h h (lines_to 0 d)
unfolding lines_to
first_lines a h d is = (let P : Printing → Type 0 = λ x. Prints fresh x h h [] in subst P (sym is) (prints_nothing fresh h))

-- one more line
pub more_lines : (b c : Printing) (h i j : Outside) (k : ℕ) (d : List ℕ) → Prints fresh b h i (lines_to k d) → Prints b c i j (if b.plain then [] else line_at k d)
    → Prints fresh c h j (lines_to (k + 1) d)
more_lines b c h i j k d first second =
    let P : Bool → Type 0 = λ p. Prints b c i j (if p then [] else line_at k d) in
    let Q : List ℕ → Type 0 = λ t. Prints fresh c h j t in
    subst Q (sym (lines_more d k)) (prints_both fresh b c h i j (lines_to k d) (line_at k d) first (subst P first.mode second))

-- all lines
pub last_lines : (a : Printing) (h i : Outside) (d : List ℕ) → IsCleanImage d → Prints fresh a h i (lines_to 78 d) → Prints fresh a h i (file_lines d)
last_lines a h i d c p = (let P : List ℕ → Type 0 = λ t. Prints fresh a h i t in subst P (lines_all d c) p)

-- ---- one line

pub line_some : (k : ℕ) (d : List ℕ) (f : List ℕ × ℕ) → slice_get (listing (files_of d)) k ≡ Some f → file_line f ≡ line_at k d
unfolding line_at
line_some k d f is = sym (ap (λ (o : Option (List ℕ × ℕ)). option_map_or file_line o []) is)

pub line_none : (k : ℕ) (d : List ℕ) → slice_get (listing (files_of d)) k ≡ None → [] ≡ line_at k d
unfolding line_at
line_none k d is = sym (ap (λ (o : Option (List ℕ × ℕ)). option_map_or file_line o []) is)

-- if there is no file, nothing is printed
pub no_line : (a : Printing) (h : Outside) (k : ℕ) (d : List ℕ) → slice_get (listing (files_of d)) k ≡ None → Prints a a h h (if a.plain then [] else line_at k d)
no_line a h k d is =
    let P : List ℕ → Type 0 = λ t. Prints a a h h t in
    subst P (by_mode a.plain (line_at k d) (line_none k d is)) (prints_nothing a h)
  where
    by_mode : (b : Bool) (t : List ℕ) → [] ≡ t → [] ≡ (if b then [] else t)
    by_mode true t is = refl
    by_mode false t is = is
