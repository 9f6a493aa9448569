-- One more line of a listing.
use Rattle.std.proofs.Common.{◌≡◌, ℕ, ◌+◌, List, [], ◌∷◌, ◌++◌, sym, ap, ◌∙◌, append_assoc, refl, length}
use Rattle.std.specs.List.{flat_map}
use Rattle.std.specs.Prelude.{unwrap_or}
use Rattle.asm_syntax.specs.Statements.{Line}
use Rattle.rv_asm.specs.Assembly.{Header, Makes, assembly, content, header, image_file, is_void, lines_in}
use Rattle.rv_asm.specs.Faults.{first_fault, first_astray}
use Rattle.rv_asm.specs.Layouts.{Labels, Layout, start, after, after_all}
use Rattle.rv_asm.specs.Listings.{Row, row, rows, row_text, listed}
use Rattle.rv_asm.proofs.LoadLemmas.{makes}

-- the row of a line comes before those of the others
pub rows-next : (all : List ℕ) (labels : Labels) (k : ℕ) (lines rest : List Line) (line : Line) (s t : Layout) (front new : List ℕ)
    → all ≡ front ++ flat_map row_text (rows labels k lines s) → lines ≡ line ∷ rest → t ≡ after line s
    → new ≡ front ++ row_text (row labels k line s)
    → all ≡ new ++ flat_map row_text (rows labels (k + 1) rest t)
rows-next all labels k lines rest line s t front new so_far is then pushed =
    so_far
    ∙ ap (λ (l : List Line). front ++ flat_map row_text (rows labels k l s)) is
    ∙ sym (append_assoc front (row_text (row labels k line s)) (flat_map row_text (rows labels (k + 1) rest (after line s))))
    ∙ ap (λ (l : List ℕ). l ++ flat_map row_text (rows labels (k + 1) rest (after line s))) (sym pushed)
    ∙ ap (λ (u : Layout). new ++ flat_map row_text (rows labels (k + 1) rest u)) (sym then)

-- the bytes of the rows, one after another
pub rows-content : (labels : Labels) (k : ℕ) (lines : List Line) (s : Layout)
    → flat_map (λ (r : Row). r.bytes) (rows labels k lines s) ≡ content labels lines s
rows-content labels k [] s = refl
rows-content labels k (line ∷ lines) s =
    ap (λ (l : List ℕ). (row labels k line s).bytes ++ l) (rows-content labels (k + 1) lines (after line s))

-- the file of a text has the bytes of its listing as its content
pub listed-content : (text file : List ℕ) → assembly text ≡ Makes file
    → (h : Header) × (file ≡ image_file h (flat_map (λ (r : Row). r.bytes) (listed text)))
unfolding assembly listed
listed-content text file is =
    let lines = lines_in text in
    let end = after_all lines start in
    let bytes = content end.labels lines start in
    let parts =
    makes (first_fault end.labels 1 lines start) (first_astray end.labels (unwrap_or end.place 0) end.at 1 lines start)
    (is_void end (length bytes)) (image_file (header end (length bytes)) bytes) file is in (
      header end (length bytes),
      sym parts.1.1.1 ∙ ap (image_file (header end (length bytes))) (sym (rows-content end.labels 1 lines start)),
    )
