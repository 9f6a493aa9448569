-- What is printed of the file devices.
use Rattle.std.proofs.Common.{◌≡◌, ◌∙◌, ℕ, zero, suc, ◌+◌, ◌<◌, List, [], ◌∷◌, ◌++◌, length, take, Option, None, slice_index_or, ap, sym, subst, arith, append-nil, append_assoc}
use Rattle.host_port.specs.Outside.{Outside}
use Rattle.host_port.specs.Printing.{Printing, Prints}
use Rattle.xinu_model.specs.Files.Constants.{LFILE0}
use Rattle.xinu_model.specs.Files.Systems.{FileSystem, OpenFile, open_at}
use Rattle.xinu_model.specs.Text.{open_file_line, open_file_lines, shown}
use Rattle.machine.proofs.ShownLines.{shown_both}

-- the lines of one device more
more : (k n : ℕ) (l : List (Option OpenFile)) (s : FileSystem) → n < length l
    → open_file_lines k (take (n + 1) l) s ≡ open_file_lines k (take n l) s ++ open_file_line (k + n) (slice_index_or l n None) s
more k n [] s h = absurd (omega (arith, h))
more k zero (x ∷ l) s h =
    let e : k ≡ k + 0 = omega arith in append-nil (open_file_line k x s) ∙ ap (λ m. open_file_line m x s) e
more k (suc n) (x ∷ l) s h =
    let here = open_file_line k x s in
    let e : k + 1 + n ≡ k + suc n = omega arith in
    let f : suc n + 1 ≡ suc (n + 1) = omega arith in
    ap (λ m. open_file_lines k (take m (x ∷ l)) s) f
    ∙ ap (λ r. here ++ r) (more (k + 1) n l s (omega (arith, h)) ∙ ap (λ m. open_file_lines (k + 1) (take n l) s ++ open_file_line m (slice_index_or l n None) s) e)
    ∙ sym (append_assoc here (open_file_lines (k + 1) (take n l) s) (open_file_line (k + suc n) (slice_index_or l n None) s))

-- The devices so far were printed, and one more.
pub printed_open_file : (s : FileSystem) (n : ℕ) (a b c : Printing) (h i j : Outside) → n < length s.devices
    → Prints a b h i (shown a.plain (open_file_lines LFILE0 (take n s.devices) s)) → Prints b c i j (shown b.plain (open_file_line (LFILE0 + n) (open_at s n) s))
    → Prints a c h j (shown a.plain (open_file_lines LFILE0 (take (n + 1) s.devices) s))
printed_open_file s n a b c h i j within so_far one =
    let line = open_file_line (LFILE0 + n) (open_at s n) s in
    subst (λ ls. Prints a c h j (shown a.plain ls)) (sym (more LFILE0 n s.devices s within))
    (shown_both a b c h i j (open_file_lines LFILE0 (take n s.devices) s) line so_far one)
