-- What is assembled loads.
use Rattle.std.proofs.Common.{◌≡◌, ℕ, ◌+◌, ◌%◌, ◌≤◌, nat_lt, Bool, true, false, cond, ◌&&◌, List, [], ◌∷◌, ◌++◌, length, Option, Some, None}
use Rattle.std.proofs.Common.{refl, sym, arith, length-append}
use Rattle.std.specs.Prelude.{◌==◌, nat_le, unwrap_or, is_none, is_some}
use Rattle.std.proofs.lemmas.Bool.Decides.{nat_tests}
use Rattle.std.proofs.lemmas.Bool.{eqb-true, leb-true, and_parts}
use Rattle.image_loader.specs.ImageFiles.{image_in}
use Rattle.asm_syntax.specs.Statements.{Statement, Empty, Malformed, Unresolved, Excessive, NameFor, NegativeFor, Code, Branch, JumpTo, AddressOf}
use Rattle.asm_syntax.specs.Statements.{Bytes, WordAt, Zeros, Align, Place, Entry, Priority, Stack, Line}
use Rattle.rv_asm.specs.Layouts.{Labels, Layout, start, after_statement, after_labels, after, after_all}
use Rattle.rv_asm.specs.Faults.{fault_of, first_fault, fault_or, is_bad, is_double, is_unknown, is_excessive, is_astray, astray_at}
use Rattle.rv_asm.specs.Faults.{first_astray, address}
use Rattle.rv_asm.specs.Assembly.{bytes_at, content, entry_at, header, image_file, is_void, ended, Makes, assembly, lines_in}
use Rattle.rv_asm.specs.declared.faults.AsmFault.{AsmFault}
use Rattle.rv_asm.proofs.ImageFiles.{IsSound, image_file-loads}
use Rattle.rv_asm.proofs.LayoutLemmas.{Keeps, keeps-statement, length-bytes_at, neither, both_true}

-- a choice that is None
pub skipped : (b : Bool) (f : AsmFault) (o : Option AsmFault) → cond b (Some f) o ≡ None → (b ≡ false) × (o ≡ None)
skipped true f o is = cc
skipped false f o is = (refl, is)

no_fault : (o rest : Option AsmFault) → fault_or o rest ≡ None → (o ≡ None) × (rest ≡ None)
no_fault None rest is = (refl, is)
no_fault (Some f) rest is = cc

-- labels put no content
keeps-labels : (names : List (List ℕ)) (s : Layout) (size : ℕ) → Keeps s size → Keeps (after_labels names s) size
keeps-labels names s size keeps = record {
  at = keeps.at;
  none = λ e. keeps.none (neither s.begun (nat_lt 0 (length names)) e).0;
  inside = keeps.inside;
  aligned = keeps.aligned;
  priority_low = keeps.priority_low;
  priority_high = keeps.priority_high;
  stack = keeps.stack;
}

-- a line without a fault keeps it
keeps-line : (labels : Labels) (k size : ℕ) (line : Line) (s : Layout) → fault_of labels k line s ≡ None → Keeps s size
    → Keeps (after line s) (size + length (bytes_at labels s.at line.statement))
keeps-line labels k size line s none keeps =
    let one = skipped (is_bad line.statement (after_labels line.labels s)) _ _ none in
    let two = skipped (is_double line.labels s.at s.labels) _ _ one.1 in
    let three = skipped (is_unknown labels line.statement) _ _ two.1 in
    let four = skipped (is_excessive line.statement s.at) _ _ three.1 in
    rw (length-bytes_at labels s.at line.statement)
    (keeps-statement line.statement (after_labels line.labels s) size one.0 four.0 (keeps-labels line.labels s size keeps))

at_size : (s : Layout) (n m : ℕ) → n ≡ m → Keeps s n → Keeps s m
at_size s n m is keeps = rw is at keeps

keeps-all : (labels : Labels) (k size : ℕ) (lines : List Line) (s : Layout) → first_fault labels k lines s ≡ None → Keeps s size
    → Keeps (after_all lines s) (size + length (content labels lines s))
keeps-all labels k size [] s none keeps = at_size s size (size + 0) (omega arith) keeps
keeps-all labels k size (line ∷ lines) s none keeps =
    let parts = no_fault (fault_of labels k line s) (first_fault labels (k + 1) lines (after line s)) none in
    at_size (after_all lines (after line s))
    (size + length (bytes_at labels s.at line.statement) + length (content labels lines (after line s)))
    (size + length (bytes_at labels s.at line.statement ++ content labels lines (after line s)))
    (omega (arith, length-append (bytes_at labels s.at line.statement) (content labels lines (after line s))))
    (keeps-all labels (k + 1) (size + length (bytes_at labels s.at line.statement)) lines (after line s) parts.1
    (keeps-line labels k size line s parts.0 keeps))

-- an entry that is named is the address of a word of the content
abbrev pub IsEntry : Labels → ℕ → ℕ → Option (List ℕ) → Type 0
IsEntry labels place end None = Unit {0}
IsEntry labels place end (Some l) = (address labels l % 4 ≡ 0) × (place ≤ address labels l) × (address labels l + 4 ≤ end)

entry-statement : (labels : Labels) (place end at : ℕ) (statement : Statement) (s : Layout)
    → is_astray labels place end at statement ≡ false → IsEntry labels place end s.entry
    → IsEntry labels place end (after_statement statement s).entry
entry-statement labels place end at Empty s good is = is
entry-statement labels place end at Malformed s good is = is
entry-statement labels place end at Unresolved s good is = is
entry-statement labels place end at Excessive s good is = is
entry-statement labels place end at (NameFor field) s good is = is
entry-statement labels place end at (NegativeFor field) s good is = is
entry-statement labels place end at (Code words) s good is = is
entry-statement labels place end at (Branch bits rs1 rs2 l) s good is = is
entry-statement labels place end at (JumpTo rd l) s good is = is
entry-statement labels place end at (AddressOf rd l) s good is = is
entry-statement labels place end at (Bytes bytes) s good is = is
entry-statement labels place end at (WordAt l) s good is = is
entry-statement labels place end at (Zeros n) s good is = is
entry-statement labels place end at Align s good is = is
entry-statement labels place end at (Place n) s good is = is
entry-statement labels place end at (Entry l) s good is =
    let one = both_true ((address labels l % 4 == 0) && nat_le place (address labels l)) (nat_le (address labels l + 4) end) good in
    let two = and_parts (address labels l % 4 == 0) (nat_le place (address labels l)) one.0 in
    (eqb-true _ _ two.0, leb-true _ _ two.1, leb-true _ _ one.1)
entry-statement labels place end at (Priority n) s good is = is
entry-statement labels place end at (Stack n) s good is = is

entry-all : (labels : Labels) (place end k : ℕ) (lines : List Line) (s : Layout) → first_astray labels place end k lines s ≡ None
    → IsEntry labels place end s.entry → IsEntry labels place end (after_all lines s).entry
entry-all labels place end k [] s none is = is
entry-all labels place end k (line ∷ lines) s none is =
    let parts =
    no_fault (astray_at labels place end k s.at line.statement) (first_astray labels place end (k + 1) lines (after line s)) none in
    let good = skipped (is_astray labels place end s.at line.statement) _ _ parts.0 in
    entry-all labels place end (k + 1) lines (after line s) parts.1
    (entry-statement labels place end s.at line.statement (after_labels line.labels s) good.0 is)

-- the header that lines without a fault set is that of an image file
sound : (s : Layout) (bytes : List ℕ) (entry : Option (List ℕ)) → entry ≡ s.entry → Keeps s (length bytes)
    → is_void s (length bytes) ≡ false → IsEntry s.labels (unwrap_or s.place 0) s.at entry
    → IsSound
    (record {
      place = unwrap_or s.place 0;
      size = length bytes;
      entry = entry_at s.labels (unwrap_or s.place 0) entry;
      priority = unwrap_or s.priority 20;
      stack = unwrap_or s.stack 4096;
    })
    bytes
sound s bytes None same keeps void is =
    let parts = neither (length bytes == 0) (is_none s.entry && nat_lt (length bytes) 4) void in
    let large : nat_lt (length bytes) 4 ≡ false = rw (sym same) at parts.1 in
    let four : 4 ≤ length bytes = grind (arith, nat_tests, large) in
    record {
      size = refl;
      aligned = keeps.aligned;
      inside = omega (arith, keeps.at, keeps.inside);
      entry_aligned = keeps.aligned;
      entry_low = omega arith;
      entry_high = omega (arith, four);
      priority_low = keeps.priority_low;
      priority_high = keeps.priority_high;
      stack = keeps.stack;
    }
sound s bytes (Some l) same keeps void is = record {
  size = refl;
  aligned = keeps.aligned;
  inside = omega (arith, keeps.at, keeps.inside);
  entry_aligned = is.0;
  entry_low = is.1;
  entry_high = omega (arith, is.2, keeps.at);
  priority_low = keeps.priority_low;
  priority_high = keeps.priority_high;
  stack = keeps.stack;
}

-- a text that makes a file has no fault
pub makes : (first astray : Option AsmFault) (void : Bool) (made file : List ℕ) → ended first astray void made ≡ Makes file
    → (first ≡ None) × ((astray ≡ None) × ((void ≡ false) × (made ≡ file)))
makes None None false made file is = (refl, (refl, (refl, cc)))
makes None None true made file is = cc
makes None (Some f) void made file is = cc
makes (Some f) astray void made file is = cc

starts : Keeps start 0
starts =
    record {
      at = refl;
      none = λ e. refl;
      inside = omega arith;
      aligned = refl;
      priority_low = omega arith;
      priority_high = omega arith;
      stack = omega arith;
    }

-- the file of a text loads
pub assembled-loads : (text file : List ℕ) → assembly text ≡ Makes file → is_some (image_in file) ≡ true
unfolding assembly
assembled-loads text file is =
    let lines = lines_in text in
    let end = after_all lines start in
    let bytes = content end.labels lines start in
    let parts =
    makes (first_fault end.labels 1 lines start) (first_astray end.labels (unwrap_or end.place 0) end.at 1 lines start)
    (is_void end (length bytes)) (image_file (header end (length bytes)) bytes) file is in
    let keeps : Keeps end (length bytes) =
    at_size end (0 + length bytes) (length bytes) (omega arith) (keeps-all end.labels 1 0 lines start parts.0 starts) in
    let entry = entry-all end.labels (unwrap_or end.place 0) end.at 1 lines start parts.1.0 tt in
    let are : IsSound (header end (length bytes)) bytes = sound end bytes end.entry refl keeps parts.1.1.0 entry in
    rw (sym parts.1.1.1, image_file-loads (header end (length bytes)) bytes are) refl
