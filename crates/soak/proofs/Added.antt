-- The counts of the text of lines with others after them.
use Rattle.std.proofs.Common.{◌≡◌, ◌∙◌, ℕ, List, [], ◌++◌, codes, sym, ap, arith}
use Rattle.soak.proofs.Joined.{with_appended}
use Rattle.workload.specs.Summaries.{Counts, added, counts_of}
use Rattle.xinu_base.specs.declared.lines.TranscriptLine.{TranscriptLine}
use Rattle.xinu_model.specs.Text.{text}
use Rattle.workload.proofs.Counted.{lines_with-none}

-- equal parts make equal counts
of_parts : (a b c d e f g h : ℕ) → a ≡ e → b ≡ f → c ≡ g → d ≡ h
    → ◌≡◌ {A = Counts} (record { calls = a; replies = b; switches = c; sent = d }) (record { calls = e; replies = f; switches = g; sent = h })
of_parts a b c d e f g h p q r s = cc

-- the counts of both are added
pub counts_appended : (first second : List TranscriptLine) → counts_of (text (first ++ second)) ≡ added (counts_of (text first)) (counts_of (text second))
counts_appended first second =
    of_parts _ _ _ _ _ _ _ _ (with_appended (codes "call") first second) (with_appended (codes "ret") first second)
    (with_appended (codes "run") first second) (with_appended (codes "con") first second)

-- counts to which nothing was counted before
pub added_to_none : (a : Counts) → added (record { calls = 0; replies = 0; switches = 0; sent = 0 }) a ≡ a
added_to_none a = of_parts _ _ _ _ _ _ _ _ (omega arith) (omega arith) (omega arith) (omega arith)

-- counts are added one after another
pub added_twice : (a b c : Counts) → added (added a b) c ≡ added a (added b c)
added_twice a b c = of_parts _ _ _ _ _ _ _ _ (omega arith) (omega arith) (omega arith) (omega arith)

-- to lines that were counted more are counted
pub counted_on : (a b c : Counts) (first second : List TranscriptLine) → b ≡ added a (counts_of (text first)) → c ≡ added b (counts_of (text second))
    → c ≡ added a (counts_of (text (first ++ second)))
counted_on a b c first second one two =
    two ∙ ap (λ (x : Counts). added x (counts_of (text second))) one ∙ added_twice a (counts_of (text first)) (counts_of (text second))
    ∙ sym (ap (added a) (counts_appended first second))

-- nothing is counted of no lines
pub counted_nothing : (c : Counts) → c ≡ added c (counts_of (text []))
counted_nothing c =
    let calls = lines_with-none (codes "call") in
    let replies = lines_with-none (codes "ret") in
    let switches = lines_with-none (codes "run") in
    let sent = lines_with-none (codes "con") in
    of_parts _ _ _ _ _ _ _ _ (omega (arith, calls)) (omega (arith, replies)) (omega (arith, switches)) (omega (arith, sent))
