-- What calls on files give and take.
use Rattle.std.proofs.Common.{arith, ◌≡◌, ◌∙◌, ℕ, suc, ◌+◌, ◌<◌, ◌≤◌, nat_lt, Bool, true, false, ◌&&◌, nat_le, if◌then◌else◌, ◌==◌, not, List, [], ◌∷◌, ◌++◌, get_or, slice_set, length, take, drop, Option, Some, None, ℤ, ap, refl, subst, sym}
use Rattle.std.proofs.lemmas.Bool.{and_parts}
use Rattle.std.proofs.lemmas.Bool.Decides.{nat_tests}
use Rattle.std.proofs.Math.Seq.{drop-cons}
use Rattle.std.proofs.lemmas.List.{append_assoc, length-take, take_more_set}
use Rattle.files_c.specs.Answers.{Held, answered, answers_of, bytes_after, can_move, has_name, is_device, named, on_device, others, refused, replied}
use Rattle.files_c.specs.Spans.{is_span}
use Rattle.files_c.specs.declared.calls.FilesCall.{FilesCall}
use Rattle.local_files.specs.Standing.{HasEffect, given_bytes}
use Rattle.local_files.specs.declared.FileCall.{FileCall}
use Rattle.local_files.specs.declared.FileCall.TheVariants.{Open, Delete, Close, Read, Write, Getc, Putc, Seek, Truncate, Size}
use Rattle.xinu_model.specs.Files.Calls as model
use Rattle.xinu_model.specs.Files.Calls.{file_effect}
use Rattle.xinu_model.specs.Files.Reading.{bytes_ahead, read_file, taken}
use Rattle.xinu_model.specs.Files.Systems.{FileEffect, FileSystem, OpenFile, on_open, open_at, open_bytes, refused_effect, replies}

-- a call that is given no bytes has none
pub none_given : (call : FileCall) → given_bytes call [] ≡ []
none_given (Open name mode) = refl
none_given (Delete name) = refl
none_given (Close d) = refl
none_given (Read d n) = refl
none_given (Write d) = refl
none_given (Getc d) = refl
none_given (Putc d b) = refl
none_given (Seek d n) = refl
none_given (Truncate d) = refl
none_given (Size d) = refl

-- one effect or another gives few bytes, if both do
few_of : (b : Bool) (x y : FileEffect) (n : ℕ) → length x.bytes ≤ n → length y.bytes ≤ n → length (if b then x else y).bytes ≤ n
few_of true x y n hx hy = hx
few_of false x y n hx hy = hy

-- a read gives no more bytes than it asks for
pub read_gives : (d n : ℕ) (s : FileSystem) → length (file_effect (model.Read d n) [] s).bytes ≤ n
read_gives d n s = go (open_at s d)
  where
    go : (o : Option OpenFile) → length (on_open o (λ f. read_file d n f s) s).bytes ≤ n
    go None = omega arith
    go (Some f) =
        let most = length-take n (drop f.position (open_bytes f s)) in
        few_of (not f.may_read) (refused_effect s) _ n (omega arith)
        (few_of (n == 0) (replies _ s) _ n (omega arith)
        (few_of (nat_le (length (open_bytes f s)) f.position) (replies _ s) (taken (bytes_ahead n f s) d f s) n (omega arith) (omega (arith, most))))

-- there is room for the bytes of a call that can be made
pub room_for : (c : FilesCall) (bytes : List ℕ) → can_move c bytes ≡ true → c.at + c.count ≤ length bytes
room_for c bytes h =
    let span : is_span bytes c.at c.count ≡ true =
    (and_parts (is_span bytes c.at c.count) (nat_le c.count 1048576) (and_parts (is_device c.number) (is_span bytes c.at c.count && nat_le c.count 1048576) h).1).0 in
    grind (arith, nat_tests)

-- a call that takes no bytes has the effect of the abstract machine's call
pub plain_effect : (call : FileCall) (before after : FileSystem) (reply : ℤ) (given : List ℕ) → HasEffect call (given_bytes call []) before reply given after
    → HasEffect call [] before reply given after
plain_effect call before after reply given h = subst (λ (b : List ℕ). HasEffect call b before reply given after) (none_given call) h

-- a call on a file whose name is there
pub named_effect : (asked : model.FileCall) (c : FilesCall) (h : Held) → has_name c h.bytes ≡ true → named asked c h ≡ replied (file_effect asked [] h.system) h.bytes
named_effect asked c h t = ap (λ (b : Bool). if b then replied (file_effect asked [] h.system) h.bytes else refused h) t

-- a call of another kind than those that take bytes
pub other_answered : (h : Held) (c : FilesCall) → (c.kind == 0) ≡ false → (c.kind == 1) ≡ false → (c.kind == 3) ≡ false → (c.kind == 4) ≡ false
    → answered h c ≡ others c h
other_answered h c a b d e = rw (a, b, d, e) refl

-- a call on a device, if there is such a kind
pub others_on : (h : Held) (c : FilesCall) → nat_lt 9 c.kind ≡ false → others c h ≡ on_device c h
others_on h c t = ap (λ (b : Bool). if b then refused h else on_device c h) t

-- a number that is at most another isn't above it
pub not_above : (a b : ℕ) → b ≤ a → nat_lt a b ≡ false
not_above a b le = grind (arith, nat_tests)

-- the calls from a place on are the one there and those after it
from_here : (calls : List FilesCall) (k : ℕ) (d : FilesCall) → k < length calls → drop k calls ≡ get_or calls k d ∷ drop (k + 1) calls
from_here calls k d lt =
    let next : suc k ≡ k + 1 = omega arith in
    subst (λ (n : ℕ). drop k calls ≡ get_or calls k d ∷ drop n calls) next (drop-cons calls k d lt)

-- one answer more
pub one_answered : (answers : List ℤ) (calls : List FilesCall) (k : ℕ) (d : FilesCall) (h h' : Held) (a : ℤ) (all : List ℤ) → k < length calls
    → length answers ≡ length calls → a ≡ (answered h (get_or calls k d)).answer → h' ≡ (answered h (get_or calls k d)).held
    → take k answers ++ answers_of h (drop k calls) ≡ all → take (k + 1) (slice_set answers k a) ++ answers_of h' (drop (k + 1) calls) ≡ all
one_answered answers calls k d h h' a all lt long ea eh made =
    let x = get_or calls k d in
    let D = drop (k + 1) calls in
    let more = take_more_set answers k a (omega (arith, lt, long)) in
    let inner : a ∷ answers_of h' D ≡ answers_of h (drop k calls) =
    ap (λ z. z ∷ answers_of h' D) ea ∙ ap (λ s. (answered h x).answer ∷ answers_of s D) eh ∙ sym (ap (answers_of h) (from_here calls k d lt)) in
    ap (λ l. l ++ answers_of h' D) more ∙ append_assoc (take k answers) (a ∷ []) (answers_of h' D) ∙ ap (λ l. take k answers ++ l) inner ∙ made

-- the bytes after one call more
pub one_passed : (calls : List FilesCall) (k : ℕ) (d : FilesCall) (h h' : Held) (all : List ℕ) → k < length calls → h' ≡ (answered h (get_or calls k d)).held
    → bytes_after h (drop k calls) ≡ all → bytes_after h' (drop (k + 1) calls) ≡ all
one_passed calls k d h h' all lt eh made =
    ap (λ s. bytes_after s (drop (k + 1) calls)) eh ∙ sym (ap (bytes_after h) (from_here calls k d lt)) ∙ made
