-- Files that are fetched and loaded one by one.
use Rattle.std.proofs.Common.{◌≡◌, ◌+◌, ◌-◌, ◌<◌, ◌++◌, ℕ, suc, zero, List, [], ◌∷◌, length, arith, false, Option, None, Some, String, Vec, Global, refl, sym, ap, map, subst, take, drop, option_map, ◌∙◌}
use Rattle.std.proofs.lemmas.List.{map-append, take-append-drop}
use Rattle.std.specs.String.{string_bytes}
use Rattle.std.specs.Prelude.{get_or}
use Rattle.elf_loader.specs.LoadedFiles.{loads}
use Rattle.host_port.specs.Outside.{Outside}
use Rattle.prove_command.specs.Named.{AreFetched, AreLoaded, IsFrom}
use Rattle.prove_command.specs.Theorem.{IsImageFault}
use Rattle.run_inputs.proofs.FetchedFiles.{fetched_ended, fetched_files, fetched_stopped, fetched_then}
use Rattle.run_inputs.proofs.GoodImages.{good_more}
use Rattle.run_inputs.specs.Fetching.{FetchesFiles, IsOfHost}
use Rattle.run_inputs.specs.InputFaults.{have_fault, image_fault}
use Rattle.run_inputs.specs.declared.refusals.Refusal.{Refusal}
use Rattle.run_inputs.specs.declared.refusals.Refusal.TheVariants as refusal
use Rattle.xinu_model.specs.Boot.{Loaded}

pub fetched_more : (file : List ℕ → Option (List ℕ)) (names files : List (List ℕ)) (name bytes : List ℕ) → AreFetched file names files → IsFrom (file name) bytes
    → AreFetched file (names ++ name ∷ []) (files ++ bytes ∷ [])
fetched_more file [] [] name bytes before is = (is, tt)
fetched_more file [] (b ∷ files) name bytes before is = absurd before
fetched_more file (n ∷ names) [] name bytes before is = absurd before
fetched_more file (n ∷ names) (b ∷ files) name bytes before is = (before.0, fetched_more file names files name bytes before.1 is)

pub loaded_more : (files : List (List ℕ)) (images : List Loaded) (bytes : List ℕ) (image : Loaded) → AreLoaded files images → loads bytes ≡ Some image
    → AreLoaded (files ++ bytes ∷ []) (images ++ image ∷ [])
loaded_more [] [] bytes image before is = (is, tt)
loaded_more [] (i ∷ images) bytes image before is = absurd before
loaded_more (b ∷ files) [] bytes image before is = absurd before
loaded_more (b ∷ files) (i ∷ images) bytes image before is = (before.0, loaded_more files images bytes image before.1 is)

-- some elements, and one more
pub take_get : {A : Type 0} (xs : List A) (i : ℕ) (d : A) → i < length xs → take (i + 1) xs ≡ take i xs ++ get_or xs i d ∷ []
take_get [] i d few = absurd (omega arith)
take_get (x ∷ xs) zero d few = refl
take_get (x ∷ xs) (suc i) d few = let e : suc i + 1 ≡ suc (i + 1) = omega arith in
    ap (λ j. take j (x ∷ xs)) e ∙ ap (λ ys. x ∷ ys) (take_get xs i d (omega arith))

pub take_one : {A : Type 0} (xs : List A) (i : ℕ) (x : A) → i < length xs → x ≡ get_or xs i x → take (i + 1) xs ≡ take i xs ++ x ∷ []
take_one xs i x few is = take_get xs i x few ∙ ap (λ y. take i xs ++ y ∷ []) (sym is)

-- as many files as names, and as many images
pub as_many_files : (file : List ℕ → Option (List ℕ)) (names files : List (List ℕ)) → AreFetched file names files → length files ≡ length names
as_many_files file [] [] is = refl
as_many_files file [] (b ∷ files) is = absurd is
as_many_files file (n ∷ names) [] is = absurd is
as_many_files file (n ∷ names) (b ∷ files) is = let e = as_many_files file names files is.1 in omega arith

pub as_many_images : (files : List (List ℕ)) (images : List Loaded) → AreLoaded files images → length images ≡ length files
as_many_images [] [] is = refl
as_many_images [] (i ∷ images) is = absurd is
as_many_images (b ∷ files) [] is = absurd is
as_many_images (b ∷ files) (i ∷ images) is = let e = as_many_images files images is.1 in omega arith

-- ---- files that are fetched one after another

-- What holds before file i is fetched: those of the names before it were.
pub record SoFar (names : List (String Global)) (i : ℕ) (files : List (Vec ℕ Global)) (h j : Outside) : Type 0 where
  pub fetched : AreFetched h.file (map string_bytes (take i names)) (map (λ v. v.items) files)
  pub fetches : FetchesFiles (map string_bytes (take i names)) None h j

names_more : (names : List (String Global)) (i : ℕ) (d : String Global) (name : List ℕ) → i < length names → name ≡ string_bytes (get_or names i d)
    → map string_bytes (take (i + 1) names) ≡ map string_bytes (take i names) ++ name ∷ []
names_more names i d name few is =
    ap (map string_bytes) (take_get names i d few) ∙ map-append string_bytes (take i names) (get_or names i d ∷ [])
    ∙ ap (λ n. map string_bytes (take i names) ++ n ∷ []) (sym is)

-- one file more
pub goes_on : (names : List (String Global)) (i : ℕ) (d : String Global) (name : List ℕ) (files : List (Vec ℕ Global)) (more : List (Vec ℕ Global)) (file : Vec ℕ Global)
    (h j k : Outside) → i < length names → name ≡ string_bytes (get_or names i d) → SoFar names i files h j → more ≡ files ++ file ∷ []
    → IsFrom (j.file name) file.items → FetchesFiles (name ∷ []) None j k → SoFar names (i + 1) more h k
goes_on names i d name files more file h j k few is before kept from one =
    let all = names_more names i d name few is in
    let items : map (λ (v : Vec ℕ Global). v.items) more ≡ map (λ (v : Vec ℕ Global). v.items) files ++ file.items ∷ [] =
    ap (map (λ (v : Vec ℕ Global). v.items)) kept ∙ map-append (λ (v : Vec ℕ Global). v.items) files (file ∷ []) in
    let same = fetched_files (map string_bytes (take i names)) None h j before.fetches in
    record {
      fetched = subst (λ (ns : List (List ℕ)). AreFetched h.file ns (map (λ v. v.items) more)) (sym all)
          (subst (λ (fs : List (List ℕ)). AreFetched h.file (map string_bytes (take i names) ++ name ∷ []) fs) (sym items)
          (fetched_more h.file (map string_bytes (take i names)) (map (λ v. v.items) files) name file.items before.fetched
          (subst (λ (f : List ℕ → Option (List ℕ)). IsFrom (f name) file.items) same from)));
      fetches = subst (λ ns. FetchesFiles ns None h k) (sym all)
          (fetched_then (map string_bytes (take i names)) (name ∷ []) None h j k before.fetches one);
    }

-- the host failed at a file, or memory ran out
pub stops : (names : List (String Global)) (i : ℕ) (d : String Global) (name : List ℕ) (r : Refusal) (h j k : Outside) → i < length names
    → name ≡ string_bytes (get_or names i d) → FetchesFiles (map string_bytes (take i names)) None h j → IsOfHost r
    → FetchesFiles (name ∷ []) (Some r) j k → FetchesFiles (map string_bytes names) (Some r) h k
stops names i d name r h j k few is before cause one =
    let made = fetched_then (map string_bytes (take i names)) (name ∷ []) (Some r) h j k before one in
    let whole : (map string_bytes (take i names) ++ name ∷ []) ++ map string_bytes (drop (i + 1) names) ≡ map string_bytes names =
    ap (λ ns. ns ++ map string_bytes (drop (i + 1) names)) (sym (names_more names i d name few is))
    ∙ sym (map-append string_bytes (take (i + 1) names) (drop (i + 1) names)) ∙ ap (map string_bytes) (take-append-drop (i + 1) names) in
    subst (λ ns. FetchesFiles ns (Some r) h k) whole
    (fetched_stopped (map string_bytes (take i names) ++ name ∷ []) (map string_bytes (drop (i + 1) names)) r h k cause made)

-- memory ran out once it was fetched
pub unkept : (name : List ℕ) (j k : Outside) → FetchesFiles (name ∷ []) None j k → FetchesFiles (name ∷ []) (Some refusal.NoMemory) j k
unkept name j k one = fetched_ended (name ∷ []) (Some refusal.NoMemory) j k (λ e. absurd (cc)) one

-- ---- an image that is refused

first_fault : (files : List (List ℕ)) (i : ℕ) (cause : Refusal) (fault : Option ℕ) → have_fault (take i files) ≡ false
    → image_fault (get_or files i []) ≡ fault → Some cause ≡ option_map (refusal.Image (i + 1)) fault → IsImageFault files cause
first_fault files i cause None good is judged = absurd (cc)
first_fault files i cause (Some fault) good is judged =
    let e : cause ≡ refusal.Image (i + 1) fault = cc in
    let back : i ≡ i + 1 - 1 = omega arith in
    subst (IsImageFault files) (sym e)
    (record {
      before = subst (λ j. have_fault (take j files) ≡ false) back good;
      is = subst (λ j. image_fault (get_or files j []) ≡ Some fault) back is;
    })

items_at : (files : List (Vec ℕ Global)) (i : ℕ) (d : Vec ℕ Global) → i < length files
    → get_or (map (λ v. v.items) files) i [] ≡ (get_or files i d).items
items_at [] i d few = absurd (omega arith)
items_at (f ∷ files) zero d few = refl
items_at (f ∷ files) (suc i) d few = items_at files i d (omega arith)

taken_items : (files : List (Vec ℕ Global)) (i : ℕ) → take i (map (λ v. v.items) files) ≡ map (λ v. v.items) (take i files)
taken_items [] zero = refl
taken_items [] (suc i) = refl
taken_items (f ∷ files) zero = refl
taken_items (f ∷ files) (suc i) = ap (λ fs. f.items ∷ fs) (taken_items files i)

pub refused_at : (files : List (Vec ℕ Global)) (i number : ℕ) (d : Vec ℕ Global) (bytes : List ℕ) (cause : Refusal) → i < length files
    → have_fault (map (λ v. v.items) (take i files)) ≡ false → bytes ≡ (get_or files i d).items → number ≡ i + 1
    → Some cause ≡ option_map (refusal.Image number) (image_fault bytes) → IsImageFault (map (λ v. v.items) files) cause
refused_at files i number d bytes cause few good is numbered judged =
    first_fault (map (λ v. v.items) files) i cause (image_fault bytes) (ap have_fault (taken_items files i) ∙ good)
    (ap image_fault (items_at files i d few ∙ sym is))
    (judged ∙ ap (λ m. option_map (refusal.Image m) (image_fault bytes)) numbered)

-- one that is loaded has no fault
pub good_then : (files : List (Vec ℕ Global)) (i number : ℕ) (d : Vec ℕ Global) (bytes : List ℕ) → i < length files
    → have_fault (map (λ v. v.items) (take i files)) ≡ false → bytes ≡ (get_or files i d).items
    → None ≡ option_map (refusal.Image number) (image_fault bytes) → have_fault (map (λ v. v.items) (take (i + 1) files)) ≡ false
good_then files i number d bytes few good is judged =
    let more : map (λ (v : Vec ℕ Global). v.items) (take (i + 1) files) ≡ map (λ (v : Vec ℕ Global). v.items) (take i files) ++ (get_or files i d).items ∷ [] =
    ap (map (λ (v : Vec ℕ Global). v.items)) (take_get files i d few) ∙ map-append (λ (v : Vec ℕ Global). v.items) (take i files) (get_or files i d ∷ []) in
    ap have_fault more ∙ good_more (map (λ v. v.items) (take i files)) ((get_or files i d).items) good (by (image_fault (get_or files i d).items) refl)
  where
    by : (o : Option ℕ) → image_fault (get_or files i d).items ≡ o → image_fault (get_or files i d).items ≡ None
    by None e = e
    by (Some f) e = let none : None ≡ Some (refusal.Image number f) = judged ∙ ap (λ b. option_map (refusal.Image number) (image_fault b)) is ∙ ap (option_map (refusal.Image number)) e in absurd (cc)

pub loaded_then : (files : List (Vec ℕ Global)) (i : ℕ) (d : Vec ℕ Global) (bytes : List ℕ) (images : List Loaded) (image : Loaded) → i < length files
    → AreLoaded (map (λ v. v.items) (take i files)) images → bytes ≡ (get_or files i d).items → loads bytes ≡ Some image
    → AreLoaded (map (λ v. v.items) (take (i + 1) files)) (images ++ image ∷ [])
loaded_then files i d bytes images image few before is one =
    let more : map (λ (v : Vec ℕ Global). v.items) (take (i + 1) files) ≡ map (λ (v : Vec ℕ Global). v.items) (take i files) ++ (get_or files i d).items ∷ [] =
    ap (map (λ (v : Vec ℕ Global). v.items)) (take_get files i d few) ∙ map-append (λ (v : Vec ℕ Global). v.items) (take i files) (get_or files i d ∷ []) in
    subst (λ fs. AreLoaded fs (images ++ image ∷ [])) (sym more)
    (loaded_more (map (λ v. v.items) (take i files)) images ((get_or files i d).items) image before (ap loads (sym is) ∙ one))
