-- The files of images, fetched and judged one after another.
use Rattle.std.proofs.Common.{◌≡◌, ◌≤◌, ◌<◌, ◌+◌, ◌-◌, ◌==◌, ◌∙◌, ◌++◌, inl, inr, ℕ, false, if◌then◌else◌, List, [], ◌∷◌, length, map, take, drop, get_or, Option, Some, None, refl, sym, ap, subst, arith, append_assoc, append-nil}
use Rattle.std.proofs.lemmas.List.{drop_more, length-append, take_all}
use Rattle.std.specs.Prelude.{Result, Ok, Err, IsErr, IsErrAnd, option_and_then, option_map}
use Rattle.command_line.specs.Reading.{Text}
use Rattle.elf_loader.specs.LoadedFiles.{loads}
use Rattle.host_port.specs.Outside.{Outside}
use Rattle.xinu_model.specs.Boot.{Loaded}
use Rattle.run_inputs.specs.Fetching.{FetchesFiles, IsFetched, IsOfHost}
use Rattle.run_inputs.specs.InputFaults.{have_fault, image_fault, images_loaded}
use Rattle.run_inputs.specs.InputFiles.{file_bytes, image_bytes}
use Rattle.run_inputs.specs.Judging.{Judged, Refused, images_judged}
use Rattle.run_inputs.specs.Reading.{AreJudged, IsAccepted, ReadsImages, images_left}
use Rattle.run_inputs.specs.declared.refusals.Refusal.{Refusal}
use Rattle.run_inputs.specs.declared.refusals.Refusal.TheVariants as refusal
use Rattle.run_inputs.proofs.DueFiles.{images_after, left_next, left_refused, none_left}
use Rattle.run_inputs.proofs.FetchedFiles.{fetched_as, fetched_ended, fetched_files, fetched_none, fetched_stopped, fetched_then}
use Rattle.run_inputs.proofs.GoodImages.{good_loads, good_parts}
use Rattle.run_inputs.proofs.InputFaults.{cases_fetched, image_fault-long}
use Rattle.run_inputs.proofs.JudgedFiles.{image_read, image_refused}

-- no file has no fault
pub no_files : have_fault [] ≡ false
unfolding have_fault
no_files = refl

-- ---- files one after another

next_file : {A : Type 0} (xs : List A) (k : ℕ) (x : A) → k < length xs → x ≡ get_or xs k x → drop k xs ≡ x ∷ drop (k + 1) xs
next_file xs k x within is = drop_more xs k x within ∙ ap (λ y. y ∷ drop (k + 1) xs) (sym is)

-- the file at k has no fault, and none after it has one
pub file_good : {A : Type 0} (f : A → List ℕ) (xs : List A) (k : ℕ) (x : A) → k < length xs → x ≡ get_or xs k x → have_fault (map f (drop k xs)) ≡ false
    → (image_fault (f x) ≡ None) × (have_fault (map f (drop (k + 1) xs)) ≡ false)
file_good f xs k x within is good =
    good_parts (f x) (map f (drop (k + 1) xs)) (sym (ap (λ ys. have_fault (map f ys)) (next_file xs k x within is)) ∙ good)

appended : (images : List Loaded) (image : Loaded) (more : Option (List Loaded))
    → option_map (λ m. images ++ m) (option_map (λ m. image ∷ m) more) ≡ option_map (λ m. (images ++ image ∷ []) ++ m) more
appended images image None = refl
appended images image (Some m) = ap Some (sym (append_assoc images (image ∷ []) m))

-- one more image, and those that are left
pub file_loaded : {A : Type 0} (f : A → List ℕ) (xs : List A) (k : ℕ) (x : A) (images : List Loaded) (image : Loaded) (all : Option (List Loaded)) → k < length xs → x ≡ get_or xs k x
    → loads (f x) ≡ Some image → option_map (λ more. images ++ more) (images_loaded (map f (drop k xs))) ≡ all
    → option_map (λ more. (images ++ image ∷ []) ++ more) (images_loaded (map f (drop (k + 1) xs))) ≡ all
file_loaded f xs k x images image all within is loaded so_far =
    let rest = images_loaded (map f (drop (k + 1) xs)) in
    sym (appended images image rest)
    ∙ sym (ap (λ o. option_map (λ m. images ++ m) (option_and_then (λ y. option_map (λ m. y ∷ m) rest) o)) loaded)
    ∙ sym (ap (λ ys. option_map (λ m. images ++ m) (images_loaded (map f ys))) (next_file xs k x within is)) ∙ so_far

-- a file without a fault isn't refused
pub file_unrefused : (bytes : List ℕ) → image_fault bytes ≡ None → loads bytes ≡ None → ⊥
file_unrefused bytes good none = (let loaded = (good_loads bytes good).1 in cc)

-- ---- the bytes of one image among those of all

-- these bytes for image i
abbrev with_bytes_of : ℕ → List ℕ → (ℕ → List ℕ) → ℕ → List ℕ
with_bytes_of i bytes unseen j = if j == i then bytes else unseen j

with_own : (i : ℕ) (bytes : List ℕ) (unseen : ℕ → List ℕ) → with_bytes_of i bytes unseen i ≡ bytes
with_own i bytes unseen = grind arith

with_other : (i j : ℕ) (bytes : List ℕ) (unseen : ℕ → List ℕ) → i < j → with_bytes_of i bytes unseen j ≡ unseen j
with_other i j bytes unseen less = grind arith

-- the images after image i are as they were
later_bytes : (i j : ℕ) (bytes : List ℕ) (unseen : ℕ → List ℕ) (names : List Text) (file : Text → Option (List ℕ)) → i < j
    → image_bytes j names file (with_bytes_of i bytes unseen) ≡ image_bytes j names file unseen
later_bytes i j bytes unseen [] file less = refl
later_bytes i j bytes unseen (name ∷ names) file less =
    let own : file_bytes (file name) (with_bytes_of i bytes unseen j) ≡ file_bytes (file name) (unseen j) = ap (file_bytes (file name)) (with_other i j bytes unseen less) in
    ap (λ b. b ∷ image_bytes (j + 1) names file (with_bytes_of i bytes unseen)) own
    ∙ ap (λ bs. file_bytes (file name) (unseen j) ∷ bs) (later_bytes i (j + 1) bytes unseen names file (omega arith))

-- what is left of a slice after its first element
pub rest_length : {A : Type 0} (xs : List A) → 1 ≤ length xs → length (take (length xs - 1) (drop 1 xs)) + 1 ≡ length xs
rest_length [] some = absurd (omega arith)
rest_length (x ∷ xs) some =
    let few : length xs ≤ length (x ∷ xs) - 1 = omega arith in
    let same : length (take (length (x ∷ xs) - 1) xs) ≡ length xs = ap length (take_all (length (x ∷ xs) - 1) xs few) in omega arith

-- a file that was judged without a fault
pub judged_good : (n : ℕ) (bytes items : List ℕ) → None ≡ option_map (refusal.Image n) (image_fault bytes) → bytes ≡ items → image_fault items ≡ None
judged_good n bytes items judged same = sym (ap image_fault same) ∙ fault_none (image_fault bytes) judged
  where
    fault_none : (f : Option ℕ) → None ≡ option_map (refusal.Image n) f → f ≡ None
    fault_none None is = refl
    fault_none (Some x) is = absurd (cc)

-- ---- one image

-- what holds of a refusal holds of a result that is this refusal
pub of_error : {T : Type 0} (r : Result T Refusal) (cause : Refusal) (P : Result T Refusal → Type 0) → IsErr r → IsErrAnd r (λ x. x ≡ cause) → P (Err cause) → P r
of_error (Ok m) cause P err is holds = absurd (cc)
of_error (Err x) cause P err is holds =
    let Q : Refusal → Type 0 = λ y. P (Err y) in subst Q (sym is) holds

-- a slice without elements
pub empty_slice : {A : Type 0} (xs : List A) → length xs < 1 → xs ≡ []
empty_slice [] less = refl
empty_slice (x ∷ xs) less = absurd (omega arith)

-- a slice that isn't empty is its first element and the others
pub first_and_rest : {A : Type 0} (xs : List A) (d : A) → 1 ≤ length xs → xs ≡ get_or xs 0 d ∷ take (length xs - 1) (drop 1 xs)
first_and_rest [] d some = absurd (omega arith)
first_and_rest (x ∷ xs) d some =
    let few : length xs ≤ length (x ∷ xs) - 1 = omega arith in
    ap (λ ys. x ∷ ys) (sym (take_all (length (x ∷ xs) - 1) xs few))

-- ---- one image, and those after it

-- What was fetched of an image file has the fault of the file, and is the whole file if it has none.
fault_fetched : (bytes items : List ℕ) → items ≡ take 1048577 bytes → image_fault bytes ≡ image_fault items
fault_fetched bytes items fetched =
    elim (cases_fetched bytes items 1048576 fetched) [
      | inl same ↦ ap image_fault same
      | inr long ↦ image_fault-long bytes long.0 ∙ sym (image_fault-long items long.1)
    ]

image_whole : (bytes items : List ℕ) → items ≡ take 1048577 bytes → image_fault items ≡ None → bytes ≡ items
image_whole bytes items fetched good =
    elim (cases_fetched bytes items 1048576 fetched) [
      | inl same ↦ same
      | inr long ↦ (let faulty : image_fault items ≡ Some 0 = image_fault-long items long.1 in cc)
    ]

-- Whatever comes after the images, it is accepted.
abbrev AreAccepted : (List Loaded → Judged) → Type 0
AreAccepted next = (images : List Loaded) → IsAccepted (next images)

module _ {T : Type 0} (files : T → List (List ℕ)) (before : List (List ℕ)) (name : Text) (names : List Text) where
  -- The next image is due, and then those that are left.
  due_next : (next : List Loaded → Judged) (bytes : List (List ℕ)) → AreAccepted next
      → images_left (length before) (name ∷ names) (images_judged (length before + 1) bytes next) ≡ (name ∷ []) ++ images_left (length before + 1) names (images_judged (length before + 1) bytes next)
  due_next next bytes accepted =
      left_next (length before) name names (images_judged (length before + 1) bytes next) (images_after (length before) (length before + 1) bytes next (omega arith) accepted)

  -- it was asked for, and then the host failed or memory ran out
  stopped : (unseen : ℕ → List ℕ) (r : Refusal) (h k : Outside) → IsOfHost r → FetchesFiles (name ∷ []) (Some r) h k → ReadsImages files before (name ∷ names) (Err r) h k
  stopped unseen refusal.HostFault h k cause f = record {
    unseen = unseen;
    answers = tt;
    fetches = λ next accepted.
        let bytes = image_bytes (length before + 1) (name ∷ names) h.file unseen in
        fetched_as _ _ (Some refusal.HostFault) h k (due_next next bytes accepted) (fetched_stopped (name ∷ []) _ refusal.HostFault h k cause f);
  }
  stopped unseen refusal.NoMemory h k cause f = record {
    unseen = unseen;
    answers = tt;
    fetches = λ next accepted.
        let bytes = image_bytes (length before + 1) (name ∷ names) h.file unseen in
        fetched_as _ _ (Some refusal.NoMemory) h k (due_next next bytes accepted) (fetched_stopped (name ∷ []) _ refusal.NoMemory h k cause f);
  }
  stopped unseen other h k cause f = absurd cause

  -- the host didn't fetch it
  pub image_unfetched : (r : Refusal) (h k : Outside) → IsOfHost r → FetchesFiles (name ∷ []) (Some r) h k → ReadsImages files before (name ∷ names) (Err r) h k
  image_unfetched = stopped (λ j. [])

  -- memory ran out after it
  pub image_unkept : (h k : Outside) → FetchesFiles (name ∷ []) None h k → ReadsImages files before (name ∷ names) (Err refusal.NoMemory) h k
  image_unkept h k f = stopped (λ j. []) refusal.NoMemory h k tt (fetched_ended (name ∷ []) (Some refusal.NoMemory) h k (λ is. cc) f)

  -- it has this fault
  bad : (items : List ℕ) (n fault : ℕ) (h k : Outside) → IsFetched 1048576 (h.file name) items → FetchesFiles (name ∷ []) None h k → image_fault items ≡ Some fault → n ≡ length before + 1
      → ReadsImages files before (name ∷ names) (Err (refusal.Image n fault)) h k
  bad items n fault h k fetched f is number =
      let bytes = image_bytes (length before + 1) (name ∷ names) h.file (λ j. items) in
      let same : image_fault (file_bytes (h.file name) items) ≡ Some fault = fault_fetched (file_bytes (h.file name) items) items fetched.front ∙ is in
      let refuses : (next : List Loaded → Judged) → images_judged (length before + 1) bytes next ≡ Refused (refusal.Image n fault) =
      λ next. image_refused (length before + 1) (file_bytes (h.file name) items) fault (image_bytes (length before + 1 + 1) names h.file (λ j. items)) next same
      ∙ ap (λ m. Refused (refusal.Image m fault)) (sym number) in record {
        unseen = λ j. items;
        answers = refuses;
        fetches = λ next accepted.
            fetched_as (name ∷ []) _ (Some (refusal.Image n fault)) h k
            (left_refused (length before) n name names (images_judged (length before + 1) bytes next) fault (refuses next) number)
            (fetched_ended (name ∷ []) (Some (refusal.Image n fault)) h k (λ failed. cc) f);
      }

  -- a refusal of an image names its fault
  pub image_bad : (bytes items : List ℕ) (n : ℕ) (r : Refusal) (h k : Outside)
      → IsFetched 1048576 (h.file name) items → FetchesFiles (name ∷ []) None h k → Some r ≡ option_map (refusal.Image n) (image_fault bytes) → bytes ≡ items → n ≡ length before + 1
      → ReadsImages files before (name ∷ names) (Err r) h k
  image_bad bytes items n r h k fetched f judged same number =
      by (image_fault items) refl (judged ∙ ap (λ (b : List ℕ). option_map (refusal.Image n) (image_fault b)) same)
    where
      by : (fault : Option ℕ) → image_fault items ≡ fault → Some r ≡ option_map (refusal.Image n) fault → ReadsImages files before (name ∷ names) (Err r) h k
      by None is other = absurd (cc)
      by (Some x) is other =
          let same_r : r ≡ refusal.Image n x = cc in
          subst (λ (c : Refusal). ReadsImages files before (name ∷ names) (Err c) h k) (sym same_r) (bad items n x h k fetched f is number)

  -- it was read, and then the images after it
  module _ (after : List (List ℕ)) (items : List ℕ) (added : after ≡ before ++ items ∷ []) (good : image_fault items ≡ None) where
    size : length after ≡ length before + 1
    size = ap length added ∙ length-append before (items ∷ [])

    module _ (h : Outside) (rest : ℕ → List ℕ) (fetched : IsFetched 1048576 (h.file name) items) where
      -- the bytes of this image and of those after it
      abbrev own : ℕ → List ℕ
      own = with_bytes_of (length before + 1) items rest

      -- those after it are as they were
      later_same : image_bytes (length before + 1 + 1) names h.file own ≡ image_bytes (length after + 1) names h.file rest
      later_same =
          later_bytes (length before + 1) (length before + 1 + 1) items rest names h.file (omega arith)
          ∙ ap (λ m. image_bytes (m + 1) names h.file rest) (sym size)

      -- this one is the whole file
      whole : image_bytes (length before + 1) (name ∷ names) h.file own ≡ items ∷ image_bytes (length after + 1) names h.file rest
      whole =
          ap (λ b. file_bytes (h.file name) b ∷ image_bytes (length before + 1 + 1) names h.file own) (with_own (length before + 1) items rest)
          ∙ ap (λ b. b ∷ image_bytes (length before + 1 + 1) names h.file own) (image_whole (file_bytes (h.file name) items) items fetched.front good)
          ∙ ap (λ bs. items ∷ bs) later_same

      -- so the rest is judged
      judged_rest : (next : List Loaded → Judged) (bytes : List (List ℕ)) → bytes ≡ image_bytes (length after + 1) names h.file rest
          → (image : Loaded) × (images_judged (length before + 1) (image_bytes (length before + 1) (name ∷ names) h.file own) next ≡ images_judged (length after + 1) bytes (λ images. next (image ∷ images)))
      judged_rest next bytes is =
          let image = good_loads items good in (
            image.0,
            ap (λ bs. images_judged (length before + 1) bs next) (whole ∙ ap (λ bs. items ∷ bs) (sym is))
                ∙ image_read (length before + 1) items image.0 bytes next (ap (option_map (refusal.Image (length before + 1))) good) image.1
                ∙ ap (λ m. images_judged (m + 1) bytes (λ images. next (image.0 ∷ images))) (sym size),
          )

      answers_then : (bytes : List (List ℕ)) (result : Result T Refusal) → bytes ≡ image_bytes (length after + 1) names h.file rest → AreJudged files after bytes result
          → AreJudged files before (image_bytes (length before + 1) (name ∷ names) h.file own) result
      answers_then bytes (Ok x) is answers =
          answers ∙ ap (λ bs. bs ++ bytes) added ∙ append_assoc before (items ∷ []) bytes ∙ ap (λ bs. before ++ bs) (ap (λ bs. items ∷ bs) is ∙ sym whole)
      answers_then bytes (Err (refusal.Image i f)) is answers = λ next. (let rest_is = judged_rest next bytes is in rest_is.1 ∙ answers (λ images. next (rest_is.0 ∷ images)))
      answers_then bytes (Err refusal.HostFault) is answers = tt
      answers_then bytes (Err refusal.NoMemory) is answers = tt
      answers_then bytes (Err other) is answers = absurd answers

    pub image_then : (result : Result T Refusal) (h j k : Outside)
        → IsFetched 1048576 (h.file name) items → FetchesFiles (name ∷ []) None h j → ReadsImages files after names result j k
        → ReadsImages files before (name ∷ names) result h k
    image_then result h j k fetched f rest =
        let bytes = image_bytes (length after + 1) names j.file rest.unseen in
        let is : bytes ≡ image_bytes (length after + 1) names h.file rest.unseen = ap (λ (file : Text → Option (List ℕ)). image_bytes (length after + 1) names file rest.unseen) (fetched_files (name ∷ []) None h j f) in record {
          unseen = own h rest.unseen fetched;
          answers = answers_then h rest.unseen fetched bytes result is rest.answers;
          fetches = λ next accepted.
              let all = image_bytes (length before + 1) (name ∷ names) h.file (own h rest.unseen fetched) in
              let rest_is = judged_rest h rest.unseen fetched next bytes is in
              let more : List Loaded → Judged = λ images. next (rest_is.0 ∷ images) in
              let same : images_left (length before + 1) names (images_judged (length before + 1) all next) ≡ images_left (length after) names (images_judged (length after + 1) bytes more) =
              ap (images_left (length before + 1) names) rest_is.1 ∙ ap (λ m. images_left m names (images_judged (length after + 1) bytes more)) (sym size) in
              fetched_as _ _ _ h k (due_next next all accepted ∙ ap (λ l. (name ∷ []) ++ l) same)
              (fetched_then (name ∷ []) _ _ h j k f (rest.fetches more (λ images. accepted (rest_is.0 ∷ images))));
        }

-- no image is left
pub images_done : {T : Type 0} (files : T → List (List ℕ)) (before : List (List ℕ)) (x : T) (h : Outside) → files x ≡ before → ReadsImages files before [] (Ok x) h h
images_done files before x h is = record {
  unseen = λ j. [];
  answers = is ∙ sym (append-nil before);
  fetches = λ next accepted. fetched_as [] _ None h h (none_left (length before) (next []) (accepted [])) (fetched_none h);
}
