use Rattle.std.proofs.Common.{◌≡◌, ◌∙◌, ◌∷◌, [], ℕ, List, Bor, Vec, Global, ap, arith, length, map, rules, subst, sym}
use Rattle.std.specs.Prelude.{Err, Ok}
use Rattle.std.proofs.lemmas.List.{length-append, length-map, map-append}
use Rattle.run_inputs.specs.Causes.{refusal_in, refused}
use Rattle.run_inputs.specs.InputFaults.{have_fault}
use Rattle.run_inputs.specs.Reading.{ReadsImages}
use Rattle.run_inputs.specs.declared.refusals.Refusal.TheVariants as refusal
use Rattle.run_inputs.proofs.ImageFiles.{empty_slice, first_and_rest, image_bad, image_then, image_unfetched, image_unkept, images_done, judged_good, rest_length}
use Rattle.run_inputs.proofs.GoodImages.{good_more}
use Rattle.run_inputs.proofs.Named.{images_refused_as, judged_last}
use Rattle.run_inputs.proofs.inputs.+fetch_images.Goals as goal

-- the bytes of files
abbrev bytes_of : Vec (Vec ℕ Global) Global → List (List ℕ)
bytes_of files = map (λ v. v.items) files.items

pub returns-in-Err-clause-reads : goal.returns-in-Err-clause-reads
returns-in-Err-clause-reads g t c =
    let h = g.H.Host.view c.args.host.now in
    let k = g.H.Host.view c.fetch_file.new.host in
    let files = bytes_of c.args.files in
    let r = c.in-Err.refusal in
    subst (λ (names : List (Bor (List ℕ))). ReadsImages bytes_of files (map (λ s. s.now) names) (Err (refusal_in c.unread.result)) h k) (sym (first_and_rest c.args.names.now _ c.in-len1-up.len_at_least))
    (images_refused_as bytes_of files _ _ r h k c.unread.ensures.refusal
    (image_unfetched bytes_of files _ _ r h k c.in-Err.ensures.cause c.in-Err.ensures.fetches))

pub returns-in-Err-judge-clause-reads : goal.returns-in-Err-judge-clause-reads
returns-in-Err-judge-clause-reads g t c =
    let h = g.H.Host.view c.args.host.now in
    let k = g.H.Host.view c.fetch_file.new.host in
    let files = bytes_of c.args.files in
    let r = c.in-Err-judge.refusal in
    subst (λ (names : List (Bor (List ℕ))). ReadsImages bytes_of files (map (λ s. s.now) names) (Err r) h k) (sym (first_and_rest c.args.names.now _ c.in-len1-up.len_at_least))
    (image_bad bytes_of files _ _ c.as_slice.result.now c.in-Ok.file.items _ r h k c.in-Ok.ensures.bytes
    c.in-Ok.ensures.fetches c.in-Err-judge.ensures.judged c.as_slice.ensures.value
    (omega (arith, c.len.ensures, c.requires.few, length-map c.args.files.items (λ v. v.items))))

pub returns-in-Err-judge-clause-last : goal.returns-in-Err-judge-clause-last
returns-in-Err-judge-clause-last g t c = judged_last _ _ c.in-Err-judge.refusal (g.H.Host.view c.fetch_file.new.host) c.in-Err-judge.ensures.judged

pub fetch_images-requires : goal.fetch_images-requires
fetch_images-requires g t c κs within =
    let file = c.in-Ok.file in
    let files = bytes_of c.args.files in
    let added = ap (map (λ v. v.items)) c.in-Ok-push.ensures.items ∙ map-append (λ v. v.items) c.args.files.items (file ∷ []) in
    let fine = judged_good _ c.as_slice.result.now file.items c.in-Ok-judge.ensures.judged c.as_slice.ensures.value in
    let longer = ap length c.in-Ok-push.ensures.items ∙ length-append c.args.files.items (file ∷ []) in
    let shorter = rest_length c.args.names.now c.in-len1-up.len_at_least in (
      search (rules, shorter),
      (
        search rules,
        (omega (arith, longer, shorter, c.requires.few), ap have_fault added ∙ good_more files file.items c.requires.good fine),
      ),
    )

pub returns-in-empty-clause-reads : goal.returns-in-empty-clause-reads
returns-in-empty-clause-reads g t c =
    let h = g.H.Host.view c.args.host.now in
    let files = bytes_of c.args.files in
    let none : c.args.names.now ≡ [] = empty_slice c.args.names.now c.in-empty.len_below in
    subst (λ (names : List (Bor (List ℕ))). ReadsImages bytes_of files (map (λ s. s.now) names) (Ok c.args.files) h h) (sym none)
    (images_done bytes_of files c.args.files h (search rules))

pub returns-in-Ok-push-clause-reads : goal.returns-in-Ok-push-clause-reads
returns-in-Ok-push-clause-reads g t c =
    let h = g.H.Host.view c.args.host.now in
    let j = g.H.Host.view c.fetch_file.new.host in
    let k = g.H.Host.view c.fetch_images.new.host in
    let file = c.in-Ok.file in
    let files = bytes_of c.args.files in
    let added = ap (map (λ v. v.items)) c.in-Ok-push.ensures.items ∙ map-append (λ v. v.items) c.args.files.items (file ∷ []) in
    let fine = judged_good _ c.as_slice.result.now file.items c.in-Ok-judge.ensures.judged c.as_slice.ensures.value in
    subst (λ (names : List (Bor (List ℕ))). ReadsImages bytes_of files (map (λ s. s.now) names) (refused c.fetch_images.result) h k) (sym (first_and_rest c.args.names.now _ c.in-len1-up.len_at_least))
    (image_then bytes_of files _ _ (bytes_of c.push.new.self) file.items added fine (refused c.fetch_images.result) h j k c.in-Ok.ensures.bytes
    c.in-Ok.ensures.fetches c.fetch_images.ensures.reads)

pub returns-clause-reads : goal.returns-clause-reads
returns-clause-reads g t c =
    let h = g.H.Host.view c.args.host.now in
    let k = g.H.Host.view c.fetch_file.new.host in
    let files = bytes_of c.args.files in
    subst (λ (names : List (Bor (List ℕ))). ReadsImages bytes_of files (map (λ s. s.now) names) (Err refusal.NoMemory) h k) (sym (first_and_rest c.args.names.now _ c.in-len1-up.len_at_least))
    (image_unkept bytes_of files _ _ h k c.in-Ok.ensures.fetches)
