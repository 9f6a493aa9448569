use Rattle.std.proofs.Common.{◌≡◌, ◌-◌, ◌++◌, take, drop, replicate, length, length-drop, ap, sym, ◌∙◌, arith}
use Rattle.std.proofs.lemmas.List.{drop-replicate, take_all, length-replicate}
use Rattle.lfs_format.specs.declared.Entry.{Entry}
use Rattle.lfs_layout.specs.Made.{all_files, entries_for, no_entry}
use Rattle.lfs_layout.proofs.FilesRead.{length_all_files}
use Rattle.lfs_layout.proofs.directory.make_entries.Goals as goal

pub returns-clause-items : goal.returns-clause-items
returns-clause-items c =
    let xs = c.args.files.now in let n = length xs in let l = length_all_files xs in
    let old = c.in_ok-entries.entries.items in
    let cut : (e : Entry) → take (78 - n) (drop n (replicate 78 e)) ≡ drop n (replicate 78 e) = λ e.
    take_all (78 - n) (drop n (replicate 78 e)) (let d = length-drop n (replicate 78 e) in let r = length-replicate 78 e in omega (arith, d, r)) in
    let items : c.extend_from_slice.new.self.items ≡ old ++ take (78 - n) (drop n (replicate 78 c.empty_entry-blanks.result)) = c.in_ok-extend_from_slice.ensures.items in
    items ∙ ap (λ es. old ++ es) (cut c.empty_entry-blanks.result) ∙ ap (λ (e : Entry). old ++ drop n (replicate 78 e)) c.empty_entry-blanks.ensures
    ∙ ap (λ es. old ++ es) (drop-replicate n 78 no_entry) ∙ ap (λ es. es ++ replicate (78 - n) no_entry) c.in_ok-entries.ensures.items
    ∙ ap (λ k. entries_for 0 (all_files xs) ++ replicate (78 - k) no_entry) (sym l)
