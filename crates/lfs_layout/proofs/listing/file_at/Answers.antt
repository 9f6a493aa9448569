use Rattle.std.proofs.Common.{◌≡◌, List, ℕ, ap, sym, ◌∙◌, Some, None, is_some, slice_get}
use Rattle.std.specs.Option.{option_map}
use Rattle.lfs_format.specs.declared.Entry.{Entry}
use Rattle.lfs_layout.specs.Files.{bare_name, files_of, listing}
use Rattle.lfs_layout.proofs.Listed.{nth, listed_at, listed_within, nth_short}
use Rattle.lfs_layout.proofs.listing.file_at.Goals as goal

-- what is answered for an entry
abbrev shown : Entry → List ℕ × ℕ
shown e = (bare_name e.name, e.size)

pub text_of-requires : goal.text_of-requires
text_of-requires c =
    let image = c.args.image.now in
    nth_short image c.args.k c.in-Some.entry c.requires (sym (c.in-Some.ensures ∙ ap (λ es. nth es c.args.k) c.entries_in.ensures))

pub returns-in-Some : goal.returns-in-Some
returns-in-Some c =
    let files = files_of c.args.image.now in
    let at : slice_get (listing files) c.args.k ≡ Some (c.text_of.result.items, c.in-Some.entry.size) =
    listed_at c.args.image.now c.args.k c.requires ∙ sym (ap (option_map shown) (c.in-Some.ensures ∙ ap (λ es. nth es c.args.k) c.entries_in.ensures))
    ∙ ap (λ t. Some (t, c.in-Some.entry.size)) (sym c.text_of.ensures) in
    record { file = at; within = sym (ap is_some at) ∙ listed_within files c.args.k }

pub returns-in-None : goal.returns-in-None
returns-in-None c =
    let files = files_of c.args.image.now in
    let at : slice_get (listing files) c.args.k ≡ None =
    listed_at c.args.image.now c.args.k c.requires ∙ sym (ap (option_map shown) (c.in-None.ensures ∙ ap (λ es. nth es c.args.k) c.entries_in.ensures)) in
    record { file = at; within = sym (ap is_some at) ∙ listed_within files c.args.k }
