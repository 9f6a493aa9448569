use Rattle.std.proofs.Common.{Some, ap, sym, ◌∙◌}
use Rattle.std.specs.Option.{option_map}
use Rattle.lfs_check.specs.Fields.{fields_of, directory_entries}
use Rattle.lfs_layout.specs.Files.{content_of, entry_named}
use Rattle.lfs_layout.proofs.FilesSet.{bytes_named}
use Rattle.lfs_layout.proofs.reading.read_named.Goals as goal

pub returns-in-None : goal.returns-in-None
returns-in-None c =
    let g = c.args.geometry in let image = c.args.image.now in let name = c.args.name.now in let ix = (fields_of g image).indexes in
    let es = c.deref.ensures.value ∙ c.in_ok-directory.ensures.entries in
    bytes_named g ix image name (directory_entries g image) ∙ ap (λ xs. option_map (content_of g ix image) (entry_named name xs)) (sym es) ∙ ap (option_map (content_of g ix image)) (sym c.in-None.ensures)

pub returns : goal.returns
returns c =
    let g = c.args.geometry in let image = c.args.image.now in let name = c.args.name.now in let ix = (fields_of g image).indexes in
    let es = c.deref.ensures.value ∙ c.in_ok-directory.ensures.entries in
    bytes_named g ix image name (directory_entries g image) ∙ ap (λ xs. option_map (content_of g ix image) (entry_named name xs)) (sym es) ∙ ap (option_map (content_of g ix image)) (sym c.in-Some.ensures)
    ∙ ap Some (sym (c.in_ok-bytes-in-Some.ensures ∙ ap (λ is. content_of g is image c.in-Some.entry) (c.as_slice.ensures.value ∙ c.in_ok-indexes-in-Some.ensures.items)))
