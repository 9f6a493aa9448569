use Rattle.std.proofs.Common.{◌∙◌, ap, ◌∷◌, [], refl}
use Rattle.std.specs.List.{flat_map}
use Rattle.byteorder.specs.Endian.{little_bytes}
use Rattle.lfs_format.specs.Words.{word_bytes}
use Rattle.lfs_format.specs.Directory.{entry_bytes}
use Rattle.lfs_format.proofs.Entries.{put_entry-is}
use Rattle.lfs_format.proofs.dirs.put_entry.Goals as goal

pub returns-clause-bytes : goal.returns-clause-bytes
unfolding entry_bytes word_bytes
returns-clause-bytes c =
    let w = c.args.entry.now in
    put_entry-is (w.size ∷ w.first ∷ []) c.args.part.now c.write_u32_into.new.dst c.copy_from_slice.new.self w.name (c.write_u32_into.ensures ∙ ap (flat_map (little_bytes 4)) c.words_of_entry.ensures.words) refl c.requires c.copy_from_slice.ensures.after
