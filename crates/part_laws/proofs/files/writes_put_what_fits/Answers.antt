use Rattle.std.proofs.Common.{sym, ap, ◌∙◌}
use Rattle.part_laws.proofs.FileSystems.Effects.{room_for_fitting}
use Rattle.part_laws.proofs.FileSystems.Written.{write_leaves, more_has_no_room, refused_has_no_room}
use Rattle.part_laws.proofs.files.writes_put_what_fits.Goals as goal
use Rattle.xinu_model.specs.Files.Systems.{on_open}
use Rattle.xinu_model.specs.Files.Writing.{write_file}

pub returns-clause-count : goal.returns-clause-count
returns-clause-count c = λ s d n k f bytes at e.
    (write_leaves s d f bytes k (sym (ap (λ x. (on_open x (λ f. write_file d bytes f s) s).reply) at) ∙ e)).count

pub returns-clause-room : goal.returns-clause-room
returns-clause-room c = λ s d f bytes sound at. room_for_fitting s sound d f at bytes

pub returns-clause-most : goal.returns-clause-most
returns-clause-most c = more_has_no_room

pub returns-clause-refused : goal.returns-clause-refused
returns-clause-refused c = λ s d n f bytes at may e.
    refused_has_no_room s d f bytes may (sym (ap (λ x. (on_open x (λ f. write_file d bytes f s) s).reply) at) ∙ e)
