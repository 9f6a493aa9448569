use Rattle.std.proofs.Common.{◌∙◌, ap, length, ℕ, List}
use Rattle.reference_files.specs.Sizes.{is_room, written_size}
use Rattle.reference_files.proofs.RoomBySize.{room_by_size}
use Rattle.xinu_model.specs.Files.Systems.{OpenFile}
use Rattle.reference_files.proofs.room.have_room.Goals as goal

pub returns : goal.returns
returns c =
    let f = c.args.f.now in
    let s = c.args.s.now in
    let n = length c.args.new.now in
    let size = c.written_size-after.ensures.size ∙ ap (λ (x : OpenFile). written_size x.position n c.args.size) c.f.view_is
    ∙ ap (λ k. written_size f.position n k) c.requires.size in
    record {
      room = c.is_room.ensures.room
          ∙ ap (λ (l : List ℕ). is_room l c.written_size-after.result s) (c.deref.ensures.value ∙ ap (λ (x : OpenFile). x.name) c.f.view_is)
          ∙ ap (λ k. is_room f.name k s) size ∙ room_by_size f c.args.new.now s;
    }
