use Rattle.name_space.proofs.Times.{short_begins}
use Rattle.name_space.proofs.names.Names.map.Goals as goal

pub loop-left-init : goal.loop-left-init
loop-left-init c =
    let text = c.in_ok-text in
    short_begins c.args.self.now c.args.name.now text.text.items text.ensures.joined text.ensures.short
