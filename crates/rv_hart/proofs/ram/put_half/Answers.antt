use Rattle.rv_hart.proofs.Written.{put_front}
use Rattle.rv_hart.proofs.ram.put_half.Goals as goal

pub returns : goal.returns
returns c = put_front c.args.at 2 c.args.bytes.now c.write_u16.new.buf _ c.requires c.write_u16.ensures
