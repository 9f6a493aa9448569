use Rattle.happens_before.proofs.Knowing.{goes_forward}
use Rattle.happens_before.proofs.order.order_goes_forward.Goals as goal

pub returns : goal.returns
returns c = λ h x y sound before. goes_forward h sound before
