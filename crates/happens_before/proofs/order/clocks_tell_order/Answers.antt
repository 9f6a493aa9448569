use Rattle.happens_before.proofs.Before.{has_before}
use Rattle.happens_before.proofs.Telling.{before_has}
use Rattle.happens_before.proofs.order.clocks_tell_order.Goals as goal

pub returns : goal.returns
returns c = λ h m u n v sound some other. (has_before h sound m u n v some other, before_has h sound m u n v)
