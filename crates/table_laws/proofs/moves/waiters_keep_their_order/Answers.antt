use Rattle.table_laws.proofs.Frame.Order.{waiters_kept}
use Rattle.table_laws.proofs.moves.waiters_keep_their_order.Goals as goal

pub returns : goal.returns
returns c = λ mine asks t u sem frame o m fits. waiters_kept t u sem frame o m fits
