-- No access is made.
use Rattle.race_detector.proofs.Pairs.{none_found}
use Rattle.race_detector.proofs.finding.gifts_tell_nothing.Goals as goal

pub returns : goal.returns
returns c = λ h n j first count told is finds. none_found h n j told (λ a made. cc (is, made)) finds
