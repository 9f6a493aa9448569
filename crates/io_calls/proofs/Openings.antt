-- What `open` comes to, by its texts.
use Rattle.std.proofs.Common.{◌≡◌, ◌∙◌, ℕ, List, Option, Some, sym, ap}
use Rattle.xinu_base.specs.declared.devices.Kind.{Kind}
use Rattle.xinu_model.specs.Devices.Calls.{open_as, open_with}
use Rattle.xinu_model.specs.Machine.{Xinu}

-- Both texts are there.
pub by_texts : (k : Kind) (a b : Option (List ℕ)) (name mode : List ℕ) (s : Xinu) → a ≡ Some name → b ≡ Some mode
    → open_as k name mode s ≡ open_with k a b s
by_texts k a b name mode s e f = sym (ap (λ a. open_with k a b s) e ∙ ap (λ b. open_with k (Some name) b s) f)
