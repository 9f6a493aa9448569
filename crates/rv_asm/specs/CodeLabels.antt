-- The labels of the code.
use Rattle.std.specs.Prelude.{ℕ, List, Option}
use Rattle.std.specs.Str.{bytes_eq}
use Rattle.std.specs.HashMap as hash
use Rattle.rv_asm.specs.declared.labels.Labels.{Labels}

-- the address that the code finds for a name
abbrev pub found : Labels → List ℕ → Option ℕ
found labels name = hash.get_by (λ k. bytes_eq name k.now) labels.addresses
