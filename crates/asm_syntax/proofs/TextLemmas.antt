-- One byte of a text.
use Rattle.std.proofs.Common.{◌≡◌, ℕ, true, false, List, [], Option, Some, None, refl, ap, ◌∙◌}
use Rattle.std.specs.Prelude.{is_some, unwrap_or}
use Rattle.asm_syntax.specs.Texts.{byte_before}
use Rattle.asm_syntax.specs.Meanings.{DotAscii}
use Rattle.asm_syntax.specs.Statements.{Bytes, Malformed, made_of}
use Rattle.asm_syntax.specs.Values.{AllFit, both, text_fit}

-- a byte before others
byte_before-some : (b : ℕ) (bytes : Option (List ℕ)) → is_some (byte_before (Some b) bytes) ≡ is_some bytes
byte_before-some b None = refl
byte_before-some b (Some bytes) = refl

pub text-rest : (b : ℕ) (all rest : Option (List ℕ)) → all ≡ byte_before (Some b) rest → is_some all ≡ is_some rest
text-rest b all rest is = ap (λ (o : Option (List ℕ)). is_some o) is ∙ byte_before-some b rest

-- a text that stands for bytes, and one that doesn't
pub text-made : (bytes : Option (List ℕ)) → is_some bytes ≡ true → Bytes (unwrap_or bytes []) ≡ made_of DotAscii (both (text_fit bytes) (AllFit []))
text-made None is = cc
text-made (Some bytes) is = refl

pub text-malformed : (bytes : Option (List ℕ)) → is_some bytes ≡ false → Malformed ≡ made_of DotAscii (both (text_fit bytes) (AllFit []))
text-malformed None is = refl
text-malformed (Some bytes) is = cc
