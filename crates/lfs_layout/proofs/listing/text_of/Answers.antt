use Rattle.std.proofs.Common.{◌≡◌, ◌≢◌, ℕ, ◌+◌, ◌<◌, true, false, cond, not, nat_eq, List, [], ◌∷◌, ◌++◌, length, get_or, take, drop, sym, ap, ◌∙◌, arith, length-take}
use Rattle.std.proofs.lemmas.List.{drop_more, take_more}
use Rattle.std.proofs.lemmas.Bool.Decides.{nat_tests}
use Rattle.lfs_check.specs.Rules.{text_length}
use Rattle.lfs_layout.proofs.listing.text_of.Goals as goal

-- a zero ends the text
text_ends : (name : List ℕ) (i : ℕ) → i < length name → get_or name i 0 ≡ 0 → text_length (drop i name) ≡ 0
unfolding text_length
text_ends name i h e =
    let t : not (nat_eq (get_or name i 0) 0) ≡ false = grind (arith, nat_tests) in
    ap text_length (drop_more name i 0 h) ∙ ap (λ v. cond v (1 + text_length (drop (i + 1) name)) 0) t

-- another byte goes on
text_goes_on : (name : List ℕ) (i : ℕ) → i < length name → get_or name i 0 ≢ 0 → text_length (drop i name) ≡ 1 + text_length (drop (i + 1) name)
unfolding text_length
text_goes_on name i h n =
    let t : not (nat_eq (get_or name i 0) 0) ≡ true = grind (arith, nat_tests) in
    ap text_length (drop_more name i 0 h) ∙ ap (λ v. cond v (1 + text_length (drop (i + 1) name)) 0) t

pub returns-then-byte-eq0 : goal.returns-then-byte-eq0
returns-then-byte-eq0 c =
    let n = c.args.name.now in let i = c.loop-byte.byte-index in
    let z = text_ends n i (omega arith) c.if-byte-eq0.true in let r = c.loop-byte.invariant.rest in
    c.loop-byte.invariant.items ∙ ap (λ k. take k n) (let e : i ≡ text_length n = omega (arith, z, r) in e)

pub push-requires : goal.push-requires
push-requires c =
    let n = c.args.name.now in let i = c.loop-byte.byte-index in
    let m = text_goes_on n i (omega arith) c.if-byte-eq0.false in let r = c.loop-byte.invariant.rest in
    let l = ap length c.loop-byte.invariant.items in let t = length-take i n in let q = c.requires in
    (omega arith, omega (arith, m, r, l, t, q))

pub loop-byte-preserved : goal.loop-byte-preserved
loop-byte-preserved c =
    let n = c.args.name.now in let i = c.loop-byte.byte-index in
    let m = text_goes_on n i (omega arith) c.if-byte-eq0.false in let r = c.loop-byte.invariant.rest in
    record { items = c.push.ensures.items ∙ ap (λ xs. xs ++ get_or n i 0 ∷ []) c.loop-byte.invariant.items ∙ sym (take_more n i 0 (omega arith)); rest = omega (arith, m, r) }
