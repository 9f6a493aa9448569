use Rattle.std.proofs.Common.{◌≡◌, ◌∙◌, ◌∷◌, ◌++◌, [], ap, rules, append_assoc, w16, List}
use Rattle.std.proofs.lemmas.Int.{to_z-of_z}
use Rattle.xinu_base.specs.Insert.{ready_insert}
use mir.Val.{SFits, of_z, to_z}
use Rattle.reference_tables.proofs.lists.join_ready.Goals as goal

-- a list in two parts around an entry
parts : {A : Type 0} (e : A) (new mid front behind rest b f : List A) → new ≡ mid ++ rest → mid ≡ front ++ e ∷ [] → rest ≡ behind
    → front ≡ f → behind ≡ b → new ≡ f ++ (e ∷ b)
parts e new mid front behind rest b f p q r s t = p ∙ ap (λ l. l ++ rest) q ∙ append_assoc front (e ∷ []) rest
    ∙ ap (λ l. front ++ (e ∷ l)) (r ∙ t) ∙ ap (λ l. l ++ (e ∷ b)) s

pub returns : goal.returns
returns c =
    let f : SFits w16 c.args.key = search rules in
    let z = to_z w16 (of_z w16 c.args.key) in
    let is : z ≡ c.args.key = to_z-of_z w16 c.args.key f in
    let e = parts (c.args.p, z) c.append.new.list.items c.push.new.list.items c.split_ready.new.list.items
    c.in_ok-behind.behind.items c.deref.result.now _ _ c.in_ok-append.ensures.appended c.in_ok-push.ensures.pushed
    c.deref.ensures.value c.in_ok-behind.ensures.before c.in_ok-behind.ensures.behind in
    record { joined = e ∙ ap (λ k. ready_insert c.args.p k c.args.list.now.items) is }
