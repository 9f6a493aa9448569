-- What several calls of a printer do to the outside, one after another.
use Rattle.std.specs.Prelude.{ℕ, ◌≡◌, ◌+◌, ◌≤◌, ◌⊎◌, min, take, length, List, [], ◌∷◌, ◌++◌, Option, Some, None, IsSome, refl}
use Rattle.std.proofs.Common.{sym, ◌∙◌, ap, arith, inl, inr, append_assoc}
use Rattle.std.proofs.lemmas.Grind.{common_steps}
use Rattle.std.proofs.Math.Seq.{take-append-add}
use Rattle.host_port.specs.declared.host.Channel.TheVariants.{Out}
use Rattle.host_port.specs.declared.host.HostFault.{HostFault}
use Rattle.host_port.specs.declared.host.HostFault.TheVariants.{Failed}
use Rattle.host_port.specs.Outside.{Outside, grown, appended, counted}
use Rattle.host_port.specs.HostCalls.{Rose}
use Rattle.host_port.specs.Printing.{Printing, Prints}

-- what grows twice grows by both parts
pub grown-grown : {T : Type 0} (o : Option (List T)) (s t : List T) → grown (grown o s) t ≡ grown o (s ++ t)
grown-grown None s t = refl
grown-grown (Some x) s t = ap Some (append_assoc x s t)

-- what grows by nothing stays
pub grown-nil : {T : Type 0} (o : Option (List T)) → grown o [] ≡ o
grown-nil None = refl
grown-nil (Some x) = ap Some (grind (arith, common_steps))

-- two emissions are one of both texts
pub emitted_twice : (h i j : Outside) (s t : List ℕ) (m n : ℕ) → i ≡ counted (appended h Out s) m → j ≡ counted (appended i Out t) n → j ≡ counted (appended h Out (s ++ t)) n
emitted_twice h i j s t m n first second =
    second ∙ ap (λ (x : Outside). counted (appended x Out t) n) first
    ∙ ap (λ (o : Option (List ℕ)). counted (record h { out = o }) n) (grown-grown h.out s t)

-- if nothing is changed, nothing was emitted
pub emitted_nothing : (h : Outside) → h ≡ counted (appended h Out []) h.faults
emitted_nothing h = ap (λ (o : Option (List ℕ)). record h { out = o }) (sym (grown-nil h.out))

-- a prefix that ends in the first text is a prefix of both
take_before : (s t : List ℕ) (n : ℕ) → take (min n (length s)) (s ++ t) ≡ take n s
take_before s t n = grind (arith, common_steps)

-- of two texts that were printed one after another a prefix was emitted
part_of_both : (b : Printing) (h i j : Outside) (s t : List ℕ) (f : Option HostFault) → b.failure ≡ f → ((b.failure ≡ None) → i ≡ counted (appended h Out s) i.faults) → ((n : ℕ) × (i ≡ counted (appended h Out (take n s)) i.faults)) → ((n : ℕ) × (j ≡ counted (appended i Out (take n t)) j.faults)) → (IsSome b.failure → j ≡ i) → (n : ℕ) × (j ≡ counted (appended h Out (take n (s ++ t))) j.faults)
part_of_both b h i j s t None is whole first second stays =
    (length s + second.0, rw (take-append-add s t second.0) (emitted_twice h i j s (take second.0 t) i.faults j.faults (whole is) second.1))
part_of_both b h i j s t (Some fault) is whole first second stays =
    let same : j ≡ i = stays (rw is refl) in
    (min first.0 (length s), rw (take_before s t first.0, same) first.1)

-- a failure after two calls came with a fault in one of them, or before both
either_cause : (a b c : Option HostFault) (x y z : ℕ) → x ≤ y → y ≤ z → ((b ≡ Some Failed) → (a ≡ Some Failed) ⊎ Rose x y) → ((c ≡ Some Failed) → (b ≡ Some Failed) ⊎ Rose y z) → (c ≡ Some Failed) → (a ≡ Some Failed) ⊎ Rose x z
either_cause a b c x y z le le' first second is =
    elim (second is) [
      | inl was ↦ elim (first was) [ inl had ↦ inl had | inr rose ↦ inr (omega arith) ]
      | inr rose ↦ inr (omega arith)
    ]

-- two texts that are empty together are empty each
both_empty : (s t : List ℕ) → s ++ t ≡ [] → (s ≡ []) × (t ≡ [])
both_empty [] t none = (refl, none)
both_empty (b ∷ s) t none = cc

-- what is printed by two calls, one after another
pub prints_both : (a b c : Printing) (h i j : Outside) (s t : List ℕ) → Prints a b h i s → Prints b c i j t → Prints a c h j (s ++ t)
prints_both a b c h i j s t first second = record {
  mode = second.mode ∙ first.mode;
  whole = λ none. let w = second.whole none in let v = first.whole w.0 in (v.0, emitted_twice h i j s t i.faults j.faults v.1 w.1);
  part = part_of_both b h i j s t b.failure refl (λ none. (first.whole none).1) first.part second.part (λ some. (second.stays some).1);
  stays = λ some. let before = first.stays some in
      let after = second.stays (let e : b ≡ a = before.0 in rw e some) in
      (after.0 ∙ before.0, after.1 ∙ before.1);
  nothing = λ none. let empty = both_empty s t none in
      let before = first.nothing empty.0 in
      let after = second.nothing empty.1 in
      (after.0 ∙ before.0, after.1 ∙ before.1);
  later = omega (arith, first.later, second.later);
  cause = either_cause a.failure b.failure c.failure h.faults i.faults j.faults first.later second.later first.cause second.cause;
}

-- a printer leaves all of the outside but what was emitted on `Out` and the count of faults
pub prints_leaves : (a b : Printing) (h i : Outside) (s : List ℕ) → Prints a b h i s → i ≡ record h { out = i.out; faults = i.faults }
prints_leaves a b h i s prints =
    prints.part.1 ∙ ap (λ (o : Option (List ℕ)). record h { out = o; faults = i.faults }) (sym (ap (λ (x : Outside). x.out) prints.part.1))

-- what is printed by no call
pub prints_nothing : (a : Printing) (h : Outside) → Prints a a h h []
prints_nothing a h = record {
  mode = refl;
  whole = λ none. (none, emitted_nothing h);
  part = (0, emitted_nothing h);
  stays = λ some. (refl, refl);
  nothing = λ none. (refl, refl);
  later = omega arith;
  cause = λ is. inl is;
}
