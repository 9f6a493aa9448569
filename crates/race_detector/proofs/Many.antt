-- Edges are learnt one after another.
use Rattle.std.proofs.Common.{◌≡◌, ◌∙◌, ◌<◌, ◌+◌, ◌++◌, ℕ, List, [], ◌∷◌, length, get_or, slice_get, take, Some, add-one, ap, append_assoc, arith, refl, subst, sym}
use Rattle.std.proofs.Math.Seq.{take-suc}
use Rattle.std.proofs.lemmas.Option.{slice_get-get_or, slice_get_within}
use Rattle.std.proofs.lemmas.List.{append-nil, take_all}
use Rattle.happens_before.specs.Clocks.{Clock}
use Rattle.happens_before.specs.Histories.{Edge}
use Rattle.race_clocks.specs.Rows.{clock_at}
use Rattle.race_detector.specs.declared.detector.Detector.{Detector}
use Rattle.race_detector.specs.declared.known.Known.{Known}
use Rattle.race_detector.specs.Detects.{HasLearnt, IsSource}
use Rattle.race_detector.specs.Sources.{AreSources}

-- The first i edges are learnt, and nothing else is changed.
pub record Learning (known : List Known) (i : ℕ) (old new : Detector) : Type 0 where
  pub kept : new.clocks.parts ≡ old.clocks.parts
  pub entries : new.entries ≡ old.entries
  pub told : new.told ≡ old.told
  pub learnt : (parts : ℕ → ℕ → Clock) (before : ℕ → Clock) (done more : List Edge) → AreSources parts more known old
      → HasLearnt parts before done old → HasLearnt parts before (done ++ take i more) new

no_edge : Edge
no_edge = record { event = 0; source = 0; target = 0 }

-- a kept clock stays a source's
source_stays : (parts : ℕ → ℕ → Clock) (e : Edge) (name : ℕ) (old new : Detector) → new.clocks.parts ≡ old.clocks.parts
    → IsSource parts e name old → IsSource parts e name new
source_stays parts e name old new same is = record { clock = λ u. ap (λ (rows : List (List ℕ)). clock_at rows name u) same ∙ is.clock u }

pub none_learnt : (known : List Known) (x : Detector) → Learning known 0 x x
none_learnt known x = record { kept = refl; entries = refl; told = refl; learnt = λ parts before done more are has. rw (append-nil done) has }

pub one_learnt : (known : List Known) (i : ℕ) (o : Known) (old now new : Detector) → slice_get known i ≡ Some o → Learning known i old now
    → ((parts : ℕ → ℕ → Clock) (before : ℕ → Clock) (edges : List Edge) (e : Edge) → e.target ≡ o.process
    → IsSource parts e o.name now → HasLearnt parts before edges now → HasLearnt parts before (edges ++ e ∷ []) new)
    → new.clocks.parts ≡ now.clocks.parts → new.entries ≡ now.entries → new.told ≡ now.told → Learning known (i + 1) old new
one_learnt known i o old now new is so_far learns parts_stay entries told = record {
  kept = parts_stay ∙ so_far.kept;
  entries = entries ∙ so_far.entries;
  told = told ∙ so_far.told;
  learnt = λ parts before done more are has.
      let e : Edge = get_or more i no_edge in
      let low : i < length more = omega (arith, slice_get_within known i o is, are.size) in
      let at : slice_get more i ≡ Some e = slice_get-get_or more i no_edge low in
      let P : List Edge → Type 0 = λ edges. HasLearnt parts before edges new in
      let source = source_stays parts e o.name old now so_far.kept (are.source i e o at is) in
      subst P (append_assoc done (take i more) (e ∷ []) ∙ ap (λ l. done ++ l) (sym (ap (λ k. take k more) (add-one i) ∙ take-suc more i no_edge low)))
      (learns parts before (done ++ take i more) e (are.target i e o at is) source (so_far.learnt parts before done more are has));
}

pub all_learnt : (known : List Known) (i : ℕ) (old new : Detector) → i ≡ length known → Learning known i old new
    → (parts : ℕ → ℕ → Clock) (before : ℕ → Clock) (done more : List Edge) → AreSources parts more known old
    → HasLearnt parts before done old → HasLearnt parts before (done ++ more) new
all_learnt known i old new last so_far parts before done more are has =
    let P : List Edge → Type 0 = λ edges. HasLearnt parts before (done ++ edges) new in
    subst P (take_all i more (omega (arith, are.size))) (so_far.learnt parts before done more are has)
