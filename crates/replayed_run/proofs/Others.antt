-- An event that printed something else than before.
use Rattle.std.proofs.Common.{◌≡◌, ◌∙◌, ℕ, List, length, Option, Some, sym, ap, subst, arith}
use Rattle.std.specs.Prelude.{slice_get}
use Rattle.replayed_run.specs.Lines.{IsPrinted}
use Rattle.replayed_run.proofs.Kept.{kept-is, kept-length}
use Rattle.replayed_run.specs.Progress.{PrintsOther}
use Rattle.replayed_run.specs.Replayed.{Replayed}
use Rattle.replayed_run.specs.Texts.{WasOther, kept}
use Rattle.replayed_run.specs.Told.{text_at}
use Rattle.replayed_run.specs.declared.texts.Texts.{Texts}
use Rattle.xinu_base.specs.declared.events.Event.{Event}

-- what is kept of it is none of what it printed
pub other-told : (t : Texts) (r s : Replayed) (event : Event) (printed : Option (List ℕ)) → r.told ≡ kept t t.far → slice_get r.events r.taken ≡ Some event
    → IsPrinted r.state event s.state printed → WasOther r.known t r.taken printed → PrintsOther r s
other-told t r s event printed told next happens was = record {
  event = event;
  next = next;
  printed = was.bytes;
  happens = subst (λ (p : Option (List ℕ)). IsPrinted r.state event s.state p) was.now happens;
  known = was.known;
  before =
      (let before = was.differs.before in let many : length r.told ≡ t.far = ap length told ∙ kept-length t t.far in omega (arith, before, many));
  other = λ same.
      was.differs.other
      (sym (kept-is t r.taken t.far was.differs.before) ∙ sym (ap (λ (l : List (List ℕ)). text_at l r.taken) told) ∙ same);
}
