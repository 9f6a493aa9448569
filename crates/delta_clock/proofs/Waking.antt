-- The sleepers that are due are taken out, one after another.
use Rattle.std.proofs.Common.{◌≡◌, ◌≢◌, ◌∙◌, ℕ, suc, ◌+◌, ◌≤◌, ℤ, pos, negsuc, ◌≤ℤ◌, true, false, not, cond, eqb, None, Some, List, [], ◌∷◌, ◌++◌, map, length, refl, sym, ap, subst, inl, inr, arith}
use Rattle.std.specs.List.{filter}
use Rattle.std.proofs.lemmas.Bool.{cases_eq}
use Rattle.std.proofs.lemmas.Bool.Decides.{nat_tests}
use Rattle.std.proofs.lemmas.Int.{ints}
use Rattle.std.proofs.lemmas.List.{append_assoc, set-get_or, set-set}
use Rattle.xinu_base.specs.declared.processes.Process.{Process}
use Rattle.queue_table.specs.declared.table.QueueTable.{QueueTable}
use Rattle.queue_table.specs.Table.{lists}
use Rattle.queue_table.specs.Lists.{Entry, IsDelta, KeysAtLeast, all_without, delays, list_at, place, with_list}
use Rattle.queue_table.proofs.Laws.{IsDelta-rest, below_P, first_placed, place-some, place_without_other, place_without_same}
use Rattle.xinu_model.specs.Clock.{due}
use Rattle.xinu_model.specs.Sound.Tables.{count_in}
use Rattle.process_core.specs.Fits.{Fits}
use Rattle.process_core.specs.Tables.{sleepers_of, wake_tick}
use Rattle.process_core.proofs.Lengths.{short}
use Rattle.process_core.proofs.Removals.{rest_is_without}
use Rattle.process_core.proofs.Steps.{fits_left}
use Rattle.process_core.proofs.Sleepers.{at_tick}
use Rattle.delta_clock.specs.Wakeups.{AreOut, not_due}
use Rattle.delta_clock.proofs.Delays.{sleeping_not_ready}

-- a later tick is another
later_tick : (t : ℕ) (z : ℤ) → pos 1 ≤ℤ z → eqb (wake_tick t z) t ≡ false
later_tick t (pos n) h = grind (arith, ints, nat_tests)
later_tick t (negsuc n) h = absurd (omega (arith, ints, h))

-- nobody is due if each delay is at least 1
none_of_later : (t : ℕ) (l : List Entry) → KeysAtLeast (pos 1) l → due t (map (at_tick t) l) ≡ []
none_of_later t [] h = refl
none_of_later t (e ∷ l) h =
    ap (λ b. map (λ (x : ℕ × ℕ). x.0) (cond b (at_tick t e ∷ filter (λ (x : ℕ × ℕ). eqb x.1 t) (map (at_tick t) l))
    (filter (λ (x : ℕ × ℕ). eqb x.1 t) (map (at_tick t) l)))) (later_tick t e.1 h.0)
    ∙ none_of_later t l h.1

-- and all stay
all_of_later : (t : ℕ) (l : List Entry) → KeysAtLeast (pos 1) l → not_due t (map (at_tick t) l) ≡ map (at_tick t) l
all_of_later t [] h = refl
all_of_later t (e ∷ l) h =
    ap (λ b. cond (not b) (at_tick t e ∷ not_due t (map (at_tick t) l)) (not_due t (map (at_tick t) l))) (later_tick t e.1 h.0)
    ∙ ap (λ m. at_tick t e ∷ m) (all_of_later t l h.1)

pub none_due : (t : ℕ) (l : List Entry) → KeysAtLeast (pos 1) (delays l) → due t (sleepers_of t l) ≡ []
none_due t l h = none_of_later t (delays l) h

pub all_later : (t : ℕ) (l : List Entry) → KeysAtLeast (pos 1) (delays l) → not_due t (sleepers_of t l) ≡ sleepers_of t l
all_later t l h = all_of_later t (delays l) h

-- a first entry with key 0 is due
first_due : (t p : ℕ) (l : List Entry) → due t (sleepers_of t ((p, pos 0) ∷ l)) ≡ p ∷ due t (sleepers_of t l)
unfolding delays
first_due t p l =
    let b : eqb (t + 0) t ≡ true = grind (arith, nat_tests) in
    ap (λ b. map (λ (x : ℕ × ℕ). x.0) (cond b ((p, t + 0) ∷ filter (λ (x : ℕ × ℕ). eqb x.1 t) (sleepers_of t l))
    (filter (λ (x : ℕ × ℕ). eqb x.1 t) (sleepers_of t l)))) b

first_not_due : (t p : ℕ) (l : List Entry) → not_due t (sleepers_of t ((p, pos 0) ∷ l)) ≡ not_due t (sleepers_of t l)
unfolding delays
first_not_due t p l =
    let b : eqb (t + 0) t ≡ true = grind (arith, nat_tests) in
    ap (λ b. cond (not b) ((p, t + 0) ∷ not_due t (sleepers_of t l)) (not_due t (sleepers_of t l))) b

-- a number that isn't in a list, nor put last into it
count-last : (q p : ℕ) (l : List ℕ) → count_in q l ≡ 0 → q ≢ p → count_in q (l ++ p ∷ []) ≡ 0
count-last q p [] h n = let b : eqb p q ≡ false = grind (arith, nat_tests) in ap (λ b. cond b 1 0) b
count-last q p (x ∷ l) h n = elim (cases_eq x q) [
  | inl e ↦ (let b : eqb x q ≡ true = grind (arith, nat_tests) in
      let z : suc (count_in q l) ≡ 0 = sym (ap (λ b. cond b (suc (count_in q l)) (count_in q l)) b) ∙ h in absurd (omega (arith, z)))
  | inr d ↦ (let b : eqb x q ≡ false = grind (arith, nat_tests) in
      let z : count_in q l ≡ 0 = sym (ap (λ b. cond b (suc (count_in q l)) (count_in q l)) b) ∙ h in
      ap (λ b. cond b (suc (count_in q (l ++ p ∷ []))) (count_in q (l ++ p ∷ []))) b ∙ count-last q p l z n)
]

-- one more is taken out
out-last : (ls ls' : List (List Entry)) (p : ℕ) (done : List ℕ) → AreOut ls done → place ls p ≡ Some 129
    → ((r : ℕ) → r ≢ p → place ls' r ≡ place ls r) → place ls' p ≡ None
    → AreOut ls' (done ++ p ∷ [])
out-last ls ls' p [] h at others out = (out, refl, tt)
out-last ls ls' p (q ∷ done) h at others out =
    let n : q ≢ p = λ e. (let c : None ≡ Some 129 = sym h.0 ∙ ap (place ls) e ∙ at in absurd (cc)) in
    (others q n ∙ h.0, count-last q p done h.1 n, out-last ls ls' p done h.2 at others out)

-- What holds while those who are due are taken out.
pub record IsWaking (ls0 : List (List Entry)) (ls : List (List Entry)) (done : List ℕ) (n : ℕ) : Type 0 where
  pub lists : ls ≡ with_list ls0 129 (list_at ls 129)
  pub woken : (tick : ℕ) → done ++ due tick (sleepers_of tick (list_at ls 129)) ≡ due tick (sleepers_of tick (list_at ls0 129))
  pub rest : (tick : ℕ) → not_due tick (sleepers_of tick (list_at ls 129)) ≡ not_due tick (sleepers_of tick (list_at ls0 129))
  pub delta : IsDelta (list_at ls 129)
  pub out : AreOut ls done
  pub fits : (ps : List Process) → Fits ls0 ps → Fits ls ps
  pub room : n + length (list_at ls 129) ≤ 64

-- one more has been taken out
pub one_woken : (ls0 : List (List Entry)) (t : QueueTable 64 130) (done : List ℕ) (n p : ℕ) (ls : List (List Entry))
    → IsWaking ls0 (lists t) done n → list_at (lists t) 129 ≡ (p, pos 0) ∷ list_at ls 129 → ls ≡ with_list (lists t) 129 (list_at ls 129)
    → IsWaking ls0 ls (done ++ p ∷ []) (n + 1)
one_woken ls0 t done n p ls w first is =
    let l = list_at ls 129 in
    let o : ls ≡ all_without p (lists t) = is ∙ rest_is_without t 129 (p, pos 0) l (omega arith) first in
    let at = (first_placed t 129 (p, pos 0) l (omega arith) first).0 in
    let F : List Entry → Type 0 = λ l. IsDelta l in
    record {
      lists = is ∙ ap (λ m. with_list m 129 l) w.lists ∙ set-set ls0 129 (list_at (lists t) 129) l;
      woken = λ tick. append_assoc done (p ∷ []) (due tick (sleepers_of tick l)) ∙ ap (λ m. done ++ m) (sym (first_due tick p l))
          ∙ ap (λ m. done ++ due tick (sleepers_of tick m)) (sym first) ∙ w.woken tick;
      rest = λ tick. sym (first_not_due tick p l) ∙ ap (λ m. not_due tick (sleepers_of tick m)) (sym first) ∙ w.rest tick;
      delta = IsDelta-rest (p, pos 0) l (subst F first w.delta);
      out = out-last (lists t) ls p done w.out at (λ r d. ap (λ m. place m r) o ∙ place_without_other (lists t) p r d)
          (ap (λ m. place m p) o ∙ place_without_same (lists t) p);
      fits = λ ps f. (let G : List (List Entry) → Type 0 = λ ls. Fits ls ps in
          let g = w.fits ps f in
          subst G (sym o) (fits_left (lists t) ps p g (below_P t p 129 (place-some (lists t) p 129 at).1)
          (sleeping_not_ready (lists t) ps p g at)));
      room = (let e : length (list_at (lists t) 129) ≡ suc (length l) = ap length first in omega (arith, e, w.room));
    }

-- nobody has been taken out yet
pub none_woken : (t : QueueTable 64 130) → IsDelta (list_at (lists t) 129) → IsWaking (lists t) (lists t) [] 0
none_woken t d = record {
  lists = sym (set-get_or (lists t) 129 []);
  woken = λ tick. refl;
  rest = λ tick. refl;
  delta = d;
  out = tt;
  fits = λ ps f. f;
  room = omega (arith, short t 129);
}
