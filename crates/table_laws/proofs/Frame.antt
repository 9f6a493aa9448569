-- What moves leave alone: some semaphores, by number and owner, and the processes in some calls.
pub mod MoveTo
pub mod Order
pub mod Semaphores
use Rattle.std.proofs.Common.{◌≡◌, ℕ, ◌<◌, Bool, true, false, cond, ◌&&◌, List, [], ◌∷◌, filter, length, Option, get_or, refl, sym, ap, subst, ◌∙◌}
use Rattle.std.proofs.lemmas.Bool.{false≢true, false_from_ne_true, and_from, and_parts, cond-false}
use Rattle.xinu_base.specs.declared.processes.Rest.{Rest}
use Rattle.xinu_base.specs.declared.semaphores.Owner.{Owner}
use Rattle.table_laws.specs.Frame.{waits_at, Frame, StillWait}
use Rattle.xinu_model.specs.Sound.Tables.{count_in}
use Rattle.xinu_model.specs.Sound.Pools.{is_waiting}
use Rattle.xinu_model.specs.Tables.{no_process, no_semaphore, Tables, process_at, semaphore_at}

-- one more element of a list that is filtered twice
filter_step : {A : Type 0} (f g : A → Bool) (x : A) (l : List A) (b : Bool) → (f x ≡ true → b ≡ true) → filter f (filter g l) ≡ filter f l
    → filter f (cond b (x ∷ filter g l) (filter g l)) ≡ cond (f x) (x ∷ filter f l) (filter f l)
filter_step f g x l true k e = ap (λ r. cond (f x) (x ∷ r) r) e
filter_step f g x l false k e = e ∙ sym (cond-false (f x) (x ∷ filter f l) (filter f l) (false_from_ne_true (f x) (λ h. false≢true (k h))))

-- a filter after a wider one
pub filter_within : {A : Type 0} (f g : A → Bool) → ((x : A) → f x ≡ true → g x ≡ true) → (l : List A) → filter f (filter g l) ≡ filter f l
filter_within f g h [] = refl
filter_within f g h (x ∷ l) = filter_step f g x l (g x) (h x) (filter_within f g h l)

-- what two lists have in common under a filter they have under a narrower one
pub filter_same : {A : Type 0} (f g : A → Bool) → ((x : A) → f x ≡ true → g x ≡ true) → (l m : List A) → filter g l ≡ filter g m
    → filter f l ≡ filter f m
filter_same f g h l m e = sym (filter_within f g h l) ∙ (ap (filter f) e ∙ filter_within f g h m)

module _ {mine : ℕ → Option Owner → Bool} {asks : Rest → Bool} where
  -- Tables with the same processes and semaphores.
  pub frame_same : (t u : Tables) → u.processes ≡ t.processes → u.semaphores ≡ t.semaphores → Frame mine asks t u
  frame_same t u processes semaphores = record {
    many = ap length processes;
    kept = λ s m. (ap (λ l. (get_or l s no_semaphore).owner) semaphores, ap (λ l. (get_or l s no_semaphore).tokens) semaphores);
    old = λ s m. ap (λ l. (get_or l s no_semaphore).owner) semaphores;
    waiters = λ s p m h. subst (λ l. 0 < count_in p (get_or l s no_semaphore).waiters) semaphores h;
    order = λ s m. ap (λ l. filter (waits_at asks u) (get_or l s no_semaphore).waiters) semaphores;
    rests = λ p h. (ap (λ l. (get_or l p no_process).rest) processes, ap (λ l. is_waiting (get_or l p no_process).state) processes);
  }

  -- Nothing moves.
  pub frame_refl : (t : Tables) → Frame mine asks t t
  frame_refl t = frame_same t t refl refl

  -- who waits in such a call after a move waited in it before
  pub waited : (t u : Tables) → Frame mine asks t u → (p : ℕ) → waits_at asks u p ≡ true → waits_at asks t p ≡ true
  waited t u a p h =
      let e = a.rests p (and_parts (is_waiting (process_at u p).state) (asks (process_at u p).rest) h).1 in
      sym (ap (λ r. is_waiting (process_at u p).state && asks r) e.0 ∙ ap (λ b. b && asks (process_at t p).rest) e.1) ∙ h

  -- One move after another.
  pub frame_trans : (t u v : Tables) → Frame mine asks t u → Frame mine asks u v → Frame mine asks t v
  frame_trans t u v a b = record {
    many = b.many ∙ a.many;
    kept = λ s m. (let e = a.kept s m in let f = b.kept s (ap (mine s) e.0 ∙ m) in (f.0 ∙ e.0, f.1 ∙ e.1));
    old = λ s m. (let f = b.old s m in f ∙ a.old s (sym (ap (mine s) f) ∙ m));
    waiters = λ s p m h. a.waiters s p m (b.waiters s p (ap (mine s) (a.kept s m).0 ∙ m) h);
    order = λ s m. b.order s (ap (mine s) (a.kept s m).0 ∙ m)
        ∙ filter_same (waits_at asks v) (waits_at asks u) (waited u v b) (semaphore_at u s).waiters (semaphore_at t s).waiters (a.order s m);
    rests = λ p h. (let f = b.rests p h in let e = a.rests p (sym (ap asks f.0) ∙ h) in (f.0 ∙ e.0, f.1 ∙ e.1));
  }

-- What leaves some semaphores and calls alone leaves any of them alone.
pub frame_weaker : {mine less : ℕ → Option Owner → Bool} {asks fewer : Rest → Bool} (t u : Tables)
    → ((sem : ℕ) (o : Option Owner) → less sem o ≡ true → mine sem o ≡ true)
    → ((left : Rest) → fewer left ≡ true → asks left ≡ true) → Frame mine asks t u → Frame less fewer t u
frame_weaker {mine} {less} {asks} {fewer} t u f g a = record {
  many = a.many;
  kept = λ sem m. a.kept sem (f sem (semaphore_at t sem).owner m);
  old = λ sem m. a.old sem (f sem (semaphore_at u sem).owner m);
  waiters = λ sem p m h. a.waiters sem p (f sem (semaphore_at t sem).owner m) h;
  order = λ sem m. filter_same (waits_at fewer u) (waits_at asks u) (λ p h. narrower (is_waiting (process_at u p).state) (process_at u p).rest h) (semaphore_at u sem).waiters (semaphore_at t sem).waiters (a.order sem (f sem (semaphore_at t sem).owner m));
  rests = λ p h. a.rests p (g (process_at u p).rest h);
}
  where
    narrower : (b : Bool) (left : Rest) → b && fewer left ≡ true → b && asks left ≡ true
    narrower true left h = g left h
    narrower false left h = h

-- Who still waits in one of some calls still waits in one of fewer.
pub still_weaker : {mine : ℕ → Option Owner → Bool} {asks fewer : Rest → Bool} (t u : Tables)
    → ((left : Rest) → fewer left ≡ true → asks left ≡ true) → Frame mine asks t u → StillWait asks t u → StillWait fewer t u
still_weaker {mine} {asks} {fewer} t u within c still = record {
  stay = λ p h. let parts = and_parts (is_waiting (process_at t p).state) (fewer (process_at t p).rest) h in
      let w = and_parts (is_waiting (process_at u p).state) (asks (process_at u p).rest)
      (still.stay p (and_from (is_waiting (process_at t p).state) (asks (process_at t p).rest) parts.0
      (within (process_at t p).rest parts.1))) in
      and_from (is_waiting (process_at u p).state) (fewer (process_at u p).rest) w.0 (ap fewer (c.rests p w.1).0 ∙ parts.1);
}
