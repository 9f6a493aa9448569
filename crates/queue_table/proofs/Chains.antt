-- What linking an entry in, or out, makes of the chains of a table.
use Rattle.std.proofs.Common.{◌≡◌, ◌≢◌, ℕ, ◌<◌, ◌≤◌, true, false, cond, List, [], ◌∷◌, ◌++◌, refl, sym, ap, ◌∙◌, subst, inl, inr, arith}
use mathlib.Core.List.{reverse_aux}
use Rattle.std.proofs.Math.ListN.{length-reverse_aux}
use Rattle.std.proofs.lemmas.Bool.{cases_Bool, false≢true}
use Rattle.std.proofs.lemmas.Bool.Decides.{nat_tests}
use Rattle.queue_table.specs.declared.links.Links.{Links}
use Rattle.queue_table.specs.Lists.{Entry, is_listed}
use Rattle.queue_table.specs.Entries.{Chain, Path, Tied, first_to, last_from, next_at, prev_at}
use Rattle.queue_table.proofs.Insertions.{is_listed-append}
use Rattle.queue_table.proofs.Paths.{Back, Back-more, Back-path, Path-append, Path-below, Path-front, Path-rest, last_from-append, never_met}
use Rattle.queue_table.proofs.Writes.{Rewired}

-- a process that isn't in a list isn't the first of it
pub is_listed-head : (x : ℕ) (e : Entry) (l : List Entry) → is_listed x (e ∷ l) ≡ false → x ≢ e.0
is_listed-head x e l h s = absurd (grind (arith, nat_tests))

-- a process that isn't in a list isn't in its rest
pub is_listed-tail : (x : ℕ) (e : Entry) (l : List Entry) → is_listed x (e ∷ l) ≡ false → is_listed x l ≡ false
is_listed-tail x e l h = grind (arith, nat_tests)

-- no entry from P on is in a path
pub is_listed-above : (P : ℕ) (es : List Links) (a : ℕ) (l : List Entry) (x : ℕ) → Path P es a l → P ≤ x → is_listed x l ≡ false
is_listed-above P es a l x p le = elim (cases_Bool (is_listed x l)) [
  | inl t ↦ absurd (omega (arith, Path-below P es a l p x t))
  | inr f ↦ f
]

-- an entry that isn't in a list and isn't the one ahead of it isn't the last up to its end
pub last_from-differs : (a x : ℕ) (l : List Entry) → a ≢ x → is_listed x l ≡ false → last_from a l ≢ x
last_from-differs a x [] n h = n
last_from-differs a x (e ∷ l) n h =
    last_from-differs e.0 x l (λ s. is_listed-head x e l h (sym s)) (is_listed-tail x e l h)

-- a process that isn't in two lists put together isn't in the first
pub is_listed-left : (x : ℕ) (l m : List Entry) → is_listed x (l ++ m) ≡ false → is_listed x l ≡ false
is_listed-left x l m h = elim (cases_Bool (is_listed x l)) [
  | inl t ↦ absurd (false≢true (sym h ∙ is_listed-append x l m ∙ ap (λ b. cond b true (is_listed x m)) t))
  | inr f ↦ f
]

-- a process that isn't in two lists put together isn't in the second
pub is_listed-right : (x : ℕ) (l m : List Entry) → is_listed x (l ++ m) ≡ false → is_listed x m ≡ false
is_listed-right x l m h = sym (ap (λ b. cond b true (is_listed x m)) (is_listed-left x l m h)) ∙ sym (is_listed-append x l m) ∙ h

-- back from an entry of a path come the entries ahead of it, the nearest first
pub Back-at : (P : ℕ) (es : List Links) (h : ℕ) (pre : List Entry) (f : Entry) (post : List Entry) → Path P es h (pre ++ f ∷ post) → Back P es h (f ∷ reverse_aux pre []) f.0
Back-at P es h pre f post p =
    let q : Path P es (last_from h pre) (f ∷ post) = Path-rest P es h pre (f ∷ post) p in
    Back-more P es h (last_from h pre) f (reverse_aux pre []) (Back-path P es h h [] pre refl (Path-front P es h pre (f ∷ post) p)) q.0 q.1 q.2

-- an entry of a path from a head isn't ahead of itself in it
pub alone_front : (P : ℕ) (es : List Links) (h : ℕ) (pre : List Entry) (f : Entry) (post : List Entry) → P ≤ h → Path P es h (pre ++ f ∷ post) → is_listed f.0 pre ≡ false
alone_front P es h pre f post le p =
    never_met P es h f.0 (f ∷ reverse_aux pre []) le (Back-at P es h pre f post p) h h [] pre le refl (Path-front P es h pre (f ∷ post) p)
    (λ j lo hi s at. omega (arith, length-reverse_aux pre [], lo, hi, at))

-- an entry of a path from a head isn't after itself in it
pub alone_rest : (P : ℕ) (es : List Links) (h : ℕ) (pre : List Entry) (f : Entry) (post : List Entry) → P ≤ h → Path P es h (pre ++ f ∷ post) → is_listed f.0 post ≡ false
alone_rest P es h pre f post le p =
    let b : Back P es h (f ∷ reverse_aux pre []) f.0 = Back-at P es h pre f post p in
    let q : Path P es (last_from h pre) (f ∷ post) = Path-rest P es h pre (f ∷ post) p in
    never_met P es h f.0 (f ∷ reverse_aux pre []) le b h f.0 (f ∷ reverse_aux pre []) post le b q.3 (λ j lo hi s at. omega (arith, lo, hi, at))

-- an entry of a path from a head isn't in a path from another head
pub alone_apart : (P : ℕ) (es : List Links) (h : ℕ) (pre : List Entry) (f : Entry) (post : List Entry) → P ≤ h → Path P es h (pre ++ f ∷ post)
    → (h' : ℕ) (l : List Entry) → P ≤ h' → Path P es h' l → h ≢ h' → is_listed f.0 l ≡ false
alone_apart P es h pre f post le p h' l le' p' n =
    never_met P es h f.0 (f ∷ reverse_aux pre []) le (Back-at P es h pre f post p) h' h' [] l le' refl p' (λ j lo hi s at. n s)

-- linking p in between x and y leaves the other ties
pub Tied-kept_in : (es es' : List Links) (x y p : ℕ) (r : Links) → Rewired es es' x p y p p r → Tied es x y → (n m : ℕ) → Tied es n m → n ≢ p → m ≢ p → m ≢ y → Tied es' n m
Tied-kept_in es es' x y p r w t n m u np mp my =
    let nx : n ≢ x = λ s. my (sym u.0 ∙ ap (next_at es) s ∙ t.0) in
    (w.next_other n np nx ∙ u.0, w.prev_other m mp my ∙ u.1)

-- linking p in between x and y leaves a path that has neither p nor y
pub Path-kept_in : (P : ℕ) (es es' : List Links) (x y p : ℕ) (r : Links) → Rewired es es' x p y p p r → Tied es x y
    → (a : ℕ) (l : List Entry) → a ≢ p → is_listed p l ≡ false → is_listed y l ≡ false → Path P es a l → Path P es' a l
Path-kept_in P es es' x y p r w t a [] ap' hp hy h = tt
Path-kept_in P es es' x y p r w t a (e ∷ l) ap' hp hy h =
    let ep : e.0 ≢ p = λ s. is_listed-head p e l hp (sym s) in
    let ey : e.0 ≢ y = λ s. is_listed-head y e l hy (sym s) in (
      Tied-kept_in es es' x y p r w t a e.0 h.0 ap' ep ey,
      w.key_other e.0 ep ∙ h.1,
      h.2,
      Path-kept_in P es es' x y p r w t e.0 l ep (is_listed-tail p e l hp) (is_listed-tail y e l hy) h.3,
    )

-- linking p in between x and y leaves a chain that has neither p nor y
pub Chain-kept_in : (P : ℕ) (es es' : List Links) (x y p : ℕ) (r : Links) → Rewired es es' x p y p p r → Tied es x y
    → (a : ℕ) (l : List Entry) (b : ℕ) → a ≢ p → is_listed p l ≡ false → is_listed y l ≡ false → b ≢ p → b ≢ y → Chain P es a l b → Chain P es' a l b
Chain-kept_in P es es' x y p r w t a l b na hp hy bp by' c = record {
  path = Path-kept_in P es es' x y p r w t a l na hp hy c.path;
  tied = Tied-kept_in es es' x y p r w t (last_from a l) b c.tied (last_from-differs a p l na hp) bp by';
}

-- the tie at a place of a chain
pub Chain-tie : (P : ℕ) (es : List Links) (h : ℕ) (pre post : List Entry) (t : ℕ) → Chain P es h (pre ++ post) t → Tied es (last_from h pre) (first_to post t)
Chain-tie P es h pre [] t c = let F : ℕ → Type 0 = λ n. Tied es n t in subst F (last_from-append h pre []) c.tied
Chain-tie P es h pre (f ∷ post) t c = (Path-rest P es h pre (f ∷ post) c.path).0

-- a chain with p, which isn't in it, linked in at a place of it
pub Chain-put : (P : ℕ) (es es' : List Links) (h : ℕ) (pre post : List Entry) (t p : ℕ) (r : Links)
    → Rewired es es' (last_from h pre) p (first_to post t) p p r → r.next ≡ first_to post t → r.prev ≡ last_from h pre
    → P ≤ h → P ≤ t → p < P → is_listed p (pre ++ post) ≡ false
    → Chain P es h (pre ++ post) t → Chain P es' h (pre ++ (p, r.key) ∷ post) t
Chain-put P es es' h pre [] t p r w rn rp leh let' lt fresh c =
    let x : ℕ = last_from h pre in
    let tie : Tied es x t = Chain-tie P es h pre [] t c in
    let front : Path P es h pre = Path-front P es h pre [] c.path in
    let hp : h ≢ p = omega arith in
    let fp : is_listed p pre ≡ false = is_listed-left p pre [] fresh in
    let xp : x ≢ p = last_from-differs h p pre hp fp in
    let front' : Path P es' h pre = Path-kept_in P es es' x t p r w tie h pre hp fp (is_listed-above P es h pre t front let') front in
    record {
      path = Path-append P es' h pre ((p, r.key) ∷ []) front' ((w.next_x xp, w.prev_p ∙ rp), w.key_p, lt, tt);
      tied = (let F : ℕ → Type 0 = λ n. Tied es' n t in subst F (sym (last_from-append h pre ((p, r.key) ∷ []))) (w.next_p ∙ rn, w.prev_y (omega arith)));
    }
Chain-put P es es' h pre (f ∷ post) t p r w rn rp leh let' lt fresh c =
    let x : ℕ = last_from h pre in
    let tie : Tied es x f.0 = Chain-tie P es h pre (f ∷ post) t c in
    let front : Path P es h pre = Path-front P es h pre (f ∷ post) c.path in
    let rest : Path P es x (f ∷ post) = Path-rest P es h pre (f ∷ post) c.path in
    let hp : h ≢ p = omega arith in
    let fp : is_listed p pre ≡ false = is_listed-left p pre (f ∷ post) fresh in
    let fr : is_listed p (f ∷ post) ≡ false = is_listed-right p pre (f ∷ post) fresh in
    let f≢p : f.0 ≢ p = λ s. is_listed-head p f post fr (sym s) in
    let xp : x ≢ p = last_from-differs h p pre hp fp in
    let front' : Path P es' h pre = Path-kept_in P es es' x f.0 p r w tie h pre hp fp (alone_front P es h pre f post leh c.path) front in
    let rest' : Path P es' f.0 post = Path-kept_in P es es' x f.0 p r w tie f.0 post f≢p (is_listed-tail p f post fr) (alone_rest P es h pre f post leh c.path) rest.3 in
    let last' : Tied es (last_from f.0 post) t = (let F : ℕ → Type 0 = λ n. Tied es n t in subst F (last_from-append h pre (f ∷ post)) c.tied) in
    let l≢p : last_from f.0 post ≢ p = last_from-differs f.0 p post f≢p (is_listed-tail p f post fr) in
    let t≢f : t ≢ f.0 = omega (arith, rest.2) in
    let last'' : Tied es' (last_from f.0 post) t = Tied-kept_in es es' x f.0 p r w tie (last_from f.0 post) t last' l≢p (omega arith) t≢f in
    record {
      path = Path-append P es' h pre ((p, r.key) ∷ f ∷ post) front' ((w.next_x xp, w.prev_p ∙ rp), w.key_p, lt, ((w.next_p ∙ rn, w.prev_y f≢p), w.key_other f.0 f≢p ∙ rest.1, rest.2, rest'));
      tied = (let F : ℕ → Type 0 = λ n. Tied es' n t in subst F (sym (last_from-append h pre ((p, r.key) ∷ f ∷ post))) last'');
    }

-- taking p from between x and y leaves the other ties
pub Tied-kept_out : (es es' : List Links) (x y p : ℕ) (r : Links) → Rewired es es' x y y x p r → next_at es x ≡ p → prev_at es y ≡ p → (n m : ℕ) → Tied es n m → n ≢ p → m ≢ p → Tied es' n m
Tied-kept_out es es' x y p r w tx ty n m u np mp =
    let nx : n ≢ x = λ s. mp (sym u.0 ∙ ap (next_at es) s ∙ tx) in
    let my : m ≢ y = λ s. np (sym u.1 ∙ ap (prev_at es) s ∙ ty) in
    (w.next_other n np nx ∙ u.0, w.prev_other m mp my ∙ u.1)

-- taking p from between x and y leaves a path that doesn't have p
pub Path-kept_out : (P : ℕ) (es es' : List Links) (x y p : ℕ) (r : Links) → Rewired es es' x y y x p r → next_at es x ≡ p → prev_at es y ≡ p
    → (a : ℕ) (l : List Entry) → a ≢ p → is_listed p l ≡ false → Path P es a l → Path P es' a l
Path-kept_out P es es' x y p r w tx ty a [] na hp h = tt
Path-kept_out P es es' x y p r w tx ty a (e ∷ l) na hp h =
    let ep : e.0 ≢ p = λ s. is_listed-head p e l hp (sym s) in (
      Tied-kept_out es es' x y p r w tx ty a e.0 h.0 na ep,
      w.key_other e.0 ep ∙ h.1,
      h.2,
      Path-kept_out P es es' x y p r w tx ty e.0 l ep (is_listed-tail p e l hp) h.3,
    )

-- taking p from between x and y leaves a chain that doesn't have p
pub Chain-kept_out : (P : ℕ) (es es' : List Links) (x y p : ℕ) (r : Links) → Rewired es es' x y y x p r → next_at es x ≡ p → prev_at es y ≡ p
    → (a : ℕ) (l : List Entry) (b : ℕ) → a ≢ p → is_listed p l ≡ false → b ≢ p → Chain P es a l b → Chain P es' a l b
Chain-kept_out P es es' x y p r w tx ty a l b na hp bp c = record {
  path = Path-kept_out P es es' x y p r w tx ty a l na hp c.path;
  tied = Tied-kept_out es es' x y p r w tx ty (last_from a l) b c.tied (last_from-differs a p l na hp) bp;
}

-- the two ties of an entry of a chain
pub Chain-ties : (P : ℕ) (es : List Links) (h : ℕ) (pre : List Entry) (f : Entry) (post : List Entry) (t : ℕ) → Chain P es h (pre ++ f ∷ post) t → Tied es (last_from h pre) f.0 × Tied es f.0 (first_to post t)
Chain-ties P es h pre f [] t c =
    (Chain-tie P es h pre (f ∷ []) t c, (let F : ℕ → Type 0 = λ n. Tied es n t in subst F (last_from-append h pre (f ∷ [])) c.tied))
Chain-ties P es h pre f (g ∷ post) t c =
    (Chain-tie P es h pre (f ∷ g ∷ post) t c, (Path-rest P es h pre (f ∷ g ∷ post) c.path).3.0)

-- a chain with an entry taken out at its place
pub Chain-cut : (P : ℕ) (es es' : List Links) (h : ℕ) (pre : List Entry) (f : Entry) (post : List Entry) (t : ℕ) (r : Links)
    → Rewired es es' (last_from h pre) (first_to post t) (first_to post t) (last_from h pre) f.0 r
    → P ≤ h → P ≤ t → Chain P es h (pre ++ f ∷ post) t → Chain P es' h (pre ++ post) t
Chain-cut P es es' h pre f [] t r w leh let' c =
    let x : ℕ = last_from h pre in
    let ties : Tied es x f.0 × Tied es f.0 t = Chain-ties P es h pre f [] t c in
    let rest : Path P es x (f ∷ []) = Path-rest P es h pre (f ∷ []) c.path in
    let fp : is_listed f.0 pre ≡ false = alone_front P es h pre f [] leh c.path in
    let hf : h ≢ f.0 = omega (arith, rest.2) in
    let tf : t ≢ f.0 = omega (arith, rest.2) in
    let front' : Path P es' h pre = Path-kept_out P es es' x t f.0 r w ties.0.0 ties.1.1 h pre hf fp (Path-front P es h pre (f ∷ []) c.path) in
    record {
      path = Path-append P es' h pre [] front' tt;
      tied = (let F : ℕ → Type 0 = λ n. Tied es' n t in subst F (sym (last_from-append h pre [])) (w.next_x (last_from-differs h f.0 pre hf fp), w.prev_y tf));
    }
Chain-cut P es es' h pre f (g ∷ post) t r w leh let' c =
    let x : ℕ = last_from h pre in
    let ties : Tied es x f.0 × Tied es f.0 g.0 = Chain-ties P es h pre f (g ∷ post) t c in
    let rest : Path P es x (f ∷ g ∷ post) = Path-rest P es h pre (f ∷ g ∷ post) c.path in
    let fp : is_listed f.0 pre ≡ false = alone_front P es h pre f (g ∷ post) leh c.path in
    let fr : is_listed f.0 (g ∷ post) ≡ false = alone_rest P es h pre f (g ∷ post) leh c.path in
    let hf : h ≢ f.0 = omega (arith, rest.2) in
    let tf : t ≢ f.0 = omega (arith, rest.2) in
    let gf : g.0 ≢ f.0 = λ s. is_listed-head f.0 g post fr (sym s) in
    let front' : Path P es' h pre = Path-kept_out P es es' x g.0 f.0 r w ties.0.0 ties.1.1 h pre hf fp (Path-front P es h pre (f ∷ g ∷ post) c.path) in
    let rest' : Path P es' g.0 post = Path-kept_out P es es' x g.0 f.0 r w ties.0.0 ties.1.1 g.0 post gf (is_listed-tail f.0 g post fr) rest.3.3 in
    let last' : Tied es (last_from g.0 post) t = (let F : ℕ → Type 0 = λ n. Tied es n t in subst F (last_from-append h pre (f ∷ g ∷ post)) c.tied) in
    let last'' : Tied es' (last_from g.0 post) t = Tied-kept_out es es' x g.0 f.0 r w ties.0.0 ties.1.1 (last_from g.0 post) t last' (last_from-differs g.0 f.0 post gf (is_listed-tail f.0 g post fr)) tf in
    record {
      path = Path-append P es' h pre (g ∷ post) front' ((w.next_x (last_from-differs h f.0 pre hf fp), w.prev_y gf), w.key_other g.0 gf ∙ rest.3.1, rest.3.2, rest');
      tied = (let F : ℕ → Type 0 = λ n. Tied es' n t in subst F (sym (last_from-append h pre (g ∷ post))) last'');
    }
