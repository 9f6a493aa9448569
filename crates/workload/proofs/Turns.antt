-- One more argument, group and event: what is appended so far and what is left is all that there is.
use Rattle.std.proofs.Common.{◌≡◌, ◌∙◌, ℕ, suc, ◌+◌, ◌-◌, ◌<◌, List, [], ◌∷◌, ◌++◌, refl, sym, ap, arith, append_assoc}
use Rattle.asm_syntax.specs.Statements.{load}
use Rattle.xinu_base.specs.declared.events.Event.{Event}
use Rattle.xinu_model.specs.Isa.Instructions.{FormI, FormWhole}
use Rattle.rv_isa.specs.Encoding.{placed}
use Rattle.workload.specs.Draws.{next, drawn}
use Rattle.workload.specs.Groups.{Shape, shape_at, shaped, value_of, after_argument, loads_of, after_arguments, group, groups, after_group, after_groups}
use Rattle.workload.specs.Schedules.{event_in, after_event, events_in, line_of, text_of}
use Rattle.workload.specs.declared.shapes.Argument.{Argument}

-- ---- the definitions, one step

loads_of-cons : (place register : ℕ) (arg : Argument) (args : List Argument) (x : ℕ)
    → loads_of place register (arg ∷ args) x ≡ load register (value_of place arg x) ++ loads_of place (register + 1) args (after_argument arg x)
unfolding loads_of
loads_of-cons place register arg args x = refl

pub loads_of-nil : (place register x : ℕ) → loads_of place register [] x ≡ []
unfolding loads_of
loads_of-nil place register x = refl

pub after_arguments-cons : (arg : Argument) (args : List Argument) (x : ℕ) → after_arguments (arg ∷ args) x ≡ after_arguments args (after_argument arg x)
unfolding after_arguments
after_arguments-cons arg args x = refl

pub after_arguments-nil : (x : ℕ) → after_arguments [] x ≡ x
unfolding after_arguments
after_arguments-nil x = refl

groups-suc : (place kinds n x : ℕ) → groups place kinds (suc n) x ≡ group place kinds x ++ groups place kinds n (after_group kinds x)
unfolding groups
groups-suc place kinds n x = refl

pub groups-zero : (place kinds x : ℕ) → groups place kinds 0 x ≡ []
unfolding groups
groups-zero place kinds x = refl

after_groups-suc : (kinds n x : ℕ) → after_groups kinds (suc n) x ≡ after_groups kinds n (after_group kinds x)
unfolding after_groups
after_groups-suc kinds n x = refl

pub after_groups-zero : (kinds x : ℕ) → after_groups kinds 0 x ≡ x
unfolding after_groups
after_groups-zero kinds x = refl

pub events_in-suc : (n x : ℕ) → events_in (suc n) x ≡ event_in x ∷ events_in n (after_event x)
unfolding events_in
events_in-suc n x = refl

pub events_in-zero : (x : ℕ) → events_in 0 x ≡ []
unfolding events_in
events_in-zero x = refl

pub text_of-cons : (event : Event) (events : List Event) → text_of (event ∷ events) ≡ line_of event ++ 10 ∷ text_of events
unfolding text_of
text_of-cons event events = refl

pub text_of-nil : text_of [] ≡ []
unfolding text_of
text_of-nil = refl

-- ---- what is left after one more

-- fewer are left
left_at : (n k : ℕ) → k < n → n - k ≡ suc (n - (k + 1))
left_at n k more = omega arith

-- two words and then more
pub loads_turn : (place register : ℕ) (arg : Argument) (args : List Argument) (x u l : ℕ) (words all : List ℕ)
    → u ∷ l ∷ [] ≡ load register (value_of place arg x) → words ++ loads_of place register (arg ∷ args) x ≡ all
    → words ++ u ∷ [] ++ l ∷ [] ++ loads_of place (register + 1) args (after_argument arg x) ≡ all
loads_turn place register arg args x u l words all is so_far =
    let rest = loads_of place (register + 1) args (after_argument arg x) in
    append_assoc (words ++ u ∷ []) (l ∷ []) rest
    ∙ append_assoc words (u ∷ []) (l ∷ rest)
    ∙ ap (λ (two : List ℕ). words ++ (two ++ rest)) is
    ∙ ap (λ (more : List ℕ). words ++ more) (sym (loads_of-cons place register arg args x))
    ∙ so_far

-- a group, by its shape and its arguments
pub group_is : (place kinds x n y : ℕ) (shape : Shape) (words loaded called all : List ℕ) → n ≡ drawn kinds x → y ≡ next x → shape ≡ shape_at n
    → loaded ≡ words ++ loads_of place 10 shape.args y → called ≡ loaded ++ (0x13 + placed FormI 17 0 0 shape.call) ∷ []
    → all ≡ called ++ (0x73 + placed FormWhole 0 0 0 0) ∷ [] → all ≡ words ++ group place kinds x
unfolding group
group_is place kinds x n y shape words loaded called all drew moved shaped_so loads calls ends =
    let u = 0x13 + placed FormI 17 0 0 shape.call in
    let l = 0x73 + placed FormWhole 0 0 0 0 in
    ends
    ∙ ap (λ (ws : List ℕ). ws ++ l ∷ []) (calls ∙ ap (λ (ws : List ℕ). ws ++ u ∷ []) loads)
    ∙ append_assoc (words ++ loads_of place 10 shape.args y) (u ∷ []) (l ∷ [])
    ∙ append_assoc words (loads_of place 10 shape.args y) (u ∷ l ∷ [])
    ∙ ap (λ (s : Shape). words ++ shaped place s y) (shaped_so ∙ ap shape_at drew)
    ∙ ap (λ (z : ℕ). words ++ shaped place (shape_at (drawn kinds x)) z) moved

pub after_group_is : (kinds x n y z : ℕ) (shape : Shape) → n ≡ drawn kinds x → y ≡ next x → shape ≡ shape_at n → z ≡ after_arguments shape.args y
    → z ≡ after_group kinds x
unfolding after_group
after_group_is kinds x n y z shape drew moved shaped_so is =
    is
    ∙ ap (λ (s : Shape). after_arguments s.args y) (shaped_so ∙ ap shape_at drew)
    ∙ ap (λ (w : ℕ). after_arguments (shape_at (drawn kinds x)).args w) moved

-- a group and then more
pub groups_turn : (place kinds n k x : ℕ) (words more all : List ℕ) → k < n → more ≡ words ++ group place kinds x
    → words ++ groups place kinds (n - k) x ≡ all → more ++ groups place kinds (n - (k + 1)) (after_group kinds x) ≡ all
groups_turn place kinds n k x words more all within is so_far =
    let rest = groups place kinds (n - (k + 1)) (after_group kinds x) in
    ap (λ (front : List ℕ). front ++ rest) is
    ∙ append_assoc words (group place kinds x) rest
    ∙ ap (λ (left : List ℕ). words ++ left) (sym (ap (λ (m : ℕ). groups place kinds m x) (left_at n k within) ∙ groups-suc place kinds (n - (k + 1)) x))
    ∙ so_far

pub after_groups_turn : (kinds n k x all : ℕ) → k < n → after_groups kinds (n - k) x ≡ all → after_groups kinds (n - (k + 1)) (after_group kinds x) ≡ all
after_groups_turn kinds n k x all within so_far =
    sym (ap (λ (m : ℕ). after_groups kinds m x) (left_at n k within) ∙ after_groups-suc kinds (n - (k + 1)) x) ∙ so_far

-- a line and then more
pub text_turn : (n k x : ℕ) (text more line all : List ℕ) → k < n → more ≡ text ++ line → line ≡ line_of (event_in x) ++ 10 ∷ []
    → text ++ text_of (events_in (n - k) x) ≡ all → more ++ text_of (events_in (n - (k + 1)) (after_event x)) ≡ all
text_turn n k x text more line all within is written so_far =
    let rest = text_of (events_in (n - (k + 1)) (after_event x)) in
    ap (λ (front : List ℕ). front ++ rest) (is ∙ ap (λ (last : List ℕ). text ++ last) written)
    ∙ append_assoc text (line_of (event_in x) ++ 10 ∷ []) rest
    ∙ ap (λ (left : List ℕ). text ++ left)
    (append_assoc (line_of (event_in x)) (10 ∷ []) rest ∙ sym (text_of-cons (event_in x) (events_in (n - (k + 1)) (after_event x)))
    ∙ sym (ap text_of (ap (λ (m : ℕ). events_in m x) (left_at n k within) ∙ events_in-suc (n - (k + 1)) x)))
    ∙ so_far
