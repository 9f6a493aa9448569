-- Worked histories of processes 1 and 2 and a byte that both touch.
use Rattle.std.specs.Prelude.{ℕ, Bool, true, false, List, [], ◌∷◌, Some}
use Rattle.happens_before.specs.Histories.{Access, Deed, Accessed, Given, Edge, Moment}
use Rattle.happens_before.specs.Races.{Made, time}

-- process u loads or stores byte 100
abbrev pub touch : ℕ → Bool → Access
touch u stores = record { process = u; byte = 100; stores = stores; place = 4 }

-- in event n, as its first deed
abbrev pub made_in : ℕ → ℕ → Bool → Made
made_in n u stores = record { time = time n 0; access = touch u stores }

-- u steps with these edges and these deeds
abbrev pub step : ℕ → List Edge → List Deed → Moment
step u edges deeds = record { stepper = Some u; edges = edges; deeds = deeds }

abbrev pub edge_from : ℕ → ℕ → ℕ → Edge
edge_from n u v = record { event = n; source = u; target = v }

-- a counter: both load it, and then both store it
abbrev pub counter : List Moment
counter =
    step 1 [] (Accessed (touch 1 false) ∷ []) ∷ step 2 [] (Accessed (touch 2 false) ∷ []) ∷
    step 2 [] (Accessed (touch 2 true) ∷ []) ∷ step 1 [] (Accessed (touch 1 true) ∷ []) ∷ []

-- process 1 stores, gives a token in event 2, and stores again; process 2 takes the token in event 4, and stores
abbrev pub token : List Moment
token =
    step 1 [] (Accessed (touch 1 true) ∷ []) ∷ step 1 [] [] ∷ step 1 [] (Accessed (touch 1 true) ∷ []) ∷
    step 2 (edge_from 2 1 2 ∷ []) [] ∷ step 2 [] (Accessed (touch 2 true) ∷ []) ∷ []

-- process 1 kills process 2, whose stack is given back in that event, and then loads
abbrev pub death : List Moment
death = step 1 (edge_from 1 2 1 ∷ []) (Accessed (touch 2 true) ∷ []) ∷ step 1 [] (Accessed (touch 1 false) ∷ []) ∷ []

-- process 1 wakes process 2 in event 1, in which it stores; process 2 loads
abbrev pub wake : List Moment
wake = step 1 (edge_from 1 1 2 ∷ []) (Accessed (touch 1 true) ∷ []) ∷ step 2 [] (Accessed (touch 2 false) ∷ []) ∷ []

-- process 1 stores, and the byte is given to process 2, which stores
abbrev pub given : List Moment
given = step 1 [] (Accessed (touch 1 true) ∷ []) ∷ step 2 [] (Given 96 8 ∷ []) ∷ step 2 [] (Accessed (touch 2 true) ∷ []) ∷ []
