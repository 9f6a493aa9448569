-- What holds of the rows of a table, a row a line.
infixr 4 ◌⨾◌
-- a pair, which nests to the right: what holds of a first element before what holds of those after it
pub ◌⨾◌ : {A B : Type 0} → A → B → A × B
a ⨾ b = (a, b)
