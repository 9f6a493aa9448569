-- Files as processes call them: what their callers answer (`Answered`); that the calls (`Asked`), a call that takes effect as it is made
-- (`AtOnce`), and good completions of their disk (`Completed`) keep what holds of files and of those who wait for them; that each choice has
-- an outcome (`Chosen`), and that a text tells which calls took effect (`Texts`).
pub mod Answered
pub mod Asked
pub mod AtOnce
pub mod Chosen
pub mod Completed
pub mod Texts
