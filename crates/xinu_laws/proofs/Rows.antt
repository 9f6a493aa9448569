-- The rows of a table: found by number, and proofs a row a line.
pub mod CallRows
pub mod RowByRow
