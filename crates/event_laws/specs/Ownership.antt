-- Who has which address: none has two owners, unless it is given away, and what pools and stacks get was free.
pub mod Apart
pub mod GivingAway
pub mod Grants
