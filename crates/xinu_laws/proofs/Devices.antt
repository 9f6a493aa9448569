-- The calls on devices: what they keep, and that who goes on finds what it waited for.
pub mod Found
pub mod Kept
