-- What the assessor signs, after the rules (crate rules). Read in this order.
-- the table of refusals, row by row
pub mod Refusals
-- the functions that other programs link
pub mod Linked
pub mod Statement1
pub mod Statement2
pub mod Statement3
-- ADVANCE as ticks, and cut in two
pub mod Cutting
-- the library as a run of statement 3
pub mod Library
-- request (x): workspaces
pub mod Workspaces
-- a queue of 31 callers
pub mod FullQueue
-- the contact debouncer
pub mod Debouncer
-- the second engine: one queue per acceptor
pub mod SecondEngine
