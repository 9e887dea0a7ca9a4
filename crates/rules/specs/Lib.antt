-- The rules of the supervisor, as document 01 has them. Read in this order; nothing here needs a proof to be understood.

-- the state: tasks, places, queues, the running task, the clock, and the one way in which a task changes its place
pub mod State
-- the tree of held callers, and the priority that follows from it
pub mod Tree
-- when a state is sound, as a test
pub mod Sound
-- each call: results, refusals, the next state, the ended waits; the lent room
pub mod Step
-- the callers apart from the rest of a state
pub mod Callers
-- the struct that the code works on, and the whole step on it: what the contract of `step` cites
pub mod Whole
-- COUNT and CALLABLE
pub mod Questions
-- when a state is sound, fact by fact
pub mod SoundFacts
-- priority in a rendezvous: the acceptor's current priority, and the ready queues
pub mod Levels
-- the dispatched task, and COUNT
pub mod EachStep
-- runs, their logs, and what is read off a log
pub mod Runs
-- statement 3: what holds of every run
pub mod OverRuns
-- and in which order waits and rendezvous end
pub mod Orders
-- ADVANCE: that it is n ticks, and that these wake all whose time comes at once
pub mod Advance
-- the same log, read off what the code's `step` answered and wrote
pub mod Uses
-- the second engine, and that it answers as the first does
pub mod Second
