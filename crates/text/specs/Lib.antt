-- Decimal numbers, and text written into lent room.
pub mod Text
