-- Laws, each said once and over any test: of the tests themselves, of the lists, of lines in arrays, of the turns of a loop, of one list over another; and parts of a need.
pub mod Tests
pub mod Arms
pub mod ListLaws
pub mod LineLaws
pub mod Turns
pub mod MarkLaws
pub mod AheadLaws
pub mod OverLaws
pub mod Parts
pub mod Zeros
pub mod FromFn
pub mod Backwards
