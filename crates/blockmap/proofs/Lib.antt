-- The laws of the definitions in specs/.
pub mod RowBits
pub mod SameRows
pub mod BlockRows
pub mod ClearRows
pub mod ClearTops
