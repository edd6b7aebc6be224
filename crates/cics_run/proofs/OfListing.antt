pub mod UnitLines
