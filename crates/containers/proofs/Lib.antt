pub mod MapLaws
pub mod MapViews
pub mod PairOrderLaws
pub mod SequenceLaws
