pub mod Clones
pub mod HeldValue
pub mod Laws
pub mod LentEntry
pub mod LentMember
pub mod LentPairEntry
pub mod LentValue
pub mod PairOrder
