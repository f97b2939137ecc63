pub mod Black
