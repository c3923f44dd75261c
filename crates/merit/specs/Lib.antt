pub mod Merit
