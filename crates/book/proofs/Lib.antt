pub mod Laws
pub mod True
