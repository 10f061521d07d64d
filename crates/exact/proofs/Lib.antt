pub mod Polynomial
pub mod Certificate
pub mod Shape
pub mod Order
pub mod FromZero
pub mod Field
pub mod Substitution
pub mod Raised
