pub mod At
pub mod Values
