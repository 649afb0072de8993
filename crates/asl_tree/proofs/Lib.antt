pub mod ConstantForms
mod ViewRows
