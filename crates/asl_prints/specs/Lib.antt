pub mod Fits
pub mod Forms
pub mod Nodes
pub mod Numbers
pub mod PlanParts
pub mod Plans
pub mod PrintNumbers
pub mod Texts
