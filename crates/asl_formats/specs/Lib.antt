pub mod Bare
pub mod Pass
pub mod Plain
pub mod PlanPass
pub mod Present
pub mod Stands
pub mod StepNumbers
pub mod Steps
