pub mod OneByOne
mod PlanRows
