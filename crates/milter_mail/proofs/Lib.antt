pub mod Weights
pub mod ChosenFit
pub mod MacroChoice
pub mod MailLaws
pub mod PlanWeight
pub mod PlanFits
