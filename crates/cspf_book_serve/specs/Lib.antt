-- The definitions that this crate's contracts use.
pub mod ShownTexts
pub mod ShownStates
pub mod ServedBooks
pub mod ServedBookLaws
pub mod BookUpdates
