pub mod Lists
pub mod Roles
pub mod RoleSteps
