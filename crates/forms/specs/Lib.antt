-- the definitions
pub mod Forms
-- what is proved
pub mod FormsLaws
