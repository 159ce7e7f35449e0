-- the definitions
pub mod Runs
pub mod Layout
pub mod Sections
-- what is proved
pub mod RunLaws
pub mod LayoutLaws
pub mod SectionLaws
pub mod Sectioning
