-- the definitions, in reading order
pub mod Octets
pub mod Service
pub mod Repertoire
pub mod Cutting
pub mod Content
pub mod Segment
pub mod Opening
pub mod Ordinal
pub mod Refusals
pub mod Tree
pub mod Reader
pub mod Example
-- the code's side: what it reads octets by
pub mod Classes
pub mod Scanning
pub mod Clean
-- what is proved
pub mod RepertoireLaws
pub mod TagLaws
