pub mod CuttingLaws
pub mod ContentLaws
pub mod BareLaws
pub mod SegmentLaws
pub mod TreeLaws
pub mod ReaderLaws
pub mod CleanLaws
pub mod BridgeLaws
