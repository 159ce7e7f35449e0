pub mod Span
pub mod SpanLaws
pub mod Spanning
pub mod SpanningLaws
