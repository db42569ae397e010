-- Document 01, "Drawing and choosing"; Even: document 02, "Even choices".
pub mod Xorshift
pub mod Draw
pub mod Even
pub mod Examples
