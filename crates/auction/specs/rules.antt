-- Acceptance and the range, as document 01 has them, the contracts on offer, and the firm behind a response.
pub mod Accept
pub mod Range
pub mod Offer
pub mod Firm
