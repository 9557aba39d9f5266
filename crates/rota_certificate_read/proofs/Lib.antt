pub mod CertificateLaws
pub mod FactsLaws
pub mod PricesLaws
mod TreeLaws
mod TreeWalk
