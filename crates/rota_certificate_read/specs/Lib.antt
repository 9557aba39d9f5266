pub mod CertificateLayout
pub mod CertificateRows
pub mod FactsLayout
pub mod PricesLayout
pub mod TreeRows
