-- The imports of the proofs of functions: the words, and lemmas on lists taken.
pub mod Imports
unfoldable pub use Imports.*
pub use Rattle.rota_items.proofs.ItemLemmas.{exits, taking}
