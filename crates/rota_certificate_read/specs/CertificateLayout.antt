-- The slots of a certificate's file.
use Rattle.std.specs.Prelude.{◌≡◌, ◌-◌, bytes_eq, nat_le, nat_lt, if◌then◌else◌, zero, suc, ◌&&◌, Err, [], ◌∷◌, ◌++◌}
use Rattle.rota_core.specs.Certificates.{IsCertificateFor}
use Rattle.rota_core.specs.InstanceTables.{InstanceTables, problem_of}
use Rattle.rota_core.specs.Limits.{max_price}
use Rattle.rota_core.specs.PriceTables.{PriceTables}
use Rattle.rota_core.specs.Trees.{LeafTables, Tree, leaf_tree, leaves_in, split_tree}
use Rattle.rota_core.specs.declared.certificate.Certificate.{Certificate}
use Rattle.rota_core.specs.declared.fault.Kind.TheVariants as kinds
use Rattle.rota_certificate_read.specs.declared.certificate.NodeWord.{NodeWord}
use Rattle.rota_certificate_read.specs.declared.certificate.NodeWord.TheVariants as words
use Rattle.rota_certificate_read.specs.FactsLayout.{fact, keyword}
use Rattle.rota_layout.specs.Files.{Spells}
use Rattle.rota_layout.specs.Layout.{ℕ, Bool, Option, Some, None, List, map, codes, max_number}
use Rattle.rota_layout.specs.Layout.{ScenarioTables, Layout, end, slot, ◌>>=◌, exactly, number, any_word, repeat, setting}
use Rattle.rota_certificate_read.specs.PricesLayout.{price_table}

-- the lists of prices, and the tree
pub record CertificateTables : Type 0 where
  pub prices : List (List PriceTables)
  pub tree : Tree

-- one more table of prices
unfoldable pub table_row : ScenarioTables → List PriceTables → Layout (List PriceTables)
table_row t tables = do
  table ← price_table t
  end (tables ++ table ∷ [])

-- one more list of prices: a table for each week
unfoldable pub list_row : ScenarioTables → (weeks : ℕ) → List (List PriceTables) → Layout (List (List PriceTables))
list_row t weeks lists = do
  tables ← repeat weeks (table_row t) []
  end (lists ++ tables ∷ [])

-- one more surcharge
unfoldable pub surcharge_row : List ℕ → Layout (List ℕ)
surcharge_row surcharges = do
  surcharge ← number 0 max_price
  end (surcharges ++ surcharge ∷ [])

-- the rest of a leaf: the number of one of these prices, from 0, and its surcharges
unfoldable pub leaf : (prices : ℕ) → Layout LeafTables
leaf prices = do
  number ← number 0 (prices - 1)
  count ← setting (codes "SURCHARGES") 0 max_number
  surcharges ← repeat count surcharge_row []
  end (record { prices = number; surcharges = surcharges })

-- the word that a tree begins with, if it may be a split, and if it may be a leaf
abbrev pub node_word : (may_split may_end : Bool) → List ℕ → Option NodeWord
node_word may_split may_end word =
    if bytes_eq word (codes "SPLIT") && may_split then Some words.Split
    else (if bytes_eq word (codes "LEAF") && may_end then Some words.Leaf else None)

-- The rest of a tree of at least `low` and at most `high` leaves, which begins with a word: a fact, the tree of the case in which it holds,
-- and that of the case in which it does not; or a leaf. The first tree leaves one leaf or more to the second.
unfoldable pub tree_after : ScenarioTables → (weeks prices : ℕ) → (below : (low high : ℕ) → Layout Tree) → (low high : ℕ) → NodeWord → Layout Tree
tree_after t weeks prices below low high words.Split = do
  one ← fact t weeks
  first ← below 1 (high - 1)
  second ← below (low - leaves_in first) (high - leaves_in first)
  end (split_tree one first second)
tree_after t weeks prices below low high words.Leaf = do
  one ← leaf prices
  end (leaf_tree one)

-- A tree of at least `low` and at most `high` leaves: a split has two leaves or more, and a leaf is one. No tree is deeper than `depth`, which
-- says nothing if it is `high` or more, since a tree is never deeper than its number of leaves.
unfoldable pub tree_within : ScenarioTables → (weeks prices depth low high : ℕ) → Layout Tree
tree_within t weeks prices zero low high = slot (λ token. Err kinds.OtherWord)
tree_within t weeks prices (suc depth) low high = do
  word ← keyword (node_word (nat_lt 1 high) (nat_le low 1))
  tree_after t weeks prices (tree_within t weeks prices depth) low high word

-- a tree of this number of leaves
abbrev pub tree : ScenarioTables → (weeks prices leaves : ℕ) → Layout Tree
tree t weeks prices leaves = tree_within t weeks prices leaves leaves leaves

-- the slots of the whole file, for plans of this number of weeks; any word may be the scenario's name
unfoldable pub certificate : ScenarioTables → (weeks : ℕ) → Layout CertificateTables
certificate t weeks = do
  _ ← exactly (codes "CERTIFICATE")
  _ ← any_word
  _ ← setting (codes "WEEKS") weeks weeks
  count ← setting (codes "PRICES") 1 max_number
  prices ← repeat count (list_row t weeks) []
  leaves ← setting (codes "LEAVES") 1 max_number
  cases ← tree t weeks count leaves
  end (record { prices = prices; tree = cases })

-- the contents of a certificate
abbrev pub certificate_of : Certificate → CertificateTables
certificate_of one = record { prices = map (λ list. list.items) one.prices.items; tree = one.tree }

-- the text spells this certificate
abbrev pub SpellsCertificate : ScenarioTables → (weeks : ℕ) → List ℕ → Certificate → Type 0
SpellsCertificate t weeks text found = Spells (certificate t weeks) text (certificate_of found)

-- the certificate is for the weeks of the scenario
pub record IsCertificateOf (t : ScenarioTables) (weeks : ℕ) (found : Certificate) : Type 0 where
  pub each : (week : InstanceTables) → week.scenario ≡ t → IsCertificateFor (problem_of week) weeks found
