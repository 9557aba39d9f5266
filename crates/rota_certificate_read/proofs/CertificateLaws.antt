-- The certificate that a text spells is for the weeks of the scenario.
use Rattle.std.proofs.Common.{◌≡◌, ℕ, zero, suc, ◌+◌, ◌<◌, ◌≤◌}
use Rattle.std.proofs.Common.{List, [], ◌∷◌, ◌++◌, length, map, Ok, refl, sym, subst, arith}
use Rattle.std.specs.List.{AllByRecursion}
use Rattle.std.proofs.lemmas.List.{length-map}
use Rattle.rota_core.specs.Certificates.{IsTreeFor}
use Rattle.rota_core.specs.InstanceTables.{InstanceTables, problem_of}
use Rattle.rota_core.specs.PriceTables.{IsForWeek, PriceTables}
use Rattle.rota_core.specs.ScenarioTables.{ScenarioTables, numbers_of}
use Rattle.rota_core.specs.Trees.{leaves_in}
use Rattle.rota_core.specs.declared.certificate.Certificate.{Certificate}
use Rattle.rota_certificate_read.specs.CertificateLayout.{certificate, certificate_of, CertificateTables, IsCertificateOf, list_row, SpellsCertificate, table_row}
use Rattle.rota_layout.specs.Files.{Fills, Spells}
use Rattle.rota_layout.specs.Layout.{codes, max_number, repeat}
use Rattle.rota_layout.specs.Reading.{read_text}
use Rattle.rota_layout.specs.Tokens.{Token}
use Rattle.rota_certificate_read.proofs.PricesLaws.{table-for_week}
use Rattle.rota_certificate_read.proofs.TreeLaws.{tree-within}
use Rattle.rota_layout.proofs.ReadingLaws.{spells-read, fault_in-read, setting-within, all_push, length_push}

-- ---- the lists of prices

module _ (week : InstanceTables) (weeks : ℕ) where
  abbrev IsTable : PriceTables → Type 0
  IsTable = IsForWeek (problem_of week)

  abbrev IsTables : List PriceTables → Type 0
  IsTables tables = (length tables ≡ weeks) × AllByRecursion IsTable tables

  table_rows-keep : (n i : ℕ) (tables : List PriceTables) (front : List Token) (last : List PriceTables) →
      Fills (repeat n (table_row week.scenario) tables) front last → length tables ≡ i → AllByRecursion IsTable tables →
      (length last ≡ n + i) × AllByRecursion IsTable last
  unfolding Fills repeat table_row
  table_rows-keep zero i tables front last h size k = rw h.1 (omega (arith, size), k)
  table_rows-keep (suc n) i tables front last h size k =
      let row = h.4 in
      let kept = all_push IsTable tables row.0 k (table-for_week week row.1 row.0 row.4) in
      let longer = length_push tables row.0 i size in
      let rest = subst (λ (next : List PriceTables). Fills (repeat n (table_row week.scenario) next) h.2 last) row.5.1 h.5 in
      let all = table_rows-keep n (suc i) (tables ++ row.0 ∷ []) h.2 last rest longer kept in
      (omega (arith, all.0), all.1)

  list_rows-keep : (n i : ℕ) (lists : List (List PriceTables)) (front : List Token) (last : List (List PriceTables)) →
      Fills (repeat n (list_row week.scenario weeks) lists) front last → length lists ≡ i → AllByRecursion IsTables lists →
      (length last ≡ n + i) × AllByRecursion IsTables last
  unfolding Fills repeat list_row
  list_rows-keep zero i lists front last h size k = rw h.1 (omega (arith, size), k)
  list_rows-keep (suc n) i lists front last h size k =
      let row = h.4 in
      let tables = table_rows-keep weeks 0 [] row.1 row.0 row.4 refl tt in
      let kept = all_push IsTables lists row.0 k (omega (arith, tables.0), tables.1) in
      let longer = length_push lists row.0 i size in
      let rest = subst (λ (next : List (List PriceTables)). Fills (repeat n (list_row week.scenario weeks) next) h.2 last) row.5.1 h.5 in
      let all = list_rows-keep n (suc i) (lists ++ row.0 ∷ []) h.2 last rest longer kept in
      (omega (arith, all.0), all.1)

-- ---- the whole file

all_of_map : {X Y : Type 0} (P : Y → Type 0) (f : X → Y) (xs : List X) → AllByRecursion P (map f xs) → AllByRecursion (λ x. P (f x)) xs
all_of_map P f [] h = tt
all_of_map P f (x ∷ xs) h = (h.0, all_of_map P f xs h.1)

-- the prices and the tree of a certificate that is spelled
record AreFor (week : InstanceTables) (weeks : ℕ) (tables : CertificateTables) : Type 0 where
  pub prices : AllByRecursion (IsTables week weeks) tables.prices
  pub tree : IsTreeFor (numbers_of week.scenario) weeks (length tables.prices) tables.tree
  pub count : leaves_in tables.tree ≤ max_number

spelled-are : (week : InstanceTables) (weeks : ℕ) (text : List ℕ) (tables : CertificateTables) →
    Spells (certificate week.scenario weeks) text tables → AreFor week weeks tables
unfolding Fills certificate
spelled-are week weeks text tables h =
    -- the word, any word, the number of weeks, the number of prices, the prices, the number of leaves, the tree
    let count = h.filled.5.5.5 in
    let prices = count.5 in
    let leaves = prices.5 in
    let tree = leaves.5 in
    let some = (setting-within (codes "PRICES") 1 max_number count.1 count.0 count.4).0 in
    let within = setting-within (codes "LEAVES") 1 max_number leaves.1 leaves.0 leaves.4 in
    let lists = list_rows-keep week weeks count.0 0 [] prices.1 prices.0 prices.4 refl tt in
    let is = tree-within week.scenario weeks count.0 some leaves.0 leaves.0 leaves.0 tree.1 tree.0 within.0 tree.4 in
    let size : count.0 ≡ length prices.0 = omega (arith, lists.0) in
    rw tree.5.1 (record {
      prices = lists.1;
      tree = subst (λ n. IsTreeFor (numbers_of week.scenario) weeks n tree.0) size is.is_for;
      count = omega (arith, is.most, within.1);
    })

-- a certificate that is read is for each week of the scenario
pub certificate-read : (t : ScenarioTables) (weeks : ℕ) (text : List ℕ) (found : Certificate) →
    read_text (certificate t weeks) text ≡ Ok (certificate_of found) → IsCertificateOf t weeks found
certificate-read t weeks text found h = record {
  each = λ week same.
      let spelled = spells-read (certificate t weeks) text (certificate_of found) h in
      let are = spelled-are week weeks text (certificate_of found) (subst (λ s. SpellsCertificate s weeks text found) (sym same) spelled) in
      record {
        prices = all_of_map (IsTables week weeks) (λ list. list.items) found.prices.items are.prices;
        tree = subst (λ n. IsTreeFor (numbers_of week.scenario) weeks n found.tree) (length-map found.prices.items (λ list. list.items)) are.tree;
        count = are.count;
      };
}

-- the results of the reader of certificates, by the results of reading
pub ruleset certificate_steps = (spells-read, fault_in-read, certificate-read)
