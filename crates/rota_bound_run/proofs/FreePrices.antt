-- A certificate of one leaf, in which each price is 0.
use Rattle.std.proofs.Common.{◌≡◌, ℕ, ap, sym, ◌∙◌, arith, [], length}
use Rattle.std.specs.List.{AllByRecursion}
use Rattle.rota_core.specs.InstanceTables.{InstanceTables, problem_of}
use Rattle.rota_core.specs.PriceTables.{IsForWeek, PriceTables}
use Rattle.rota_core.specs.Certificates.{IsTreeFor}
use Rattle.rota_core.specs.ScenarioTables.{ScenarioTables}
use Rattle.rota_core.specs.Trees.{leaf_tree, leaves_in}
use Rattle.rota_core.specs.declared.certificate.Certificate.{Certificate}
use Rattle.rota_core.proofs.LogicWords.{all-weaker}
use Rattle.rota_bound_run.specs.CertificateRead.{AreFreeTables, IsFree, IsFreeCertificate}

for-week : (t : ScenarioTables) (week : InstanceTables) → week.scenario ≡ t → (table : PriceTables) → IsFree t table → IsForWeek
    (problem_of week) table
for-week t week same table free = record {
  shifts = free.shifts ∙ ap (λ (s : ScenarioTables). length s.shifts) (sym same);
  skills = free.skills ∙ ap (λ (s : ScenarioTables). length s.skills) (sym same);
  within = λ d s k. omega (arith, free.free d s k);
}

pub is-free : (t : ScenarioTables) (weeks : ℕ) (found : Certificate) →
    AllByRecursion (λ list. AreFreeTables t weeks list.items) found.prices.items → length found.prices.items ≡ 1 →
    found.tree ≡ leaf_tree (record { prices = 0; surcharges = [] }) → IsFreeCertificate t weeks found
unfolding IsTreeFor leaves_in
is-free t weeks found free one leaf = record {
  fits = record {
    each = λ week same. record {
      prices =
          all-weaker (λ list. AreFreeTables t weeks list.items)
          (λ list. (length list.items ≡ weeks) × AllByRecursion (IsForWeek (problem_of week)) list.items)
          (λ list are. (are.count, all-weaker (IsFree t) (IsForWeek (problem_of week)) (for-week t week same) list.items are.free))
          found.prices.items free;
      tree = rw leaf (record { number = omega (arith, one); surcharges = tt });
      count = rw leaf (omega arith);
    };
  };
  lists = one;
  free = free;
  leaf = leaf;
}
