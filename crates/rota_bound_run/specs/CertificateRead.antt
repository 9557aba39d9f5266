-- The certificate, read from its file and checked.
use Rattle.std.specs.Prelude.{◌≡◌, ◌⊎◌, ℕ, List, [], length}
use Rattle.std.specs.List.{AllByRecursion}
use Rattle.rota_core.specs.PriceTables.{PriceTables, prices_of}
use Rattle.rota_core.specs.ScenarioTables.{ScenarioTables}
use Rattle.rota_core.specs.Trees.{leaf_tree}
use Rattle.rota_core.specs.declared.certificate.Certificate.{Certificate}
use Rattle.rota_core.specs.declared.fault.FileFault.TheVariants as refusals
use Rattle.rota_core.specs.declared.fault.FileName.TheVariants as names
use Rattle.rota_core.specs.declared.fault.Kind.TheVariants.{Repeated}
use Rattle.rota_certificate.specs.CasePaths.{RepeatsFact}
use Rattle.rota_certificate_read.specs.CertificateLayout.{IsCertificateOf, SpellsCertificate, certificate}
use Rattle.rota_pb.specs.RunPorts.{IsRead, Reader}
use Rattle.rota_pb.specs.Steps.{Step, ◌>>=◌, call, check}
use Rattle.rota_pb.specs.WeekFiles.{FailsCheck}
use Rattle.rota_pb.specs.declared.fault.Fault.{Fault}
use Rattle.rota_pb.specs.declared.fault.Fault.TheVariants.{File, Memory}
use Rattle.rota_bound_run.specs.PeriodSteps.{Optional, absent, let_go, lost, read_by}

-- a table of the scenario, in which each price is 0
pub record IsFree (s : ScenarioTables) (table : PriceTables) : Type 0 where
  pub shifts : table.shifts ≡ length s.shifts
  pub skills : table.skills ≡ length s.skills
  pub free : (d s k : ℕ) → prices_of table d s k ≡ 0

-- there is such a table for each week
pub record AreFreeTables (s : ScenarioTables) (weeks : ℕ) (tables : List PriceTables) : Type 0 where
  pub count : length tables ≡ weeks
  pub free : AllByRecursion (IsFree s) tables

-- a certificate of one leaf, in which each price is 0
pub record IsFreeCertificate (s : ScenarioTables) (weeks : ℕ) (found : Certificate) : Type 0 where
  pub fits : IsCertificateOf s weeks found
  pub lists : length found.prices.items ≡ 1
  pub free : AllByRecursion (λ list. AreFreeTables s weeks list.items) found.prices.items
  pub leaf : found.tree ≡ leaf_tree (record { prices = 0; surcharges = [] })

-- a fact is on a path of the certificate more than once: the fault is of the whole file
pub record HasRepeatedFact (found : Certificate) (fault : Fault) : Type 0 where
  pub repeats : RepeatsFact found
  pub fault_is : fault ≡ File (refusals.Bad Repeated names.Certificate 0)

-- the certificate is refused if a fact is on a path of it more than once, or if memory runs out
abbrev pub check_paths : Certificate → Step Certificate
check_paths found = check (λ same. (same ≡ found) × ¬ RepeatsFact found) (λ fault. (fault ≡ Memory) ⊎ HasRepeatedFact found fault)

-- the certificate is read and checked; without a file each price is 0
abbrev pub read_proof : ScenarioTables → (weeks : ℕ) → Optional Reader → Step Certificate
read_proof s weeks absent = check (IsFreeCertificate s weeks) (λ fault. fault ≡ Memory)
read_proof s weeks let_go = lost
read_proof s weeks (read_by reader) = do
  found ← call reader (λ found. IsRead (SpellsCertificate s weeks) reader found × IsCertificateOf s weeks found)
      (FailsCheck names.Certificate (certificate s weeks) reader)
  check_paths found
