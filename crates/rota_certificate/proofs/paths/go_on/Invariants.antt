use Rattle.std.proofs.Common.{◌≡◌, reverse, length}
use Rattle.rota_certificate.specs.NextPaths.{next_path}
use Rattle.rota_certificate.proofs.paths.go_on.Given as goal

-- the next case is the one after the path so far
abbrev pub invariant-loop-last : goal.invariant-loop-last
invariant-loop-last l = next_path (reverse l.initial.path.items) ≡ next_path (reverse l.path.items)

abbrev pub decreases-loop-last : goal.decreases-loop-last
decreases-loop-last l = length l.path.items
