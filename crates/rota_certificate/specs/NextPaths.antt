-- The path to the next case of a tree, as a walk over its nodes in preorder finds it.
use Rattle.std.specs.Prelude.{if◌then◌else◌, Option, Some, None, [], ◌∷◌}
use Rattle.rota_certificate.specs.CasePaths.{CasePath, without}

-- the path to the case that comes next in the tree, after all cases below the end of this path
unfoldable pub next_path : CasePath → Option CasePath
next_path [] = None
next_path (condition ∷ path) = (if condition.holds then Some (without condition.fact ∷ path) else next_path path)
