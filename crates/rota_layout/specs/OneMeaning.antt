-- A text spells one value or has one fault.
use Rattle.std.specs.Prelude.{◌≡◌, ℕ, List, ◌⊎◌}
use Rattle.rota_layout.specs.declared.fault.LineFault.{LineFault}
use Rattle.rota_layout.specs.Files.{Spells, HasFault}
use Rattle.rota_layout.specs.Layout.{Layout}

-- Every text spells one value or has one fault, and never both.
pub record OneMeaning {V : Type 0} (layout : Layout V) : Type 0 where
  pub some : (text : List ℕ) → ((value : V) × Spells layout text value) ⊎ ((fault : LineFault) × HasFault layout text fault)
  pub one_value : (text : List ℕ) (v w : V) → Spells layout text v → Spells layout text w → v ≡ w
  pub one_fault : (text : List ℕ) (e f : LineFault) → HasFault layout text e → HasFault layout text f → e ≡ f
  pub never_both : (text : List ℕ) (value : V) (fault : LineFault) → Spells layout text value → HasFault layout text fault → ⊥
