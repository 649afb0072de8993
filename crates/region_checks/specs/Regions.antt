-- The fields whose accesses are wider than their regions, and the units that do not fit the spaces of theirs.
use Rattle.std.specs.Prelude.{ℕ, List, [], ◌∷◌, ◌++◌, Option, Some, None}
use Rattle.acpi_values.specs.Paths.{AbsolutePath}
use Rattle.acpi_values.specs.declared.width.Width.{Width}
use Rattle.iasl_messages.specs.declared.message.Message.{Message}
use Rattle.iasl_messages.specs.declared.place.Place.{Place}
use Rattle.acpi_state.specs.Objects.{Object, lookup}
use Rattle.asl_tree.specs.Tree.{Trees}
use Rattle.asl_meaning.specs.Declarations.{nothing_declared}
use Rattle.acpi_names.specs.Errors.{Whole, whole_of, name_end}
use Rattle.term_plans.specs.Plans.{Plans}
use Rattle.term_plans.specs.Places.{fault_at}
use Rattle.field_layout.specs.Layout.{region_fault}
use Rattle.acpi_state.specs.Outcomes.{choose}
use Rattle.name_kinds.specs.Kinds.{space_of}
use Rattle.field_checks.specs.declared.units.UnitFault.{UnitFault}
use Rattle.field_checks.specs.Units.{unit_told}
use Rattle.region_checks.specs.Sites.{Site, RegionAt, FieldIn, sites_all}

-- the regions whose lengths are constant
abbrev pub sizes : List Site → List (AbsolutePath × ℕ)
sizes [] = []
sizes (RegionAt path (Some size) ∷ sites) = (path, size) ∷ sizes sites
sizes (_ ∷ sites) = sizes sites

-- the constant length of the region at which a name ends
abbrev pub size_at : List (AbsolutePath × ℕ) → Option (AbsolutePath × Object) → Option ℕ
size_at regions None = None
size_at regions (Some end) = lookup regions end.0

-- a fault of a layout, told at the field
abbrev pub fault_told : Place → Option (ℕ × ℕ) → List Message
fault_told place None = []
fault_told place (Some fault) = fault_at fault.1 place ∷ []

-- what is told of an access of so many bytes, as the layout of its list has it
abbrev pub access_errors : Place → Option ℕ → Option ℕ → List Message
access_errors place None size = []
access_errors place (Some access) size = fault_told place (region_fault access size 0)

-- what is told of the units of a field in a region that ends so: nothing, unless it is declared in this source
abbrev pub unit_errors : (ℕ → Option UnitFault) → Option (AbsolutePath × Object) → List Message
unit_errors units end = unit_told (choose (space_of end) None units)

-- what is told of a field, by where the name of its region ends
abbrev pub field_told : List (AbsolutePath × ℕ) → Place → Option ℕ → (ℕ → Option UnitFault) → Option (AbsolutePath × Object) → List Message
field_told regions place access units end = access_errors place access (size_at regions end) ++ unit_errors units end

module _ (whole : Whole) (regions : List (AbsolutePath × ℕ)) where
  abbrev pub site_errors : Site → List Message
  site_errors (RegionAt path size) = []
  site_errors (FieldIn here region scope access units) = field_told regions here.place access units (name_end whole region scope)

  abbrev pub all_site_errors : List Site → List Message
  all_site_errors [] = []
  all_site_errors (site ∷ sites) = site_errors site ++ all_site_errors sites

abbrev pub sited_errors : Whole → List Site → List Message
sited_errors whole sites = all_site_errors whole (sizes sites) sites

-- the errors of a block, read as trees and as plans, whose constants are taken at this width
abbrev pub region_errors : Width → Trees → Plans → List Message
region_errors width terms plans = sited_errors (whole_of terms) (sites_all width terms plans [] nothing_declared)
