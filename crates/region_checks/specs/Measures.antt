-- What the regions and fields of a block say beside their names, in the order of its terms, and how this goes with the
-- mentions of names. These are the steps of the code between the nodes of a block and its sites.
use Rattle.std.specs.Prelude.{ℕ, ◌%◌, nat_eq, if◌then◌else◌, Bool, true, false, List, [], ◌∷◌, ◌++◌, Option, Some, None}
use Rattle.acpi_state.specs.Access.{access_bytes, is_buffer_space}
use Rattle.acpi_state.specs.Objects.{RegionObject}
use Rattle.iasl_messages.specs.declared.message.Message.{Message}
use Rattle.std.specs.Result.{result_ok}
use Rattle.acpi_state.specs.Outcomes.{choose}
use Rattle.asl_tree.specs.Names.{declared_path}
use Rattle.asl_tree.specs.Tree.{Tree, Method, Container', Scope, Trees, no_trees, tree, OperationRegion, Field, BankField, If, ElseIf}
use Rattle.asl_tree.specs.Tree.{Else, While, For, Switch, Case, Default}
use Rattle.asl_tree.specs.View.{items_in}
use Rattle.asl_meaning.specs.Declarations.{As}
use Rattle.acpi_names.specs.Errors.{ARegion}
use Rattle.acpi_names.specs.Mentions.{Mention, Used', Declares}
use Rattle.acpi_names.specs.Parts.{number_at}
use Rattle.acpi_names.specs.declared.part.NameRole.{NameRole}
use Rattle.acpi_names.specs.declared.part.NameRole.TheVariants as P
use Rattle.acpi_names.specs.declared.part.What.{What}
use Rattle.acpi_names.specs.declared.part.What.TheVariants as W
use Rattle.acpi_names.specs.declared.part.Over.TheVariants as O
use Rattle.acpi_values.specs.declared.width.Width.{Width}
use Rattle.term_plans.specs.Plans.{Plan, Plans, plan_at, constant_of}
use Rattle.field_layout.specs.declared.segments.Said.{Said}
use Rattle.field_layout.specs.Segments.{first_said}
use Rattle.field_checks.specs.declared.units.UnitFault.{UnitFault}
use Rattle.field_checks.specs.Units.{unit_fault}
use Rattle.region_checks.specs.declared.measure.UnitFaults.{UnitFaults}
use Rattle.region_checks.specs.declared.measure.Extent.{Extent}
use Rattle.region_checks.specs.declared.measure.Extent.TheVariants as M
use Rattle.region_checks.specs.Sites.{Site, RegionAt, FieldIn, body_of, rest_of, region_size, if_none, field_access}

-- the first faults of units by the kinds of spaces, of each of which one space is asked
abbrev pub faults_from : Said → Plans → UnitFaults
faults_from said body = record {
  serial = unit_fault 9 said body;
  bus = unit_fault 4 said body;
  pins = unit_fault 8 said body;
  other =
      unit_fault 0 said body;
}

abbrev pub unit_faults : ℕ → Plans → UnitFaults
unit_faults flags body = faults_from (first_said (flags % 16)) body

-- that of one space
abbrev pub fault_in : ℕ → UnitFaults → Option UnitFault
fault_in space faults =
    if nat_eq space 9 then faults.serial else
    (if nat_eq space 8 then faults.pins else (if is_buffer_space space then faults.bus else faults.other))

abbrev pub no_faults : UnitFaults
no_faults = record { serial = None; bus = None; pins = None; other = None }

-- what a field says with these flags, by its items and the errors of its list
abbrev pub list_measures : Option ℕ → Trees → Plans → List Message → List Extent
list_measures None body plans errors = []
list_measures (Some flags) body plans errors =
    choose (items_in body) [] (λ items. M.Access (if_none errors (access_bytes flags)) (unit_faults flags plans) ∷ [])

-- constants are taken at this width
module _ (width : Width) where
  abbrev mutual
    pub measures : Tree → Plan → List Extent
    measures (OperationRegion at name space args) p = M.Size (region_size width p) ∷ []
    measures (Field here from region flags items) p = M.Access (field_access flags p) (unit_faults flags (body_of p)) ∷ []
    measures (BankField here from region to bank value flags items) p = M.Access (field_access flags p) (unit_faults flags (body_of p)) ∷ []
    measures (Method at name flags body) p = measures_all body (body_of p)
    measures (Container' kind at name body) p = measures_all body (body_of p)
    measures (Scope here at name body) p = measures_all body (body_of p)
    measures (If test body) p = measures_all body (body_of p)
    measures (ElseIf test body) p = measures_all body (body_of p)
    measures (Else body) p = measures_all body (body_of p)
    measures (While test body) p = measures_all body (body_of p)
    measures (For start test step body) p = measures_all body (body_of p)
    measures (Switch value cases) p = measures_all cases (body_of p)
    measures (Case value body) p = measures_all body (body_of p)
    measures (Default body) p = measures_all body (body_of p)
    measures t p = []

    pub measures_all : Trees → Plans → List Extent
    measures_all no_trees ps = []
    measures_all (tree t ts) ps = measures t (plan_at ps 0) ++ measures_all ts (rest_of ps)

  -- the same by the part of a form
  abbrev pub opened_measures : Bool → Trees → Plans → List Extent
  opened_measures true body plans = measures_all body plans
  opened_measures false body plans = []

  abbrev pub declared_measures : What → Bool → Trees → Plans → Plans → List Extent
  declared_measures (W.Region space) opens body given plans = M.Size (result_ok (constant_of width (plan_at given 3))) ∷ []
  declared_measures what opens body given plans = opened_measures opens body plans

  abbrev pub part_measures : NameRole → Trees → Trees → Plans → Plans → List Message → List Extent
  part_measures (P.Declares n what opens) args body given plans errors = declared_measures what opens body given plans
  part_measures P.Scope args body given plans errors = measures_all body plans
  part_measures P.Within args body given plans errors = measures_all body plans
  part_measures (P.Units O.Region) args body given plans errors = list_measures (number_at 1 args) body plans errors
  part_measures (P.Units O.Bank) args body given plans errors = list_measures (number_at 3 args) body plans errors
  part_measures _ args body given plans errors = []

-- a mention of a region that is declared, or of one that a field uses
abbrev pub is_site : Mention → Bool
is_site (Declares at name (As (RegionObject space offset size)) scope) = true
is_site (Used' (ARegion here) at name scope) = true
is_site m = false

abbrev pub size_in : Option Extent → Option ℕ
size_in (Some (M.Size size)) = size
size_in _ = None

abbrev pub access_in : Option Extent → Option ℕ
access_in (Some (M.Access access units)) = access
access_in _ = None

abbrev pub units_in : Option Extent → UnitFaults
units_in (Some (M.Access access units)) = units
units_in _ = no_faults

-- the site that a mention is, with its measure
abbrev pub site_with : Mention → Option Extent → List Site
site_with (Declares at name (As (RegionObject space offset size)) scope) o = RegionAt (declared_path name scope) (size_in o) ∷ []
site_with (Used' (ARegion here) at name scope) o = FieldIn here name scope (access_in o) (λ space. fault_in space (units_in o)) ∷ []
site_with m o = []

abbrev pub first_measure : List Extent → Option Extent
first_measure [] = None
first_measure (p ∷ ps) = Some p

abbrev pub rest_measures : List Extent → List Extent
rest_measures [] = []
rest_measures (p ∷ ps) = ps

abbrev pub left_measures : Bool → List Extent → List Extent
left_measures true ps = rest_measures ps
left_measures false ps = ps

-- mentions with their measures
abbrev pub joined : List Mention → List Extent → List Site
joined [] ps = []
joined (m ∷ ms) ps = site_with m (first_measure ps) ++ joined ms (left_measures (is_site m) ps)
