-- The regions and fields of a block, in the order of its terms, each with its scope (ACPI Specification 6.4, 19.6.7,
-- 19.6.48 and 19.6.100). A term is read twice: as a tree, which says its names, and as a plan, which says its constants.
use Rattle.std.specs.Prelude.{ℕ, ◌%◌, List, [], ◌∷◌, ◌++◌, Option, Some, None}
use Rattle.std.specs.Result.{result_ok}
use Rattle.acpi_values.specs.Paths.{AbsolutePath}
use Rattle.iasl_messages.specs.declared.message.Message.{Message}
use Rattle.acpi_state.specs.Access.{access_bytes}
use Rattle.acpi_state.specs.Objects.{MethodObject, ContainerObject}
use Rattle.asl_tree.specs.declared.path.Path.{Path}
use Rattle.asl_tree.specs.Names.{declared_path}
use Rattle.asl_tree.specs.Tree.{At, Tree, Method, Container', Scope, Trees, no_trees, tree, OperationRegion, Field, BankField, If, ElseIf}
use Rattle.asl_tree.specs.Tree.{Else, While, For, Switch, Case, Default}
use Rattle.asl_meaning.specs.Declarations.{As, Declarations, with_declared, scope_path, declare}
use Rattle.acpi_values.specs.declared.width.Width.{Width}
use Rattle.term_plans.specs.Plans.{Plan, a_form, Plans, no_plans, plan, plan_at, constant_of}
use Rattle.field_layout.specs.Segments.{first_said}
use Rattle.field_checks.specs.declared.units.UnitFault.{UnitFault}
use Rattle.field_checks.specs.Units.{unit_fault}
use Rattle.field_checks.specs.Lists.{term_errors}

-- a region that is declared, with its length in bytes where that is constant; a field in the region that a name
-- denotes, with the bytes of its accesses where its list has no error, and with the first fault of its units, if any,
-- by the space of the region
pub data Site : Type 0 where
  RegionAt : (path : AbsolutePath) (size : Option ℕ) → Site
  FieldIn : (here : At) (region : Path) (scope : AbsolutePath) (access : Option ℕ) (units : ℕ → Option UnitFault) → Site

-- the terms in a form
abbrev pub body_of : Plan → Plans
body_of (a_form op args body) = body
body_of _ = no_plans

-- the terms behind the first
abbrev pub rest_of : Plans → Plans
rest_of no_plans = no_plans
rest_of (plan place p ps) = ps

-- the length of a region is its fourth argument
abbrev pub region_size : Width → Plan → Option ℕ
region_size width (a_form op args body) = result_ok (constant_of width (plan_at args 3))
region_size width _ = None

-- a list has one error at most
abbrev pub if_none : List Message → ℕ → Option ℕ
if_none [] bytes = Some bytes
if_none (m ∷ ms) bytes = None

abbrev pub field_access : ℕ → Plan → Option ℕ
field_access flags p = if_none (term_errors p) (access_bytes flags)

abbrev pub field_units : ℕ → Plan → ℕ → Option UnitFault
field_units flags p = λ space. unit_fault space (first_said (flags % 16)) (body_of p)

-- constants are taken at this width
module _ (width : Width) where
  abbrev mutual
    pub sites : Tree → Plan → AbsolutePath → Declarations → List Site
    sites (OperationRegion at name space args) p scope d = RegionAt (declared_path name scope) (region_size width p) ∷ []
    sites (Field here from region flags items) p scope d = FieldIn here region scope (field_access flags p) (field_units flags p) ∷ []
    sites (BankField here from region to bank value flags items) p scope d = FieldIn here region scope (field_access flags p)
        (field_units flags p) ∷ []
    sites (Method at name flags body) p scope d =
        sites_all body (body_of p) (declared_path name scope) (with_declared (declared_path name scope) (As (MethodObject flags)) d)
    sites (Container' kind at name body) p scope d =
        sites_all body (body_of p) (declared_path name scope) (with_declared (declared_path name scope) (As (ContainerObject kind)) d)
    sites (Scope here at name body) p scope d = sites_all body (body_of p) (scope_path d name scope) d
    sites (If test body) p scope d = sites_all body (body_of p) scope d
    sites (ElseIf test body) p scope d = sites_all body (body_of p) scope d
    sites (Else body) p scope d = sites_all body (body_of p) scope d
    sites (While test body) p scope d = sites_all body (body_of p) scope d
    sites (For start test step body) p scope d = sites_all body (body_of p) scope d
    sites (Switch value cases) p scope d = sites_all cases (body_of p) scope d
    sites (Case value body) p scope d = sites_all body (body_of p) scope d
    sites (Default body) p scope d = sites_all body (body_of p) scope d
    sites t p scope d = []

    pub sites_all : Trees → Plans → AbsolutePath → Declarations → List Site
    sites_all no_trees ps scope d = []
    sites_all (tree t ts) ps scope d = sites t (plan_at ps 0) scope d ++ sites_all ts (rest_of ps) scope (declare t scope d)
