-- The names of resource descriptors as terms of their own (ACPI Specification 6.4, 19.2.8): beside the term in which a template
-- stands, each of its descriptors that has a name is declared by a term `Name`, whose value is no bytes and the descriptor.
use Rattle.std.specs.Prelude.{Bool, true, false, ◌||◌, if◌then◌else◌, List, [], ◌∷◌, ◌++◌}
use Rattle.acpi_values.specs.Paths.{NameSeg}
use Rattle.iasl_messages.specs.declared.place.Place.{Place}
use Rattle.asl_tree.specs.declared.path.Path.{Path}
use Rattle.asl_tree.specs.declared.term.Op.{Op}
use Rattle.asl_tree.specs.declared.term.Declaration.{Declaration}
use Rattle.asl_tree.specs.declared.term.NamedDescriptor.{NamedDescriptor}
use Rattle.term_plans.specs.Plans.{Plan, a_fill, a_name, a_call, a_form, Plans, no_plans, plan, plan_at, join}
use Rattle.term_plans.specs.Plans.{named_of}

-- whether the body of a form is a list of terms
abbrev pub has_terms : Op → Bool
has_terms (Op.Declaration Declaration.Method) = true
has_terms (Op.Declaration Declaration.Device) = true
has_terms (Op.Declaration Declaration.ThermalZone) = true
has_terms (Op.Declaration Declaration.PowerResource) = true
has_terms (Op.Declaration Declaration.Processor) = true
has_terms (Op.Declaration Declaration.Scope) = true
has_terms (Op.Control control) = true
has_terms _ = false

-- whether a term declares its own name before its expressions
abbrev pub names_first : Op → Bool
names_first (Op.Declaration Declaration.Name) = true
names_first (Op.Declaration Declaration.OperationRegion) = true
names_first _ = false

-- the descriptors that have names in a term, those in terms of its body aside
abbrev mutual
  pub names_inside : Plan → List NamedDescriptor
  names_inside (a_fill bytes named) = named
  names_inside (a_call name args) = names_among args
  names_inside (a_form op args body) = names_among args ++ (if has_terms op then [] else names_among body)
  names_inside _ = []

  pub names_among : Plans → List NamedDescriptor
  names_among no_plans = []
  names_among (plan place p ps) = names_inside p ++ names_among ps

-- whether a template in the terms, those of bodies too, has a descriptor with a name
abbrev mutual
  pub names_descriptor : Plan → Bool
  names_descriptor (a_fill bytes []) = false
  names_descriptor (a_fill bytes (named ∷ others)) = true
  names_descriptor (a_call name args) = names_descriptors args
  names_descriptor (a_form op args body) = names_descriptors args || names_descriptors body
  names_descriptor _ = false

  pub names_descriptors : Plans → Bool
  names_descriptors no_plans = false
  names_descriptors (plan place p ps) = names_descriptor p || names_descriptors ps

abbrev pub segment_path : NameSeg → Path
segment_path segment = record { root = false; up = 0; segs = segment ∷ [] }

-- the term that declares a descriptor
abbrev pub declaration : NamedDescriptor → Plan
declaration named =
    a_form (Op.Declaration Declaration.Name)
    (plan named.place (a_name (segment_path named.name)) (plan named.place (a_fill [] (named ∷ [])) no_plans)) no_plans

abbrev pub declarations : List NamedDescriptor → Plans
declarations [] = no_plans
declarations (named ∷ others) = plan named.place (declaration named) (declarations others)

abbrev pub alone : Place → Plan → Plans
alone place p = plan place p no_plans

-- a term and the names beside it, which stand behind it where it declares its own name first
abbrev pub beside : Bool → Plans → Plans → Plans
beside first names term = if first then join term names else join names term

abbrev pub is_first : Plan → Bool
is_first (a_form op args body) = names_first op
is_first _ = false

-- terms with those that declare their descriptors, in the order in which the names are written
abbrev mutual
  pub opened : Plan → Plan
  opened (a_form op args body) = a_form op args (if has_terms op then declaring body else body)
  opened p = p

  pub declaring : Plans → Plans
  declaring no_plans = no_plans
  declaring (plan place p ps) = join (beside (is_first p) (declarations (names_inside p)) (alone place (opened p))) (declaring ps)

-- what one term comes to
abbrev pub with_names : Place → Plan → Plans
with_names place p = beside (is_first p) (declarations (names_inside p)) (alone place (opened p))

-- the descriptor that a term declares: a Name has no value without bytes otherwise
abbrev pub is_naming : Op → Bool
is_naming (Op.Declaration Declaration.Name) = true
is_naming _ = false

abbrev pub declared_by : Plan → List NamedDescriptor
declared_by (a_form op args body) = if is_naming op then named_of (plan_at args 1) else []
declared_by _ = []

-- terms without those that declare descriptors
abbrev pub unless_declared : List NamedDescriptor → Plans → Plans
unless_declared [] term = term
unless_declared (named ∷ others) term = no_plans

abbrev mutual
  pub closed : Plan → Plan
  closed (a_form op args body) = a_form op args (if has_terms op then stripped body else body)
  closed p = p

  pub stripped : Plans → Plans
  stripped no_plans = no_plans
  stripped (plan place p ps) = join (unless_declared (declared_by p) (alone place (closed p))) (stripped ps)

-- what one term comes to
abbrev pub kept : Place → Plan → Plans
kept place p = unless_declared (declared_by p) (alone place (closed p))
