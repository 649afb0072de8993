-- The messages on fields stand where the fields stand.
use Rattle.std.proofs.Common.{ℕ, ◌%◌, List, [], ◌∷◌, ◌++◌, Option, Some, None}
use Rattle.acpi_values.specs.Paths.{AbsolutePath}
use Rattle.iasl_messages.specs.declared.message.Message.{Message}
use Rattle.iasl_messages.specs.declared.place.Place.{Place}
use Rattle.term_plans.specs.Places.{IsIn}
use Rattle.acpi_values.specs.declared.width.Width.{Width}
use Rattle.asl_tree.specs.Names.{declared_path}
use Rattle.asl_tree.specs.Tree.{Tree, Method, Container', Scope, Trees, no_trees, tree, OperationRegion, Field, BankField, If, ElseIf, Else, While, For, Switch, Case, Default}
use Rattle.asl_meaning.specs.Declarations.{Declarations, scope_path, declare, nothing_declared}
use Rattle.acpi_names.specs.Errors.{Whole, whole_of, name_end}
use Rattle.term_plans.specs.Places.{AreTold}
use Rattle.term_plans.specs.Plans.{Plan, a_form, Plans, no_plans, plan, plan_at}
use Rattle.field_layout.specs.Layout.{region_fault}
use Rattle.field_layout.specs.declared.segments.Said.{Said}
use Rattle.field_layout.specs.Segments.{first_said, said_behind, item_fault}
use Rattle.field_checks.specs.declared.units.UnitFault.{UnitFault}
use Rattle.field_checks.specs.Units.{serial_item, unit_fault, unit_told}
use Rattle.name_kinds.specs.Kinds.{space_of}
use Rattle.acpi_state.specs.Outcomes.{choose}
use Rattle.acpi_state.specs.Objects.{Object}
use Rattle.region_checks.specs.Places.{IsFieldWithin, AreFieldsWithin, IsBodyWithin, ArePartsWithin}
use Rattle.region_checks.specs.Regions.{sizes, size_at, fault_told, access_errors, unit_errors, field_told, all_site_errors, region_errors}
use Rattle.region_checks.specs.Sites.{Site, RegionAt, FieldIn, body_of, rest_of, field_units, sites, sites_all}

module _ (files : ℕ) where
  abbrev IsFaultWithin : Option UnitFault → Type 0
  IsFaultWithin None = Unit {0}
  IsFaultWithin (Some fault) = IsIn files fault.place

  abbrev AreSitesWithin : List Site → Type 0
  AreSitesWithin [] = Unit {0}
  AreSitesWithin (RegionAt path size ∷ ss) = AreSitesWithin ss
  AreSitesWithin (FieldIn here region scope access units ∷ ss) = IsIn files here.place × ((space : ℕ) → IsFaultWithin (units space)) × AreSitesWithin ss

  -- a fault stands at a unit of the list
  units_within : (space : ℕ) (said : Said) (ps : Plans) → ArePartsWithin files ps → IsFaultWithin (unit_fault space said ps)
  units_within space said no_plans h = tt
  units_within space said (plan place p ps) h = by (item_fault space said (serial_item p)) (units_within space (said_behind said (serial_item p)) ps h.2)
    where
      by : (o : Option ℕ) → IsFaultWithin (unit_fault space (said_behind said (serial_item p)) ps)
          → IsFaultWithin (choose o (unit_fault space (said_behind said (serial_item p)) ps) (λ number. Some (record { place = place; number = number })))
      by None k = k
      by (Some number) k = h.0

  body_within : (p : Plan) → IsBodyWithin files p → ArePartsWithin files (body_of p)
  body_within (a_form op args body) h = h
  body_within _ h = tt

  field_units_within : (flags : ℕ) (p : Plan) → IsBodyWithin files p → (space : ℕ) → IsFaultWithin (field_units flags p space)
  field_units_within flags p h space = units_within space (first_said (flags % 16)) (body_of p) (body_within p h)

  first_part : (ps : Plans) → ArePartsWithin files ps → IsBodyWithin files (plan_at ps 0)
  first_part no_plans h = tt
  first_part (plan place p ps) h = h.1

  other_parts : (ps : Plans) → ArePartsWithin files ps → ArePartsWithin files (rest_of ps)
  other_parts no_plans h = tt
  other_parts (plan place p ps) h = h.2

  both_sites : (xs ys : List Site) → AreSitesWithin xs → AreSitesWithin ys → AreSitesWithin (xs ++ ys)
  both_sites [] ys h k = k
  both_sites (RegionAt path size ∷ xs) ys h k = both_sites xs ys h k
  both_sites (FieldIn here region scope access units ∷ xs) ys h k = (h.0, h.1, both_sites xs ys h.2 k)

  mutual
    site_within : (width : Width) (t : Tree) (p : Plan) (scope : AbsolutePath) (d : Declarations) → IsFieldWithin files t → IsBodyWithin files p → AreSitesWithin (sites width t p scope d)
    site_within width (OperationRegion at name space args) p scope d h k = tt
    site_within width (Field here from region flags items) p scope d h k = (h, field_units_within flags p k, tt)
    site_within width (BankField here from region to bank value flags items) p scope d h k = (h, field_units_within flags p k, tt)
    site_within width (Method at name flags body) p scope d h k = sites_within width body (body_of p) (declared_path name scope) _ h (body_within p k)
    site_within width (Container' kind at name body) p scope d h k = sites_within width body (body_of p) (declared_path name scope) _ h (body_within p k)
    site_within width (Scope here at name body) p scope d h k = sites_within width body (body_of p) (scope_path d name scope) d h (body_within p k)
    site_within width (If test body) p scope d h k = sites_within width body (body_of p) scope d h (body_within p k)
    site_within width (ElseIf test body) p scope d h k = sites_within width body (body_of p) scope d h (body_within p k)
    site_within width (Else body) p scope d h k = sites_within width body (body_of p) scope d h (body_within p k)
    site_within width (While test body) p scope d h k = sites_within width body (body_of p) scope d h (body_within p k)
    site_within width (For start test step body) p scope d h k = sites_within width body (body_of p) scope d h (body_within p k)
    site_within width (Switch value cases) p scope d h k = sites_within width cases (body_of p) scope d h (body_within p k)
    site_within width (Case value body) p scope d h k = sites_within width body (body_of p) scope d h (body_within p k)
    site_within width (Default body) p scope d h k = sites_within width body (body_of p) scope d h (body_within p k)
    site_within width t p scope d h k = tt

    sites_within : (width : Width) (ts : Trees) (ps : Plans) (scope : AbsolutePath) (d : Declarations) → AreFieldsWithin files ts → ArePartsWithin files ps → AreSitesWithin (sites_all width ts ps scope d)
    sites_within width no_trees ps scope d h k = tt
    sites_within width (tree t ts) ps scope d h k =
        both_sites (sites width t (plan_at ps 0) scope d) (sites_all width ts (rest_of ps) scope (declare t scope d)) (site_within width t (plan_at ps 0) scope d h.0 (first_part ps k)) (sites_within width ts (rest_of ps) scope (declare t scope d) h.1 (other_parts ps k))

  both_told : (xs ys : List Message) → AreTold files xs → AreTold files ys → AreTold files (xs ++ ys)
  both_told [] ys h k = k
  both_told (x ∷ xs) ys h k = (h.0, both_told xs ys h.1 k)

  fault_within : (place : Place) (fault : Option (ℕ × ℕ)) → IsIn files place → AreTold files (fault_told place fault)
  fault_within place None h = tt
  fault_within place (Some fault) h = (h, tt)

  access_within : (place : Place) (access size : Option ℕ) → IsIn files place → AreTold files (access_errors place access size)
  access_within place (Some access) size h = fault_within place (region_fault access size 0) h
  access_within place None size h = tt

  unit_within : (fault : Option UnitFault) → IsFaultWithin fault → AreTold files (unit_told fault)
  unit_within None h = tt
  unit_within (Some fault) h = (h, tt)

  fault_units : (units : ℕ → Option UnitFault) (space : Option ℕ) → ((n : ℕ) → IsFaultWithin (units n)) → IsFaultWithin (choose space None units)
  fault_units units None h = tt
  fault_units units (Some n) h = h n

  told_within : (regions : List (AbsolutePath × ℕ)) (place : Place) (access : Option ℕ) (units : ℕ → Option UnitFault) (end : Option (AbsolutePath × Object)) → IsIn files place
      → ((n : ℕ) → IsFaultWithin (units n)) → AreTold files (field_told regions place access units end)
  told_within regions place access units end h k =
      both_told (access_errors place access (size_at regions end)) (unit_errors units end) (access_within place access (size_at regions end) h)
      (unit_within (choose (space_of end) None units) (fault_units units (space_of end) k))

  errors_within : (whole : Whole) (regions : List (AbsolutePath × ℕ)) (ss : List Site) → AreSitesWithin ss → AreTold files (all_site_errors whole regions ss)
  errors_within whole regions [] h = tt
  errors_within whole regions (RegionAt path size ∷ ss) h = errors_within whole regions ss h
  errors_within whole regions (FieldIn here region scope access units ∷ ss) h =
      let end = name_end whole region scope in
      both_told (field_told regions here.place access units end) (all_site_errors whole regions ss) (told_within regions here.place access units end h.0 h.1) (errors_within whole regions ss h.2)

pub region_errors_within : (files : ℕ) (width : Width) (ts : Trees) (ps : Plans) → AreFieldsWithin files ts → ArePartsWithin files ps → AreTold files (region_errors width ts ps)
region_errors_within files width ts ps h k =
    let ss = sites_all width ts ps [] nothing_declared in
    errors_within files (whole_of ts) (sizes ss) ss (sites_within files width ts ps [] nothing_declared h k)
