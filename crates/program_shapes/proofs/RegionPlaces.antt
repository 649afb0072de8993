-- The messages on the accesses of fields stand where the fields stand.
use Rattle.std.specs.Prelude.{ℕ, ◌<◌}
use Rattle.std.specs.List.{All}
use Rattle.iasl_messages.specs.declared.message.Message.{Message}
use Rattle.term_plans.specs.Plans.{Plan, a_form, Plans, no_plans, plan}
use Rattle.asl_tree.specs.Tree.{Tree, Method, Container', Scope, Trees, no_trees, tree, Field, BankField, If, ElseIf, Else, While, For, Switch, Case, Default}
use Rattle.named_sessions.specs.Places.{IsWithin, AreWithin}
use Rattle.descriptor_shapes.specs.Places.{PlanWithin, PlansWithin}
use Rattle.region_checks.specs.Places.{IsFieldWithin, AreFieldsWithin, IsBodyWithin, ArePartsWithin}
use Rattle.acpi_values.specs.declared.width.Width.{Width}
use Rattle.region_checks.specs.Regions.{region_errors}
use Rattle.region_checks.proofs.Places.{region_errors_within}
use Rattle.program_shapes.proofs.ListPlaces.{as_all}

module _ (files : ℕ) where
  mutual
    field_within : (t : Tree) → IsWithin files t → IsFieldWithin files t
    field_within (Field here from region flags items) h = h.0
    field_within (BankField here from region to bank value flags items) h = h.0
    field_within (Method at name flags body) h = fields_within body h.1
    field_within (Container' kind at name body) h = fields_within body h.1
    field_within (Scope here at name body) h = fields_within body h.2
    field_within (If test body) h = fields_within body h.1
    field_within (ElseIf test body) h = fields_within body h.1
    field_within (Else body) h = fields_within body h
    field_within (While test body) h = fields_within body h.1
    field_within (For start test step body) h = fields_within body h.3
    field_within (Switch value cases) h = fields_within cases h.1
    field_within (Case value body) h = fields_within body h.1
    field_within (Default body) h = fields_within body h
    field_within _ h = tt

    fields_within : (ts : Trees) → AreWithin files ts → AreFieldsWithin files ts
    fields_within no_trees h = tt
    fields_within (tree t ts) h = (field_within t h.0, fields_within ts h.1)

  mutual
    body_within : (p : Plan) → PlanWithin files p → IsBodyWithin files p
    body_within (a_form op args body) h = parts_within body h.1
    body_within _ h = tt

    parts_within : (ps : Plans) → PlansWithin files ps → ArePartsWithin files ps
    parts_within no_plans h = tt
    parts_within (plan place p ps) h = (h.0, body_within p h.1, parts_within ps h.2)

pub access_errors_within : (files : ℕ) (width : Width) (ts : Trees) (ps : Plans) → AreWithin files ts → PlansWithin files ps → All (λ (m : Message). m.place.file < files) (region_errors width ts ps)
access_errors_within files width ts ps h k = as_all files (region_errors width ts ps) (region_errors_within files width ts ps (fields_within files ts h) (parts_within files ps k))
