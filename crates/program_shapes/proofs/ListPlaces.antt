-- The messages on the lists of fields stand where the items of the lists stand.
use Rattle.std.proofs.Common.{ℕ, ◌%◌, ◌<◌, List, [], ◌∷◌, ◌++◌, Option, Some, None, arith}
use Rattle.std.specs.List.{All}
use Rattle.std.proofs.lemmas.List.Elements.{All-cons}
use Rattle.acpi_state.specs.Outcomes.{choose}
use Rattle.iasl_messages.specs.declared.message.Message.{Message}
use Rattle.asl_tree.specs.FieldItems.{FieldItem, behind_item}
use Rattle.asl_tree.specs.declared.term.Op.{Op}
use Rattle.asl_tree.specs.declared.term.Declaration.{Declaration}
use Rattle.term_plans.specs.Plans.{Plan, a_form, Plans, no_plans, plan, plan_at, number_of}
use Rattle.term_plans.specs.Places.{fault_at}
use Rattle.term_plans.specs.Places.{AreTold}
use Rattle.field_layout.specs.Layout.{item_fault}
use Rattle.field_layout.specs.declared.segments.Said.{Said}
use Rattle.field_layout.specs.Segments.{first_said, said_behind, item_fault as item_fault'}
use Rattle.field_checks.specs.Units.{serial_item, unit_fault, unit_told, index_fault}
use Rattle.field_checks.specs.Lists.{item_in, list_errors, field_errors, term_errors, all_errors}
use Rattle.descriptor_shapes.specs.Places.{PlanWithin, PlansWithin}

module _ (files : ℕ) where
  both : (xs ys : List Message) → AreTold files xs → AreTold files ys → AreTold files (xs ++ ys)
  both [] ys h k = k
  both (x ∷ xs) ys h k = (h.0, both xs ys h.1 k)

  list_within : (at : ℕ) (ps : Plans) → PlansWithin files ps → AreTold files (list_errors at ps)
  list_within at no_plans h = tt
  list_within at (plan place p ps) h = by_item (item_in p) (λ next. list_within next ps h.2)
    where
      by_fault : (fault : Option ℕ) (rest : List Message) → AreTold files rest → AreTold files (choose fault rest (λ number. fault_at number place ∷ []))
      by_fault None rest k = k
      by_fault (Some number) rest k = (h.0, tt)

      by_item : (item : Option (FieldItem ℕ)) → ((next : ℕ) → AreTold files (list_errors next ps)) → AreTold files (choose item [] (λ item. choose (item_fault at item) (list_errors (behind_item at item) ps) (λ number. fault_at number place ∷ [])))
      by_item None k = tt
      by_item (Some item) k = by_fault (item_fault at item) (list_errors (behind_item at item) ps) (k (behind_item at item))

  unit_within : (space : ℕ) (said : Said) (ps : Plans) → PlansWithin files ps → AreTold files (unit_told (unit_fault space said ps))
  unit_within space said no_plans h = tt
  unit_within space said (plan place p ps) h = by (item_fault' space said (serial_item p)) (unit_within space (said_behind said (serial_item p)) ps h.2)
    where
      by : (o : Option ℕ) → AreTold files (unit_told (unit_fault space (said_behind said (serial_item p)) ps))
          → AreTold files (unit_told (choose o (unit_fault space (said_behind said (serial_item p)) ps) (λ number. Some (record { place = place; number = number }))))
      by None k = k
      by (Some number) k = (h.0, tt)

  field_within : (op : Op) (args body : Plans) → PlansWithin files body → AreTold files (field_errors op args body)
  field_within (Op.Declaration Declaration.Field) args body h = list_within 0 body h
  field_within (Op.Declaration Declaration.IndexField) args body h =
      both (list_errors 0 body) (unit_told (index_fault args body)) (list_within 0 body h) (unit_within 0 (first_said (number_of (plan_at args 2) % 16)) body h)
  field_within (Op.Declaration Declaration.BankField) args body h = list_within 0 body h
  field_within _ args body h = tt

  mutual
    term_within : (p : Plan) → PlanWithin files p → AreTold files (term_errors p)
    term_within (a_form op args body) h = both (field_errors op args body) (all_errors body) (field_within op args body h.1) (all_within body h.1)
    term_within _ h = tt

    all_within : (ps : Plans) → PlansWithin files ps → AreTold files (all_errors ps)
    all_within no_plans h = tt
    all_within (plan place p ps) h = both (term_errors p) (all_errors ps) (term_within p h.1) (all_within ps h.2)

  pub as_all : (ms : List Message) → AreTold files ms → All (λ m. m.place.file < files) ms
  as_all [] h = λ i m lt. absurd (omega (arith, lt))
  as_all (m ∷ ms) h = All-cons (λ m. m.place.file < files) m ms h.0 (as_all ms h.1)

pub list_errors_within : (files : ℕ) (ps : Plans) → PlansWithin files ps → All (λ m. m.place.file < files) (all_errors ps)
list_errors_within files ps h = as_all files (all_errors ps) (all_within files ps h)
