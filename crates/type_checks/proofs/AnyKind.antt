-- Each expression has some kind, so that an argument that takes any kind fits.
use Rattle.std.proofs.Common.{◌≡◌, ℕ, zero, suc, ◌+◌, true, false, List, ◌++◌, get_or, Option, Some, None, refl, sym, ap, ◌∙◌, append-nil}
use Rattle.acpi_state.specs.Outcomes.{choose}
use Rattle.acpi_values.specs.declared.operator.DataOp.{DataOp as DataOperator}
use Rattle.acpi_values.specs.declared.operator.DataOp.TheVariants as DataOp
use Rattle.acpi_values.specs.declared.operator.EventOp.{EventOp as EventOperator}
use Rattle.acpi_values.specs.declared.operator.EventOp.TheVariants as EventOp
use Rattle.acpi_values.specs.declared.operator.Plain.{Plain as Operator}
use Rattle.acpi_values.specs.declared.operator.Plain.TheVariants as Plain
use Rattle.asl_tree.specs.Symbols.{compound_operator}
use Rattle.asl_tree.specs.declared.term.Op.{Op as Operation}
use Rattle.asl_tree.specs.declared.term.Op.TheVariants as Op
use Rattle.asl_tree.specs.declared.term.Special.TheVariants as Special
use Rattle.asl_tree.specs.declared.term.Symbolic.TheVariants as Symbolic
use Rattle.term_plans.specs.Plans.{Plan, a_name, a_form, Plans, no_plans, plan}
use Rattle.asl_numbers.specs.Numbers.{inside}
use Rattle.iasl_messages.specs.declared.message.Message.{Message}
use Rattle.iasl_messages.specs.declared.place.Place.{Place}
use Rattle.name_entries.specs.declared.kind.ObjectType.{ObjectType as Named}
use Rattle.name_entries.specs.declared.kind.ObjectType.TheVariants as N
use Rattle.type_checks.specs.declared.kind.ValueKind.{ValueKind}
use Rattle.type_checks.specs.declared.kind.Wanted.TheVariants as W
use Rattle.type_checks.specs.Kinds.{any_data, object_kinds, name_kinds, plain_kinds, form_kinds, given_on, kinds_of, kinds_all}
use Rattle.type_checks.specs.Types.{fits, unless, argument_errors}

abbrev IsTaken : List ValueKind → Type 0
IsTaken kinds = fits W.Anything kinds ≡ true

of_object : (object : Named) → IsTaken (object_kinds object)
of_object N.Data = refl
of_object _ = refl

of_data_operator : (op : DataOperator) → IsTaken (plain_kinds (Plain.Data op))
of_data_operator DataOp.Store = refl
of_data_operator _ = refl

of_event_operator : (op : EventOperator) → IsTaken (plain_kinds (Plain.Event op))
of_event_operator EventOp.Wait = refl
of_event_operator _ = refl

of_operator : (op : Operator) → IsTaken (plain_kinds op)
of_operator (Plain.Number op) = refl
of_operator (Plain.Data op) = of_data_operator op
of_operator (Plain.Event op) = of_event_operator op

of_form : (op : Operation) → IsTaken (form_kinds op)
of_form (Op.Plain op) = of_operator op
of_form (Op.Symbolic (Symbolic.Operator op)) = of_operator op
of_form (Op.Symbolic (Symbolic.AssignBy op)) = of_operator (compound_operator op)
of_form (Op.Symbolic Symbolic.Assign) = refl
of_form (Op.Literal literal) = refl
of_form (Op.Special Special.CondRefOf) = refl
of_form (Op.Special Special.Buffer) = refl
of_form (Op.Special Special.Package) = refl
of_form (Op.Control control) = refl
of_form (Op.Declaration declaration) = refl

of_choice : (place : Option ℕ) (own : List ValueKind) (others : ℕ → List ValueKind) → IsTaken own → ((n : ℕ) → IsTaken (others n)) → IsTaken (choose place own others)
of_choice None own others first rest = first
of_choice (Some n) own others first rest = rest n

of_name : (object : Named) → IsTaken (name_kinds false object)
of_name N.Method = refl
of_name object = of_object object

module _ (names : ℕ → Named) where
  mutual
    of_value : (node : ℕ) (p : Plan) → IsTaken (kinds_of names false node p)
    of_value node (a_name name) = of_name (names node)
    of_value node (a_form op args body) =
        of_choice (given_on op) (form_kinds op) (λ place. get_or (kinds_all names (suc node) args) place any_data) (of_form op) (of_each (suc node) args)
    of_value node _ = refl

    of_each : (node : ℕ) (ps : Plans) (place : ℕ) → IsTaken (get_or (kinds_all names node ps) place any_data)
    of_each node no_plans zero = refl
    of_each node no_plans (suc place) = refl
    of_each node (plan at p ps) zero = of_value node p
    of_each node (plan at p ps) (suc place) = of_each (suc (node + inside p)) ps place

  -- nothing is told of an argument that takes any kind
  pub none_told : (node : ℕ) (place : Place) (p : Plan) (told : List Message) → told ≡ told ++ argument_errors names W.Anything node place p
  none_told node place p told = sym (ap (λ taken. told ++ unless taken place) (of_value node p) ∙ append-nil told)
