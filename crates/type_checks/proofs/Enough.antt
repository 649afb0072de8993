-- What is data by what it is alone fits wherever no more than data is asked for.
use Rattle.std.proofs.Common.{◌≡◌, ℕ, zero, suc, Bool, true, false, List, [], ◌∷◌, ◌++◌, get_or, Option, Some, None, Vec, Global, refl, sym, ap, ◌∙◌, append-nil}
use Rattle.std.specs.Prelude.{nat_lt, slice_get, unwrap_or, if◌then◌else◌}
use Rattle.std.proofs.lemmas.Bool.{not-true}
use Rattle.acpi_state.specs.Outcomes.{choose}
use Rattle.acpi_values.specs.declared.operator.DataOp.{DataOp as DataOperator}
use Rattle.acpi_values.specs.declared.operator.DataOp.TheVariants as DataOp
use Rattle.acpi_values.specs.declared.operator.EventOp.{EventOp as EventOperator}
use Rattle.acpi_values.specs.declared.operator.EventOp.TheVariants as EventOp
use Rattle.acpi_values.specs.declared.operator.Plain.{Plain as Operator}
use Rattle.acpi_values.specs.declared.operator.Plain.TheVariants as Plain
use Rattle.acpi_values.specs.Operators.{Letter, Valued, row_of}
use Rattle.asl_tree.specs.Symbols.{compound_operator}
use Rattle.asl_tree.specs.declared.path.Path.{Path}
use Rattle.asl_tree.specs.declared.term.Op.{Op as Operation}
use Rattle.asl_tree.specs.declared.term.Op.TheVariants as Op
use Rattle.asl_tree.specs.declared.term.Compound.{Compound as CompoundOperator}
use Rattle.asl_tree.specs.declared.term.Compound.TheVariants as Compound
use Rattle.asl_tree.specs.declared.term.Control.TheVariants as Control
use Rattle.asl_tree.specs.declared.term.Declaration.TheVariants as Declaration
use Rattle.asl_tree.specs.declared.term.Special.TheVariants as Special
use Rattle.asl_tree.specs.declared.term.Symbolic.TheVariants as Symbolic
use Rattle.asl_tree.specs.declared.term.Node.{Node}
use Rattle.asl_tree.specs.declared.term.Term.{Term}
use Rattle.asl_tree.specs.declared.term.Term as D
use Rattle.term_plans.specs.Plans.{Plan, a_name, debug, a_form, plan_of}
use Rattle.term_plans.proofs.Plans.{plan_form, plan_call}
use Rattle.term_plans.proofs.Terms.{name_term, debug_term}
use Rattle.iasl_messages.specs.declared.message.Message.{Message}
use Rattle.iasl_messages.specs.declared.place.Place.{Place}
use Rattle.name_entries.specs.declared.kind.ObjectType.{ObjectType as Named}
use Rattle.type_checks.specs.declared.kind.ValueKind.{ValueKind}
use Rattle.type_checks.specs.declared.kind.Wanted.{Wanted}
use Rattle.type_checks.specs.declared.kind.Wanted.TheVariants as W
use Rattle.type_checks.specs.Kinds.{any_data, by_letter, own_operands, letter_wanted, operand, form_arguments, listed_argument, data_behind, wanted_of, asks_more, asks_data, plain_kinds, form_kinds, given_on, kinds_of, kinds_all, gives_data, is_data}
use Rattle.type_checks.specs.Types.{fits, unless, argument_errors}
use Rattle.type_checks.proofs.AnyKind.{none_told as any_told}
use Rattle.type_checks.proofs.Terms.{by_term}

-- ---- what is asked for

abbrev IsEnough : Wanted → Bool
IsEnough W.Anything = true
IsEnough W.Data = true
IsEnough wants = false

by_letters : (o : Option Letter) → IsEnough (by_letter o) ≡ true
by_letters None = refl
by_letters (Some Valued) = refl
by_letters (Some letter) = refl

abbrev AreEnough : List Wanted → Bool
AreEnough [] = true
AreEnough (wants ∷ others) = if IsEnough wants then AreEnough others else false

among : (wants : List Wanted) (other : Wanted) (place : ℕ) → AreEnough wants ≡ true → IsEnough other ≡ true → IsEnough (unwrap_or (slice_get wants place) other) ≡ true
among [] other zero e h = h
among [] other (suc place) e h = h
among (W.Anything ∷ wants) other zero e h = refl
among (W.Data ∷ wants) other zero e h = refl
among (W.Anything ∷ wants) other (suc place) e h = among wants other place e h
among (W.Data ∷ wants) other (suc place) e h = among wants other place e h
among (w ∷ wants) other place e h = absurd cc

own_enough : (op : Operator) → asks_more op ≡ false → AreEnough (own_operands op) ≡ true
own_enough (Plain.Data DataOp.ConcatenateResTemplate) e = absurd cc
own_enough (Plain.Data DataOp.ToString) e = absurd cc
own_enough (Plain.Data DataOp.Mid) e = absurd cc
own_enough (Plain.Data DataOp.Index) e = absurd cc
own_enough (Plain.Data DataOp.Match) e = absurd cc
own_enough (Plain.Event EventOp.Notify) e = absurd cc
own_enough op e = refl

operand_enough : (op : Operator) (place : ℕ) → asks_more op ≡ false → IsEnough (operand op place) ≡ true
operand_enough op place e = among (own_operands op) (letter_wanted op place) place (own_enough op e) (by_letters (slice_get (row_of op).operands place))

compound_more : (op : CompoundOperator) → asks_more (compound_operator op) ≡ false
compound_more Compound.Add = refl
compound_more op = refl

arguments_enough : (op : Operation) → AreEnough (form_arguments op) ≡ true
arguments_enough (Op.Control Control.If) = refl
arguments_enough (Op.Special Special.Buffer) = refl
arguments_enough (Op.Declaration Declaration.OperationRegion) = refl
arguments_enough op = refl

listed_enough : (op : Operation) (place : ℕ) → IsEnough (listed_argument op place) ≡ true
listed_enough op place = among (form_arguments op) W.Anything place (arguments_enough op) refl

behind_enough : (count place : ℕ) → IsEnough (data_behind count place) ≡ true
behind_enough count place = by_less (nat_lt place count)
  where
    by_less : (c : Bool) → IsEnough (if c then W.Anything else W.Data) ≡ true
    by_less true = refl
    by_less false = refl

wanted_enough : (asker : Option Operation) (place : ℕ) → asks_data asker ≡ true → IsEnough (wanted_of asker place) ≡ true
wanted_enough None place e = refl
wanted_enough (Some (Op.Plain op)) place e = operand_enough op place (not-true (asks_more op) e)
wanted_enough (Some (Op.Symbolic (Symbolic.Operator op))) place e = operand_enough op place (not-true (asks_more op) e)
wanted_enough (Some (Op.Symbolic (Symbolic.AssignBy op))) place e = operand_enough (compound_operator op) place (compound_more op)
wanted_enough (Some (Op.Control Control.Printf)) place e = behind_enough 1 place
wanted_enough (Some (Op.Control Control.Fprintf)) place e = behind_enough 2 place
wanted_enough (Some op) place e = listed_enough op place

-- ---- what is given

data_operator : (op : DataOperator) → fits W.Data (plain_kinds (Plain.Data op)) ≡ true
data_operator DataOp.Store = refl
data_operator op = refl

event_operator : (op : EventOperator) → fits W.Data (plain_kinds (Plain.Event op)) ≡ true
event_operator EventOp.Wait = refl
event_operator op = refl

operator_fits : (op : Operator) → fits W.Data (plain_kinds op) ≡ true
operator_fits (Plain.Number op) = refl
operator_fits (Plain.Data op) = data_operator op
operator_fits (Plain.Event op) = event_operator op

form_fits : (op : Operation) (others : ℕ → List ValueKind) → gives_data op ≡ true → fits W.Data (choose (given_on op) (form_kinds op) others) ≡ true
form_fits (Op.Plain (Plain.Data DataOp.Store)) others e = absurd cc
form_fits (Op.Plain (Plain.Data DataOp.CopyObject)) others e = absurd cc
form_fits (Op.Plain (Plain.Data DataOp.Mid)) others e = absurd cc
form_fits (Op.Plain (Plain.Event op)) others e = event_operator op
form_fits (Op.Symbolic (Symbolic.Operator op)) others e = operator_fits op
form_fits (Op.Symbolic (Symbolic.AssignBy op)) others e = operator_fits (compound_operator op)
form_fits (Op.Symbolic Symbolic.Assign) others e = absurd cc
form_fits (Op.Special Special.Package) others e = absurd cc
form_fits op others e = refl

module _ (names : ℕ → Named) (node : ℕ) where
  data_fits : (p : Plan) → is_data p ≡ true → fits W.Data (kinds_of names false node p) ≡ true
  data_fits (a_form op args body) e = form_fits op (λ place. get_or (kinds_all names (suc node) args) place any_data) e
  data_fits (a_name name) e = absurd cc
  data_fits debug e = absurd cc
  data_fits p e = refl

  -- nothing is told of it
  pub none_told : (asker : Option Operation) (at : ℕ) (place : Place) (p : Plan) (told : List Message) → asks_data asker ≡ true → is_data p ≡ true → told ≡ told ++ argument_errors names (wanted_of asker at) node place p
  none_told asker at place p told enough alone = by_wanted (wanted_of asker at) (wanted_enough asker at enough)
    where
      by_wanted : (wants : Wanted) → IsEnough wants ≡ true → told ≡ told ++ argument_errors names wants node place p
      by_wanted W.Anything e = any_told names node place p told
      by_wanted W.Data e = sym (ap (λ taken. told ++ unless taken place) (data_fits p alone) ∙ append-nil told)
      by_wanted wants e = absurd cc

-- ---- the plan of a term

pub form_data : (op : Operation) (args body : Vec Node Global) → is_data (plan_of (D.Form op args body)) ≡ gives_data op
form_data op args body = ap is_data (plan_form op args body)

pub other_data : (t : Term) → ((o : Operation) (v w : Vec Node Global) → t ≡ D.Form o v w → ⊥) → ((p : Path) → t ≡ D.Name p → ⊥) → (t ≡ D.Debug → ⊥) → is_data (plan_of t) ≡ true
unfolding plan_of
other_data t not_form not_name not_debug =
    by_term (λ u. is_data (plan_of u) ≡ true) t (λ n e. refl) (λ s e. refl) (λ s named e. refl) (λ w e. refl) (λ n e. refl) (λ n e. refl) (λ e. absurd (not_debug e)) (λ e. refl) (λ p e. absurd (not_name p e)) (λ s n e. refl) (λ n e. refl) (λ n e. refl) (λ a b c e. refl)
    (λ p v e. ap is_data (plan_call p v)) (λ o v w e. absurd (not_form o v w e))

pub ruleset data_rules = (name_term, debug_term, form_data, other_data)
