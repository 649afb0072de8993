-- What stands for a Printf, an Fprintf and a For, as plans: trees without numbers, with places. A node that is made has the place of
-- the form that it stands for, and a copy the place of the node that it copies.
use Rattle.std.specs.Prelude.{ℕ, nat_eq, Bool, true, false, not, ◌&&◌, ◌||◌, if◌then◌else◌, List, [], ◌∷◌, length}
use Rattle.iasl_messages.specs.declared.place.Place.{Place}
use Rattle.acpi_values.specs.Operators.{row_of}
use Rattle.acpi_values.specs.declared.operator.Plain.{Plain}
use Rattle.acpi_values.specs.declared.operator.DataOp.{DataOp}
use Rattle.asl_tree.specs.declared.term.Declaration.TheVariants as Declaration
use Rattle.asl_tree.specs.declared.term.Control.TheVariants as Control
use Rattle.asl_tree.specs.declared.term.Special.TheVariants as Special
use Rattle.asl_tree.specs.declared.term.Symbolic.TheVariants as Symbolic
use Rattle.asl_tree.specs.declared.term.Op.{Op}
use Rattle.asl_tree.specs.Formats.{cut}
use Rattle.term_plans.specs.Plans.{Plan, an_integer, a_text, a_fill, a_word, debug, omitted, a_name, a_unit, a_skip, an_offset, an_access}
use Rattle.term_plans.specs.Plans.{a_call, a_form, Plans, no_plans, plan, join, how_many}
use Rattle.asl_prints.specs.Nodes.{goes_in, has_terms}
use Rattle.asl_prints.specs.Fits.{braced}
use Rattle.asl_prints.specs.declared.leave.Braces.{Braces}
use Rattle.asl_prints.specs.declared.leave.Braces.TheVariants as B

-- so many terms
abbrev pub are : ℕ → Plans → Bool
are n ps = nat_eq (how_many ps) n

-- an operator on data
abbrev pub operator : DataOp → Plans → Plan
operator op args = a_form (Op.Plain (Plain.Data op)) args no_plans

-- what is printed: its nodes that are made stand `here`
module _ (here : Place) where
  abbrev pub concatenated : Plan → Place → Plan → Plan
  concatenated front place p = operator DataOp.Concatenate (plan here front (plan place p (plan here omitted no_plans)))

  -- a text is joined to what stands before it; an empty one is not
  abbrev pub with_text : Plan → List ℕ → Plan
  with_text front [] = front
  with_text front (c ∷ text) = concatenated front here (a_text (c ∷ text))

  -- arguments, each with the text of a format behind it, are joined to what stands before them
  abbrev pub with_arguments : Plan → List (List ℕ) → Plans → Plan
  with_arguments front (text ∷ texts) (plan place arg args) = with_arguments (with_text (concatenated front place arg) text) texts args
  with_arguments front texts args = front

  -- with the place of its target
  abbrev pub print_plan : Place → Plan → List ℕ → Plans → Plan
  print_plan at target format args = operator DataOp.Store
      (plan here (with_arguments (a_text (cut format).0) (cut format).1 args) (plan at target no_plans))

-- whether a term is there, and not left out
abbrev pub is_given : Plan → Bool
is_given omitted = false
is_given p = true

abbrev pub are_given : Plans → Bool
are_given no_plans = true
are_given (plan place arg args) = is_given arg && are_given args

-- a format has as many arguments as it asks for, and none is left out
abbrev pub is_filled : List ℕ → Plans → Bool
is_filled format args = are_given args && are (length (cut format).1) args

-- a term that may be left out
abbrev pub optional : Place → Plan → Plans
optional place omitted = no_plans
optional place p = plan place p no_plans

-- the steps, where a Continue follows
abbrev pub steps_before : Plans → Plan → Plans
steps_before steps (a_form (Op.Control Control.Continue) no_plans no_plans) = steps
steps_before steps p = no_plans

module _ (steps : Plans) where
  abbrev mutual
    -- the body of a For, in which each Continue that belongs to it has the step before it
    pub stepped : Plan → Plan
    stepped (a_form op args body) = a_form op args (if goes_in op then stepped_all body else body)
    stepped p = p

    pub stepped_all : Plans → Plans
    stepped_all no_plans = no_plans
    stepped_all (plan place p ps) = join (steps_before steps p) (plan place (stepped p) (stepped_all ps))

abbrev pub while_plan : Place → Plan → Plans → Plans → Plan
while_plan at test steps body = a_form (Op.Control Control.While) (plan at test no_plans) (join (stepped_all steps body) steps)

-- a name, and so many integers behind it
abbrev pub is_integer : Plan → Bool
is_integer (an_integer number) = true
is_integer (a_word word) = true
is_integer p = false

abbrev pub are_integers : Plans → Bool
are_integers no_plans = true
are_integers (plan place p ps) = is_integer p && are_integers ps

abbrev pub is_named_with : ℕ → Plans → Bool
is_named_with n (plan place (a_name name) ps) = are n ps && are_integers ps
is_named_with n ps = false

-- an expression, or a term that is left out
abbrev pub expresses : Op → Plans → Plans → Bool
expresses (Op.Plain op) args body = are 0 body
expresses (Op.Literal literal) args body = are 0 args && are 0 body
expresses (Op.Special Special.CondRefOf) args body = are 2 args && are 0 body
expresses (Op.Special Special.Buffer) args body = are 1 args
expresses (Op.Special Special.Package) args body = are 1 args
expresses (Op.Symbolic (Symbolic.Operator op)) args body = are 0 body && are (length (row_of op).operands) args
expresses (Op.Symbolic Symbolic.Assign) args body = are 2 args && are 0 body
expresses (Op.Symbolic (Symbolic.AssignBy op)) args body = are 2 args && are 0 body
expresses _ args body = false

abbrev pub is_expression : Plan → Bool
is_expression (a_form op args body) = expresses op args body
is_expression (a_fill bytes named) = false
is_expression (a_unit segment bits) = false
is_expression (a_skip bits) = false
is_expression (an_offset bytes) = false
is_expression (an_access access attribute count) = false
is_expression _ = true

-- what the braces of a form are to a Continue in them
abbrev pub braces_in : Op → Plans → Braces
braces_in (Op.Control Control.If) args = braced (are 1 args) B.Open
braces_in (Op.Control Control.ElseIf) args = braced (are 1 args) B.Open
braces_in (Op.Control Control.Else) args = braced (are 0 args) B.Open
braces_in (Op.Control Control.Switch) args = braced (are 1 args) B.Open
braces_in (Op.Control Control.Case) args = braced (are 1 args) B.Open
braces_in (Op.Control Control.Default) args = braced (are 0 args) B.Open
braces_in (Op.Declaration Declaration.Device) args = braced (is_named_with 0 args) B.Scope
braces_in (Op.Declaration Declaration.ThermalZone) args = braced (is_named_with 0 args) B.Scope
braces_in (Op.Declaration Declaration.Scope) args = braced (is_named_with 0 args) B.Scope
braces_in (Op.Declaration Declaration.PowerResource) args = braced (is_named_with 2 args) B.Scope
braces_in (Op.Declaration Declaration.Processor) args = braced (is_named_with 3 args) B.Scope
braces_in _ args = B.Closed

-- a Continue, alone
abbrev pub is_next : Op → Plans → Plans → Bool
is_next (Op.Control Control.Continue) args body = are 0 args && are 0 body
is_next op args body = false

-- whether a Continue leaves a form, by what its braces are and whether one leaves the terms in them
abbrev pub leaves : Braces → Bool → Bool → Bool
leaves B.Closed itself inner = itself
leaves braces itself inner = inner

-- whether one leaves it from the braces of a container, by whether one so leaves the terms in them
abbrev pub leaves_far : Braces → Bool → Bool → Bool
leaves_far B.Open inner far = far
leaves_far B.Scope inner far = inner
leaves_far B.Closed inner far = false

abbrev mutual
  -- whether a Continue leaves a term
  pub has_continue : Plan → Bool
  has_continue (a_form op args body) = leaves (braces_in op args) (is_next op args body) (have_continue body)
  has_continue p = false

  pub have_continue : Plans → Bool
  have_continue no_plans = false
  have_continue (plan place p ps) = has_continue p || have_continue ps

abbrev mutual
  -- whether a Continue that leaves a term stands in the braces of a Device, a Scope or another container
  pub has_far_continue : Plan → Bool
  has_far_continue (a_form op args body) = leaves_far (braces_in op args) (have_continue body) (have_far_continue body)
  has_far_continue p = false

  pub have_far_continue : Plans → Bool
  have_far_continue no_plans = false
  have_far_continue (plan place p ps) = has_far_continue p || have_far_continue ps

-- a For that may be written as a While: its step may stand before each of its Continues
abbrev pub is_steppable : Plan → Plan → Plans → Bool
is_steppable start step body = is_expression start && (is_expression step && not (have_far_continue body))

-- a term before those behind it: what stands for a For and for what prints, where it fits
abbrev pub spread : Place → Plan → Plans → Plans
spread here (a_form (Op.Control Control.For) (plan a start (plan b test (plan c step no_plans))) body) rest =
    if is_steppable start step body then join (optional a start) (plan here (while_plan b test (optional c step) body) rest) else
    plan here (a_form (Op.Control Control.For) (plan a start (plan b test (plan c step no_plans))) body) rest
spread here (a_form (Op.Control Control.Printf) (plan b (a_text format) args) no_plans) rest =
    if is_filled format args then plan here (print_plan here here debug format args) rest else
    plan here (a_form (Op.Control Control.Printf) (plan b (a_text format) args) no_plans) rest
spread here (a_form (Op.Control Control.Fprintf) (plan a target (plan b (a_text format) args)) no_plans) rest =
    if is_filled format args then plan here (print_plan here a target format args) rest else
    plan here (a_form (Op.Control Control.Fprintf) (plan a target (plan b (a_text format) args)) no_plans) rest
spread here p rest = plan here p rest

-- what stands in the braces of a form: the elements of a Package are each by itself
abbrev pub formed_body : Op → (args all body : Plans) → Plans
formed_body (Op.Special Special.Package) args all body = args
formed_body op args all body = if has_terms op then all else body

-- a program with what stands for each For and for what prints, from the inside out
unfoldable mutual
  pub formed_plan : Plan → Plan
  formed_plan (a_call name args) = a_call name (formed_args args)
  formed_plan (a_form op args body) = a_form op (formed_args args) (formed_body op (formed_args body) (formed_plans body) body)
  formed_plan p = p

  -- terms each by itself: arguments, and the elements of a Package
  pub formed_args : Plans → Plans
  formed_args no_plans = no_plans
  formed_args (plan place p ps) = plan place (formed_plan p) (formed_args ps)

  -- the terms of a list
  pub formed_plans : Plans → Plans
  formed_plans no_plans = no_plans
  formed_plans (plan place p ps) = spread place (formed_plan p) (formed_plans ps)
