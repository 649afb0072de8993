-- The methods, and the block around them, that leave too few Locals for their Switches.
use Rattle.std.specs.Prelude.{Bool, true, false, not, List, [], ◌++◌, if◌then◌else◌, unwrap_or, Option, Some, None}
use Rattle.iasl_messages.specs.declared.place.Place.{Place}
use Rattle.iasl_messages.specs.declared.message.Message.{Message}
use Rattle.asl_tree.specs.declared.term.Op.{Op}
use Rattle.asl_tree.specs.declared.term.Declaration.TheVariants as Declaration
use Rattle.asl_tree.specs.Tree.{Tree, Method, Container', Scope, Trees, no_trees, tree, If, ElseIf, Else, While, For, Switch, Case, Default}
use Rattle.term_plans.specs.Plans.{Plan, a_form, Plans, no_plans, plan, plan_at}
use Rattle.term_plans.specs.Places.{nowhere}
use Rattle.acpi_names.specs.declared.part.NameRole.{NameRole}
use Rattle.acpi_names.specs.declared.part.NameRole.TheVariants as P
use Rattle.acpi_names.specs.declared.part.What.{What}
use Rattle.acpi_names.specs.declared.part.What.TheVariants as W
use Rattle.hidden_locals.specs.Switches.{is_enough}
use Rattle.switch_loops.specs.Switched.{is_switch}
use Rattle.switch_checks.specs.Told.{told}

abbrev pub is_method : Op → Bool
is_method (Op.Declaration Declaration.Method) = true
is_method op = false

abbrev pub or_else : Option Place → Option Place → Option Place
or_else (Some place) other = Some place
or_else None other = other

-- where the first Switch stands, in the order of the terms; what stands in a method inside is the method's
abbrev mutual
  pub switch_in : Place → Plan → Option Place
  switch_in place (a_form op args body) = if is_switch op then Some place else if is_method op then None else first_switch body
  switch_in place p = None

  pub first_switch : Plans → Option Place
  first_switch no_plans = None
  first_switch (plan place p ps) = or_else (switch_in place p) (first_switch ps)

-- terms without a Switch leave Locals enough, so that there is one where a message is told
abbrev pub own_error : Trees → Plans → List Message
own_error terms plans = told (not (is_enough terms)) 6061 (unwrap_or (first_switch plans) nowhere)

-- the terms in a form
abbrev pub body_of : Plan → Plans
body_of (a_form op args body) = body
body_of p = no_plans

-- the terms behind the first
abbrev pub rest_of : Plans → Plans
rest_of no_plans = no_plans
rest_of (plan place p ps) = ps

abbrev mutual
  -- the messages of the methods in a term, read as a tree and as a plan
  pub method_errors : Tree → Plan → List Message
  method_errors (Method at name flags body) p = own_error body (body_of p) ++ all_method_errors body (body_of p)
  method_errors (Container' kind at name body) p = all_method_errors body (body_of p)
  method_errors (Scope here at name body) p = all_method_errors body (body_of p)
  method_errors (If test body) p = all_method_errors body (body_of p)
  method_errors (ElseIf test body) p = all_method_errors body (body_of p)
  method_errors (Else body) p = all_method_errors body (body_of p)
  method_errors (While test body) p = all_method_errors body (body_of p)
  method_errors (For start test step body) p = all_method_errors body (body_of p)
  method_errors (Switch value cases) p = all_method_errors cases (body_of p)
  method_errors (Case value body) p = all_method_errors body (body_of p)
  method_errors (Default body) p = all_method_errors body (body_of p)
  method_errors t p = []

  pub all_method_errors : Trees → Plans → List Message
  all_method_errors no_trees ps = []
  all_method_errors (tree t ts) ps = method_errors t (plan_at ps 0) ++ all_method_errors ts (rest_of ps)

-- the messages of a method's body, or of a block: its own, then those of the methods in it
abbrev pub few_locals : Trees → Plans → List Message
few_locals terms plans = own_error terms plans ++ all_method_errors terms plans

-- the same by the part of a form
abbrev pub declared_errors : What → Bool → Trees → Plans → List Message
declared_errors (W.Method flags) true body plans = few_locals body plans
declared_errors what true body plans = all_method_errors body plans
declared_errors what false body plans = []

abbrev pub part_errors : NameRole → Trees → Plans → List Message
part_errors (P.Declares name what opens) body plans = declared_errors what opens body plans
part_errors P.Scope body plans = all_method_errors body plans
part_errors P.Within body plans = all_method_errors body plans
part_errors _ body plans = []
