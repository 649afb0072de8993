-- The errors of statements: a loop or a Switch is left where none is around, and an argument is used that the method does not have.
use Rattle.std.specs.Prelude.{ℕ, ◌%◌, nat_le, Bool, true, false, ◌||◌, not, List, [], ◌∷◌, ◌++◌}
use Rattle.iasl_messages.specs.declared.place.Place.{Place}
use Rattle.iasl_messages.specs.declared.message.Message.{Message}
use Rattle.asl_tree.specs.declared.term.Op.{Op}
use Rattle.asl_tree.specs.declared.term.Declaration.{Declaration}
use Rattle.asl_tree.specs.declared.term.Control.{Control}
use Rattle.term_plans.specs.Plans.{Plan, an_arg, a_call, a_form, Plans, no_plans, plan, plan_at, number_of}
use Rattle.term_plans.specs.Places.{fault_at}
use Rattle.statement_checks.specs.declared.check.Around.{Around}

-- the terms of a block stand in no method, no loop and no Switch
abbrev pub outside : Around
outside = record { arguments = 0; in_loop = false; in_switch = false; in_for = false; far = false }

-- a method begins anew, with as many arguments as the low three bits of its flags say, which stand behind its name
abbrev pub in_method : Plans → Around
in_method args = record { arguments = number_of (plan_at args 1) % 8; in_loop = false; in_switch = false; in_for = false; far = false }

abbrev pub in_while : Around → Around
in_while around = record { arguments = around.arguments; in_loop = true; in_switch = around.in_switch; in_for = false; far = false }

abbrev pub in_for : Around → Around
in_for around = record { arguments = around.arguments; in_loop = true; in_switch = around.in_switch; in_for = true; far = false }

-- a Device, a Scope and the like hide the step of a For, whose names lead elsewhere in them
abbrev pub in_scope : Around → Around
in_scope around = record {
  arguments = around.arguments;
  in_loop = around.in_loop;
  in_switch = around.in_switch;
  in_for =
      around.in_for;
  far = around.in_for;
}

-- a Switch hides no loop: a Continue in it goes to the loop around it
abbrev pub in_switch : Around → Around
in_switch around = record {
  arguments = around.arguments;
  in_loop = around.in_loop;
  in_switch = true;
  in_for = around.in_for;
  far =
      around.far;
}

-- what the body of a form stands in, where the form itself stands in `around`: an If and an Else change nothing
abbrev pub around_body : Op → Plans → Around → Around
around_body (Op.Declaration Declaration.Method) args around = in_method args
around_body (Op.Declaration Declaration.Scope) args around = in_scope around
around_body (Op.Declaration Declaration.Device) args around = in_scope around
around_body (Op.Declaration Declaration.ThermalZone) args around = in_scope around
around_body (Op.Declaration Declaration.PowerResource) args around = in_scope around
around_body (Op.Declaration Declaration.Processor) args around = in_scope around
around_body (Op.Control Control.While) args around = in_while around
around_body (Op.Control Control.For) args around = in_for around
around_body (Op.Control Control.Switch) args around = in_switch around
around_body _ args around = around

-- a loop or a Switch is left where none is around, or the next turn of a loop begun where no loop is, or a For's step is hidden
abbrev pub misses_loop : Op → Around → Bool
misses_loop (Op.Control Control.Break) around = not (around.in_loop || around.in_switch)
misses_loop (Op.Control Control.Continue) around = not around.in_loop || around.far
misses_loop _ around = false

-- a message where something is wrong
abbrev pub told : Bool → ℕ → Place → List Message
told true number place = fault_at number place ∷ []
told false number place = []

-- no loop to leave
abbrev pub loop_errors : Around → Place → Op → List Message
loop_errors around place op = told (misses_loop op around) 6052 place

-- an argument is above the count: the first is Arg0
abbrev pub argument_errors : Around → Place → ℕ → List Message
argument_errors around place index = told (nat_le around.arguments index) 6055 place

abbrev mutual
  -- the errors of a term: its own, then those of its arguments, then those of its body
  pub term_errors : Around → Place → Plan → List Message
  term_errors around place (an_arg index) = argument_errors around place index
  term_errors around place (a_call name args) = statement_errors around args
  term_errors around place (a_form op args body) = loop_errors around place op
      ++ (statement_errors around args ++ statement_errors (around_body op args around) body)
  term_errors around place _ = []

  -- the errors of terms one after another
  pub statement_errors : Around → Plans → List Message
  statement_errors around no_plans = []
  statement_errors around (plan place p ps) = term_errors around place p ++ statement_errors around ps

-- the errors of the terms of a block
abbrev pub errors_of_statements : Plans → List Message
errors_of_statements ps = statement_errors outside ps
