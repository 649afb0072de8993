-- The places of the terms of a program's core, read off its plans: in preorder, those of the terms of the term lists.
-- The core has a loop for a Switch: what is made for the Switch has its place, but the test of a Case has the Case's, and
-- the Else behind the Cases that of the Default. A Continue inside a Switch of its loop is a Store and a Break, so its
-- place comes twice. A For is its start, and a loop at its place that ends with its step; the step stands before each
-- Continue of the For, too.
use Rattle.std.specs.Prelude.{Bool, true, false, ◌||◌, if◌then◌else◌, List, [], ◌∷◌, ◌++◌, Some, None}
use Rattle.iasl_messages.specs.declared.place.Place.{Place}
use Rattle.asl_tree.specs.declared.term.Control.TheVariants as Control
use Rattle.asl_tree.specs.declared.term.Declaration.TheVariants as Declaration
use Rattle.asl_tree.specs.declared.term.Op.{Op}
use Rattle.switch_loops.specs.Places.{DefaultPlaces, body_inside, chain_places, continue_places, loop_places, own_places, turn_places}
use Rattle.term_plans.specs.Plans.{Plan, omitted, a_form, Plans, no_plans, plan}
use Rattle.asl_prints.specs.Nodes.{goes_in}

-- whether a Continue leaves a form, by whether one leaves the terms in its braces
abbrev pub form_is_left : Op → Bool → Bool
form_is_left (Op.Control Control.Continue) inner = true
form_is_left (Op.Control Control.If) inner = inner
form_is_left (Op.Control Control.ElseIf) inner = inner
form_is_left (Op.Control Control.Else) inner = inner
form_is_left (Op.Control Control.Switch) inner = inner
form_is_left (Op.Control Control.Case) inner = inner
form_is_left (Op.Control Control.Default) inner = inner
form_is_left (Op.Declaration Declaration.Scope) inner = inner
form_is_left (Op.Declaration Declaration.Device) inner = inner
form_is_left (Op.Declaration Declaration.ThermalZone) inner = inner
form_is_left (Op.Declaration Declaration.PowerResource) inner = inner
form_is_left (Op.Declaration Declaration.Processor) inner = inner
form_is_left op inner = false

unfoldable mutual
  -- whether a Continue leaves a term
  pub is_left : Plan → Bool
  is_left (a_form op args body) = form_is_left op (are_left body)
  is_left _ = false

  pub are_left : Plans → Bool
  are_left no_plans = false
  are_left (plan place p ps) = is_left p || are_left ps

-- the place of a start or of a step, where it is not left out
abbrev pub place_given : Place → Plan → List Place
place_given place omitted = []
place_given place p = place ∷ []

-- of the start of a For, and of its step
abbrev pub start_places : Plans → List Place
start_places no_plans = []
start_places (plan place start args) = place_given place start

abbrev pub step_places : Plans → List Place
step_places (plan a start (plan b test (plan c step args))) = place_given c step
step_places args = []

-- the place of the step that stands before each Continue in the braces of a form, if that of the form is in `steps`
abbrev pub steps_inside : Op → Plans → List Place → List Place
steps_inside (Op.Control Control.For) args steps = step_places args
steps_inside op args steps = if goes_in op then steps else []

-- whether a Switch is around what stands in these braces, in the same loop
abbrev pub is_inside : Op → Bool → Bool
is_inside (Op.Control Control.For) inside = false
is_inside op inside = body_inside op inside

-- a form with its arguments at a place; `inside` says whether a Switch is around it, in the same loop, `left` whether a
-- Continue leaves the terms in its braces, and `steps` what the step of the For around it is, if that is in the same
-- loop; `inner` are the places of the terms in its braces, and `chain` those of the tests of its Cases
abbrev pub form_at : Op → Plans → (inside left : Bool) → (steps : List Place) → Place → (inner chain : List Place) → List Place
form_at (Op.Control Control.For) args inside left steps place inner chain = start_places args ++ place ∷ (inner ++ step_places args)
form_at (Op.Control Control.Switch) args inside left steps place inner chain = loop_places left inside place (turn_places place chain)
form_at (Op.Control Control.Continue) args inside left steps place inner chain = steps ++ continue_places inside place
form_at op args inside left steps place inner chain = own_places op place inner

-- of what stands in a Switch, its Cases, and its Default
abbrev pub case_at : Op → Place → List Place → List Place
case_at (Op.Control Control.Default) place inner = []
case_at op place inner = place ∷ inner

abbrev pub default_at : Op → Place → List Place → DefaultPlaces → DefaultPlaces
default_at (Op.Control Control.Default) place inner later = Some (place, inner)
default_at op place inner later = later

unfoldable mutual
  -- a term at a place
  pub core_places_at : (inside : Bool) → (steps : List Place) → Place → Plan → List Place
  core_places_at inside steps place (a_form op args body) =
      form_at op args inside (are_left body) steps place (core_places_in (is_inside op inside) (steps_inside op args steps) body)
      (chain_places (cases_in (steps_inside op args steps) body) (default_in (steps_inside op args steps) body))
  core_places_at inside steps place _ = place ∷ []

  -- the terms of a list
  pub core_places_in : (inside : Bool) → (steps : List Place) → Plans → List Place
  core_places_in inside steps no_plans = []
  core_places_in inside steps (plan place p ps) = core_places_at inside steps place p ++ core_places_in inside steps ps

  -- the Cases of a Switch, and its Default
  pub cases_in : (steps : List Place) → Plans → List Place
  cases_in steps no_plans = []
  cases_in steps (plan place (a_form op args body) ps) = case_at op place (core_places_in true steps body) ++ cases_in steps ps
  cases_in steps (plan place _ ps) = cases_in steps ps

  pub default_in : (steps : List Place) → Plans → DefaultPlaces
  default_in steps no_plans = None
  default_in steps (plan place (a_form op args body) ps) = default_at op place (core_places_in true steps body) (default_in steps ps)
  default_in steps (plan place _ ps) = default_in steps ps

-- the terms of a program
unfoldable pub core_places : Plans → List Place
core_places ps = core_places_in false [] ps
