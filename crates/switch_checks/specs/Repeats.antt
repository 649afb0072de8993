-- The values that occur twice in a Switch (ACPI Specification 6.4, 19.6.11).
use Rattle.std.specs.Prelude.{◌≡◌, Bool, true, false, List, [], ◌∷◌, ◌++◌, Option, Some, None, if◌then◌else◌}
use Rattle.iasl_messages.specs.declared.place.Place.{Place}
use Rattle.iasl_messages.specs.declared.message.Message.{Message}
use Rattle.acpi_values.specs.declared.width.Width.{Width}
use Rattle.asl_tree.specs.declared.term.Op.{Op}
use Rattle.asl_tree.specs.declared.term.Control.TheVariants as Control
use Rattle.term_plans.specs.Plans.{Plan, a_form, Plans, no_plans, plan}
use Rattle.switch_loops.specs.Switched.{is_switch}
use Rattle.switch_checks.specs.Told.{told}
use Rattle.switch_checks.specs.Values.{CaseValue, value_of, is_package, occurs}

-- a value and where it stands
pub record Found : Type 0 where
  pub value : CaseValue
  pub place : Place

-- what is found in terms one after another
abbrev pub found_in : (Place → Plan → List Found) → Plans → List Found
found_in f no_plans = []
found_in f (plan place p ps) = f place p ++ found_in f ps

abbrev pub found_at : Place → Option CaseValue → List Found
found_at place None = []
found_at place (Some value) = record { value = value; place = place } ∷ []

abbrev pub is_case : Op → Bool
is_case (Op.Control Control.Case) = true
is_case op = false

-- the different values so far, with one more
abbrev pub with_value : CaseValue → List CaseValue → List CaseValue
with_value value values = if occurs value values then values else values ++ value ∷ []

abbrev pub with_all : List CaseValue → List Found → List CaseValue
with_all values [] = values
with_all values (f ∷ fs) = with_all (with_value f.value values) fs

-- a message at each value that is among those before it
abbrev pub repeats : List CaseValue → List Found → List Message
repeats values [] = []
repeats values (f ∷ fs) = told (occurs f.value values) 6053 f.place ++ repeats (with_value f.value values) fs

-- Integers are compared at this width
module _ (width : Width) where
  abbrev pub value_at : Place → Plan → List Found
  value_at place p = found_at place (value_of width p)

  -- the value of a Case, or the members of its Package
  abbrev pub members_at : Place → Plan → List Found
  members_at place (a_form op args body) = if is_package op then found_in value_at body else value_at place (a_form op args body)
  members_at place p = value_at place p

  -- the value of a Case is its first argument
  abbrev pub first_members : Plans → List Found
  first_members no_plans = []
  first_members (plan place p ps) = members_at place p

  abbrev pub case_values : Place → Plan → List Found
  case_values place (a_form op args body) = if is_case op then first_members args else []
  case_values place p = []

  -- what is told of the Cases of a Switch
  abbrev pub switch_repeats : Op → Plans → List Message
  switch_repeats op cases = if is_switch op then repeats [] (found_in case_values cases) else []

  abbrev mutual
    -- the messages of a term: its own, then those in its braces, where alone Switches stand
    pub term_repeats : Plan → List Message
    term_repeats (a_form op args body) = switch_repeats op body ++ repeated_values body
    term_repeats p = []

    -- the messages of terms one after another
    pub repeated_values : Plans → List Message
    repeated_values no_plans = []
    repeated_values (plan place p ps) = term_repeats p ++ repeated_values ps

-- the different values and the messages that there are once more values are found
abbrev pub Notes : List Found → List CaseValue → List CaseValue → List Message → List Message → Type 0
Notes found values later out told_out = (later ≡ with_all values found) × (told_out ≡ out ++ repeats values found)
