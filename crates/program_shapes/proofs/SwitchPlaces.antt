-- What is told of the Switches of a program stands in the files in which its plans stand.
use Rattle.std.proofs.Common.{ℕ, ◌<◌, Bool, true, false, not, List, [], ◌∷◌, ◌++◌, Option, Some, None}
use Rattle.std.specs.Prelude.{if◌then◌else◌, unwrap_or}
use Rattle.std.specs.List.{All}
use Rattle.iasl_messages.specs.declared.place.Place.{Place}
use Rattle.iasl_messages.specs.declared.message.Message.{Message}
use Rattle.acpi_values.specs.declared.width.Width.{Width}
use Rattle.asl_syntax.specs.Within.{IsIn}
use Rattle.asl_tree.specs.declared.term.Op.{Op}
use Rattle.asl_tree.specs.Tree.{Tree, Method, Container', Scope, If, ElseIf, Else, While, For, Switch, Case, Default, Trees, no_trees, tree}
use Rattle.term_plans.specs.Places.{AreTold}
use Rattle.term_plans.specs.Plans.{Plan, a_form, Plans, no_plans, plan, plan_at}
use Rattle.term_plans.specs.Places.{nowhere}
use Rattle.hidden_locals.specs.Switches.{is_enough}
use Rattle.switch_loops.specs.Switched.{is_switch}
use Rattle.switch_checks.specs.Told.{told}
use Rattle.switch_checks.specs.Values.{CaseValue, value_of, is_package, occurs}
use Rattle.switch_checks.specs.Repeats.{Found, found_in, found_at, is_case, with_value, repeats, value_at, members_at, first_members, case_values, switch_repeats, term_repeats, repeated_values}
use Rattle.switch_checks.specs.Locals.{is_method, or_else, switch_in, first_switch, own_error, body_of, rest_of, method_errors, all_method_errors, few_locals}
use Rattle.descriptor_shapes.specs.Places.{PlanWithin, PlansWithin}
use Rattle.program_shapes.proofs.ListPlaces.{as_all}

module _ (files : ℕ) where
  both : (xs ys : List Message) → AreTold files xs → AreTold files ys → AreTold files (xs ++ ys)
  both [] ys h k = k
  both (x ∷ xs) ys h k = (h.0, both xs ys h.1 k)

  told_within : (wrong : Bool) (number : ℕ) (place : Place) → IsIn files place → AreTold files (told wrong number place)
  told_within true number place h = (h, tt)
  told_within false number place h = tt

  -- ---- values

  abbrev AreFound : List Found → Type 0
  AreFound [] = Unit {0}
  AreFound (f ∷ fs) = IsIn files f.place × AreFound fs

  both_found : (xs ys : List Found) → AreFound xs → AreFound ys → AreFound (xs ++ ys)
  both_found [] ys h k = k
  both_found (x ∷ xs) ys h k = (h.0, both_found xs ys h.1 k)

  value_found : (place : Place) (o : Option CaseValue) → IsIn files place → AreFound (found_at place o)
  value_found place None h = tt
  value_found place (Some value) h = (h, tt)

  all_found : (f : Place → Plan → List Found) → ((place : Place) (p : Plan) → IsIn files place → PlanWithin files p → AreFound (f place p)) → (ps : Plans) → PlansWithin files ps → AreFound (found_in f ps)
  all_found f each no_plans h = tt
  all_found f each (plan place p ps) h = both_found (f place p) (found_in f ps) (each place p h.0 h.1) (all_found f each ps h.2)

  repeats_told : (values : List CaseValue) (found : List Found) → AreFound found → AreTold files (repeats values found)
  repeats_told values [] h = tt
  repeats_told values (f ∷ fs) h =
      both (told (occurs f.value values) 6053 f.place) (repeats (with_value f.value values) fs) (told_within (occurs f.value values) 6053 f.place h.0) (repeats_told (with_value f.value values) fs h.1)

  module _ (width : Width) where
    values_found : (ps : Plans) → PlansWithin files ps → AreFound (found_in (value_at width) ps)
    values_found ps h = all_found (value_at width) (λ place p k l. value_found place (value_of width p) k) ps h

    members_found : (place : Place) (p : Plan) → IsIn files place → PlanWithin files p → AreFound (members_at width place p)
    members_found place (a_form op args body) h k = by_package (is_package op)
      where
        by_package : (c : Bool) → AreFound (if c then found_in (value_at width) body else value_at width place (a_form op args body))
        by_package true = values_found body k.1
        by_package false = value_found place (value_of width (a_form op args body)) h
    members_found place p h k = value_found place (value_of width p) h

    first_found : (ps : Plans) → PlansWithin files ps → AreFound (first_members width ps)
    first_found no_plans h = tt
    first_found (plan place p ps) h = members_found place p h.0 h.1

    case_found : (place : Place) (p : Plan) → IsIn files place → PlanWithin files p → AreFound (case_values width place p)
    case_found place (a_form op args body) h k = by_case (is_case op)
      where
        by_case : (c : Bool) → AreFound (if c then first_members width args else [])
        by_case true = first_found args k.0
        by_case false = tt
    case_found place p h k = tt

    switch_told : (op : Op) (cases : Plans) → PlansWithin files cases → AreTold files (switch_repeats width op cases)
    switch_told op cases h = by_switch (is_switch op)
      where
        by_switch : (c : Bool) → AreTold files (if c then repeats [] (found_in (case_values width) cases) else [])
        by_switch true = repeats_told [] (found_in (case_values width) cases) (all_found (case_values width) case_found cases h)
        by_switch false = tt

    mutual
      term_told : (p : Plan) → PlanWithin files p → AreTold files (term_repeats width p)
      term_told (a_form op args body) h = both (switch_repeats width op body) (repeated_values width body) (switch_told op body h.1) (terms_told body h.1)
      term_told p h = tt

      terms_told : (ps : Plans) → PlansWithin files ps → AreTold files (repeated_values width ps)
      terms_told no_plans h = tt
      terms_told (plan place p ps) h = both (term_repeats width p) (repeated_values width ps) (term_told p h.1) (terms_told ps h.2)

  -- ---- Locals

  abbrev IsInFile : Option Place → Type 0
  IsInFile None = Unit {0}
  IsInFile (Some place) = IsIn files place

  else_within : (a b : Option Place) → IsInFile a → IsInFile b → IsInFile (or_else a b)
  else_within (Some place) b h k = h
  else_within None b h k = k

  place_within : (o : Option Place) → 0 < files → IsInFile o → IsIn files (unwrap_or o nowhere)
  place_within None some h = some
  place_within (Some place) some h = h

  mutual
    switch_within : (place : Place) (p : Plan) → IsIn files place → PlanWithin files p → IsInFile (switch_in place p)
    switch_within place (a_form op args body) h k = by_op (is_switch op) (is_method op) (first_within body k.1)
      where
        by_op : (c d : Bool) → IsInFile (first_switch body) → IsInFile (if c then Some place else if d then None else first_switch body)
        by_op true d inner = h
        by_op false true inner = tt
        by_op false false inner = inner
    switch_within place p h k = tt

    first_within : (ps : Plans) → PlansWithin files ps → IsInFile (first_switch ps)
    first_within no_plans h = tt
    first_within (plan place p ps) h = else_within (switch_in place p) (first_switch ps) (switch_within place p h.0 h.1) (first_within ps h.2)

  body_within : (p : Plan) → PlanWithin files p → PlansWithin files (body_of p)
  body_within (a_form op args body) h = h.1
  body_within p h = tt

  rest_within : (ps : Plans) → PlansWithin files ps → PlansWithin files (rest_of ps)
  rest_within no_plans h = tt
  rest_within (plan place p ps) h = h.2

  head_within : (ps : Plans) → PlansWithin files ps → PlanWithin files (plan_at ps 0)
  head_within no_plans h = tt
  head_within (plan place p ps) h = h.1

  module _ (some : 0 < files) where
    own_within : (terms : Trees) (ps : Plans) → PlansWithin files ps → AreTold files (own_error terms ps)
    own_within terms ps h = told_within (not (is_enough terms)) 6061 (unwrap_or (first_switch ps) nowhere) (place_within (first_switch ps) some (first_within ps h))

    mutual
      method_within : (t : Tree) (p : Plan) → PlanWithin files p → AreTold files (method_errors t p)
      method_within (Method at name flags body) p h = both (own_error body (body_of p)) (all_method_errors body (body_of p)) (own_within body (body_of p) (body_within p h)) (methods_within body (body_of p) (body_within p h))
      method_within (Container' kind at name body) p h = methods_within body (body_of p) (body_within p h)
      method_within (Scope here at name body) p h = methods_within body (body_of p) (body_within p h)
      method_within (If test body) p h = methods_within body (body_of p) (body_within p h)
      method_within (ElseIf test body) p h = methods_within body (body_of p) (body_within p h)
      method_within (Else body) p h = methods_within body (body_of p) (body_within p h)
      method_within (While test body) p h = methods_within body (body_of p) (body_within p h)
      method_within (For start test step body) p h = methods_within body (body_of p) (body_within p h)
      method_within (Switch value cases) p h = methods_within cases (body_of p) (body_within p h)
      method_within (Case value body) p h = methods_within body (body_of p) (body_within p h)
      method_within (Default body) p h = methods_within body (body_of p) (body_within p h)
      method_within t p h = tt

      methods_within : (ts : Trees) (ps : Plans) → PlansWithin files ps → AreTold files (all_method_errors ts ps)
      methods_within no_trees ps h = tt
      methods_within (tree t ts) ps h = both (method_errors t (plan_at ps 0)) (all_method_errors ts (rest_of ps)) (method_within t (plan_at ps 0) (head_within ps h)) (methods_within ts (rest_of ps) (rest_within ps h))

pub repeats_within : (files : ℕ) (width : Width) (ps : Plans) → PlansWithin files ps → All (λ m. m.place.file < files) (repeated_values width ps)
repeats_within files width ps h = as_all files (repeated_values width ps) (terms_told files width ps h)

pub locals_within : (files : ℕ) (terms : Trees) (ps : Plans) → 0 < files → PlansWithin files ps → All (λ m. m.place.file < files) (few_locals terms ps)
locals_within files terms ps some h =
    as_all files (few_locals terms ps) (both files (own_error terms ps) (all_method_errors terms ps) (own_within files some terms ps h) (methods_within files some terms ps h))
