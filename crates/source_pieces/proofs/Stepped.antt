-- The places of a formed program are those of what stands for its Fors and for what prints: a For is its start and a
-- While, in which the step stands before each Continue and at the end.
use Rattle.std.proofs.Common.{◌≡◌, Bool, true, false, List, [], ◌∷◌, ◌++◌, Some, refl, sym, ap, ◌∙◌, subst, append_assoc}
use Rattle.std.specs.Prelude.{◌&&◌, ◌||◌, not, if◌then◌else◌}
use Rattle.iasl_messages.specs.declared.place.Place.{Place}
use Rattle.asl_tree.specs.declared.term.Op.{Op}
use Rattle.asl_tree.specs.declared.term.Declaration.TheVariants as Declaration
use Rattle.asl_tree.specs.declared.term.Control.TheVariants as Control
use Rattle.asl_tree.specs.Tree.{At, Tree, Integer, Use, For, Trees, no_trees, tree}
use Rattle.asl_tree.specs.View.{form}
use Rattle.term_plans.specs.Plans.{Plan, a_text, a_name, a_unit, a_call, debug, omitted, a_form, Plans, no_plans, plan, join}
use Rattle.asl_prints.specs.Forms as F
use Rattle.asl_prints.specs.Nodes.{goes_in}
use Rattle.asl_prints.specs.Plans as P
use Rattle.asl_formats.proofs.Sources.{steppable_same}
use Rattle.asl_prints.proofs.PlanTrees.{Stands, StandAll, steppable_stands}
use Rattle.asl_formats.proofs.PlanForms.{formed_stands, formed_stand}
use Rattle.named_sessions.specs.Shaped.{AreNamed, IsFormed, AreFormed, AreFormedCases}
use Rattle.form_shapes.specs.Near.{IsNear, AreNear}
use Rattle.form_shapes.proofs.Formed.{fits_loop, effect_expression}
use Rattle.switch_loops.specs.Places.{chain_places, turn_places, loop_places, continue_places}
use Rattle.source_pieces.specs.Places.{form_is_left, is_left, are_left, place_given, core_places_at, core_places_in, cases_in, default_in}
use Rattle.source_pieces.proofs.Forms.{not_among}

-- what is formed in a source
abbrev Source : Tree → Type 0
Source = IsFormed (Unit {0}) AreNamed (Unit {0}) (Unit {0})

abbrev SourceTerms : Trees → Type 0
SourceTerms = AreFormed (Unit {0}) AreNamed (Unit {0}) (Unit {0})

abbrev SourceCases : Trees → Type 0
SourceCases = AreFormedCases (Unit {0}) AreNamed (Unit {0}) (Unit {0})

-- ---- lists

joined_places : (inside : Bool) (ps qs : Plans) → core_places_in inside [] (join ps qs) ≡ core_places_in inside [] ps ++ core_places_in inside [] qs
unfolding core_places_in
joined_places inside no_plans qs = refl
joined_places inside (plan place p ps) qs =
    ap (λ xs. core_places_at inside [] place p ++ xs) (joined_places inside ps qs) ∙ sym (append_assoc (core_places_at inside [] place p) (core_places_in inside [] ps) (core_places_in inside [] qs))

either_third : (a b c : Bool) → (a || (b || c)) ≡ ((a || b) || c)
either_third true b c = refl
either_third false b c = refl

joined_left : (ps qs : Plans) → are_left (join ps qs) ≡ (are_left ps || are_left qs)
unfolding are_left
joined_left no_plans qs = refl
joined_left (plan place p ps) qs = ap (λ b. is_left p || b) (joined_left ps qs) ∙ either_third (is_left p) (are_left ps) (are_left qs)

join_third : (ps qs rs : Plans) → join (join ps qs) rs ≡ join ps (join qs rs)
join_third no_plans qs rs = refl
join_third (plan place p ps) qs rs = ap (plan place p) (join_third ps qs rs)

stepped_joined : (steps ps qs : Plans) → P.stepped_all steps (join ps qs) ≡ join (P.stepped_all steps ps) (P.stepped_all steps qs)
stepped_joined steps no_plans qs = refl
stepped_joined steps (plan place p ps) qs =
    ap (λ rs. join (P.steps_before steps p) (plan place (P.stepped steps p) rs)) (stepped_joined steps ps qs)
    ∙ sym (join_third (P.steps_before steps p) (plan place (P.stepped steps p) (P.stepped_all steps ps)) (P.stepped_all steps qs))

-- where no steps are, nothing is put
same_either : (c : Bool) (body : Plans) → (if c then body else body) ≡ body
same_either true body = refl
same_either false body = refl

none_before : (p : Plan) (rest : Plans) → join (P.steps_before no_plans p) rest ≡ rest
none_before (a_form (Op.Control Control.Continue) no_plans no_plans) rest = refl
none_before p rest = refl

mutual
  step_none : (p : Plan) → P.stepped no_plans p ≡ p
  step_none (a_form op args body) = ap (λ ps. a_form op args (if goes_in op then ps else body)) (steps_none body) ∙ ap (a_form op args) (same_either (goes_in op) body)
  step_none p = refl

  steps_none : (ps : Plans) → P.stepped_all no_plans ps ≡ ps
  steps_none no_plans = refl
  steps_none (plan place p ps) =
      none_before p (plan place (P.stepped no_plans p) (P.stepped_all no_plans ps)) ∙ ap (λ q. plan place q (P.stepped_all no_plans ps)) (step_none p) ∙ ap (plan place p) (steps_none ps)

-- ---- expressions

-- the places of terms alone
abbrev firsts : Plans → List Place
firsts no_plans = []
firsts (plan place p ps) = place ∷ firsts ps

abbrev AreValues : Plans → Type 0
AreValues no_plans = Unit {0}
AreValues (plan place p ps) = (P.is_expression p ≡ true) × AreValues ps

value_places : (inside : Bool) (place : Place) (p : Plan) → P.is_expression p ≡ true → core_places_at inside [] place p ≡ place ∷ []
unfolding core_places_at
value_places inside place (a_form (Op.Plain op) args body) e = refl
value_places inside place (a_form (Op.Literal literal) args body) e = refl
value_places inside place (a_form (Op.Special op) args body) e = refl
value_places inside place (a_form (Op.Symbolic op) args body) e = refl
value_places inside place (a_form op args body) e = absurd cc
value_places inside place p e = refl

values_places : (inside : Bool) (ps : Plans) → AreValues ps → core_places_in inside [] ps ≡ firsts ps
unfolding core_places_in
values_places inside no_plans h = refl
values_places inside (plan place p ps) h = ap (λ xs. xs ++ core_places_in inside [] ps) (value_places inside place p h.0) ∙ ap (λ xs. place ∷ xs) (values_places inside ps h.1)

value_left : (p : Plan) → P.is_expression p ≡ true → is_left p ≡ false
unfolding is_left
value_left (a_form (Op.Plain op) args body) e = refl
value_left (a_form (Op.Literal literal) args body) e = refl
value_left (a_form (Op.Special op) args body) e = refl
value_left (a_form (Op.Symbolic op) args body) e = refl
value_left (a_form op args body) e = absurd cc
value_left p e = refl

values_left : (ps : Plans) → AreValues ps → are_left ps ≡ false
unfolding are_left
values_left no_plans h = refl
values_left (plan place p ps) h = ap (λ b. b || are_left ps) (value_left p h.0) ∙ values_left ps h.1

module _ (steps : Plans) where
  value_stepped : (place : Place) (p : Plan) (rest : Plans) → P.is_expression p ≡ true → P.stepped_all steps (plan place p rest) ≡ plan place p (P.stepped_all steps rest)
  value_stepped place (a_form (Op.Plain op) args body) rest e = refl
  value_stepped place (a_form (Op.Literal literal) args body) rest e = refl
  value_stepped place (a_form (Op.Special op) args body) rest e = refl
  value_stepped place (a_form (Op.Symbolic op) args body) rest e = refl
  value_stepped place (a_form op args body) rest e = absurd cc
  value_stepped place p rest e = refl

  values_stepped : (ps : Plans) → AreValues ps → P.stepped_all steps ps ≡ ps
  values_stepped no_plans h = refl
  values_stepped (plan place p ps) h = value_stepped place p ps h.0 ∙ ap (plan place p) (values_stepped ps h.1)

optional_values : (place : Place) (p : Plan) → P.is_expression p ≡ true → AreValues (P.optional place p)
optional_values place omitted e = tt
optional_values place p e = (e, tt)

-- a start or a step with what stands for it is left out where it was
given_formed : (place : Place) (p : Plan) → firsts (P.optional place (P.formed_plan p)) ≡ place_given place p
unfolding P.formed_plan
given_formed place omitted = refl
given_formed place p = refl

-- ---- Continues that leave a program

left_either : (c : Bool) (made body : Plans) → are_left made ≡ are_left body → are_left (if c then made else body) ≡ are_left body
left_either true made body e = e
left_either false made body e = refl

module _ (steps : Plans) (values : AreValues steps) where
  before_left : (p : Plan) → are_left (P.steps_before steps p) ≡ false
  unfolding are_left
  before_left (a_form (Op.Control Control.Continue) no_plans no_plans) = values_left steps values
  before_left p = refl

  mutual
    unfolding is_left

    step_left : (p : Plan) → is_left (P.stepped steps p) ≡ is_left p
    step_left (a_form op args body) = ap (form_is_left op) (left_either (goes_in op) (P.stepped_all steps body) body (steps_left body))
    step_left p = refl

    steps_left : (ps : Plans) → are_left (P.stepped_all steps ps) ≡ are_left ps
    steps_left no_plans = refl
    steps_left (plan place p ps) =
        joined_left (P.steps_before steps p) (plan place (P.stepped steps p) (P.stepped_all steps ps))
        ∙ ap (λ b. b || (is_left (P.stepped steps p) || are_left (P.stepped_all steps ps))) (before_left p)
        ∙ ap (λ b. b || are_left (P.stepped_all steps ps)) (step_left p) ∙ ap (λ b. is_left p || b) (steps_left ps)

first_true : (a b : Bool) → (a && b) ≡ true → a ≡ true
first_true true b e = refl
first_true false b e = absurd cc

second_true : (a b : Bool) → (a && b) ≡ true → b ≡ true
second_true true b e = e
second_true false b e = absurd cc

-- a For
for_left : (here a b c : Place) (start test step : Plan) (body rest : Plans) → are_left (P.spread here (a_form (Op.Control Control.For) (plan a start (plan b test (plan c step no_plans))) body) rest) ≡ are_left rest
unfolding are_left
for_left here a b c start test step body rest = by (P.is_steppable start step body) refl
  where
    by : (d : Bool) → P.is_steppable start step body ≡ d
        → are_left (if d then join (P.optional a start) (plan here (P.while_plan b test (P.optional c step) body) rest) else plan here (a_form (Op.Control Control.For) (plan a start (plan b test (plan c step no_plans))) body) rest) ≡ are_left rest
    by true e =
        joined_left (P.optional a start) (plan here (P.while_plan b test (P.optional c step) body) rest)
        ∙ ap (λ b. b || are_left rest) (values_left (P.optional a start) (optional_values a start (first_true (P.is_expression start) (P.is_expression step && not (P.have_far_continue body)) e)))
    by false e = refl

-- a term before others
spread_left : (here : Place) (p : Plan) (rest : Plans) → are_left (P.spread here p rest) ≡ (is_left p || are_left rest)
unfolding are_left
spread_left here (a_form (Op.Control Control.For) (plan a start (plan b test (plan c step no_plans))) body) rest = for_left here a b c start test step body rest
spread_left here (a_form (Op.Control Control.Printf) (plan b (a_text format) args) no_plans) rest = by (P.is_filled format args)
  where
    by : (d : Bool) → are_left (if d then plan here (P.print_plan here here debug format args) rest else plan here (a_form (Op.Control Control.Printf) (plan b (a_text format) args) no_plans) rest) ≡ are_left rest
    by true = refl
    by false = refl
spread_left here (a_form (Op.Control Control.Fprintf) (plan a target (plan b (a_text format) args)) no_plans) rest = by (P.is_filled format args)
  where
    by : (d : Bool) → are_left (if d then plan here (P.print_plan here a target format args) rest else plan here (a_form (Op.Control Control.Fprintf) (plan a target (plan b (a_text format) args)) no_plans) rest) ≡ are_left rest
    by true = refl
    by false = refl
spread_left here p rest = refl

body_left : (op : Op) (body : Plans) → are_left (P.formed_plans body) ≡ are_left body → form_is_left op (are_left (P.formed_body op (P.formed_args body) (P.formed_plans body) body)) ≡ form_is_left op (are_left body)
body_left (Op.Control Control.If) body e = e
body_left (Op.Control Control.ElseIf) body e = e
body_left (Op.Control Control.Else) body e = e
body_left (Op.Control Control.Switch) body e = e
body_left (Op.Control Control.Case) body e = e
body_left (Op.Control Control.Default) body e = e
body_left (Op.Declaration Declaration.Scope) body e = e
body_left (Op.Declaration Declaration.Device) body e = e
body_left (Op.Declaration Declaration.ThermalZone) body e = e
body_left (Op.Declaration Declaration.PowerResource) body e = e
body_left (Op.Declaration Declaration.Processor) body e = e
body_left op body e = refl

mutual
  unfolding is_left P.formed_plan

  formed_left : (p : Plan) → is_left (P.formed_plan p) ≡ is_left p
  formed_left (a_form op args body) = body_left op body (plans_left body)
  formed_left p = refl

  plans_left : (ps : Plans) → are_left (P.formed_plans ps) ≡ are_left ps
  plans_left no_plans = refl
  plans_left (plan place p ps) = spread_left place (P.formed_plan p) (P.formed_plans ps) ∙ ap (λ b. b || are_left (P.formed_plans ps)) (formed_left p) ∙ ap (λ b. is_left p || b) (plans_left ps)

-- ---- a form

-- what stands for the Cases and the Default among some plans
abbrev chain_in : List Place → Plans → List Place
chain_in steps ps = chain_places (cases_in steps ps) (default_in steps ps)

abbrev SameCases : List Place → Plans → List Place → Plans → Type 0
SameCases steps ps steps' ps' = (cases_in steps ps ≡ cases_in steps' ps') × (default_in steps ps ≡ default_in steps' ps')

-- whether a form stays in its place, and nothing is put before it
abbrev stays : Op → Bool
stays (Op.Control Control.For) = false
stays (Op.Control Control.Continue) = false
stays op = true

module _ (steps : Plans) (values : AreValues steps) (inside : Bool) (place : Place) (args body : Plans) where
  form_stepped : (here : At) (op : Op) (cs bs : Trees) → stays op ≡ true → Source (form here op cs bs) → IsNear (form here op cs bs)
      → (SourceTerms bs → AreNear bs → (inside : Bool) → core_places_in inside [] (P.stepped_all steps (P.formed_plans body)) ≡ core_places_in inside (firsts steps) body)
      → (SourceTerms bs → AreNear bs → (inside : Bool) → core_places_in inside [] (P.formed_plans body) ≡ core_places_in inside [] body)
      → (SourceCases bs → AreNear bs → SameCases [] (P.stepped_all steps (P.formed_plans body)) (firsts steps) body)
      → core_places_at inside [] place (P.stepped steps (P.formed_plan (a_form op args body))) ≡ core_places_at inside (firsts steps) place (a_form op args body)
  unfolding core_places_at P.formed_plan
  form_stepped here (Op.Declaration Declaration.Method) (tree (Use at name) (tree (Integer arity) no_trees)) bs e h n i j k = ap (λ ps. place ∷ ps) (j h.2 n false)
  form_stepped here (Op.Declaration Declaration.Method) _ bs e h n i j k = absurd h
  form_stepped here (Op.Declaration Declaration.Device) (tree (Use at name) no_trees) bs e h n i j k = ap (λ ps. place ∷ ps) (j h.2 n inside)
  form_stepped here (Op.Declaration Declaration.Device) _ bs e h n i j k = absurd h
  form_stepped here (Op.Declaration Declaration.ThermalZone) (tree (Use at name) no_trees) bs e h n i j k = ap (λ ps. place ∷ ps) (j h.2 n inside)
  form_stepped here (Op.Declaration Declaration.ThermalZone) _ bs e h n i j k = absurd h
  form_stepped here (Op.Declaration Declaration.PowerResource) (tree (Use at name) (tree (Integer power) (tree (Integer order) no_trees))) bs e h n i j k = ap (λ ps. place ∷ ps) (j h.2 n inside)
  form_stepped here (Op.Declaration Declaration.PowerResource) _ bs e h n i j k = absurd h
  form_stepped here (Op.Declaration Declaration.Processor) (tree (Use at name) (tree (Integer number) (tree (Integer address) (tree (Integer size) no_trees)))) bs e h n i j k = ap (λ ps. place ∷ ps) (j h.2 n inside)
  form_stepped here (Op.Declaration Declaration.Processor) _ bs e h n i j k = absurd h
  form_stepped here (Op.Declaration Declaration.Scope) (tree (Use at name) no_trees) bs e h n i j k = ap (λ ps. place ∷ ps) (j h.1 n inside)
  form_stepped here (Op.Declaration Declaration.Scope) _ bs e h n i j k = absurd h
  form_stepped here (Op.Control Control.If) (tree test no_trees) bs e h n i j k = ap (λ ps. place ∷ ps) (i h.2 n inside)
  form_stepped here (Op.Control Control.If) _ bs e h n i j k = absurd h
  form_stepped here (Op.Control Control.ElseIf) (tree test no_trees) bs e h n i j k = ap (λ ps. place ∷ ps) (i h.2 n inside)
  form_stepped here (Op.Control Control.ElseIf) _ bs e h n i j k = absurd h
  form_stepped here (Op.Control Control.Else) no_trees bs e h n i j k = ap (λ ps. place ∷ ps) (i h n inside)
  form_stepped here (Op.Control Control.Else) _ bs e h n i j k = absurd h
  form_stepped here (Op.Control Control.While) (tree test no_trees) bs e h n i j k = ap (λ ps. place ∷ ps) (j h.2 n false)
  form_stepped here (Op.Control Control.While) _ bs e h n i j k = absurd h
  form_stepped here (Op.Control Control.Switch) (tree value no_trees) bs e h n i j k =
      ap (λ b. loop_places b inside place (turn_places place (chain_in [] (P.stepped_all steps (P.formed_plans body))))) (steps_left steps values (P.formed_plans body) ∙ plans_left body)
      ∙ ap (λ ps. loop_places (are_left body) inside place (turn_places place ps))
      (ap (λ ps. chain_places ps (default_in [] (P.stepped_all steps (P.formed_plans body)))) (k h.3 n).0 ∙ ap (chain_places (cases_in (firsts steps) body)) (k h.3 n).1)
  form_stepped here (Op.Control Control.Switch) _ bs e h n i j k = absurd h
  form_stepped here (Op.Control Control.For) cs bs e h n i j k = absurd cc
  form_stepped here (Op.Control Control.Continue) cs bs e h n i j k = absurd cc
  form_stepped here op cs bs e h n i j k = refl

-- what prints
module _ (steps : Plans) (inside : Bool) (place : Place) (rest : Plans) where
  abbrev behind : List Place
  behind = core_places_in inside [] (P.stepped_all steps rest)

  printf_places : (args body : Plans) → core_places_in inside [] (P.stepped_all steps (P.spread place (a_form (Op.Control Control.Printf) args body) rest)) ≡ place ∷ behind
  unfolding core_places_in
  printf_places (plan b (a_text format) args) no_plans = by (P.is_filled format args)
    where
      by : (d : Bool) → core_places_in inside [] (P.stepped_all steps (if d then plan place (P.print_plan place place debug format args) rest else plan place (a_form (Op.Control Control.Printf) (plan b (a_text format) args) no_plans) rest)) ≡ place ∷ behind
      by true = refl
      by false = refl
  printf_places args body = refl

  fprintf_places : (args body : Plans) → core_places_in inside [] (P.stepped_all steps (P.spread place (a_form (Op.Control Control.Fprintf) args body) rest)) ≡ place ∷ behind
  unfolding core_places_in
  fprintf_places (plan a target (plan b (a_text format) args)) no_plans = by (P.is_filled format args)
    where
      by : (d : Bool) → core_places_in inside [] (P.stepped_all steps (if d then plan place (P.print_plan place a target format args) rest else plan place (a_form (Op.Control Control.Fprintf) (plan a target (plan b (a_text format) args)) no_plans) rest)) ≡ place ∷ behind
      by true = refl
      by false = refl
  fprintf_places args body = refl

-- ---- a For

module _ (steps : Plans) (inside : Bool) (here a b c : Place) (start test step : Plan) (body rest : Plans) where
  abbrev start' : Plan
  start' = P.formed_plan start

  abbrev step' : Plan
  step' = P.formed_plan step

  abbrev body' : Plans
  body' = P.formed_plans body

  abbrev turn : Plans
  turn = P.optional c step'

  abbrev loop_of : Plan
  loop_of = P.while_plan b (P.formed_plan test) turn body'

  abbrev others : List Place
  others = core_places_in inside [] (P.stepped_all steps rest)

  -- in the While
  turn_made : AreValues turn → ((more : Plans) → AreValues more → core_places_in false [] (P.stepped_all more body') ≡ core_places_in false (firsts more) body)
      → core_places_in false [] (join (P.stepped_all turn body') turn) ≡ core_places_in false (place_given c step) body ++ place_given c step
  turn_made values i =
      joined_places false (P.stepped_all turn body') turn ∙ ap (λ xs. core_places_in false [] (P.stepped_all turn body') ++ xs) (values_places false turn values)
      ∙ ap (λ xs. xs ++ firsts turn) (i turn values) ∙ ap (λ xs. core_places_in false xs body ++ xs) (given_formed c step)

  for_made : P.is_steppable start' step' body' ≡ true → AreValues (P.optional a start') → AreValues turn → ((more : Plans) → AreValues more → core_places_in false [] (P.stepped_all more body') ≡ core_places_in false (firsts more) body)
      → core_places_in inside [] (P.stepped_all steps (P.spread here (P.formed_plan (a_form (Op.Control Control.For) (plan a start (plan b test (plan c step no_plans))) body)) rest))
      ≡ core_places_at inside (firsts steps) here (a_form (Op.Control Control.For) (plan a start (plan b test (plan c step no_plans))) body) ++ others
  unfolding core_places_in P.formed_plan
  for_made fit begin end i =
      let begins = P.optional a start' in
      ap (λ d. core_places_in inside [] (P.stepped_all steps (if d then join begins (plan here loop_of rest) else plan here (a_form (Op.Control Control.For) (plan a start' (plan b (P.formed_plan test) (plan c step' no_plans))) body') rest))) fit
      ∙ ap (core_places_in inside []) (stepped_joined steps begins (plan here loop_of rest))
      ∙ joined_places inside (P.stepped_all steps begins) (plan here loop_of (P.stepped_all steps rest))
      ∙ ap (λ ps. core_places_in inside [] ps ++ core_places_in inside [] (plan here loop_of (P.stepped_all steps rest))) (values_stepped steps begins begin)
      ∙ ap (λ xs. xs ++ core_places_in inside [] (plan here loop_of (P.stepped_all steps rest))) (values_places inside begins begin ∙ given_formed a start)
      ∙ ap (λ xs. place_given a start ++ ((here ∷ xs) ++ others)) (turn_made end i)
      ∙ sym (append_assoc (place_given a start) (here ∷ (core_places_in false (place_given c step) body ++ place_given c step)) others)

  -- where it may be written as a While
  for_stepped : (x y z : Tree) (bs : Trees) → Stands start x → Stands step z → StandAll body bs → Source (For x y z bs) → IsNear (For x y z bs)
      → ((more : Plans) → AreValues more → core_places_in false [] (P.stepped_all more body') ≡ core_places_in false (firsts more) body)
      → core_places_in inside [] (P.stepped_all steps (P.spread here (P.formed_plan (a_form (Op.Control Control.For) (plan a start (plan b test (plan c step no_plans))) body)) rest))
      ≡ core_places_at inside (firsts steps) here (a_form (Op.Control Control.For) (plan a start (plan b test (plan c step no_plans))) body) ++ others
  for_stepped x y z bs sx sz sb h n i =
      let fit : P.is_steppable start' step' body' ≡ true
      = steppable_stands start' step' body' (F.formed x) (F.formed z) (F.formed_all bs) (formed_stands start x sx) (formed_stands step z sz) (formed_stand body bs sb)
      ∙ steppable_same x z bs
      ∙ fits_loop (F.is_expression x) (F.is_expression z) (F.have_far_continue bs) (effect_expression AreNamed (Unit {0}) (Unit {0}) x h.1) (effect_expression AreNamed (Unit {0}) (Unit {0}) z h.4) n.0 in
      for_made fit
      (optional_values a start' (first_true (P.is_expression start') (P.is_expression step' && not (P.have_far_continue body')) fit))
      (optional_values c step' (first_true (P.is_expression step') (not (P.have_far_continue body')) (second_true (P.is_expression start') (P.is_expression step' && not (P.have_far_continue body')) fit)))
      i

-- ---- programs

-- a Continue, with the steps before it
continue_stepped : (steps : Plans) → AreValues steps → (inside : Bool) (place : Place) (rest : Plans)
    → core_places_in inside [] (P.stepped_all steps (P.spread place (P.formed_plan (a_form (Op.Control Control.Continue) no_plans no_plans)) rest)) ≡ (firsts steps ++ continue_places inside place) ++ core_places_in inside [] (P.stepped_all steps rest)
unfolding core_places_in P.formed_plan
continue_stepped steps values inside place rest =
    let others = core_places_in inside [] (P.stepped_all steps rest) in
    joined_places inside steps (plan place (a_form (Op.Control Control.Continue) no_plans no_plans) (P.stepped_all steps rest))
    ∙ ap (λ xs. xs ++ (continue_places inside place ++ others)) (values_places inside steps values)
    ∙ sym (append_assoc (firsts steps) (continue_places inside place) others)

-- a form before others
module _ (steps : Plans) (values : AreValues steps) (inside : Bool) (place : Place) (rest : Plans) where
  abbrev later : List Place
  later = core_places_in inside [] (P.stepped_all steps rest)

  form_spread : (here : At) (op : Op) (args body : Plans) (cs bs : Trees) → StandAll args cs → StandAll body bs → Source (form here op cs bs) → IsNear (form here op cs bs)
      → ((more : Plans) → AreValues more → SourceTerms bs → AreNear bs → (inside : Bool) → core_places_in inside [] (P.stepped_all more (P.formed_plans body)) ≡ core_places_in inside (firsts more) body)
      → (SourceCases bs → AreNear bs → SameCases [] (P.stepped_all steps (P.formed_plans body)) (firsts steps) body)
      → core_places_in inside [] (P.stepped_all steps (P.spread place (P.formed_plan (a_form op args body)) rest)) ≡ core_places_at inside (firsts steps) place (a_form op args body) ++ later
  unfolding core_places_in P.formed_plan
  form_spread here (Op.Control Control.For) (plan a start (plan b test (plan c step no_plans))) body (tree x (tree y (tree z no_trees))) bs s r h n i k =
      for_stepped steps inside place a b c start test step body rest x y z bs s.0 s.1.1.0 r h n (λ more values. i more values h.5 n.1 false)
  form_spread here (Op.Control Control.For) no_plans body (tree x (tree y (tree z no_trees))) bs s r h n i k = absurd s
  form_spread here (Op.Control Control.For) (plan a start no_plans) body (tree x (tree y (tree z no_trees))) bs s r h n i k = absurd s.1
  form_spread here (Op.Control Control.For) (plan a start (plan b test no_plans)) body (tree x (tree y (tree z no_trees))) bs s r h n i k = absurd s.1.1
  form_spread here (Op.Control Control.For) (plan a start (plan b test (plan c step (plan d p ps)))) body (tree x (tree y (tree z no_trees))) bs s r h n i k = absurd s.1.1.1
  form_spread here (Op.Control Control.For) args body _ bs s r h n i k = absurd h
  form_spread here (Op.Control Control.Continue) no_plans no_plans no_trees no_trees s r h n i k = continue_stepped steps values inside place rest
  form_spread here (Op.Control Control.Continue) (plan a p ps) body no_trees no_trees s r h n i k = absurd s
  form_spread here (Op.Control Control.Continue) no_plans (plan a p ps) no_trees no_trees s r h n i k = absurd r
  form_spread here (Op.Control Control.Continue) args body _ _ s r h n i k = absurd h
  form_spread here (Op.Control Control.Printf) args body cs bs s r h n i k = printf_places steps inside place rest (P.formed_args args) body
  form_spread here (Op.Control Control.Fprintf) args body cs bs s r h n i k = fprintf_places steps inside place rest (P.formed_args args) body
  form_spread here op args body cs bs s r h n i k =
      ap (λ xs. xs ++ later)
      (form_stepped steps values inside place args body here op cs bs refl h n (i steps values)
      (λ l m inside. ap (core_places_in inside []) (sym (steps_none (P.formed_plans body))) ∙ i no_plans tt l m inside) k)

-- a Case before others
case_stepped : (steps : Plans) (place : Place) (here : At) (op : Op) (args body : Plans) (cs bs : Trees) (ps : Plans) (ts : Trees) → SourceCases (tree (form here op cs bs) ts) → IsNear (form here op cs bs) → AreNear ts
    → (SourceTerms bs → AreNear bs → core_places_in true [] (P.stepped_all steps (P.formed_plans body)) ≡ core_places_in true (firsts steps) body)
    → (SourceCases ts → AreNear ts → SameCases [] (P.stepped_all steps (P.formed_plans ps)) (firsts steps) ps)
    → SameCases [] (P.stepped_all steps (P.formed_plans (plan place (a_form op args body) ps))) (firsts steps) (plan place (a_form op args body) ps)
unfolding core_places_in P.formed_plan
case_stepped steps place here (Op.Control Control.Case) args body (tree value no_trees) bs ps ts h n m i k = (
  ap (λ inner. (place ∷ inner) ++ cases_in [] (P.stepped_all steps (P.formed_plans ps))) (i h.1 n) ∙ ap (λ more. (place ∷ core_places_in true (firsts steps) body) ++ more) (k h.2 m).0,
  (k h.2 m).1,
)
case_stepped steps place here (Op.Control Control.Case) args body _ bs ps ts h n m i k = absurd h
case_stepped steps place here (Op.Control Control.Default) args body no_trees bs ps no_trees h n m i k = ((k tt tt).0, ap (λ inner. Some (place, inner)) (i h n))
case_stepped steps place here (Op.Control Control.Default) args body no_trees bs ps (tree t ts) h n m i k = absurd h
case_stepped steps place here (Op.Control Control.Default) args body _ bs ps ts h n m i k = absurd h
case_stepped steps place here op args body cs bs ps ts h n m i k = absurd (not_among (Unit {0}) here op cs bs ts refl h)

mutual
  unfolding core_places_in P.formed_plan

  term_stepped : (steps : Plans) → AreValues steps → (inside : Bool) (place : Place) (rest : Plans) (p : Plan) (t : Tree) → Stands p t → Source t → IsNear t
      → core_places_in inside [] (P.stepped_all steps (P.spread place (P.formed_plan p) rest)) ≡ core_places_at inside (firsts steps) place p ++ core_places_in inside [] (P.stepped_all steps rest)
  term_stepped steps values inside place rest (a_form op args body) t s h n =
      form_spread steps values inside place rest s.0 op args body s.1 s.2 s.4 s.5 (subst Source s.3 h) (subst IsNear s.3 n)
      (λ more values l m inside. terms_stepped more values inside body s.2 s.5 l m) (λ l m. cases_stepped steps values body s.2 s.5 l m)
  term_stepped steps values inside place rest p t s h n = refl

  terms_stepped : (steps : Plans) → AreValues steps → (inside : Bool) (ps : Plans) (ts : Trees) → StandAll ps ts → SourceTerms ts → AreNear ts
      → core_places_in inside [] (P.stepped_all steps (P.formed_plans ps)) ≡ core_places_in inside (firsts steps) ps
  terms_stepped steps values inside no_plans no_trees s h n = refl
  terms_stepped steps values inside no_plans (tree t ts) s h n = absurd s
  terms_stepped steps values inside (plan place p ps) no_trees s h n = absurd s
  terms_stepped steps values inside (plan place p ps) (tree t ts) s h n =
      term_stepped steps values inside place (P.formed_plans ps) p t s.0 h.0 n.0 ∙ ap (λ xs. core_places_at inside (firsts steps) place p ++ xs) (terms_stepped steps values inside ps ts s.1 h.2 n.1)

  cases_stepped : (steps : Plans) → AreValues steps → (ps : Plans) (ts : Trees) → StandAll ps ts → SourceCases ts → AreNear ts → SameCases [] (P.stepped_all steps (P.formed_plans ps)) (firsts steps) ps
  cases_stepped steps values no_plans no_trees s h n = (refl, refl)
  cases_stepped steps values no_plans (tree t ts) s h n = absurd s
  cases_stepped steps values (plan place p ps) no_trees s h n = absurd s
  cases_stepped steps values (plan place (a_form op args body) ps) (tree t ts) s h n =
      case_stepped steps place s.0.0 op args body s.0.1 s.0.2 ps ts (subst (λ u. SourceCases (tree u ts)) s.0.3 h) (subst IsNear s.0.3 n.0) n.1
      (λ l m. terms_stepped steps values true body s.0.2 s.0.5 l m) (λ l m. cases_stepped steps values ps ts s.1 l m)
  cases_stepped steps values (plan place (a_call name args) ps) (tree t ts) s h n = absurd (subst (λ u. SourceCases (tree u ts)) s.0.2 h)
  cases_stepped steps values (plan place (a_name name) ps) (tree t ts) s h n = absurd (subst (λ u. SourceCases (tree u ts)) s.0.1 h)
  cases_stepped steps values (plan place (a_unit segment bits) ps) (tree t ts) s h n = absurd (subst (λ u. SourceCases (tree u ts)) s.0.1 h)
  cases_stepped steps values (plan place p ps) (tree t ts) s h n = absurd (subst (λ u. SourceCases (tree u ts)) s.0 h)

-- the places of a formed program, in which each step may stand before the Continues of its For
pub core_formed : (ps : Plans) (ts : Trees) → StandAll ps ts → AreFormed (Unit {0}) AreNamed (Unit {0}) (Unit {0}) ts → AreNear ts → core_places_in false [] (P.formed_plans ps) ≡ core_places_in false [] ps
core_formed ps ts s h n = ap (core_places_in false []) (sym (steps_none (P.formed_plans ps))) ∙ terms_stepped no_plans tt false ps ts s h n
