-- Where trees stand for plans, what stands for their Fors and for what they print stands for what these are as plans.
use Rattle.std.proofs.Common.{◌≡◌, ℕ, Bool, true, false, List, [], ◌∷◌, refl, sym, ap, ◌∙◌, subst}
use Rattle.std.specs.Prelude.{◌&&◌, if◌then◌else◌}
use Rattle.iasl_messages.specs.declared.place.Place.{Place}
use Rattle.acpi_values.specs.Operators.{Letter, Valued}
use Rattle.acpi_values.specs.declared.operator.Plain.{Plain}
use Rattle.acpi_values.specs.declared.operator.DataOp.TheVariants as DataOp
use Rattle.asl_tree.specs.Formats.{cut}
use Rattle.asl_tree.specs.declared.term.Op.{Op}
use Rattle.asl_tree.specs.declared.term.Declaration.TheVariants as Declaration
use Rattle.asl_tree.specs.declared.term.Control.TheVariants as Control
use Rattle.asl_tree.specs.declared.term.Special.TheVariants as Special
use Rattle.asl_tree.specs.Tree.{At, Tree, String, Debug, Omitted, Apply, For, Print, Continue, Trees, no_trees, tree}
use Rattle.asl_tree.specs.View.{form, operands_as}
use Rattle.term_plans.specs.Plans.{Plan, a_text, debug, omitted, a_name, a_unit, a_call, a_form, Plans, no_plans, plan, join}
use Rattle.asl_prints.specs.Forms as F
use Rattle.asl_formats.specs.Steps.{stepped_body, is_next}
use Rattle.asl_prints.specs.Nodes as N
use Rattle.asl_formats.specs.Steps as R
use Rattle.asl_formats.specs.Pass as A
use Rattle.asl_prints.specs.Texts.{is_text}
use Rattle.asl_formats.specs.Stands.{form_stand}
use Rattle.asl_formats.specs.declared.stand.Stand.TheVariants as S
use Rattle.asl_prints.specs.Plans as P
use Rattle.asl_formats.proofs.Loops.{first_true}
use Rattle.asl_formats.proofs.FormedForms.{kept_form}
use Rattle.asl_formats.proofs.StepForms.{stepped_form, other_form}
use Rattle.asl_formats.proofs.Stepping.{followed_assoc, steps_of_other}
use Rattle.asl_formats.proofs.StandForms.{stand_form}
use Rattle.asl_formats.proofs.Standing.{itself_spread}
use Rattle.asl_prints.proofs.PlanTrees.{Stands, StandAll, text_stands, given_stands, filled_stand, steppable_stands}

-- ---- lists

join_stand : (ps qs : Plans) (ts us : Trees) → StandAll ps ts → StandAll qs us → StandAll (join ps qs) (F.followed ts us)
join_stand no_plans qs no_trees us s r = r
join_stand no_plans qs (tree t ts) us s r = absurd s
join_stand (plan place p ps) qs no_trees us s r = absurd s
join_stand (plan place p ps) qs (tree t ts) us s r = (s.0, join_stand ps qs ts us s.1 r)

there : (t : Tree) → true ≡ F.is_given t → F.optional t ≡ tree t no_trees
there Omitted e = absurd cc
there t e = refl

pub optional_stands : (place : Place) (p : Plan) (t : Tree) → Stands p t → StandAll (P.optional place p) (F.optional t)
optional_stands place omitted t s = subst (λ u. StandAll no_plans (F.optional u)) (sym s) tt
optional_stands place p t s = subst (StandAll (plan place p no_plans)) (sym (there t (given_stands p t s))) (s, tt)

-- ---- steps before each Continue

before_form : (steps : Plans) (trees cs bs : Trees) (at : At) → StandAll steps trees → StandAll no_plans cs → StandAll no_plans bs → StandAll steps (R.steps_before trees (form at (Op.Control Control.Continue) cs bs))
before_form steps trees no_trees no_trees at h s r = h
before_form steps trees no_trees (tree t ts) at h s r = absurd r
before_form steps trees (tree t ts) bs at h s r = absurd s

no_before : (trees : Trees) (t : Tree) → is_next t ≡ false → StandAll no_plans (R.steps_before trees t)
no_before trees t e = subst (StandAll no_plans) (sym (steps_of_other trees t e)) tt

-- a Continue that is none: it has arguments or braces
no_continue : (place : Place) (p : Plan) (ps : Plans) (cs bs : Trees) (at : At) → StandAll (plan place p ps) bs → is_next (form at (Op.Control Control.Continue) cs bs) ≡ false
no_continue place p ps no_trees no_trees at s = absurd s
no_continue place p ps no_trees (tree t ts) at s = refl
no_continue place p ps (tree t ts) bs at s = refl

no_bare : (place : Place) (p : Plan) (ps : Plans) (cs bs : Trees) (at : At) → StandAll (plan place p ps) cs → is_next (form at (Op.Control Control.Continue) cs bs) ≡ false
no_bare place p ps no_trees bs at s = absurd s
no_bare place p ps (tree t ts) bs at s = refl

module _ (steps : Plans) (trees : Trees) (h : StandAll steps trees) where
  before_stands : (p : Plan) (t : Tree) → Stands p t → StandAll (P.steps_before steps p) (R.steps_before trees t)
  before_stands (a_form (Op.Control Control.Continue) no_plans no_plans) t s =
      subst (λ u. StandAll steps (R.steps_before trees u)) (sym s.3) (before_form steps trees s.1 s.2 s.0 h s.4 s.5)
  before_stands (a_form (Op.Control Control.Continue) no_plans (plan place p ps)) t s = no_before trees t (ap is_next s.3 ∙ no_continue place p ps s.1 s.2 s.0 s.5)
  before_stands (a_form (Op.Control Control.Continue) (plan place p ps) body) t s = no_before trees t (ap is_next s.3 ∙ no_bare place p ps s.1 s.2 s.0 s.4)
  before_stands (a_form op args body) t s = no_before trees t (ap is_next s.3 ∙ other_form s.0 op s.1 s.2 refl)
  before_stands (a_call name args) t s = no_before trees t (ap is_next s.2)
  before_stands (a_name name) t s = no_before trees t (ap is_next s.1)
  before_stands (a_unit segment bits) t s = no_before trees t (ap is_next s.1)
  before_stands p t s = no_before trees t (ap is_next s)

  braces_stand : (op : Op) (body : Plans) (bs : Trees) → StandAll body bs → StandAll (P.stepped_all steps body) (F.stepped_all trees bs) → StandAll (if N.goes_in op then P.stepped_all steps body else body) (stepped_body trees op bs)
  braces_stand (Op.Control Control.If) body bs s r = r
  braces_stand (Op.Control Control.ElseIf) body bs s r = r
  braces_stand (Op.Control Control.Else) body bs s r = r
  braces_stand (Op.Control Control.Switch) body bs s r = r
  braces_stand (Op.Control Control.Case) body bs s r = r
  braces_stand (Op.Control Control.Default) body bs s r = r
  braces_stand op body bs s r = s

  -- with the steps before it
  stepped_first : (t : Tree) (ts : Trees) → F.stepped_all trees (tree t ts) ≡ F.followed (R.steps_before trees t) (tree (F.stepped trees t) (F.stepped_all trees ts))
  stepped_first Continue ts = refl
  stepped_first t ts = refl

  mutual
    stepped_stands : (p : Plan) (t : Tree) → Stands p t → Stands (P.stepped steps p) (F.stepped trees t)
    stepped_stands (a_form op args body) t s =
        (s.0, s.1, stepped_body trees op s.2, ap (F.stepped trees) s.3 ∙ stepped_form trees s.0 op s.1 s.2, s.4, braces_stand op body s.2 s.5 (stepped_stand body s.2 s.5))
    stepped_stands (a_call name args) t s = (s.0, s.1, ap (F.stepped trees) s.2, s.3)
    stepped_stands (a_name name) t s = (s.0, ap (F.stepped trees) s.1)
    stepped_stands (a_unit segment bits) t s = (s.0, ap (F.stepped trees) s.1)
    stepped_stands p t s = ap (F.stepped trees) s

    pub stepped_stand : (ps : Plans) (ts : Trees) → StandAll ps ts → StandAll (P.stepped_all steps ps) (F.stepped_all trees ts)
    stepped_stand no_plans no_trees s = tt
    stepped_stand no_plans (tree t ts) s = absurd s
    stepped_stand (plan place p ps) no_trees s = absurd s
    stepped_stand (plan place p ps) (tree t ts) s =
        subst (StandAll (P.stepped_all steps (plan place p ps))) (sym (stepped_first t ts))
        (join_stand (P.steps_before steps p) (plan place (P.stepped steps p) (P.stepped_all steps ps)) (R.steps_before trees t) (tree (F.stepped trees t) (F.stepped_all trees ts))
        (before_stands p t s.0) (stepped_stands p t s.0, stepped_stand ps ts s.1))

-- ---- what prints

valued_given : (letters : List Letter) (t : Tree) (ts : Trees) → F.is_given t ≡ true → operands_as (Valued ∷ letters) (tree t ts) ≡ tree t (operands_as letters ts)
valued_given letters Omitted ts e = absurd cc
valued_given letters t ts e = refl

concatenation : (at : At) (a b : Tree) → F.is_given a ≡ true → F.is_given b ≡ true → F.concatenated a b ≡ form at (Op.Plain (Plain.Data DataOp.Concatenate)) (tree a (tree b (tree Omitted no_trees))) no_trees
concatenation at a b e f =
    sym (ap (λ ts. Apply (Plain.Data DataOp.Concatenate) ts (tree Omitted no_trees)) (valued_given (Valued ∷ []) a (tree b (tree Omitted no_trees)) e ∙ ap (tree a) (valued_given [] b (tree Omitted no_trees) f)))

storing : (at : At) (value place : Tree) → F.is_given value ≡ true → Apply (Plain.Data DataOp.Store) (tree value (tree place no_trees)) no_trees ≡ form at (Op.Plain (Plain.Data DataOp.Store)) (tree value (tree place no_trees)) no_trees
storing at Omitted place e = absurd cc
storing at value place e = refl

text_given : (t : Tree) (text : List ℕ) → F.is_given t ≡ true → F.is_given (F.with_text t text) ≡ true
text_given t [] e = e
text_given t (c ∷ text) e = refl

arguments_given : (t : Tree) (texts : List (List ℕ)) (args : Trees) → F.is_given t ≡ true → F.is_given (F.with_arguments t texts args) ≡ true
arguments_given t [] args e = e
arguments_given t (text ∷ texts) no_trees e = e
arguments_given t (text ∷ texts) (tree arg args) e = arguments_given (F.with_text (F.concatenated t arg) text) texts args (text_given (F.concatenated t arg) text refl)

second_true : (a b : Bool) → (a && b) ≡ true → b ≡ true
second_true true b e = e
second_true false b e = absurd cc

module _ (here : Place) (at : At) where
  concatenated_stands : (front : Plan) (place : Place) (p : Plan) (t u : Tree) → Stands front t → Stands p u → F.is_given t ≡ true → F.is_given u ≡ true → Stands (P.concatenated here front place p) (F.concatenated t u)
  concatenated_stands front place p t u s r e f = (at, tree t (tree u (tree Omitted no_trees)), no_trees, concatenation at t u e f, (s, (r, (refl, tt))), tt)

  text_stand : (front : Plan) (text : List ℕ) (t : Tree) → Stands front t → F.is_given t ≡ true → Stands (P.with_text here front text) (F.with_text t text)
  text_stand front [] t s e = s
  text_stand front (c ∷ text) t s e = concatenated_stands front here (a_text (c ∷ text)) t (String (c ∷ text)) s refl e refl

  arguments_stand : (front : Plan) (texts : List (List ℕ)) (args : Plans) (t : Tree) (cs : Trees) → Stands front t → F.is_given t ≡ true → StandAll args cs → F.are_given cs ≡ true → Stands (P.with_arguments here front texts args) (F.with_arguments t texts cs)
  arguments_stand front [] args t cs s e r g = s
  arguments_stand front (text ∷ texts) no_plans t no_trees s e r g = s
  arguments_stand front (text ∷ texts) no_plans t (tree u us) s e r g = absurd r
  arguments_stand front (text ∷ texts) (plan place arg args) t no_trees s e r g = absurd r
  arguments_stand front (text ∷ texts) (plan place arg args) t (tree u us) s e r g =
      let joined = concatenated_stands front place arg t u s r.0 e (first_true (F.is_given u) (F.are_given us) g) in
      arguments_stand (P.with_text here (P.concatenated here front place arg) text) texts args (F.with_text (F.concatenated t u) text) us
      (text_stand (P.concatenated here front place arg) text (F.concatenated t u) joined refl) (text_given (F.concatenated t u) text refl) r.1 (second_true (F.is_given u) (F.are_given us) g)

  print_stands : (place : Place) (target : Plan) (t : Tree) (format : List ℕ) (args : Plans) (cs : Trees) → Stands target t → StandAll args cs → F.are_given cs ≡ true → Stands (P.print_plan here place target format args) (F.print_tree t format cs)
  print_stands place target t format args cs s r g =
      let value = F.with_arguments (String (cut format).0) (cut format).1 cs in (
        at,
        tree value (tree t no_trees),
        no_trees,
        storing at value t (arguments_given (String (cut format).0) (cut format).1 cs refl),
        (arguments_stand (a_text (cut format).0) (cut format).1 args (String (cut format).0) cs refl refl r g, (s, tt)),
        tt,
      )

-- ---- a term before others

-- a form that stays
stays : (here : Place) (at : At) (op : Op) (args body rest : Plans) (cs bs rs : Trees) → StandAll args cs → StandAll body bs → StandAll rest rs → form_stand op cs bs ≡ S.Itself → StandAll (plan here (a_form op args body) rest) (F.spread (form at op cs bs) rs)
stays here at op args body rest cs bs rs s b r e =
    subst (StandAll (plan here (a_form op args body) rest)) (itself_spread (form at op cs bs) rs (stand_form at op cs bs ∙ e)) ((at, cs, bs, refl, s, b), r)

for_spread : (here a b c : Place) (start test step : Plan) (body rest : Plans) (at : At) (x y z : Tree) (bs rs : Trees) → Stands start x → Stands test y → Stands step z → StandAll body bs → StandAll rest rs
    → StandAll (P.spread here (a_form (Op.Control Control.For) (plan a start (plan b test (plan c step no_plans))) body) rest) (F.spread (For x y z bs) rs)
for_spread here a b c start test step body rest at x y z bs rs sx sy sz sb r =
    subst (λ d. StandAll (P.spread here (a_form (Op.Control Control.For) (plan a start (plan b test (plan c step no_plans))) body) rest) (if d then F.followed (F.for_trees x y z bs) rs else tree (For x y z bs) rs))
    (steppable_stands start step body x z bs sx sz sb) (by (P.is_steppable start step body))
  where
    steps : StandAll (P.optional c step) (F.optional z)
    steps = optional_stands c step z sz

    loop : Stands (P.while_plan b test (P.optional c step) body) (F.while_tree y (F.optional z) bs)
    loop = (
      at,
      tree y no_trees,
      F.followed (F.stepped_all (F.optional z) bs) (F.optional z),
      refl,
      (sy, tt),
      join_stand (P.stepped_all (P.optional c step) body) (P.optional c step) (F.stepped_all (F.optional z) bs) (F.optional z) (stepped_stand (P.optional c step) (F.optional z) steps body bs sb) steps,
    )

    by : (d : Bool) → StandAll (if d then join (P.optional a start) (plan here (P.while_plan b test (P.optional c step) body) rest) else plan here (a_form (Op.Control Control.For) (plan a start (plan b test (plan c step no_plans))) body) rest)
        (if d then F.followed (F.for_trees x y z bs) rs else tree (For x y z bs) rs)
    by true =
        let while : Tree = F.while_tree y (F.optional z) bs in
        subst (StandAll (join (P.optional a start) (plan here (P.while_plan b test (P.optional c step) body) rest))) (sym (followed_assoc (F.optional x) (tree while no_trees) rs))
        (join_stand (P.optional a start) (plan here (P.while_plan b test (P.optional c step) body) rest) (F.optional x) (tree while rs) (optional_stands a start x sx) (loop, r))
    by false = ((at, tree x (tree y (tree z no_trees)), bs, refl, (sx, (sy, (sz, tt))), sb), r)

-- what prints, by its plan before others and by the plan that stays
print_spread : (here : Place) (at : At) (place : Place) (target stayed : Plan) (t : Tree) (format : List ℕ) (args rest : Plans) (cs rs : Trees) → Stands target t → StandAll args cs → Stands stayed (Print t format cs) → StandAll rest rs
    → StandAll (if P.is_filled format args then plan here (P.print_plan here place target format args) rest else plan here stayed rest) (F.spread (Print t format cs) rs)
print_spread here at place target stayed t format args rest cs rs s sa st r =
    subst (λ d. StandAll (if P.is_filled format args then plan here (P.print_plan here place target format args) rest else plan here stayed rest) (if d then tree (F.print_tree t format cs) rs else tree (Print t format cs) rs))
    (filled_stand format args cs sa) (by (P.is_filled format args) (sym (filled_stand format args cs sa)))
  where
    by : (d : Bool) → F.is_filled format cs ≡ d → StandAll (if d then plan here (P.print_plan here place target format args) rest else plan here stayed rest) (if d then tree (F.print_tree t format cs) rs else tree (Print t format cs) rs)
    by true e = (print_stands here at place target t format args cs s sa (first_true (F.are_given cs) (F.are_filled (cut format).1 cs) e), r)
    by false e = (st, r)

-- a format that is none, and braces behind one
no_format : (u : Tree) (us bs : Trees) → is_text u ≡ false → form_stand (Op.Control Control.Printf) (tree u us) bs ≡ S.Itself
no_format (String text) us bs e = absurd cc
no_format u us bs e = refl

no_second_format : (t u : Tree) (us bs : Trees) → is_text u ≡ false → form_stand (Op.Control Control.Fprintf) (tree t (tree u us)) bs ≡ S.Itself
no_second_format t (String text) us bs e = absurd cc
no_second_format t u us bs e = refl

braced_format : (u v : Tree) (us vs : Trees) → form_stand (Op.Control Control.Printf) (tree u us) (tree v vs) ≡ S.Itself
braced_format (String text) v us vs = refl
braced_format u v us vs = refl

braced_second : (t u v : Tree) (us vs : Trees) → form_stand (Op.Control Control.Fprintf) (tree t (tree u us)) (tree v vs) ≡ S.Itself
braced_second t (String text) v us vs = refl
braced_second t u v us vs = refl

printf_spread : (here b : Place) (at : At) (format : List ℕ) (args body rest : Plans) (u : Tree) (us bs rs : Trees) → u ≡ String format → StandAll args us → StandAll body bs → StandAll rest rs
    → StandAll (P.spread here (a_form (Op.Control Control.Printf) (plan b (a_text format) args) body) rest) (F.spread (form at (Op.Control Control.Printf) (tree u us) bs) rs)
printf_spread here b at format args no_plans rest u us no_trees rs e s k r =
    subst (λ u. StandAll (P.spread here (a_form (Op.Control Control.Printf) (plan b (a_text format) args) no_plans) rest) (F.spread (form at (Op.Control Control.Printf) (tree u us) no_trees) rs)) (sym e)
    (print_spread here at here debug (a_form (Op.Control Control.Printf) (plan b (a_text format) args) no_plans) Debug format args rest us rs refl s (at, tree (String format) us, no_trees, refl, (refl, s), tt) r)
printf_spread here b at format args no_plans rest u us (tree v vs) rs e s k r = absurd k
printf_spread here b at format args (plan place p ps) rest u us no_trees rs e s k r = absurd k
printf_spread here b at format args (plan place p ps) rest u us (tree v vs) rs e s k r =
    stays here at (Op.Control Control.Printf) (plan b (a_text format) args) (plan place p ps) rest (tree u us) (tree v vs) rs (e, s) k r (braced_format u v us vs)

fprintf_spread : (here a b : Place) (at : At) (target : Plan) (format : List ℕ) (args body rest : Plans) (t u : Tree) (us bs rs : Trees) → Stands target t → u ≡ String format → StandAll args us → StandAll body bs → StandAll rest rs
    → StandAll (P.spread here (a_form (Op.Control Control.Fprintf) (plan a target (plan b (a_text format) args)) body) rest) (F.spread (form at (Op.Control Control.Fprintf) (tree t (tree u us)) bs) rs)
fprintf_spread here a b at target format args no_plans rest t u us no_trees rs h e s k r =
    subst (λ u. StandAll (P.spread here (a_form (Op.Control Control.Fprintf) (plan a target (plan b (a_text format) args)) no_plans) rest) (F.spread (form at (Op.Control Control.Fprintf) (tree t (tree u us)) no_trees) rs)) (sym e)
    (print_spread here at a target (a_form (Op.Control Control.Fprintf) (plan a target (plan b (a_text format) args)) no_plans) t format args rest us rs h s (at, tree t (tree (String format) us), no_trees, refl, (h, (refl, s)), tt) r)
fprintf_spread here a b at target format args no_plans rest t u us (tree v vs) rs h e s k r = absurd k
fprintf_spread here a b at target format args (plan place p ps) rest t u us no_trees rs h e s k r = absurd k
fprintf_spread here a b at target format args (plan place p ps) rest t u us (tree v vs) rs h e s k r =
    stays here at (Op.Control Control.Fprintf) (plan a target (plan b (a_text format) args)) (plan place p ps) rest (tree t (tree u us)) (tree v vs) rs (h, (e, s)) k r (braced_second t u v us vs)

form_spread : (here : Place) (at : At) (op : Op) (args body rest : Plans) (cs bs rs : Trees) → StandAll args cs → StandAll body bs → StandAll rest rs → StandAll (P.spread here (a_form op args body) rest) (F.spread (form at op cs bs) rs)
form_spread here at (Op.Control Control.For) (plan a start (plan b test (plan c step no_plans))) body rest (tree x (tree y (tree z no_trees))) bs rs s k r =
    for_spread here a b c start test step body rest at x y z bs rs s.0 s.1.0 s.1.1.0 k r
form_spread here at (Op.Control Control.For) no_plans body rest no_trees bs rs s k r = stays here at (Op.Control Control.For) no_plans body rest no_trees bs rs s k r refl
form_spread here at (Op.Control Control.For) (plan a p no_plans) body rest (tree x no_trees) bs rs s k r = stays here at (Op.Control Control.For) (plan a p no_plans) body rest (tree x no_trees) bs rs s k r refl
form_spread here at (Op.Control Control.For) (plan a p (plan b q no_plans)) body rest (tree x (tree y no_trees)) bs rs s k r = stays here at (Op.Control Control.For) (plan a p (plan b q no_plans)) body rest (tree x (tree y no_trees)) bs rs s k r refl
form_spread here at (Op.Control Control.For) (plan a p (plan b q (plan c l (plan d m ps)))) body rest (tree x (tree y (tree z (tree w ws)))) bs rs s k r =
    stays here at (Op.Control Control.For) (plan a p (plan b q (plan c l (plan d m ps)))) body rest (tree x (tree y (tree z (tree w ws)))) bs rs s k r refl
form_spread here at (Op.Control Control.For) no_plans body rest (tree x xs) bs rs s k r = absurd s
form_spread here at (Op.Control Control.For) (plan a p ps) body rest no_trees bs rs s k r = absurd s
form_spread here at (Op.Control Control.For) (plan a p no_plans) body rest (tree x (tree y ys)) bs rs s k r = absurd s.1
form_spread here at (Op.Control Control.For) (plan a p (plan b q ps)) body rest (tree x no_trees) bs rs s k r = absurd s.1
form_spread here at (Op.Control Control.For) (plan a p (plan b q no_plans)) body rest (tree x (tree y (tree z zs))) bs rs s k r = absurd s.1.1
form_spread here at (Op.Control Control.For) (plan a p (plan b q (plan c l ps))) body rest (tree x (tree y no_trees)) bs rs s k r = absurd s.1.1
form_spread here at (Op.Control Control.For) (plan a p (plan b q (plan c l no_plans))) body rest (tree x (tree y (tree z (tree w ws)))) bs rs s k r = absurd s.1.1.1
form_spread here at (Op.Control Control.For) (plan a p (plan b q (plan c l (plan d m ps)))) body rest (tree x (tree y (tree z no_trees))) bs rs s k r = absurd s.1.1.1
form_spread here at (Op.Control Control.Printf) (plan b (a_text format) args) body rest (tree u us) bs rs s k r = printf_spread here b at format args body rest u us bs rs s.0 s.1 k r
form_spread here at (Op.Control Control.Printf) (plan b p args) body rest (tree u us) bs rs s k r = stays here at (Op.Control Control.Printf) (plan b p args) body rest (tree u us) bs rs s k r (no_format u us bs (text_stands p u s.0))
form_spread here at (Op.Control Control.Printf) (plan b p args) body rest no_trees bs rs s k r = absurd s
form_spread here at (Op.Control Control.Printf) no_plans body rest (tree u us) bs rs s k r = absurd s
form_spread here at (Op.Control Control.Printf) no_plans body rest no_trees bs rs s k r = stays here at (Op.Control Control.Printf) no_plans body rest no_trees bs rs s k r refl
form_spread here at (Op.Control Control.Fprintf) (plan a target (plan b (a_text format) args)) body rest (tree t (tree u us)) bs rs s k r = fprintf_spread here a b at target format args body rest t u us bs rs s.0 s.1.0 s.1.1 k r
form_spread here at (Op.Control Control.Fprintf) (plan a target (plan b p args)) body rest (tree t (tree u us)) bs rs s k r =
    stays here at (Op.Control Control.Fprintf) (plan a target (plan b p args)) body rest (tree t (tree u us)) bs rs s k r (no_second_format t u us bs (text_stands p u s.1.0))
form_spread here at (Op.Control Control.Fprintf) (plan a target no_plans) body rest (tree t no_trees) bs rs s k r = stays here at (Op.Control Control.Fprintf) (plan a target no_plans) body rest (tree t no_trees) bs rs s k r refl
form_spread here at (Op.Control Control.Fprintf) no_plans body rest no_trees bs rs s k r = stays here at (Op.Control Control.Fprintf) no_plans body rest no_trees bs rs s k r refl
form_spread here at (Op.Control Control.Fprintf) no_plans body rest (tree t ts) bs rs s k r = absurd s
form_spread here at (Op.Control Control.Fprintf) (plan a target ps) body rest no_trees bs rs s k r = absurd s
form_spread here at (Op.Control Control.Fprintf) (plan a target no_plans) body rest (tree t (tree u us)) bs rs s k r = absurd s.1
form_spread here at (Op.Control Control.Fprintf) (plan a target (plan b p ps)) body rest (tree t no_trees) bs rs s k r = absurd s.1
form_spread here at op args body rest cs bs rs s k r = stays here at op args body rest cs bs rs s k r refl

pub spread_stands : (here : Place) (p : Plan) (t : Tree) (rest : Plans) (rs : Trees) → Stands p t → StandAll rest rs → StandAll (P.spread here p rest) (F.spread t rs)
spread_stands here (a_form op args body) t rest rs s r =
    subst (λ u. StandAll (P.spread here (a_form op args body) rest) (F.spread u rs)) (sym s.3) (form_spread here s.0 op args body rest s.1 s.2 rs s.4 s.5 r)
spread_stands here (a_call name args) t rest rs s r = subst (λ u. StandAll (plan here (a_call name args) rest) (F.spread u rs)) (sym s.2) ((s.0, s.1, refl, s.3), r)
spread_stands here (a_name name) t rest rs s r = subst (λ u. StandAll (plan here (a_name name) rest) (F.spread u rs)) (sym s.1) ((s.0, refl), r)
spread_stands here (a_unit segment bits) t rest rs s r = subst (λ u. StandAll (plan here (a_unit segment bits) rest) (F.spread u rs)) (sym s.1) ((s.0, refl), r)
spread_stands here p t rest rs s r = subst (λ u. StandAll (plan here p rest) (F.spread u rs)) (sym s) (refl, r)

-- ---- programs

body_stands : (op : Op) (args all body : Plans) (bs : Trees) → StandAll args (F.formed_args bs) → StandAll all (F.formed_all bs) → StandAll body bs → StandAll (P.formed_body op args all body) (A.formed_body op bs)
body_stands (Op.Special Special.Package) args all body bs s r k = s
body_stands (Op.Declaration Declaration.Method) args all body bs s r k = r
body_stands (Op.Declaration Declaration.Device) args all body bs s r k = r
body_stands (Op.Declaration Declaration.ThermalZone) args all body bs s r k = r
body_stands (Op.Declaration Declaration.PowerResource) args all body bs s r k = r
body_stands (Op.Declaration Declaration.Processor) args all body bs s r k = r
body_stands (Op.Declaration Declaration.Scope) args all body bs s r k = r
body_stands (Op.Control Control.If) args all body bs s r k = r
body_stands (Op.Control Control.ElseIf) args all body bs s r k = r
body_stands (Op.Control Control.Else) args all body bs s r k = r
body_stands (Op.Control Control.While) args all body bs s r k = r
body_stands (Op.Control Control.For) args all body bs s r k = r
body_stands (Op.Control Control.Switch) args all body bs s r k = r
body_stands (Op.Control Control.Case) args all body bs s r k = r
body_stands (Op.Control Control.Default) args all body bs s r k = r
body_stands op args all body bs s r k = k

mutual
  unfolding P.formed_plan

  pub formed_stands : (p : Plan) (t : Tree) → Stands p t → Stands (P.formed_plan p) (F.formed t)
  formed_stands (a_form op args body) t s = (
    s.0,
    F.formed_args s.1,
    A.formed_body op s.2,
    ap F.formed s.3 ∙ kept_form s.0 op s.1 s.2,
    args_stand args s.1 s.4,
    body_stands op (P.formed_args body) (P.formed_plans body) body s.2 (args_stand body s.2 s.5) (formed_stand body s.2 s.5) s.5,
  )
  formed_stands (a_call name args) t s = (s.0, F.formed_args s.1, ap F.formed s.2, args_stand args s.1 s.3)
  formed_stands (a_name name) t s = (s.0, ap F.formed s.1)
  formed_stands (a_unit segment bits) t s = (s.0, ap F.formed s.1)
  formed_stands p t s = ap F.formed s

  args_stand : (ps : Plans) (ts : Trees) → StandAll ps ts → StandAll (P.formed_args ps) (F.formed_args ts)
  args_stand no_plans no_trees s = tt
  args_stand no_plans (tree t ts) s = absurd s
  args_stand (plan place p ps) no_trees s = absurd s
  args_stand (plan place p ps) (tree t ts) s = (formed_stands p t s.0, args_stand ps ts s.1)

  -- the terms of a list
  pub formed_stand : (ps : Plans) (ts : Trees) → StandAll ps ts → StandAll (P.formed_plans ps) (F.formed_all ts)
  formed_stand no_plans no_trees s = tt
  formed_stand no_plans (tree t ts) s = absurd s
  formed_stand (plan place p ps) no_trees s = absurd s
  formed_stand (plan place p ps) (tree t ts) s = spread_stands place (P.formed_plan p) (F.formed t) (P.formed_plans ps) (F.formed_all ts) (formed_stands p t s.0) (formed_stand ps ts s.1)
