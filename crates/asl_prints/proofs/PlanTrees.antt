-- Trees that stand for plans, whatever the numbers of their nodes are, and what is told of both.
use Rattle.std.proofs.Common.{◌≡◌, ℕ, zero, suc, Bool, true, false, not, List, [], ◌∷◌, length, refl, sym, ap, ◌∙◌, arith}
use Rattle.std.specs.Prelude.{nat_eq, ◌&&◌, ◌||◌}
use Rattle.std.proofs.lemmas.Bool.Decides.{nat_tests}
use Rattle.acpi_values.specs.Operators.{Letter, row_of}
use Rattle.acpi_state.specs.Forms.{LocalSlot, ArgSlot}
use Rattle.asl_tree.specs.FieldItems.{UnitItem, SkipItem, OffsetItem, AccessItem}
use Rattle.asl_tree.specs.Formats.{cut}
use Rattle.asl_tree.specs.Literals.{word_number}
use Rattle.asl_tree.specs.declared.term.Op.{Op}
use Rattle.asl_tree.specs.declared.term.Node.{Node}
use Rattle.asl_tree.specs.declared.term.Term.{Term}
use Rattle.asl_tree.specs.declared.term.Term as D
use Rattle.asl_tree.specs.declared.term.Declaration.TheVariants as Declaration
use Rattle.asl_tree.specs.declared.term.Control.TheVariants as Control
use Rattle.asl_tree.specs.declared.term.Special.TheVariants as Special
use Rattle.asl_tree.specs.declared.term.Symbolic.TheVariants as Symbolic
use Rattle.asl_tree.specs.Tree.{At, Tree, Integer, String, InSlot, Debug, Omitted, Use, Call, Fill, Item, Trees, no_trees, tree, count}
use Rattle.asl_tree.specs.View.{fits, form, tree_of, row_trees, trees_of}
use Rattle.asl_meaning.specs.Continues as T
use Rattle.term_plans.specs.Plans.{Plan, an_integer, a_text, a_fill, a_word, a_local, an_arg, debug, omitted, a_name, a_unit, a_skip, an_offset, an_access, a_call, a_form, Plans, no_plans, plan, how_many, plan_of, row_plans, plans_of}
use Rattle.asl_prints.specs.Forms as F
use Rattle.asl_prints.specs.Nodes.{is_continue, none_in}
use Rattle.asl_prints.specs.Texts.{is_text}
use Rattle.asl_prints.specs.Fits as S
use Rattle.asl_prints.specs.Plans as P
use Rattle.asl_prints.specs.declared.leave.Braces.{Braces}
use Rattle.asl_prints.specs.declared.leave.Braces.TheVariants as B
use Rattle.asl_prints.proofs.Expressions.{value_form}
use Rattle.asl_prints.proofs.Continuing.{left_form}
use Rattle.asl_prints.proofs.FarContinuing.{far_form}
use Rattle.asl_prints.proofs.LeafForms.{no_leaf_form}
use Rattle.asl_prints.proofs.TextForms.{no_text_form}
use Rattle.asl_prints.proofs.ThereForms.{there_form}
use Rattle.asl_prints.proofs.Leaving.{nat_eq_suc, integers_are, integer_leaf, use_leaf, there_given}

abbrev mutual
  -- a tree that stands for a plan
  pub Stands : Plan → Tree → Type 0
  Stands (an_integer number) t = t ≡ Integer number
  Stands (a_text bytes) t = t ≡ String bytes
  Stands (a_fill bytes named) t = t ≡ Fill bytes
  Stands (a_word word) t = t ≡ Integer (word_number word)
  Stands (a_local index) t = t ≡ InSlot (LocalSlot index)
  Stands (an_arg index) t = t ≡ InSlot (ArgSlot index)
  Stands debug t = t ≡ Debug
  Stands omitted t = t ≡ Omitted
  Stands (a_name name) t = (at : At) × (t ≡ Use at name)
  Stands (a_unit segment bits) t = (at : At) × (t ≡ Item (UnitItem (record { at = at; segment = segment }) bits))
  Stands (a_skip bits) t = t ≡ Item (SkipItem bits)
  Stands (an_offset bytes) t = t ≡ Item (OffsetItem bytes)
  Stands (an_access access attribute number) t = t ≡ Item (AccessItem access attribute number)
  Stands (a_call name args) t = (at : At) × (cs : Trees) × (t ≡ Call at name cs) × StandAll args cs
  Stands (a_form op args body) t = (at : At) × (cs : Trees) × (bs : Trees) × (t ≡ form at op cs bs) × StandAll args cs × StandAll body bs

  pub StandAll : Plans → Trees → Type 0
  StandAll no_plans no_trees = Unit {0}
  StandAll (plan place p ps) (tree t ts) = Stands p t × StandAll ps ts
  StandAll _ _ = ⊥

-- nodes stand for what they are as plans
mutual
  unfolding tree_of plan_of

  pub term_stands : (at : At) (t : Term) → Stands (plan_of t) (tree_of at t)
  term_stands at (D.Form' op shape args shape' body) = (at, row_trees args, row_trees body, refl, row_stand args, row_stand body)
  term_stands at (D.Call' path shape args) = (at, row_trees args, refl, row_stand args)
  term_stands at (D.Name path) = (at, refl)
  term_stands at (D.Unit segment bits) = (at, refl)
  term_stands at t = refl

  row_stand : {m : _} (row : D.Row_of-Node m) → StandAll (row_plans row) (row_trees row)
  row_stand D.end_of-Node = tt
  row_stand (D.more_of-Node id place term rest) = (term_stands (record { id = id; place = place }) term, row_stand rest)

pub nodes_stand : (nodes : List Node) → StandAll (plans_of nodes) (trees_of nodes)
unfolding plans_of trees_of
nodes_stand [] = tt
nodes_stand (n ∷ nodes) = (term_stands (record { id = n.id; place = n.place }) n.term, nodes_stand nodes)

-- ---- how many

pub counts_stand : (ps : Plans) (ts : Trees) → StandAll ps ts → how_many ps ≡ count ts
counts_stand no_plans no_trees s = refl
counts_stand no_plans (tree t ts) s = absurd s
counts_stand (plan place p ps) no_trees s = absurd s
counts_stand (plan place p ps) (tree t ts) s = ap suc (counts_stand ps ts s.1)

none_counted : nat_eq 0 0 ≡ true
none_counted = grind (arith, nat_tests)

some_counted : (n : ℕ) → nat_eq (suc n) 0 ≡ false
some_counted n = grind (arith, nat_tests)

fewer_counted : (n : ℕ) → nat_eq 0 (suc n) ≡ false
fewer_counted n = grind (arith, nat_tests)

are_counted : (n : ℕ) (ts : Trees) → nat_eq (count ts) n ≡ S.are n ts
are_counted zero no_trees = none_counted
are_counted zero (tree t ts) = some_counted (count ts)
are_counted (suc n) no_trees = fewer_counted n
are_counted (suc n) (tree t ts) = nat_eq_suc (count ts) n ∙ are_counted n ts

fit_counted : (letters : List Letter) (ts : Trees) → nat_eq (count ts) (length letters) ≡ fits letters ts
fit_counted [] no_trees = none_counted
fit_counted [] (tree t ts) = some_counted (count ts)
fit_counted (letter ∷ letters) no_trees = fewer_counted (length letters)
fit_counted (letter ∷ letters) (tree t ts) = nat_eq_suc (count ts) (length letters) ∙ fit_counted letters ts

filled_counted : (texts : List (List ℕ)) (ts : Trees) → nat_eq (count ts) (length texts) ≡ F.are_filled texts ts
filled_counted [] no_trees = none_counted
filled_counted [] (tree t ts) = some_counted (count ts)
filled_counted (text ∷ texts) no_trees = fewer_counted (length texts)
filled_counted (text ∷ texts) (tree t ts) = nat_eq_suc (count ts) (length texts) ∙ filled_counted texts ts

none_are : (ts : Trees) → S.are 0 ts ≡ none_in ts
none_are no_trees = refl
none_are (tree t ts) = refl

module _ (ps : Plans) (ts : Trees) (s : StandAll ps ts) where
  are_stand : (n : ℕ) → P.are n ps ≡ S.are n ts
  are_stand n = ap (λ m. nat_eq m n) (counts_stand ps ts s) ∙ are_counted n ts

  none_stand : P.are 0 ps ≡ none_in ts
  none_stand = are_stand 0 ∙ none_are ts

  fit_stand : (letters : List Letter) → P.are (length letters) ps ≡ fits letters ts
  fit_stand letters = ap (λ m. nat_eq m (length letters)) (counts_stand ps ts s) ∙ fit_counted letters ts

both : (a a' b b' : Bool) → a ≡ a' → b ≡ b' → (a && b) ≡ (a' && b')
both a a' b b' e f = ap (λ c. c && b) e ∙ ap (λ c. a' && c) f

either : (a a' b b' : Bool) → a ≡ a' → b ≡ b' → (a || b) ≡ (a' || b')
either a a' b b' e f = ap (λ c. c || b) e ∙ ap (λ c. a' || c) f

-- ---- names, integers and texts

abbrev is_name : Plan → Bool
is_name (a_name name) = true
is_name p = false

abbrev pub is_literal : Plan → Bool
is_literal (a_text bytes) = true
is_literal p = false

use_stands : (p : Plan) (t : Tree) → Stands p t → S.is_use t ≡ is_name p
use_stands (a_form op args body) t s = ap S.is_use s.3 ∙ use_leaf (form s.0 op s.1 s.2) (no_leaf_form s.0 op s.1 s.2)
use_stands (a_call name args) t s = ap S.is_use s.2
use_stands (a_name name) t s = ap S.is_use s.1
use_stands (a_unit segment bits) t s = ap S.is_use s.1
use_stands p t s = ap S.is_use s

integer_stands : (p : Plan) (t : Tree) → Stands p t → P.is_integer p ≡ S.is_integer t
integer_stands (a_form op args body) t s = sym (ap S.is_integer s.3 ∙ integer_leaf (form s.0 op s.1 s.2) (no_leaf_form s.0 op s.1 s.2))
integer_stands (a_call name args) t s = sym (ap S.is_integer s.2)
integer_stands (a_name name) t s = sym (ap S.is_integer s.1)
integer_stands (a_unit segment bits) t s = sym (ap S.is_integer s.1)
integer_stands p t s = sym (ap S.is_integer s)

integers_stand : (ps : Plans) (ts : Trees) → StandAll ps ts → P.are_integers ps ≡ S.are_integers ts
integers_stand no_plans no_trees s = refl
integers_stand no_plans (tree t ts) s = absurd s
integers_stand (plan place p ps) no_trees s = absurd s
integers_stand (plan place p ps) (tree t ts) s = both (P.is_integer p) (S.is_integer t) (P.are_integers ps) (S.are_integers ts) (integer_stands p t s.0) (integers_stand ps ts s.1)

pub text_stands : (p : Plan) (t : Tree) → Stands p t → is_text t ≡ is_literal p
text_stands (a_form op args body) t s = ap is_text s.3 ∙ no_text_form s.0 op s.1 s.2
text_stands (a_call name args) t s = ap is_text s.2
text_stands (a_name name) t s = ap is_text s.1
text_stands (a_unit segment bits) t s = ap is_text s.1
text_stands p t s = ap is_text s

unnamed : (n : ℕ) (t : Tree) (ts : Trees) → S.is_use t ≡ false → S.is_named_with n (tree t ts) ≡ false
unnamed n (Use at name) ts e = absurd cc
unnamed n t ts e = refl

named_stand : (n : ℕ) (ps : Plans) (ts : Trees) → StandAll ps ts → P.is_named_with n ps ≡ S.is_named_with n ts
named_stand n no_plans no_trees s = refl
named_stand n no_plans (tree t ts) s = absurd s
named_stand n (plan place p ps) no_trees s = absurd s
named_stand n (plan place (a_name name) ps) (tree t ts) s =
    both (P.are n ps) (S.are n ts) (P.are_integers ps) (S.are_integers ts) (are_stand ps ts s.1 n) (integers_stand ps ts s.1)
    ∙ integers_are n ts ∙ sym (ap (λ u. S.is_named_with n (tree u ts)) s.0.1)
named_stand n (plan place p ps) (tree t ts) s = sym (unnamed n t ts (use_stands p t s.0))

-- ---- what is given

pub given_stands : (p : Plan) (t : Tree) → Stands p t → P.is_given p ≡ F.is_given t
given_stands (a_form op args body) t s = sym (ap F.is_given s.3 ∙ there_given (form s.0 op s.1 s.2) (there_form s.0 op s.1 s.2))
given_stands (a_call name args) t s = sym (ap F.is_given s.2)
given_stands (a_name name) t s = sym (ap F.is_given s.1)
given_stands (a_unit segment bits) t s = sym (ap F.is_given s.1)
given_stands p t s = sym (ap F.is_given s)

pub given_stand : (ps : Plans) (ts : Trees) → StandAll ps ts → P.are_given ps ≡ F.are_given ts
given_stand no_plans no_trees s = refl
given_stand no_plans (tree t ts) s = absurd s
given_stand (plan place p ps) no_trees s = absurd s
given_stand (plan place p ps) (tree t ts) s = both (P.is_given p) (F.is_given t) (P.are_given ps) (F.are_given ts) (given_stands p t s.0) (given_stand ps ts s.1)

pub filled_stand : (format : List ℕ) (ps : Plans) (ts : Trees) → StandAll ps ts → P.is_filled format ps ≡ F.is_filled format ts
filled_stand format ps ts s =
    both (P.are_given ps) (F.are_given ts) (P.are (length (cut format).1) ps) (F.are_filled (cut format).1 ts) (given_stand ps ts s)
    (ap (λ m. nat_eq m (length (cut format).1)) (counts_stand ps ts s) ∙ filled_counted (cut format).1 ts)

-- ---- forms

module _ (args body : Plans) (cs bs : Trees) (s : StandAll args cs) (r : StandAll body bs) where
  pub expresses_stand : (op : Op) → P.expresses op args body ≡ S.expresses op cs bs
  expresses_stand (Op.Plain op) = none_stand body bs r
  expresses_stand (Op.Literal literal) = both (P.are 0 args) (none_in cs) (P.are 0 body) (none_in bs) (none_stand args cs s) (none_stand body bs r)
  expresses_stand (Op.Special Special.CondRefOf) = both (P.are 2 args) (S.are 2 cs) (P.are 0 body) (none_in bs) (are_stand args cs s 2) (none_stand body bs r)
  expresses_stand (Op.Special Special.Buffer) = are_stand args cs s 1
  expresses_stand (Op.Special Special.Package) = are_stand args cs s 1
  expresses_stand (Op.Symbolic (Symbolic.Operator op)) = both (P.are 0 body) (none_in bs) (P.are (length (row_of op).operands) args) (fits (row_of op).operands cs) (none_stand body bs r) (fit_stand args cs s (row_of op).operands)
  expresses_stand (Op.Symbolic Symbolic.Assign) = both (P.are 2 args) (S.are 2 cs) (P.are 0 body) (none_in bs) (are_stand args cs s 2) (none_stand body bs r)
  expresses_stand (Op.Symbolic (Symbolic.AssignBy op)) = both (P.are 2 args) (S.are 2 cs) (P.are 0 body) (none_in bs) (are_stand args cs s 2) (none_stand body bs r)
  expresses_stand op = refl

  braces_stand : (op : Op) → P.braces_in op args ≡ S.braces_in op cs
  braces_stand (Op.Control Control.If) = ap (λ c. S.braced c B.Open) (are_stand args cs s 1)
  braces_stand (Op.Control Control.ElseIf) = ap (λ c. S.braced c B.Open) (are_stand args cs s 1)
  braces_stand (Op.Control Control.Else) = ap (λ c. S.braced c B.Open) (are_stand args cs s 0)
  braces_stand (Op.Control Control.Switch) = ap (λ c. S.braced c B.Open) (are_stand args cs s 1)
  braces_stand (Op.Control Control.Case) = ap (λ c. S.braced c B.Open) (are_stand args cs s 1)
  braces_stand (Op.Control Control.Default) = ap (λ c. S.braced c B.Open) (are_stand args cs s 0)
  braces_stand (Op.Declaration Declaration.Device) = ap (λ c. S.braced c B.Scope) (named_stand 0 args cs s)
  braces_stand (Op.Declaration Declaration.ThermalZone) = ap (λ c. S.braced c B.Scope) (named_stand 0 args cs s)
  braces_stand (Op.Declaration Declaration.Scope) = ap (λ c. S.braced c B.Scope) (named_stand 0 args cs s)
  braces_stand (Op.Declaration Declaration.PowerResource) = ap (λ c. S.braced c B.Scope) (named_stand 2 args cs s)
  braces_stand (Op.Declaration Declaration.Processor) = ap (λ c. S.braced c B.Scope) (named_stand 3 args cs s)
  braces_stand op = refl

  next_stands : (op : Op) → P.is_next op args body ≡ (is_continue op && (none_in cs && none_in bs))
  next_stands (Op.Control Control.Continue) = both (P.are 0 args) (none_in cs) (P.are 0 body) (none_in bs) (none_stand args cs s) (none_stand body bs r)
  next_stands op = refl

pub expression_stands : (p : Plan) (t : Tree) → Stands p t → P.is_expression p ≡ F.is_expression t
expression_stands (a_form op args body) t s = expresses_stand args body s.1 s.2 s.4 s.5 op ∙ sym (ap F.is_expression s.3 ∙ value_form s.0 op s.1 s.2)
expression_stands (a_call name args) t s = sym (ap F.is_expression s.2)
expression_stands (a_name name) t s = sym (ap F.is_expression s.1)
expression_stands (a_unit segment bits) t s = sym (ap F.is_expression s.1)
expression_stands p t s = sym (ap F.is_expression s)

-- ---- Continues

leaves_stand : (braces : Braces) (itself : Bool) (bs : Trees) → P.leaves braces itself (T.have_continue bs) ≡ S.leaves braces itself bs
leaves_stand B.Open itself bs = refl
leaves_stand B.Scope itself bs = refl
leaves_stand B.Closed itself bs = refl

far_stand : (braces : Braces) (bs : Trees) → P.leaves_far braces (T.have_continue bs) (F.have_far_continue bs) ≡ S.leaves_far braces bs
far_stand B.Open bs = refl
far_stand B.Scope bs = refl
far_stand B.Closed bs = refl

mutual
  continue_stands : (p : Plan) (t : Tree) → Stands p t → P.has_continue p ≡ T.has_continue t
  continue_stands (a_form op args body) t s =
      ap (P.leaves (P.braces_in op args) (P.is_next op args body)) (continues_stand body s.2 s.5)
      ∙ ap (λ braces. P.leaves braces (P.is_next op args body) (T.have_continue s.2)) (braces_stand args body s.1 s.2 s.4 s.5 op)
      ∙ ap (λ c. P.leaves (S.braces_in op s.1) c (T.have_continue s.2)) (next_stands args body s.1 s.2 s.4 s.5 op)
      ∙ leaves_stand (S.braces_in op s.1) (is_continue op && (none_in s.1 && none_in s.2)) s.2
      ∙ sym (ap T.has_continue s.3 ∙ left_form s.0 op s.1 s.2)
  continue_stands (a_call name args) t s = sym (ap T.has_continue s.2)
  continue_stands (a_name name) t s = sym (ap T.has_continue s.1)
  continue_stands (a_unit segment bits) t s = sym (ap T.has_continue s.1)
  continue_stands p t s = sym (ap T.has_continue s)

  pub continues_stand : (ps : Plans) (ts : Trees) → StandAll ps ts → P.have_continue ps ≡ T.have_continue ts
  continues_stand no_plans no_trees s = refl
  continues_stand no_plans (tree t ts) s = absurd s
  continues_stand (plan place p ps) no_trees s = absurd s
  continues_stand (plan place p ps) (tree t ts) s = either (P.has_continue p) (T.has_continue t) (P.have_continue ps) (T.have_continue ts) (continue_stands p t s.0) (continues_stand ps ts s.1)

mutual
  far_stands : (p : Plan) (t : Tree) → Stands p t → P.has_far_continue p ≡ F.has_far_continue t
  far_stands (a_form op args body) t s =
      ap (λ c. P.leaves_far (P.braces_in op args) c (P.have_far_continue body)) (continues_stand body s.2 s.5)
      ∙ ap (P.leaves_far (P.braces_in op args) (T.have_continue s.2)) (fars_stand body s.2 s.5)
      ∙ ap (λ braces. P.leaves_far braces (T.have_continue s.2) (F.have_far_continue s.2)) (braces_stand args body s.1 s.2 s.4 s.5 op)
      ∙ far_stand (S.braces_in op s.1) s.2
      ∙ sym (ap F.has_far_continue s.3 ∙ far_form s.0 op s.1 s.2)
  far_stands (a_call name args) t s = sym (ap F.has_far_continue s.2)
  far_stands (a_name name) t s = sym (ap F.has_far_continue s.1)
  far_stands (a_unit segment bits) t s = sym (ap F.has_far_continue s.1)
  far_stands p t s = sym (ap F.has_far_continue s)

  pub fars_stand : (ps : Plans) (ts : Trees) → StandAll ps ts → P.have_far_continue ps ≡ F.have_far_continue ts
  fars_stand no_plans no_trees s = refl
  fars_stand no_plans (tree t ts) s = absurd s
  fars_stand (plan place p ps) no_trees s = absurd s
  fars_stand (plan place p ps) (tree t ts) s = either (P.has_far_continue p) (F.has_far_continue t) (P.have_far_continue ps) (F.have_far_continue ts) (far_stands p t s.0) (fars_stand ps ts s.1)

pub steppable_stands : (start step : Plan) (body : Plans) (x z : Tree) (bs : Trees) → Stands start x → Stands step z → StandAll body bs → P.is_steppable start step body ≡ F.is_steppable x z bs
steppable_stands start step body x z bs s r b =
    both (P.is_expression start) (F.is_expression x) (P.is_expression step && not (P.have_far_continue body)) (F.is_expression z && not (F.have_far_continue bs)) (expression_stands start x s)
    (both (P.is_expression step) (F.is_expression z) (not (P.have_far_continue body)) (not (F.have_far_continue bs)) (expression_stands step z r) (ap not (fars_stand body bs b)))
