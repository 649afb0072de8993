-- What an operator becomes, as a form.
use Rattle.std.proofs.Common.{◌≡◌, ℕ, zero, suc, Bool, true, false, List, [], ◌∷◌, ◌++◌, length, Vec, Global, Option, Some, None, refl, sym, ap, ◌∙◌, arith}
use Rattle.std.specs.Prelude.{nat_eq, nat_lt, nat_le, not, Ok}
use Rattle.std.proofs.lemmas.Bool.Decides.{nat_tests}
use Rattle.acpi_values.specs.declared.width.Width.{Width}
use Rattle.acpi_values.specs.declared.width.Width.TheVariants.{W32, W64}
use Rattle.acpi_values.specs.declared.operator.IntOp.{IntOp}
use Rattle.acpi_values.specs.declared.operator.DataOp.TheVariants as DataOp
use Rattle.acpi_values.specs.declared.operator.Plain.{Plain}
use Rattle.acpi_values.specs.Integers.{wrapped, truth, applied}
use Rattle.acpi_values.specs.Operators.{Letter, Valued, row_of}
use Rattle.acpi_state.specs.Outcomes.{choose}
use Rattle.asl_tree.specs.Constants.{is_unary}
use Rattle.asl_tree.specs.declared.term.Op.{Op}
use Rattle.asl_tree.specs.declared.term.Node.{Node}
use Rattle.asl_tree.specs.declared.term.Term.{Term}
use Rattle.asl_tree.specs.declared.term.Term as D
use Rattle.asl_tree.specs.Tree.{At, Tree, Integer, Apply, Trees, no_trees, tree}
use Rattle.asl_tree.specs.View.{form, operands_as, targets_of, plain_of, apply_of, tree_of, trees_of}
use Rattle.acpi_names.specs.Walked.{node_tree}
use Rattle.acpi_names.proofs.Folds.{at_of}
use Rattle.acpi_names.proofs.Trees.{form_tree}
use Rattle.asl_fold.specs.declared.fate.Fate.{Fate}
use Rattle.asl_fold.specs.Folds.{constants, without_fault, result_on, fate_with, last_of, replaced, reduced, folded, folded_args}
use Rattle.asl_fold.specs.Nodes.{folded_by, fate_on, fate_form, plain_form, replaced_form, reduced_form}
use Rattle.asl_fold.proofs.Forms.{letter_part, folded_operands, folded_targets}

-- ---- the last argument and the last target

none_behind : (letters : List Letter) → targets_of letters no_trees ≡ no_trees
none_behind [] = refl
none_behind (letter ∷ letters) = refl

last_behind : (letters : List Letter) (args : Trees) → (targets_of letters args ≡ no_trees → ⊥) → last_of (targets_of letters args) ≡ last_of args
last_behind [] args some = refl
last_behind (letter ∷ letters) no_trees some = absurd (some refl)
last_behind (letter ∷ letters) (tree t no_trees) some = absurd (some (none_behind letters))
last_behind (letter ∷ letters) (tree t (tree u us)) some = last_behind letters (tree u us) some

none_stored : (statement : Bool) (many n m : ℕ) → fate_with statement many no_trees n ≡ Fate.Stores m → ⊥
none_stored statement zero n m e = absurd cc
none_stored statement (suc zero) n m e = absurd cc
none_stored statement (suc (suc zero)) n m e = absurd cc
none_stored statement (suc (suc (suc many))) n m e = absurd cc

some_target : (statement : Bool) (many : ℕ) (targets : Trees) (o : Option ℕ) (m : ℕ) → choose o Fate.Stays (fate_with statement many targets) ≡ Fate.Stores m → targets ≡ no_trees → ⊥
some_target statement many targets None m e f = absurd cc
some_target statement many targets (Some n) m e f = none_stored statement many n m (sym (ap (λ ts. fate_with statement many ts n) f) ∙ e)

module _ (width : Width) (statement : Bool) where
  -- ---- an operator with bytes of its own

  by_fate : (op : IntOp) (args : Trees) (fate : Fate) → fate_on width statement op args ≡ fate → apply_of (Plain.Number op) args ≡ plain_of (Plain.Number op) args
      → replaced fate (Plain.Number op) (operands_as (row_of (Plain.Number op)).operands args) (targets_of (row_of (Plain.Number op)).operands args) ≡ replaced_form fate (Plain.Number op) args no_trees
  by_fate op args Fate.Stays e h = sym h
  by_fate op args (Fate.Becomes n) e h = refl
  by_fate op args (Fate.Stores n) e h =
      let letters = (row_of (Plain.Number op)).operands in
      ap (λ ts. Apply (Plain.Data DataOp.Store) (tree (Integer n) ts) no_trees)
      (last_behind letters args (some_target statement (row_of (Plain.Number op)).targets (targets_of letters args) (result_on width op (is_unary op) (constants width (operands_as letters args))) n e))

  own_reduced : (op : IntOp) (args : Trees) → apply_of (Plain.Number op) args ≡ plain_of (Plain.Number op) args
      → reduced width statement (Plain.Number op) (operands_as (row_of (Plain.Number op)).operands args) (targets_of (row_of (Plain.Number op)).operands args) ≡ replaced_form (fate_on width statement op args) (Plain.Number op) args no_trees
  own_reduced op args h = by_fate op args (fate_on width statement op args) refl h

  -- ---- one that is LNot of another

  truth_turned : (w : Width) (b : Bool) → truth w (nat_eq (wrapped w (truth w b)) 0) ≡ truth w (not b)
  truth_turned W32 true = refl
  truth_turned W32 false = refl
  truth_turned W64 true = refl
  truth_turned W64 false = refl

  -- LNot of an operator that compares
  abbrev turned_by : IntOp → Trees → Trees → Option ℕ → Tree
  turned_by inner operands targets o =
      reduced width statement (Plain.Number IntOp.LNot) (tree (replaced (choose o Fate.Stays (fate_with false zero targets)) (Plain.Number inner) operands targets) no_trees) no_trees

  abbrev outer_by : IntOp → Trees → Trees → Option ℕ → Tree
  outer_by outer targets args o = replaced_form (choose o Fate.Stays (fate_with statement zero targets)) (Plain.Number outer) args no_trees

  abbrev IsNot : IntOp → IntOp → Trees → Trees → Trees → Type 0
  IsNot inner outer operands targets args = apply_of (Plain.Number outer) args ≡ Apply (Plain.Number IntOp.LNot) (tree (Apply (Plain.Number inner) operands targets) no_trees) no_trees

  turned_some : (inner outer : IntOp) (operands targets args : Trees) (c : Bool) → IsNot inner outer operands targets args → turned_by inner operands targets (Some (truth width c)) ≡ outer_by outer targets args (Some (truth width (not c)))
  turned_some inner outer operands no_trees args c h = ap Integer (truth_turned width c)
  turned_some inner outer operands (tree t ts) args c h = sym h

  turned : (inner outer : IntOp) (c : ℕ → ℕ → Bool) → ((a b : ℕ) → applied inner width a b ≡ Ok (truth width (c a b))) → ((a b : ℕ) → applied outer width a b ≡ Ok (truth width (not (c a b))))
      → (values : List (Option ℕ)) (operands targets args : Trees) → IsNot inner outer operands targets args
      → turned_by inner operands targets (result_on width inner false values) ≡ outer_by outer targets args (result_on width outer false values)
  turned inner outer c hi ho [] operands targets args h = sym h
  turned inner outer c hi ho (None ∷ values) operands targets args h = sym h
  turned inner outer c hi ho (Some a ∷ []) operands targets args h = sym h
  turned inner outer c hi ho (Some a ∷ None ∷ values) operands targets args h = sym h
  turned inner outer c hi ho (Some a ∷ Some b ∷ []) operands targets args h =
      ap (λ r. turned_by inner operands targets (without_fault r)) (hi a b) ∙ turned_some inner outer operands targets args (c a b) h ∙ ap (λ r. outer_by outer targets args (without_fault r)) (sym (ho a b))
  turned inner outer c hi ho (Some a ∷ Some b ∷ v ∷ values) operands targets args h = sym h

  le_not : (a b : ℕ) → nat_le a b ≡ not (nat_lt b a)
  le_not a b = by_less (nat_lt b a) refl
    where
      by_less : (c : Bool) → nat_lt b a ≡ c → nat_le a b ≡ not c
      by_less true e = grind (arith, nat_tests, e)
      by_less false e = grind (arith, nat_tests, e)

  abbrev two : List Letter
  two = Valued ∷ Valued ∷ []

  abbrev Args : List Letter → Trees → Trees
  Args letters ts = folded_by width (letter_part letters) ts

  -- ---- all of them

  pub operator_folded : (op : Plain) (args : Trees) → folded width statement (apply_of op args) ≡ reduced_form width statement op (Args (row_of op).operands args) no_trees
  operator_folded (Plain.Number IntOp.LNotEqual) args =
      ap (λ ts. turned_by IntOp.LEqual ts (folded_args width (targets_of two args)) (result_on width IntOp.LEqual false (constants width ts))) (folded_operands width two args)
      ∙ ap (λ ts. turned_by IntOp.LEqual (operands_as two (Args two args)) ts (result_on width IntOp.LEqual false (constants width (operands_as two (Args two args))))) (folded_targets width two args)
      ∙ turned IntOp.LEqual IntOp.LNotEqual (λ a b. nat_eq a b) (λ a b. refl) (λ a b. refl) (constants width (operands_as two (Args two args))) (operands_as two (Args two args)) (targets_of two (Args two args)) (Args two args) refl
  operator_folded (Plain.Number IntOp.LLessEqual) args =
      ap (λ ts. turned_by IntOp.LGreater ts (folded_args width (targets_of two args)) (result_on width IntOp.LGreater false (constants width ts))) (folded_operands width two args)
      ∙ ap (λ ts. turned_by IntOp.LGreater (operands_as two (Args two args)) ts (result_on width IntOp.LGreater false (constants width (operands_as two (Args two args))))) (folded_targets width two args)
      ∙ turned IntOp.LGreater IntOp.LLessEqual (λ a b. nat_lt b a) (λ a b. refl) (λ a b. ap (λ c. Ok (truth width c)) (le_not a b)) (constants width (operands_as two (Args two args))) (operands_as two (Args two args)) (targets_of two (Args two args)) (Args two args) refl
  operator_folded (Plain.Number IntOp.LGreaterEqual) args =
      ap (λ ts. turned_by IntOp.LLess ts (folded_args width (targets_of two args)) (result_on width IntOp.LLess false (constants width ts))) (folded_operands width two args)
      ∙ ap (λ ts. turned_by IntOp.LLess (operands_as two (Args two args)) ts (result_on width IntOp.LLess false (constants width (operands_as two (Args two args))))) (folded_targets width two args)
      ∙ turned IntOp.LLess IntOp.LGreaterEqual (λ a b. nat_lt a b) (λ a b. refl) (λ a b. ap (λ c. Ok (truth width c)) (le_not b a)) (constants width (operands_as two (Args two args))) (operands_as two (Args two args)) (targets_of two (Args two args)) (Args two args) refl
  operator_folded (Plain.Data op) args =
      let letters = (row_of (Plain.Data op)).operands in ap (λ ts. Apply (Plain.Data op) ts (folded_args width (targets_of letters args))) (folded_operands width letters args) ∙ ap (Apply (Plain.Data op) (operands_as letters (Args letters args))) (folded_targets width letters args)
  operator_folded (Plain.Event op) args =
      let letters = (row_of (Plain.Event op)).operands in ap (λ ts. Apply (Plain.Event op) ts (folded_args width (targets_of letters args))) (folded_operands width letters args) ∙ ap (Apply (Plain.Event op) (operands_as letters (Args letters args))) (folded_targets width letters args)
  operator_folded (Plain.Number op) args =
      let letters = (row_of (Plain.Number op)).operands in
      ap (λ ts. reduced width statement (Plain.Number op) ts (folded_args width (targets_of letters args))) (folded_operands width letters args)
      ∙ ap (reduced width statement (Plain.Number op) (operands_as letters (Args letters args))) (folded_targets width letters args)
      ∙ own_reduced op (Args letters args) refl

-- ---- nodes

none : trees_of [] ≡ no_trees
unfolding trees_of
none = refl

one_node : (node : Node) (nodes : List Node) → trees_of (node ∷ nodes) ≡ tree (node_tree node) (trees_of nodes)
unfolding trees_of
one_node node nodes = refl

integer_node : (node : Node) (n : ℕ) → node.term ≡ D.Integer n → node_tree node ≡ Integer n
unfolding tree_of
integer_node node n e = ap (tree_of (record { id = node.id; place = node.place })) e

last_node : (rest : List Node) (target : Node) → last_of (trees_of (rest ++ target ∷ [])) ≡ tree (node_tree target) no_trees
last_node [] target = ap last_of (one_node target [] ∙ ap (tree (node_tree target)) none)
last_node (n ∷ []) target = ap last_of (one_node n (target ∷ [])) ∙ ap (λ ts. last_of (tree (node_tree n) ts)) (one_node target [] ∙ ap (tree (node_tree target)) none)
last_node (n ∷ m ∷ rest) target = ap last_of (one_node n (m ∷ rest ++ target ∷ [])) ∙ ap (λ ts. last_of (tree (node_tree n) ts)) (one_node m (rest ++ target ∷ [])) ∙ sym (ap last_of (one_node m (rest ++ target ∷ []))) ∙ last_node (m ∷ rest) target

-- a form without a body
pub bare : (at : At) (op : Op) (args body : Vec Node Global) → body.items ≡ [] → tree_of at (D.Form op args body) ≡ form at op (trees_of args.items) no_trees
bare at op args body e = form_tree at op args body ∙ ap (λ ns. form at op (trees_of args.items) (trees_of ns)) e ∙ ap (form at op (trees_of args.items)) none

-- a Store into the last of some arguments
pub stored_some : (at : At) (args rest all : List Node) (target number : Node) (n : ℕ) (t : Tree) → args ≡ rest ++ target ∷ [] → all ≡ number ∷ target ∷ [] → number.term ≡ D.Integer n → t ≡ form at (Op.Plain (Plain.Data DataOp.Store)) (trees_of all) no_trees
    → t ≡ Apply (Plain.Data DataOp.Store) (tree (Integer n) (last_of (trees_of args))) no_trees
stored_some at args rest all target number n t e f g h =
    h ∙ ap (λ ts. form at (Op.Plain (Plain.Data DataOp.Store)) ts no_trees) (ap trees_of f ∙ one_node number (target ∷ []) ∙ ap (tree (node_tree number)) (one_node target [] ∙ ap (tree (node_tree target)) none) ∙ ap (λ t. tree t (tree (node_tree target) no_trees)) (integer_node number n g))
    ∙ ap (λ ts. Apply (Plain.Data DataOp.Store) (tree (Integer n) ts) no_trees) (sym (ap (λ ns. last_of (trees_of ns)) e ∙ last_node rest target))

-- and into none, where there are no arguments
pub stored_none : (at : At) (args all : List Node) (number : Node) (n : ℕ) (t : Tree) → length args ≡ 0 → all ≡ number ∷ [] → number.term ≡ D.Integer n → t ≡ form at (Op.Plain (Plain.Data DataOp.Store)) (trees_of all) no_trees
    → t ≡ Apply (Plain.Data DataOp.Store) (tree (Integer n) (last_of (trees_of args))) no_trees
stored_none at args all number n t e f g h =
    h ∙ ap (λ ts. form at (Op.Plain (Plain.Data DataOp.Store)) ts no_trees) (ap trees_of f ∙ one_node number [] ∙ ap (tree (node_tree number)) none ∙ ap (λ t. tree t no_trees) (integer_node number n g))
    ∙ ap (λ ts. Apply (Plain.Data DataOp.Store) (tree (Integer n) ts) no_trees) (sym (by_args args e))
  where
    by_args : (nodes : List Node) → length nodes ≡ 0 → last_of (trees_of nodes) ≡ no_trees
    by_args [] e = ap last_of none
    by_args (n ∷ ns) e = absurd (omega (arith, e))

plain_is : (at : At) (op : Plain) (args body : Trees) → form at (Op.Plain op) args body ≡ plain_form op args body
plain_is at op args no_trees = refl
plain_is at op args (tree t ts) = refl

-- an operator by what becomes of it
pub replaced_is : (width : Width) (statement : Bool) (op : Plain) (args body : Trees) (fate : Fate) (t : Tree) → fate ≡ fate_form width statement op args body → t ≡ replaced_form fate op args body → t ≡ reduced_form width statement op args body
replaced_is width statement op args body fate t e h = h ∙ ap (λ fate. replaced_form fate op args body) e

pub plain_stays : (at : At) (op : Plain) (args body : Vec Node Global) → tree_of at (D.Form (Op.Plain op) args body) ≡ replaced_form Fate.Stays op (trees_of args.items) (trees_of body.items)
plain_stays at op args body = form_tree at (Op.Plain op) args body ∙ plain_is at op (trees_of args.items) (trees_of body.items)

pub number_is : (at : At) (n : ℕ) → tree_of at (D.Integer n) ≡ Integer n
unfolding tree_of
number_is at n = refl

-- a node with another term
pub put_is : (node new : Node) (t : Term) → new ≡ record { id = node.id; place = node.place; term = t } → node_tree new ≡ tree_of (at_of node) t
put_is node new t e = ap node_tree e
