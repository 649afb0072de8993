-- Trees that stand for the same plans are the same but for where their names stand, where they are expressions throughout.
use Rattle.std.proofs.Common.{◌≡◌, ℕ, suc, ◌%◌, Bool, true, false, List, [], ◌∷◌, ◌++◌, refl, sym, ap, ◌∙◌}
use Rattle.std.specs.Prelude.{nat_le, not, ◌&&◌, ◌||◌, if◌then◌else◌}
use Rattle.acpi_values.specs.Operators.{Letter, Valued, row_of}
use Rattle.acpi_values.specs.Operators as L
use Rattle.acpi_values.specs.declared.operator.IntOp.{IntOp}
use Rattle.acpi_values.specs.declared.operator.Plain.{Plain}
use Rattle.asl_tree.specs.declared.term.Op.{Op}
use Rattle.asl_tree.specs.declared.term.Special.TheVariants as Special
use Rattle.asl_tree.specs.declared.term.Symbolic.TheVariants as Symbolic
use Rattle.asl_tree.specs.Tree.{At, Tree, Apply, Integer, String, Omitted, Call, Fill, Package, VarPackage, Misshapen, Trees, no_trees, tree, count}
use Rattle.asl_tree.specs.View.{fits, form, operands_as, targets_of, plain_of, not_of, apply_of, operated, symbol_of, buffer, body_bytes, listed, packaged, counted}
use Rattle.term_plans.specs.Plans.{Plan, a_name, a_unit, a_call, a_form, Plans, no_plans, plan}
use Rattle.asl_prints.specs.Nodes.{none_in}
use Rattle.asl_prints.specs.Fits.{are, expresses}
use Rattle.asl_formats.specs.Bare.{nowhere, bare, bare_all}
use Rattle.asl_formats.specs.Plain.{is_package, is_plain, are_plain}
use Rattle.asl_prints.specs.Plans as P
use Rattle.asl_formats.proofs.Loops.{first_true}
use Rattle.asl_formats.proofs.FormedForms.{first_operand, operands_first}
use Rattle.asl_prints.proofs.LeafForms.{is_leaf, no_leaf_form}
use Rattle.asl_prints.proofs.PlanTrees.{Stands, StandAll, expresses_stand}

second_true : (a b : Bool) → (a && b) ≡ true → b ≡ true
second_true true b e = e
second_true false b e = absurd cc

-- ---- operators

bare_first : (letter : Letter) (t : Tree) → bare (first_operand letter t) ≡ first_operand letter (bare t)
bare_first (L.Raw size) (Integer number) = refl
bare_first (L.Raw size) t = refl
bare_first Valued Omitted = refl
bare_first letter t = refl

bare_operands : (letters : List Letter) (ts : Trees) → bare_all (operands_as letters ts) ≡ operands_as letters (bare_all ts)
bare_operands [] ts = refl
bare_operands (letter ∷ letters) no_trees = refl
bare_operands (letter ∷ letters) (tree t ts) =
    ap bare_all (operands_first letter letters t ts)
    ∙ ap (λ x. tree x (bare_all (operands_as letters ts))) (bare_first letter t)
    ∙ ap (tree (first_operand letter (bare t))) (bare_operands letters ts)
    ∙ sym (operands_first letter letters (bare t) (bare_all ts))

bare_targets : (letters : List Letter) (ts : Trees) → bare_all (targets_of letters ts) ≡ targets_of letters (bare_all ts)
bare_targets [] ts = refl
bare_targets (letter ∷ letters) no_trees = refl
bare_targets (letter ∷ letters) (tree t ts) = bare_targets letters ts

bare_plain : (op : Plain) (args : Trees) → bare (plain_of op args) ≡ plain_of op (bare_all args)
bare_plain op args =
    ap (λ ts. Apply op ts (bare_all (targets_of (row_of op).operands args))) (bare_operands (row_of op).operands args)
    ∙ ap (Apply op (operands_as (row_of op).operands (bare_all args))) (bare_targets (row_of op).operands args)

bare_not : (op : IntOp) (args : Trees) → bare (not_of op args) ≡ not_of op (bare_all args)
bare_not op args = bare_plain (Plain.Number IntOp.LNot) (tree (plain_of (Plain.Number op) args) no_trees) ∙ ap (λ t. plain_of (Plain.Number IntOp.LNot) (tree t no_trees)) (bare_plain (Plain.Number op) args)

bare_apply : (op : Plain) (args : Trees) → bare (apply_of op args) ≡ apply_of op (bare_all args)
bare_apply (Plain.Number IntOp.LNotEqual) args = bare_not IntOp.LEqual args
bare_apply (Plain.Number IntOp.LLessEqual) args = bare_not IntOp.LGreater args
bare_apply (Plain.Number IntOp.LGreaterEqual) args = bare_not IntOp.LLess args
bare_apply op args = bare_plain op args

bare_buffer : (size : Tree) (bytes : List ℕ) → bare (buffer size bytes) ≡ buffer (bare size) bytes
bare_buffer Omitted bytes = refl
bare_buffer size bytes = refl

count_bare : (ts : Trees) → count (bare_all ts) ≡ count ts
count_bare no_trees = refl
count_bare (tree t ts) = ap suc (count_bare ts)

bare_counted : (n : ℕ) (elements : Trees) → bare (counted n elements) ≡ counted n (bare_all elements)
bare_counted n elements = by_less (nat_le n 255)
  where
    by_less : (c : Bool) → bare (if c then Package n elements else VarPackage (Integer n) elements) ≡ (if c then Package n (bare_all elements) else VarPackage (Integer n) (bare_all elements))
    by_less true = refl
    by_less false = refl

bare_packaged : (size : Tree) (elements : Trees) → bare (packaged size elements) ≡ packaged (bare size) (bare_all elements)
bare_packaged Omitted elements = bare_counted (count elements) elements ∙ sym (ap (λ n. counted n (bare_all elements)) (count_bare elements))
bare_packaged (Integer n) elements = bare_counted n elements
bare_packaged size elements = refl

fits_bare : (letters : List Letter) (ts : Trees) → fits letters (bare_all ts) ≡ fits letters ts
fits_bare [] no_trees = refl
fits_bare [] (tree t ts) = refl
fits_bare (letter ∷ letters) no_trees = refl
fits_bare (letter ∷ letters) (tree t ts) = fits_bare letters ts

bare_operated : (op : Plain) (args : Trees) → bare (operated op args) ≡ operated op (bare_all args)
bare_operated (Plain.Number IntOp.LNotEqual) args = refl
bare_operated (Plain.Number IntOp.LLessEqual) args = refl
bare_operated (Plain.Number IntOp.LGreaterEqual) args = refl
bare_operated op args = refl

bare_fitting : (c : Bool) (op : Plain) (args : Trees) → bare (if c then operated op args else Misshapen) ≡ (if c then operated op (bare_all args) else Misshapen)
bare_fitting true op args = bare_operated op args
bare_fitting false op args = refl

bare_symbol : (op : Plain) (args : Trees) → bare (symbol_of op args) ≡ symbol_of op (bare_all args)
bare_symbol op args =
    bare_fitting (fits (row_of op).operands args) op (operands_as (row_of op).operands args)
    ∙ ap (λ ts. if fits (row_of op).operands args then operated op ts else Misshapen) (bare_operands (row_of op).operands args)
    ∙ sym (ap (λ c. if c then operated op (operands_as (row_of op).operands (bare_all args)) else Misshapen) (fits_bare (row_of op).operands args))

-- ---- a form that is an expression

abbrev bare_body : Op → Trees → Trees
bare_body (Op.Special Special.Package) body = bare_all body
bare_body op body = body

bare_form : (at : At) (op : Op) (args body : Trees) → expresses op args body ≡ true → bare (form at op args body) ≡ form nowhere op (bare_all args) (bare_body op body)
bare_form at (Op.Plain op) args no_trees e = bare_apply op args
bare_form at (Op.Plain op) args (tree t ts) e = absurd cc
bare_form at (Op.Literal literal) no_trees no_trees e = refl
bare_form at (Op.Literal literal) no_trees (tree t ts) e = absurd cc
bare_form at (Op.Literal literal) (tree t ts) body e = absurd cc
bare_form at (Op.Special Special.CondRefOf) (tree place (tree target no_trees)) no_trees e = refl
bare_form at (Op.Special Special.CondRefOf) (tree place (tree target no_trees)) (tree t ts) e = absurd cc
bare_form at (Op.Special Special.CondRefOf) no_trees body e = absurd cc
bare_form at (Op.Special Special.CondRefOf) (tree a no_trees) body e = absurd cc
bare_form at (Op.Special Special.CondRefOf) (tree a (tree b (tree c ts))) body e = absurd cc
bare_form at (Op.Special Special.Buffer) (tree size no_trees) body e = bare_buffer size (body_bytes body)
bare_form at (Op.Special Special.Buffer) no_trees body e = absurd cc
bare_form at (Op.Special Special.Buffer) (tree a (tree b ts)) body e = absurd cc
bare_form at (Op.Special Special.Package) (tree size no_trees) body e = bare_packaged size body
bare_form at (Op.Special Special.Package) no_trees body e = absurd cc
bare_form at (Op.Special Special.Package) (tree a (tree b ts)) body e = absurd cc
bare_form at (Op.Symbolic (Symbolic.Operator op)) args no_trees e = bare_symbol op args
bare_form at (Op.Symbolic (Symbolic.Operator op)) args (tree t ts) e = absurd cc
bare_form at (Op.Symbolic Symbolic.Assign) (tree target (tree value no_trees)) no_trees e = refl
bare_form at (Op.Symbolic Symbolic.Assign) (tree target (tree value no_trees)) (tree t ts) e = absurd cc
bare_form at (Op.Symbolic Symbolic.Assign) no_trees body e = absurd cc
bare_form at (Op.Symbolic Symbolic.Assign) (tree a no_trees) body e = absurd cc
bare_form at (Op.Symbolic Symbolic.Assign) (tree a (tree b (tree c ts))) body e = absurd cc
bare_form at (Op.Symbolic (Symbolic.AssignBy op)) (tree target (tree value no_trees)) no_trees e = refl
bare_form at (Op.Symbolic (Symbolic.AssignBy op)) (tree target (tree value no_trees)) (tree t ts) e = absurd cc
bare_form at (Op.Symbolic (Symbolic.AssignBy op)) no_trees body e = absurd cc
bare_form at (Op.Symbolic (Symbolic.AssignBy op)) (tree a no_trees) body e = absurd cc
bare_form at (Op.Symbolic (Symbolic.AssignBy op)) (tree a (tree b (tree c ts))) body e = absurd cc
bare_form at op args body e = absurd cc

-- ---- the bytes of a Buffer's body

abbrev byte_of : Tree → ℕ
byte_of (Integer number) = number % 256
byte_of t = 0

listed_first : (t : Tree) (ts : Trees) → listed (tree t ts) ≡ byte_of t ∷ listed ts
listed_first (Integer number) ts = refl
listed_first t ts = refl

byte_leaf : (t : Tree) → is_leaf t ≡ false → byte_of t ≡ 0
byte_leaf (Integer number) e = absurd cc
byte_leaf t e = refl

byte_same : (p : Plan) (t u : Tree) → Stands p t → Stands p u → byte_of t ≡ byte_of u
byte_same (a_form op args body) t u s r =
    ap byte_of s.3 ∙ byte_leaf (form s.0 op s.1 s.2) (no_leaf_form s.0 op s.1 s.2) ∙ sym (ap byte_of r.3 ∙ byte_leaf (form r.0 op r.1 r.2) (no_leaf_form r.0 op r.1 r.2))
byte_same (a_call name args) t u s r = ap byte_of s.2 ∙ sym (ap byte_of r.2)
byte_same (a_name name) t u s r = ap byte_of s.1 ∙ sym (ap byte_of r.1)
byte_same (a_unit segment bits) t u s r = ap byte_of s.1 ∙ sym (ap byte_of r.1)
byte_same p t u s r = ap byte_of (s ∙ sym r)

listed_same : (ps : Plans) (ts us : Trees) → StandAll ps ts → StandAll ps us → listed ts ≡ listed us
listed_same no_plans no_trees no_trees s r = refl
listed_same no_plans no_trees (tree u us) s r = absurd r
listed_same no_plans (tree t ts) us s r = absurd s
listed_same (plan place p ps) no_trees us s r = absurd s
listed_same (plan place p ps) (tree t ts) no_trees s r = absurd r
listed_same (plan place p ps) (tree t ts) (tree u us) s r =
    listed_first t ts ∙ ap (λ n. n ∷ listed ts) (byte_same p t u s.0 r.0) ∙ ap (λ ns. byte_of u ∷ ns) (listed_same ps ts us s.1 r.1) ∙ sym (listed_first u us)

-- the bytes of one tree alone
abbrev bytes_of : Tree → List ℕ
bytes_of (String text) = text ++ 0 ∷ []
bytes_of (Fill bytes) = bytes
bytes_of t = byte_of t ∷ []

one_byte : (t : Tree) → body_bytes (tree t no_trees) ≡ bytes_of t
one_byte (String text) = refl
one_byte (Fill bytes) = refl
one_byte (Integer number) = refl
one_byte t = refl

many_bytes : (t u : Tree) (us : Trees) → body_bytes (tree t (tree u us)) ≡ listed (tree t (tree u us))
many_bytes (String text) u us = refl
many_bytes (Fill bytes) u us = refl
many_bytes t u us = refl

bytes_leaf : (t : Tree) → is_leaf t ≡ false → bytes_of t ≡ 0 ∷ []
bytes_leaf (String text) e = absurd cc
bytes_leaf (Fill bytes) e = absurd cc
bytes_leaf (Integer number) e = absurd cc
bytes_leaf t e = refl

bytes_one : (p : Plan) (t u : Tree) → Stands p t → Stands p u → bytes_of t ≡ bytes_of u
bytes_one (a_form op args body) t u s r =
    ap bytes_of s.3 ∙ bytes_leaf (form s.0 op s.1 s.2) (no_leaf_form s.0 op s.1 s.2) ∙ sym (ap bytes_of r.3 ∙ bytes_leaf (form r.0 op r.1 r.2) (no_leaf_form r.0 op r.1 r.2))
bytes_one (a_call name args) t u s r = ap bytes_of s.2 ∙ sym (ap bytes_of r.2)
bytes_one (a_name name) t u s r = ap bytes_of s.1 ∙ sym (ap bytes_of r.1)
bytes_one (a_unit segment bits) t u s r = ap bytes_of s.1 ∙ sym (ap bytes_of r.1)
bytes_one p t u s r = ap bytes_of (s ∙ sym r)

bytes_same : (ps : Plans) (ts us : Trees) → StandAll ps ts → StandAll ps us → body_bytes ts ≡ body_bytes us
bytes_same no_plans no_trees no_trees s r = refl
bytes_same no_plans no_trees (tree u us) s r = absurd r
bytes_same no_plans (tree t ts) us s r = absurd s
bytes_same (plan place p ps) no_trees us s r = absurd s
bytes_same (plan place p ps) (tree t ts) no_trees s r = absurd r
bytes_same (plan place p no_plans) (tree t no_trees) (tree u no_trees) s r = one_byte t ∙ bytes_one p t u s.0 r.0 ∙ sym (one_byte u)
bytes_same (plan place p no_plans) (tree t (tree v vs)) us s r = absurd s.1
bytes_same (plan place p no_plans) (tree t no_trees) (tree u (tree v vs)) s r = absurd r.1
bytes_same (plan place p (plan here q ps)) (tree t no_trees) us s r = absurd s.1
bytes_same (plan place p (plan here q ps)) (tree t (tree v vs)) (tree u no_trees) s r = absurd r.1
bytes_same (plan place p (plan here q ps)) (tree t (tree v vs)) (tree u (tree w ws)) s r =
    many_bytes t v vs ∙ listed_same (plan place p (plan here q ps)) (tree t (tree v vs)) (tree u (tree w ws)) s r ∙ sym (many_bytes u w ws)

buffer_by : (args body more : Trees) → body_bytes body ≡ body_bytes more → form nowhere (Op.Special Special.Buffer) args body ≡ form nowhere (Op.Special Special.Buffer) args more
buffer_by (tree size no_trees) body more e = ap (buffer size) e
buffer_by no_trees body more e = refl
buffer_by (tree a (tree b ts)) body more e = refl

-- ---- a form, by its arguments and its body

none_both : (op : Op) (args ts us : Trees) → none_in ts ≡ true → none_in us ≡ true → form nowhere op args ts ≡ form nowhere op args us
none_both op args no_trees no_trees e f = refl
none_both op args (tree t ts) us e f = absurd cc
none_both op args no_trees (tree u us) e f = absurd cc

body_same : (op : Op) (args cs ds : Trees) (body : Plans) (bs es : Trees) → StandAll body bs → StandAll body es → expresses op cs bs ≡ true → expresses op ds es ≡ true → (is_package op ≡ true → bare_all bs ≡ bare_all es) → form nowhere op args (bare_body op bs) ≡ form nowhere op args (bare_body op es)
body_same (Op.Special Special.Package) args cs ds body bs es s r e f g = ap (form nowhere (Op.Special Special.Package) args) (g refl)
body_same (Op.Special Special.Buffer) args cs ds body bs es s r e f g = buffer_by args bs es (bytes_same body bs es s r)
body_same (Op.Plain op) args cs ds body bs es s r e f g = none_both (Op.Plain op) args bs es e f
body_same (Op.Literal literal) args cs ds body bs es s r e f g = none_both (Op.Literal literal) args bs es (second_true (none_in cs) (none_in bs) e) (second_true (none_in ds) (none_in es) f)
body_same (Op.Special Special.CondRefOf) args cs ds body bs es s r e f g = none_both (Op.Special Special.CondRefOf) args bs es (second_true (are 2 cs) (none_in bs) e) (second_true (are 2 ds) (none_in es) f)
body_same (Op.Symbolic (Symbolic.Operator op)) args cs ds body bs es s r e f g =
    none_both (Op.Symbolic (Symbolic.Operator op)) args bs es (first_true (none_in bs) (fits (row_of op).operands cs) e) (first_true (none_in es) (fits (row_of op).operands ds) f)
body_same (Op.Symbolic Symbolic.Assign) args cs ds body bs es s r e f g = none_both (Op.Symbolic Symbolic.Assign) args bs es (second_true (are 2 cs) (none_in bs) e) (second_true (are 2 ds) (none_in es) f)
body_same (Op.Symbolic (Symbolic.AssignBy op)) args cs ds body bs es s r e f g = none_both (Op.Symbolic (Symbolic.AssignBy op)) args bs es (second_true (are 2 cs) (none_in bs) e) (second_true (are 2 ds) (none_in es) f)
body_same op args cs ds body bs es s r e f g = absurd cc

elements_plain : (op : Op) (body : Plans) → (not (is_package op) || are_plain body) ≡ true → is_package op ≡ true → are_plain body ≡ true
elements_plain op body e h = sym (ap (λ c. not c || are_plain body) h) ∙ e

false_true : false ≡ true → ⊥
false_true e = cc

mutual
  unfolding is_plain

  pub bare_stands : (p : Plan) (t u : Tree) → Stands p t → Stands p u → is_plain p ≡ true → bare t ≡ bare u
  bare_stands (a_form op args body) t u s r e =
      let rest = are_plain args && (not (is_package op) || are_plain body) in
      let inner = second_true (P.expresses op args body) rest e in
      let own = first_true (P.expresses op args body) rest e in
      let f : expresses op s.1 s.2 ≡ true = sym (expresses_stand args body s.1 s.2 s.4 s.5 op) ∙ own in
      let g : expresses op r.1 r.2 ≡ true = sym (expresses_stand args body r.1 r.2 r.4 r.5 op) ∙ own in
      ap bare s.3 ∙ bare_form s.0 op s.1 s.2 f
      ∙ ap (λ ts. form nowhere op ts (bare_body op s.2)) (bare_stand args s.1 r.1 s.4 r.4 (first_true (are_plain args) (not (is_package op) || are_plain body) inner))
      ∙ body_same op (bare_all r.1) s.1 r.1 body s.2 r.2 s.5 r.5 f g (λ h. bare_stand body s.2 r.2 s.5 r.5 (elements_plain op body (second_true (are_plain args) (not (is_package op) || are_plain body) inner) h))
      ∙ sym (ap bare r.3 ∙ bare_form r.0 op r.1 r.2 g)
  bare_stands (a_call name args) t u s r e = ap bare s.2 ∙ ap (Call nowhere name) (bare_stand args s.1 r.1 s.3 r.3 e) ∙ sym (ap bare r.2)
  bare_stands (a_name name) t u s r e = ap bare s.1 ∙ sym (ap bare r.1)
  bare_stands (a_unit segment bits) t u s r e = absurd (false_true e)
  bare_stands p t u s r e = ap bare (s ∙ sym r)

  pub bare_stand : (ps : Plans) (ts us : Trees) → StandAll ps ts → StandAll ps us → are_plain ps ≡ true → bare_all ts ≡ bare_all us
  bare_stand no_plans no_trees no_trees s r e = refl
  bare_stand no_plans no_trees (tree u us) s r e = absurd r
  bare_stand no_plans (tree t ts) us s r e = absurd s
  bare_stand (plan place p ps) no_trees us s r e = absurd s
  bare_stand (plan place p ps) (tree t ts) no_trees s r e = absurd r
  bare_stand (plan place p ps) (tree t ts) (tree u us) s r e =
      ap (λ x. tree x (bare_all ts)) (bare_stands p t u s.0 r.0 (first_true (is_plain p) (are_plain ps) e)) ∙ ap (tree (bare u)) (bare_stand ps ts us s.1 r.1 (second_true (is_plain p) (are_plain ps) e))
