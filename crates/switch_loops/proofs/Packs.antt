-- Packages among the values of Cases, and the tests of their members.
use Rattle.std.proofs.Common.{◌≡◌, ℕ, Bool, true, false, List, [], ◌∷◌, ◌++◌, length, reverse, Vec, Global, Option, Some, None, refl, sym, ap, subst, ◌∙◌, arith}
use Rattle.std.specs.Prelude.{nat_le, ◌&&◌, if◌then◌else◌}
use Rattle.std.proofs.lemmas.List.{reverse-append, reverse-reverse}
use Rattle.acpi_state.specs.Outcomes.{choose}
use Rattle.acpi_values.specs.declared.operator.IntOp.TheVariants as IntOp
use Rattle.acpi_values.specs.declared.operator.Plain.{Plain}
use Rattle.acpi_values.specs.Operators.{row_of}
use Rattle.asl_tree.specs.FieldItems.{FieldItem}
use Rattle.asl_tree.specs.declared.term.Op.{Op}
use Rattle.asl_tree.specs.declared.term.Declaration.TheVariants as Declaration
use Rattle.asl_tree.specs.declared.term.Control.TheVariants as Control
use Rattle.asl_tree.specs.declared.term.Special.TheVariants as Special
use Rattle.asl_tree.specs.declared.term.Symbolic.TheVariants as Symbolic
use Rattle.asl_tree.specs.declared.term.Node.{Node}
use Rattle.asl_tree.specs.declared.term.Term.{Term}
use Rattle.asl_tree.specs.declared.term.Term as D
use Rattle.asl_tree.specs.Tree.{At, Tree, Integer, String, Omitted, Use, Apply, Package, VarPackage, Misshapen, Trees, no_trees, tree, count, Field, IndexField, BankField, UnitName}
use Rattle.asl_tree.specs.View.{fits, operands_as, operated, symbol_of, form, apply_of, buffer, body_bytes, packaged, counted, items_in, tree_of, trees_of}
use Rattle.acpi_names.specs.declared.part.ValueForm.{ValueForm}
use Rattle.acpi_names.specs.declared.part.ValueForm.TheVariants as V
use Rattle.acpi_names.specs.Parts.{are, is_form}
use Rattle.acpi_names.specs.Walked.{fitting_value, node_tree, value_form_of}
use Rattle.acpi_names.proofs.Trees.{form_tree}
use Rattle.hidden_locals.specs.Switches.{case_test}
use Rattle.hidden_locals.specs.Turns.{local, equal, joined, test_of, zero_word}
use Rattle.switch_loops.specs.Given.{HasValue, HaveValues, HasCaseValue}
use Rattle.switch_loops.proofs.LoopPlaces.{not_formed}

-- ---- Packages

abbrev is_pack : Tree → Bool
is_pack (Package count members) = true
is_pack (VarPackage count members) = true
is_pack t = false

abbrev pack_by : ValueForm → Bool
pack_by V.Package = true
pack_by form = false

no_field : (o : Option (List (FieldItem UnitName))) (made : List (FieldItem UnitName) → Tree) → ((items : List (FieldItem UnitName)) → is_pack (made items) ≡ false) → is_pack (choose o Misshapen made) ≡ false
no_field None made h = refl
no_field (Some items) made h = h items

pack_apply : (op : Plain) (args : Trees) → is_pack (apply_of op args) ≡ false
pack_apply (Plain.Number IntOp.LNotEqual) args = refl
pack_apply (Plain.Number IntOp.LLessEqual) args = refl
pack_apply (Plain.Number IntOp.LGreaterEqual) args = refl
pack_apply op args = refl

pack_operated : (op : Plain) (args : Trees) → is_pack (operated op args) ≡ false
pack_operated (Plain.Number IntOp.LNotEqual) args = refl
pack_operated (Plain.Number IntOp.LLessEqual) args = refl
pack_operated (Plain.Number IntOp.LGreaterEqual) args = refl
pack_operated op args = refl

pack_symbol : (op : Plain) (args : Trees) → is_pack (symbol_of op args) ≡ pack_by (value_form_of (Op.Symbolic (Symbolic.Operator op)) args no_trees)
pack_symbol op args = by_fit (fits (row_of op).operands args)
  where
    by_fit : (c : Bool) → is_pack (if c then operated op (operands_as (row_of op).operands args) else Misshapen) ≡ pack_by (fitting_value c (V.Operator op))
    by_fit true = pack_operated op (operands_as (row_of op).operands args)
    by_fit false = refl

pack_buffer : (size : Tree) (bytes : List ℕ) → is_pack (buffer size bytes) ≡ false
pack_buffer Omitted bytes = refl
pack_buffer size bytes = refl

pack_counted : (n : ℕ) (elements : Trees) → is_pack (counted n elements) ≡ true
pack_counted n elements = by_less (nat_le n 255)
  where
    by_less : (c : Bool) → is_pack (if c then Package n elements else VarPackage (Integer n) elements) ≡ true
    by_less true = refl
    by_less false = refl

pack_packaged : (size : Tree) (elements : Trees) → is_pack (packaged size elements) ≡ true
pack_packaged Omitted elements = pack_counted (count elements) elements
pack_packaged (Integer n) elements = pack_counted n elements
pack_packaged size elements = refl

pub pack_form : (at : At) (op : Op) (args body : Trees) → is_pack (form at op args body) ≡ pack_by (value_form_of op args body)
pack_form here (Op.Declaration Declaration.Name) (tree (Use at name) (tree value no_trees)) no_trees = refl
pack_form here (Op.Declaration Declaration.Alias) (tree (Use from source) (tree (Use at name) no_trees)) no_trees = refl
pack_form here (Op.Declaration Declaration.External) (tree (Use at name) (tree (Integer type) no_trees)) no_trees = refl
pack_form here (Op.Declaration Declaration.External) (tree (Use at name) (tree (Integer type) (tree (Integer parameters) no_trees))) no_trees = refl
pack_form here (Op.Declaration Declaration.Method) (tree (Use at name) (tree (Integer arity) no_trees)) body = refl
pack_form here (Op.Declaration Declaration.Mutex) (tree (Use at name) (tree (Integer level) no_trees)) no_trees = refl
pack_form here (Op.Declaration Declaration.Event) (tree (Use at name) no_trees) no_trees = refl
pack_form here (Op.Declaration Declaration.Device) (tree (Use at name) no_trees) body = refl
pack_form here (Op.Declaration Declaration.ThermalZone) (tree (Use at name) no_trees) body = refl
pack_form here (Op.Declaration Declaration.PowerResource) (tree (Use at name) (tree (Integer level) (tree (Integer order) no_trees))) body = refl
pack_form here (Op.Declaration Declaration.Processor) (tree (Use at name) (tree (Integer number) (tree (Integer address) (tree (Integer size) no_trees)))) body = refl
pack_form here (Op.Declaration Declaration.Scope) (tree (Use at name) no_trees) body = refl
pack_form here (Op.Declaration Declaration.OperationRegion) (tree (Use at name) (tree (Integer space) (tree offset (tree size no_trees)))) no_trees = refl
pack_form here (Op.Declaration Declaration.Field) (tree (Use from region) (tree (Integer flags) no_trees)) body = no_field (items_in body) (λ items. Field here from region flags items) (λ items. refl)
pack_form here (Op.Declaration Declaration.IndexField) (tree (Use from index) (tree (Use to register) (tree (Integer flags) no_trees))) body = no_field (items_in body) (λ items. IndexField here from index to register flags items) (λ items. refl)
pack_form here (Op.Declaration Declaration.BankField) (tree (Use from region) (tree (Use to bank) (tree value (tree (Integer flags) no_trees)))) body = no_field (items_in body) (λ items. BankField here from region to bank value flags items) (λ items. refl)
pack_form here (Op.Declaration Declaration.CreateField) (tree source (tree index (tree bits (tree (Use at name) no_trees)))) no_trees = refl
pack_form here (Op.Declaration Declaration.CreateBitField) (tree source (tree index (tree (Use at name) no_trees))) no_trees = refl
pack_form here (Op.Declaration Declaration.CreateByteField) (tree source (tree index (tree (Use at name) no_trees))) no_trees = refl
pack_form here (Op.Declaration Declaration.CreateWordField) (tree source (tree index (tree (Use at name) no_trees))) no_trees = refl
pack_form here (Op.Declaration Declaration.CreateDWordField) (tree source (tree index (tree (Use at name) no_trees))) no_trees = refl
pack_form here (Op.Declaration Declaration.CreateQWordField) (tree source (tree index (tree (Use at name) no_trees))) no_trees = refl
pack_form here (Op.Control Control.Return) (tree value no_trees) no_trees = refl
pack_form here (Op.Control Control.If) (tree test no_trees) body = refl
pack_form here (Op.Control Control.ElseIf) (tree test no_trees) body = refl
pack_form here (Op.Control Control.Else) no_trees body = refl
pack_form here (Op.Control Control.While) (tree test no_trees) body = refl
pack_form here (Op.Control Control.For) (tree start (tree test (tree step no_trees))) body = refl
pack_form here (Op.Control Control.Printf) (tree (String format) args) no_trees = refl
pack_form here (Op.Control Control.Fprintf) (tree place (tree (String format) args)) no_trees = refl
pack_form here (Op.Control Control.Switch) (tree value no_trees) cases = refl
pack_form here (Op.Control Control.Case) (tree value no_trees) body = refl
pack_form here (Op.Control Control.Default) no_trees body = refl
pack_form here (Op.Control Control.Break) no_trees no_trees = refl
pack_form here (Op.Control Control.Continue) no_trees no_trees = refl
pack_form here (Op.Literal literal) no_trees no_trees = refl
pack_form here (Op.Plain op) args no_trees = pack_apply op args
pack_form here (Op.Special Special.CondRefOf) (tree place (tree target no_trees)) no_trees = refl
pack_form here (Op.Special Special.Buffer) (tree size no_trees) body = pack_buffer size (body_bytes body)
pack_form here (Op.Special Special.Package) (tree size no_trees) body = pack_packaged size body
pack_form here (Op.Symbolic (Symbolic.Operator op)) args no_trees = pack_symbol op args
pack_form here (Op.Symbolic Symbolic.Assign) (tree target (tree value no_trees)) no_trees = refl
pack_form here (Op.Symbolic (Symbolic.AssignBy op)) (tree target (tree value no_trees)) no_trees = refl
pack_form here _ _ _ = refl

-- what is no Package is tested as a whole
abbrev Alone : Tree → Tree → Type 0
Alone l t = (case_test l t ≡ equal l t) × (HasCaseValue t → HasValue t)

alone : (l t : Tree) → is_pack t ≡ false → Alone l t
alone l (Package count members) e = absurd cc
alone l (VarPackage count members) e = absurd cc
alone l t e = (refl, λ g. g)

other_form : (f : ValueForm) → (V.Package ≡ f → ⊥) → pack_by f ≡ false
other_form V.Package never = absurd (never refl)
other_form f never = refl

pub form_tested : (l : Tree) (at : At) (op : Op) (args body : Vec Node Global) (made t : Tree) → (V.Package ≡ value_form_of op (trees_of args.items) (trees_of body.items) → ⊥) → t ≡ form at op (trees_of args.items) (trees_of body.items)
    → (HasValue t → made ≡ equal l t) → HasCaseValue t → made ≡ case_test l t
form_tested l at op args body made t never e h g =
    let a = alone l t (ap is_pack e ∙ pack_form at op (trees_of args.items) (trees_of body.items) ∙ other_form (value_form_of op (trees_of args.items) (trees_of body.items)) never) in
    h (a.1 g) ∙ sym a.0

flat_pack : (at : At) (t : Term) → is_form t ≡ false → is_pack (tree_of at t) ≡ false
unfolding tree_of
flat_pack at (D.Form' op shape args shape' body) e = absurd (grind arith)
flat_pack at t e = refl

pub flat_tested : (l : Tree) (at : At) (term : Term) (made : Tree) → ((o : Op) (v w : Vec Node Global) → term ≡ D.Form o v w → ⊥) → (HasValue (tree_of at term) → made ≡ equal l (tree_of at term)) → HasCaseValue (tree_of at term) → made ≡ case_test l (tree_of at term)
flat_tested l at term made never h g =
    let a = alone l (tree_of at term) (flat_pack at term (not_formed term never)) in h (a.1 g) ∙ sym a.0

-- a Package by its members
abbrev Tested : Tree → Tree → Trees → Type 0
Tested l t body = (case_test l t ≡ test_of l body) × (HasCaseValue t → HaveValues body)

counted_tested : (l : Tree) (n : ℕ) (body : Trees) → Tested l (counted n body) body
counted_tested l n body = by_less (nat_le n 255)
  where
    by_less : (c : Bool) → Tested l (if c then Package n body else VarPackage (Integer n) body) body
    by_less true = (refl, λ g. g)
    by_less false = (refl, λ g. g)

packaged_tested : (l size : Tree) (body : Trees) → Tested l (packaged size body) body
packaged_tested l Omitted body = counted_tested l (count body) body
packaged_tested l (Integer n) body = counted_tested l n body
packaged_tested l size body = (refl, λ g. g)

no_fit : (c : Bool) (f : ValueForm) → pack_by f ≡ false → V.Package ≡ fitting_value c f → ⊥
no_fit true f e h = let k : true ≡ false = ap pack_by h ∙ e in absurd cc
no_fit false f e h = let k : true ≡ false = ap pack_by h in absurd cc

form_packaged : (l : Tree) (at : At) (op : Op) (args body : Trees) → V.Package ≡ value_form_of op args body → Tested l (form at op args body) body
form_packaged l at (Op.Special Special.Package) (tree size no_trees) body e = packaged_tested l size body
form_packaged l at (Op.Special Special.Package) no_trees body e = absurd cc
form_packaged l at (Op.Special Special.Package) (tree t (tree u us)) body e = absurd cc
form_packaged l at (Op.Special Special.CondRefOf) args body e = absurd (no_fit (are 2 args && are 0 body) V.CondRefOf refl e)
form_packaged l at (Op.Special Special.Buffer) args body e = absurd (no_fit (are 1 args) V.Buffer refl e)
form_packaged l at (Op.Plain op) args body e = absurd (no_fit (are 0 body) (V.Operator op) refl e)
form_packaged l at (Op.Symbolic (Symbolic.Operator op)) args body e = absurd (no_fit (are 0 body && fits (row_of op).operands args) (V.Operator op) refl e)
form_packaged l at (Op.Symbolic Symbolic.Assign) args body e = absurd (no_fit (are 2 args && are 0 body) V.Assign refl e)
form_packaged l at (Op.Symbolic (Symbolic.AssignBy op)) args body e = absurd (no_fit (are 2 args && are 0 body) V.AssignBy refl e)
form_packaged l at op args body e = absurd cc

pub package_tested : (l : Tree) (at : At) (term : Term) (op : Op) (args body : Vec Node Global) (made : Tree) → term ≡ D.Form op args body → V.Package ≡ value_form_of op (trees_of args.items) (trees_of body.items)
    → (HaveValues (trees_of body.items) → made ≡ test_of l (trees_of body.items)) → HasCaseValue (tree_of at term) → made ≡ case_test l (tree_of at term)
package_tested l at term op args body made et e h g =
    let same = ap (tree_of at) et ∙ form_tree at op args body in
    let a = form_packaged l at op (trees_of args.items) (trees_of body.items) e in
    h (a.1 (subst HasCaseValue same g)) ∙ sym a.0 ∙ ap (case_test l) (sym same)

pub value_tested : (l : Tree) (at : At) (term : Term) (op : Op) (args body : Vec Node Global) (made : Tree) → term ≡ D.Form op args body → (V.Package ≡ value_form_of op (trees_of args.items) (trees_of body.items) → ⊥)
    → (HasValue (tree_of at (D.Form op args body)) → made ≡ equal l (tree_of at (D.Form op args body))) → HasCaseValue (tree_of at term) → made ≡ case_test l (tree_of at term)
value_tested l at term op args body made et never h g =
    form_tested l at op args body made (tree_of at (D.Form op args body)) never (form_tree at op args body) h (subst (λ t. HasCaseValue (tree_of at t)) et g) ∙ ap (λ t. case_test l (tree_of at t)) (sym et)

-- ---- the members of a Package, from the first on

abbrev pub Joined : Tree → List Node → Node → Tree → Type 0
Joined l left test whole = HasValue (node_tree test) × HaveValues (trees_of (reverse left)) × (joined (node_tree test) l (trees_of (reverse left)) ≡ whole)

opened : (m : Node) (ms : List Node) → HaveValues (trees_of (m ∷ ms)) → HasValue (node_tree m) × HaveValues (trees_of ms)
unfolding trees_of
opened m ms g = (g.0, g.1)

tree_cons : (node : Node) (nodes : List Node) → trees_of (node ∷ nodes) ≡ tree (node_tree node) (trees_of nodes)
unfolding trees_of
tree_cons node nodes = refl

none : trees_of [] ≡ no_trees
unfolding trees_of
none = refl

pub members_init : (i : ℕ) (members turned left : List Node) (m test : Node) → turned ≡ reverse members → turned ≡ left ++ m ∷ [] → (HasValue (node_tree m) → node_tree test ≡ equal (local i) (node_tree m))
    → HaveValues (trees_of members) → Joined (local i) left test (test_of (local i) (trees_of members))
members_init i members turned left m test er el h g =
    let all : members ≡ m ∷ reverse left = sym (reverse-reverse members) ∙ ap reverse (sym er ∙ el) ∙ reverse-append left (m ∷ []) in
    let o = opened m (reverse left) (subst (λ ns. HaveValues (trees_of ns)) all g) in
    (subst HasValue (sym (h o.0)) tt, o.1, ap (λ t. joined t (local i) (trees_of (reverse left))) (h o.0) ∙ ap (test_of (local i)) (sym (tree_cons m (reverse left))) ∙ ap (λ ns. test_of (local i) (trees_of ns)) (sym all))

pub members_none : (i : ℕ) (members turned : List Node) → turned ≡ reverse members → length turned ≡ 0 → zero_word ≡ test_of (local i) (trees_of members)
members_none i members [] er e = let all : members ≡ [] = sym (reverse-reverse members) ∙ ap reverse (sym er) in sym (ap (λ ns. test_of (local i) (trees_of ns)) all ∙ ap (test_of (local i)) none)
members_none i members (t ∷ ts) er e = absurd (omega (arith, e))

pub members_next : (i : ℕ) (left more : List Node) (m test next new : Node) (whole : Tree) → left ≡ more ++ m ∷ [] → (HasValue (node_tree m) → node_tree next ≡ equal (local i) (node_tree m))
    → (HasValue (node_tree test) → HasValue (node_tree next) → node_tree new ≡ Apply (Plain.Number IntOp.LOr) (tree (node_tree test) (tree (node_tree next) no_trees)) no_trees)
    → Joined (local i) left test whole → Joined (local i) more new whole
members_next i left more m test next new whole el h k j =
    let all : reverse left ≡ m ∷ reverse more = ap reverse el ∙ reverse-append more (m ∷ []) in
    let o = opened m (reverse more) (subst (λ ns. HaveValues (trees_of ns)) all j.1) in
    let is = k j.0 (subst HasValue (sym (h o.0)) tt) in (
      subst HasValue (sym is) tt,
      o.1,
      ap (λ t. joined t (local i) (trees_of (reverse more))) (is ∙ ap (λ n. Apply (Plain.Number IntOp.LOr) (tree (node_tree test) (tree n no_trees)) no_trees) (h o.0))
          ∙ ap (joined (node_tree test) (local i)) (sym (tree_cons m (reverse more)) ∙ ap trees_of (sym all)) ∙ j.2,
    )

pub members_end : (i : ℕ) (left : List Node) (test : Node) (whole : Tree) → length left ≡ 0 → Joined (local i) left test whole → node_tree test ≡ whole
members_end i [] test whole e j = sym (ap (joined (node_tree test) (local i)) none) ∙ j.2
members_end i (t ∷ ts) test whole e j = absurd (omega (arith, e))
