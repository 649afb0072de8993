-- What the writing of a form asks of its arguments, read at their trees.
use Rattle.std.proofs.Common.{◌≡◌, ℕ, Bool, true, false, List, [], ◌∷◌, Option, None, Some, refl}
use Rattle.std.specs.Prelude.{nat_le, if◌then◌else◌}
use Rattle.acpi_values.specs.declared.operator.IntOp.{IntOp}
use Rattle.acpi_values.specs.declared.operator.Plain.{Plain}
use Rattle.acpi_values.specs.Operators.{row_of}
use Rattle.asl_tree.specs.declared.term.Op.{Op}
use Rattle.asl_tree.specs.declared.term.Declaration.TheVariants as Declaration
use Rattle.asl_tree.specs.declared.term.Control.TheVariants as Control
use Rattle.asl_tree.specs.declared.term.Special.TheVariants as Special
use Rattle.asl_tree.specs.declared.term.Symbolic.TheVariants as Symbolic
use Rattle.asl_tree.specs.FieldItems.{FieldItem}
use Rattle.asl_tree.specs.Tree.{At, Tree, Integer, String, Omitted, Use, Package, VarPackage, Fill, Misshapen, Trees, no_trees, tree, count, Item, Field, IndexField, BankField, UnitName}
use Rattle.acpi_state.specs.Outcomes.{choose}
use Rattle.asl_tree.specs.View as V
use Rattle.asl_tree.specs.View.{fits, operated, symbol_of, operands_as, apply_of, buffer, packaged, items_in, form}
use Rattle.aml_sizes.specs.Leaves.{Leaf, Number, LeftOut, Characters, Bytes, Entry, Other}

-- what a tree's form asks of it
abbrev pub tree_leaf : Tree → Leaf
tree_leaf (Integer number) = Number number
tree_leaf Omitted = LeftOut
tree_leaf (String text) = Characters text
tree_leaf (Fill bytes) = Bytes bytes
tree_leaf (Item item) = Entry
tree_leaf (Use at name) = Entry
tree_leaf _ = Other

abbrev pub tree_leaves : Trees → List Leaf
tree_leaves no_trees = []
tree_leaves (tree t ts) = tree_leaf t ∷ tree_leaves ts

apply_leaf : (op : Plain) (args : Trees) → tree_leaf (apply_of op args) ≡ Other
apply_leaf (Plain.Number IntOp.LNotEqual) args = refl
apply_leaf (Plain.Number IntOp.LLessEqual) args = refl
apply_leaf (Plain.Number IntOp.LGreaterEqual) args = refl
apply_leaf _ args = refl

operated_leaf : (op : Plain) (args : Trees) → tree_leaf (operated op args) ≡ Other
operated_leaf (Plain.Number IntOp.LNotEqual) args = refl
operated_leaf (Plain.Number IntOp.LLessEqual) args = refl
operated_leaf (Plain.Number IntOp.LGreaterEqual) args = refl
operated_leaf _ args = refl

symbol_leaf : (op : Plain) (args : Trees) → tree_leaf (symbol_of op args) ≡ Other
symbol_leaf op args = by_fit (fits (row_of op).operands args)
  where
    by_fit : (c : Bool) → tree_leaf (if c then operated op (operands_as (row_of op).operands args) else Misshapen) ≡ Other
    by_fit true = operated_leaf op (operands_as (row_of op).operands args)
    by_fit false = refl

buffer_leaf : (size : Tree) (bytes : List ℕ) → tree_leaf (buffer size bytes) ≡ Other
buffer_leaf Omitted bytes = refl
buffer_leaf _ bytes = refl

by_count : (c : Bool) (n : ℕ) (elements : Trees) → tree_leaf (if c then Package n elements else VarPackage (Integer n) elements) ≡ Other
by_count true n elements = refl
by_count false n elements = refl

packaged_leaf : (size : Tree) (elements : Trees) → tree_leaf (packaged size elements) ≡ Other
packaged_leaf Omitted elements = by_count (nat_le (count elements) 255) (count elements) elements
packaged_leaf (Integer n) elements = by_count (nat_le n 255) n elements
packaged_leaf _ elements = refl

choose_leaf : (items : Option (List (FieldItem UnitName))) (f : List (FieldItem UnitName) → Tree) → ((list : List (FieldItem UnitName)) → tree_leaf (f list) ≡ Other) → tree_leaf (choose items Misshapen f) ≡ Other
choose_leaf None f g = refl
choose_leaf (Some items) f g = g items

-- no form is a constant, a text, an item, or an argument that is left out
pub form_leaf : (here : At) (op : Op) (args body : Trees) → tree_leaf (form here op args body) ≡ Other
form_leaf here (Op.Declaration Declaration.Name) (tree (Use at name) (tree value no_trees)) no_trees = refl
form_leaf here (Op.Declaration Declaration.Alias) (tree (Use from source) (tree (Use at name) no_trees)) no_trees = refl
form_leaf here (Op.Declaration Declaration.External) (tree (Use at name) (tree (Integer type) no_trees)) no_trees = refl
form_leaf here (Op.Declaration Declaration.External) (tree (Use at name) (tree (Integer type) (tree (Integer count) no_trees))) no_trees = refl
form_leaf here (Op.Declaration Declaration.Method) (tree (Use at name) (tree (Integer arity) no_trees)) body = refl
form_leaf here (Op.Declaration Declaration.Mutex) (tree (Use at name) (tree (Integer level) no_trees)) no_trees = refl
form_leaf here (Op.Declaration Declaration.Event) (tree (Use at name) no_trees) no_trees = refl
form_leaf here (Op.Declaration Declaration.Device) (tree (Use at name) no_trees) body = refl
form_leaf here (Op.Declaration Declaration.ThermalZone) (tree (Use at name) no_trees) body = refl
form_leaf here (Op.Declaration Declaration.PowerResource) (tree (Use at name) (tree (Integer level) (tree (Integer order) no_trees))) body = refl
form_leaf here (Op.Declaration Declaration.Processor) (tree (Use at name) (tree (Integer number) (tree (Integer address) (tree (Integer size) no_trees)))) body = refl
form_leaf here (Op.Declaration Declaration.Scope) (tree (Use at name) no_trees) body = refl
form_leaf here (Op.Declaration Declaration.OperationRegion) (tree (Use at name) (tree (Integer space) (tree offset (tree size no_trees)))) no_trees = refl
form_leaf here (Op.Declaration Declaration.Field) (tree (Use from region) (tree (Integer flags) no_trees)) body = choose_leaf (items_in body) (λ items. Field here from region flags items) (λ items. refl)
form_leaf here (Op.Declaration Declaration.IndexField) (tree (Use from index) (tree (Use to register) (tree (Integer flags) no_trees))) body = choose_leaf (items_in body) (λ items. IndexField here from index to register flags items) (λ items. refl)
form_leaf here (Op.Declaration Declaration.BankField) (tree (Use from region) (tree (Use to bank) (tree value (tree (Integer flags) no_trees)))) body = choose_leaf (items_in body) (λ items. BankField here from region to bank value flags items) (λ items. refl)
form_leaf here (Op.Declaration Declaration.CreateField) (tree source (tree index (tree bits (tree (Use at name) no_trees)))) no_trees = refl
form_leaf here (Op.Declaration Declaration.CreateBitField) (tree source (tree index (tree (Use at name) no_trees))) no_trees = refl
form_leaf here (Op.Declaration Declaration.CreateByteField) (tree source (tree index (tree (Use at name) no_trees))) no_trees = refl
form_leaf here (Op.Declaration Declaration.CreateWordField) (tree source (tree index (tree (Use at name) no_trees))) no_trees = refl
form_leaf here (Op.Declaration Declaration.CreateDWordField) (tree source (tree index (tree (Use at name) no_trees))) no_trees = refl
form_leaf here (Op.Declaration Declaration.CreateQWordField) (tree source (tree index (tree (Use at name) no_trees))) no_trees = refl
form_leaf here (Op.Control Control.Return) (tree value no_trees) no_trees = refl
form_leaf here (Op.Control Control.If) (tree test no_trees) body = refl
form_leaf here (Op.Control Control.ElseIf) (tree test no_trees) body = refl
form_leaf here (Op.Control Control.For) (tree start (tree test (tree step no_trees))) body = refl
form_leaf here (Op.Control Control.Printf) (tree (String format) args) no_trees = refl
form_leaf here (Op.Control Control.Fprintf) (tree place (tree (String format) args)) no_trees = refl
form_leaf here (Op.Control Control.Switch) (tree value no_trees) cases = refl
form_leaf here (Op.Control Control.Case) (tree value no_trees) body = refl
form_leaf here (Op.Control Control.Default) no_trees body = refl
form_leaf here (Op.Control Control.Else) no_trees body = refl
form_leaf here (Op.Control Control.While) (tree test no_trees) body = refl
form_leaf here (Op.Control Control.Break) no_trees no_trees = refl
form_leaf here (Op.Control Control.Continue) no_trees no_trees = refl
form_leaf here (Op.Literal literal) no_trees no_trees = refl
form_leaf here (Op.Plain op) args no_trees = apply_leaf op args
form_leaf here (Op.Special Special.CondRefOf) (tree place (tree target no_trees)) no_trees = refl
form_leaf here (Op.Special Special.Buffer) (tree size no_trees) body = buffer_leaf size (V.body_bytes body)
form_leaf here (Op.Special Special.Package) (tree size no_trees) body = packaged_leaf size body
form_leaf here (Op.Symbolic (Symbolic.Operator op)) args no_trees = symbol_leaf op args
form_leaf here (Op.Symbolic Symbolic.Assign) (tree target (tree value no_trees)) no_trees = refl
form_leaf here (Op.Symbolic (Symbolic.AssignBy op)) (tree target (tree value no_trees)) no_trees = refl
form_leaf here _ _ _ = refl
