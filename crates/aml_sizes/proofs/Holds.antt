-- Which forms hold a list of terms, by their trees.
use Rattle.std.proofs.Common.{◌≡◌, ℕ, Bool, true, false, List, Option, None, Some, refl, arith}
use Rattle.std.specs.Prelude.{nat_le, if◌then◌else◌}
use Rattle.acpi_values.specs.declared.operator.IntOp.{IntOp}
use Rattle.acpi_values.specs.declared.operator.Plain.{Plain}
use Rattle.acpi_values.specs.Operators.{row_of}
use Rattle.acpi_state.specs.Outcomes.{choose}
use Rattle.asl_tree.specs.FieldItems.{FieldItem}
use Rattle.asl_tree.specs.declared.term.Op.{Op}
use Rattle.asl_tree.specs.declared.term.Declaration.TheVariants as Declaration
use Rattle.asl_tree.specs.declared.term.Control.TheVariants as Control
use Rattle.asl_tree.specs.declared.term.Special.TheVariants as Special
use Rattle.asl_tree.specs.declared.term.Symbolic.TheVariants as Symbolic
use Rattle.asl_tree.specs.Tree.{At, Tree, Integer, String, Omitted, Use, Package, VarPackage, Method, Container', Scope, If, ElseIf, Else, While, Misshapen, Trees, no_trees, tree, count, Field, IndexField, BankField, UnitName}
use Rattle.asl_tree.specs.View.{fits, form, operands_as, apply_of, operated, symbol_of, buffer, body_bytes, packaged, counted, items_in}
use Rattle.term_places.specs.Places.{holds_terms}

-- whether a term holds a list of terms
abbrev pub holds : Tree → Bool
holds (Method at name flags body) = true
holds (Container' kind at name body) = true
holds (Scope here at name body) = true
holds (If test body) = true
holds (ElseIf test body) = true
holds (Else body) = true
holds (While test body) = true
holds _ = false

-- ---- a form that holds no list of terms

items_hold : (o : Option (List (FieldItem UnitName))) (made : List (FieldItem UnitName) → Tree) → ((items : List (FieldItem UnitName)) → holds (made items) ≡ false) → holds (choose o Misshapen made) ≡ false
items_hold None made h = refl
items_hold (Some items) made h = h items

apply_holds : (op : Plain) (args : Trees) → holds (apply_of op args) ≡ false
apply_holds (Plain.Number IntOp.LNotEqual) args = refl
apply_holds (Plain.Number IntOp.LLessEqual) args = refl
apply_holds (Plain.Number IntOp.LGreaterEqual) args = refl
apply_holds op args = refl

buffer_holds : (size : Tree) (bytes : List ℕ) → holds (buffer size bytes) ≡ false
buffer_holds Omitted bytes = refl
buffer_holds size bytes = refl

counted_holds : (n : ℕ) (elements : Trees) → holds (counted n elements) ≡ false
counted_holds n elements = by_less (nat_le n 255)
  where
    by_less : (c : Bool) → holds (if c then Package n elements else VarPackage (Integer n) elements) ≡ false
    by_less true = refl
    by_less false = refl

packaged_holds : (size : Tree) (elements : Trees) → holds (packaged size elements) ≡ false
packaged_holds Omitted elements = counted_holds (count elements) elements
packaged_holds (Integer n) elements = counted_holds n elements
packaged_holds size elements = refl

operated_holds : (op : Plain) (args : Trees) → holds (operated op args) ≡ false
operated_holds (Plain.Number IntOp.LNotEqual) args = refl
operated_holds (Plain.Number IntOp.LLessEqual) args = refl
operated_holds (Plain.Number IntOp.LGreaterEqual) args = refl
operated_holds op args = refl

symbol_holds : (op : Plain) (args : Trees) → holds (symbol_of op args) ≡ false
symbol_holds op args = by_fit (fits (row_of op).operands args)
  where
    by_fit : (c : Bool) → holds (if c then operated op (operands_as (row_of op).operands args) else Misshapen) ≡ false
    by_fit true = operated_holds op (operands_as (row_of op).operands args)
    by_fit false = refl

pub form_holds : (here : At) (op : Op) (args body : Trees) → holds_terms op ≡ false → holds (form here op args body) ≡ false
form_holds here (Op.Declaration Declaration.Name) (tree (Use at name) (tree value no_trees)) no_trees h = refl
form_holds here (Op.Declaration Declaration.Alias) (tree (Use from source) (tree (Use at name) no_trees)) no_trees h = refl
form_holds here (Op.Declaration Declaration.External) (tree (Use at name) (tree (Integer type) no_trees)) no_trees h = refl
form_holds here (Op.Declaration Declaration.External) (tree (Use at name) (tree (Integer type) (tree (Integer parameters) no_trees))) no_trees h = refl
form_holds here (Op.Declaration Declaration.Method) (tree (Use at name) (tree (Integer arity) no_trees)) body h = absurd (grind arith)
form_holds here (Op.Declaration Declaration.Mutex) (tree (Use at name) (tree (Integer level) no_trees)) no_trees h = refl
form_holds here (Op.Declaration Declaration.Event) (tree (Use at name) no_trees) no_trees h = refl
form_holds here (Op.Declaration Declaration.Device) (tree (Use at name) no_trees) body h = absurd (grind arith)
form_holds here (Op.Declaration Declaration.ThermalZone) (tree (Use at name) no_trees) body h = absurd (grind arith)
form_holds here (Op.Declaration Declaration.PowerResource) (tree (Use at name) (tree (Integer level) (tree (Integer order) no_trees))) body h = absurd (grind arith)
form_holds here (Op.Declaration Declaration.Processor) (tree (Use at name) (tree (Integer number) (tree (Integer address) (tree (Integer size) no_trees)))) body h = absurd (grind arith)
form_holds here (Op.Declaration Declaration.Scope) (tree (Use at name) no_trees) body h = absurd (grind arith)
form_holds here (Op.Declaration Declaration.OperationRegion) (tree (Use at name) (tree (Integer space) (tree offset (tree size no_trees)))) no_trees h = refl
form_holds here (Op.Declaration Declaration.Field) (tree (Use from region) (tree (Integer flags) no_trees)) body h = items_hold (items_in body) (λ items. Field here from region flags items) (λ items. refl)
form_holds here (Op.Declaration Declaration.IndexField) (tree (Use from index) (tree (Use to register) (tree (Integer flags) no_trees))) body h = items_hold (items_in body) (λ items. IndexField here from index to register flags items) (λ items. refl)
form_holds here (Op.Declaration Declaration.BankField) (tree (Use from region) (tree (Use to bank) (tree value (tree (Integer flags) no_trees)))) body h = items_hold (items_in body) (λ items. BankField here from region to bank value flags items) (λ items. refl)
form_holds here (Op.Declaration Declaration.CreateField) (tree source (tree index (tree bits (tree (Use at name) no_trees)))) no_trees h = refl
form_holds here (Op.Declaration Declaration.CreateBitField) (tree source (tree index (tree (Use at name) no_trees))) no_trees h = refl
form_holds here (Op.Declaration Declaration.CreateByteField) (tree source (tree index (tree (Use at name) no_trees))) no_trees h = refl
form_holds here (Op.Declaration Declaration.CreateWordField) (tree source (tree index (tree (Use at name) no_trees))) no_trees h = refl
form_holds here (Op.Declaration Declaration.CreateDWordField) (tree source (tree index (tree (Use at name) no_trees))) no_trees h = refl
form_holds here (Op.Declaration Declaration.CreateQWordField) (tree source (tree index (tree (Use at name) no_trees))) no_trees h = refl
form_holds here (Op.Control Control.Return) (tree value no_trees) no_trees h = refl
form_holds here (Op.Control Control.If) (tree test no_trees) body h = absurd (grind arith)
form_holds here (Op.Control Control.ElseIf) (tree test no_trees) body h = absurd (grind arith)
form_holds here (Op.Control Control.For) (tree start (tree test (tree step no_trees))) body h = refl
form_holds here (Op.Control Control.Printf) (tree (String format) args) no_trees h = refl
form_holds here (Op.Control Control.Fprintf) (tree place (tree (String format) args)) no_trees h = refl
form_holds here (Op.Control Control.Switch) (tree value no_trees) cases h = refl
form_holds here (Op.Control Control.Case) (tree value no_trees) body h = refl
form_holds here (Op.Control Control.Default) no_trees body h = refl
form_holds here (Op.Control Control.Else) no_trees body h = absurd (grind arith)
form_holds here (Op.Control Control.While) (tree test no_trees) body h = absurd (grind arith)
form_holds here (Op.Control Control.Break) no_trees no_trees h = refl
form_holds here (Op.Control Control.Continue) no_trees no_trees h = refl
form_holds here (Op.Literal literal) no_trees no_trees h = refl
form_holds here (Op.Plain op) args no_trees h = apply_holds op args
form_holds here (Op.Special Special.CondRefOf) (tree place (tree target no_trees)) no_trees h = refl
form_holds here (Op.Special Special.Buffer) (tree size no_trees) body h = buffer_holds size (body_bytes body)
form_holds here (Op.Special Special.Package) (tree size no_trees) body h = packaged_holds size body
form_holds here (Op.Symbolic (Symbolic.Operator op)) args no_trees h = symbol_holds op args
form_holds here (Op.Symbolic Symbolic.Assign) (tree target (tree value no_trees)) no_trees h = refl
form_holds here (Op.Symbolic (Symbolic.AssignBy op)) (tree target (tree value no_trees)) no_trees h = refl
form_holds here _ _ _ h = refl
