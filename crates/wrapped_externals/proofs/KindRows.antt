-- The kind of a term's tree is that of its shape.
use Rattle.std.proofs.Common.{◌≡◌, ℕ, Bool, true, false, List, Option, Some, None, refl}
use Rattle.std.specs.Prelude.{nat_le, if◌then◌else◌}
use Rattle.acpi_values.specs.Operators.{row_of}
use Rattle.acpi_values.specs.declared.operator.IntOp.{IntOp}
use Rattle.acpi_values.specs.declared.operator.Plain.{Plain}
use Rattle.acpi_state.specs.Outcomes.{choose}
use Rattle.asl_tree.specs.FieldItems.{FieldItem}
use Rattle.asl_tree.specs.declared.term.Op.{Op}
use Rattle.asl_tree.specs.declared.term.Declaration.TheVariants as Declaration
use Rattle.asl_tree.specs.declared.term.Control.TheVariants as Control
use Rattle.asl_tree.specs.declared.term.Special.TheVariants as Special
use Rattle.asl_tree.specs.declared.term.Symbolic.TheVariants as Symbolic
use Rattle.asl_tree.specs.declared.term.Term.{Term}
use Rattle.asl_tree.specs.declared.term.Term as D
use Rattle.asl_tree.specs.Tree.{At, Tree, Integer, String, Omitted, Use, Package, VarPackage, Misshapen, Trees, no_trees, tree, count, Field, IndexField, BankField, UnitName}
use Rattle.asl_tree.specs.View.{fits, form, operands_as, apply_of, operated, symbol_of, buffer, body_bytes, packaged, counted, items_in, tree_of, row_trees}
use Rattle.acpi_names.specs.Walked.{OfForm, term_shape}
use Rattle.wrapped_externals.specs.Kinds.{tree_kind, shape_kind}
use Rattle.wrapped_externals.specs.declared.kind.TermRole.{TermRole}

items_kind : (o : Option (List (FieldItem UnitName))) (made : List (FieldItem UnitName) → Tree) → ((items : List (FieldItem UnitName)) → tree_kind (made items) ≡ TermRole.Other) → tree_kind (choose o Misshapen made) ≡ TermRole.Other
items_kind None made h = refl
items_kind (Some items) made h = h items

apply_kind : (op : Plain) (args : Trees) → tree_kind (apply_of op args) ≡ TermRole.Other
apply_kind (Plain.Number IntOp.LNotEqual) args = refl
apply_kind (Plain.Number IntOp.LLessEqual) args = refl
apply_kind (Plain.Number IntOp.LGreaterEqual) args = refl
apply_kind op args = refl

buffer_kind : (size : Tree) (bytes : List ℕ) → tree_kind (buffer size bytes) ≡ TermRole.Other
buffer_kind Omitted bytes = refl
buffer_kind size bytes = refl

counted_kind : (n : ℕ) (elements : Trees) → tree_kind (counted n elements) ≡ TermRole.Other
counted_kind n elements = by_less (nat_le n 255)
  where
    by_less : (c : Bool) → tree_kind (if c then Package n elements else VarPackage (Integer n) elements) ≡ TermRole.Other
    by_less true = refl
    by_less false = refl

packaged_kind : (size : Tree) (elements : Trees) → tree_kind (packaged size elements) ≡ TermRole.Other
packaged_kind Omitted elements = counted_kind (count elements) elements
packaged_kind (Integer n) elements = counted_kind n elements
packaged_kind size elements = refl

operated_kind : (op : Plain) (args : Trees) → tree_kind (operated op args) ≡ TermRole.Other
operated_kind (Plain.Number IntOp.LNotEqual) args = refl
operated_kind (Plain.Number IntOp.LLessEqual) args = refl
operated_kind (Plain.Number IntOp.LGreaterEqual) args = refl
operated_kind op args = refl

symbol_kind : (op : Plain) (args : Trees) → tree_kind (symbol_of op args) ≡ TermRole.Other
symbol_kind op args = by_fit (fits (row_of op).operands args)
  where
    by_fit : (c : Bool) → tree_kind (if c then operated op (operands_as (row_of op).operands args) else Misshapen) ≡ TermRole.Other
    by_fit true = operated_kind op (operands_as (row_of op).operands args)
    by_fit false = refl

external_kind : (at : At) (args body : Trees) → tree_kind (form at (Op.Declaration Declaration.External) args body) ≡ shape_kind (OfForm (Op.Declaration Declaration.External) args body)
external_kind here (tree (Use at name) (tree (Integer type) no_trees)) no_trees = refl
external_kind here (tree (Use at name) (tree (Integer type) no_trees)) (tree b bs) = refl
external_kind here (tree (Use at name) (tree (Integer type) (tree (Integer parameters) no_trees))) no_trees = refl
external_kind here (tree (Use at name) (tree (Integer type) (tree (Integer parameters) no_trees))) (tree b bs) = refl
external_kind here (tree (Use at name) (tree (Integer type) (tree (Integer parameters) (tree u us)))) body = refl
external_kind here (tree (Use at name) (tree (Integer type) (tree _ us))) body = refl
external_kind here (tree (Use at name) (tree _ ts)) body = refl
external_kind here (tree (Use at name) no_trees) body = refl
external_kind here (tree _ ts) body = refl
external_kind here no_trees body = refl

pub form_kind : (at : At) (op : Op) (args body : Trees) → tree_kind (form at op args body) ≡ shape_kind (OfForm op args body)
form_kind here (Op.Declaration Declaration.Name) (tree (Use at name) (tree value no_trees)) no_trees = refl
form_kind here (Op.Declaration Declaration.Alias) (tree (Use from source) (tree (Use at name) no_trees)) no_trees = refl
form_kind here (Op.Declaration Declaration.External) args body = external_kind here args body
form_kind here (Op.Declaration Declaration.Method) (tree (Use at name) (tree (Integer arity) no_trees)) body = refl
form_kind here (Op.Declaration Declaration.Mutex) (tree (Use at name) (tree (Integer level) no_trees)) no_trees = refl
form_kind here (Op.Declaration Declaration.Event) (tree (Use at name) no_trees) no_trees = refl
form_kind here (Op.Declaration Declaration.Device) (tree (Use at name) no_trees) body = refl
form_kind here (Op.Declaration Declaration.ThermalZone) (tree (Use at name) no_trees) body = refl
form_kind here (Op.Declaration Declaration.PowerResource) (tree (Use at name) (tree (Integer level) (tree (Integer order) no_trees))) body = refl
form_kind here (Op.Declaration Declaration.Processor) (tree (Use at name) (tree (Integer number) (tree (Integer address) (tree (Integer size) no_trees)))) body = refl
form_kind here (Op.Declaration Declaration.Scope) (tree (Use at name) no_trees) body = refl
form_kind here (Op.Declaration Declaration.OperationRegion) (tree (Use at name) (tree (Integer space) (tree offset (tree size no_trees)))) no_trees = refl
form_kind here (Op.Declaration Declaration.Field) (tree (Use from region) (tree (Integer flags) no_trees)) body = items_kind (items_in body) (λ items. Field here from region flags items) (λ items. refl)
form_kind here (Op.Declaration Declaration.IndexField) (tree (Use from index) (tree (Use to register) (tree (Integer flags) no_trees))) body = items_kind (items_in body) (λ items. IndexField here from index to register flags items) (λ items. refl)
form_kind here (Op.Declaration Declaration.BankField) (tree (Use from region) (tree (Use to bank) (tree value (tree (Integer flags) no_trees)))) body = items_kind (items_in body) (λ items. BankField here from region to bank value flags items) (λ items. refl)
form_kind here (Op.Declaration Declaration.CreateField) (tree source (tree index (tree bits (tree (Use at name) no_trees)))) no_trees = refl
form_kind here (Op.Declaration Declaration.CreateBitField) (tree source (tree index (tree (Use at name) no_trees))) no_trees = refl
form_kind here (Op.Declaration Declaration.CreateByteField) (tree source (tree index (tree (Use at name) no_trees))) no_trees = refl
form_kind here (Op.Declaration Declaration.CreateWordField) (tree source (tree index (tree (Use at name) no_trees))) no_trees = refl
form_kind here (Op.Declaration Declaration.CreateDWordField) (tree source (tree index (tree (Use at name) no_trees))) no_trees = refl
form_kind here (Op.Declaration Declaration.CreateQWordField) (tree source (tree index (tree (Use at name) no_trees))) no_trees = refl
form_kind here (Op.Control Control.Return) (tree value no_trees) no_trees = refl
form_kind here (Op.Control Control.If) (tree test no_trees) body = refl
form_kind here (Op.Control Control.ElseIf) (tree test no_trees) body = refl
form_kind here (Op.Control Control.Else) no_trees body = refl
form_kind here (Op.Control Control.While) (tree test no_trees) body = refl
form_kind here (Op.Control Control.For) (tree start (tree test (tree step no_trees))) body = refl
form_kind here (Op.Control Control.Printf) (tree (String format) args) no_trees = refl
form_kind here (Op.Control Control.Fprintf) (tree place (tree (String format) args)) no_trees = refl
form_kind here (Op.Control Control.Switch) (tree value no_trees) cases = refl
form_kind here (Op.Control Control.Case) (tree value no_trees) body = refl
form_kind here (Op.Control Control.Default) no_trees body = refl
form_kind here (Op.Control Control.Break) no_trees no_trees = refl
form_kind here (Op.Control Control.Continue) no_trees no_trees = refl
form_kind here (Op.Literal literal) no_trees no_trees = refl
form_kind here (Op.Plain op) args no_trees = apply_kind op args
form_kind here (Op.Special Special.CondRefOf) (tree place (tree target no_trees)) no_trees = refl
form_kind here (Op.Special Special.Buffer) (tree size no_trees) body = buffer_kind size (body_bytes body)
form_kind here (Op.Special Special.Package) (tree size no_trees) body = packaged_kind size body
form_kind here (Op.Symbolic (Symbolic.Operator op)) args no_trees = symbol_kind op args
form_kind here (Op.Symbolic Symbolic.Assign) (tree target (tree value no_trees)) no_trees = refl
form_kind here (Op.Symbolic (Symbolic.AssignBy op)) (tree target (tree value no_trees)) no_trees = refl
form_kind here _ _ _ = refl

pub kind_is : (at : At) (t : Term) → tree_kind (tree_of at t) ≡ shape_kind (term_shape t)
unfolding tree_of
kind_is at (D.Form' op shape args shape' body) = form_kind at op (row_trees args) (row_trees body)
kind_is at _ = refl
