-- What is left of a form, and whether it declares a descriptor.
use Rattle.std.proofs.Common.{◌≡◌, ℕ, Bool, true, false, List, Option, Some, None, refl}
use Rattle.std.specs.Prelude.{nat_le, if◌then◌else◌}
use Rattle.acpi_values.specs.Operators.{row_of}
use Rattle.acpi_values.specs.declared.operator.IntOp.{IntOp}
use Rattle.acpi_values.specs.declared.operator.Plain.{Plain}
use Rattle.acpi_state.specs.Outcomes.{choose}
use Rattle.asl_tree.specs.FieldItems.{FieldItem}
use Rattle.asl_tree.specs.declared.term.Op.{Op}
use Rattle.asl_tree.specs.declared.term.Declaration.TheVariants as Declaration
use Rattle.asl_tree.specs.declared.term.Control.TheVariants as Control
use Rattle.asl_tree.specs.declared.term.Special.TheVariants as Special
use Rattle.asl_tree.specs.declared.term.Symbolic.TheVariants as Symbolic
use Rattle.asl_tree.specs.Tree.{At, Tree, Integer, String, Omitted, Use, Package, VarPackage, Misshapen, Trees, no_trees, tree, count, Field, IndexField, BankField, UnitName}
use Rattle.asl_tree.specs.View.{fits, form, operands_as, apply_of, operated, buffer, body_bytes, packaged, counted, items_in}
use Rattle.descriptor_fields.specs.Declaring.{has_terms, is_naming}
use Rattle.unused_names.specs.Left.{is_fill, declares_descriptor, left_term, left_terms}
use Rattle.stripped_names.specs.Whole.{IsShaped}

-- a form whose body has terms
pub with_terms : (here : At) (op : Op) (ts bs : Trees) → has_terms op ≡ true → IsShaped (form here op ts bs)
    → (left_term (form here op ts bs) ≡ form here op ts (left_terms bs)) × (declares_descriptor (form here op ts bs) ≡ false)
with_terms here (Op.Declaration Declaration.Method) (tree (Use at name) (tree (Integer arity) no_trees)) bs e h = (refl, refl)
with_terms here (Op.Declaration Declaration.Device) (tree (Use at name) no_trees) bs e h = (refl, refl)
with_terms here (Op.Declaration Declaration.ThermalZone) (tree (Use at name) no_trees) bs e h = (refl, refl)
with_terms here (Op.Declaration Declaration.PowerResource) (tree (Use at name) (tree (Integer level) (tree (Integer order) no_trees))) bs e h = (refl, refl)
with_terms here (Op.Declaration Declaration.Processor) (tree (Use at name) (tree (Integer number) (tree (Integer address) (tree (Integer size) no_trees)))) bs e h = (refl, refl)
with_terms here (Op.Declaration Declaration.Scope) (tree (Use at name) no_trees) bs e h = (refl, refl)
with_terms here (Op.Control Control.Return) (tree value no_trees) no_trees e h = (refl, refl)
with_terms here (Op.Control Control.If) (tree test no_trees) bs e h = (refl, refl)
with_terms here (Op.Control Control.ElseIf) (tree test no_trees) bs e h = (refl, refl)
with_terms here (Op.Control Control.Else) no_trees bs e h = (refl, refl)
with_terms here (Op.Control Control.While) (tree test no_trees) bs e h = (refl, refl)
with_terms here (Op.Control Control.For) (tree start (tree test (tree step no_trees))) bs e h = (refl, refl)
with_terms here (Op.Control Control.Printf) (tree (String text) args) no_trees e h = (refl, refl)
with_terms here (Op.Control Control.Fprintf) (tree place (tree (String text) args)) no_trees e h = (refl, refl)
with_terms here (Op.Control Control.Switch) (tree value no_trees) bs e h = (refl, refl)
with_terms here (Op.Control Control.Case) (tree value no_trees) bs e h = (refl, refl)
with_terms here (Op.Control Control.Default) no_trees bs e h = (refl, refl)
with_terms here (Op.Control Control.Break) no_trees no_trees e h = (refl, refl)
with_terms here (Op.Control Control.Continue) no_trees no_trees e h = (refl, refl)
with_terms here (Op.Declaration Declaration.Name) ts bs e h = absurd cc
with_terms here (Op.Declaration Declaration.Alias) ts bs e h = absurd cc
with_terms here (Op.Declaration Declaration.External) ts bs e h = absurd cc
with_terms here (Op.Declaration Declaration.Mutex) ts bs e h = absurd cc
with_terms here (Op.Declaration Declaration.Event) ts bs e h = absurd cc
with_terms here (Op.Declaration Declaration.OperationRegion) ts bs e h = absurd cc
with_terms here (Op.Declaration Declaration.Field) ts bs e h = absurd cc
with_terms here (Op.Declaration Declaration.IndexField) ts bs e h = absurd cc
with_terms here (Op.Declaration Declaration.BankField) ts bs e h = absurd cc
with_terms here (Op.Declaration Declaration.CreateField) ts bs e h = absurd cc
with_terms here (Op.Declaration Declaration.CreateBitField) ts bs e h = absurd cc
with_terms here (Op.Declaration Declaration.CreateByteField) ts bs e h = absurd cc
with_terms here (Op.Declaration Declaration.CreateWordField) ts bs e h = absurd cc
with_terms here (Op.Declaration Declaration.CreateDWordField) ts bs e h = absurd cc
with_terms here (Op.Declaration Declaration.CreateQWordField) ts bs e h = absurd cc
with_terms here (Op.Literal literal) ts bs e h = absurd cc
with_terms here (Op.Plain op) ts bs e h = absurd cc
with_terms here (Op.Special op) ts bs e h = absurd cc
with_terms here (Op.Symbolic op) ts bs e h = absurd cc
with_terms here _ _ _ e h = absurd h

-- any other stays
abbrev Stays : Tree → Type 0
Stays t = (left_term t ≡ t) × (declares_descriptor t ≡ false)

stays_items : (o : Option (List (FieldItem UnitName))) (made : List (FieldItem UnitName) → Tree) → ((items : List (FieldItem UnitName)) → Stays (made items)) → Stays (choose o Misshapen made)
stays_items None made h = (refl, refl)
stays_items (Some items) made h = h items

stays_apply : (op : Plain) (args : Trees) → Stays (apply_of op args)
stays_apply (Plain.Number IntOp.LNotEqual) args = (refl, refl)
stays_apply (Plain.Number IntOp.LLessEqual) args = (refl, refl)
stays_apply (Plain.Number IntOp.LGreaterEqual) args = (refl, refl)
stays_apply op args = (refl, refl)

stays_operated : (op : Plain) (args : Trees) → Stays (operated op args)
stays_operated (Plain.Number IntOp.LNotEqual) args = (refl, refl)
stays_operated (Plain.Number IntOp.LLessEqual) args = (refl, refl)
stays_operated (Plain.Number IntOp.LGreaterEqual) args = (refl, refl)
stays_operated op args = (refl, refl)

stays_fitting : (c : Bool) (op : Plain) (args : Trees) → Stays (if c then operated op args else Misshapen)
stays_fitting true op args = stays_operated op args
stays_fitting false op args = (refl, refl)

stays_buffer : (size : Tree) (bytes : List ℕ) → Stays (buffer size bytes)
stays_buffer Omitted bytes = (refl, refl)
stays_buffer size bytes = (refl, refl)

stays_counted : (n : ℕ) (elements : Trees) → Stays (counted n elements)
stays_counted n elements = by_less (nat_le n 255)
  where
    by_less : (c : Bool) → Stays (if c then Package n elements else VarPackage (Integer n) elements)
    by_less true = (refl, refl)
    by_less false = (refl, refl)

stays_packaged : (size : Tree) (elements : Trees) → Stays (packaged size elements)
stays_packaged Omitted elements = stays_counted (count elements) elements
stays_packaged (Integer n) elements = stays_counted n elements
stays_packaged size elements = (refl, refl)

pub other_form : (here : At) (op : Op) (ts bs : Trees) → has_terms op ≡ false → is_naming op ≡ false → Stays (form here op ts bs)
other_form here (Op.Declaration Declaration.Alias) (tree (Use from source) (tree (Use at name) no_trees)) no_trees e n = (refl, refl)
other_form here (Op.Declaration Declaration.External) (tree (Use at name) (tree (Integer type) no_trees)) no_trees e n = (refl, refl)
other_form here (Op.Declaration Declaration.External) (tree (Use at name) (tree (Integer type) (tree (Integer parameters) no_trees))) no_trees e n = (refl, refl)
other_form here (Op.Declaration Declaration.Mutex) (tree (Use at name) (tree (Integer level) no_trees)) no_trees e n = (refl, refl)
other_form here (Op.Declaration Declaration.Event) (tree (Use at name) no_trees) no_trees e n = (refl, refl)
other_form here (Op.Declaration Declaration.OperationRegion) (tree (Use at name) (tree (Integer space) (tree offset (tree size no_trees)))) no_trees e n = (refl, refl)
other_form here (Op.Declaration Declaration.Field) (tree (Use from region) (tree (Integer flags) no_trees)) body e n = stays_items (items_in body) (λ items. Field here from region flags items) (λ items. (refl, refl))
other_form here (Op.Declaration Declaration.IndexField) (tree (Use from index) (tree (Use to register) (tree (Integer flags) no_trees))) body e n = stays_items (items_in body) (λ items. IndexField here from index to register flags items) (λ items. (refl, refl))
other_form here (Op.Declaration Declaration.BankField) (tree (Use from region) (tree (Use to bank) (tree value (tree (Integer flags) no_trees)))) body e n = stays_items (items_in body) (λ items. BankField here from region to bank value flags items) (λ items. (refl, refl))
other_form here (Op.Declaration Declaration.CreateField) (tree source (tree index (tree bits (tree (Use at name) no_trees)))) no_trees e n = (refl, refl)
other_form here (Op.Declaration Declaration.CreateBitField) (tree source (tree index (tree (Use at name) no_trees))) no_trees e n = (refl, refl)
other_form here (Op.Declaration Declaration.CreateByteField) (tree source (tree index (tree (Use at name) no_trees))) no_trees e n = (refl, refl)
other_form here (Op.Declaration Declaration.CreateWordField) (tree source (tree index (tree (Use at name) no_trees))) no_trees e n = (refl, refl)
other_form here (Op.Declaration Declaration.CreateDWordField) (tree source (tree index (tree (Use at name) no_trees))) no_trees e n = (refl, refl)
other_form here (Op.Declaration Declaration.CreateQWordField) (tree source (tree index (tree (Use at name) no_trees))) no_trees e n = (refl, refl)
other_form here (Op.Literal literal) no_trees no_trees e n = (refl, refl)
other_form here (Op.Plain op) args no_trees e n = stays_apply op args
other_form here (Op.Special Special.CondRefOf) (tree place (tree target no_trees)) no_trees e n = (refl, refl)
other_form here (Op.Special Special.Buffer) (tree size no_trees) body e n = stays_buffer size (body_bytes body)
other_form here (Op.Special Special.Package) (tree size no_trees) body e n = stays_packaged size body
other_form here (Op.Symbolic (Symbolic.Operator op)) args no_trees e n = stays_fitting (fits (row_of op).operands args) op (operands_as (row_of op).operands args)
other_form here (Op.Symbolic Symbolic.Assign) (tree target (tree value no_trees)) no_trees e n = (refl, refl)
other_form here (Op.Symbolic (Symbolic.AssignBy op)) (tree target (tree value no_trees)) no_trees e n = (refl, refl)
other_form here (Op.Declaration Declaration.Method) ts bs e n = absurd cc
other_form here (Op.Declaration Declaration.Device) ts bs e n = absurd cc
other_form here (Op.Declaration Declaration.ThermalZone) ts bs e n = absurd cc
other_form here (Op.Declaration Declaration.PowerResource) ts bs e n = absurd cc
other_form here (Op.Declaration Declaration.Processor) ts bs e n = absurd cc
other_form here (Op.Declaration Declaration.Scope) ts bs e n = absurd cc
other_form here (Op.Declaration Declaration.Name) ts bs e n = absurd cc
other_form here (Op.Control control) ts bs e n = absurd cc
other_form here _ _ _ e n = (refl, refl)

-- a Name, which declares a descriptor if its value is bytes
abbrev pub second : Trees → Tree
second (tree t (tree u ts)) = u
second _ = Misshapen

pub name_form : (here : At) (ts bs : Trees) → IsShaped (form here (Op.Declaration Declaration.Name) ts bs)
    → (left_term (form here (Op.Declaration Declaration.Name) ts bs) ≡ form here (Op.Declaration Declaration.Name) ts bs) × (declares_descriptor (form here (Op.Declaration Declaration.Name) ts bs) ≡ is_fill (second ts))
name_form here (tree (Use at name) (tree value no_trees)) no_trees h = (refl, refl)
name_form here _ _ h = absurd h
