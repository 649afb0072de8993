-- Where the names of descriptors stand in a form.
use Rattle.std.proofs.Common.{◌≡◌, ℕ, Bool, true, false, List, [], ◌∷◌, Option, Some, None, refl, sym, ap, ◌∙◌, subst}
use Rattle.std.specs.Prelude.{nat_le, is_some, if◌then◌else◌}
use Rattle.acpi_values.specs.Operators.{row_of}
use Rattle.acpi_values.specs.declared.operator.IntOp.{IntOp}
use Rattle.acpi_values.specs.declared.operator.Plain.{Plain}
use Rattle.acpi_state.specs.Outcomes.{choose}
use Rattle.asl_tree.specs.FieldItems.{FieldItem, UnitItem, SkipItem, OffsetItem, AccessItem, ConnectionItem}
use Rattle.asl_tree.specs.declared.term.Op.{Op}
use Rattle.asl_tree.specs.declared.term.Declaration.TheVariants as Declaration
use Rattle.asl_tree.specs.declared.term.Control.TheVariants as Control
use Rattle.asl_tree.specs.declared.term.Special.TheVariants as Special
use Rattle.asl_tree.specs.declared.term.Symbolic.TheVariants as Symbolic
use Rattle.asl_tree.specs.declared.term.NamedDescriptor.{NamedDescriptor}
use Rattle.asl_tree.specs.Tree.{At, Tree, Integer, String, Omitted, Use, Item, Package, VarPackage, Misshapen, Trees, no_trees, tree, count, Field, IndexField, BankField, UnitName}
use Rattle.asl_tree.specs.View.{fits, form, operands_as, apply_of, operated, buffer, body_bytes, packaged, counted, item_in, items_in}
use Rattle.acpi_names.proofs.Plain.{is_plain}
use Rattle.descriptor_fields.specs.Declaring.{has_terms, is_naming}
use Rattle.descriptor_fields.specs.Nodes.{at_node}
use Rattle.unused_names.specs.Left.{is_fill}
use Rattle.stripped_names.proofs.LeftForms.{second}
use Rattle.stripped_names.proofs.Tagged.{IsFree, FreeItems, Tagged, AllTagged}

module _ (named : List (ℕ × NamedDescriptor)) where
  -- a name or the name of a unit at a node where no descriptor has its name
  abbrev pub Head : Tree → Type 0
  Head (Use at name) = IsFree named at
  Head (Item (UnitItem name bits)) = IsFree named name.at
  Head _ = Unit {0}

  abbrev pub AllHeads : Trees → Type 0
  AllHeads no_trees = Unit {0}
  AllHeads (tree t ts) = Head t × AllHeads ts

  pub plain_head : (t : Tree) → is_plain t ≡ true → Head t
  plain_head (Use at name) h = absurd cc
  plain_head (Item item) h = absurd cc
  plain_head _ h = tt

  -- ---- a form whose body has terms
  pub body_tagged : (here : At) (op : Op) (ts bs : Trees) → has_terms op ≡ true → AllHeads ts → AllTagged named bs → Tagged named (form here op ts bs)
  body_tagged here (Op.Declaration Declaration.Method) (tree (Use at name) (tree (Integer arity) no_trees)) body e h k = (h.0, k)
  body_tagged here (Op.Declaration Declaration.Device) (tree (Use at name) no_trees) body e h k = (h.0, k)
  body_tagged here (Op.Declaration Declaration.ThermalZone) (tree (Use at name) no_trees) body e h k = (h.0, k)
  body_tagged here (Op.Declaration Declaration.PowerResource) (tree (Use at name) (tree (Integer level) (tree (Integer order) no_trees))) body e h k = (h.0, k)
  body_tagged here (Op.Declaration Declaration.Processor) (tree (Use at name) (tree (Integer number) (tree (Integer address) (tree (Integer size) no_trees)))) body e h k = (h.0, k)
  body_tagged here (Op.Declaration Declaration.Scope) (tree (Use at name) no_trees) body e h k = k
  body_tagged here (Op.Control Control.Return) (tree value no_trees) no_trees e h k = tt
  body_tagged here (Op.Control Control.If) (tree test no_trees) body e h k = k
  body_tagged here (Op.Control Control.ElseIf) (tree test no_trees) body e h k = k
  body_tagged here (Op.Control Control.Else) no_trees body e h k = k
  body_tagged here (Op.Control Control.While) (tree test no_trees) body e h k = k
  body_tagged here (Op.Control Control.For) (tree start (tree test (tree step no_trees))) body e h k = k
  body_tagged here (Op.Control Control.Printf) (tree (String format) args) no_trees e h k = tt
  body_tagged here (Op.Control Control.Fprintf) (tree place (tree (String format) args)) no_trees e h k = tt
  body_tagged here (Op.Control Control.Switch) (tree value no_trees) cases e h k = k
  body_tagged here (Op.Control Control.Case) (tree value no_trees) body e h k = k
  body_tagged here (Op.Control Control.Default) no_trees body e h k = k
  body_tagged here (Op.Control Control.Break) no_trees no_trees e h k = tt
  body_tagged here (Op.Control Control.Continue) no_trees no_trees e h k = tt
  body_tagged here (Op.Declaration Declaration.Name) ts bs e h k = absurd cc
  body_tagged here (Op.Declaration Declaration.Alias) ts bs e h k = absurd cc
  body_tagged here (Op.Declaration Declaration.External) ts bs e h k = absurd cc
  body_tagged here (Op.Declaration Declaration.Mutex) ts bs e h k = absurd cc
  body_tagged here (Op.Declaration Declaration.Event) ts bs e h k = absurd cc
  body_tagged here (Op.Declaration Declaration.OperationRegion) ts bs e h k = absurd cc
  body_tagged here (Op.Declaration Declaration.Field) ts bs e h k = absurd cc
  body_tagged here (Op.Declaration Declaration.IndexField) ts bs e h k = absurd cc
  body_tagged here (Op.Declaration Declaration.BankField) ts bs e h k = absurd cc
  body_tagged here (Op.Declaration Declaration.CreateField) ts bs e h k = absurd cc
  body_tagged here (Op.Declaration Declaration.CreateBitField) ts bs e h k = absurd cc
  body_tagged here (Op.Declaration Declaration.CreateByteField) ts bs e h k = absurd cc
  body_tagged here (Op.Declaration Declaration.CreateWordField) ts bs e h k = absurd cc
  body_tagged here (Op.Declaration Declaration.CreateDWordField) ts bs e h k = absurd cc
  body_tagged here (Op.Declaration Declaration.CreateQWordField) ts bs e h k = absurd cc
  body_tagged here (Op.Literal literal) ts bs e h k = absurd cc
  body_tagged here (Op.Plain op) ts bs e h k = absurd cc
  body_tagged here (Op.Special op) ts bs e h k = absurd cc
  body_tagged here (Op.Symbolic op) ts bs e h k = absurd cc
  body_tagged here _ _ _ e h k = tt

  -- ---- any other but a Name

  item_free : (t : Tree) (items : List (FieldItem UnitName)) (item : FieldItem UnitName) → Head t → item_in t ≡ Some item → FreeItems named items → FreeItems named (item ∷ items)
  item_free (Item (UnitItem name bits)) items (UnitItem other more) h e k = (by_same e h, k)
    where
      unit_at : Option (FieldItem UnitName) → At → At
      unit_at (Some (UnitItem name bits)) at = name.at
      unit_at _ at = at

      by_same : Some (UnitItem name bits) ≡ Some (UnitItem other more) → IsFree named name.at → IsFree named other.at
      by_same e h = ap (λ o. is_some (at_node named (unit_at o other.at).id)) (sym e) ∙ h
  item_free _ items (SkipItem bits) h e k = k
  item_free _ items (OffsetItem bytes) h e k = k
  item_free _ items (AccessItem access attribute length) h e k = k
  item_free _ items (ConnectionItem to) h e k = k
  item_free _ items (UnitItem other more) h e k = absurd cc

  items_free : (bs : Trees) (items : List (FieldItem UnitName)) → AllHeads bs → items_in bs ≡ Some items → FreeItems named items
  items_free no_trees [] h e = tt
  items_free no_trees (item ∷ items) h e = absurd cc
  items_free (tree t ts) items h e = by_item (item_in t) (items_in ts) refl refl (λ others b. items_free ts others h.1 b) e
    where
      rest_of : Option (List (FieldItem UnitName)) → List (FieldItem UnitName)
      rest_of (Some found) = found
      rest_of None = []

      by_item : (o : Option (FieldItem UnitName)) (os : Option (List (FieldItem UnitName))) → item_in t ≡ o → items_in ts ≡ os → ((others : List (FieldItem UnitName)) → items_in ts ≡ Some others → FreeItems named others) → choose o None (λ item. choose os None (λ items. Some (item ∷ items))) ≡ Some items → FreeItems named items
      by_item None os a b go e = absurd cc
      by_item (Some item) None a b go e = absurd cc
      by_item (Some item) (Some others) a b go e = subst (λ o. FreeItems named (rest_of o)) e (item_free t others item h.0 a (go others b))

  listed : (bs : Trees) (made : List (FieldItem UnitName) → Tree) → AllHeads bs → ((items : List (FieldItem UnitName)) → FreeItems named items → Tagged named (made items)) → Tagged named (choose (items_in bs) Misshapen made)
  listed bs made h go = by_items (items_in bs) refl
    where
      by_items : (o : Option (List (FieldItem UnitName))) → items_in bs ≡ o → Tagged named (choose o Misshapen made)
      by_items None e = tt
      by_items (Some items) e = go items (items_free bs items h e)

  tagged_apply : (op : Plain) (args : Trees) → Tagged named (apply_of op args)
  tagged_apply (Plain.Number IntOp.LNotEqual) args = tt
  tagged_apply (Plain.Number IntOp.LLessEqual) args = tt
  tagged_apply (Plain.Number IntOp.LGreaterEqual) args = tt
  tagged_apply op args = tt

  tagged_operated : (op : Plain) (args : Trees) → Tagged named (operated op args)
  tagged_operated (Plain.Number IntOp.LNotEqual) args = tt
  tagged_operated (Plain.Number IntOp.LLessEqual) args = tt
  tagged_operated (Plain.Number IntOp.LGreaterEqual) args = tt
  tagged_operated op args = tt

  tagged_fitting : (c : Bool) (op : Plain) (args : Trees) → Tagged named (if c then operated op args else Misshapen)
  tagged_fitting true op args = tagged_operated op args
  tagged_fitting false op args = tt

  tagged_buffer : (size : Tree) (bytes : List ℕ) → Tagged named (buffer size bytes)
  tagged_buffer Omitted bytes = tt
  tagged_buffer size bytes = tt

  tagged_counted : (n : ℕ) (elements : Trees) → Tagged named (counted n elements)
  tagged_counted n elements = by_less (nat_le n 255)
    where
      by_less : (c : Bool) → Tagged named (if c then Package n elements else VarPackage (Integer n) elements)
      by_less true = tt
      by_less false = tt

  tagged_packaged : (size : Tree) (elements : Trees) → Tagged named (packaged size elements)
  tagged_packaged Omitted elements = tagged_counted (count elements) elements
  tagged_packaged (Integer n) elements = tagged_counted n elements
  tagged_packaged size elements = tt

  pub other_tagged : (here : At) (op : Op) (ts bs : Trees) → has_terms op ≡ false → is_naming op ≡ false → AllHeads ts → AllHeads bs → Tagged named (form here op ts bs)
  other_tagged here (Op.Declaration Declaration.Alias) (tree (Use from source) (tree (Use at name) no_trees)) no_trees e n h k = h.1.0
  other_tagged here (Op.Declaration Declaration.External) (tree (Use at name) (tree (Integer type) no_trees)) no_trees e n h k = tt
  other_tagged here (Op.Declaration Declaration.External) (tree (Use at name) (tree (Integer type) (tree (Integer parameters) no_trees))) no_trees e n h k = tt
  other_tagged here (Op.Declaration Declaration.Mutex) (tree (Use at name) (tree (Integer level) no_trees)) no_trees e n h k = h.0
  other_tagged here (Op.Declaration Declaration.Event) (tree (Use at name) no_trees) no_trees e n h k = h.0
  other_tagged here (Op.Declaration Declaration.OperationRegion) (tree (Use at name) (tree (Integer space) (tree offset (tree size no_trees)))) no_trees e n h k = h.0
  other_tagged here (Op.Declaration Declaration.Field) (tree (Use from region) (tree (Integer flags) no_trees)) body e n h k = listed body (λ items. Field here from region flags items) k (λ items free. free)
  other_tagged here (Op.Declaration Declaration.IndexField) (tree (Use from index) (tree (Use to register) (tree (Integer flags) no_trees))) body e n h k = listed body (λ items. IndexField here from index to register flags items) k (λ items free. free)
  other_tagged here (Op.Declaration Declaration.BankField) (tree (Use from region) (tree (Use to bank) (tree value (tree (Integer flags) no_trees)))) body e n h k = listed body (λ items. BankField here from region to bank value flags items) k (λ items free. free)
  other_tagged here (Op.Declaration Declaration.CreateField) (tree source (tree index (tree bits (tree (Use at name) no_trees)))) no_trees e n h k = h.1.1.1.0
  other_tagged here (Op.Declaration Declaration.CreateBitField) (tree source (tree index (tree (Use at name) no_trees))) no_trees e n h k = h.1.1.0
  other_tagged here (Op.Declaration Declaration.CreateByteField) (tree source (tree index (tree (Use at name) no_trees))) no_trees e n h k = h.1.1.0
  other_tagged here (Op.Declaration Declaration.CreateWordField) (tree source (tree index (tree (Use at name) no_trees))) no_trees e n h k = h.1.1.0
  other_tagged here (Op.Declaration Declaration.CreateDWordField) (tree source (tree index (tree (Use at name) no_trees))) no_trees e n h k = h.1.1.0
  other_tagged here (Op.Declaration Declaration.CreateQWordField) (tree source (tree index (tree (Use at name) no_trees))) no_trees e n h k = h.1.1.0
  other_tagged here (Op.Literal literal) no_trees no_trees e n h k = tt
  other_tagged here (Op.Plain op) args no_trees e n h k = tagged_apply op args
  other_tagged here (Op.Special Special.CondRefOf) (tree place (tree target no_trees)) no_trees e n h k = tt
  other_tagged here (Op.Special Special.Buffer) (tree size no_trees) body e n h k = tagged_buffer size (body_bytes body)
  other_tagged here (Op.Special Special.Package) (tree size no_trees) body e n h k = tagged_packaged size body
  other_tagged here (Op.Symbolic (Symbolic.Operator op)) args no_trees e n h k = tagged_fitting (fits (row_of op).operands args) op (operands_as (row_of op).operands args)
  other_tagged here (Op.Symbolic Symbolic.Assign) (tree target (tree value no_trees)) no_trees e n h k = tt
  other_tagged here (Op.Symbolic (Symbolic.AssignBy op)) (tree target (tree value no_trees)) no_trees e n h k = tt
  other_tagged here (Op.Declaration Declaration.Method) ts bs e n h k = absurd cc
  other_tagged here (Op.Declaration Declaration.Device) ts bs e n h k = absurd cc
  other_tagged here (Op.Declaration Declaration.ThermalZone) ts bs e n h k = absurd cc
  other_tagged here (Op.Declaration Declaration.PowerResource) ts bs e n h k = absurd cc
  other_tagged here (Op.Declaration Declaration.Processor) ts bs e n h k = absurd cc
  other_tagged here (Op.Declaration Declaration.Scope) ts bs e n h k = absurd cc
  other_tagged here (Op.Declaration Declaration.Name) ts bs e n h k = absurd cc
  other_tagged here (Op.Control control) ts bs e n h k = absurd cc
  other_tagged here _ _ _ e n h k = tt

  -- ---- a Name

  abbrev pub FirstTag : Trees → Bool → Type 0
  FirstTag (tree (Use at name) ts) b = is_some (at_node named at.id) ≡ b
  FirstTag _ b = Unit {0}

  pub plain_first : (t : Tree) (ts : Trees) (b : Bool) → is_plain t ≡ true → FirstTag (tree t ts) b
  plain_first (Use at name) ts b h = absurd cc
  plain_first _ ts b h = tt

  pub name_tagged : (here : At) (ts bs : Trees) → FirstTag ts (is_fill (second ts)) → Tagged named (form here (Op.Declaration Declaration.Name) ts bs)
  name_tagged here (tree (Use at name) (tree value no_trees)) no_trees h = h
  name_tagged here _ _ h = tt
