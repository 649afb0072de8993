-- A form with its arguments and its body spelled is the form spelled.
use Rattle.std.proofs.Common.{◌≡◌, ℕ, suc, Bool, true, false, List, [], ◌∷◌, Option, Some, None, refl, sym, ap, ◌∙◌}
use Rattle.std.specs.Prelude.{nat_le, if◌then◌else◌}
use Rattle.acpi_values.specs.Paths.{AbsolutePath}
use Rattle.acpi_values.specs.Operators.{Letter, Valued, Row, row_of}
use Rattle.acpi_values.specs.Operators as L
use Rattle.acpi_values.specs.declared.operator.IntOp.{IntOp}
use Rattle.acpi_values.specs.declared.operator.Plain.{Plain}
use Rattle.acpi_state.specs.Outcomes.{choose}
use Rattle.asl_tree.specs.FieldItems.{FieldItem}
use Rattle.asl_tree.specs.declared.term.Op.{Op}
use Rattle.asl_tree.specs.declared.term.Declaration.TheVariants as Declaration
use Rattle.asl_tree.specs.declared.term.Control.TheVariants as Control
use Rattle.asl_tree.specs.declared.term.Literal.TheVariants as Literal
use Rattle.asl_tree.specs.declared.term.Special.TheVariants as Special
use Rattle.asl_tree.specs.declared.term.Symbolic.TheVariants as Symbolic
use Rattle.asl_tree.specs.Names.{declared_path}
use Rattle.acpi_names.specs.Shortest.{spelled_use}
use Rattle.asl_tree.specs.Tree.{At, Tree, Apply, Integer, Constant, String, Raw, Omitted, Use, External, Package, VarPackage, Misshapen, Trees, no_trees, tree, count, Field, IndexField, BankField, UnitName, Item, Fill}
use Rattle.asl_tree.specs.View.{fits, operated, symbol_of, form, operands_as, targets_of, plain_of, apply_of, buffer, body_bytes, packaged, counted, item_in, items_in}
use Rattle.asl_meaning.specs.Declarations.{ExternalType}
use Rattle.acpi_names.specs.Parts.{part_of}
use Rattle.acpi_names.specs.Spelled.{item_spelled, items_spelled, spelled, spelled_all, spelled_elements}
use Rattle.name_spelling.specs.Spelling.{external_type, number_or_zero, part_args, part_body, value_args, value_body}
use Rattle.acpi_names.specs.Walked.{value_form_of, fitting_value}
use Rattle.acpi_names.specs.declared.part.ValueForm.TheVariants as V

-- an argument as an operand
abbrev first_operand : Letter → Tree → Tree
first_operand (L.Raw size) (Integer number) = Raw size number
first_operand (L.Raw size) t = Misshapen
first_operand Valued Omitted = Constant Literal.Ones
first_operand letter t = t

operands_first : (letter : Letter) (letters : List Letter) (t : Tree) (ts : Trees) → operands_as (letter ∷ letters) (tree t ts) ≡ tree (first_operand letter t) (operands_as letters ts)
operands_first (L.Raw size) letters (Integer number) ts = refl
operands_first (L.Raw size) letters t ts = refl
operands_first Valued letters Omitted ts = refl
operands_first letter letters t ts = refl

module _ (shorten : Bool) (also has : AbsolutePath → Bool) (says : AbsolutePath → ExternalType → ExternalType) (scope : AbsolutePath) where
  abbrev spells : Tree → Tree
  spells t = spelled shorten also has says t scope

  abbrev spells_all : Trees → Trees
  spells_all ts = spelled_all shorten also has says ts scope

  abbrev spells_elements : Trees → Trees
  spells_elements ts = spelled_elements shorten also has says ts scope

  spelled_first : (letter : Letter) (t : Tree) → spells (first_operand letter t) ≡ first_operand letter (spells t)
  spelled_first (L.Raw size) (Integer number) = refl
  spelled_first (L.Raw size) t = refl
  spelled_first Valued Omitted = refl
  spelled_first letter t = refl

  spelled_operands : (letters : List Letter) (ts : Trees) → spells_all (operands_as letters ts) ≡ operands_as letters (spells_all ts)
  spelled_operands [] ts = refl
  spelled_operands (letter ∷ letters) no_trees = refl
  spelled_operands (letter ∷ letters) (tree t ts) =
      ap spells_all (operands_first letter letters t ts)
      ∙ ap (λ x. tree x (spells_all (operands_as letters ts))) (spelled_first letter t)
      ∙ ap (tree (first_operand letter (spells t))) (spelled_operands letters ts)
      ∙ sym (operands_first letter letters (spells t) (spells_all ts))

  spelled_targets : (letters : List Letter) (ts : Trees) → spells_all (targets_of letters ts) ≡ targets_of letters (spells_all ts)
  spelled_targets [] ts = refl
  spelled_targets (letter ∷ letters) no_trees = refl
  spelled_targets (letter ∷ letters) (tree t ts) = spelled_targets letters ts

  spelled_plain : (op : Plain) (args : Trees) → spells (plain_of op args) ≡ plain_of op (spells_all args)
  spelled_plain op args =
      ap (λ ts. Apply op ts (spells_all (targets_of (row_of op).operands args))) (spelled_operands (row_of op).operands args)
      ∙ ap (Apply op (operands_as (row_of op).operands (spells_all args))) (spelled_targets (row_of op).operands args)

  spelled_apply : (op : Plain) (args : Trees) → spells (apply_of op args) ≡ apply_of op (spells_all args)
  spelled_apply (Plain.Number IntOp.LNotEqual) args = spelled_plain (Plain.Number IntOp.LNot) (tree (plain_of (Plain.Number IntOp.LEqual) args) no_trees) ∙ ap (λ t. plain_of (Plain.Number IntOp.LNot) (tree t no_trees)) (spelled_plain (Plain.Number IntOp.LEqual) args)
  spelled_apply (Plain.Number IntOp.LLessEqual) args = spelled_plain (Plain.Number IntOp.LNot) (tree (plain_of (Plain.Number IntOp.LGreater) args) no_trees) ∙ ap (λ t. plain_of (Plain.Number IntOp.LNot) (tree t no_trees)) (spelled_plain (Plain.Number IntOp.LGreater) args)
  spelled_apply (Plain.Number IntOp.LGreaterEqual) args = spelled_plain (Plain.Number IntOp.LNot) (tree (plain_of (Plain.Number IntOp.LLess) args) no_trees) ∙ ap (λ t. plain_of (Plain.Number IntOp.LNot) (tree t no_trees)) (spelled_plain (Plain.Number IntOp.LLess) args)
  spelled_apply op args = spelled_plain op args

  spelled_operated : (op : Plain) (args : Trees) → spells (operated op args) ≡ operated op (spells_all args)
  spelled_operated (Plain.Number IntOp.LNotEqual) args = refl
  spelled_operated (Plain.Number IntOp.LLessEqual) args = refl
  spelled_operated (Plain.Number IntOp.LGreaterEqual) args = refl
  spelled_operated op args = refl

  -- spelled arguments are as many
  fits_spelled : (letters : List Letter) (ts : Trees) → fits letters (spells_all ts) ≡ fits letters ts
  fits_spelled [] no_trees = refl
  fits_spelled [] (tree t ts) = refl
  fits_spelled (letter ∷ letters) no_trees = refl
  fits_spelled (letter ∷ letters) (tree t ts) = fits_spelled letters ts

  -- a symbol's form, by whether its arguments fit
  abbrev symbol_form : At → Plain → Trees → Bool → Tree
  symbol_form at op args fit =
      form at (Op.Symbolic (Symbolic.Operator op)) (value_args shorten also has says (fitting_value fit (V.Operator op)) args scope) (value_body shorten also has says (fitting_value fit (V.Operator op)) no_trees scope)

  spelled_symbol : (at : At) (op : Plain) (args : Trees) → spells (symbol_of op args) ≡ symbol_form at op args (fits (row_of op).operands args)
  spelled_symbol at op args = by_fit (fits (row_of op).operands args) refl
    where
      by_fit : (c : Bool) → fits (row_of op).operands args ≡ c → spells (symbol_of op args) ≡ symbol_form at op args (fits (row_of op).operands args)
      by_fit true e =
          ap (λ c. spells (if c then operated op (operands_as (row_of op).operands args) else Misshapen)) e
          ∙ spelled_operated op (operands_as (row_of op).operands args)
          ∙ ap (operated op) (spelled_operands (row_of op).operands args)
          ∙ sym (ap (λ c. if c then operated op (operands_as (row_of op).operands (spells_all args)) else Misshapen) (fits_spelled (row_of op).operands args ∙ e))
          ∙ sym (ap (symbol_form at op args) e)
      by_fit false e =
          ap (λ c. spells (if c then operated op (operands_as (row_of op).operands args) else Misshapen)) e
          ∙ sym (ap (λ c. if c then operated op (operands_as (row_of op).operands args) else Misshapen) e)
          ∙ sym (ap (symbol_form at op args) e)

  spelled_buffer : (size : Tree) (bytes : List ℕ) → spells (buffer size bytes) ≡ buffer (spells size) bytes
  spelled_buffer Omitted bytes = refl
  spelled_buffer size bytes = refl

  count_elements : (ts : Trees) → count (spells_elements ts) ≡ count ts
  count_elements no_trees = refl
  count_elements (tree t ts) = ap suc (count_elements ts)

  spelled_counted : (n : ℕ) (elements : Trees) → spells (counted n elements) ≡ counted n (spells_elements elements)
  spelled_counted n elements = by_less (nat_le n 255)
    where
      by_less : (c : Bool) → spells (if c then Package n elements else VarPackage (Integer n) elements) ≡ (if c then Package n (spells_elements elements) else VarPackage (Integer n) (spells_elements elements))
      by_less true = refl
      by_less false = refl

  spelled_packaged : (size : Tree) (elements : Trees) → spells (packaged size elements) ≡ packaged (spells size) (spells_elements elements)
  spelled_packaged Omitted elements = spelled_counted (count elements) elements ∙ sym (ap (λ n. counted n (spells_elements elements)) (count_elements elements))
  spelled_packaged (Integer n) elements = spelled_counted n elements
  spelled_packaged size elements = refl

  -- the items of a field's body are spelled where its trees are
  abbrev spelled_list : Option (List (FieldItem UnitName)) → Option (List (FieldItem UnitName))
  spelled_list o = choose o None (λ items. Some (items_spelled shorten also has items scope))

  item_spelled_in : (t : Tree) → item_in (spells t) ≡ choose (item_in t) None (λ item. Some (item_spelled shorten also has item scope))
  item_spelled_in (Item item) = refl
  item_spelled_in (Use at name) = refl
  item_spelled_in (Fill bytes) = refl
  item_spelled_in t = refl

  items_spelled_in : (ts : Trees) → items_in (spells_all ts) ≡ spelled_list (items_in ts)
  items_spelled_in no_trees = refl
  items_spelled_in (tree t ts) =
      ap (λ o. choose o None (λ item. choose (items_in (spells_all ts)) None (λ items. Some (item ∷ items)))) (item_spelled_in t)
      ∙ ap (λ o. choose (choose (item_in t) None (λ item. Some (item_spelled shorten also has item scope))) None (λ item. choose o None (λ items. Some (item ∷ items)))) (items_spelled_in ts)
      ∙ joined (item_in t) (items_in ts)
    where
      joined : (o : Option (FieldItem UnitName)) (p : Option (List (FieldItem UnitName))) →
          choose (choose o None (λ item. Some (item_spelled shorten also has item scope))) None (λ item. choose (spelled_list p) None (λ items. Some (item ∷ items))) ≡ spelled_list (choose o None (λ item. choose p None (λ items. Some (item ∷ items))))
      joined None p = refl
      joined (Some item) None = refl
      joined (Some item) (Some items) = refl

  by_items : (body : Trees) (made more : List (FieldItem UnitName) → Tree) → ((items : List (FieldItem UnitName)) → spells (made items) ≡ more (items_spelled shorten also has items scope)) → spells (choose (items_in body) Misshapen made) ≡ choose (items_in (spells_all body)) Misshapen more
  by_items body made more h = by_option (items_in body) ∙ ap (λ o. choose o Misshapen more) (sym (items_spelled_in body))
    where
      by_option : (o : Option (List (FieldItem UnitName))) → spells (choose o Misshapen made) ≡ choose (spelled_list o) Misshapen more
      by_option None = refl
      by_option (Some items) = h items

  pub spelled_form : ((path : AbsolutePath) (e : ExternalType) → (says path e).parameters ≡ Some (number_or_zero (says path e).parameters)) → (at : At) (op : Op) (args body : Trees)
      → spells (form at op args body) ≡ form at op (part_args shorten also has says (part_of op args body) (value_form_of op args body) args scope) (part_body shorten also has says (part_of op args body) (value_form_of op args body) args body scope)
  spelled_form told here (Op.Declaration Declaration.Name) (tree (Use at name) (tree value no_trees)) no_trees = refl
  spelled_form told here (Op.Declaration Declaration.Alias) (tree (Use from source) (tree (Use at name) no_trees)) no_trees = refl
  spelled_form told here (Op.Declaration Declaration.External) (tree (Use at name) (tree (Integer type) no_trees)) no_trees = ap (λ p. External here at name (says (declared_path name scope) (external_type type None)).type p) (told (declared_path name scope) (external_type type None))
  spelled_form told here (Op.Declaration Declaration.External) (tree (Use at name) (tree (Integer type) (tree (Integer parameters) no_trees))) no_trees = ap (λ p. External here at name (says (declared_path name scope) (external_type type (Some parameters))).type p) (told (declared_path name scope) (external_type type (Some parameters)))
  spelled_form told here (Op.Declaration Declaration.Method) (tree (Use at name) (tree (Integer arity) no_trees)) body = refl
  spelled_form told here (Op.Declaration Declaration.Mutex) (tree (Use at name) (tree (Integer level) no_trees)) no_trees = refl
  spelled_form told here (Op.Declaration Declaration.Event) (tree (Use at name) no_trees) no_trees = refl
  spelled_form told here (Op.Declaration Declaration.Device) (tree (Use at name) no_trees) body = refl
  spelled_form told here (Op.Declaration Declaration.ThermalZone) (tree (Use at name) no_trees) body = refl
  spelled_form told here (Op.Declaration Declaration.PowerResource) (tree (Use at name) (tree (Integer level) (tree (Integer order) no_trees))) body = refl
  spelled_form told here (Op.Declaration Declaration.Processor) (tree (Use at name) (tree (Integer number) (tree (Integer address) (tree (Integer size) no_trees)))) body = refl
  spelled_form told here (Op.Declaration Declaration.Scope) (tree (Use at name) no_trees) body = refl
  spelled_form told here (Op.Declaration Declaration.OperationRegion) (tree (Use at name) (tree (Integer space) (tree offset (tree size no_trees)))) no_trees = refl
  spelled_form told here (Op.Declaration Declaration.Field) (tree (Use from region) (tree (Integer flags) no_trees)) body = by_items body (λ items. Field here from region flags items) (λ items. Field here from (spelled_use also has shorten region scope) flags items) (λ items. refl)
  spelled_form told here (Op.Declaration Declaration.IndexField) (tree (Use from index) (tree (Use to register) (tree (Integer flags) no_trees))) body = by_items body (λ items. IndexField here from index to register flags items) (λ items. IndexField here from (spelled_use also has shorten index scope) to (spelled_use also has shorten register scope) flags items) (λ items. refl)
  spelled_form told here (Op.Declaration Declaration.BankField) (tree (Use from region) (tree (Use to bank) (tree value (tree (Integer flags) no_trees)))) body =
      by_items body (λ items. BankField here from region to bank value flags items) (λ items. BankField here from (spelled_use also has shorten region scope) to (spelled_use also has shorten bank scope) (spells value) flags items) (λ items. refl)
  spelled_form told here (Op.Declaration Declaration.CreateField) (tree source (tree index (tree bits (tree (Use at name) no_trees)))) no_trees = refl
  spelled_form told here (Op.Declaration Declaration.CreateBitField) (tree source (tree index (tree (Use at name) no_trees))) no_trees = refl
  spelled_form told here (Op.Declaration Declaration.CreateByteField) (tree source (tree index (tree (Use at name) no_trees))) no_trees = refl
  spelled_form told here (Op.Declaration Declaration.CreateWordField) (tree source (tree index (tree (Use at name) no_trees))) no_trees = refl
  spelled_form told here (Op.Declaration Declaration.CreateDWordField) (tree source (tree index (tree (Use at name) no_trees))) no_trees = refl
  spelled_form told here (Op.Declaration Declaration.CreateQWordField) (tree source (tree index (tree (Use at name) no_trees))) no_trees = refl
  spelled_form told here (Op.Control Control.Return) (tree value no_trees) no_trees = refl
  spelled_form told here (Op.Control Control.If) (tree test no_trees) body = refl
  spelled_form told here (Op.Control Control.ElseIf) (tree test no_trees) body = refl
  spelled_form told here (Op.Control Control.Else) no_trees body = refl
  spelled_form told here (Op.Control Control.While) (tree test no_trees) body = refl
  spelled_form told here (Op.Control Control.For) (tree start (tree test (tree step no_trees))) body = refl
  spelled_form told here (Op.Control Control.Printf) (tree (String format) args) no_trees = refl
  spelled_form told here (Op.Control Control.Fprintf) (tree place (tree (String format) args)) no_trees = refl
  spelled_form told here (Op.Control Control.Switch) (tree value no_trees) cases = refl
  spelled_form told here (Op.Control Control.Case) (tree value no_trees) body = refl
  spelled_form told here (Op.Control Control.Default) no_trees body = refl
  spelled_form told here (Op.Control Control.Break) no_trees no_trees = refl
  spelled_form told here (Op.Control Control.Continue) no_trees no_trees = refl
  spelled_form told here (Op.Literal literal) no_trees no_trees = refl
  spelled_form told here (Op.Plain op) args no_trees = spelled_apply op args
  spelled_form told here (Op.Special Special.CondRefOf) (tree place (tree target no_trees)) no_trees = refl
  spelled_form told here (Op.Special Special.Buffer) (tree size no_trees) body = spelled_buffer size (body_bytes body)
  spelled_form told here (Op.Special Special.Package) (tree size no_trees) body = spelled_packaged size body
  spelled_form told here (Op.Symbolic (Symbolic.Operator op)) args no_trees = spelled_symbol here op args
  spelled_form told here (Op.Symbolic Symbolic.Assign) (tree target (tree value no_trees)) no_trees = refl
  spelled_form told here (Op.Symbolic (Symbolic.AssignBy op)) (tree target (tree value no_trees)) no_trees = refl
  spelled_form told here _ _ _ = refl
