-- A form whatever the numbers of its nodes are.
use Rattle.std.proofs.Common.{◌≡◌, ℕ, suc, Bool, true, false, List, [], ◌∷◌, Option, Some, None, refl, sym, ap, ◌∙◌}
use Rattle.std.specs.Prelude.{nat_le, if◌then◌else◌, ◌%◌}
use Rattle.acpi_values.specs.Operators.{Letter, Valued, Row, row_of}
use Rattle.acpi_values.specs.Operators as L
use Rattle.acpi_values.specs.declared.operator.IntOp.{IntOp}
use Rattle.acpi_values.specs.declared.operator.Plain.{Plain}
use Rattle.acpi_state.specs.Outcomes.{choose}
use Rattle.asl_tree.specs.FieldItems.{FieldItem}
use Rattle.asl_tree.specs.declared.term.Op.{Op}
use Rattle.asl_tree.specs.declared.term.Declaration.TheVariants as Declaration
use Rattle.asl_tree.specs.declared.term.Control.TheVariants as Control
use Rattle.asl_tree.specs.declared.term.Literal.TheVariants as Literal
use Rattle.asl_tree.specs.declared.term.Special.TheVariants as Special
use Rattle.asl_tree.specs.declared.term.Symbolic.TheVariants as Symbolic
use Rattle.asl_tree.specs.Tree.{At, Tree, Apply, Integer, Constant, String, Raw, Omitted, Use, Item, Fill, Package, VarPackage, Misshapen, Trees, no_trees, tree, count, Field, IndexField, BankField, UnitName}
use Rattle.asl_tree.specs.View.{fits, form, operands_as, targets_of, plain_of, not_of, apply_of, operated, symbol_of, buffer, body_bytes, packaged, counted, item_in, items_in, listed}
use Rattle.unused_names.specs.Bare.{nowhere, bare_item, bare_items, bare, bare_all}

-- an argument as an operand
abbrev first_operand : Letter → Tree → Tree
first_operand (L.Raw size) (Integer number) = Raw size number
first_operand (L.Raw size) t = Misshapen
first_operand Valued Omitted = Constant Literal.Ones
first_operand letter t = t

operands_first : (letter : Letter) (letters : List Letter) (t : Tree) (ts : Trees) → operands_as (letter ∷ letters) (tree t ts) ≡ tree (first_operand letter t) (operands_as letters ts)
operands_first (L.Raw size) letters (Integer number) ts = refl
operands_first (L.Raw size) letters t ts = refl
operands_first Valued letters Omitted ts = refl
operands_first letter letters t ts = refl

bare_first : (letter : Letter) (t : Tree) → bare (first_operand letter t) ≡ first_operand letter (bare t)
bare_first (L.Raw size) (Integer number) = refl
bare_first (L.Raw size) t = refl
bare_first Valued Omitted = refl
bare_first letter t = refl

bare_operands : (letters : List Letter) (ts : Trees) → bare_all (operands_as letters ts) ≡ operands_as letters (bare_all ts)
bare_operands [] ts = refl
bare_operands (letter ∷ letters) no_trees = refl
bare_operands (letter ∷ letters) (tree t ts) =
    ap bare_all (operands_first letter letters t ts)
    ∙ ap (λ x. tree x (bare_all (operands_as letters ts))) (bare_first letter t)
    ∙ ap (tree (first_operand letter (bare t))) (bare_operands letters ts)
    ∙ sym (operands_first letter letters (bare t) (bare_all ts))

bare_targets : (letters : List Letter) (ts : Trees) → bare_all (targets_of letters ts) ≡ targets_of letters (bare_all ts)
bare_targets [] ts = refl
bare_targets (letter ∷ letters) no_trees = refl
bare_targets (letter ∷ letters) (tree t ts) = bare_targets letters ts

bare_plain : (op : Plain) (args : Trees) → bare (plain_of op args) ≡ plain_of op (bare_all args)
bare_plain op args =
    ap (λ ts. Apply op ts (bare_all (targets_of (row_of op).operands args))) (bare_operands (row_of op).operands args)
    ∙ ap (Apply op (operands_as (row_of op).operands (bare_all args))) (bare_targets (row_of op).operands args)

bare_not : (op : IntOp) (args : Trees) → bare (not_of op args) ≡ not_of op (bare_all args)
bare_not op args = bare_plain (Plain.Number IntOp.LNot) (tree (plain_of (Plain.Number op) args) no_trees) ∙ ap (λ t. plain_of (Plain.Number IntOp.LNot) (tree t no_trees)) (bare_plain (Plain.Number op) args)

bare_apply : (op : Plain) (args : Trees) → bare (apply_of op args) ≡ apply_of op (bare_all args)
bare_apply (Plain.Number IntOp.LNotEqual) args = bare_not IntOp.LEqual args
bare_apply (Plain.Number IntOp.LLessEqual) args = bare_not IntOp.LGreater args
bare_apply (Plain.Number IntOp.LGreaterEqual) args = bare_not IntOp.LLess args
bare_apply op args = bare_plain op args

bare_buffer : (size : Tree) (bytes : List ℕ) → bare (buffer size bytes) ≡ buffer (bare size) bytes
bare_buffer Omitted bytes = refl
bare_buffer size bytes = refl

pub count_bare : (ts : Trees) → count (bare_all ts) ≡ count ts
count_bare no_trees = refl
count_bare (tree t ts) = ap suc (count_bare ts)

bare_counted : (n : ℕ) (elements : Trees) → bare (counted n elements) ≡ counted n (bare_all elements)
bare_counted n elements = by_less (nat_le n 255)
  where
    by_less : (c : Bool) → bare (if c then Package n elements else VarPackage (Integer n) elements) ≡ (if c then Package n (bare_all elements) else VarPackage (Integer n) (bare_all elements))
    by_less true = refl
    by_less false = refl

bare_packaged : (size : Tree) (elements : Trees) → bare (packaged size elements) ≡ packaged (bare size) (bare_all elements)
bare_packaged Omitted elements = bare_counted (count elements) elements ∙ sym (ap (λ n. counted n (bare_all elements)) (count_bare elements))
bare_packaged (Integer n) elements = bare_counted n elements
bare_packaged size elements = refl

-- the items of a field's body
abbrev more_items : FieldItem UnitName → Option (List (FieldItem UnitName)) → Option (List (FieldItem UnitName))
more_items item o = choose o None (λ items. Some (item ∷ items))

item_bare : (t : Tree) → item_in (bare t) ≡ choose (item_in t) None (λ item. Some (bare_item item))
item_bare (Item item) = refl
item_bare (Use at name) = refl
item_bare (Fill bytes) = refl
item_bare _ = refl

abbrev bared : Option (List (FieldItem UnitName)) → Option (List (FieldItem UnitName))
bared o = choose o None (λ items. Some (bare_items items))

items_bare : (ts : Trees) → items_in (bare_all ts) ≡ bared (items_in ts)
items_bare no_trees = refl
items_bare (tree t ts) =
    ap (λ o. choose o None (λ item. more_items item (items_in (bare_all ts)))) (item_bare t)
    ∙ ap (λ o. choose (choose (item_in t) None (λ item. Some (bare_item item))) None (λ item. more_items item o)) (items_bare ts)
    ∙ by_item (item_in t) (items_in ts)
  where
    by_item : (o : Option (FieldItem UnitName)) (os : Option (List (FieldItem UnitName)))
        → choose (choose o None (λ item. Some (bare_item item))) None (λ item. more_items item (bared os)) ≡ bared (choose o None (λ item. more_items item os))
    by_item None os = refl
    by_item (Some item) None = refl
    by_item (Some item) (Some items) = refl

by_items : (body : Trees) (made more : List (FieldItem UnitName) → Tree) → ((items : List (FieldItem UnitName)) → bare (made items) ≡ more (bare_items items))
    → bare (choose (items_in body) Misshapen made) ≡ choose (items_in (bare_all body)) Misshapen more
by_items body made more h = by_option (items_in body) ∙ sym (ap (λ o. choose o Misshapen more) (items_bare body))
  where
    by_option : (o : Option (List (FieldItem UnitName))) → bare (choose o Misshapen made) ≡ choose (bared o) Misshapen more
    by_option None = refl
    by_option (Some items) = h items

-- the bytes that a Buffer's body lists
listed_bare : (ts : Trees) → listed (bare_all ts) ≡ listed ts
listed_bare no_trees = refl
listed_bare (tree (Integer number) ts) = ap (λ bytes. (number % 256) ∷ bytes) (listed_bare ts)
listed_bare (tree _ ts) = ap (λ bytes. 0 ∷ bytes) (listed_bare ts)

bytes_bare : (ts : Trees) → body_bytes (bare_all ts) ≡ body_bytes ts
bytes_bare (tree (String text) no_trees) = refl
bytes_bare (tree (Fill bytes) no_trees) = refl
bytes_bare ts = listed_bare ts

fits_bare : (letters : List Letter) (ts : Trees) → fits letters (bare_all ts) ≡ fits letters ts
fits_bare [] no_trees = refl
fits_bare [] (tree t ts) = refl
fits_bare (letter ∷ letters) no_trees = refl
fits_bare (letter ∷ letters) (tree t ts) = fits_bare letters ts

bare_operated : (op : Plain) (args : Trees) → bare (operated op args) ≡ operated op (bare_all args)
bare_operated (Plain.Number IntOp.LNotEqual) args = refl
bare_operated (Plain.Number IntOp.LLessEqual) args = refl
bare_operated (Plain.Number IntOp.LGreaterEqual) args = refl
bare_operated op args = refl

bare_fitting : (c : Bool) (op : Plain) (args : Trees) → bare (if c then operated op args else Misshapen) ≡ (if c then operated op (bare_all args) else Misshapen)
bare_fitting true op args = bare_operated op args
bare_fitting false op args = refl

bare_symbol : (op : Plain) (args : Trees) → bare (symbol_of op args) ≡ symbol_of op (bare_all args)
bare_symbol op args =
    bare_fitting (fits (row_of op).operands args) op (operands_as (row_of op).operands args)
    ∙ ap (λ ts. if fits (row_of op).operands args then operated op ts else Misshapen) (bare_operands (row_of op).operands args)
    ∙ sym (ap (λ c. if c then operated op (operands_as (row_of op).operands (bare_all args)) else Misshapen) (fits_bare (row_of op).operands args))

pub bare_form : (at : At) (op : Op) (args body : Trees) → bare (form at op args body) ≡ form nowhere op (bare_all args) (bare_all body)
bare_form here (Op.Declaration Declaration.Name) (tree (Use at name) (tree value no_trees)) no_trees = refl
bare_form here (Op.Declaration Declaration.Alias) (tree (Use from source) (tree (Use at name) no_trees)) no_trees = refl
bare_form here (Op.Declaration Declaration.External) (tree (Use at name) (tree (Integer type) no_trees)) no_trees = refl
bare_form here (Op.Declaration Declaration.External) (tree (Use at name) (tree (Integer type) (tree (Integer parameters) no_trees))) no_trees = refl
bare_form here (Op.Declaration Declaration.Method) (tree (Use at name) (tree (Integer arity) no_trees)) body = refl
bare_form here (Op.Declaration Declaration.Mutex) (tree (Use at name) (tree (Integer level) no_trees)) no_trees = refl
bare_form here (Op.Declaration Declaration.Event) (tree (Use at name) no_trees) no_trees = refl
bare_form here (Op.Declaration Declaration.Device) (tree (Use at name) no_trees) body = refl
bare_form here (Op.Declaration Declaration.ThermalZone) (tree (Use at name) no_trees) body = refl
bare_form here (Op.Declaration Declaration.PowerResource) (tree (Use at name) (tree (Integer level) (tree (Integer order) no_trees))) body = refl
bare_form here (Op.Declaration Declaration.Processor) (tree (Use at name) (tree (Integer number) (tree (Integer address) (tree (Integer size) no_trees)))) body = refl
bare_form here (Op.Declaration Declaration.Scope) (tree (Use at name) no_trees) body = refl
bare_form here (Op.Declaration Declaration.OperationRegion) (tree (Use at name) (tree (Integer space) (tree offset (tree size no_trees)))) no_trees = refl
bare_form here (Op.Declaration Declaration.Field) (tree (Use from region) (tree (Integer flags) no_trees)) body = by_items body (λ items. Field here from region flags items) (λ items. Field nowhere nowhere region flags items) (λ items. refl)
bare_form here (Op.Declaration Declaration.IndexField) (tree (Use from index) (tree (Use to register) (tree (Integer flags) no_trees))) body =
    by_items body (λ items. IndexField here from index to register flags items) (λ items. IndexField nowhere nowhere index nowhere register flags items) (λ items. refl)
bare_form here (Op.Declaration Declaration.BankField) (tree (Use from region) (tree (Use to bank) (tree value (tree (Integer flags) no_trees)))) body =
    by_items body (λ items. BankField here from region to bank value flags items) (λ items. BankField nowhere nowhere region nowhere bank (bare value) flags items) (λ items. refl)
bare_form here (Op.Declaration Declaration.CreateField) (tree source (tree index (tree bits (tree (Use at name) no_trees)))) no_trees = refl
bare_form here (Op.Declaration Declaration.CreateBitField) (tree source (tree index (tree (Use at name) no_trees))) no_trees = refl
bare_form here (Op.Declaration Declaration.CreateByteField) (tree source (tree index (tree (Use at name) no_trees))) no_trees = refl
bare_form here (Op.Declaration Declaration.CreateWordField) (tree source (tree index (tree (Use at name) no_trees))) no_trees = refl
bare_form here (Op.Declaration Declaration.CreateDWordField) (tree source (tree index (tree (Use at name) no_trees))) no_trees = refl
bare_form here (Op.Declaration Declaration.CreateQWordField) (tree source (tree index (tree (Use at name) no_trees))) no_trees = refl
bare_form here (Op.Control Control.Return) (tree value no_trees) no_trees = refl
bare_form here (Op.Control Control.If) (tree test no_trees) body = refl
bare_form here (Op.Control Control.ElseIf) (tree test no_trees) body = refl
bare_form here (Op.Control Control.Else) no_trees body = refl
bare_form here (Op.Control Control.While) (tree test no_trees) body = refl
bare_form here (Op.Control Control.For) (tree start (tree test (tree step no_trees))) body = refl
bare_form here (Op.Control Control.Printf) (tree (String format) args) no_trees = refl
bare_form here (Op.Control Control.Fprintf) (tree place (tree (String format) args)) no_trees = refl
bare_form here (Op.Control Control.Switch) (tree value no_trees) cases = refl
bare_form here (Op.Control Control.Case) (tree value no_trees) body = refl
bare_form here (Op.Control Control.Default) no_trees body = refl
bare_form here (Op.Control Control.Break) no_trees no_trees = refl
bare_form here (Op.Control Control.Continue) no_trees no_trees = refl
bare_form here (Op.Literal literal) no_trees no_trees = refl
bare_form here (Op.Plain op) args no_trees = bare_apply op args
bare_form here (Op.Special Special.CondRefOf) (tree place (tree target no_trees)) no_trees = refl
bare_form here (Op.Special Special.Buffer) (tree size no_trees) body = bare_buffer size (body_bytes body) ∙ sym (ap (buffer (bare size)) (bytes_bare body))
bare_form here (Op.Special Special.Package) (tree size no_trees) body = bare_packaged size body
bare_form here (Op.Symbolic (Symbolic.Operator op)) args no_trees = bare_symbol op args
bare_form here (Op.Symbolic Symbolic.Assign) (tree target (tree value no_trees)) no_trees = refl
bare_form here (Op.Symbolic (Symbolic.AssignBy op)) (tree target (tree value no_trees)) no_trees = refl
bare_form here _ _ _ = refl
