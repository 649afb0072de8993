-- The mentions of a form are those of its part.
use Rattle.std.proofs.Common.{◌≡◌, ℕ, Bool, true, false, List, [], ◌∷◌, ◌++◌, Option, Some, None, refl, sym, ap, ◌∙◌, append_assoc}
use Rattle.std.specs.Prelude.{nat_le, ◌&&◌, if◌then◌else◌}
use Rattle.acpi_values.specs.Paths.{AbsolutePath}
use Rattle.acpi_values.specs.Operators.{Letter, Valued, Kept, Placed, Used, Row, row_of}
use Rattle.acpi_values.specs.Operators as L
use Rattle.acpi_values.specs.declared.operator.IntOp.{IntOp}
use Rattle.acpi_values.specs.declared.operator.Plain.{Plain}
use Rattle.acpi_state.specs.Objects.{DataObject, RegionObject}
use Rattle.acpi_state.specs.Outcomes.{choose}
use Rattle.asl_tree.specs.FieldItems.{FieldItem}
use Rattle.asl_tree.specs.declared.term.Op.{Op}
use Rattle.asl_tree.specs.declared.term.Term.{Term}
use Rattle.asl_tree.specs.declared.term.Declaration.TheVariants as Declaration
use Rattle.asl_tree.specs.declared.term.Control.TheVariants as Control
use Rattle.asl_tree.specs.declared.term.Special.TheVariants as Special
use Rattle.asl_tree.specs.declared.term.Symbolic.TheVariants as Symbolic
use Rattle.asl_tree.specs.View.{fits, operated, symbol_of, form, operands_as, targets_of, plain_of, apply_of, buffer, body_bytes, packaged, counted, items_in}
use Rattle.asl_tree.specs.Tree.{At, Tree, Integer, String, Operated, Omitted, Use, Package, VarPackage, Misshapen, Trees, no_trees, tree, count, Field, IndexField, BankField, UnitName}
use Rattle.asl_meaning.specs.Declarations.{As, Declarations}
use Rattle.asl_meaning.specs.Meaning.{spot_form}
use Rattle.acpi_names.specs.Errors.{Asked, AUnit, ARegion}
use Rattle.acpi_names.specs.Mentions.{Mention, Used', item_mentions, Declares, is_place_form, is_spot, asks, asked_use, letter_mention, mentions, operand_mentions, target_mentions, element_mentions, term_mentions, block_mentions}
use Rattle.acpi_names.specs.Parts.{part_of}
use Rattle.acpi_names.specs.declared.part.ValueForm.TheVariants as V
use Rattle.acpi_names.specs.Walked.{fitting_value, value_form_of, letter_mentions, argument_mentions, value_mentions, part_mentions}
use Rattle.asl_tree.specs.declared.term.Term as D
use Rattle.std.proofs.Common.{arith}
use Rattle.asl_tree.specs.View.{tree_of, row_trees}
use Rattle.acpi_names.specs.Mentions.{is_use}
use Rattle.acpi_names.specs.Walked.{TermShape, OfName, spot_by, spot_shape, is_name_shape, term_shape, shape_mentions}
use Rattle.asl_tree.specs.declared.path.Path.{Path as Name}
use Rattle.acpi_names.proofs.Plain.{is_plain, plain_form}
use Rattle.acpi_names.proofs.Mentions.{right_nil}

and_true : (b : Bool) → (b && true) ≡ b
and_true true = refl
and_true false = refl

targets_same : (asked : Bool) (uses : Asked) (ts : Trees) (scope : AbsolutePath) → target_mentions asked ts scope ≡ argument_mentions asked uses [] ts scope
targets_same asked uses no_trees scope = refl
targets_same asked uses (tree t ts) scope = ap (λ ms. mentions (asked && is_spot t) t scope ++ ms) (targets_same asked uses ts scope)

-- the tree that an operand becomes
operand_same : (asked : Bool) (uses : Asked) (letter : Letter) (letters : List Letter) (t : Tree) (ts : Trees) (scope : AbsolutePath) (rest : List Mention) → operand_mentions asked uses letters (operands_as letters ts) scope ≡ rest → operand_mentions asked uses (letter ∷ letters) (operands_as (letter ∷ letters) (tree t ts)) scope ≡ letter_mentions asked uses letter t scope ++ rest
operand_same asked uses (L.Raw size) letters (Integer number) ts scope rest h = h
operand_same asked uses (L.Raw size) letters t ts scope rest h = h
operand_same asked uses Valued letters Omitted ts scope rest h = h
operand_same asked uses Valued letters t ts scope rest h = ap (λ ms. mentions (asked && true) t scope ++ ms) h
operand_same asked uses letter letters t ts scope rest h = ap (λ ms. letter_mention letter uses t (mentions (asked && asks letter t) t scope) scope ++ ms) h

arguments_same : (asked : Bool) (uses : Asked) (letters : List Letter) (ts : Trees) (scope : AbsolutePath) → operand_mentions asked uses letters (operands_as letters ts) scope ++ target_mentions asked (targets_of letters ts) scope ≡ argument_mentions asked uses letters ts scope
arguments_same asked uses [] ts scope = targets_same asked uses ts scope
arguments_same asked uses (letter ∷ letters) no_trees scope = refl
arguments_same asked uses (letter ∷ letters) (tree t ts) scope =
    ap (λ ms. ms ++ target_mentions asked (targets_of letters ts) scope) (operand_same asked uses letter letters t ts scope (operand_mentions asked uses letters (operands_as letters ts) scope) refl)
    ∙ append_assoc (letter_mentions asked uses letter t scope) (operand_mentions asked uses letters (operands_as letters ts) scope) (target_mentions asked (targets_of letters ts) scope)
    ∙ ap (λ ms. letter_mentions asked uses letter t scope ++ ms) (arguments_same asked uses letters ts scope)

negated : (asked : Bool) (op : IntOp) (args : Trees) (scope : AbsolutePath) → mentions asked (plain_of (Plain.Number IntOp.LNot) (tree (plain_of (Plain.Number op) args) no_trees)) scope ≡ argument_mentions asked (asked_use asked (Plain.Number op)) (row_of (Plain.Number op)).operands args scope
negated asked op args scope =
    right_nil (mentions (asked && true) (plain_of (Plain.Number op) args) scope ++ []) ∙ right_nil (mentions (asked && true) (plain_of (Plain.Number op) args) scope)
    ∙ ap (λ b. mentions b (plain_of (Plain.Number op) args) scope) (and_true asked) ∙ arguments_same asked (asked_use asked (Plain.Number op)) (row_of (Plain.Number op)).operands args scope

-- no operator on integers uses a path
no_use : (asked : Bool) (op other : IntOp) → asked_use asked (Plain.Number op) ≡ asked_use asked (Plain.Number other)
no_use true op other = refl
no_use false op other = refl

negation : (asked : Bool) (op other : IntOp) (args : Trees) (scope : AbsolutePath) → argument_mentions asked (asked_use asked (Plain.Number op)) (row_of (Plain.Number op)).operands args scope ≡ argument_mentions asked (asked_use asked (Plain.Number other)) (row_of (Plain.Number op)).operands args scope
negation asked op other args scope = ap (λ uses. argument_mentions asked uses (row_of (Plain.Number op)).operands args scope) (no_use asked op other)

plain_mentions : (asked : Bool) (op : Plain) (args : Trees) (scope : AbsolutePath) → mentions asked (apply_of op args) scope ≡ argument_mentions asked (asked_use asked op) (row_of op).operands args scope
plain_mentions asked (Plain.Number IntOp.LNotEqual) args scope = negated asked IntOp.LEqual args scope ∙ negation asked IntOp.LEqual IntOp.LNotEqual args scope
plain_mentions asked (Plain.Number IntOp.LLessEqual) args scope = negated asked IntOp.LGreater args scope ∙ negation asked IntOp.LGreater IntOp.LLessEqual args scope
plain_mentions asked (Plain.Number IntOp.LGreaterEqual) args scope = negated asked IntOp.LLess args scope ∙ negation asked IntOp.LLess IntOp.LGreaterEqual args scope
plain_mentions asked op args scope = arguments_same asked (asked_use asked op) (row_of op).operands args scope

-- operands that are all the arguments
fitting_mentions : (asked : Bool) (uses : Asked) (letters : List Letter) (ts : Trees) (scope : AbsolutePath) → fits letters ts ≡ true → operand_mentions asked uses letters (operands_as letters ts) scope ≡ argument_mentions asked uses letters ts scope
fitting_mentions asked uses [] no_trees scope e = refl
fitting_mentions asked uses [] (tree t ts) scope e = absurd cc
fitting_mentions asked uses (letter ∷ letters) no_trees scope e = absurd cc
fitting_mentions asked uses (letter ∷ letters) (tree t ts) scope e =
    operand_same asked uses letter letters t ts scope (argument_mentions asked uses letters ts scope) (fitting_mentions asked uses letters ts scope e)

operated_negation : (asked : Bool) (op : IntOp) (args : Trees) (scope : AbsolutePath) → mentions asked (Operated (Plain.Number IntOp.LNot) (tree (Operated (Plain.Number op) args) no_trees)) scope ≡ operand_mentions asked (asked_use asked (Plain.Number op)) (row_of (Plain.Number op)).operands args scope
operated_negation asked op args scope =
    right_nil (mentions (asked && true) (Operated (Plain.Number op) args) scope) ∙ ap (λ b. mentions b (Operated (Plain.Number op) args) scope) (and_true asked)

operated_other : (asked : Bool) (op other : IntOp) (args : Trees) (scope : AbsolutePath) → operand_mentions asked (asked_use asked (Plain.Number op)) (row_of (Plain.Number op)).operands args scope ≡ operand_mentions asked (asked_use asked (Plain.Number other)) (row_of (Plain.Number op)).operands args scope
operated_other asked op other args scope = ap (λ uses. operand_mentions asked uses (row_of (Plain.Number op)).operands args scope) (no_use asked op other)

operated_mentions : (asked : Bool) (op : Plain) (args : Trees) (scope : AbsolutePath) → mentions asked (operated op args) scope ≡ operand_mentions asked (asked_use asked op) (row_of op).operands args scope
operated_mentions asked (Plain.Number IntOp.LNotEqual) args scope = operated_negation asked IntOp.LEqual args scope ∙ operated_other asked IntOp.LEqual IntOp.LNotEqual args scope
operated_mentions asked (Plain.Number IntOp.LLessEqual) args scope = operated_negation asked IntOp.LGreater args scope ∙ operated_other asked IntOp.LGreater IntOp.LLessEqual args scope
operated_mentions asked (Plain.Number IntOp.LGreaterEqual) args scope = operated_negation asked IntOp.LLess args scope ∙ operated_other asked IntOp.LLess IntOp.LGreaterEqual args scope
operated_mentions asked op args scope = refl

symbol_mentions : (asked : Bool) (op : Plain) (args : Trees) (scope : AbsolutePath) → mentions asked (symbol_of op args) scope ≡ value_mentions (value_form_of (Op.Symbolic (Symbolic.Operator op)) args no_trees) asked args no_trees scope
symbol_mentions asked op args scope = by_fit (fits (row_of op).operands args) refl
  where
    by_fit : (c : Bool) → fits (row_of op).operands args ≡ c → mentions asked (symbol_of op args) scope ≡ value_mentions (value_form_of (Op.Symbolic (Symbolic.Operator op)) args no_trees) asked args no_trees scope
    by_fit true e =
        ap (λ c. mentions asked (if c then operated op (operands_as (row_of op).operands args) else Misshapen) scope) e
        ∙ operated_mentions asked op (operands_as (row_of op).operands args) scope
        ∙ fitting_mentions asked (asked_use asked op) (row_of op).operands args scope e
        ∙ sym (ap (λ c. value_mentions (fitting_value c (V.Operator op)) asked args no_trees scope) e)
    by_fit false e =
        ap (λ c. mentions asked (if c then operated op (operands_as (row_of op).operands args) else Misshapen) scope) e
        ∙ sym (ap (λ c. value_mentions (fitting_value c (V.Operator op)) asked args no_trees scope) e)

buffer_mentions : (asked : Bool) (size : Tree) (bytes : List ℕ) (scope : AbsolutePath) → mentions asked (buffer size bytes) scope ≡ mentions asked size scope ++ []
buffer_mentions asked Omitted bytes scope = refl
buffer_mentions asked size bytes scope = sym (right_nil (mentions asked size scope))

counted_mentions : (asked : Bool) (n : ℕ) (elements : Trees) (scope : AbsolutePath) → mentions asked (counted n elements) scope ≡ element_mentions asked elements scope
counted_mentions asked n elements scope = by_less (nat_le n 255)
  where
    by_less : (c : Bool) → mentions asked (if c then Package n elements else VarPackage (Integer n) elements) scope ≡ element_mentions asked elements scope
    by_less true = refl
    by_less false = refl

package_mentions : (asked : Bool) (size : Tree) (elements : Trees) (scope : AbsolutePath) → mentions asked (packaged size elements) scope ≡ (mentions asked size scope ++ []) ++ element_mentions asked elements scope
package_mentions asked Omitted elements scope = counted_mentions asked (count elements) elements scope
package_mentions asked (Integer n) elements scope = counted_mentions asked n elements scope
package_mentions asked size elements scope = ap (λ ms. ms ++ element_mentions asked elements scope) (sym (right_nil (mentions asked size scope)))

no_field : (o : Option (List (FieldItem UnitName))) (made : List (FieldItem UnitName) → Tree) (asked : Bool) (scope : AbsolutePath) → ((items : List (FieldItem UnitName)) → mentions asked (made items) scope ≡ []) → mentions asked (choose o Misshapen made) scope ≡ []
no_field None made asked scope k = refl
no_field (Some items) made asked scope k = k items

no_field_spot : (o : Option (List (FieldItem UnitName))) (made : List (FieldItem UnitName) → Tree) → ((items : List (FieldItem UnitName)) → is_spot (made items) ≡ false) → is_spot (choose o Misshapen made) ≡ false
no_field_spot None made h = refl
no_field_spot (Some items) made h = h items

spot_counted : (n : ℕ) (elements : Trees) → is_spot (counted n elements) ≡ false
spot_counted n elements = by_less (nat_le n 255)
  where
    by_less : (c : Bool) → is_spot (if c then Package n elements else VarPackage (Integer n) elements) ≡ false
    by_less true = refl
    by_less false = refl

spot_packaged : (size : Tree) (elements : Trees) → is_spot (packaged size elements) ≡ false
spot_packaged Omitted elements = spot_counted (count elements) elements
spot_packaged (Integer n) elements = spot_counted n elements
spot_packaged size elements = refl

spot_buffer : (size : Tree) (bytes : List ℕ) → is_spot (buffer size bytes) ≡ false
spot_buffer Omitted bytes = refl
spot_buffer size bytes = refl

spot_apply : (op : Plain) (args : Trees) → is_spot (apply_of op args) ≡ is_place_form (spot_form op)
spot_apply (Plain.Number IntOp.LNotEqual) args = refl
spot_apply (Plain.Number IntOp.LLessEqual) args = refl
spot_apply (Plain.Number IntOp.LGreaterEqual) args = refl
spot_apply op args = refl

spot_operated : (op : Plain) (args : Trees) → is_spot (operated op args) ≡ is_place_form (spot_form op)
spot_operated (Plain.Number IntOp.LNotEqual) args = refl
spot_operated (Plain.Number IntOp.LLessEqual) args = refl
spot_operated (Plain.Number IntOp.LGreaterEqual) args = refl
spot_operated op args = refl

spot_symbol : (op : Plain) (args : Trees) → is_spot (symbol_of op args) ≡ spot_by (value_form_of (Op.Symbolic (Symbolic.Operator op)) args no_trees)
spot_symbol op args = by_fit (fits (row_of op).operands args)
  where
    by_fit : (c : Bool) → is_spot (if c then operated op (operands_as (row_of op).operands args) else Misshapen) ≡ spot_by (fitting_value c (V.Operator op))
    by_fit true = spot_operated op (operands_as (row_of op).operands args)
    by_fit false = refl

-- a start, a test and a step before a body
before_body : (a b c e : List Mention) → a ++ (b ++ (c ++ e)) ≡ (a ++ (b ++ (c ++ []))) ++ e
before_body a b c e =
    sym (append_assoc a (b ++ (c ++ [])) e ∙ ap (λ ms. a ++ ms) (append_assoc b (c ++ []) e ∙ ap (λ ms. b ++ ms) (append_assoc c [] e)))

pub value_form : (asked : Bool) (at : At) (op : Op) (args body : Trees) (scope : AbsolutePath) → mentions asked (form at op args body) scope ≡ value_mentions (value_form_of op args body) asked args body scope
value_form asked here (Op.Declaration Declaration.Name) (tree (Use at name) (tree value no_trees)) no_trees scope = refl
value_form asked here (Op.Declaration Declaration.Alias) (tree (Use from source) (tree (Use at name) no_trees)) no_trees scope = refl
value_form asked here (Op.Declaration Declaration.External) (tree (Use at name) (tree (Integer type) no_trees)) no_trees scope = refl
value_form asked here (Op.Declaration Declaration.External) (tree (Use at name) (tree (Integer type) (tree (Integer parameters) no_trees))) no_trees scope = refl
value_form asked here (Op.Declaration Declaration.Method) (tree (Use at name) (tree (Integer arity) no_trees)) body scope = refl
value_form asked here (Op.Declaration Declaration.Mutex) (tree (Use at name) (tree (Integer level) no_trees)) no_trees scope = refl
value_form asked here (Op.Declaration Declaration.Event) (tree (Use at name) no_trees) no_trees scope = refl
value_form asked here (Op.Declaration Declaration.Device) (tree (Use at name) no_trees) body scope = refl
value_form asked here (Op.Declaration Declaration.ThermalZone) (tree (Use at name) no_trees) body scope = refl
value_form asked here (Op.Declaration Declaration.PowerResource) (tree (Use at name) (tree (Integer level) (tree (Integer order) no_trees))) body scope = refl
value_form asked here (Op.Declaration Declaration.Processor) (tree (Use at name) (tree (Integer number) (tree (Integer address) (tree (Integer size) no_trees)))) body scope = refl
value_form asked here (Op.Declaration Declaration.Scope) (tree (Use at name) no_trees) body scope = refl
value_form asked here (Op.Declaration Declaration.OperationRegion) (tree (Use at name) (tree (Integer space) (tree offset (tree size no_trees)))) no_trees scope = refl
value_form asked here (Op.Declaration Declaration.Field) (tree (Use from region) (tree (Integer flags) no_trees)) body scope = no_field (items_in body) (λ items. Field here from region flags items) asked scope (λ items. refl)
value_form asked here (Op.Declaration Declaration.IndexField) (tree (Use from index) (tree (Use to register) (tree (Integer flags) no_trees))) body scope = no_field (items_in body) (λ items. IndexField here from index to register flags items) asked scope (λ items. refl)
value_form asked here (Op.Declaration Declaration.BankField) (tree (Use from region) (tree (Use to bank) (tree value (tree (Integer flags) no_trees)))) body scope = no_field (items_in body) (λ items. BankField here from region to bank value flags items) asked scope (λ items. refl)
value_form asked here (Op.Declaration Declaration.CreateField) (tree source (tree index (tree bits (tree (Use at name) no_trees)))) no_trees scope = refl
value_form asked here (Op.Declaration Declaration.CreateBitField) (tree source (tree index (tree (Use at name) no_trees))) no_trees scope = refl
value_form asked here (Op.Declaration Declaration.CreateByteField) (tree source (tree index (tree (Use at name) no_trees))) no_trees scope = refl
value_form asked here (Op.Declaration Declaration.CreateWordField) (tree source (tree index (tree (Use at name) no_trees))) no_trees scope = refl
value_form asked here (Op.Declaration Declaration.CreateDWordField) (tree source (tree index (tree (Use at name) no_trees))) no_trees scope = refl
value_form asked here (Op.Declaration Declaration.CreateQWordField) (tree source (tree index (tree (Use at name) no_trees))) no_trees scope = refl
value_form asked here (Op.Control Control.Return) (tree value no_trees) no_trees scope = refl
value_form asked here (Op.Control Control.If) (tree test no_trees) body scope = refl
value_form asked here (Op.Control Control.ElseIf) (tree test no_trees) body scope = refl
value_form asked here (Op.Control Control.Else) no_trees body scope = refl
value_form asked here (Op.Control Control.While) (tree test no_trees) body scope = refl
value_form asked here (Op.Control Control.For) (tree start (tree test (tree step no_trees))) body scope = refl
value_form asked here (Op.Control Control.Printf) (tree (String format) args) no_trees scope = refl
value_form asked here (Op.Control Control.Fprintf) (tree place (tree (String format) args)) no_trees scope = refl
value_form asked here (Op.Control Control.Switch) (tree value no_trees) cases scope = refl
value_form asked here (Op.Control Control.Case) (tree value no_trees) body scope = refl
value_form asked here (Op.Control Control.Default) no_trees body scope = refl
value_form asked here (Op.Control Control.Break) no_trees no_trees scope = refl
value_form asked here (Op.Control Control.Continue) no_trees no_trees scope = refl
value_form asked here (Op.Literal literal) no_trees no_trees scope = refl
value_form asked here (Op.Plain op) args no_trees scope = plain_mentions asked op args scope
value_form asked here (Op.Special Special.CondRefOf) (tree place (tree target no_trees)) no_trees scope = refl
value_form asked here (Op.Special Special.Buffer) (tree size no_trees) body scope = buffer_mentions asked size (body_bytes body) scope
value_form asked here (Op.Special Special.Package) (tree size no_trees) body scope = package_mentions asked size body scope
value_form asked here (Op.Symbolic (Symbolic.Operator op)) args no_trees scope = symbol_mentions asked op args scope
value_form asked here (Op.Symbolic Symbolic.Assign) (tree target (tree value no_trees)) no_trees scope = refl
value_form asked here (Op.Symbolic (Symbolic.AssignBy op)) (tree target (tree value no_trees)) no_trees scope = ap (λ ms. mentions asked target scope ++ ms) (sym (right_nil (mentions asked value scope)))
value_form asked here _ _ _ scope = refl

told_items : (o : Option (List (FieldItem UnitName))) (made : List (FieldItem UnitName) → Tree) (before : List Mention) (scope : AbsolutePath) (d : Declarations) → ((items : List (FieldItem UnitName)) → term_mentions (made items) scope d ≡ before ++ item_mentions items scope) → term_mentions (choose o Misshapen made) scope d ≡ choose o [] (λ items. before ++ item_mentions items scope)
told_items None made before scope d k = refl
told_items (Some items) made before scope d k = k items

term_apply : (op : Plain) (args : Trees) (scope : AbsolutePath) (d : Declarations) → term_mentions (apply_of op args) scope d ≡ mentions true (apply_of op args) scope
term_apply (Plain.Number IntOp.LNotEqual) args scope d = refl
term_apply (Plain.Number IntOp.LLessEqual) args scope d = refl
term_apply (Plain.Number IntOp.LGreaterEqual) args scope d = refl
term_apply op args scope d = refl

term_operated : (op : Plain) (args : Trees) (scope : AbsolutePath) (d : Declarations) → term_mentions (operated op args) scope d ≡ mentions true (operated op args) scope
term_operated (Plain.Number IntOp.LNotEqual) args scope d = refl
term_operated (Plain.Number IntOp.LLessEqual) args scope d = refl
term_operated (Plain.Number IntOp.LGreaterEqual) args scope d = refl
term_operated op args scope d = refl

term_symbol : (op : Plain) (args : Trees) (scope : AbsolutePath) (d : Declarations) → term_mentions (symbol_of op args) scope d ≡ mentions true (symbol_of op args) scope
term_symbol op args scope d = by_fit (fits (row_of op).operands args)
  where
    by_fit : (c : Bool) → term_mentions (if c then operated op (operands_as (row_of op).operands args) else Misshapen) scope d ≡ mentions true (if c then operated op (operands_as (row_of op).operands args) else Misshapen) scope
    by_fit true = term_operated op (operands_as (row_of op).operands args) scope d
    by_fit false = refl

term_buffer : (size : Tree) (bytes : List ℕ) (scope : AbsolutePath) (d : Declarations) → term_mentions (buffer size bytes) scope d ≡ mentions true (buffer size bytes) scope
term_buffer Omitted bytes scope d = refl
term_buffer size bytes scope d = refl

term_counted : (n : ℕ) (elements : Trees) (scope : AbsolutePath) (d : Declarations) → term_mentions (counted n elements) scope d ≡ mentions true (counted n elements) scope
term_counted n elements scope d = by_less (nat_le n 255)
  where
    by_less : (c : Bool) → term_mentions (if c then Package n elements else VarPackage (Integer n) elements) scope d ≡ mentions true (if c then Package n elements else VarPackage (Integer n) elements) scope
    by_less true = refl
    by_less false = refl

term_packaged : (size : Tree) (elements : Trees) (scope : AbsolutePath) (d : Declarations) → term_mentions (packaged size elements) scope d ≡ mentions true (packaged size elements) scope
term_packaged Omitted elements scope d = term_counted (count elements) elements scope d
term_packaged (Integer n) elements scope d = term_counted n elements scope d
term_packaged size elements scope d = refl

pub term_form : (at : At) (op : Op) (args body : Trees) (scope : AbsolutePath) (d : Declarations) → term_mentions (form at op args body) scope d ≡ part_mentions (part_of op args body) at op args body scope d
term_form here (Op.Declaration Declaration.Name) (tree (Use at name) (tree value no_trees)) no_trees scope d = ap (λ ms. Declares at name (As DataObject) scope ∷ ms) (sym (right_nil (mentions true value scope)) ∙ sym (right_nil (mentions true value scope ++ [])))
term_form here (Op.Declaration Declaration.Alias) (tree (Use from source) (tree (Use at name) no_trees)) no_trees scope d = refl
term_form here (Op.Declaration Declaration.External) (tree (Use at name) (tree (Integer type) no_trees)) no_trees scope d = refl
term_form here (Op.Declaration Declaration.External) (tree (Use at name) (tree (Integer type) (tree (Integer parameters) no_trees))) no_trees scope d = refl
term_form here (Op.Declaration Declaration.Method) (tree (Use at name) (tree (Integer arity) no_trees)) body scope d = refl
term_form here (Op.Declaration Declaration.Mutex) (tree (Use at name) (tree (Integer level) no_trees)) no_trees scope d = refl
term_form here (Op.Declaration Declaration.Event) (tree (Use at name) no_trees) no_trees scope d = refl
term_form here (Op.Declaration Declaration.Device) (tree (Use at name) no_trees) body scope d = refl
term_form here (Op.Declaration Declaration.ThermalZone) (tree (Use at name) no_trees) body scope d = refl
term_form here (Op.Declaration Declaration.PowerResource) (tree (Use at name) (tree (Integer level) (tree (Integer order) no_trees))) body scope d = refl
term_form here (Op.Declaration Declaration.Processor) (tree (Use at name) (tree (Integer number) (tree (Integer address) (tree (Integer size) no_trees)))) body scope d = refl
term_form here (Op.Declaration Declaration.Scope) (tree (Use at name) no_trees) body scope d = refl
term_form here (Op.Declaration Declaration.OperationRegion) (tree (Use at name) (tree (Integer space) (tree offset (tree size no_trees)))) no_trees scope d = ap (λ ms. Declares at name (As (RegionObject space 0 0)) scope ∷ ms) (sym (right_nil (mentions true offset scope ++ (mentions true size scope ++ []))))
term_form here (Op.Declaration Declaration.Field) (tree (Use from region) (tree (Integer flags) no_trees)) body scope d = told_items (items_in body) (λ items. Field here from region flags items) (Used' (ARegion here) from region scope ∷ []) scope d (λ items. refl)
term_form here (Op.Declaration Declaration.IndexField) (tree (Use from index) (tree (Use to register) (tree (Integer flags) no_trees))) body scope d = told_items (items_in body) (λ items. IndexField here from index to register flags items) (Used' AUnit from index scope ∷ Used' AUnit to register scope ∷ []) scope d (λ items. refl)
term_form here (Op.Declaration Declaration.BankField) (tree (Use from region) (tree (Use to bank) (tree value (tree (Integer flags) no_trees)))) body scope d =
    told_items (items_in body) (λ items. BankField here from region to bank value flags items) (Used' (ARegion here) from region scope ∷ Used' AUnit to bank scope ∷ (mentions true value scope ++ [])) scope d (λ items. ap (λ ms. Used' (ARegion here) from region scope ∷ Used' AUnit to bank scope ∷ (ms ++ item_mentions items scope)) (sym (right_nil (mentions true value scope))))
term_form here (Op.Declaration Declaration.CreateField) (tree source (tree index (tree bits (tree (Use at name) no_trees)))) no_trees scope d = refl
term_form here (Op.Declaration Declaration.CreateBitField) (tree source (tree index (tree (Use at name) no_trees))) no_trees scope d = refl
term_form here (Op.Declaration Declaration.CreateByteField) (tree source (tree index (tree (Use at name) no_trees))) no_trees scope d = refl
term_form here (Op.Declaration Declaration.CreateWordField) (tree source (tree index (tree (Use at name) no_trees))) no_trees scope d = refl
term_form here (Op.Declaration Declaration.CreateDWordField) (tree source (tree index (tree (Use at name) no_trees))) no_trees scope d = refl
term_form here (Op.Declaration Declaration.CreateQWordField) (tree source (tree index (tree (Use at name) no_trees))) no_trees scope d = refl
term_form here (Op.Control Control.Return) (tree value no_trees) no_trees scope d = sym (right_nil (mentions true value scope))
term_form here (Op.Control Control.If) (tree test no_trees) body scope d = ap (λ ms. ms ++ block_mentions body scope d) (sym (right_nil (mentions true test scope)))
term_form here (Op.Control Control.ElseIf) (tree test no_trees) body scope d = ap (λ ms. ms ++ block_mentions body scope d) (sym (right_nil (mentions true test scope)))
term_form here (Op.Control Control.Else) no_trees body scope d = refl
term_form here (Op.Control Control.While) (tree test no_trees) body scope d = ap (λ ms. ms ++ block_mentions body scope d) (sym (right_nil (mentions true test scope)))
term_form here (Op.Control Control.For) (tree start (tree test (tree step no_trees))) body scope d = before_body (mentions true start scope) (mentions true test scope) (mentions true step scope) (block_mentions body scope d)
term_form here (Op.Control Control.Printf) (tree (String format) args) no_trees scope d = refl
term_form here (Op.Control Control.Fprintf) (tree place (tree (String format) args)) no_trees scope d = refl
term_form here (Op.Control Control.Switch) (tree value no_trees) cases scope d = ap (λ ms. ms ++ block_mentions cases scope d) (sym (right_nil (mentions true value scope)))
term_form here (Op.Control Control.Case) (tree value no_trees) body scope d = ap (λ ms. ms ++ block_mentions body scope d) (sym (right_nil (mentions true value scope)))
term_form here (Op.Control Control.Default) no_trees body scope d = refl
term_form here (Op.Control Control.Break) no_trees no_trees scope d = refl
term_form here (Op.Control Control.Continue) no_trees no_trees scope d = refl
term_form here (Op.Literal literal) no_trees no_trees scope d = refl
term_form here (Op.Plain op) args no_trees scope d = term_apply op args scope d ∙ plain_mentions true op args scope
term_form here (Op.Special Special.CondRefOf) (tree place (tree target no_trees)) no_trees scope d = refl
term_form here (Op.Special Special.Buffer) (tree size no_trees) body scope d = term_buffer size (body_bytes body) scope d ∙ buffer_mentions true size (body_bytes body) scope
term_form here (Op.Special Special.Package) (tree size no_trees) body scope d = term_packaged size body scope d ∙ package_mentions true size body scope
term_form here (Op.Symbolic (Symbolic.Operator op)) args no_trees scope d = term_symbol op args scope d ∙ symbol_mentions true op args scope
term_form here (Op.Symbolic Symbolic.Assign) (tree target (tree value no_trees)) no_trees scope d = refl
term_form here (Op.Symbolic (Symbolic.AssignBy op)) (tree target (tree value no_trees)) no_trees scope d = ap (λ ms. mentions true target scope ++ ms) (sym (right_nil (mentions true value scope)))
term_form here _ _ _ scope d = refl

pub spot_form_of : (at : At) (op : Op) (args body : Trees) → is_spot (form at op args body) ≡ spot_by (value_form_of op args body)
spot_form_of here (Op.Declaration Declaration.Name) (tree (Use at name) (tree value no_trees)) no_trees = refl
spot_form_of here (Op.Declaration Declaration.Alias) (tree (Use from source) (tree (Use at name) no_trees)) no_trees = refl
spot_form_of here (Op.Declaration Declaration.External) (tree (Use at name) (tree (Integer type) no_trees)) no_trees = refl
spot_form_of here (Op.Declaration Declaration.External) (tree (Use at name) (tree (Integer type) (tree (Integer parameters) no_trees))) no_trees = refl
spot_form_of here (Op.Declaration Declaration.Method) (tree (Use at name) (tree (Integer arity) no_trees)) body = refl
spot_form_of here (Op.Declaration Declaration.Mutex) (tree (Use at name) (tree (Integer level) no_trees)) no_trees = refl
spot_form_of here (Op.Declaration Declaration.Event) (tree (Use at name) no_trees) no_trees = refl
spot_form_of here (Op.Declaration Declaration.Device) (tree (Use at name) no_trees) body = refl
spot_form_of here (Op.Declaration Declaration.ThermalZone) (tree (Use at name) no_trees) body = refl
spot_form_of here (Op.Declaration Declaration.PowerResource) (tree (Use at name) (tree (Integer level) (tree (Integer order) no_trees))) body = refl
spot_form_of here (Op.Declaration Declaration.Processor) (tree (Use at name) (tree (Integer number) (tree (Integer address) (tree (Integer size) no_trees)))) body = refl
spot_form_of here (Op.Declaration Declaration.Scope) (tree (Use at name) no_trees) body = refl
spot_form_of here (Op.Declaration Declaration.OperationRegion) (tree (Use at name) (tree (Integer space) (tree offset (tree size no_trees)))) no_trees = refl
spot_form_of here (Op.Declaration Declaration.Field) (tree (Use from region) (tree (Integer flags) no_trees)) body = no_field_spot (items_in body) (λ items. Field here from region flags items) (λ items. refl)
spot_form_of here (Op.Declaration Declaration.IndexField) (tree (Use from index) (tree (Use to register) (tree (Integer flags) no_trees))) body = no_field_spot (items_in body) (λ items. IndexField here from index to register flags items) (λ items. refl)
spot_form_of here (Op.Declaration Declaration.BankField) (tree (Use from region) (tree (Use to bank) (tree value (tree (Integer flags) no_trees)))) body = no_field_spot (items_in body) (λ items. BankField here from region to bank value flags items) (λ items. refl)
spot_form_of here (Op.Declaration Declaration.CreateField) (tree source (tree index (tree bits (tree (Use at name) no_trees)))) no_trees = refl
spot_form_of here (Op.Declaration Declaration.CreateBitField) (tree source (tree index (tree (Use at name) no_trees))) no_trees = refl
spot_form_of here (Op.Declaration Declaration.CreateByteField) (tree source (tree index (tree (Use at name) no_trees))) no_trees = refl
spot_form_of here (Op.Declaration Declaration.CreateWordField) (tree source (tree index (tree (Use at name) no_trees))) no_trees = refl
spot_form_of here (Op.Declaration Declaration.CreateDWordField) (tree source (tree index (tree (Use at name) no_trees))) no_trees = refl
spot_form_of here (Op.Declaration Declaration.CreateQWordField) (tree source (tree index (tree (Use at name) no_trees))) no_trees = refl
spot_form_of here (Op.Control Control.Return) (tree value no_trees) no_trees = refl
spot_form_of here (Op.Control Control.If) (tree test no_trees) body = refl
spot_form_of here (Op.Control Control.ElseIf) (tree test no_trees) body = refl
spot_form_of here (Op.Control Control.Else) no_trees body = refl
spot_form_of here (Op.Control Control.While) (tree test no_trees) body = refl
spot_form_of here (Op.Control Control.For) (tree start (tree test (tree step no_trees))) body = refl
spot_form_of here (Op.Control Control.Printf) (tree (String format) args) no_trees = refl
spot_form_of here (Op.Control Control.Fprintf) (tree place (tree (String format) args)) no_trees = refl
spot_form_of here (Op.Control Control.Switch) (tree value no_trees) cases = refl
spot_form_of here (Op.Control Control.Case) (tree value no_trees) body = refl
spot_form_of here (Op.Control Control.Default) no_trees body = refl
spot_form_of here (Op.Control Control.Break) no_trees no_trees = refl
spot_form_of here (Op.Control Control.Continue) no_trees no_trees = refl
spot_form_of here (Op.Literal literal) no_trees no_trees = refl
spot_form_of here (Op.Plain op) args no_trees = spot_apply op args
spot_form_of here (Op.Special Special.CondRefOf) (tree place (tree target no_trees)) no_trees = refl
spot_form_of here (Op.Special Special.Buffer) (tree size no_trees) body = spot_buffer size (body_bytes body)
spot_form_of here (Op.Special Special.Package) (tree size no_trees) body = spot_packaged size body
spot_form_of here (Op.Symbolic (Symbolic.Operator op)) args no_trees = spot_symbol op args
spot_form_of here (Op.Symbolic Symbolic.Assign) (tree target (tree value no_trees)) no_trees = refl
spot_form_of here (Op.Symbolic (Symbolic.AssignBy op)) (tree target (tree value no_trees)) no_trees = refl
spot_form_of here _ _ _ = refl

-- the same over terms
pub shape_spot : (at : At) (t : Term) → is_spot (tree_of at t) ≡ spot_shape (term_shape t)
unfolding tree_of
shape_spot at (D.Form' op shape args shape' body) = spot_form_of at op (row_trees args) (row_trees body)
shape_spot at _ = refl

plain_none : (t : Tree) → is_plain t ≡ true → is_use t ≡ false
plain_none (Use at name) e = absurd (grind arith)
plain_none t e = refl

pub shape_use : (at : At) (t : Term) → is_use (tree_of at t) ≡ is_name_shape (term_shape t)
unfolding tree_of
shape_use at (D.Form' op shape args shape' body) = plain_none _ (plain_form at op (row_trees args) (row_trees body))
shape_use at _ = refl

pub shape_same : (asked : Bool) (at : At) (t : Term) (scope : AbsolutePath) → mentions asked (tree_of at t) scope ≡ shape_mentions asked at (term_shape t) scope
unfolding tree_of
shape_same asked at (D.Form' op shape args shape' body) scope = value_form asked at op (row_trees args) (row_trees body) scope
shape_same asked at _ scope = refl

-- a name is read off its shape, and only a name
pub shape_tree_name : (at : At) (t : Term) (name : Name) → OfName name ≡ term_shape t → Use at name ≡ tree_of at t
unfolding tree_of
shape_tree_name at (D.Name path) name e = ap (λ s. Use at (name_in s)) e
  where
    name_in : TermShape → Name
    name_in (OfName n) = n
    name_in s = name
shape_tree_name at (D.Integer number) name e = absurd (grind arith)
shape_tree_name at t name e = absurd (grind arith)

plain_use : (t : Tree) (at : At) (name : Name) → is_plain t ≡ true → t ≡ Use at name → ⊥
plain_use t at name p e = let x = sym p ∙ ap is_plain e in grind arith

pub shape_name_of : (here : At) (t : Term) (at : At) (name : Name) → tree_of here t ≡ Use at name → term_shape t ≡ OfName name
unfolding tree_of
shape_name_of here (D.Name path) at name e = ap (λ t. OfName (name_in t)) e
  where
    name_in : Tree → Name
    name_in (Use a n) = n
    name_in t = name
shape_name_of here (D.Form' op shape args shape' body) at name e = absurd (plain_use _ at name (plain_form here op (row_trees args) (row_trees body)) e)
shape_name_of here t at name e = absurd (grind arith)
