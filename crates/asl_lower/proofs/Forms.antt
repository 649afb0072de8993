-- A form with its arguments and its body named.
use Rattle.std.proofs.Common.{◌≡◌, ℕ, suc, Bool, true, false, List, [], ◌∷◌, Option, Some, None, refl, sym, ap, ◌∙◌}
use Rattle.std.specs.Prelude.{nat_le, if◌then◌else◌}
use Rattle.acpi_values.specs.Operators.{Letter, Valued, Row, row_of}
use Rattle.acpi_values.specs.Operators as L
use Rattle.acpi_values.specs.declared.operator.IntOp.{IntOp}
use Rattle.acpi_values.specs.declared.operator.DataOp.TheVariants as DataOp
use Rattle.acpi_values.specs.declared.operator.Plain.{Plain}
use Rattle.acpi_state.specs.Outcomes.{choose}
use Rattle.asl_tree.specs.FieldItems.{FieldItem}
use Rattle.asl_tree.specs.declared.term.Compound.{Compound}
use Rattle.asl_tree.specs.declared.term.Op.{Op}
use Rattle.asl_tree.specs.declared.term.Declaration.TheVariants as Declaration
use Rattle.asl_tree.specs.declared.term.Control.TheVariants as Control
use Rattle.asl_tree.specs.declared.term.Literal.TheVariants as Literal
use Rattle.asl_tree.specs.declared.term.Special.TheVariants as Special
use Rattle.asl_tree.specs.declared.term.Symbolic.TheVariants as Symbolic
use Rattle.asl_tree.specs.Symbols.{compound_operator, takes_target}
use Rattle.asl_tree.specs.Tree.{At, Tree, Apply, Assigned, Integer, Constant, String, Raw, Omitted, Use, Package, VarPackage, Misshapen, Trees, no_trees, tree, count, Field, IndexField, BankField, UnitName}
use Rattle.asl_tree.specs.View.{fits, form, operands_as, targets_of, plain_of, not_of, apply_of, operated, buffer, body_bytes, packaged, counted, items_in}
use Rattle.asl_meaning.specs.Meaning.{target_operator}
use Rattle.asl_lower.specs.Nests.{joined}
use Rattle.asl_lower.proofs.Named.{compound_letters}
use Rattle.asl_lower.specs.Nodes.{given, last_target, applied, assigned, named, inner_args, named_all, named_body, is_symbolic}

-- an argument as an operand
abbrev first_operand : Letter → Tree → Tree
first_operand (L.Raw size) (Integer number) = Raw size number
first_operand (L.Raw size) t = Misshapen
first_operand Valued Omitted = Constant Literal.Ones
first_operand letter t = t

operands_first : (letter : Letter) (letters : List Letter) (t : Tree) (ts : Trees) → operands_as (letter ∷ letters) (tree t ts) ≡ tree (first_operand letter t) (operands_as letters ts)
operands_first (L.Raw size) letters (Integer number) ts = refl
operands_first (L.Raw size) letters t ts = refl
operands_first Valued letters Omitted ts = refl
operands_first letter letters t ts = refl

named_first : (letter : Letter) (t : Tree) → named (first_operand letter t) ≡ first_operand letter (named t)
named_first (L.Raw size) (Integer number) = refl
named_first (L.Raw size) t = refl
named_first Valued Omitted = refl
named_first letter t = refl

pub named_operands : (letters : List Letter) (ts : Trees) → named_all (operands_as letters ts) ≡ operands_as letters (named_all ts)
named_operands [] ts = refl
named_operands (letter ∷ letters) no_trees = refl
named_operands (letter ∷ letters) (tree t ts) =
    ap named_all (operands_first letter letters t ts)
    ∙ ap (λ x. tree x (named_all (operands_as letters ts))) (named_first letter t)
    ∙ ap (tree (first_operand letter (named t))) (named_operands letters ts)
    ∙ sym (operands_first letter letters (named t) (named_all ts))

named_targets : (letters : List Letter) (ts : Trees) → named_all (targets_of letters ts) ≡ targets_of letters (named_all ts)
named_targets [] ts = refl
named_targets (letter ∷ letters) no_trees = refl
named_targets (letter ∷ letters) (tree t ts) = named_targets letters ts

named_plain : (op : Plain) (args : Trees) → named (plain_of op args) ≡ plain_of op (named_all args)
named_plain op args =
    ap (λ ts. Apply op ts (named_all (targets_of (row_of op).operands args))) (named_operands (row_of op).operands args)
    ∙ ap (Apply op (operands_as (row_of op).operands (named_all args))) (named_targets (row_of op).operands args)

named_not : (op : IntOp) (args : Trees) → named (not_of op args) ≡ not_of op (named_all args)
named_not op args = named_plain (Plain.Number IntOp.LNot) (tree (plain_of (Plain.Number op) args) no_trees) ∙ ap (λ t. plain_of (Plain.Number IntOp.LNot) (tree t no_trees)) (named_plain (Plain.Number op) args)

named_apply : (op : Plain) (args : Trees) → named (apply_of op args) ≡ apply_of op (named_all args)
named_apply (Plain.Number IntOp.LNotEqual) args = named_not IntOp.LEqual args
named_apply (Plain.Number IntOp.LLessEqual) args = named_not IntOp.LGreater args
named_apply (Plain.Number IntOp.LGreaterEqual) args = named_not IntOp.LLess args
named_apply op args = named_plain op args

named_buffer : (size : Tree) (bytes : List ℕ) → named (buffer size bytes) ≡ buffer (named size) bytes
named_buffer Omitted bytes = refl
named_buffer size bytes = refl

count_named : (ts : Trees) → count (named_all ts) ≡ count ts
count_named no_trees = refl
count_named (tree t ts) = ap suc (count_named ts)

named_counted : (n : ℕ) (elements : Trees) → named (counted n elements) ≡ counted n (named_all elements)
named_counted n elements = by_less (nat_le n 255)
  where
    by_less : (c : Bool) → named (if c then Package n elements else VarPackage (Integer n) elements) ≡ (if c then Package n (named_all elements) else VarPackage (Integer n) (named_all elements))
    by_less true = refl
    by_less false = refl

named_packaged : (size : Tree) (elements : Trees) → named (packaged size elements) ≡ packaged (named size) (named_all elements)
named_packaged Omitted elements = named_counted (count elements) elements ∙ sym (ap (λ n. counted n (named_all elements)) (count_named elements))
named_packaged (Integer n) elements = named_counted n elements
named_packaged size elements = refl

by_items : (o : Option (List (FieldItem UnitName))) (made more : List (FieldItem UnitName) → Tree) → ((items : List (FieldItem UnitName)) → named (made items) ≡ more items) → named (choose o Misshapen made) ≡ choose o Misshapen more
by_items None made more h = refl
by_items (Some items) made more h = h items

-- a form that is written with no symbol
pub kept_form : (at : At) (op : Op) (args body : Trees) → is_symbolic op ≡ false → named (form at op args body) ≡ form at op (named_all args) (named_body op body)
kept_form here (Op.Declaration Declaration.Name) (tree (Use at name) (tree value no_trees)) no_trees e = refl
kept_form here (Op.Declaration Declaration.Alias) (tree (Use from source) (tree (Use at name) no_trees)) no_trees e = refl
kept_form here (Op.Declaration Declaration.External) (tree (Use at name) (tree (Integer type) no_trees)) no_trees e = refl
kept_form here (Op.Declaration Declaration.External) (tree (Use at name) (tree (Integer type) (tree (Integer parameters) no_trees))) no_trees e = refl
kept_form here (Op.Declaration Declaration.Method) (tree (Use at name) (tree (Integer arity) no_trees)) body e = refl
kept_form here (Op.Declaration Declaration.Mutex) (tree (Use at name) (tree (Integer level) no_trees)) no_trees e = refl
kept_form here (Op.Declaration Declaration.Event) (tree (Use at name) no_trees) no_trees e = refl
kept_form here (Op.Declaration Declaration.Device) (tree (Use at name) no_trees) body e = refl
kept_form here (Op.Declaration Declaration.ThermalZone) (tree (Use at name) no_trees) body e = refl
kept_form here (Op.Declaration Declaration.PowerResource) (tree (Use at name) (tree (Integer level) (tree (Integer order) no_trees))) body e = refl
kept_form here (Op.Declaration Declaration.Processor) (tree (Use at name) (tree (Integer number) (tree (Integer address) (tree (Integer size) no_trees)))) body e = refl
kept_form here (Op.Declaration Declaration.Scope) (tree (Use at name) no_trees) body e = refl
kept_form here (Op.Declaration Declaration.OperationRegion) (tree (Use at name) (tree (Integer space) (tree offset (tree size no_trees)))) no_trees e = refl
kept_form here (Op.Declaration Declaration.Field) (tree (Use from region) (tree (Integer flags) no_trees)) body e = by_items (items_in body) (λ items. Field here from region flags items) (λ items. Field here from region flags items) (λ items. refl)
kept_form here (Op.Declaration Declaration.IndexField) (tree (Use from index) (tree (Use to register) (tree (Integer flags) no_trees))) body e = by_items (items_in body) (λ items. IndexField here from index to register flags items) (λ items. IndexField here from index to register flags items) (λ items. refl)
kept_form here (Op.Declaration Declaration.BankField) (tree (Use from region) (tree (Use to bank) (tree value (tree (Integer flags) no_trees)))) body e = by_items (items_in body) (λ items. BankField here from region to bank value flags items) (λ items. BankField here from region to bank (named value) flags items) (λ items. refl)
kept_form here (Op.Declaration Declaration.CreateField) (tree source (tree index (tree bits (tree (Use at name) no_trees)))) no_trees e = refl
kept_form here (Op.Declaration Declaration.CreateBitField) (tree source (tree index (tree (Use at name) no_trees))) no_trees e = refl
kept_form here (Op.Declaration Declaration.CreateByteField) (tree source (tree index (tree (Use at name) no_trees))) no_trees e = refl
kept_form here (Op.Declaration Declaration.CreateWordField) (tree source (tree index (tree (Use at name) no_trees))) no_trees e = refl
kept_form here (Op.Declaration Declaration.CreateDWordField) (tree source (tree index (tree (Use at name) no_trees))) no_trees e = refl
kept_form here (Op.Declaration Declaration.CreateQWordField) (tree source (tree index (tree (Use at name) no_trees))) no_trees e = refl
kept_form here (Op.Control Control.Return) (tree value no_trees) no_trees e = refl
kept_form here (Op.Control Control.If) (tree test no_trees) body e = refl
kept_form here (Op.Control Control.ElseIf) (tree test no_trees) body e = refl
kept_form here (Op.Control Control.Else) no_trees body e = refl
kept_form here (Op.Control Control.While) (tree test no_trees) body e = refl
kept_form here (Op.Control Control.For) (tree start (tree test (tree step no_trees))) body e = refl
kept_form here (Op.Control Control.Printf) (tree (String format) args) no_trees e = refl
kept_form here (Op.Control Control.Fprintf) (tree place (tree (String format) args)) no_trees e = refl
kept_form here (Op.Control Control.Switch) (tree value no_trees) cases e = refl
kept_form here (Op.Control Control.Case) (tree value no_trees) body e = refl
kept_form here (Op.Control Control.Default) no_trees body e = refl
kept_form here (Op.Control Control.Break) no_trees no_trees e = refl
kept_form here (Op.Control Control.Continue) no_trees no_trees e = refl
kept_form here (Op.Literal literal) no_trees no_trees e = refl
kept_form here (Op.Plain op) args no_trees e = named_apply op args
kept_form here (Op.Special Special.CondRefOf) (tree place (tree target no_trees)) no_trees e = refl
kept_form here (Op.Special Special.Buffer) (tree size no_trees) body e = named_buffer size (body_bytes body)
kept_form here (Op.Special Special.Package) (tree size no_trees) body e = named_packaged size body
kept_form here (Op.Symbolic symbol) args body e = absurd cc
kept_form here _ _ _ e = refl

-- ---- symbols

fits_named : (letters : List Letter) (ts : Trees) → fits letters (named_all ts) ≡ fits letters ts
fits_named [] no_trees = refl
fits_named [] (tree t ts) = refl
fits_named (letter ∷ letters) no_trees = refl
fits_named (letter ∷ letters) (tree t ts) = fits_named letters ts

operands_joined : (letters : List Letter) (ts us : Trees) → fits letters ts ≡ true → operands_as letters (joined ts us) ≡ operands_as letters ts
operands_joined [] ts us e = refl
operands_joined (letter ∷ letters) no_trees us e = absurd cc
operands_joined (letter ∷ letters) (tree t ts) us e =
    operands_first letter letters t (joined ts us) ∙ ap (tree (first_operand letter t)) (operands_joined letters ts us e) ∙ sym (operands_first letter letters t ts)

targets_joined : (letters : List Letter) (ts us : Trees) → fits letters ts ≡ true → targets_of letters (joined ts us) ≡ us
targets_joined [] no_trees us e = refl
targets_joined [] (tree t ts) us e = absurd cc
targets_joined (letter ∷ letters) no_trees us e = absurd cc
targets_joined (letter ∷ letters) (tree t ts) us e = targets_joined letters ts us e

-- an operator on fitting arguments with targets behind them
pub plain_joined : (op : Plain) (ts us : Trees) → fits (row_of op).operands ts ≡ true → plain_of op (joined ts us) ≡ Apply op (operands_as (row_of op).operands ts) us
plain_joined op ts us e =
    ap (λ xs. Apply op xs (targets_of (row_of op).operands (joined ts us))) (operands_joined (row_of op).operands ts us e) ∙ ap (Apply op (operands_as (row_of op).operands ts)) (targets_joined (row_of op).operands ts us e)

symbol_plain : (op : Plain) (args us : Trees) → fits (row_of op).operands args ≡ true → Apply op (named_all (operands_as (row_of op).operands args)) us ≡ plain_of op (joined (named_all args) us)
symbol_plain op args us e =
    ap (λ xs. Apply op xs us) (named_operands (row_of op).operands args) ∙ sym (plain_joined op (named_all args) us (fits_named (row_of op).operands args ∙ e))

symbol_not : (op : IntOp) (args : Trees) → fits (row_of (Plain.Number op)).operands args ≡ true →
    Apply (Plain.Number IntOp.LNot) (tree (Apply (Plain.Number op) (named_all (operands_as (row_of (Plain.Number op)).operands args)) no_trees) no_trees) no_trees ≡ not_of op (joined (named_all args) no_trees)
symbol_not op args e = ap (λ t. Apply (Plain.Number IntOp.LNot) (tree t no_trees) no_trees) (symbol_plain (Plain.Number op) args no_trees e)

operated_named : (op : Plain) (args : Trees) → fits (row_of op).operands args ≡ true → named (operated op (operands_as (row_of op).operands args)) ≡ apply_of op (joined (named_all args) (last_target (row_of op).targets Omitted))
operated_named (Plain.Number IntOp.LNotEqual) args e = symbol_not IntOp.LEqual args e
operated_named (Plain.Number IntOp.LLessEqual) args e = symbol_not IntOp.LGreater args e
operated_named (Plain.Number IntOp.LGreaterEqual) args e = symbol_not IntOp.LLess args e
operated_named op args e = symbol_plain op args (last_target (row_of op).targets Omitted) e

-- a symbol's form whose arguments fit: the named operator, its targets left out
pub symbol_named : (at : At) (op : Plain) (args : Trees) → fits (row_of op).operands args ≡ true
    → named (form at (Op.Symbolic (Symbolic.Operator op)) args no_trees) ≡ form at (Op.Plain op) (joined (named_all args) (last_target (row_of op).targets Omitted)) no_trees
symbol_named at op args e = ap (λ c. named (if c then operated op (operands_as (row_of op).operands args) else Misshapen)) e ∙ operated_named op args e

-- one whose arguments do not fit
pub symbol_kept : (at : At) (op : Plain) (args : Trees) → fits (row_of op).operands args ≡ false
    → named (form at (Op.Symbolic (Symbolic.Operator op)) args no_trees) ≡ form at (Op.Symbolic (Symbolic.Operator op)) (named_all args) no_trees
symbol_kept at op args e =
    ap (λ c. named (if c then operated op (operands_as (row_of op).operands args) else Misshapen)) e
    ∙ sym (ap (λ c. if c then operated op (operands_as (row_of op).operands (named_all args)) else Misshapen) (fits_named (row_of op).operands args ∙ e))

-- ---- assignments

store_operands : (value target : Tree) → Apply (Plain.Data DataOp.Store) (tree (given value) (tree target no_trees)) no_trees ≡ apply_of (Plain.Data DataOp.Store) (tree (given value) (tree target no_trees))
store_operands Omitted target = refl
store_operands value target = refl

-- an assignment that is a Store
pub store_named : (at : At) (target value : Tree) → target_operator value ≡ None
    → named (form at (Op.Symbolic Symbolic.Assign) (tree target (tree value no_trees)) no_trees) ≡ form at (Op.Plain (Plain.Data DataOp.Store)) (tree (given (named value)) (tree (named target) no_trees)) no_trees
store_named at target value e = ap (λ o. assigned o (inner_args value) (named target) (named value)) e ∙ store_operands (named value) (named target)

takes_named : (op : Plain) (args : Trees) (target : Tree) → fits (row_of op).operands args ≡ true → takes_target op ≡ true →
    named (Assigned target (operated op (operands_as (row_of op).operands args))) ≡ apply_of op (joined (named_all args) (last_target (row_of op).targets (named target)))
takes_named (Plain.Number IntOp.LNotEqual) args target e takes = absurd cc
takes_named (Plain.Number IntOp.LLessEqual) args target e takes = absurd cc
takes_named (Plain.Number IntOp.LGreaterEqual) args target e takes = absurd cc
takes_named op args target e takes =
    ap (λ c. assigned (if c then Some op else None) (named_all (operands_as (row_of op).operands args)) (named target) (applied op (named_all (operands_as (row_of op).operands args)) Omitted)) takes
    ∙ symbol_plain op args (last_target (row_of op).targets (named target)) e

-- an assignment whose value is an operator that is given its target
pub operator_named : (at here : At) (op : Plain) (args : Trees) (target : Tree) → fits (row_of op).operands args ≡ true → takes_target op ≡ true
    → named (form at (Op.Symbolic Symbolic.Assign) (tree target (tree (form here (Op.Symbolic (Symbolic.Operator op)) args no_trees) no_trees)) no_trees)
    ≡ form at (Op.Plain op) (joined (named_all args) (last_target (row_of op).targets (named target))) no_trees
operator_named at here op args target e takes =
    ap (λ c. named (Assigned target (if c then operated op (operands_as (row_of op).operands args) else Misshapen))) e ∙ takes_named op args target e takes

compound_fits : (op : Compound) (t u : Tree) → fits (row_of (compound_operator op)).operands (tree t (tree u no_trees)) ≡ true
compound_fits Compound.Add t u = refl
compound_fits Compound.Subtract t u = refl
compound_fits Compound.Multiply t u = refl
compound_fits Compound.Divide t u = refl
compound_fits Compound.Mod t u = refl
compound_fits Compound.ShiftLeft t u = refl
compound_fits Compound.ShiftRight t u = refl
compound_fits Compound.And t u = refl
compound_fits Compound.Or t u = refl
compound_fits Compound.Xor t u = refl

given_operand : (t : Tree) → first_operand Valued (given t) ≡ given t
given_operand Omitted = refl
given_operand t = refl

two_given : (t u : Tree) → operands_as (Valued ∷ Valued ∷ []) (tree (given t) (tree (given u) no_trees)) ≡ tree (given t) (tree (given u) no_trees)
two_given t u =
    operands_first Valued (Valued ∷ []) (given t) (tree (given u) no_trees) ∙ ap (λ x. tree x (operands_as (Valued ∷ []) (tree (given u) no_trees))) (given_operand t)
    ∙ ap (tree (given t)) (operands_first Valued [] (given u) no_trees ∙ ap (λ x. tree x no_trees) (given_operand u))

compound_apply : (op : Compound) (ts : Trees) → apply_of (compound_operator op) ts ≡ plain_of (compound_operator op) ts
compound_apply Compound.Add ts = refl
compound_apply Compound.Subtract ts = refl
compound_apply Compound.Multiply ts = refl
compound_apply Compound.Divide ts = refl
compound_apply Compound.Mod ts = refl
compound_apply Compound.ShiftLeft ts = refl
compound_apply Compound.ShiftRight ts = refl
compound_apply Compound.And ts = refl
compound_apply Compound.Or ts = refl
compound_apply Compound.Xor ts = refl

-- `X op= Y`
pub compound_named : (at : At) (op : Compound) (target value : Tree)
    → named (form at (Op.Symbolic (Symbolic.AssignBy op)) (tree target (tree value no_trees)) no_trees)
    ≡ form at (Op.Plain (compound_operator op)) (tree (given (named target)) (tree (given (named value)) (last_target (row_of (compound_operator op)).targets (named target)))) no_trees
compound_named at op target value =
    let o = compound_operator op in
    let ts = tree (given (named target)) (tree (given (named value)) no_trees) in
    let us = last_target (row_of o).targets (named target) in
    sym (compound_apply op (joined ts us) ∙ plain_joined o ts us (compound_fits op (given (named target)) (given (named value)))
    ∙ ap (λ xs. Apply o xs us) (ap (λ letters. operands_as letters ts) (compound_letters op) ∙ two_given (named target) (named value)))
