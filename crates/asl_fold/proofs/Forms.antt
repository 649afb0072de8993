-- A form with its arguments and its body folded.
use Rattle.std.proofs.Common.{◌≡◌, ℕ, suc, Bool, true, false, List, [], ◌∷◌, Option, Some, None, refl, sym, ap, ◌∙◌}
use Rattle.std.specs.Prelude.{nat_le, if◌then◌else◌}
use Rattle.acpi_values.specs.declared.width.Width.{Width}
use Rattle.acpi_values.specs.declared.operator.IntOp.{IntOp}
use Rattle.acpi_values.specs.declared.operator.Plain.{Plain}
use Rattle.acpi_values.specs.Operators.{Letter, Valued, Row, row_of}
use Rattle.acpi_values.specs.Operators as L
use Rattle.acpi_state.specs.Outcomes.{choose}
use Rattle.asl_tree.specs.FieldItems.{FieldItem}
use Rattle.asl_tree.specs.declared.term.Op.{Op}
use Rattle.asl_tree.specs.declared.term.Declaration.TheVariants as Declaration
use Rattle.asl_tree.specs.declared.term.Control.TheVariants as Control
use Rattle.asl_tree.specs.declared.term.Literal.TheVariants as Literal
use Rattle.asl_tree.specs.declared.term.Special.TheVariants as Special
use Rattle.asl_tree.specs.declared.term.Symbolic.TheVariants as Symbolic
use Rattle.asl_tree.specs.Tree as T
use Rattle.asl_tree.specs.Tree.{At, Tree, Integer, Constant, String, Debug, Print, Raw, Omitted, Use, Package, VarPackage, Operated, Misshapen, Method, Container', Scope, If, ElseIf, Else, While, Trees, no_trees, tree, count, Field, IndexField, BankField, UnitName}
use Rattle.asl_tree.specs.View.{fits, form, operands_as, targets_of, operated, symbol_of, buffer, body_bytes, packaged, counted, items_in}
use Rattle.asl_fold.specs.declared.part.Listing.{Listing}
use Rattle.asl_fold.specs.declared.part.MemberRole.{MemberRole}
use Rattle.asl_fold.specs.Folds.{sized, folded, folded_args, folded_all}
use Rattle.asl_fold.specs.Nodes.{is_raw, raw_at, part_in, listing_of, folded_as, folded_by}
use Rattle.asl_fold.proofs.Values.{reduced_other, sized_other}
use Rattle.asl_fold.proofs.Declared.{count_args}

-- the operands of an operator by its letters
abbrev pub letter_part : List Letter → ℕ → MemberRole
letter_part letters i = if raw_at letters i then MemberRole.Kept else MemberRole.Operand

abbrev pub is_operator : Op → Bool
is_operator (Op.Plain op) = true
is_operator op = false

abbrev first_operand : Letter → Tree → Tree
first_operand (L.Raw size) (Integer number) = Raw size number
first_operand (L.Raw size) t = Misshapen
first_operand Valued Omitted = Constant Literal.Ones
first_operand letter t = t

operands_first : (letter : Letter) (letters : List Letter) (t : Tree) (ts : Trees) → operands_as (letter ∷ letters) (tree t ts) ≡ tree (first_operand letter t) (operands_as letters ts)
operands_first (L.Raw size) letters (Integer number) ts = refl
operands_first (L.Raw size) letters t ts = refl
operands_first Valued letters Omitted ts = refl
operands_first letter letters t ts = refl

module _ (width : Width) where
  abbrev F : Tree → Tree
  F = folded width false

  abbrev Fs : Trees → Trees
  Fs = folded_args width

  -- ---- lists of one kind

  pub operands_are : (ts : Trees) → folded_by width (λ i. MemberRole.Operand) ts ≡ Fs ts
  operands_are no_trees = refl
  operands_are (tree t ts) = ap (tree (F t)) (operands_are ts)

  pub statements_are : (ts : Trees) → folded_by width (λ i. MemberRole.Statement) ts ≡ folded_all width ts
  statements_are no_trees = refl
  statements_are (tree t ts) = ap (tree (folded width true t)) (statements_are ts)

  pub kept_are : (ts : Trees) → folded_by width (λ i. MemberRole.Kept) ts ≡ ts
  kept_are no_trees = refl
  kept_are (tree t ts) = ap (tree t) (kept_are ts)

  -- ---- operands and targets

  folded_first : (letter : Letter) (t : Tree) → F (first_operand letter t) ≡ first_operand letter (folded_as width (if is_raw letter then MemberRole.Kept else MemberRole.Operand) t)
  folded_first (L.Raw size) (Integer number) = refl
  folded_first (L.Raw size) t = refl
  folded_first Valued Omitted = refl
  folded_first Valued (T.Apply op args targets) = reduced_other (λ t. t ≡ first_operand Valued t) (λ op args targets. refl) (λ n. refl) width false op (Fs args) (Fs targets)
  folded_first Valued (VarPackage size elements) = sized_other (λ t. t ≡ first_operand Valued t) (λ n es. refl) (λ n es. refl) (F size) (Fs elements)
  folded_first Valued t = refl
  folded_first letter t = refl

  pub folded_operands : (letters : List Letter) (ts : Trees) → Fs (operands_as letters ts) ≡ operands_as letters (folded_by width (letter_part letters) ts)
  folded_operands [] ts = refl
  folded_operands (letter ∷ letters) no_trees = refl
  folded_operands (letter ∷ letters) (tree t ts) =
      let first = folded_as width (if is_raw letter then MemberRole.Kept else MemberRole.Operand) t in
      ap Fs (operands_first letter letters t ts)
      ∙ ap (λ x. tree x (Fs (operands_as letters ts))) (folded_first letter t)
      ∙ ap (tree (first_operand letter first)) (folded_operands letters ts)
      ∙ sym (operands_first letter letters first (folded_by width (letter_part letters) ts))

  pub folded_targets : (letters : List Letter) (ts : Trees) → Fs (targets_of letters ts) ≡ targets_of letters (folded_by width (letter_part letters) ts)
  folded_targets [] ts = sym (operands_are ts)
  folded_targets (letter ∷ letters) no_trees = refl
  folded_targets (letter ∷ letters) (tree t ts) = folded_targets letters ts

  -- ---- symbols

  fits_folded : (letters : List Letter) (part : ℕ → MemberRole) (ts : Trees) → fits letters (folded_by width part ts) ≡ fits letters ts
  fits_folded [] part no_trees = refl
  fits_folded [] part (tree t ts) = refl
  fits_folded (letter ∷ letters) part no_trees = refl
  fits_folded (letter ∷ letters) part (tree t ts) = fits_folded letters (λ i. part (suc i)) ts

  operated_folded : (statement : Bool) (op : Plain) (args : Trees) → folded width statement (operated op args) ≡ operated op (Fs args)
  operated_folded statement (Plain.Number IntOp.LNotEqual) args = refl
  operated_folded statement (Plain.Number IntOp.LLessEqual) args = refl
  operated_folded statement (Plain.Number IntOp.LGreaterEqual) args = refl
  operated_folded statement op args = refl

  symbol_folded : (statement : Bool) (op : Plain) (args : Trees) → folded width statement (symbol_of op args) ≡ symbol_of op (folded_by width (letter_part (row_of op).operands) args)
  symbol_folded statement op args =
      by_fit (fits (row_of op).operands args)
      ∙ ap (λ c. if c then operated op (operands_as (row_of op).operands (folded_by width (letter_part (row_of op).operands) args)) else Misshapen) (sym (fits_folded (row_of op).operands (letter_part (row_of op).operands) args))
    where
      by_fit : (c : Bool) → folded width statement (if c then operated op (operands_as (row_of op).operands args) else Misshapen) ≡ (if c then operated op (operands_as (row_of op).operands (folded_by width (letter_part (row_of op).operands) args)) else Misshapen)
      by_fit true = operated_folded statement op (operands_as (row_of op).operands args) ∙ ap (operated op) (folded_operands (row_of op).operands args)
      by_fit false = refl

  -- ---- Buffers and Packages

  folded_buffer : (statement : Bool) (size : Tree) (bytes : List ℕ) → folded width statement (buffer size bytes) ≡ buffer (F size) bytes
  folded_buffer statement Omitted bytes = refl
  folded_buffer statement (T.Apply op args targets) bytes = reduced_other (λ t. T.Buffer t bytes ≡ buffer t bytes) (λ op args targets. refl) (λ n. refl) width false op (Fs args) (Fs targets)
  folded_buffer statement (VarPackage size elements) bytes = sized_other (λ t. T.Buffer t bytes ≡ buffer t bytes) (λ n es. refl) (λ n es. refl) (F size) (Fs elements)
  folded_buffer statement size bytes = refl

  folded_counted : (statement : Bool) (n : ℕ) (elements : Trees) → folded width statement (counted n elements) ≡ counted n (Fs elements)
  folded_counted statement n elements = by_small (nat_le n 255) refl
    where
      by_small : (c : Bool) → nat_le n 255 ≡ c → folded width statement (if c then Package n elements else VarPackage (Integer n) elements) ≡ counted n (Fs elements)
      by_small true e = sym (ap (λ c. if c then Package n (Fs elements) else VarPackage (Integer n) (Fs elements)) e)
      by_small false e = refl

  folded_packaged : (statement : Bool) (size : Tree) (elements : Trees) → folded width statement (packaged size elements) ≡ packaged (F size) (Fs elements)
  folded_packaged statement Omitted elements = folded_counted statement (count elements) elements ∙ sym (ap (λ n. counted n (Fs elements)) (count_args width elements))
  folded_packaged statement (Integer n) elements = folded_counted statement n elements
  folded_packaged statement (T.Apply op args targets) elements = reduced_other (λ t. sized t (Fs elements) ≡ packaged t (Fs elements)) (λ op args targets. refl) (λ n. refl) width false op (Fs args) (Fs targets)
  folded_packaged statement (VarPackage size more) elements = sized_other (λ t. sized t (Fs elements) ≡ packaged t (Fs elements)) (λ n es. refl) (λ n es. refl) (F size) (Fs more)
  folded_packaged statement size elements = refl

  -- ---- forms

  abbrev folded_body : Op → Trees → Trees
  folded_body (Op.Special Special.Package) body = Fs body
  folded_body (Op.Declaration Declaration.Method) body = folded_all width body
  folded_body (Op.Declaration Declaration.Device) body = folded_all width body
  folded_body (Op.Declaration Declaration.ThermalZone) body = folded_all width body
  folded_body (Op.Declaration Declaration.PowerResource) body = folded_all width body
  folded_body (Op.Declaration Declaration.Processor) body = folded_all width body
  folded_body (Op.Declaration Declaration.Scope) body = folded_all width body
  folded_body (Op.Control Control.If) body = folded_all width body
  folded_body (Op.Control Control.ElseIf) body = folded_all width body
  folded_body (Op.Control Control.Else) body = folded_all width body
  folded_body (Op.Control Control.While) body = folded_all width body
  folded_body (Op.Control Control.For) body = folded_all width body
  folded_body (Op.Control Control.Switch) body = folded_all width body
  folded_body (Op.Control Control.Case) body = folded_all width body
  folded_body (Op.Control Control.Default) body = folded_all width body
  folded_body op body = body

  body_is : (op : Op) (body : Trees) → folded_by width (part_in (listing_of op)) body ≡ folded_body op body
  body_is (Op.Special Special.Package) body = operands_are body
  body_is (Op.Declaration Declaration.Method) body = statements_are body
  body_is (Op.Declaration Declaration.Device) body = statements_are body
  body_is (Op.Declaration Declaration.ThermalZone) body = statements_are body
  body_is (Op.Declaration Declaration.PowerResource) body = statements_are body
  body_is (Op.Declaration Declaration.Processor) body = statements_are body
  body_is (Op.Declaration Declaration.Scope) body = statements_are body
  body_is (Op.Control Control.If) body = statements_are body
  body_is (Op.Control Control.ElseIf) body = statements_are body
  body_is (Op.Control Control.Else) body = statements_are body
  body_is (Op.Control Control.While) body = statements_are body
  body_is (Op.Control Control.For) body = statements_are body
  body_is (Op.Control Control.Switch) body = statements_are body
  body_is (Op.Control Control.Case) body = statements_are body
  body_is (Op.Control Control.Default) body = statements_are body
  body_is _ body = kept_are body

  by_items : (o : Option (List (FieldItem UnitName))) (statement : Bool) (made more : List (FieldItem UnitName) → Tree) → ((items : List (FieldItem UnitName)) → folded width statement (made items) ≡ more items) → folded width statement (choose o Misshapen made) ≡ choose o Misshapen more
  by_items None statement made more h = refl
  by_items (Some items) statement made more h = h items

  abbrev Args : Op → Trees → Trees
  Args op ts = folded_by width (part_in (Listing.Arguments op)) ts

  kept_form : (statement : Bool) (at : At) (op : Op) (args body : Trees) → is_operator op ≡ false → folded width statement (form at op args body) ≡ form at op (Args op args) (folded_body op body)
  kept_form s here (Op.Declaration Declaration.Name) (tree (Use at name) (tree value no_trees)) no_trees e = refl
  kept_form s here (Op.Declaration Declaration.Alias) (tree (Use from source) (tree (Use at name) no_trees)) no_trees e = refl
  kept_form s here (Op.Declaration Declaration.External) (tree (Use at name) (tree (Integer type) no_trees)) no_trees e = refl
  kept_form s here (Op.Declaration Declaration.External) (tree (Use at name) (tree (Integer type) (tree (Integer parameters) no_trees))) no_trees e = refl
  kept_form s here (Op.Declaration Declaration.Method) (tree (Use at name) (tree (Integer arity) no_trees)) body e = refl
  kept_form s here (Op.Declaration Declaration.Mutex) (tree (Use at name) (tree (Integer level) no_trees)) no_trees e = refl
  kept_form s here (Op.Declaration Declaration.Event) (tree (Use at name) no_trees) no_trees e = refl
  kept_form s here (Op.Declaration Declaration.Device) (tree (Use at name) no_trees) body e = refl
  kept_form s here (Op.Declaration Declaration.ThermalZone) (tree (Use at name) no_trees) body e = refl
  kept_form s here (Op.Declaration Declaration.PowerResource) (tree (Use at name) (tree (Integer level) (tree (Integer order) no_trees))) body e = refl
  kept_form s here (Op.Declaration Declaration.Processor) (tree (Use at name) (tree (Integer number) (tree (Integer address) (tree (Integer size) no_trees)))) body e = refl
  kept_form s here (Op.Declaration Declaration.Scope) (tree (Use at name) no_trees) body e = refl
  kept_form s here (Op.Declaration Declaration.OperationRegion) (tree (Use at name) (tree (Integer space) (tree offset (tree size no_trees)))) no_trees e = refl
  kept_form s here (Op.Declaration Declaration.Field) (tree (Use from region) (tree (Integer flags) no_trees)) body e = by_items (items_in body) s (λ items. Field here from region flags items) (λ items. Field here from region flags items) (λ items. refl)
  kept_form s here (Op.Declaration Declaration.IndexField) (tree (Use from index) (tree (Use to register) (tree (Integer flags) no_trees))) body e =
      by_items (items_in body) s (λ items. IndexField here from index to register flags items) (λ items. IndexField here from index to register flags items) (λ items. refl)
  kept_form s here (Op.Declaration Declaration.BankField) (tree (Use from region) (tree (Use to bank) (tree value (tree (Integer flags) no_trees)))) body e =
      by_items (items_in body) s (λ items. BankField here from region to bank value flags items) (λ items. BankField here from region to bank (F value) flags items) (λ items. refl)
  kept_form s here (Op.Declaration Declaration.CreateField) (tree source (tree index (tree bits (tree (Use at name) no_trees)))) no_trees e = refl
  kept_form s here (Op.Declaration Declaration.CreateBitField) (tree source (tree index (tree (Use at name) no_trees))) no_trees e = refl
  kept_form s here (Op.Declaration Declaration.CreateByteField) (tree source (tree index (tree (Use at name) no_trees))) no_trees e = refl
  kept_form s here (Op.Declaration Declaration.CreateWordField) (tree source (tree index (tree (Use at name) no_trees))) no_trees e = refl
  kept_form s here (Op.Declaration Declaration.CreateDWordField) (tree source (tree index (tree (Use at name) no_trees))) no_trees e = refl
  kept_form s here (Op.Declaration Declaration.CreateQWordField) (tree source (tree index (tree (Use at name) no_trees))) no_trees e = refl
  kept_form s here (Op.Control Control.Return) (tree value no_trees) no_trees e = refl
  kept_form s here (Op.Control Control.If) (tree test no_trees) body e = refl
  kept_form s here (Op.Control Control.ElseIf) (tree test no_trees) body e = refl
  kept_form s here (Op.Control Control.Else) no_trees body e = refl
  kept_form s here (Op.Control Control.While) (tree test no_trees) body e = refl
  kept_form s here (Op.Control Control.For) (tree start (tree test (tree step no_trees))) body e = refl
  kept_form s here (Op.Control Control.Printf) (tree (String format) args) no_trees e = ap (Print Debug format) (sym (operands_are args))
  kept_form s here (Op.Control Control.Fprintf) (tree place (tree (String format) args)) no_trees e = ap (Print (F place) format) (sym (operands_are args))
  kept_form s here (Op.Control Control.Switch) (tree value no_trees) cases e = refl
  kept_form s here (Op.Control Control.Case) (tree value no_trees) body e = refl
  kept_form s here (Op.Control Control.Default) no_trees body e = refl
  kept_form s here (Op.Control Control.Break) no_trees no_trees e = refl
  kept_form s here (Op.Control Control.Continue) no_trees no_trees e = refl
  kept_form s here (Op.Literal literal) no_trees no_trees e = refl
  kept_form s here (Op.Plain op) args body e = absurd cc
  kept_form s here (Op.Special Special.CondRefOf) (tree place (tree target no_trees)) no_trees e = refl
  kept_form s here (Op.Special Special.Buffer) (tree size no_trees) body e = folded_buffer s size (body_bytes body)
  kept_form s here (Op.Special Special.Package) (tree size no_trees) body e = folded_packaged s size body
  kept_form s here (Op.Symbolic (Symbolic.Operator op)) args no_trees e = symbol_folded s op args
  kept_form s here (Op.Symbolic Symbolic.Assign) (tree target (tree value no_trees)) no_trees e = refl
  kept_form s here (Op.Symbolic (Symbolic.AssignBy op)) (tree target (tree value no_trees)) no_trees e = refl
  kept_form s here _ _ _ e = refl

  -- a form that is no plain operator
  pub other_form : (statement : Bool) (at : At) (op : Op) (args body : Trees) → is_operator op ≡ false → folded width statement (form at op args body) ≡ form at op (Args op args) (folded_by width (part_in (listing_of op)) body)
  other_form statement at op args body e = kept_form statement at op args body e ∙ ap (form at op (Args op args)) (sym (body_is op body))
