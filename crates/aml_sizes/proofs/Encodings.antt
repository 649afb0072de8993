-- The bytes of ready terms are their encoding, and how long a table is.
use Rattle.std.proofs.Common.{◌≡◌, ℕ, ◌+◌, ◌-◌, ◌%◌, ◌≤◌, ◌<◌, Bool, true, false, List, [], ◌∷◌, ◌++◌, length, min, take, replicate, Option, None, Some, refl, sym, ap, ◌∙◌, arith, length-append}
use Rattle.std.specs.Prelude.{nat_le, if◌then◌else◌}
use Rattle.std.proofs.lemmas.List.{length-take, length-replicate}
use Rattle.iasl_messages.specs.declared.place.Line.{Line}
use Rattle.acpi_values.specs.Paths.{AbsolutePath}
use Rattle.acpi_values.specs.Operators.{Letter, Valued, Kept, Placed, Used, row_of}
use Rattle.acpi_values.specs.Operators as L
use Rattle.acpi_state.specs.FieldActs.{region_letters, field_letters}
use Rattle.asl_tree.specs.declared.term.Op.{Op}
use Rattle.asl_tree.specs.declared.term.Declaration.TheVariants as Declaration
use Rattle.asl_tree.specs.declared.term.Control.TheVariants as Control
use Rattle.asl_tree.specs.declared.term.Special.TheVariants as Special
use Rattle.asl_tree.specs.declared.term.Symbolic.TheVariants as Symbolic
use Rattle.asl_tree.specs.declared.term.Node.{Node}
use Rattle.asl_tree.specs.declared.term.Term.{Term}
use Rattle.asl_tree.specs.declared.term.Term as D
use Rattle.asl_tree.specs.declared.program.Block.{Block}
use Rattle.asl_tree.specs.Names.{Known, declared_path}
use Rattle.asl_meaning.specs.Meaning.{SpotForm, OfResult, OfInside, NoSpot, spot_form}
use Rattle.asl_tree.specs.FieldItems.{FieldItem}
use Rattle.asl_tree.specs.Tree.{At, Tree, Integer, String, InSlot, Debug, Omitted, Raw, Use, Call, Apply, Buffer, Package, VarPackage, CondRefOf, Return, Name, Alias, External, Method, Mutex, Event, Container', Scope, Fill, Misshapen}
use Rattle.asl_tree.specs.Tree.{Trees, no_trees, tree, count, If, ElseIf, Else, While, Item, OperationRegion, Field, IndexField, BankField, CreateField, UnitName, Operated, Assigned, AssignedBy, Switch, Case, Default, For, Print}
use Rattle.asl_tree.specs.View.{buffer, packaged, items_in, form, tree_of, row_trees, trees_of}
use Rattle.aml_code.specs.Encoding.{name_bytes}
use Rattle.else_runs.specs.Runs.{before, nested_in, nested_all}
use Rattle.aml_meaning.specs.Encoded.{encoded, encoded_all, encoded_terms, encoded_block}
use Rattle.aml_code.specs.Header.{header_length, HeaderFields, header_with, checksum_of, fields_of, table_bytes}
use Rattle.aml_code.specs.Header.{filled as zero_filled, compiler_bytes}
use Rattle.byteorder.specs.Endian.{little_bytes}
use Rattle.byteorder.specs.Numbers.{length-bytes_low_first}
use Rattle.aml_sessions.specs.Ready.{is_expression, is_constant, IsReady, IsSpot, IsAlone, AreOperands, AreSpots, AreValues, AreElements, AreReady, LetterReady, SpotReady, ElementReady, CondReady, IsReadyBlock}
use Rattle.aml_sizes.specs.Sizes.{most_content_bytes}
use Rattle.aml_sizes.specs.declared.style.IntegerStyle.{IntegerStyle}
use Rattle.aml_sizes.specs.Styles.{style_of}
use Rattle.aml_sizes.specs.Leaves.{Leaf, leaf_of, leaves_of, operand_bytes, first_letter, letters_behind}
use Rattle.aml_sizes.specs.Codes.{letters_of}
use Rattle.aml_sizes.specs.Items.{written_items}
use Rattle.aml_sizes.specs.TermBytes.{whole_form, term_bytes, row_bytes}
use Rattle.aml_sizes.specs.TermLists.{run_from, own_bytes, row_terms, row_later, terms_bytes, later_of}
use Rattle.aml_sizes.specs.Pieces.{joined_pieces, nodes_pieces, table_pieces}
use Rattle.aml_sizes.specs.TableSizes.{IsTableSize}
use Rattle.aml_sizes.proofs.NodePieces.{nodes_joined}
use Rattle.aml_sizes.proofs.Holds.{holds}
use Rattle.aml_sizes.proofs.Runs.{IsListed, AreListed, run_length, rest_listed, form_step, alone_begins}
use Rattle.acpi_state.specs.Outcomes.{choose}
use Rattle.aml_sizes.proofs.FormLeaves.{tree_leaf, tree_leaves, form_leaf}
use Rattle.aml_sizes.proofs.FieldLists.{IsWritten, name_written, items_written}
use Rattle.aml_sizes.proofs.Forms.{IsWhole, AreWhole, is_field, apply_whole, no_symbol, trees_bytes, all_is, formed_bytes, formed_parts, form_is}

-- a name that can be written has its bytes
by_spot : {R : Type 0} (how : SpotForm) (A B : Type 0) → SpotReady how A B → (A → R) → (B → R) → R
by_spot OfResult A B h f g = f h
by_spot OfInside A B h f g = g h
by_spot NoSpot A B h f g = absurd h

module _ (known : Known) where
  letter_whole : (letter : Letter) (t : Tree) (scope : AbsolutePath) (A B : Type 0) → LetterReady known letter t A B scope → (A → IsWhole t) → (B → IsWhole t) → IsWhole t
  letter_whole Valued t scope A B h f g = f h
  letter_whole Kept t scope A B h f g = f h
  letter_whole Placed t scope A B h f g = g h
  letter_whole Used (Use at name) scope A B h f g = h.1.used.is_name
  letter_whole Used _ scope A B h f g = absurd h
  letter_whole (L.Raw size) (Raw other number) scope A B h f g = tt
  letter_whole (L.Raw size) _ scope A B h f g = absurd h

  cond_whole : (t : Tree) (scope : AbsolutePath) (A : Type 0) → CondReady known t A scope → (A → IsWhole t) → IsWhole t
  cond_whole (Use at name) scope A h f = h.used.is_name
  cond_whole _ scope A h f = f h

  element_whole : (t : Tree) (A : Type 0) → ElementReady known t A → ((is_constant t ≡ true) × A → IsWhole t) → IsWhole t
  element_whole (Use at name) A h f = h.used.is_name
  element_whole _ A h f = f h

  -- no expression and no constant holds a list of terms
  expression_alone : (t : Tree) → is_expression t ≡ true → holds t ≡ false
  expression_alone (Method at name flags body) e = absurd (grind arith)
  expression_alone (Container' kind at name body) e = absurd (grind arith)
  expression_alone (Scope here at name body) e = absurd (grind arith)
  expression_alone (If test body) e = absurd (grind arith)
  expression_alone (ElseIf test body) e = absurd (grind arith)
  expression_alone (Else body) e = absurd (grind arith)
  expression_alone (While test body) e = absurd (grind arith)
  expression_alone t e = refl

  constant_alone : (t : Tree) → is_constant t ≡ true → holds t ≡ false
  constant_alone (Method at name flags body) e = absurd (grind arith)
  constant_alone (Container' kind at name body) e = absurd (grind arith)
  constant_alone (Scope here at name body) e = absurd (grind arith)
  constant_alone (If test body) e = absurd (grind arith)
  constant_alone (ElseIf test body) e = absurd (grind arith)
  constant_alone (Else body) e = absurd (grind arith)
  constant_alone (While test body) e = absurd (grind arith)
  constant_alone t e = refl

  mutual
    ready_whole : (t : Tree) (scope : AbsolutePath) → holds t ≡ false → IsReady ⊥ known t scope → IsWhole t
    ready_whole (InSlot slot) scope e h = h
    ready_whole Omitted scope e h = absurd h
    ready_whole (Raw size number) scope e h = absurd h
    ready_whole (Use at name) scope e h = h.1.used.is_name
    ready_whole (Call at name args) scope e h = (h.1.used.is_name, values_whole args scope h.3)
    ready_whole (Apply op args targets) scope e h = (operands_whole (row_of op).operands args scope h.1, spots_whole targets scope h.3)
    ready_whole (Buffer size bytes) scope e h = ready_whole size scope (expression_alone size h.0) h.1
    ready_whole (Package n elements) scope e h = elements_whole elements scope h.1
    ready_whole (VarPackage size elements) scope e h = (ready_whole size scope (expression_alone size h.0) h.1, elements_whole elements scope h.2)
    ready_whole (CondRefOf place target) scope e h = (cond_whole place scope (IsSpot ⊥ known place scope) h.0 (spot_whole place scope), spot_whole target scope h.1)
    ready_whole (Return value) scope e h = ready_whole value scope (expression_alone value h.0) h.1
    ready_whole (Name at name value) scope e h = (h.0.written, ready_whole value scope (expression_alone value h.1) h.2)
    ready_whole (Alias from source at name) scope e h = (h.1.used.is_name, h.2.written)
    ready_whole (External here at name type parameters) scope e h = h
    ready_whole (Method at name flags body) scope e h = absurd (grind arith)
    ready_whole (Mutex at name level) scope e h = h.0.written
    ready_whole (Event at name) scope e h = h.written
    ready_whole (Container' kind at name body) scope e h = absurd (grind arith)
    ready_whole (Scope here at name body) scope e h = absurd (grind arith)
    ready_whole (If test body) scope e h = absurd (grind arith)
    ready_whole (Else body) scope e h = absurd (grind arith)
    ready_whole (While test body) scope e h = absurd (grind arith)
    ready_whole (Item item) scope e h = absurd h
    ready_whole (OperationRegion at name space args) scope e h = (h.0.written, operands_whole region_letters args scope h.2)
    ready_whole (Field here from region flags items) scope e h = (h.0.1.used.is_name, h.2)
    ready_whole (IndexField here from index to register flags items) scope e h = (h.0.1.used.is_name, h.1.1.used.is_name, h.3)
    ready_whole (BankField here from region to bank value flags items) scope e h = (h.0.1.used.is_name, h.1.1.used.is_name, ready_whole value scope (expression_alone value h.2) h.3, h.5)
    ready_whole (CreateField form args at name) scope e h = (operands_whole (field_letters form) args scope h.0, h.1.written)
    ready_whole (Fill bytes) scope e h = absurd h
    ready_whole Misshapen scope e h = absurd h
    ready_whole (Operated op args) scope e h = absurd h
    ready_whole (Assigned target value) scope e h = absurd h
    ready_whole (AssignedBy op target value) scope e h = absurd h
    ready_whole (ElseIf test body) scope e h = absurd h.0
    ready_whole (Switch value cases) scope e h = absurd h
    ready_whole (Case value body) scope e h = absurd h
    ready_whole (Default body) scope e h = absurd h
    ready_whole (For start test step body) scope e h = absurd h
    ready_whole (Print place format args) scope e h = absurd h
    ready_whole _ scope e h = tt

    spot_whole : (t : Tree) (scope : AbsolutePath) → IsSpot ⊥ known t scope → IsWhole t
    spot_whole Omitted scope h = tt
    spot_whole Debug scope h = tt
    spot_whole (InSlot slot) scope h = h
    spot_whole (Use at name) scope h = h.1.used.is_name
    spot_whole (Apply op args targets) scope h =
        by_spot (spot_form op) _ _ h.1 (λ k. (operands_whole (row_of op).operands args scope k.0, spots_whole targets scope k.2)) (alone_whole args targets scope)
    spot_whole _ scope h = absurd h

    alone_whole : (args targets : Trees) (scope : AbsolutePath) → IsAlone ⊥ known args targets scope → AreWhole args × AreWhole targets
    alone_whole (tree t no_trees) no_trees scope h = ((ready_whole t scope (expression_alone t h.0) h.1, tt), tt)
    alone_whole _ _ scope h = absurd h

    operands_whole : (letters : List Letter) (ts : Trees) (scope : AbsolutePath) → AreOperands ⊥ known letters ts scope → AreWhole ts
    operands_whole [] no_trees scope h = tt
    operands_whole (letter ∷ letters) (tree t ts) scope h =
        (letter_whole letter t scope _ _ h.0 (λ k. ready_whole t scope (expression_alone t k.0) k.1) (spot_whole t scope), operands_whole letters ts scope h.1)
    operands_whole _ _ scope h = absurd h

    spots_whole : (ts : Trees) (scope : AbsolutePath) → AreSpots ⊥ known ts scope → AreWhole ts
    spots_whole no_trees scope h = tt
    spots_whole (tree t ts) scope h = (spot_whole t scope h.0, spots_whole ts scope h.1)

    values_whole : (ts : Trees) (scope : AbsolutePath) → AreValues ⊥ known ts scope → AreWhole ts
    values_whole no_trees scope h = tt
    values_whole (tree t ts) scope h = (ready_whole t scope (expression_alone t h.0) h.1, values_whole ts scope h.2)

    elements_whole : (ts : Trees) (scope : AbsolutePath) → AreElements ⊥ known ts scope → AreWhole ts
    elements_whole no_trees scope h = tt
    elements_whole (tree t ts) scope h = (element_whole t (IsReady ⊥ known t scope) h.0 (λ k. ready_whole t scope (constant_alone t k.0) k.1), elements_whole ts scope h.1)

  value_whole : (t : Tree) (scope : AbsolutePath) → (is_expression t ≡ true) × IsReady ⊥ known t scope → IsWhole t
  value_whole t scope h = ready_whole t scope (expression_alone t h.0) h.1

  -- the terms of lists
  mutual
    ready_listed : (t : Tree) (scope : AbsolutePath) → IsReady ⊥ known t scope → IsListed t
    ready_listed (Method at name flags body) scope h = (h.0.written, all_listed body (declared_path name scope) h.2)
    ready_listed (Container' kind at name body) scope h = (h.0.written, all_listed body (declared_path name scope) h.2)
    ready_listed (Scope here at name body) scope h = (h.1.used.is_name, all_listed body h.0 h.2)
    ready_listed (If test body) scope h = (value_whole test scope (h.0, h.1), all_listed body scope h.2)
    ready_listed (Else body) scope h = all_listed body scope h
    ready_listed (While test body) scope h = (value_whole test scope (h.0, h.1), all_listed body scope h.2)
    ready_listed (ElseIf test body) scope h = absurd h.0
    ready_listed t scope h = ready_whole t scope refl h

    pub all_listed : (ts : Trees) (scope : AbsolutePath) → AreReady ⊥ known ts scope → AreListed ts
    all_listed no_trees scope h = tt
    all_listed (tree t ts) scope h = (ready_listed t scope h.0, all_listed ts scope h.1)

-- the bodies of a Buffer and of a field are looked at as they are listed
abbrev pub BodyWhole : Op → Trees → Type 0
BodyWhole (Op.Special Special.Buffer) body = Unit {0}
BodyWhole (Op.Declaration Declaration.Field) body = Unit {0}
BodyWhole (Op.Declaration Declaration.IndexField) body = Unit {0}
BodyWhole (Op.Declaration Declaration.BankField) body = Unit {0}
BodyWhole op body = AreWhole body

packaged_whole : (size : Tree) (body : Trees) → IsWhole (packaged size body) → IsWhole size × AreWhole body
packaged_whole Omitted body h = by_few (nat_le (count body) 255) h
  where
    by_few : (c : Bool) → IsWhole (if c then Package (count body) body else VarPackage (Integer (count body)) body) → Unit {0} × AreWhole body
    by_few true h = (tt, h)
    by_few false h = (tt, h.1)
packaged_whole (Integer n) body h = by_few (nat_le n 255) h
  where
    by_few : (c : Bool) → IsWhole (if c then Package n body else VarPackage (Integer n) body) → Unit {0} × AreWhole body
    by_few true h = (tt, h)
    by_few false h = (tt, h.1)
packaged_whole _ body h = h

buffer_whole : (size : Tree) (bytes : List ℕ) → IsWhole (buffer size bytes) → IsWhole size
buffer_whole Omitted bytes h = tt
buffer_whole _ bytes h = h

by_items : {R : Type 0} (items : Option (List (FieldItem UnitName))) (f : List (FieldItem UnitName) → Tree) → IsWhole (choose items Misshapen f) → ((found : List (FieldItem UnitName)) → IsWhole (f found) → R) → R
by_items None f h g = absurd h
by_items (Some found) f h g = g found h

pub form_whole : (here : At) (op : Op) (args body : Trees) → IsWhole (form here op args body) → AreWhole args × BodyWhole op body
form_whole here (Op.Declaration Declaration.Name) (tree (Use at name) (tree value no_trees)) no_trees h = ((h.0, (h.1, tt)), tt)
form_whole here (Op.Declaration Declaration.Alias) (tree (Use from source) (tree (Use at name) no_trees)) no_trees h = ((h.0, (h.1, tt)), tt)
form_whole here (Op.Declaration Declaration.External) (tree (Use at name) (tree (Integer type) no_trees)) no_trees h = ((h, (tt, tt)), tt)
form_whole here (Op.Declaration Declaration.External) (tree (Use at name) (tree (Integer type) (tree (Integer count) no_trees))) no_trees h = ((h, (tt, (tt, tt))), tt)
form_whole here (Op.Declaration Declaration.Method) (tree (Use at name) (tree (Integer arity) no_trees)) body h = absurd h
form_whole here (Op.Declaration Declaration.Mutex) (tree (Use at name) (tree (Integer level) no_trees)) no_trees h = ((h, (tt, tt)), tt)
form_whole here (Op.Declaration Declaration.Event) (tree (Use at name) no_trees) no_trees h = ((h, tt), tt)
form_whole here (Op.Declaration Declaration.Device) (tree (Use at name) no_trees) body h = absurd h
form_whole here (Op.Declaration Declaration.ThermalZone) (tree (Use at name) no_trees) body h = absurd h
form_whole here (Op.Declaration Declaration.PowerResource) (tree (Use at name) (tree (Integer level) (tree (Integer order) no_trees))) body h = absurd h
form_whole here (Op.Declaration Declaration.Processor) (tree (Use at name) (tree (Integer number) (tree (Integer address) (tree (Integer size) no_trees)))) body h = absurd h
form_whole here (Op.Declaration Declaration.Scope) (tree (Use at name) no_trees) body h = absurd h
form_whole here (Op.Declaration Declaration.OperationRegion) (tree (Use at name) (tree (Integer space) (tree offset (tree size no_trees)))) no_trees h = ((h.0, (tt, h.1)), tt)
form_whole here (Op.Declaration Declaration.Field) (tree (Use from region) (tree (Integer flags) no_trees)) body h = by_items (items_in body) (λ items. Field here from region flags items) h (λ items k. ((k.0, (tt, tt)), tt))
form_whole here (Op.Declaration Declaration.IndexField) (tree (Use from index) (tree (Use to register) (tree (Integer flags) no_trees))) body h = by_items (items_in body) (λ items. IndexField here from index to register flags items) h (λ items k. ((k.0, (k.1, (tt, tt))), tt))
form_whole here (Op.Declaration Declaration.BankField) (tree (Use from region) (tree (Use to bank) (tree value (tree (Integer flags) no_trees)))) body h = by_items (items_in body) (λ items. BankField here from region to bank value flags items) h (λ items k. ((k.0, (k.1, (k.2, (tt, tt)))), tt))
form_whole here (Op.Declaration Declaration.CreateField) (tree source (tree index (tree bits (tree (Use at name) no_trees)))) no_trees h = ((h.0.0, (h.0.1.0, (h.0.1.1.0, (h.1, tt)))), tt)
form_whole here (Op.Declaration Declaration.CreateBitField) (tree source (tree index (tree (Use at name) no_trees))) no_trees h = ((h.0.0, (h.0.1.0, (h.1, tt))), tt)
form_whole here (Op.Declaration Declaration.CreateByteField) (tree source (tree index (tree (Use at name) no_trees))) no_trees h = ((h.0.0, (h.0.1.0, (h.1, tt))), tt)
form_whole here (Op.Declaration Declaration.CreateWordField) (tree source (tree index (tree (Use at name) no_trees))) no_trees h = ((h.0.0, (h.0.1.0, (h.1, tt))), tt)
form_whole here (Op.Declaration Declaration.CreateDWordField) (tree source (tree index (tree (Use at name) no_trees))) no_trees h = ((h.0.0, (h.0.1.0, (h.1, tt))), tt)
form_whole here (Op.Declaration Declaration.CreateQWordField) (tree source (tree index (tree (Use at name) no_trees))) no_trees h = ((h.0.0, (h.0.1.0, (h.1, tt))), tt)
form_whole here (Op.Control Control.Return) (tree value no_trees) no_trees h = ((h, tt), tt)
form_whole here (Op.Control Control.If) (tree test no_trees) body h = absurd h
form_whole here (Op.Control Control.ElseIf) (tree test no_trees) body h = absurd h
form_whole here (Op.Control Control.For) (tree start (tree test (tree step no_trees))) body h = absurd h
form_whole here (Op.Control Control.Printf) (tree (String format) args) no_trees h = absurd h
form_whole here (Op.Control Control.Fprintf) (tree place (tree (String format) args)) no_trees h = absurd h
form_whole here (Op.Control Control.Switch) (tree value no_trees) cases h = absurd h
form_whole here (Op.Control Control.Case) (tree value no_trees) body h = absurd h
form_whole here (Op.Control Control.Default) no_trees body h = absurd h
form_whole here (Op.Control Control.Else) no_trees body h = absurd h
form_whole here (Op.Control Control.While) (tree test no_trees) body h = absurd h
form_whole here (Op.Control Control.Break) no_trees no_trees h = (tt, tt)
form_whole here (Op.Control Control.Continue) no_trees no_trees h = (tt, tt)
form_whole here (Op.Literal literal) no_trees no_trees h = (tt, tt)
form_whole here (Op.Plain op) args no_trees h = (apply_whole op args h, tt)
form_whole here (Op.Special Special.CondRefOf) (tree place (tree target no_trees)) no_trees h = ((h.0, (h.1, tt)), tt)
form_whole here (Op.Special Special.Buffer) (tree size no_trees) body h = ((buffer_whole size _ h, tt), tt)
form_whole here (Op.Special Special.Package) (tree size no_trees) body h = let w = packaged_whole size body h in ((w.0, tt), w.1)
form_whole here (Op.Symbolic (Symbolic.Operator op)) args no_trees h = absurd (no_symbol op args h)
form_whole here (Op.Symbolic Symbolic.Assign) (tree target (tree value no_trees)) no_trees h = absurd h
form_whole here (Op.Symbolic (Symbolic.AssignBy op)) (tree target (tree value no_trees)) no_trees h = absurd h
form_whole here _ _ _ h = absurd h

leaf_is : (at : At) (t : Term) → leaf_of t ≡ tree_leaf (tree_of at t)
unfolding tree_of
leaf_is at (D.Form' op shape args shape' body) = sym (form_leaf at op (row_trees args) (row_trees body))
leaf_is at _ = refl

row_leaves : (m : _) (row : D.Row_of-Node m) → leaves_of (D.items-the_row-Node m row) ≡ tree_leaves (row_trees row)
unfolding tree_of
row_leaves m D.end_of-Node = refl
row_leaves m (D.more_of-Node id place term rest) =
    ap (λ leaf. leaf ∷ leaves_of (D.items-the_row-Node _ rest)) (leaf_is (record { id = id; place = place }) term)
    ∙ ap (λ leaves. tree_leaf (tree_of (record { id = id; place = place }) term) ∷ leaves) (row_leaves _ rest)

module _ (style : IntegerStyle) where
  -- the body's terms are written where they are a part of the form
  by_body : (op : Op) (args : List Leaf) (front : List ℕ) (leaves : List Leaf) (body : Trees) (content content' list : List ℕ) → BodyWhole op body → (AreWhole body → content ≡ content') → formed_bytes style (is_field op) op args front leaves content list ≡ formed_bytes style (is_field op) op args front leaves content' list
  by_body (Op.Special Special.Buffer) args front leaves body content content' list h f = refl
  by_body (Op.Declaration Declaration.Field) args front leaves body content content' list h f = refl
  by_body (Op.Declaration Declaration.IndexField) args front leaves body content content' list h f = refl
  by_body (Op.Declaration Declaration.BankField) args front leaves body content content' list h f = refl
  by_body op args front leaves body content content' list h f = ap (λ bs. formed_bytes style (is_field op) op args front leaves bs list) (f h)

  formed_written : (at : At) (op : Op) (args body : Trees) (front content list : List ℕ) → IsWhole (form at op args body) → (AreWhole args → front ≡ trees_bytes style (letters_of op) args) → (AreWhole body → content ≡ encoded_all style.width style.short body) → IsWritten 0 list (items_in body) →
      formed_bytes style (is_field op) op (tree_leaves args) front (tree_leaves body) content list ≡ encoded style.width style.short (form at op args body)
  formed_written at op args body front content list h f g w =
      let k = form_whole at op args body h in
      ap (λ bs. formed_bytes style (is_field op) op (tree_leaves args) bs (tree_leaves body) content list) (f k.0)
      ∙ by_body op (tree_leaves args) (trees_bytes style (letters_of op) args) (tree_leaves body) body content (encoded_all style.width style.short body) list k.1 g
      ∙ form_is style at op args body list h w

  local_written : (base i : ℕ) → base + i < 256 → ((base + i) % 256) ∷ [] ≡ (base + i) ∷ []
  local_written base i lt = ap (λ n. n ∷ []) (omega arith)

  mutual
    unfolding tree_of term_bytes

    pub written : (at : At) (t : Term) → IsWhole (tree_of at t) → term_bytes style t ≡ encoded style.width style.short (tree_of at t)
    written at (D.Local index) h = local_written 0x60 index (omega (arith, h))
    written at (D.Arg index) h = local_written 0x68 index (omega (arith, h))
    written at (D.Name path) h = name_written path h
    written at (D.Call' path shape args) h =
        ap (λ bs. bs ++ row_bytes style [] args) (name_written path h.0) ∙ ap (λ bs. name_bytes path ++ bs) (row_written [] args h.1 ∙ all_is style (row_trees args))
    written at (D.Form' op shape args shape' body) h =
        ap (λ leaves. whole_form style op leaves (row_bytes style (letters_of op) args) (leaves_of (D.items-the_row-Node _ body)) (row_bytes style [] body) (written_items 0 (D.items-the_row-Node _ body))) (row_leaves _ args)
        ∙ ap (λ leaves. whole_form style op (tree_leaves (row_trees args)) (row_bytes style (letters_of op) args) leaves (row_bytes style [] body) (written_items 0 (D.items-the_row-Node _ body))) (row_leaves _ body)
        ∙ formed_parts style op (tree_leaves (row_trees args)) (row_bytes style (letters_of op) args) (tree_leaves (row_trees body)) (row_bytes style [] body) (written_items 0 (D.items-the_row-Node _ body))
        ∙ formed_written at op (row_trees args) (row_trees body) (row_bytes style (letters_of op) args) (row_bytes style [] body) (written_items 0 (D.items-the_row-Node _ body)) h (row_written (letters_of op) args) (λ w. row_written [] body w ∙ all_is style (row_trees body)) (items_written 0 _ body)
    written at _ h = refl

    pub row_written : (letters : List Letter) {m : _} (row : D.Row_of-Node m) → AreWhole (row_trees row) → row_bytes style letters row ≡ trees_bytes style letters (row_trees row)
    row_written letters D.end_of-Node h = refl
    row_written letters (D.more_of-Node id place term rest) h =
        let at : At = record { id = id; place = place } in
        ap (λ leaf. operand_bytes (first_letter letters) leaf (term_bytes style term) ++ row_bytes style (letters_behind letters) rest) (leaf_is at term)
        ∙ ap (λ bs. operand_bytes (first_letter letters) (tree_leaf (tree_of at term)) bs ++ row_bytes style (letters_behind letters) rest) (written at term h.0)
        ∙ ap (λ bs. operand_bytes (first_letter letters) (tree_leaf (tree_of at term)) (encoded style.width style.short (tree_of at term)) ++ bs) (row_written (letters_behind letters) rest h.1)

  mutual
    unfolding tree_of own_bytes

    -- a term of a list, before others that are written
    pub own_written : (later : ℕ) (at : At) (t : Term) (rest : Trees) → later ≡ run_length style rest → AreListed (before (nested_in (tree_of at t)) rest) → (own_bytes style later t ++ encoded_all style.width style.short rest ≡ encoded_all style.width style.short (before (nested_in (tree_of at t)) rest)) × (run_from t (length (own_bytes style later t)) later ≡ run_length style (before (nested_in (tree_of at t)) rest))
    own_written later at (D.Form' op shape args shape' body) rest e h =
        form_step style at op (row_trees args) (row_trees body) rest (row_bytes style (letters_of op) args) (row_terms style body) (term_bytes style (D.Form' op shape args shape' body)) later e
        (row_written (letters_of op) args) (λ k. (rows_written body k).0) (written at (D.Form' op shape args shape' body)) h
    own_written later at t rest e h = alone_begins style (tree_of at t) rest (term_bytes style t) refl (written at t) h

    pub rows_written : {m : _} (row : D.Row_of-Node m) → AreListed (nested_all (row_trees row)) → (row_terms style row ≡ encoded_all style.width style.short (nested_all (row_trees row))) × (row_later style row ≡ run_length style (nested_all (row_trees row)))
    rows_written D.end_of-Node h = (refl, refl)
    rows_written (D.more_of-Node id place term rest) h =
        let at : At = record { id = id; place = place } in
        let behind = rows_written rest (rest_listed (nested_in (tree_of at term)) (nested_all (row_trees rest)) h) in
        let own = own_written (row_later style rest) at term (nested_all (row_trees rest)) behind.1 h in
        (ap (λ bs. own_bytes style (row_later style rest) term ++ bs) behind.0 ∙ own.0, own.1)

  pub nodes_written : (ns : List Node) → AreListed (nested_all (trees_of ns)) → (terms_bytes style ns ≡ encoded_terms style.width style.short (trees_of ns)) × (later_of style ns ≡ run_length style (nested_all (trees_of ns)))
  unfolding trees_of terms_bytes
  nodes_written [] h = (refl, refl)
  nodes_written (n ∷ ns) h =
      let at : At = record { id = n.id; place = n.place } in
      let behind = nodes_written ns (rest_listed (nested_in (tree_of at n.term)) (nested_all (trees_of ns)) h) in
      let own = own_written (later_of style ns) at n.term (nested_all (trees_of ns)) behind.1 h in
      (ap (λ bs. own_bytes style (later_of style ns) n.term ++ bs) behind.0 ∙ own.0, own.1)

-- the bytes of terms that are ready once their runs are nested are their encoding
pub ready_bytes : (known : Known) (style : IntegerStyle) (ns : List Node) → AreReady ⊥ known (nested_all (trees_of ns)) [] → terms_bytes style ns ≡ encoded_terms style.width style.short (trees_of ns)
ready_bytes known style ns ready = (nodes_written style ns (all_listed known (nested_all (trees_of ns)) [] ready)).0

-- the pieces of a ready block, joined, are its encoding
pub joined_is : (known : Known) (short : Bool) (lines : List Line) (block : Block) → IsReadyBlock known block → joined_pieces (table_pieces (style_of block short) lines block) ≡ encoded_block short block
joined_is known short lines block ready =
    let style = style_of block short in
    let fields = fields_of block in
    ap (λ bs. header_with fields (header_length + length (terms_bytes style block.terms.items)) (checksum_of (header_with fields (header_length + length (terms_bytes style block.terms.items)) 0 ++ terms_bytes style block.terms.items)) ++ bs) (nodes_joined style lines block.terms.items)
    ∙ ap (table_bytes fields) (ready_bytes known style block.terms.items ready.terms)

-- how long the pieces of a block are, joined
filled_length : (n : ℕ) (text : List ℕ) → length (zero_filled n text) ≡ n
filled_length n text = omega (arith, length-take n text, length-append (take n text) (replicate (n - length text) 0), length-replicate {A = ℕ} (n - length text) 0)

long_header : (f4 l4 f6 f8 lo compiler : List ℕ) (revision check : ℕ) → length f4 ≡ 4 → length l4 ≡ 4 → length f6 ≡ 6 → length f8 ≡ 8 → length lo ≡ 4 → length compiler ≡ 8 → length (f4 ++ l4 ++ revision ∷ check ∷ f6 ++ f8 ++ lo ++ compiler) ≡ 36
long_header f4 l4 f6 f8 lo compiler revision check e1 e2 e3 e4 e5 e6 = grind (arith, length-append)

pub header_size : (fields : HeaderFields) (size check : ℕ) → length (header_with fields size check) ≡ 36
header_size fields size check =
    long_header (zero_filled 4 fields.signature) (little_bytes 4 size) (zero_filled 6 fields.oem_id) (zero_filled 8 fields.table_id) (little_bytes 4 fields.oem_revision) compiler_bytes fields.revision check
    (filled_length 4 fields.signature) (length-bytes_low_first 0 4 size) (filled_length 6 fields.oem_id) (filled_length 8 fields.table_id) (length-bytes_low_first 0 4 fields.oem_revision) refl

pub table_size : (style : IntegerStyle) (lines : List Line) (block : Block) → length (joined_pieces (table_pieces style lines block)) ≡ 36 + length (terms_bytes style block.terms.items)
table_size style lines block =
    let content = terms_bytes style block.terms.items in
    let size = header_length + length content in
    let check = checksum_of (header_with (fields_of block) size 0 ++ content) in
    let header = header_with (fields_of block) size check in
    let whole = length-append header (joined_pieces (nodes_pieces style lines block.terms.items)) in
    let rest : length (joined_pieces (nodes_pieces style lines block.terms.items)) ≡ length content = ap length (nodes_joined style lines block.terms.items) in
    omega (arith, whole, rest, header_size (fields_of block) size check)

pub size_is : (block : Block) (short : Bool) (counted size : ℕ) → counted ≡ min (length (terms_bytes (style_of block short) block.terms.items)) 18446744073709551615 → counted ≤ most_content_bytes → size ≡ 36 + counted → IsTableSize block short size
size_is block short counted size ec le es =
    let exact : counted ≡ length (terms_bytes (style_of block short) block.terms.items) = omega (arith, ec, le) in
    record {
      joined = λ lines. omega (arith, exact, es, table_size (style_of block short) lines block);
      encoded = λ known ready. omega (arith, exact, es, table_size (style_of block short) [] block, ap length (joined_is known short [] block ready));
      content = omega (arith, exact, es);
      within = omega (arith, le, es);
    }
