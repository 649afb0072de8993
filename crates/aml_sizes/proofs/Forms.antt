-- A form of the language is written by its operator, its arguments and its body.
use Rattle.std.proofs.Common.{◌≡◌, ℕ, suc, ◌+◌, ◌%◌, Bool, true, false, List, [], ◌∷◌, ◌++◌, length, Option, None, Some, refl, sym, ap, ◌∙◌, append_assoc, length-append}
use Rattle.std.specs.Prelude.{nat_le, if◌then◌else◌}
use Rattle.std.proofs.lemmas.List.{append-nil}
use Rattle.byteorder.specs.Endian.{little_bytes}
use Rattle.acpi_values.specs.declared.operator.IntOp.{IntOp}
use Rattle.acpi_values.specs.declared.operator.Plain.{Plain}
use Rattle.acpi_values.specs.Operators.{Letter, Valued, row_of}
use Rattle.acpi_values.specs.Operators as L
use Rattle.asl_tree.specs.declared.term.Op.{Op}
use Rattle.asl_tree.specs.declared.term.Declaration.TheVariants as Declaration
use Rattle.asl_tree.specs.declared.term.Control.TheVariants as Control
use Rattle.asl_tree.specs.declared.term.Special.TheVariants as Special
use Rattle.asl_tree.specs.declared.term.Symbolic.TheVariants as Symbolic
use Rattle.asl_tree.specs.FieldItems.{FieldItem}
use Rattle.asl_tree.specs.Tree.{At, Tree, Integer, String, InSlot, Omitted, Use, Call, Apply, Buffer, Package, VarPackage, CondRefOf, Return, Name, Alias, External, Method, Mutex, Event, Container', Scope, Fill, Misshapen}
use Rattle.asl_tree.specs.Tree.{Trees, no_trees, tree, count, If, ElseIf, Else, While, OperationRegion, Field, IndexField, BankField, CreateField, UnitName, Operated, Assigned, AssignedBy, Switch, Case, Default, For, Print}
use Rattle.acpi_state.specs.Outcomes.{choose}
use Rattle.asl_tree.specs.View as V
use Rattle.asl_tree.specs.View.{fits, operated, symbol_of, operands_as, targets_of, apply_of, buffer, packaged, items_in, form}
use Rattle.aml_meaning.specs.Codes.{BufferCode, PackageCode, VarPackageCode, code_bytes, IsSlot}
use Rattle.aml_code.specs.Encoding.{package_length_bytes, packed, name_bytes}
use Rattle.aml_meaning.specs.Encoded.{items_bytes, encoded, encoded_all}
use Rattle.aml_code.specs.Fronts.{IsName}
use Rattle.aml_sessions.specs.Ready.{AreItems}
use Rattle.aml_sizes.specs.declared.style.IntegerStyle.{IntegerStyle}
use Rattle.aml_sizes.specs.Leaves.{Leaf, operand_bytes, first_letter, letters_behind, listed_bytes, fill_bytes, stated_count}
use Rattle.aml_sizes.specs.Codes.{code_of, letters_of}
use Rattle.aml_sizes.specs.TermBytes.{number_bytes, head_bytes, missing_bytes, package_code, buffer_size, count_bytes, whole_form}
use Rattle.aml_sizes.proofs.FormLeaves.{tree_leaf, tree_leaves}
use Rattle.aml_sizes.proofs.FieldLists.{IsWritten}

-- names and slots can be written, no form is out of shape, and none holds a list of terms
abbrev mutual
  pub IsWhole : Tree → Type 0
  IsWhole (InSlot slot) = IsSlot slot
  IsWhole (Use at name) = IsName name
  IsWhole (Call at name args) = IsName name × AreWhole args
  IsWhole (Apply op args targets) = AreWhole args × AreWhole targets
  IsWhole (Buffer size bytes) = IsWhole size
  IsWhole (Package n elements) = AreWhole elements
  IsWhole (VarPackage size elements) = IsWhole size × AreWhole elements
  IsWhole (CondRefOf place target) = IsWhole place × IsWhole target
  IsWhole (Return value) = IsWhole value
  IsWhole (Name at name value) = IsName name × IsWhole value
  IsWhole (Alias from source at name) = IsName source × IsName name
  IsWhole (External here at name type parameters) = IsName name
  IsWhole (Method at name flags body) = ⊥
  IsWhole (Mutex at name level) = IsName name
  IsWhole (Event at name) = IsName name
  IsWhole (Container' kind at name body) = ⊥
  IsWhole (Scope here at name body) = ⊥
  IsWhole (If test body) = ⊥
  IsWhole (Else body) = ⊥
  IsWhole (While test body) = ⊥
  IsWhole (OperationRegion at name space args) = IsName name × AreWhole args
  IsWhole (Field here from region flags items) = IsName region × AreItems 0 items
  IsWhole (IndexField here from index to register flags items) = IsName index × IsName register × AreItems 0 items
  IsWhole (BankField here from region to bank value flags items) = IsName region × IsName bank × IsWhole value × AreItems 0 items
  IsWhole (CreateField form args at name) = AreWhole args × IsName name
  IsWhole (Operated op args) = ⊥
  IsWhole (Assigned target value) = ⊥
  IsWhole (AssignedBy op target value) = ⊥
  IsWhole (ElseIf test body) = ⊥
  IsWhole (Switch value cases) = ⊥
  IsWhole (Case value body) = ⊥
  IsWhole (Default body) = ⊥
  IsWhole (For start test step body) = ⊥
  IsWhole (Print place format args) = ⊥
  IsWhole Misshapen = ⊥
  IsWhole _ = Unit {0}

  pub AreWhole : Trees → Type 0
  AreWhole no_trees = Unit {0}
  AreWhole (tree t ts) = IsWhole t × AreWhole ts

-- whether the body of a form is the list of a field
abbrev pub is_field : Op → Bool
is_field (Op.Declaration Declaration.Field) = true
is_field (Op.Declaration Declaration.IndexField) = true
is_field (Op.Declaration Declaration.BankField) = true
is_field _ = false

-- the bytes that a Buffer's body lists
listed_is : (ts : Trees) → listed_bytes (tree_leaves ts) ≡ V.listed ts
listed_is no_trees = refl
listed_is (tree (Integer number) ts) = ap (λ bs. (number % 256) ∷ bs) (listed_is ts)
listed_is (tree _ ts) = ap (λ bs. 0x00 ∷ bs) (listed_is ts)

fill_is : (ts : Trees) → fill_bytes (tree_leaves ts) ≡ V.body_bytes ts
fill_is (tree (String text) no_trees) = refl
fill_is (tree (Fill bytes) no_trees) = refl
fill_is ts = listed_is ts

-- operands and targets of an operator
pub split_whole : (letters : List Letter) (args : Trees) → AreWhole (operands_as letters args) → AreWhole (targets_of letters args) → AreWhole args
split_whole [] args h k = k
split_whole (letter ∷ letters) no_trees h k = tt
split_whole (L.Raw size ∷ letters) (tree (Integer number) args) h k = (tt, split_whole letters args h.1 k)
split_whole (L.Raw size ∷ letters) (tree _ args) h k = absurd h.0
split_whole (Valued ∷ letters) (tree Omitted args) h k = (tt, split_whole letters args h.1 k)
split_whole (letter ∷ letters) (tree t args) h k = (h.0, split_whole letters args h.1 k)

pub apply_whole : (op : Plain) (args : Trees) → IsWhole (apply_of op args) → AreWhole args
apply_whole (Plain.Number IntOp.LNotEqual) args h = split_whole (row_of (Plain.Number IntOp.LEqual)).operands args h.0.0.0 h.0.0.1
apply_whole (Plain.Number IntOp.LLessEqual) args h = split_whole (row_of (Plain.Number IntOp.LGreater)).operands args h.0.0.0 h.0.0.1
apply_whole (Plain.Number IntOp.LGreaterEqual) args h = split_whole (row_of (Plain.Number IntOp.LLess)).operands args h.0.0.0 h.0.0.1
apply_whole op args h = split_whole (row_of op).operands args h.0 h.1

-- what is written with a symbol is not whole
no_operated : (op : Plain) (args : Trees) → IsWhole (operated op args) → ⊥
no_operated (Plain.Number IntOp.LNotEqual) args h = h
no_operated (Plain.Number IntOp.LLessEqual) args h = h
no_operated (Plain.Number IntOp.LGreaterEqual) args h = h
no_operated op args h = h

pub no_symbol : (op : Plain) (args : Trees) → IsWhole (symbol_of op args) → ⊥
no_symbol op args h = by_fit (fits (row_of op).operands args) h
  where
    by_fit : (c : Bool) → IsWhole (if c then operated op (operands_as (row_of op).operands args) else Misshapen) → ⊥
    by_fit true h = no_operated op (operands_as (row_of op).operands args) h
    by_fit false h = h

module _ (style : IntegerStyle) where
  -- the same by cases of what stands in a package
  abbrev buffer_bytes : List Leaf → List ℕ → List Leaf → List ℕ
  buffer_bytes args front body = code_bytes BufferCode ++ packed (buffer_size style args (length (fill_bytes body)) front ++ fill_bytes body)

  abbrev package_bytes : Option ℕ → List ℕ → List ℕ → List ℕ
  package_bytes count front elements = package_code count ++ packed (count_bytes style count front ++ elements)

  -- a form by its arguments, their bytes, its body, and the body's bytes as terms
  abbrev pub form_bytes : Op → List Leaf → List ℕ → List Leaf → List ℕ → List ℕ
  form_bytes (Op.Special Special.Buffer) args front body content = buffer_bytes args front body
  form_bytes (Op.Special Special.Package) args front body content = package_bytes (stated_count args (length body)) front content
  form_bytes (Op.Declaration Declaration.External) args front body content = head_bytes (Op.Declaration Declaration.External) front 0 ++ missing_bytes (length args)
  form_bytes op args front body content = head_bytes op front (length content) ++ content

  -- a form of terms, or of the list of a field
  abbrev pub formed_bytes : Bool → Op → List Leaf → List ℕ → List Leaf → List ℕ → List ℕ → List ℕ
  formed_bytes true op args front body content items = head_bytes op front (length items) ++ items
  formed_bytes false op args front body content items = form_bytes op args front body content

  -- the bytes of trees, each as its letter asks
  abbrev pub trees_bytes : List Letter → Trees → List ℕ
  trees_bytes letters no_trees = []
  trees_bytes letters (tree t ts) = operand_bytes (first_letter letters) (tree_leaf t) (encoded style.width style.short t) ++ trees_bytes (letters_behind letters) ts

  pub all_is : (ts : Trees) → trees_bytes [] ts ≡ encoded_all style.width style.short ts
  all_is no_trees = refl
  all_is (tree t ts) = ap (λ bs. encoded style.width style.short t ++ bs) (all_is ts)

  one_more : (own rest operands targets : List ℕ) → rest ≡ operands ++ targets → own ++ rest ≡ (own ++ operands) ++ targets
  one_more own rest operands targets e = ap (λ bs. own ++ bs) e ∙ sym (append_assoc own operands targets)

  split : (letters : List Letter) (args : Trees) → AreWhole (operands_as letters args) → trees_bytes letters args ≡ encoded_all style.width style.short (operands_as letters args) ++ encoded_all style.width style.short (targets_of letters args)
  split [] args h = all_is args
  split (letter ∷ letters) no_trees h = refl
  split (L.Raw size ∷ letters) (tree (Integer number) args) h = one_more (little_bytes size number) (trees_bytes letters args) (encoded_all style.width style.short (operands_as letters args)) (encoded_all style.width style.short (targets_of letters args)) (split letters args h.1)
  split (L.Raw size ∷ letters) (tree _ args) h = absurd h.0
  split (Valued ∷ letters) (tree Omitted args) h = one_more (0xFF ∷ []) (trees_bytes letters args) (encoded_all style.width style.short (operands_as letters args)) (encoded_all style.width style.short (targets_of letters args)) (split letters args h.1)
  split (letter ∷ letters) (tree t args) h = one_more (encoded style.width style.short t) (trees_bytes letters args) (encoded_all style.width style.short (operands_as letters args)) (encoded_all style.width style.short (targets_of letters args)) (split letters args h.1)

  plain_is : (code front bytes : List ℕ) → front ≡ bytes → (code ++ front) ++ [] ≡ code ++ bytes
  plain_is code front bytes e = append-nil (code ++ front) ∙ ap (λ bs. code ++ bs) e

  not_is : (base : IntOp) (args : Trees) → AreWhole (operands_as (row_of (Plain.Number base)).operands args) →
      (0x92 ∷ ((row_of (Plain.Number base)).code ++ trees_bytes (row_of (Plain.Number base)).operands args)) ++ [] ≡ encoded style.width style.short (V.not_of base args)
  not_is base args h =
      let row = row_of (Plain.Number base) in
      append-nil _
      ∙ ap (λ bs. 0x92 ∷ (row.code ++ bs)) (split row.operands args h)
      ∙ ap (λ bs. 0x92 ∷ bs) (sym (append-nil (row.code ++ (encoded_all style.width style.short (operands_as row.operands args) ++ encoded_all style.width style.short (targets_of row.operands args)))) ∙ sym (append-nil _))

  apply_is : (op : Plain) (args : Trees) → IsWhole (apply_of op args) → (code_of (Op.Plain op) ++ trees_bytes (row_of op).operands args) ++ [] ≡ encoded style.width style.short (apply_of op args)
  apply_is (Plain.Number IntOp.LNotEqual) args h = not_is IntOp.LEqual args h.0.0.0
  apply_is (Plain.Number IntOp.LLessEqual) args h = not_is IntOp.LGreater args h.0.0.0
  apply_is (Plain.Number IntOp.LGreaterEqual) args h = not_is IntOp.LLess args h.0.0.0
  apply_is op args h = plain_is (row_of op).code _ _ (split (row_of op).operands args h.0)

  pub packed_is : (code front content bytes : List ℕ) → front ++ content ≡ bytes → (code ++ (package_length_bytes (length front + length content) ++ front)) ++ content ≡ code ++ packed bytes
  packed_is code front content bytes e =
      let head = package_length_bytes (length front + length content) in
      append_assoc code (head ++ front) content
      ∙ ap (λ bs. code ++ bs) (append_assoc head front content ∙ ap (λ n. package_length_bytes n ++ (front ++ content)) (sym (length-append front content)) ∙ ap packed e)

  two_and : (a b name : List ℕ) → a ++ (b ++ (name ++ [])) ≡ (a ++ (b ++ [])) ++ name
  two_and a b name =
      ap (λ bs. a ++ (b ++ bs)) (append-nil name) ∙ sym (append_assoc a (b ++ []) name ∙ ap (λ bs. a ++ bs) (append_assoc b [] name))

  three_and : (a b c name : List ℕ) → a ++ (b ++ (c ++ (name ++ []))) ≡ (a ++ (b ++ (c ++ []))) ++ name
  three_and a b c name = ap (λ bs. a ++ bs) (two_and b c name) ∙ sym (append_assoc a (b ++ (c ++ [])) name)

  -- a form is what stands before its body, and its body
  pub formed_parts : (op : Op) (args : List Leaf) (front : List ℕ) (body : List Leaf) (content items : List ℕ) → whole_form style op args front body content items ≡ formed_bytes (is_field op) op args front body content items
  formed_parts (Op.Special Special.Buffer) args front body content items = packed_is (0x11 ∷ []) (buffer_size style args (length (fill_bytes body)) front) (fill_bytes body) (buffer_size style args (length (fill_bytes body)) front ++ fill_bytes body) refl
  formed_parts (Op.Special Special.Package) args front body content items =
      let count = stated_count args (length body) in packed_is (package_code count) (count_bytes style count front) content (count_bytes style count front ++ content) refl
  formed_parts (Op.Declaration Declaration.External) args front body content items = append-nil _
  formed_parts (Op.Declaration Declaration.Field) args front body content items = refl
  formed_parts (Op.Declaration Declaration.IndexField) args front body content items = refl
  formed_parts (Op.Declaration Declaration.BankField) args front body content items = refl
  formed_parts op args front body content items = refl

  buffer_is : (size : Tree) (body : Trees) → form_bytes (Op.Special Special.Buffer) (tree_leaf size ∷ []) (encoded style.width style.short size ++ []) (tree_leaves body) (encoded_all style.width style.short body) ≡ encoded style.width style.short (buffer size (V.body_bytes body))
  buffer_is Omitted body = ap (λ bs. 0x11 ∷ packed (number_bytes style (length bs) ++ bs)) (fill_is body)
  buffer_is size body = ap (λ bs. 0x11 ∷ packed ((encoded style.width style.short size ++ []) ++ bs)) (fill_is body) ∙ ap (λ bs. 0x11 ∷ packed (bs ++ V.body_bytes body)) (append-nil (encoded style.width style.short size))

  counted_is : (n : ℕ) (front : List ℕ) (elements : Trees) → package_bytes (Some n) front (encoded_all style.width style.short elements) ≡ encoded style.width style.short (V.counted n elements)
  counted_is n front elements = by_few (nat_le n 255)
    where
      by_few : (c : Bool) →
          (if c then code_bytes PackageCode else code_bytes VarPackageCode) ++ packed ((if c then (n % 256) ∷ [] else number_bytes style n) ++ encoded_all style.width style.short elements)
          ≡ encoded style.width style.short (if c then Package n elements else VarPackage (Integer n) elements)
      by_few true = refl
      by_few false = refl

  leaf_count : (ts : Trees) → length (tree_leaves ts) ≡ count ts
  leaf_count no_trees = refl
  leaf_count (tree t ts) = ap suc (leaf_count ts)

  packaged_is : (size : Tree) (body : Trees) → form_bytes (Op.Special Special.Package) (tree_leaf size ∷ []) (encoded style.width style.short size ++ []) (tree_leaves body) (encoded_all style.width style.short body) ≡ encoded style.width style.short (packaged size body)
  packaged_is Omitted body = ap (λ n. package_bytes (Some n) (0x00 ∷ []) (encoded_all style.width style.short body)) (leaf_count body) ∙ counted_is (count body) (0x00 ∷ []) body
  packaged_is (Integer n) body = counted_is n (number_bytes style n ++ []) body
  packaged_is size body = ap (λ bs. 0x13 ∷ packed (bs ++ encoded_all style.width style.short body)) (append-nil (encoded style.width style.short size))

  by_items : (items : Option (List (FieldItem UnitName))) (f : List (FieldItem UnitName) → Tree) (list bytes : List ℕ) → IsWhole (choose items Misshapen f) → IsWritten 0 list items
      → ((found : List (FieldItem UnitName)) → IsWhole (f found) → (AreItems 0 found → list ≡ items_bytes 0 found) → bytes ≡ encoded style.width style.short (f found)) → bytes ≡ encoded style.width style.short (choose items Misshapen f)
  by_items None f list bytes h w g = absurd h
  by_items (Some found) f list bytes h w g = g found h w

  pub form_is : (here : At) (op : Op) (args body : Trees) (list : List ℕ) → IsWhole (form here op args body) → IsWritten 0 list (items_in body) → formed_bytes (is_field op) op (tree_leaves args) (trees_bytes (letters_of op) args) (tree_leaves body) (encoded_all style.width style.short body) list ≡ encoded style.width style.short (form here op args body)
  form_is here (Op.Declaration Declaration.Name) (tree (Use at name) (tree value no_trees)) no_trees list h w = plain_is (0x08 ∷ []) _ _ (ap (λ bs. name_bytes name ++ bs) (append-nil (encoded style.width style.short value)))
  form_is here (Op.Declaration Declaration.Alias) (tree (Use from source) (tree (Use at name) no_trees)) no_trees list h w = plain_is (0x06 ∷ []) _ _ (ap (λ bs. name_bytes source ++ bs) (append-nil (name_bytes name)))
  form_is here (Op.Declaration Declaration.External) (tree (Use at name) (tree (Integer type) no_trees)) no_trees list h w = ap (λ bs. 0x15 ∷ bs) (append_assoc (name_bytes name) ((type % 256) ∷ []) (0x00 ∷ []))
  form_is here (Op.Declaration Declaration.External) (tree (Use at name) (tree (Integer type) (tree (Integer count) no_trees))) no_trees list h w = append-nil _
  form_is here (Op.Declaration Declaration.Method) (tree (Use at name) (tree (Integer arity) no_trees)) body list h w = absurd h
  form_is here (Op.Declaration Declaration.Mutex) (tree (Use at name) (tree (Integer level) no_trees)) no_trees list h w = append-nil _
  form_is here (Op.Declaration Declaration.Event) (tree (Use at name) no_trees) no_trees list h w = plain_is (0x5B ∷ 0x02 ∷ []) _ _ (append-nil (name_bytes name))
  form_is here (Op.Declaration Declaration.Device) (tree (Use at name) no_trees) body list h w = absurd h
  form_is here (Op.Declaration Declaration.ThermalZone) (tree (Use at name) no_trees) body list h w = absurd h
  form_is here (Op.Declaration Declaration.PowerResource) (tree (Use at name) (tree (Integer level) (tree (Integer order) no_trees))) body list h w = absurd h
  form_is here (Op.Declaration Declaration.Processor) (tree (Use at name) (tree (Integer number) (tree (Integer address) (tree (Integer size) no_trees)))) body list h w = absurd h
  form_is here (Op.Declaration Declaration.Scope) (tree (Use at name) no_trees) body list h w = absurd h
  form_is here (Op.Declaration Declaration.OperationRegion) (tree (Use at name) (tree (Integer space) (tree offset (tree size no_trees)))) no_trees list h w = append-nil _
  form_is here (Op.Declaration Declaration.Field) (tree (Use from region) (tree (Integer flags) no_trees)) body list h w =
      by_items (items_in body) (λ items. Field here from region flags items) list _ h w (λ items h w.
      packed_is (0x5B ∷ 0x81 ∷ []) (name_bytes region ++ (flags % 256) ∷ []) list (name_bytes region ++ (flags % 256) ∷ items_bytes 0 items) (append_assoc (name_bytes region) ((flags % 256) ∷ []) list ∙ ap (λ bs. name_bytes region ++ (flags % 256) ∷ bs) (w h.1)))
  form_is here (Op.Declaration Declaration.IndexField) (tree (Use from index) (tree (Use to register) (tree (Integer flags) no_trees))) body list h w =
      by_items (items_in body) (λ items. IndexField here from index to register flags items) list _ h w (λ items h w.
      packed_is (0x5B ∷ 0x86 ∷ []) (name_bytes index ++ (name_bytes register ++ (flags % 256) ∷ [])) list (name_bytes index ++ (name_bytes register ++ (flags % 256) ∷ items_bytes 0 items)) (append_assoc (name_bytes index) (name_bytes register ++ (flags % 256) ∷ []) list
      ∙ ap (λ bs. name_bytes index ++ bs) (append_assoc (name_bytes register) ((flags % 256) ∷ []) list ∙ ap (λ bs. name_bytes register ++ (flags % 256) ∷ bs) (w h.2))))
  form_is here (Op.Declaration Declaration.BankField) (tree (Use from region) (tree (Use to bank) (tree value (tree (Integer flags) no_trees)))) body list h w =
      by_items (items_in body) (λ items. BankField here from region to bank value flags items) list _ h w (λ items h w.
      let e = encoded style.width style.short value in
      packed_is (0x5B ∷ 0x87 ∷ []) (name_bytes region ++ (name_bytes bank ++ (e ++ (flags % 256) ∷ []))) list (name_bytes region ++ (name_bytes bank ++ (e ++ (flags % 256) ∷ items_bytes 0 items))) (append_assoc (name_bytes region) (name_bytes bank ++ (e ++ (flags % 256) ∷ [])) list
      ∙ ap (λ bs. name_bytes region ++ bs) (append_assoc (name_bytes bank) (e ++ (flags % 256) ∷ []) list
      ∙ ap (λ bs. name_bytes bank ++ bs) (append_assoc e ((flags % 256) ∷ []) list ∙ ap (λ bs. e ++ (flags % 256) ∷ bs) (w h.3)))))
  form_is here (Op.Declaration Declaration.CreateField) (tree source (tree index (tree bits (tree (Use at name) no_trees)))) no_trees list h w =
      plain_is (0x5B ∷ 0x13 ∷ []) _ _ (three_and (encoded style.width style.short source) (encoded style.width style.short index) (encoded style.width style.short bits) (name_bytes name))
  form_is here (Op.Declaration Declaration.CreateBitField) (tree source (tree index (tree (Use at name) no_trees))) no_trees list h w = plain_is (0x8D ∷ []) _ _ (two_and (encoded style.width style.short source) (encoded style.width style.short index) (name_bytes name))
  form_is here (Op.Declaration Declaration.CreateByteField) (tree source (tree index (tree (Use at name) no_trees))) no_trees list h w = plain_is (0x8C ∷ []) _ _ (two_and (encoded style.width style.short source) (encoded style.width style.short index) (name_bytes name))
  form_is here (Op.Declaration Declaration.CreateWordField) (tree source (tree index (tree (Use at name) no_trees))) no_trees list h w = plain_is (0x8B ∷ []) _ _ (two_and (encoded style.width style.short source) (encoded style.width style.short index) (name_bytes name))
  form_is here (Op.Declaration Declaration.CreateDWordField) (tree source (tree index (tree (Use at name) no_trees))) no_trees list h w = plain_is (0x8A ∷ []) _ _ (two_and (encoded style.width style.short source) (encoded style.width style.short index) (name_bytes name))
  form_is here (Op.Declaration Declaration.CreateQWordField) (tree source (tree index (tree (Use at name) no_trees))) no_trees list h w = plain_is (0x8F ∷ []) _ _ (two_and (encoded style.width style.short source) (encoded style.width style.short index) (name_bytes name))
  form_is here (Op.Control Control.Return) (tree value no_trees) no_trees list h w = plain_is (0xA4 ∷ []) _ _ (append-nil (encoded style.width style.short value))
  form_is here (Op.Control Control.If) (tree test no_trees) body list h w = absurd h
  form_is here (Op.Control Control.ElseIf) (tree test no_trees) body list h w = absurd h
  form_is here (Op.Control Control.For) (tree start (tree test (tree step no_trees))) body list h w = absurd h
  form_is here (Op.Control Control.Printf) (tree (String format) args) no_trees list h w = absurd h
  form_is here (Op.Control Control.Fprintf) (tree place (tree (String format) args)) no_trees list h w = absurd h
  form_is here (Op.Control Control.Switch) (tree value no_trees) cases list h w = absurd h
  form_is here (Op.Control Control.Case) (tree value no_trees) body list h w = absurd h
  form_is here (Op.Control Control.Default) no_trees body list h w = absurd h
  form_is here (Op.Control Control.Else) no_trees body list h w = absurd h
  form_is here (Op.Control Control.While) (tree test no_trees) body list h w = absurd h
  form_is here (Op.Control Control.Break) no_trees no_trees list h w = refl
  form_is here (Op.Control Control.Continue) no_trees no_trees list h w = refl
  form_is here (Op.Literal literal) no_trees no_trees list h w = append-nil _ ∙ append-nil _
  form_is here (Op.Plain op) args no_trees list h w = apply_is op args h
  form_is here (Op.Special Special.CondRefOf) (tree place (tree target no_trees)) no_trees list h w = plain_is (0x5B ∷ 0x12 ∷ []) _ _ (ap (λ bs. encoded style.width style.short place ++ bs) (append-nil (encoded style.width style.short target)))
  form_is here (Op.Special Special.Buffer) (tree size no_trees) body list h w = buffer_is size body
  form_is here (Op.Special Special.Package) (tree size no_trees) body list h w = packaged_is size body
  form_is here (Op.Symbolic (Symbolic.Operator op)) args no_trees list h w = absurd (no_symbol op args h)
  form_is here (Op.Symbolic Symbolic.Assign) (tree target (tree value no_trees)) no_trees list h w = absurd h
  form_is here (Op.Symbolic (Symbolic.AssignBy op)) (tree target (tree value no_trees)) no_trees list h w = absurd h
  form_is here _ _ _ list h w = absurd h
