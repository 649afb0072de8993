-- What a block declares, its calls, and the errors of its names are those of its mentions.
use Rattle.std.proofs.Common.{◌≡◌, Bool, true, false, List, [], ◌∷◌, ◌++◌, refl, ap, ◌∙◌, arith}
use Rattle.std.specs.Prelude.{◌&&◌, not}
use Rattle.acpi_values.specs.Paths.{AbsolutePath}
use Rattle.acpi_values.specs.Operators.{Letter, Used, row_of}
use Rattle.acpi_state.specs.FieldActs.{region_letters, field_letters}
use Rattle.asl_tree.specs.FieldItems.{FieldItem, UnitItem, SkipItem, OffsetItem, AccessItem, ConnectionItem, ToName, ToBytes}
use Rattle.asl_tree.specs.Names.{declared_path}
use Rattle.asl_tree.specs.Tree.{Tree, Use, Call, Apply, Buffer, Package, VarPackage, CondRefOf, Return, Name, Alias, External, Method, Mutex, Event, Container', Scope, Trees, no_trees, tree, OperationRegion, Field, IndexField, BankField, CreateField, UnitName, If, ElseIf, Else, While, For, Print, Operated, Assigned, AssignedBy, Switch, Case, Default}
use Rattle.asl_meaning.specs.Declarations.{Declarations, scope_path, declare, declare_all, declare_items}
use Rattle.acpi_names.specs.Errors.{Asked, Anything}
use Rattle.acpi_names.specs.Mentions.{Mention, Declares, is_spot, is_use, asks, asked_use, letter_mention, cond_place, mentions, mentions_all, operand_mentions, target_mentions, element_mentions, item_mentions, term_mentions, block_mentions, after, after_all}

pub right_nil : {A : Type 0} (xs : List A) → xs ++ [] ≡ xs
right_nil [] = refl
right_nil (x ∷ xs) = ap (λ ys. x ∷ ys) (right_nil xs)

pub first_true : (a b : Bool) → (a && b) ≡ true → a ≡ true
first_true true b h = refl
first_true false b h = absurd (grind arith)

pub second_true : (a b : Bool) → (a && b) ≡ true → b ≡ true
second_true true b h = h
second_true false b h = absurd (grind arith)

pub after_append : (a b : List Mention) (d : Declarations) → after_all (a ++ b) d ≡ after_all b (after_all a d)
after_append [] b d = refl
after_append (m ∷ a) b d = after_append a b (after m d)

after_both : (a b : List Mention) (d : Declarations) → after_all a d ≡ d → after_all b d ≡ d → after_all (a ++ b) d ≡ d
after_both a b d h k = after_append a b d ∙ ap (after_all b) h ∙ k

pub cond_quiet : (t : Tree) (ms : List Mention) (scope : AbsolutePath) (d : Declarations) → after_all ms d ≡ d → after_all (cond_place t ms scope) d ≡ d
cond_quiet (Use at name) ms scope d h = refl
cond_quiet t ms scope d h = h

pub letter_quiet : (letter : Letter) (uses : Asked) (t : Tree) (ms : List Mention) (scope : AbsolutePath) (d : Declarations) → after_all ms d ≡ d → after_all (letter_mention letter uses t ms scope) d ≡ d
letter_quiet Used uses (Use at name) ms scope d h = refl
letter_quiet letter uses t ms scope d h = h

-- an expression declares nothing
mutual
  pub quiet : (asked : Bool) (t : Tree) (scope : AbsolutePath) (d : Declarations) → after_all (mentions asked t scope) d ≡ d
  quiet asked (Use at name) scope d = refl
  quiet asked (Call at name args) scope d = quiet_all asked args scope d
  quiet asked (Apply op args targets) scope d =
      after_both (operand_mentions asked (asked_use asked op) (row_of op).operands args scope) (target_mentions asked targets scope) d (quiet_operands asked (asked_use asked op) (row_of op).operands args scope d) (quiet_targets asked targets scope d)
  quiet asked (Operated op args) scope d = quiet_operands asked (asked_use asked op) (row_of op).operands args scope d
  quiet asked (Assigned target value) scope d =
      after_both (mentions asked value scope) (mentions (asked && is_spot target) target scope) d (quiet asked value scope d) (quiet (asked && is_spot target) target scope d)
  quiet asked (AssignedBy op target value) scope d =
      after_both (mentions asked target scope) (mentions asked value scope) d (quiet asked target scope d) (quiet asked value scope d)
  quiet asked (Buffer size bytes) scope d = quiet asked size scope d
  quiet asked (Package n elements) scope d = quiet_elements asked elements scope d
  quiet asked (VarPackage size elements) scope d =
      after_both (mentions asked size scope) (element_mentions asked elements scope) d (quiet asked size scope d) (quiet_elements asked elements scope d)
  quiet asked (CondRefOf place target) scope d =
      after_both (cond_place place (mentions (asked && is_spot place) place scope) scope) (mentions (asked && is_spot target) target scope) d (cond_quiet place _ scope d (quiet (asked && is_spot place) place scope d)) (quiet (asked && is_spot target) target scope d)
  quiet asked _ scope d = refl

  pub quiet_all : (asked : Bool) (ts : Trees) (scope : AbsolutePath) (d : Declarations) → after_all (mentions_all asked ts scope) d ≡ d
  quiet_all asked no_trees scope d = refl
  quiet_all asked (tree t ts) scope d = after_both (mentions asked t scope) (mentions_all asked ts scope) d (quiet asked t scope d) (quiet_all asked ts scope d)

  pub quiet_operands : (asked : Bool) (uses : Asked) (letters : List Letter) (ts : Trees) (scope : AbsolutePath) (d : Declarations) → after_all (operand_mentions asked uses letters ts scope) d ≡ d
  quiet_operands asked uses letters no_trees scope d = refl
  quiet_operands asked uses [] (tree t ts) scope d = after_both (mentions false t scope) (operand_mentions asked uses [] ts scope) d (quiet false t scope d) (quiet_operands asked uses [] ts scope d)
  quiet_operands asked uses (letter ∷ letters) (tree t ts) scope d =
      let ms = mentions (asked && asks letter t) t scope in
      after_both (letter_mention letter uses t ms scope) (operand_mentions asked uses letters ts scope) d (letter_quiet letter uses t ms scope d (quiet (asked && asks letter t) t scope d)) (quiet_operands asked uses letters ts scope d)

  pub quiet_targets : (asked : Bool) (ts : Trees) (scope : AbsolutePath) (d : Declarations) → after_all (target_mentions asked ts scope) d ≡ d
  quiet_targets asked no_trees scope d = refl
  quiet_targets asked (tree t ts) scope d =
      after_both (mentions (asked && is_spot t) t scope) (target_mentions asked ts scope) d (quiet (asked && is_spot t) t scope d) (quiet_targets asked ts scope d)

  pub quiet_elements : (asked : Bool) (ts : Trees) (scope : AbsolutePath) (d : Declarations) → after_all (element_mentions asked ts scope) d ≡ d
  quiet_elements asked no_trees scope d = refl
  quiet_elements asked (tree t ts) scope d =
      after_both (mentions (asked && not (is_use t)) t scope) (element_mentions asked ts scope) d (quiet (asked && not (is_use t)) t scope d) (quiet_elements asked ts scope d)

after_items : (items : List (FieldItem UnitName)) (scope : AbsolutePath) (d : Declarations) → after_all (item_mentions items scope) d ≡ declare_items items scope d
after_items [] scope d = refl
after_items (UnitItem name bits ∷ items) scope d = after_items items scope _
after_items (SkipItem bits ∷ items) scope d = after_items items scope d
after_items (OffsetItem bytes ∷ items) scope d = after_items items scope d
after_items (AccessItem access attribute length ∷ items) scope d = after_items items scope d
after_items (ConnectionItem (ToName at name) ∷ items) scope d = after_items items scope d
after_items (ConnectionItem (ToBytes bytes) ∷ items) scope d = after_items items scope d

-- what a term declares
mutual
  pub after_term : (t : Tree) (scope : AbsolutePath) (d : Declarations) → after_all (term_mentions t scope d) d ≡ declare t scope d
  after_term (Return value) scope d = quiet true value scope d
  after_term (Name at name value) scope d = quiet true value scope _
  after_term (Alias from source at name) scope d = refl
  after_term (External here at name type parameters) scope d = refl
  after_term (Method at name flags body) scope d = after_block body (declared_path name scope) _
  after_term (Mutex at name level) scope d = refl
  after_term (Event at name) scope d = refl
  after_term (Container' kind at name body) scope d = after_block body (declared_path name scope) _
  after_term (Scope here at name body) scope d = after_block body (scope_path d name scope) d
  after_term (If test body) scope d =
      after_append (mentions true test scope) (block_mentions body scope d) d ∙ ap (after_all (block_mentions body scope d)) (quiet true test scope d) ∙ after_block body scope d
  after_term (ElseIf test body) scope d =
      after_append (mentions true test scope) (block_mentions body scope d) d ∙ ap (after_all (block_mentions body scope d)) (quiet true test scope d) ∙ after_block body scope d
  after_term (Else body) scope d = after_block body scope d
  after_term (While test body) scope d =
      after_append (mentions true test scope) (block_mentions body scope d) d ∙ ap (after_all (block_mentions body scope d)) (quiet true test scope d) ∙ after_block body scope d
  after_term (For start test step body) scope d =
      let last = mentions true step scope ++ block_mentions body scope d in
      let later = mentions true test scope ++ last in
      after_append (mentions true start scope) later d ∙ ap (after_all later) (quiet true start scope d)
      ∙ after_append (mentions true test scope) last d ∙ ap (after_all last) (quiet true test scope d)
      ∙ after_append (mentions true step scope) (block_mentions body scope d) d ∙ ap (after_all (block_mentions body scope d)) (quiet true step scope d) ∙ after_block body scope d
  after_term (Print place format args) scope d =
      after_both (mentions (is_spot place) place scope) (mentions_all true args scope) d (quiet (is_spot place) place scope d) (quiet_all true args scope d)
  after_term (Switch value cases) scope d =
      after_append (mentions true value scope) (block_mentions cases scope d) d ∙ ap (after_all (block_mentions cases scope d)) (quiet true value scope d) ∙ after_block cases scope d
  after_term (Case value body) scope d =
      after_append (mentions true value scope) (block_mentions body scope d) d ∙ ap (after_all (block_mentions body scope d)) (quiet true value scope d) ∙ after_block body scope d
  after_term (Default body) scope d = after_block body scope d
  after_term (OperationRegion at name space args) scope d = quiet_operands true Anything region_letters args scope _
  after_term (Field here from region flags items) scope d = after_items items scope d
  after_term (IndexField here from index to register flags items) scope d = after_items items scope d
  after_term (BankField here from region to bank value flags items) scope d =
      after_append (mentions true value scope) (item_mentions items scope) d ∙ ap (after_all (item_mentions items scope)) (quiet true value scope d) ∙ after_items items scope d
  after_term (CreateField form args at name) scope d =
      after_append (operand_mentions true Anything (field_letters form) args scope) _ d ∙ ap (after_all (Declares at name _ scope ∷ [])) (quiet_operands true Anything (field_letters form) args scope d)
  after_term t scope d = quiet true t scope d

  pub after_block : (ts : Trees) (scope : AbsolutePath) (d : Declarations) → after_all (block_mentions ts scope d) d ≡ declare_all ts scope d
  after_block no_trees scope d = refl
  after_block (tree t ts) scope d =
      after_append (term_mentions t scope d) (block_mentions ts scope (declare t scope d)) d
      ∙ ap (after_all (block_mentions ts scope (declare t scope d))) (after_term t scope d)
      ∙ after_block ts scope (declare t scope d)
