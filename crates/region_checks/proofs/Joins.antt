-- The mentions of a block, with what its regions and fields say, are its sites.
use Rattle.std.proofs.Common.{◌≡◌, Bool, true, false, List, [], ◌∷◌, ◌++◌, refl, sym, ap, ◌∙◌, append_assoc}
use Rattle.std.specs.Prelude.{◌&&◌, not}
use Rattle.acpi_values.specs.Paths.{AbsolutePath}
use Rattle.acpi_values.specs.Operators.{Letter, Used, row_of}
use Rattle.acpi_values.specs.declared.operator.Plain.{Plain}
use Rattle.acpi_values.specs.declared.operator.EventOp.TheVariants as EventOp
use Rattle.acpi_state.specs.FieldActs.{region_letters, field_letters}
use Rattle.acpi_values.specs.declared.width.Width.{Width}
use Rattle.asl_tree.specs.declared.path.Path.{Path}
use Rattle.asl_tree.specs.FieldItems.{FieldItem, UnitItem, SkipItem, OffsetItem, AccessItem, ConnectionItem, ToName, ToBytes}
use Rattle.asl_tree.specs.Names.{declared_path}
use Rattle.asl_tree.specs.Tree.{At, Tree, Use, Call, Apply, Buffer, Package, VarPackage, CondRefOf, Return, Name, Alias, External, Method, Mutex, Event, Container', Scope, Trees, no_trees, tree, OperationRegion, Field, IndexField, BankField, CreateField, UnitName, If, ElseIf, Else, While, For, Print, Operated, Assigned, AssignedBy, Switch, Case, Default}
use Rattle.asl_meaning.specs.Declarations.{Declarations, scope_path, declare}
use Rattle.acpi_names.specs.Errors.{Asked, Anything, AnObject, AValue, AMutex, AnEvent, AUnit, ARegion, asked_by}
use Rattle.acpi_names.specs.Mentions.{Mention, Used', is_spot, is_use, asks, asked_value, asked_use, letter_mention, cond_place, mentions, mentions_all, operand_mentions, target_mentions, element_mentions, item_mentions, term_mentions, block_mentions}
use Rattle.term_plans.specs.Plans.{Plan, Plans, plan_at}
use Rattle.region_checks.specs.declared.measure.Extent.{Extent}
use Rattle.region_checks.specs.Sites.{Site, RegionAt, FieldIn, body_of, rest_of, region_size, field_access, field_units, sites, sites_all}
use Rattle.region_checks.specs.Measures.{measures, measures_all, joined}
use Rattle.region_checks.proofs.Units.{same_units}

-- whatever comes behind
abbrev Joins : List Mention → List Extent → List Site → Type 0
Joins ms ps ss = (more : List Mention) (mores : List Extent) → joined (ms ++ more) (ps ++ mores) ≡ ss ++ joined more mores

join_both : (a b : List Mention) (p q : List Extent) (s t : List Site) → Joins a p s → Joins b q t → Joins (a ++ b) (p ++ q) (s ++ t)
join_both a b p q s t h k more mores =
    ap (λ ms. joined ms ((p ++ q) ++ mores)) (append_assoc a b more) ∙ ap (joined (a ++ (b ++ more))) (append_assoc p q mores)
    ∙ h (b ++ more) (q ++ mores) ∙ ap (λ x. s ++ x) (k more mores) ∙ sym (append_assoc s t (joined more mores))

both : (a b : List Mention) → Joins a [] [] → Joins b [] [] → Joins (a ++ b) [] []
both a b h k = join_both a b [] [] [] [] h k

-- what asks for no region
abbrev asks_region : Asked → Bool
asks_region (ARegion field) = true
asks_region _ = false

plain_use : (asked : Asked) (at : At) (name : Path) (scope : AbsolutePath) → asks_region asked ≡ false → Joins (Used' asked at name scope ∷ []) [] []
plain_use Anything at name scope h more mores = refl
plain_use AnObject at name scope h more mores = refl
plain_use AValue at name scope h more mores = refl
plain_use AMutex at name scope h more mores = refl
plain_use AnEvent at name scope h more mores = refl
plain_use AUnit at name scope h more mores = refl
plain_use (ARegion field) at name scope h more mores = absurd cc

plain_value : (asked : Bool) → asks_region (asked_value asked) ≡ false
plain_value true = refl
plain_value false = refl

plain_by : (op : Plain) → asks_region (asked_by op) ≡ false
plain_by (Plain.Event EventOp.Acquire) = refl
plain_by (Plain.Event EventOp.Release) = refl
plain_by (Plain.Event EventOp.Wait) = refl
plain_by (Plain.Event EventOp.Signal) = refl
plain_by (Plain.Event EventOp.Reset) = refl
plain_by op = refl

plain_operator : (asked : Bool) (op : Plain) → asks_region (asked_use asked op) ≡ false
plain_operator true op = plain_by op
plain_operator false op = refl

cond_quiet : (t : Tree) (ms : List Mention) (scope : AbsolutePath) → Joins ms [] [] → Joins (cond_place t ms scope) [] []
cond_quiet (Use at name) ms scope h = λ more mores. refl
cond_quiet t ms scope h = h

letter_quiet : (letter : Letter) (uses : Asked) (t : Tree) (ms : List Mention) (scope : AbsolutePath) → asks_region uses ≡ false → Joins ms [] [] → Joins (letter_mention letter uses t ms scope) [] []
letter_quiet Used uses (Use at name) ms scope plain h = plain_use uses at name scope plain
letter_quiet letter uses t ms scope plain h = h

-- an expression has no site
mutual
  quiet : (asked : Bool) (t : Tree) (scope : AbsolutePath) → Joins (mentions asked t scope) [] []
  quiet asked (Use at name) scope = plain_use (asked_value asked) at name scope (plain_value asked)
  quiet asked (Call at name args) scope = quiet_all asked args scope
  quiet asked (Apply op args targets) scope =
      both (operand_mentions asked (asked_use asked op) (row_of op).operands args scope) (target_mentions asked targets scope) (quiet_operands asked (asked_use asked op) (row_of op).operands args scope (plain_operator asked op)) (quiet_targets asked targets scope)
  quiet asked (Operated op args) scope = quiet_operands asked (asked_use asked op) (row_of op).operands args scope (plain_operator asked op)
  quiet asked (Assigned target value) scope =
      both (mentions asked value scope) (mentions (asked && is_spot target) target scope) (quiet asked value scope) (quiet (asked && is_spot target) target scope)
  quiet asked (AssignedBy op target value) scope = both (mentions asked target scope) (mentions asked value scope) (quiet asked target scope) (quiet asked value scope)
  quiet asked (Buffer size bytes) scope = quiet asked size scope
  quiet asked (Package n elements) scope = quiet_elements asked elements scope
  quiet asked (VarPackage size elements) scope = both (mentions asked size scope) (element_mentions asked elements scope) (quiet asked size scope) (quiet_elements asked elements scope)
  quiet asked (CondRefOf place target) scope =
      both (cond_place place (mentions (asked && is_spot place) place scope) scope) (mentions (asked && is_spot target) target scope) (cond_quiet place (mentions (asked && is_spot place) place scope) scope (quiet (asked && is_spot place) place scope)) (quiet (asked && is_spot target) target scope)
  quiet asked _ scope = λ more mores. refl

  quiet_all : (asked : Bool) (ts : Trees) (scope : AbsolutePath) → Joins (mentions_all asked ts scope) [] []
  quiet_all asked no_trees scope = λ more mores. refl
  quiet_all asked (tree t ts) scope = both (mentions asked t scope) (mentions_all asked ts scope) (quiet asked t scope) (quiet_all asked ts scope)

  quiet_operands : (asked : Bool) (uses : Asked) (letters : List Letter) (ts : Trees) (scope : AbsolutePath) → asks_region uses ≡ false → Joins (operand_mentions asked uses letters ts scope) [] []
  quiet_operands asked uses letters no_trees scope plain = λ more mores. refl
  quiet_operands asked uses [] (tree t ts) scope plain = both (mentions false t scope) (operand_mentions asked uses [] ts scope) (quiet false t scope) (quiet_operands asked uses [] ts scope plain)
  quiet_operands asked uses (letter ∷ letters) (tree t ts) scope plain =
      let ms = mentions (asked && asks letter t) t scope in
      both (letter_mention letter uses t ms scope) (operand_mentions asked uses letters ts scope) (letter_quiet letter uses t ms scope plain (quiet (asked && asks letter t) t scope)) (quiet_operands asked uses letters ts scope plain)

  quiet_targets : (asked : Bool) (ts : Trees) (scope : AbsolutePath) → Joins (target_mentions asked ts scope) [] []
  quiet_targets asked no_trees scope = λ more mores. refl
  quiet_targets asked (tree t ts) scope = both (mentions (asked && is_spot t) t scope) (target_mentions asked ts scope) (quiet (asked && is_spot t) t scope) (quiet_targets asked ts scope)

  quiet_elements : (asked : Bool) (ts : Trees) (scope : AbsolutePath) → Joins (element_mentions asked ts scope) [] []
  quiet_elements asked no_trees scope = λ more mores. refl
  quiet_elements asked (tree t ts) scope =
      both (mentions (asked && not (is_use t)) t scope) (element_mentions asked ts scope) (quiet (asked && not (is_use t)) t scope) (quiet_elements asked ts scope)

quiet_items : (items : List (FieldItem UnitName)) (scope : AbsolutePath) → Joins (item_mentions items scope) [] []
quiet_items [] scope = λ more mores. refl
quiet_items (UnitItem name bits ∷ items) scope = quiet_items items scope
quiet_items (SkipItem bits ∷ items) scope = quiet_items items scope
quiet_items (OffsetItem bytes ∷ items) scope = quiet_items items scope
quiet_items (AccessItem access attribute length ∷ items) scope = quiet_items items scope
quiet_items (ConnectionItem (ToName at name) ∷ items) scope = both (Used' AnObject at name scope ∷ []) (item_mentions items scope) (plain_use AnObject at name scope refl) (quiet_items items scope)
quiet_items (ConnectionItem (ToBytes bytes) ∷ items) scope = quiet_items items scope

pub right_nil : {A : Type 0} (xs : List A) → xs ++ [] ≡ xs
right_nil [] = refl
right_nil (x ∷ xs) = ap (λ ys. x ∷ ys) (right_nil xs)

first_empty : {A : Type 0} (xs ys : List A) → xs ++ ys ≡ [] → xs ≡ []
first_empty [] ys e = refl
first_empty (x ∷ xs) ys e = absurd cc

second_empty : {A : Type 0} (xs ys : List A) → xs ++ ys ≡ [] → ys ≡ []
second_empty [] ys e = e
second_empty (x ∷ xs) ys e = absurd cc

module _ (width : Width) where
  mutual
    join_term : (t : Tree) (p : Plan) (scope : AbsolutePath) (d : Declarations) → Joins (term_mentions t scope d) (measures width t p) (sites width t p scope d)
    join_term (Return value) p scope d = quiet true value scope
    join_term (Name at name value) p scope d = quiet true value scope
    join_term (Alias from source at name) p scope d = λ more mores. refl
    join_term (External here at name type parameters) p scope d = λ more mores. refl
    join_term (Method at name flags body) p scope d = join_block body (body_of p) (declared_path name scope) _
    join_term (Mutex at name level) p scope d = λ more mores. refl
    join_term (Event at name) p scope d = λ more mores. refl
    join_term (Container' kind at name body) p scope d = join_block body (body_of p) (declared_path name scope) _
    join_term (Scope here at name body) p scope d = join_block body (body_of p) (scope_path d name scope) d
    join_term (If test body) p scope d =
        join_both (mentions true test scope) (block_mentions body scope d) [] (measures_all width body (body_of p)) [] (sites_all width body (body_of p) scope d) (quiet true test scope) (join_block body (body_of p) scope d)
    join_term (ElseIf test body) p scope d =
        join_both (mentions true test scope) (block_mentions body scope d) [] (measures_all width body (body_of p)) [] (sites_all width body (body_of p) scope d) (quiet true test scope) (join_block body (body_of p) scope d)
    join_term (Else body) p scope d = join_block body (body_of p) scope d
    join_term (While test body) p scope d =
        join_both (mentions true test scope) (block_mentions body scope d) [] (measures_all width body (body_of p)) [] (sites_all width body (body_of p) scope d) (quiet true test scope) (join_block body (body_of p) scope d)
    join_term (For start test step body) p scope d =
        join_both (mentions true start scope) (mentions true test scope ++ (mentions true step scope ++ block_mentions body scope d)) [] (measures_all width body (body_of p)) [] (sites_all width body (body_of p) scope d) (quiet true start scope)
        (join_both (mentions true test scope) (mentions true step scope ++ block_mentions body scope d) [] (measures_all width body (body_of p)) [] (sites_all width body (body_of p) scope d) (quiet true test scope)
        (join_both (mentions true step scope) (block_mentions body scope d) [] (measures_all width body (body_of p)) [] (sites_all width body (body_of p) scope d) (quiet true step scope) (join_block body (body_of p) scope d)))
    join_term (Print place format args) p scope d =
        join_both (mentions (is_spot place) place scope) (mentions_all true args scope) [] [] [] [] (quiet (is_spot place) place scope) (quiet_all true args scope)
    join_term (Switch value cases) p scope d =
        join_both (mentions true value scope) (block_mentions cases scope d) [] (measures_all width cases (body_of p)) [] (sites_all width cases (body_of p) scope d) (quiet true value scope) (join_block cases (body_of p) scope d)
    join_term (Case value body) p scope d =
        join_both (mentions true value scope) (block_mentions body scope d) [] (measures_all width body (body_of p)) [] (sites_all width body (body_of p) scope d) (quiet true value scope) (join_block body (body_of p) scope d)
    join_term (Default body) p scope d = join_block body (body_of p) scope d
    join_term (OperationRegion at name space args) p scope d =
        λ more mores. ap (λ ss. RegionAt (declared_path name scope) (region_size width p) ∷ ss) (quiet_operands true Anything region_letters args scope refl more mores)
    join_term (Field here from region flags items) p scope d =
        λ more mores. ap (λ u. FieldIn here region scope (field_access flags p) u ∷ joined (item_mentions items scope ++ more) mores) (same_units flags p)
        ∙ ap (λ ss. FieldIn here region scope (field_access flags p) (field_units flags p) ∷ ss) (quiet_items items scope more mores)
    join_term (IndexField here from index to register flags items) p scope d = quiet_items items scope
    join_term (BankField here from region to bank value flags items) p scope d =
        λ more mores. ap (λ u. FieldIn here region scope (field_access flags p) u ∷ joined ((mentions true value scope ++ item_mentions items scope) ++ more) mores) (same_units flags p)
        ∙ ap (λ ss. FieldIn here region scope (field_access flags p) (field_units flags p) ∷ ss) (both (mentions true value scope) (item_mentions items scope) (quiet true value scope) (quiet_items items scope) more mores)
    join_term (CreateField form args at name) p scope d =
        both (operand_mentions true Anything (field_letters form) args scope) _ (quiet_operands true Anything (field_letters form) args scope refl) (λ more mores. refl)
    join_term t p scope d = quiet true t scope

    join_block : (ts : Trees) (ps : Plans) (scope : AbsolutePath) (d : Declarations) → Joins (block_mentions ts scope d) (measures_all width ts ps) (sites_all width ts ps scope d)
    join_block no_trees ps scope d = λ more mores. refl
    join_block (tree t ts) ps scope d =
        join_both (term_mentions t scope d) (block_mentions ts scope (declare t scope d)) (measures width t (plan_at ps 0)) (measures_all width ts (rest_of ps)) (sites width t (plan_at ps 0) scope d) (sites_all width ts (rest_of ps) scope (declare t scope d)) (join_term t (plan_at ps 0) scope d) (join_block ts (rest_of ps) scope (declare t scope d))

  pub sites_joined : (ts : Trees) (ps : Plans) (scope : AbsolutePath) (d : Declarations) → joined (block_mentions ts scope d) (measures_all width ts ps) ≡ sites_all width ts ps scope d
  sites_joined ts ps scope d =
      ap (λ ms. joined ms (measures_all width ts ps)) (sym (right_nil (block_mentions ts scope d))) ∙ ap (joined (block_mentions ts scope d ++ [])) (sym (right_nil (measures_all width ts ps)))
      ∙ join_block ts ps scope d [] [] ∙ right_nil (sites_all width ts ps scope d)

  -- where nothing is said there are no sites
  mutual
    no_site : (t : Tree) (p : Plan) (scope : AbsolutePath) (d : Declarations) → measures width t p ≡ [] → sites width t p scope d ≡ []
    no_site (OperationRegion at name space args) p scope d e = absurd cc
    no_site (Field here from region flags items) p scope d e = absurd cc
    no_site (BankField here from region to bank value flags items) p scope d e = absurd cc
    no_site (Method at name flags body) p scope d e = no_sites body (body_of p) (declared_path name scope) _ e
    no_site (Container' kind at name body) p scope d e = no_sites body (body_of p) (declared_path name scope) _ e
    no_site (Scope here at name body) p scope d e = no_sites body (body_of p) (scope_path d name scope) d e
    no_site (If test body) p scope d e = no_sites body (body_of p) scope d e
    no_site (ElseIf test body) p scope d e = no_sites body (body_of p) scope d e
    no_site (Else body) p scope d e = no_sites body (body_of p) scope d e
    no_site (While test body) p scope d e = no_sites body (body_of p) scope d e
    no_site (For start test step body) p scope d e = no_sites body (body_of p) scope d e
    no_site (Switch value cases) p scope d e = no_sites cases (body_of p) scope d e
    no_site (Case value body) p scope d e = no_sites body (body_of p) scope d e
    no_site (Default body) p scope d e = no_sites body (body_of p) scope d e
    no_site t p scope d e = refl

    pub no_sites : (ts : Trees) (ps : Plans) (scope : AbsolutePath) (d : Declarations) → measures_all width ts ps ≡ [] → sites_all width ts ps scope d ≡ []
    no_sites no_trees ps scope d e = refl
    no_sites (tree t ts) ps scope d e =
        let here = no_site t (plan_at ps 0) scope d (first_empty (measures width t (plan_at ps 0)) (measures_all width ts (rest_of ps)) e) in
        let rest = no_sites ts (rest_of ps) scope (declare t scope d) (second_empty (measures width t (plan_at ps 0)) (measures_all width ts (rest_of ps)) e) in
        ap (λ xs. xs ++ sites_all width ts (rest_of ps) scope (declare t scope d)) here ∙ rest
