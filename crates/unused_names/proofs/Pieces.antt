-- Mentions that stay.
use Rattle.std.proofs.Common.{◌≡◌, Bool, true, false, List, [], ◌∷◌, ◌++◌, Option, Some, None, refl, sym, ap, ◌∙◌, arith}
use Rattle.std.specs.Prelude.{not, ◌&&◌, is_some, if◌then◌else◌}
use Rattle.acpi_values.specs.Paths.{AbsolutePath, is_same_path}
use Rattle.acpi_state.proofs.Lookups.{is_same_path-true}
use Rattle.acpi_values.specs.Operators.{Letter, Used, row_of}
use Rattle.acpi_state.specs.Objects.{lookup}
use Rattle.acpi_state.specs.Outcomes.{choose}
use Rattle.asl_tree.specs.FieldItems.{FieldItem, UnitItem, SkipItem, OffsetItem, AccessItem, ConnectionItem, ToName, ToBytes}
use Rattle.asl_tree.specs.Names.{declared_path}
use Rattle.asl_tree.specs.Tree.{Tree, Use, Call, Apply, Buffer, Package, VarPackage, CondRefOf, Trees, no_trees, tree, UnitName, Operated, Assigned, AssignedBy}
use Rattle.asl_meaning.specs.Declarations.{ExternalType, Declarations, in_root, with_external}
use Rattle.acpi_names.specs.Errors.{Asked}
use Rattle.acpi_names.specs.Mentions.{Mention, Used', Sought, Called, Declares, Outside, Opens, after, after_all, is_spot, is_use, asks, asked_use, letter_mention, cond_place, mentions, mentions_all, operand_mentions, target_mentions, element_mentions, item_mentions}
use Rattle.unused_names.specs.Unused.{Twin, TwinUse, TwinRegion, TwinSought, TwinCalled, TwinDeclares, TwinOutside, TwinOpens, Stays, Drops, NoMentions, Dropped, Stayed}
use Rattle.unused_names.specs.Left.{MarksItems}

pub same_twin : (m : Mention) → Twin m m
same_twin (Used' asked at name scope) = TwinUse asked at at name scope
same_twin (Sought at name scope) = TwinSought at at name scope
same_twin (Called asked at name args scope) = TwinCalled asked at at name args scope
same_twin (Declares at name as' scope) = TwinDeclares at at name as' scope
same_twin (Outside here at name type scope) = TwinOutside here here at at name type scope
same_twin (Opens here at name scope inner) = TwinOpens here here at at name scope inner

module _ (gone : AbsolutePath → Bool) where
  abbrev pub AllStay : List Mention → Type 0
  AllStay [] = Unit {0}
  AllStay (m ∷ ms) = Stays gone m × AllStay ms

  pub both : (xs ys : List Mention) → AllStay xs → AllStay ys → AllStay (xs ++ ys)
  both [] ys h k = k
  both (x ∷ xs) ys h k = (h.0, both xs ys h.1 k)

  pub drops_same : (ms : List Mention) → AllStay ms → Drops gone ms ms
  drops_same [] h = NoMentions
  drops_same (m ∷ ms) h = Stayed (same_twin m) h.0 (drops_same ms h.1)

  pub drops_both : {xs xs' ys ys' : List Mention} → Drops gone xs xs' → Drops gone ys ys' → Drops gone (xs ++ ys) (xs' ++ ys')
  drops_both NoMentions k = k
  drops_both (Dropped at name as' scope e h) k = Dropped at name as' scope e (drops_both h k)
  drops_both (Stayed twin stays h) k = Stayed twin stays (drops_both h k)

  abbrev pub Outer : Declarations → Type 0
  Outer d = (p : AbsolutePath) → gone p ≡ true → (is_some (lookup d.external p) ≡ false) × (in_root p ≡ false)

  other : (path p : AbsolutePath) (b : Bool) → gone path ≡ false → gone p ≡ true → is_same_path path p ≡ b → b ≡ false
  other path p false h k e = refl
  other path p true h k e = absurd (let x = sym k ∙ ap gone (sym (is_same_path-true path p e)) ∙ h in grind arith)

  outside_kept : (b : Bool) (path : AbsolutePath) (type : ExternalType) (d : Declarations) → gone path ≡ false → Outer d → Outer (with_external b path type d)
  outside_kept true path type d h outer p k = outer p k
  outside_kept false path type d h outer p k = (by_first (lookup d.external path), (outer p k).1)
    where
      by_first : (o : Option ExternalType) → is_some (lookup (choose o ((path, type) ∷ d.external) (λ first. d.external)) p) ≡ false
      by_first None = ap (λ c. is_some (if c then Some type else lookup d.external p)) (other path p (is_same_path path p) h k refl) ∙ (outer p k).0
      by_first (Some first) = (outer p k).0

  outer_twin : {m other : Mention} → Twin m other → Stays gone m → (d : Declarations) → Outer d → Outer (after m d)
  outer_twin (TwinUse asked at to name scope) stays d outer = outer
  outer_twin (TwinRegion field other at to name scope) stays d outer = outer
  outer_twin (TwinSought at to name scope) stays d outer = outer
  outer_twin (TwinCalled asked at to name args scope) stays d outer = outer
  outer_twin (TwinDeclares at to name as' scope) stays d outer = outer
  outer_twin (TwinOutside here there at to name type scope) stays d outer = outside_kept (in_root (declared_path name scope)) (declared_path name scope) type d stays outer
  outer_twin (TwinOpens here there at to name scope inner) stays d outer = outer

  pub outer_after : {ms others : List Mention} → Drops gone ms others → (d : Declarations) → Outer d → Outer (after_all ms d)
  outer_after NoMentions d outer = outer
  outer_after (Dropped at name as' scope e h) d outer = outer_after h _ outer
  outer_after (Stayed twin stays h) d outer = outer_after h _ (outer_twin twin stays d outer)

  -- ---- an expression declares nothing

  sought_stay : (t : Tree) (ms : List Mention) (scope : AbsolutePath) → AllStay ms → AllStay (cond_place t ms scope)
  sought_stay (Use at name) ms scope h = (tt, tt)
  sought_stay t ms scope h = h

  letter_stay : (letter : Letter) (uses : Asked) (t : Tree) (ms : List Mention) (scope : AbsolutePath) → AllStay ms → AllStay (letter_mention letter uses t ms scope)
  letter_stay Used uses (Use at name) ms scope h = (tt, tt)
  letter_stay letter uses t ms scope h = h

  mutual
    pub value_stays : (asked : Bool) (t : Tree) (scope : AbsolutePath) → AllStay (mentions asked t scope)
    value_stays asked (Use at name) scope = (tt, tt)
    value_stays asked (Call at name args) scope = (tt, values_stay asked args scope)
    value_stays asked (Apply op args targets) scope =
        both (operand_mentions asked (asked_use asked op) (row_of op).operands args scope) (target_mentions asked targets scope) (operands_stay asked (asked_use asked op) (row_of op).operands args scope) (targets_stay asked targets scope)
    value_stays asked (Operated op args) scope = operands_stay asked (asked_use asked op) (row_of op).operands args scope
    value_stays asked (Assigned target value) scope =
        both (mentions asked value scope) (mentions (asked && is_spot target) target scope) (value_stays asked value scope) (value_stays (asked && is_spot target) target scope)
    value_stays asked (AssignedBy op target value) scope = both (mentions asked target scope) (mentions asked value scope) (value_stays asked target scope) (value_stays asked value scope)
    value_stays asked (Buffer size bytes) scope = value_stays asked size scope
    value_stays asked (Package n elements) scope = elements_stay asked elements scope
    value_stays asked (VarPackage size elements) scope = both (mentions asked size scope) (element_mentions asked elements scope) (value_stays asked size scope) (elements_stay asked elements scope)
    value_stays asked (CondRefOf place target) scope =
        both (cond_place place (mentions (asked && is_spot place) place scope) scope) (mentions (asked && is_spot target) target scope) (sought_stay place _ scope (value_stays (asked && is_spot place) place scope)) (value_stays (asked && is_spot target) target scope)
    value_stays asked _ scope = tt

    pub values_stay : (asked : Bool) (ts : Trees) (scope : AbsolutePath) → AllStay (mentions_all asked ts scope)
    values_stay asked no_trees scope = tt
    values_stay asked (tree t ts) scope = both (mentions asked t scope) (mentions_all asked ts scope) (value_stays asked t scope) (values_stay asked ts scope)

    pub operands_stay : (asked : Bool) (uses : Asked) (letters : List Letter) (ts : Trees) (scope : AbsolutePath) → AllStay (operand_mentions asked uses letters ts scope)
    operands_stay asked uses letters no_trees scope = tt
    operands_stay asked uses [] (tree t ts) scope = both (mentions false t scope) (operand_mentions asked uses [] ts scope) (value_stays false t scope) (operands_stay asked uses [] ts scope)
    operands_stay asked uses (letter ∷ letters) (tree t ts) scope =
        let ms = mentions (asked && asks letter t) t scope in
        both (letter_mention letter uses t ms scope) (operand_mentions asked uses letters ts scope) (letter_stay letter uses t ms scope (value_stays (asked && asks letter t) t scope)) (operands_stay asked uses letters ts scope)

    targets_stay : (asked : Bool) (ts : Trees) (scope : AbsolutePath) → AllStay (target_mentions asked ts scope)
    targets_stay asked no_trees scope = tt
    targets_stay asked (tree t ts) scope = both (mentions (asked && is_spot t) t scope) (target_mentions asked ts scope) (value_stays (asked && is_spot t) t scope) (targets_stay asked ts scope)

    elements_stay : (asked : Bool) (ts : Trees) (scope : AbsolutePath) → AllStay (element_mentions asked ts scope)
    elements_stay asked no_trees scope = tt
    elements_stay asked (tree t ts) scope = both (mentions (asked && not (is_use t)) t scope) (element_mentions asked ts scope) (value_stays (asked && not (is_use t)) t scope) (elements_stay asked ts scope)

  pub units_stay : (items : List (FieldItem UnitName)) (scope : AbsolutePath) → MarksItems gone items scope → AllStay (item_mentions items scope)
  units_stay [] scope h = tt
  units_stay (UnitItem name bits ∷ items) scope h = (h.0, units_stay items scope h.1)
  units_stay (SkipItem bits ∷ items) scope h = units_stay items scope h
  units_stay (OffsetItem bytes ∷ items) scope h = units_stay items scope h
  units_stay (AccessItem access attribute length ∷ items) scope h = units_stay items scope h
  units_stay (ConnectionItem (ToName at name) ∷ items) scope h = (tt, units_stay items scope h)
  units_stay (ConnectionItem (ToBytes bytes) ∷ items) scope h = units_stay items scope h
