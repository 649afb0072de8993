-- A program without errors of names declares nothing else at the paths of its descriptors.
use Rattle.std.proofs.Common.{◌≡◌, Bool, true, false, List, [], ◌∷◌, ◌++◌, refl, sym, ap, ◌∙◌, arith}
use Rattle.std.specs.Prelude.{◌||◌, not, if◌then◌else◌, is_some}
use Rattle.acpi_values.specs.Paths.{AbsolutePath, is_same_path}
use Rattle.acpi_state.specs.Objects.{MethodObject, ContainerObject, MutexObject, EventObject, RegionObject, DataObject, lookup}
use Rattle.acpi_state.specs.FieldActs.{field_letters}
use Rattle.asl_tree.specs.declared.path.Path.{Path}
use Rattle.asl_tree.specs.FieldItems.{FieldItem, UnitItem, SkipItem, OffsetItem, AccessItem, ConnectionItem, ToName, ToBytes}
use Rattle.asl_tree.specs.Names.{declared_path}
use Rattle.asl_tree.specs.Tree.{At, Tree, Name, Alias, External, Method, Mutex, Event, Container', Scope, Trees, no_trees, tree, UnitName, OperationRegion, Field, IndexField, BankField, CreateField, If, ElseIf, Else, While, For, Switch, Case, Default}
use Rattle.asl_meaning.specs.Declarations.{Declared, As, AliasOf, Declarations, nothing_declared, with_declared, scope_path, declare, declare_all, declare_items, as_unit, as_buffer_field}
use Rattle.acpi_names.specs.Errors.{DeclaredHere, Anything, unless, Whole, use_errors, declared_errors, external_errors, unit_path}
use Rattle.acpi_names.specs.Mentions.{Mention, Declares, Opens, mention_errors, all_errors, mentions, operand_mentions, item_mentions, term_mentions, block_mentions}
use Rattle.acpi_names.proofs.Mentions.{after_term, quiet, quiet_operands}
use Rattle.acpi_names.proofs.Numbers.{same_path_refl}
use Rattle.unused_names.specs.Left.{is_fill, MarksItems, Marks, AllMarks, descriptors_of, descriptors, is_one_of}
use Rattle.unused_names.proofs.Errors.{left_none, right_none}
use Rattle.unused_names.proofs.Trees.{errors_left, errors_right}
use Rattle.unused_names.proofs.Holds.{IsThere, grows_term, grows_block, now_there, declared_there, declared_new, block_not_again, term_there}

-- the paths that are gone are declared before, or by these terms' descriptors, or by later ones, which are declared by nothing up to here
pub record Bounds (gone : AbsolutePath → Bool) (d : Declarations) (ps : List AbsolutePath) (d' : Declarations) (later : List AbsolutePath) : Type 0 where
  pub known : (p : AbsolutePath) → gone p ≡ true → is_some (lookup d.declared p) ≡ false → is_one_of ps p ≡ false → is_one_of later p ≡ false → ⊥
  pub fresh : (p : AbsolutePath) → IsThere d' p → is_one_of later p ≡ false
  pub mine : (p : AbsolutePath) → is_one_of ps p ≡ true → gone p ≡ true

or_false : {a b : Bool} → a ≡ false → b ≡ false → (a || b) ≡ false
or_false {b = b} h k = ap (λ x. x || b) h ∙ k

or_left : (a b : Bool) → a ≡ true → (a || b) ≡ true
or_left a b h = ap (λ x. x || b) h

or_right : (a b : Bool) → b ≡ true → (a || b) ≡ true
or_right true b h = refl
or_right false b h = h

false_left : (a b : Bool) → (a || b) ≡ false → a ≡ false
false_left true b h = h
false_left false b h = refl

false_right : (a b : Bool) → (a || b) ≡ false → b ≡ false
false_right true b h = absurd cc
false_right false b h = h

one_append : (a b : List AbsolutePath) (p : AbsolutePath) → is_one_of (a ++ b) p ≡ (is_one_of a p || is_one_of b p)
one_append [] b p = refl
one_append (q ∷ a) b p = by_same (is_same_path q p) (one_append a b p)
  where
    by_same : (c : Bool) → is_one_of (a ++ b) p ≡ (is_one_of a p || is_one_of b p) → (c || is_one_of (a ++ b) p) ≡ ((c || is_one_of a p) || is_one_of b p)
    by_same true e = refl
    by_same false e = e

-- what is not there now was not there before
absent : (a b : Bool) → (a ≡ true → b ≡ true) → b ≡ false → a ≡ false
absent false b go h = refl
absent true b go h = absurd (let x = sym (go refl) ∙ h in grind arith)

module _ (gone : AbsolutePath → Bool) (w : Whole) (declared : (p : AbsolutePath) → gone p ≡ true → is_some (lookup w.all.declared p) ≡ true) where
  not_gone : (d : Declarations) (ps : List AbsolutePath) (d' : Declarations) (later : List AbsolutePath) → Bounds gone d ps d' later → (q : AbsolutePath) → is_some (lookup d.declared q) ≡ false → is_one_of ps q ≡ false → IsThere d' q → gone q ≡ false
  not_gone d ps d' later bounds q new other there = by_gone (gone q) refl
    where
      by_gone : (b : Bool) → gone q ≡ b → b ≡ false
      by_gone false e = refl
      by_gone true e = absurd (bounds.known q e new other (bounds.fresh q there))

  first_bounds : (t : Tree) (ts : Trees) (scope : AbsolutePath) (d : Declarations) (later : List AbsolutePath) → all_errors w (block_mentions ts scope (declare t scope d)) (declare t scope d) ≡ [] → Bounds gone d (descriptors (tree t ts) scope d) (declare_all (tree t ts) scope d) later
      → Bounds gone d (descriptors_of t scope d) (declare t scope d) (descriptors ts scope (declare t scope d) ++ later)
  first_bounds t ts scope d later h bounds = record {
    known = λ p g a b c.
        let rest : List AbsolutePath = descriptors ts scope (declare t scope d) in
        let none = sym (one_append rest later p) ∙ c in
        bounds.known p g a (one_append (descriptors_of t scope d) rest p ∙ or_false b (false_left (is_one_of rest p) (is_one_of later p) none)) (false_right (is_one_of rest p) (is_one_of later p) none);
    fresh = λ p there. one_append (descriptors ts scope (declare t scope d)) later p ∙ or_false (block_not_again w ts scope (declare t scope d) p h there) (bounds.fresh p (grows_block ts scope (declare t scope d) p there));
    mine = λ p e. bounds.mine p (one_append (descriptors_of t scope d) (descriptors ts scope (declare t scope d)) p ∙ or_left (is_one_of (descriptors_of t scope d) p) (is_one_of (descriptors ts scope (declare t scope d)) p) e);
  }

  rest_bounds : (t : Tree) (ts : Trees) (scope : AbsolutePath) (d : Declarations) (later : List AbsolutePath) → Bounds gone d (descriptors (tree t ts) scope d) (declare_all (tree t ts) scope d) later → Bounds gone (declare t scope d) (descriptors ts scope (declare t scope d)) (declare_all ts scope (declare t scope d)) later
  rest_bounds t ts scope d later bounds = record {
    known = λ p g a b c.
        bounds.known p g (absent (is_some (lookup d.declared p)) (is_some (lookup (declare t scope d).declared p)) (grows_term t scope d p) a)
        (one_append (descriptors_of t scope d) (descriptors ts scope (declare t scope d)) p ∙ or_false (absent (is_one_of (descriptors_of t scope d) p) (is_some (lookup (declare t scope d).declared p)) (term_there t scope d p) a) b) c;
    fresh = bounds.fresh;
    mine = λ p e. bounds.mine p (one_append (descriptors_of t scope d) (descriptors ts scope (declare t scope d)) p ∙ or_right (is_one_of (descriptors_of t scope d) p) (is_one_of (descriptors ts scope (declare t scope d)) p) e);
  }

  inner_bounds : (path : AbsolutePath) (as' : Declared) (d : Declarations) (ps : List AbsolutePath) (d' : Declarations) (later : List AbsolutePath) → Bounds gone d ps d' later → Bounds gone (with_declared path as' d) ps d' later
  inner_bounds path as' d ps d' later bounds = record {
    known = λ p g a b c. bounds.known p g (absent (is_some (lookup d.declared p)) (is_some (lookup (with_declared path as' d).declared p)) (declared_there path p as' d) a) b c;
    fresh = bounds.fresh;
    mine = bounds.mine;
  }

  -- a name that is declared at a node, with nothing else
  declared_alone : (at : At) (name : Path) (as' : Declared) (scope : AbsolutePath) (d : Declarations) (later : List AbsolutePath) → Bounds gone d [] (with_declared (declared_path name scope) as' d) later → declared_errors w at name scope d ≡ [] → gone (declared_path name scope) ≡ false
  declared_alone at name as' scope d later bounds h =
      not_gone d [] (with_declared (declared_path name scope) as' d) later bounds (declared_path name scope) (declared_new w at name scope d h) refl (now_there (declared_path name scope) as' d)

  external_new : (here at : At) (name : Path) (scope : AbsolutePath) → unless (not (is_some (lookup w.all.declared (declared_path name scope)))) (DeclaredHere at (declared_path name scope)) ≡ [] → gone (declared_path name scope) ≡ false
  external_new here at name scope h = by_gone (gone (declared_path name scope)) refl
    where
      by_gone : (b : Bool) → gone (declared_path name scope) ≡ b → b ≡ false
      by_gone false e = refl
      by_gone true e = absurd (let x = sym (ap (λ b. unless (not b) (DeclaredHere at (declared_path name scope))) (declared (declared_path name scope) e)) ∙ h in grind arith)

  items_there : (items : List (FieldItem UnitName)) (scope : AbsolutePath) (d : Declarations) (p : AbsolutePath) → IsThere d p → IsThere (declare_items items scope d) p
  items_there [] scope d p h = h
  items_there (UnitItem name bits ∷ items) scope d p h = items_there items scope _ p (declared_there (name.segment ∷ scope) p as_unit d h)
  items_there (SkipItem bits ∷ items) scope d p h = items_there items scope d p h
  items_there (OffsetItem bytes ∷ items) scope d p h = items_there items scope d p h
  items_there (AccessItem access attribute length ∷ items) scope d p h = items_there items scope d p h
  items_there (ConnectionItem to ∷ items) scope d p h = items_there items scope d p h

  marks_items : (items : List (FieldItem UnitName)) (scope : AbsolutePath) (d : Declarations) (later : List AbsolutePath) → Bounds gone d [] (declare_items items scope d) later → all_errors w (item_mentions items scope) d ≡ [] → MarksItems gone items scope
  marks_items [] scope d later bounds h = tt
  marks_items (UnitItem name bits ∷ items) scope d later bounds h =
      let path : AbsolutePath = name.segment ∷ scope in
      let first = left_none (declared_errors w name.at (unit_path name.segment) scope d) _ h in (
        not_gone d [] (declare_items items scope (with_declared path as_unit d)) later bounds path (declared_new w name.at (unit_path name.segment) scope d first) refl (items_there items scope (with_declared path as_unit d) path (now_there path as_unit d)),
        marks_items items scope (with_declared path as_unit d) later (inner_bounds path as_unit d [] (declare_items items scope (with_declared path as_unit d)) later bounds) (right_none (declared_errors w name.at (unit_path name.segment) scope d) _ h),
      )
  marks_items (SkipItem bits ∷ items) scope d later bounds h = marks_items items scope d later bounds h
  marks_items (OffsetItem bytes ∷ items) scope d later bounds h = marks_items items scope d later bounds h
  marks_items (AccessItem access attribute length ∷ items) scope d later bounds h = marks_items items scope d later bounds h
  marks_items (ConnectionItem (ToName at name) ∷ items) scope d later bounds h = marks_items items scope d later bounds (right_none (use_errors w at name scope) _ h)
  marks_items (ConnectionItem (ToBytes bytes) ∷ items) scope d later bounds h = marks_items items scope d later bounds h

  marks_name : (at : At) (name : Path) (scope : AbsolutePath) (d : Declarations) (later : List AbsolutePath) (b : Bool) → Bounds gone d (if b then declared_path name scope ∷ [] else []) (with_declared (declared_path name scope) (As DataObject) d) later → declared_errors w at name scope d ≡ [] → gone (declared_path name scope) ≡ b
  marks_name at name scope d later true bounds h = bounds.mine (declared_path name scope) (ap (λ c. c || false) (same_path_refl (declared_path name scope)))
  marks_name at name scope d later false bounds h = declared_alone at name (As DataObject) scope d later bounds h

  errors_body : (v : Tree) (body : Trees) (scope : AbsolutePath) (d : Declarations) → all_errors w (mentions true v scope ++ block_mentions body scope d) d ≡ [] → all_errors w (block_mentions body scope d) d ≡ []
  errors_body v body scope d h = errors_right gone w (mentions true v scope) (block_mentions body scope d) d d (quiet true v scope d) h

  -- a form that declares its name before its terms
  marks_head : (at : At) (name : Path) (as' : Declared) (body : Trees) (scope : AbsolutePath) (d : Declarations) (later : List AbsolutePath) → Bounds gone d (descriptors body (declared_path name scope) (with_declared (declared_path name scope) as' d)) (declare_all body (declared_path name scope) (with_declared (declared_path name scope) as' d)) later → declared_errors w at name scope d ≡ []
      → all_errors w (block_mentions body (declared_path name scope) (with_declared (declared_path name scope) as' d)) (with_declared (declared_path name scope) as' d) ≡ [] → gone (declared_path name scope) ≡ false
  marks_head at name as' body scope d later bounds h k =
      let path : AbsolutePath = declared_path name scope in
      let inner : Declarations = with_declared path as' d in
      not_gone d (descriptors body path inner) (declare_all body path inner) later bounds path (declared_new w at name scope d h) (block_not_again w body path inner path k (now_there path as' d)) (grows_block body path inner path (now_there path as' d))

  mutual
    marks_term : (t : Tree) (scope : AbsolutePath) (d : Declarations) (later : List AbsolutePath) → Bounds gone d (descriptors_of t scope d) (declare t scope d) later → all_errors w (term_mentions t scope d) d ≡ [] → Marks gone t scope d
    marks_term (Name at name value) scope d later bounds h = marks_name at name scope d later (is_fill value) bounds (left_none (declared_errors w at name scope d) _ h)
    marks_term (Alias from source at name) scope d later bounds h =
        declared_alone at name (AliasOf source scope) scope d later bounds (left_none (declared_errors w at name scope d) _ (right_none (use_errors w from source scope) _ h))
    marks_term (External here at name type parameters) scope d later bounds h =
        external_new here at name scope (left_none (unless (not (is_some (lookup w.all.declared (declared_path name scope)))) (DeclaredHere at (declared_path name scope))) _ (left_none (external_errors w here at name (record { type = type; parameters = parameters }) scope d) _ h))
    marks_term (Method at name flags body) scope d later bounds h =
        let path : AbsolutePath = declared_path name scope in
        let inner : Declarations = with_declared path (As (MethodObject flags)) d in
        let first = left_none (declared_errors w at name scope d) _ h in
        let rest = right_none (declared_errors w at name scope d) _ h in
        (marks_head at name (As (MethodObject flags)) body scope d later bounds first rest, marks_block body path inner later (inner_bounds path (As (MethodObject flags)) d (descriptors body path inner) (declare_all body path inner) later bounds) rest)
    marks_term (Mutex at name level) scope d later bounds h = declared_alone at name (As (MutexObject level)) scope d later bounds (left_none (declared_errors w at name scope d) _ h)
    marks_term (Event at name) scope d later bounds h = declared_alone at name (As EventObject) scope d later bounds (left_none (declared_errors w at name scope d) _ h)
    marks_term (Container' kind at name body) scope d later bounds h =
        let path : AbsolutePath = declared_path name scope in
        let inner : Declarations = with_declared path (As (ContainerObject kind)) d in
        let first = left_none (declared_errors w at name scope d) _ h in
        let rest = right_none (declared_errors w at name scope d) _ h in
        (marks_head at name (As (ContainerObject kind)) body scope d later bounds first rest, marks_block body path inner later (inner_bounds path (As (ContainerObject kind)) d (descriptors body path inner) (declare_all body path inner) later bounds) rest)
    marks_term (Scope here at name body) scope d later bounds h = marks_block body (scope_path d name scope) d later bounds (right_none (mention_errors w (Opens here at name scope (scope_path d name scope)) d) _ h)
    marks_term (If v body) scope d later bounds h = marks_block body scope d later bounds (errors_body v body scope d h)
    marks_term (ElseIf v body) scope d later bounds h = marks_block body scope d later bounds (errors_body v body scope d h)
    marks_term (Else body) scope d later bounds h = marks_block body scope d later bounds h
    marks_term (While v body) scope d later bounds h = marks_block body scope d later bounds (errors_body v body scope d h)
    marks_term (For start test step body) scope d later bounds h =
        let last = mentions true step scope ++ block_mentions body scope d in
        let behind = errors_right gone w (mentions true start scope) (mentions true test scope ++ last) d d (quiet true start scope d) h in
        marks_block body scope d later bounds (errors_body step body scope d (errors_right gone w (mentions true test scope) last d d (quiet true test scope d) behind))
    marks_term (Switch v cases) scope d later bounds h = marks_block cases scope d later bounds (errors_body v cases scope d h)
    marks_term (Case v body) scope d later bounds h = marks_block body scope d later bounds (errors_body v body scope d h)
    marks_term (Default body) scope d later bounds h = marks_block body scope d later bounds h
    marks_term (OperationRegion at name space args) scope d later bounds h = declared_alone at name (As (RegionObject space 0 0)) scope d later bounds (left_none (declared_errors w at name scope d) _ h)
    marks_term (Field here from region flags items) scope d later bounds h = marks_items items scope d later bounds (right_none (use_errors w from region scope) _ h)
    marks_term (IndexField here from index to register flags items) scope d later bounds h = marks_items items scope d later bounds (right_none (use_errors w to register scope) _ (right_none (use_errors w from index scope) _ h))
    marks_term (BankField here from region to bank v flags items) scope d later bounds h =
        marks_items items scope d later bounds (errors_right gone w (mentions true v scope) (item_mentions items scope) d d (quiet true v scope d) (right_none (use_errors w to bank scope) _ (right_none (use_errors w from region scope) _ h)))
    marks_term (CreateField form args at name) scope d later bounds h =
        let own = errors_right gone w (operand_mentions true Anything (field_letters form) args scope) (Declares at name as_buffer_field scope ∷ []) d d (quiet_operands true Anything (field_letters form) args scope d) h in
        declared_alone at name as_buffer_field scope d later bounds (left_none (declared_errors w at name scope d) _ own)
    marks_term t scope d later bounds h = tt

    pub marks_block : (ts : Trees) (scope : AbsolutePath) (d : Declarations) (later : List AbsolutePath) → Bounds gone d (descriptors ts scope d) (declare_all ts scope d) later → all_errors w (block_mentions ts scope d) d ≡ [] → AllMarks gone ts scope d
    marks_block no_trees scope d later bounds h = tt
    marks_block (tree t ts) scope d later bounds h =
        let first : List Mention = term_mentions t scope d in
        let rest : List Mention = block_mentions ts scope (declare t scope d) in
        let behind = errors_right gone w first rest d (declare t scope d) (after_term t scope d) h in (
          marks_term t scope d (descriptors ts scope (declare t scope d) ++ later) (first_bounds t ts scope d later behind bounds) (errors_left gone w first rest d h),
          marks_block ts scope (declare t scope d) later (rest_bounds t ts scope d later bounds) behind,
        )

-- the marks of a program are its descriptors
pub program_bounds : (ps : List AbsolutePath) (d' : Declarations) → Bounds (is_one_of ps) nothing_declared ps d' []
program_bounds ps d' = record {
  known = λ p g a b c. absurd (let x = sym g ∙ b in grind arith);
  fresh = λ p there. refl;
  mine = λ p e. e;
}
