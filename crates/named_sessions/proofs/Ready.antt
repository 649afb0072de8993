-- A program without errors is ready once its names are spelled.
use Rattle.std.proofs.Common.{◌≡◌, ℕ, zero, suc, ◌≤◌, Bool, true, false, List, [], ◌∷◌, ◌++◌, length, drop, Some, None, refl, sym, ap, ◌∙◌, subst, arith, ◌+◌, ◌-◌, ◌*◌}
use Rattle.std.specs.Prelude.{if◌then◌else◌, nat_eq, ◌&&◌, ◌||◌, not, is_some, reverse}
use Rattle.std.specs.List.{filter}
use Rattle.std.proofs.lemmas.List.{reverse-append, length-reverse}
use Rattle.std.proofs.lemmas.Bool.Decides.{nat_tests}
use Rattle.std.proofs.lemmas.Bool.{eqb-true}
use Rattle.acpi_values.specs.Operators.{Letter, Valued, Kept, Placed, Used, Row, row_of}
use Rattle.acpi_values.specs.Operators as L
use Rattle.acpi_values.specs.Paths.{NameSeg, AbsolutePath, is_same_segment, is_same_path}
use Rattle.acpi_state.specs.Objects.{Object, DataObject, MethodObject, ContainerObject, lookup, operand_count, is_method, MutexObject, EventObject, RegionObject}
use Rattle.acpi_state.specs.Outcomes.{choose}
use Rattle.acpi_state.proofs.Lookups.{is_same_path-true}
use Rattle.asl_tree.specs.declared.path.Path.{Path}
use Rattle.asl_tree.specs.Names.{AliasTo, Known, is_known, kind_at, end_of, below, prefix_scope, declared_path, enclosing, single_in, search_path, candidates, first_of, denoted, is_searched, absolute, spelled_element}
use Rattle.asl_meaning.specs.Declarations.{Declared, As, AliasOf, ExternalType, Declarations, in_root, is_named, scope_path, with_declared, with_external, declare, declare_all, kind_of, as_unit, as_buffer_field, declare_items}
use Rattle.asl_meaning.specs.Meaning.{SpotForm, OfResult, OfInside, NoSpot, spot_form}
use Rattle.acpi_state.specs.FieldActs.{region_letters, field_letters}
use Rattle.asl_tree.specs.FieldItems.{FieldItem, UnitItem, SkipItem, OffsetItem, AccessItem, ConnectionItem, ToName, ToBytes}
use Rattle.asl_tree.specs.Tree.{At, Tree, Integer, Constant, String, InSlot, Debug, Omitted, Raw, Use, Call, Apply, Buffer, Package, VarPackage, CondRefOf, Return, Name, Alias, External, Method, Mutex, Event, Container', Scope, Fill, Misshapen}
use Rattle.asl_tree.specs.Tree.{Operated, Assigned, AssignedBy, Trees, no_trees, tree, count, OperationRegion, Field, IndexField, BankField, CreateField, UnitName, If, ElseIf, Else, While, Break, Continue, Item, Switch, Case, Default, For, Print}
use Rattle.asl_meaning.proofs.Searches.{first_is_known}
use Rattle.aml_code.specs.Fronts.{is_segment, AreSegments, IsName, HasStart, IsUsedName}
use Rattle.aml_sessions.specs.Ready.{is_expression, AtMostOne, Denotes, IsSought, Declares, IsElementName, CondReady, SpotReady, LetterReady, ElementReady, IsReady, IsSpot, IsAlone, AreOperands, AreSpots, AreValues, AreElements, AreReady, AreItems, AreUnits, IsFound}
use Rattle.acpi_names.specs.Errors.{NameError, Twice, Missing, NoContainer, WrongCount, Asked, Anything, AUnit, ARegion, asked_by, unless, Whole, step_errors, is_new, final, is_container, takes_none, takes, declared_errors, use_errors, call_errors, scope_errors}
use Rattle.acpi_names.specs.Errors.{names, names_all, name_end, types, types_all, cond_errors, asked_types, used_types, letter_types, spot_form_types, element_types, spot_types, first_types, operand_types, spot_types_all, element_types_all, unit_path, items_errors}
use Rattle.acpi_names.specs.Shortest.{shortest, last_alone, upward, unsearched, leads_to, short_element, use_of, spelled_item, met, spelled_use}
use Rattle.acpi_names.proofs.Shortest.{Each, each_kept, shortest_keeps, short_element_placed, use_alone}
use Rattle.acpi_names.specs.Spelled.{spelled, spelled_all, element_spelled, items_spelled, spelled_elements}
use Rattle.named_sessions.specs.Shaped.{LetterShaped, ElementShaped, IsShaped, IsShapedSpot, IsShapedAlone, AreShapedOperands, AreShapedSpots, AreShapedValues, AreShapedElements, AreShaped}

pub left_none : {A : Type 0} (xs ys : List A) → xs ++ ys ≡ [] → xs ≡ []
left_none [] ys e = refl
left_none (x ∷ xs) ys e = absurd (grind arith)

pub right_none : {A : Type 0} (xs ys : List A) → xs ++ ys ≡ [] → ys ≡ []
right_none [] ys e = e
right_none (x ∷ xs) ys e = absurd (grind arith)

pub holds : (c : Bool) (e : NameError) → unless c e ≡ [] → c ≡ true
holds true e h = refl
holds false e h = absurd (grind arith)

both_true : (a b : Bool) → (a && b) ≡ true → (a ≡ true) × (b ≡ true)
both_true true b h = (refl, h)
both_true false b h = absurd (grind arith)

pub neither : (a b : Bool) → not (a || b) ≡ true → (a ≡ false) × (b ≡ false)
neither true b h = absurd (grind arith)
neither false true h = absurd (grind arith)
neither false false h = (refl, refl)

nat_eq_refl : (n : ℕ) → nat_eq n n ≡ true
nat_eq_refl n = grind (arith, nat_tests)

same_segment_refl : (seg : NameSeg) → is_same_segment seg seg ≡ true
same_segment_refl [] = refl
same_segment_refl (c ∷ seg) = ap (λ b. b && is_same_segment seg seg) (nat_eq_refl c) ∙ same_segment_refl seg

pub same_path_refl : (path : AbsolutePath) → is_same_path path path ≡ true
same_path_refl [] = refl
same_path_refl (seg ∷ path) = ap (λ b. b && is_same_path path path) (same_segment_refl seg) ∙ same_path_refl path

pub same_candidates : (f g : AbsolutePath → Bool) → ((p : AbsolutePath) → f p ≡ g p) → (ps : List AbsolutePath) → candidates f ps ≡ candidates g ps
same_candidates f g h [] = refl
same_candidates f g h (p ∷ ps) =
    ap (λ c. if c then p ∷ candidates f ps else candidates f ps) (h p) ∙ ap (λ qs. if g p then p ∷ qs else qs) (same_candidates f g h ps)

-- segments of paths
drop_segments : (n : ℕ) (xs : List NameSeg) → AreSegments xs → AreSegments (drop n xs)
drop_segments zero xs h = h
drop_segments (suc n) [] h = tt
drop_segments (suc n) (x ∷ xs) h = drop_segments n xs h.1

below_segments : (scope : AbsolutePath) (segs : List NameSeg) → AreSegments scope → AreSegments segs → AreSegments (below scope segs)
below_segments scope [] h k = h
below_segments scope (seg ∷ segs) h k = below_segments (seg ∷ scope) segs (k.0, h) k.1

pub place_segments : (name : Path) (scope : AbsolutePath) → IsName name → AreSegments scope → AreSegments (declared_path name scope)
place_segments name scope is h = below_segments (prefix_scope name scope) name.segs (by_root name.root) is.segments
  where
    by_root : (root : Bool) → AreSegments (if root then [] else drop name.up scope)
    by_root true = tt
    by_root false = drop_segments name.up scope h

append_segments : (xs ys : List NameSeg) → AreSegments xs → AreSegments ys → AreSegments (xs ++ ys)
append_segments [] ys h k = k
append_segments (x ∷ xs) ys h k = (h.0, append_segments xs ys h.1 k)

reverse_segments : (xs : List NameSeg) → AreSegments xs → AreSegments (reverse xs)
reverse_segments [] h = tt
reverse_segments (x ∷ xs) h = subst AreSegments (sym (reverse-append (x ∷ []) xs)) (append_segments (reverse xs) (x ∷ []) (reverse_segments xs h.1) (h.0, tt))

abbrev AllSegments : List AbsolutePath → Type 0
AllSegments [] = Unit {0}
AllSegments (p ∷ ps) = AreSegments p × AllSegments ps

enclosing_segments : (seg : NameSeg) (scope : AbsolutePath) → is_segment seg ≡ true → AreSegments scope → AllSegments (enclosing seg scope)
enclosing_segments seg [] h k = ((h, tt), tt)
enclosing_segments seg (outer ∷ scope) h k = ((h, k), enclosing_segments seg scope h k.1)

search_segments : (name : Path) (scope : AbsolutePath) → IsName name → AreSegments scope → AllSegments (search_path name scope)
search_segments name scope is h = by_single name.root name.up name.segs is.segments
  where
    other : AllSegments (declared_path name scope ∷ [])
    other = (place_segments name scope is h, tt)

    by_single : (root : Bool) (up : ℕ) (segs : List NameSeg) → AreSegments segs → AllSegments (choose (single_in root up segs) (declared_path name scope ∷ []) (λ seg. enclosing seg scope))
    by_single false zero (seg ∷ []) k = enclosing_segments seg scope k.0 h
    by_single _ _ _ k = other

candidate_segments : (has : AbsolutePath → Bool) (ps : List AbsolutePath) (path : AbsolutePath) (others : List AbsolutePath) → AllSegments ps → candidates has ps ≡ path ∷ others → AreSegments path
candidate_segments has [] path others h e = absurd (grind arith)
candidate_segments has (p ∷ ps) path others h e = by_has (has p) e (candidate_segments has ps path others h.1)
  where
    head_of : List AbsolutePath → AbsolutePath
    head_of [] = []
    head_of (q ∷ qs) = q

    by_has : (c : Bool) → (if c then p ∷ candidates has ps else candidates has ps) ≡ path ∷ others → (candidates has ps ≡ path ∷ others → AreSegments path) → AreSegments path
    by_has true e go = subst AreSegments (ap head_of e) h.0
    by_has false e go = go e

-- the later names include these
pub record Within (d d' : Declarations) : Type 0 where
  pub by : (path : AbsolutePath) (x : Declared) → lookup d.declared path ≡ Some x → lookup d'.declared path ≡ Some x

pub within_same : (d : Declarations) → Within d d
within_same d = record { by = λ path x h. h }

pub within_then : (a b c : Declarations) → Within a b → Within b c → Within a c
within_then a b c h k = record { by = λ path x e. k.by path x (h.by path x e) }

within_new : (d : Declarations) (path : AbsolutePath) (x : Declared) → is_new d path ≡ true → Within d (with_declared path x d)
within_new d path x new = record { by = λ q y e. by_same q y e (is_same_path path q) refl }
  where
    by_same : (q : AbsolutePath) (y : Declared) → lookup d.declared q ≡ Some y → (c : Bool) → is_same_path path q ≡ c → (if c then Some x else lookup d.declared q) ≡ Some y
    by_same q y e false h = e
    by_same q y e true h =
        absurd (let absent = (neither (in_root path) (is_some (lookup d.declared path)) new).1 in let there = ap (λ p. is_some (lookup d.declared p)) (is_same_path-true path q h) ∙ ap is_some e in let x = sym absent ∙ there in grind arith)

there_now : (d : Declarations) (path : AbsolutePath) (x : Declared) → lookup (with_declared path x d).declared path ≡ Some x
there_now d path x = ap (λ c. if c then Some x else lookup d.declared path) (same_path_refl path)

count_same : (shorten : Bool) (also has : AbsolutePath → Bool) (says : AbsolutePath → ExternalType → ExternalType) (ts : Trees) (scope : AbsolutePath) → count (spelled_all shorten also has says ts scope) ≡ count ts
count_same shorten also has says no_trees scope = refl
count_same shorten also has says (tree t ts) scope = ap suc (count_same shorten also has says ts scope)

module _ (whole : Whole) where
  pub new_of : (at : At) (name : Path) (scope : AbsolutePath) (d : Declarations) → declared_errors whole at name scope d ≡ [] → is_new d (declared_path name scope) ≡ true
  new_of at name scope d e = holds (is_new d (declared_path name scope)) (Twice at (declared_path name scope)) (left_none _ _ e)

  within_items : (items : List (FieldItem UnitName)) (scope : AbsolutePath) (d : Declarations) → items_errors whole items scope d ≡ [] → Within d (declare_items items scope d)
  within_items [] scope d e = within_same d
  within_items (UnitItem name bits ∷ items) scope d e =
      let d' = with_declared (name.segment ∷ scope) as_unit d in
      within_then d d' (declare_items items scope d') (within_new d (name.segment ∷ scope) as_unit (new_of name.at (unit_path name.segment) scope d (left_none _ (items_errors whole items scope d') e))) (within_items items scope d' (right_none (declared_errors whole name.at (unit_path name.segment) scope d) _ e))
  within_items (SkipItem bits ∷ items) scope d e = within_items items scope d e
  within_items (OffsetItem bytes ∷ items) scope d e = within_items items scope d e
  within_items (AccessItem access attribute length ∷ items) scope d e = within_items items scope d e
  within_items (ConnectionItem (ToName at name) ∷ items) scope d e = within_items items scope d (right_none (use_errors whole at name scope) _ e)
  within_items (ConnectionItem (ToBytes bytes) ∷ items) scope d e = within_items items scope d e

  -- a term without errors declares nothing twice
  mutual
    within : (t : Tree) (scope : AbsolutePath) (d : Declarations) → names whole t scope d ≡ [] → Within d (declare t scope d)
    within (Name at name value) scope d e = within_new d (declared_path name scope) (As DataObject) (new_of at name scope d (left_none _ (names whole value scope d) e))
    within (Alias from source at name) scope d e =
        within_new d (declared_path name scope) (AliasOf source scope) (new_of at name scope d (right_none (use_errors whole from source scope) _ e))
    within (External here at name type parameters) scope d e = by_root (in_root (declared_path name scope))
      where
        by_root : (c : Bool) → Within d (with_external c (declared_path name scope) (record { type = type; parameters = parameters }) d)
        by_root true = within_same d
        by_root false = record { by = λ path x h. h }
    within (Method at name flags body) scope d e =
        let d' = with_declared (declared_path name scope) (As (MethodObject flags)) d in
        within_then d d' (declare_all body (declared_path name scope) d') (within_new d (declared_path name scope) (As (MethodObject flags)) (new_of at name scope d (left_none _ (names_all whole body (declared_path name scope) d') e))) (within_all body (declared_path name scope) d' (right_none (declared_errors whole at name scope d) _ e))
    within (Mutex at name level) scope d e = within_new d (declared_path name scope) (As (MutexObject level)) (new_of at name scope d e)
    within (Event at name) scope d e = within_new d (declared_path name scope) (As EventObject) (new_of at name scope d e)
    within (If test body) scope d e = within_all body scope d (right_none (names whole test scope d) _ e)
    within (ElseIf test body) scope d e = within_all body scope d (right_none (names whole test scope d) _ e)
    within (Else body) scope d e = within_all body scope d e
    within (While test body) scope d e = within_all body scope d (right_none (names whole test scope d) _ e)
    within (For start test step body) scope d e =
        within_all body scope d (right_none (names whole step scope d) _ (right_none (names whole test scope d) _ (right_none (names whole start scope d) _ e)))
    within (Switch value cases) scope d e = within_all cases scope d (right_none (names whole value scope d) _ e)
    within (Case value body) scope d e = within_all body scope d (right_none (names whole value scope d) _ e)
    within (Default body) scope d e = within_all body scope d e
    within (OperationRegion at name space args) scope d e = within_new d (declared_path name scope) (As (RegionObject space 0 0)) (new_of at name scope d (left_none _ (names_all whole args scope d) e))
    within (Field here from region flags items) scope d e = within_items items scope d (right_none (use_errors whole from region scope) _ e)
    within (IndexField here from index to register flags items) scope d e = within_items items scope d (right_none (use_errors whole to register scope) _ (right_none (use_errors whole from index scope) _ e))
    within (BankField here from region to bank value flags items) scope d e =
        within_items items scope d (right_none (names whole value scope d) _ (right_none (use_errors whole to bank scope) _ (right_none (use_errors whole from region scope) _ e)))
    within (CreateField form args at name) scope d e = within_new d (declared_path name scope) as_buffer_field (new_of at name scope d (right_none (names_all whole args scope d) _ e))
    within (Container' kind at name body) scope d e =
        let d' = with_declared (declared_path name scope) (As (ContainerObject kind)) d in
        within_then d d' (declare_all body (declared_path name scope) d') (within_new d (declared_path name scope) (As (ContainerObject kind)) (new_of at name scope d (left_none _ (names_all whole body (declared_path name scope) d') e))) (within_all body (declared_path name scope) d' (right_none (declared_errors whole at name scope d) _ e))
    within (Scope here at name body) scope d e = within_all body (scope_path d name scope) d (right_none (use_errors whole at name scope ++ scope_errors whole here at name scope d) _ e)
    within _ scope d e = within_same d

    pub within_all : (ts : Trees) (scope : AbsolutePath) (d : Declarations) → names_all whole ts scope d ≡ [] → Within d (declare_all ts scope d)
    within_all no_trees scope d e = within_same d
    within_all (tree t ts) scope d e =
        within_then d (declare t scope d) (declare_all ts scope (declare t scope d)) (within t scope d (left_none _ (names_all whole ts scope (declare t scope d)) e)) (within_all ts scope (declare t scope d) (right_none (names whole t scope d) _ e))

same_expression : (shorten : Bool) (also has : AbsolutePath → Bool) (says : AbsolutePath → ExternalType → ExternalType) (t : Tree) (scope : AbsolutePath) → is_expression (spelled shorten also has says t scope) ≡ is_expression t
same_expression shorten also has says (Integer number) scope = refl
same_expression shorten also has says _ scope = refl

-- what the whole block's names give
pub record Settled (whole : Whole) : Type 0 where
  pub same : (path : AbsolutePath) → is_known whole.known path ≡ is_named whole.all path
  pub kinds : (path : AbsolutePath) (x : Declared) → in_root path ≡ false → lookup whole.all.declared path ≡ Some x → kind_at whole.known path ≡ Some (kind_of (is_named whole.all) x)
  pub short : (path : AbsolutePath) → is_known whole.known path ≡ true → length path ≤ 255
  pub finite : (n : ℕ) (path : AbsolutePath) (found : AbsolutePath × Object) → end_of whole.known n path ≡ Some found → final whole.known path ≡ Some found

-- how a place is ready follows by its operator
by_spot_form : (whole : Whole) (form : SpotForm) (R I R' I' : Type 0) (result inside : List NameError) → SpotReady form R I → spot_form_types whole form result inside ≡ [] → (R → result ≡ [] → R') → (I → inside ≡ [] → I') → SpotReady form R' I'
by_spot_form whole OfResult R I R' I' result inside h y f g = f h y
by_spot_form whole OfInside R I R' I' result inside h y f g = g h y
by_spot_form whole NoSpot R I R' I' result inside h y f g = absurd h

-- a path written from the root can be used
absolute_used : (path : AbsolutePath) → AreSegments path → length path ≤ 255 → IsUsedName (absolute path)
absolute_used path valid short =
    let fits : length (reverse path) ≤ 255 = omega (arith, length-reverse path, short) in
    record { is_name = record { segments = reverse_segments path valid; count = fits; rooted = λ root. refl }; start = tt }

has_start : (up : ℕ) (seg : NameSeg) (segs : List NameSeg) → HasStart false up (seg ∷ segs)
has_start zero seg segs = tt
has_start (suc up) seg segs = tt

-- so can each form that the shortest is taken from
upward_used : (segs path scope : AbsolutePath) → AreSegments segs → AreSegments path → length segs + length path ≤ 255 → Each IsUsedName (upward segs path scope)
upward_used segs [] scope h valid short = tt
upward_used segs (seg ∷ outer) scope h valid short = (
  record { is_name = record { segments = (valid.0, h); count = omega (arith, short); rooted = λ root. absurd (grind arith) }; start = has_start (length scope - length outer) seg segs },
  upward_used (seg ∷ segs) outer scope (valid.0, h) valid.1 (omega (arith, short)),
)

unsearched_used : (path scope : AbsolutePath) → AreSegments path → length path ≤ 255 → Each IsUsedName (unsearched path scope)
unsearched_used path scope valid short = each_kept (λ name. not (is_searched name)) IsUsedName (upward [] path scope) (upward_used [] path scope tt valid (omega (arith, short)))

forms_used : (path scope : AbsolutePath) → AreSegments path → length path ≤ 255 → Each IsUsedName (last_alone path ++ unsearched path scope)
forms_used [] scope valid short = unsearched_used [] scope valid short
forms_used (seg ∷ outer) scope valid short = (
  record { is_name = record { segments = (valid.0, tt); count = omega arith; rooted = λ root. absurd (grind arith) }; start = tt },
  unsearched_used (seg ∷ outer) scope valid short,
)

module _ (shorten : Bool) (also : AbsolutePath → Bool) (whole : Whole) (says : AbsolutePath → ExternalType → ExternalType) (settled : Settled whole) where
  abbrev known : Known
  known = whole.known

  abbrev has : AbsolutePath → Bool
  has = is_known known

  same_denoted : (name : Path) (scope : AbsolutePath) → denoted has name scope ≡ denoted (is_named whole.all) name scope
  same_denoted name scope = ap first_of (same_candidates has (is_named whole.all) settled.same (search_path name scope))

  -- the shortest of some used names is one, whatever leads to a path
  short_used : (leading : AbsolutePath → Bool) (path scope : AbsolutePath) (names : List Path) → AreSegments path → has path ≡ true → Each IsUsedName names → IsUsedName (shortest (absolute path) (filter (leads_to leading path scope) names))
  short_used leading path scope names valid there used =
      shortest_keeps IsUsedName (absolute path) (filter (leads_to leading path scope) names) (absolute_used path valid (settled.short path there)) (each_kept (leads_to leading path scope) IsUsedName names used)

  use_used : (short : Bool) (name : Path) (path scope : AbsolutePath) → IsUsedName name → AreSegments path → has path ≡ true → IsUsedName (use_of (met also has) short name path scope)
  use_used true name path scope used valid there = short_used (met also has) path scope (last_alone path ++ unsearched path scope) valid there (forms_used path scope valid (settled.short path there))
  use_used false name path scope used valid there = by_leads (leads_to (met also has) path scope name)
    where
      by_leads : (c : Bool) → IsUsedName (if c then name else absolute path)
      by_leads true = used
      by_leads false = absolute_used path valid (settled.short path there)

  -- a used name that denotes a path, shortened or not
  use_spells : (short : Bool) (name : Path) (path scope : AbsolutePath) → IsUsedName name → AreSegments path → has path ≡ true → denoted has name scope ≡ Some path → Denotes known (use_of (met also has) short name path scope) scope path
  use_spells short name path scope used valid there e =
      record { used = use_used short name path scope used valid there; only = use_alone also has short name scope path e }

  -- a used name without errors, shortened or not
  record Found (short : Bool) (name : Path) (scope : AbsolutePath) : Type 0 where
    path : AbsolutePath
    spells : Denotes known (spelled_use also has short name scope) scope path
    denotes : denoted has name scope ≡ Some path
    segments : AreSegments path
    there : has path ≡ true

  found : (short : Bool) (at : At) (name : Path) (scope : AbsolutePath) → IsUsedName name → AreSegments scope → use_errors whole at name scope ≡ [] → Found short name scope
  found short at name scope used valid e =
      by_candidates (candidates has (search_path name scope)) refl (ap is_some (same_denoted name scope) ∙ holds (is_some (denoted (is_named whole.all) name scope)) (Missing at name) (right_none (step_errors at name scope) _ e))
    where
      by_candidates : (paths : List AbsolutePath) → candidates has (search_path name scope) ≡ paths → is_some (denoted has name scope) ≡ true → Found short name scope
      by_candidates [] c h = absurd (let x = sym (ap (λ ps. is_some (first_of ps)) c) ∙ h in grind arith)
      by_candidates (path ∷ others) c h =
          let valid' = candidate_segments has (search_path name scope) path others (search_segments name scope used.is_name valid) c in
          let there = first_is_known has (search_path name scope) path others c in
          let denotes : denoted has name scope ≡ Some path = ap first_of c in
          record {
            path = path;
            spells = subst (λ o. Denotes known (choose o name (λ path. use_of (met also has) short name path scope)) scope path) (sym denotes) (use_spells short name path scope used valid' there denotes);
            denotes = denotes;
            segments = valid';
            there = there;
          }

  -- where the name ends, its kind is what the errors ask for
  ends : (name : Path) (scope path : AbsolutePath) → denoted has name scope ≡ Some path → (n : ℕ) (target : AbsolutePath) (object : Object) → end_of known n path ≡ Some (target, object) → name_end whole name scope ≡ Some (target, object)
  ends name scope path den n target object e =
      ap (λ o. choose o None (final known)) (sym (same_denoted name scope) ∙ den) ∙ settled.finite n path (target, object) e

  -- a name that a search finds at one place at most
  few_candidates : (short : Bool) (name : Path) (scope : AbsolutePath) → IsUsedName name → AreSegments scope → IsSought known (spelled_use also has short name scope) scope
  few_candidates short name scope used valid = by_candidates (candidates has (search_path name scope)) refl
    where
      by_candidates : (paths : List AbsolutePath) → candidates has (search_path name scope) ≡ paths → IsSought known (choose (first_of (candidates has (search_path name scope))) name (λ path. use_of (met also has) short name path scope)) scope
      by_candidates [] c =
          subst (λ o. IsSought known (choose o name (λ path. use_of (met also has) short name path scope)) scope) (sym (ap first_of c)) (record { used = used; few = subst AtMostOne (sym c) tt })
      by_candidates (path ∷ others) c =
          let valid' = candidate_segments has (search_path name scope) path others (search_segments name scope used.is_name valid) c in
          let h = use_spells short name path scope used valid' (first_is_known has (search_path name scope) path others c) (ap first_of c) in
          subst (λ o. IsSought known (choose o name (λ path. use_of (met also has) short name path scope)) scope) (sym (ap first_of c)) (record { used = h.used; few = subst AtMostOne (sym h.only) tt })

  -- a name in a Package has one place once it is spelled
  element_written : (at : At) (name : Path) (scope : AbsolutePath) → IsUsedName name → AreSegments scope → use_errors whole at name scope ≡ [] → IsElementName known (spelled_element has name scope)
  element_written at name scope used valid e = by_searched (is_searched name) refl
    where
      f : Found false name scope
      f = found false at name scope used valid e

      path_is : choose (denoted has name scope) (declared_path name scope) (λ path. path) ≡ f.path
      path_is = ap (λ o. choose o (declared_path name scope) (λ path. path)) f.denotes

      by_searched : (c : Bool) → is_searched name ≡ c → IsElementName known (if c then absolute (if c then choose (denoted has name scope) (declared_path name scope) (λ path. path) else declared_path name scope) else name)
      by_searched true s = subst (λ p. IsElementName known (absolute p)) (sym path_is) (record { used = absolute_used f.path f.segments (settled.short f.path f.there); single = refl })
      by_searched false s = record { used = used; single = s }

  element_ready : (at : At) (name : Path) (scope : AbsolutePath) → IsUsedName name → AreSegments scope → use_errors whole at name scope ≡ [] → IsElementName known (spelled_item has shorten name scope)
  element_ready at name scope used valid e = by_searched (is_searched name) refl
    where
      f : Found false name scope
      f = found false at name scope used valid e

      short : IsElementName known (short_element has f.path scope)
      short =
          record { used = short_used has f.path scope (unsearched f.path scope) f.segments f.there (unsearched_used f.path scope f.segments (settled.short f.path f.there)); single = short_element_placed has f.path scope }

      by_shorten : (b : Bool) → is_searched name ≡ false → IsElementName known (if b then choose (denoted has name scope) name (λ path. short_element has path scope) else name)
      by_shorten true s = subst (λ o. IsElementName known (choose o name (λ path. short_element has path scope))) (sym f.denotes) short
      by_shorten false s = record { used = used; single = s }

      by_searched : (c : Bool) → is_searched name ≡ c → IsElementName known (if c then spelled_element has name scope else if shorten then choose (denoted has name scope) name (λ path. short_element has path scope) else name)
      by_searched true s = element_written at name scope used valid e
      by_searched false s = by_shorten shorten s

  -- what is declared without error is known as that
  declared_known : (at : At) (name : Path) (scope : AbsolutePath) (d : Declarations) (x : Declared) → declared_errors whole at name scope d ≡ [] → Within (with_declared (declared_path name scope) x d) whole.all → IsName name → Declares known name scope (kind_of (is_named whole.all) x)
  declared_known at name scope d x e w written =
      let path = declared_path name scope in
      record { written = written; is = settled.kinds path x (neither (in_root path) (is_some (lookup d.declared path)) (new_of whole at name scope d e)).0 (w.by path x (there_now d path x)) }

  -- an operand by its letter
  ready_letter : (letter : Letter) (asked : Asked) (t : Tree) (scope : AbsolutePath) (d : Declarations) (V' S' : Type 0) → LetterShaped letter t ((is_expression t ≡ true) × IsShaped t) (IsShapedSpot t) → AreSegments scope → names whole t scope d ≡ [] → letter_types whole letter (types whole t scope) (spot_types whole t scope) (used_types whole asked t scope) ≡ [] →
      ((is_expression t ≡ true) × IsShaped t → types whole t scope ≡ [] → V') → (IsShapedSpot t → spot_types whole t scope ≡ [] → S') → LetterReady known letter (spelled shorten also has says t scope) V' S' scope
  ready_letter Valued asked t scope d V' S' shaped valid e y hv hs = hv shaped y
  ready_letter Kept asked t scope d V' S' shaped valid e y hv hs = hv shaped y
  ready_letter Placed asked t scope d V' S' shaped valid e y hv hs = hs shaped y
  ready_letter Used asked (Use at name) scope d V' S' shaped valid e y hv hs = let f = found shorten at name scope shaped valid e in (f.path, f.spells)
  ready_letter Used asked _ scope d V' S' shaped valid e y hv hs = absurd shaped
  ready_letter (L.Raw size) asked (Raw other number) scope d V' S' shaped valid e y hv hs = shaped
  ready_letter (L.Raw size) asked _ scope d V' S' shaped valid e y hv hs = absurd shaped

  -- an element of a Package
  ready_element : (t : Tree) (scope : AbsolutePath) (d : Declarations) → ElementShaped t (IsShaped t) → AreSegments scope → names whole t scope d ≡ [] → element_types whole t (types whole t scope) ≡ [] →
      (is_expression t ≡ true → IsShaped t → types whole t scope ≡ [] → IsReady (Unit {0}) known (spelled shorten also has says t scope) scope) → ElementReady known (element_spelled shorten has t (spelled shorten also has says t scope) scope) (IsReady (Unit {0}) known (element_spelled shorten has t (spelled shorten also has says t scope) scope) scope)
  ready_element (Use at name) scope d shaped valid e y h = element_ready at name scope shaped valid e
  ready_element (Integer number) scope d shaped valid e y h = (refl, h refl shaped.1 y)
  ready_element (Constant literal) scope d shaped valid e y h = (refl, h refl shaped.1 y)
  ready_element (String text) scope d shaped valid e y h = (refl, h refl shaped.1 y)
  ready_element (Buffer size bytes) scope d shaped valid e y h = (refl, h refl shaped.1 y)
  ready_element (Package n elements) scope d shaped valid e y h = (refl, h refl shaped.1 y)
  ready_element (VarPackage size elements) scope d shaped valid e y h = (refl, h refl shaped.1 y)
  ready_element t scope d shaped valid e y h = absurd (grind arith)

  mutual
    ready_value : (t : Tree) (scope : AbsolutePath) (d : Declarations) → is_expression t ≡ true → IsShaped t → AreSegments scope → names whole t scope d ≡ [] → types whole t scope ≡ [] → IsReady (Unit {0}) known (spelled shorten also has says t scope) scope
    ready_value (Integer number) scope d x shaped valid e y = shaped
    ready_value (Constant literal) scope d x shaped valid e y = tt
    ready_value (String text) scope d x shaped valid e y = shaped
    ready_value (InSlot slot) scope d x shaped valid e y = shaped
    ready_value Debug scope d x shaped valid e y = tt
    ready_value (Use at name) scope d x shaped valid e y =
        let f = found shorten at name scope shaped valid e in (
          f.path,
          f.spells,
          λ n target object h.
              let k : takes_none (Some (target, object)) ≡ true = ap takes_none (sym (ends name scope f.path f.denotes n target object h)) ∙ holds (takes_none (name_end whole name scope)) (WrongCount at name) y in
              eqb-true (operand_count object) 0 k,
        )
    ready_value (Call at name args) scope d x shaped valid e y =
        let e0 = left_none _ (names_all whole args scope d) e in
        let f = found shorten at name scope shaped.0 valid (left_none _ (call_errors whole at name (count args) scope) e0) in
        let t = holds (takes (count args) (name_end whole name scope)) (WrongCount at name) (left_none _ (types_all whole args scope) y) in (
          f.path,
          f.spells,
          (λ n target object h.
              let k : takes (count args) (Some (target, object)) ≡ true = ap (takes (count args)) (sym (ends name scope f.path f.denotes n target object h)) ∙ t in
              let b = both_true (is_method object) (nat_eq (operand_count object) (count args)) k in
              (b.0, eqb-true (operand_count object) (count args) b.1 ∙ sym (count_same shorten also has says args scope))),
          ready_values args scope d shaped.1 valid (right_none (use_errors whole at name scope ++ call_errors whole at name (count args) scope) _ e) (right_none (unless (takes (count args) (name_end whole name scope)) (WrongCount at name)) _ y),
        )
    ready_value (Apply op args targets) scope d x shaped valid e y = (
      shaped.0,
      ready_operands (asked_by op) (row_of op).operands args scope d shaped.1 valid (left_none _ (names_all whole targets scope d) e) (left_none _ (spot_types_all whole targets scope) y),
      count_same shorten also has says targets scope
          ∙ shaped.2,
      ready_spots targets scope d shaped.3 valid (right_none (names_all whole args scope d) _ e) (right_none (operand_types whole (asked_by op) (row_of op).operands args scope) _ y),
    )
    ready_value (Buffer size bytes) scope d x shaped valid e y = (same_expression shorten also has says size scope ∙ shaped.0, ready_value size scope d shaped.0 shaped.1 valid e y)
    ready_value (Package n elements) scope d x shaped valid e y = (shaped.0, ready_elements elements scope d shaped.1 valid e y)
    ready_value (VarPackage size elements) scope d x shaped valid e y =
        (same_expression shorten also has says size scope ∙ shaped.0, ready_value size scope d shaped.0 shaped.1 valid (left_none _ (names_all whole elements scope d) e) (left_none _ (element_types_all whole elements scope) y), ready_elements elements scope d shaped.2 valid (right_none (names whole size scope d) _ e) (right_none (types whole size scope) _ y))
    ready_value (CondRefOf place target) scope d x shaped valid e y =
        (ready_cond place scope d shaped.0 valid (left_none _ (names whole target scope d) e) (left_none _ (spot_types whole target scope) y), ready_spot target scope d shaped.1 valid (right_none (cond_errors whole place (names whole place scope d) scope) _ e) (right_none (spot_types whole place scope) _ y))
    ready_value (Operated op args) scope d x shaped valid e y = absurd shaped.0
    ready_value (Assigned target value) scope d x shaped valid e y = absurd shaped.0
    ready_value (AssignedBy op target value) scope d x shaped valid e y = absurd shaped.0
    ready_value t scope d x shaped valid e y = absurd (grind arith)

    -- a term that stands for a place
    ready_spot : (t : Tree) (scope : AbsolutePath) (d : Declarations) → IsShapedSpot t → AreSegments scope → names whole t scope d ≡ [] → spot_types whole t scope ≡ [] → IsSpot (Unit {0}) known (spelled shorten also has says t scope) scope
    ready_spot Omitted scope d shaped valid e y = tt
    ready_spot Debug scope d shaped valid e y = tt
    ready_spot (InSlot slot) scope d shaped valid e y = shaped
    ready_spot (Use at name) scope d shaped valid e y = let f = found shorten at name scope shaped valid e in (f.path, f.spells)
    ready_spot (Apply op args targets) scope d shaped valid e y = (
      shaped.0,
      by_spot_form whole (spot_form op) _ _ _ _ _ _ shaped.1 y (λ h y. (
        ready_operands (asked_by op) (row_of op).operands args scope d h.0 valid (left_none _ (names_all whole targets scope d) e) (left_none _ (spot_types_all whole targets scope) y),
        count_same shorten also has says targets scope
            ∙ h.1,
        ready_spots targets scope d h.2 valid (right_none (names_all whole args scope d) _ e) (right_none (operand_types whole (asked_by op) (row_of op).operands args scope) _ y),
      )) (λ h y. ready_alone args targets scope d h valid (left_none _ (names_all whole targets scope d) e) y),
    )
    ready_spot (Operated op args) scope d shaped valid e y = absurd shaped.0
    ready_spot t scope d shaped valid e y = absurd shaped

    ready_cond : (t : Tree) (scope : AbsolutePath) (d : Declarations) → IsShapedSpot t → AreSegments scope → cond_errors whole t (names whole t scope d) scope ≡ [] → spot_types whole t scope ≡ [] → CondReady known (spelled shorten also has says t scope) (IsSpot (Unit {0}) known (spelled shorten also has says t scope) scope) scope
    ready_cond (Use at name) scope d shaped valid e y = few_candidates shorten name scope shaped valid
    ready_cond Omitted scope d shaped valid e y = tt
    ready_cond Debug scope d shaped valid e y = tt
    ready_cond (InSlot slot) scope d shaped valid e y = shaped
    ready_cond (Apply op args targets) scope d shaped valid e y = (
      shaped.0,
      by_spot_form whole (spot_form op) _ _ _ _ _ _ shaped.1 y (λ h y. (
        ready_operands (asked_by op) (row_of op).operands args scope d h.0 valid (left_none _ (names_all whole targets scope d) e) (left_none _ (spot_types_all whole targets scope) y),
        count_same shorten also has says targets scope
            ∙ h.1,
        ready_spots targets scope d h.2 valid (right_none (names_all whole args scope d) _ e) (right_none (operand_types whole (asked_by op) (row_of op).operands args scope) _ y),
      )) (λ h y. ready_alone args targets scope d h valid (left_none _ (names_all whole targets scope d) e) y),
    )
    ready_cond (Operated op args) scope d shaped valid e y = absurd shaped.0
    ready_cond t scope d shaped valid e y = absurd shaped

    ready_alone : (args targets : Trees) (scope : AbsolutePath) (d : Declarations) → IsShapedAlone args targets → AreSegments scope → names_all whole args scope d ≡ [] → first_types whole args scope ≡ [] → IsAlone (Unit {0}) known (spelled_all shorten also has says args scope) (spelled_all shorten also has says targets scope) scope
    ready_alone (tree t no_trees) no_trees scope d shaped valid e y =
        (same_expression shorten also has says t scope ∙ shaped.0, ready_value t scope d shaped.0 shaped.1 valid (left_none _ (names_all whole no_trees scope (declare t scope d)) e) y)
    ready_alone (tree t no_trees) (tree u us) scope d shaped valid e y = absurd shaped
    ready_alone (tree t (tree u us)) targets scope d shaped valid e y = absurd shaped
    ready_alone no_trees targets scope d shaped valid e y = absurd shaped

    ready_operands : (asked : Asked) (letters : List Letter) (ts : Trees) (scope : AbsolutePath) (d : Declarations) → AreShapedOperands letters ts → AreSegments scope → names_all whole ts scope d ≡ [] → operand_types whole asked letters ts scope ≡ [] → AreOperands (Unit {0}) known letters (spelled_all shorten also has says ts scope) scope
    ready_operands asked [] no_trees scope d shaped valid e y = tt
    ready_operands asked [] (tree t ts) scope d shaped valid e y = absurd shaped
    ready_operands asked (letter ∷ letters) no_trees scope d shaped valid e y = absurd shaped
    ready_operands asked (letter ∷ letters) (tree t ts) scope d shaped valid e y =
        let e0 = left_none _ (names_all whole ts scope (declare t scope d)) e in (
          ready_letter letter asked t scope d _ _ shaped.0 valid e0 (left_none _ (operand_types whole asked letters ts scope) y) (λ h y. (same_expression shorten also has says t scope ∙ h.0, ready_value t scope d h.0 h.1 valid e0 y)) (λ h y. ready_spot t scope d h valid e0 y),
          ready_operands asked letters ts scope (declare t scope d) shaped.1 valid (right_none (names whole t scope d) _ e) (right_none (letter_types whole letter (types whole t scope) (spot_types whole t scope) (used_types whole asked t scope)) _ y),
        )

    ready_spots : (ts : Trees) (scope : AbsolutePath) (d : Declarations) → AreShapedSpots ts → AreSegments scope → names_all whole ts scope d ≡ [] → spot_types_all whole ts scope ≡ [] → AreSpots (Unit {0}) known (spelled_all shorten also has says ts scope) scope
    ready_spots no_trees scope d shaped valid e y = tt
    ready_spots (tree t ts) scope d shaped valid e y =
        (ready_spot t scope d shaped.0 valid (left_none _ (names_all whole ts scope (declare t scope d)) e) (left_none _ (spot_types_all whole ts scope) y), ready_spots ts scope (declare t scope d) shaped.1 valid (right_none (names whole t scope d) _ e) (right_none (spot_types whole t scope) _ y))

    ready_values : (ts : Trees) (scope : AbsolutePath) (d : Declarations) → AreShapedValues ts → AreSegments scope → names_all whole ts scope d ≡ [] → types_all whole ts scope ≡ [] → AreValues (Unit {0}) known (spelled_all shorten also has says ts scope) scope
    ready_values no_trees scope d shaped valid e y = tt
    ready_values (tree t ts) scope d shaped valid e y =
        (same_expression shorten also has says t scope ∙ shaped.0, ready_value t scope d shaped.0 shaped.1 valid (left_none _ (names_all whole ts scope (declare t scope d)) e) (left_none _ (types_all whole ts scope) y), ready_values ts scope (declare t scope d) shaped.2 valid (right_none (names whole t scope d) _ e) (right_none (types whole t scope) _ y))

    ready_elements : (ts : Trees) (scope : AbsolutePath) (d : Declarations) → AreShapedElements ts → AreSegments scope → names_all whole ts scope d ≡ [] → element_types_all whole ts scope ≡ [] → AreElements (Unit {0}) known (spelled_elements shorten also has says ts scope) scope
    ready_elements no_trees scope d shaped valid e y = tt
    ready_elements (tree t ts) scope d shaped valid e y =
        let e0 = left_none _ (names_all whole ts scope (declare t scope d)) e in
        (ready_element t scope d shaped.0 valid e0 (left_none _ (element_types_all whole ts scope) y) (λ x h y. ready_value t scope d x h valid e0 y), ready_elements ts scope (declare t scope d) shaped.1 valid (right_none (names whole t scope d) _ e) (right_none (element_types whole t (types whole t scope)) _ y))

  -- a used name without errors is found
  is_found : (at : At) (name : Path) (scope : AbsolutePath) → IsUsedName name → AreSegments scope → use_errors whole at name scope ≡ [] → IsFound known (spelled_use also has shorten name scope) scope
  is_found at name scope used valid e = let f = found shorten at name scope used valid e in (f.path, f.spells)

  -- the units of a field are known, and its connections are found
  ready_units : (items : List (FieldItem UnitName)) (scope : AbsolutePath) (d : Declarations) (at : ℕ) → AreItems at items → AreSegments scope → items_errors whole items scope d ≡ [] → Within (declare_items items scope d) whole.all → AreUnits known (items_spelled shorten also has items scope) scope
  ready_units [] scope d at shaped valid e w = tt
  ready_units (UnitItem name bits ∷ items) scope d at shaped valid e w =
      let d' = with_declared (name.segment ∷ scope) as_unit d in
      let e' = right_none (declared_errors whole name.at (unit_path name.segment) scope d) _ e in
      let w' = within_then d' (declare_items items scope d') whole.all (within_items whole items scope d' e') w in
      let written : IsName (unit_path name.segment) = record { segments = (shaped.0.0, tt); count = omega arith; rooted = λ root. refl } in
      ((declared_known name.at (unit_path name.segment) scope d as_unit (left_none _ (items_errors whole items scope d') e) w' written).is, ready_units items scope d' (at + bits) shaped.1 valid e' w)
  ready_units (SkipItem bits ∷ items) scope d at shaped valid e w = ready_units items scope d (at + bits) shaped.1 valid e w
  ready_units (OffsetItem bytes ∷ items) scope d at shaped valid e w = ready_units items scope d (8 * bytes) shaped.1 valid e w
  ready_units (AccessItem access attribute length ∷ items) scope d at shaped valid e w = ready_units items scope d at shaped.1 valid e w
  ready_units (ConnectionItem (ToName to name) ∷ items) scope d at shaped valid e w =
      (is_found to name scope shaped.0 valid (left_none _ (items_errors whole items scope d) e), ready_units items scope d at shaped.1 valid (right_none (use_errors whole to name scope) _ e) w)
  ready_units (ConnectionItem (ToBytes bytes) ∷ items) scope d at shaped valid e w = (tt, ready_units items scope d at shaped.1 valid e w)

  -- the items of a field can be written once their names are spelled
  ready_items : (items : List (FieldItem UnitName)) (scope : AbsolutePath) (at : ℕ) → AreItems at items → AreUnits known (items_spelled shorten also has items scope) scope → AreItems at (items_spelled shorten also has items scope)
  ready_items [] scope at shaped units = tt
  ready_items (UnitItem name bits ∷ items) scope at shaped units = (shaped.0, ready_items items scope (at + bits) shaped.1 units.1)
  ready_items (SkipItem bits ∷ items) scope at shaped units = (shaped.0, ready_items items scope (at + bits) shaped.1 units)
  ready_items (OffsetItem bytes ∷ items) scope at shaped units = (shaped.0, ready_items items scope (8 * bytes) shaped.1 units)
  ready_items (AccessItem access attribute length ∷ items) scope at shaped units = (shaped.0, ready_items items scope at shaped.1 units)
  ready_items (ConnectionItem (ToName to name) ∷ items) scope at shaped units = (units.0.1.used, ready_items items scope at shaped.1 units.1)
  ready_items (ConnectionItem (ToBytes bytes) ∷ items) scope at shaped units = (tt, ready_items items scope at shaped.1 units.1)

  mutual
    ready : (t : Tree) (scope : AbsolutePath) (d : Declarations) → IsShaped t → AreSegments scope → names whole t scope d ≡ [] → types whole t scope ≡ [] → Within (declare t scope d) whole.all → IsReady (Unit {0}) known (spelled shorten also has says t scope) scope
    ready (Integer number) scope d shaped valid e y w = ready_value (Integer number) scope d refl shaped valid e y
    ready (Constant literal) scope d shaped valid e y w = ready_value (Constant literal) scope d refl shaped valid e y
    ready (String text) scope d shaped valid e y w = ready_value (String text) scope d refl shaped valid e y
    ready (InSlot slot) scope d shaped valid e y w = ready_value (InSlot slot) scope d refl shaped valid e y
    ready Debug scope d shaped valid e y w = ready_value Debug scope d refl shaped valid e y
    ready (Use at name) scope d shaped valid e y w = ready_value (Use at name) scope d refl shaped valid e y
    ready (Call at name args) scope d shaped valid e y w = ready_value (Call at name args) scope d refl shaped valid e y
    ready (Apply op args targets) scope d shaped valid e y w = ready_value (Apply op args targets) scope d refl shaped valid e y
    ready (Buffer size bytes) scope d shaped valid e y w = ready_value (Buffer size bytes) scope d refl shaped valid e y
    ready (Package n elements) scope d shaped valid e y w = ready_value (Package n elements) scope d refl shaped valid e y
    ready (VarPackage size elements) scope d shaped valid e y w = ready_value (VarPackage size elements) scope d refl shaped valid e y
    ready (CondRefOf place target) scope d shaped valid e y w = ready_value (CondRefOf place target) scope d refl shaped valid e y
    ready Omitted scope d shaped valid e y w = absurd shaped
    ready (Raw size number) scope d shaped valid e y w = absurd shaped
    ready (Return value) scope d shaped valid e y w = (same_expression shorten also has says value scope ∙ shaped.0, ready_value value scope d shaped.0 shaped.1 valid e y)
    ready (Name at name value) scope d shaped valid e y w =
        (declared_known at name scope d (As DataObject) (left_none _ (names whole value scope d) e) w shaped.0, same_expression shorten also has says value scope ∙ shaped.1, ready_value value scope d shaped.1 shaped.2 valid (right_none (declared_errors whole at name scope d) _ e) y)
    ready (Alias from source at name) scope d shaped valid e y w =
        let f = found shorten from source scope shaped.0 valid (left_none _ (declared_errors whole at name scope d) e) in
        let k = declared_known at name scope d (AliasOf source scope) (right_none (use_errors whole from source scope) _ e) w shaped.1 in
        (f.path, f.spells, record { written = k.written; is = k.is ∙ ap (λ o. Some (AliasTo o)) (sym (same_denoted source scope) ∙ f.denotes) })
    ready (External here at name type parameters) scope d shaped valid e y w = shaped
    ready (Method at name flags body) scope d shaped valid e y w =
        let path = declared_path name scope in
        let d' = with_declared path (As (MethodObject flags)) d in
        let e' = right_none (declared_errors whole at name scope d) _ e in
        let w' = within_then d' (declare_all body path d') whole.all (within_all whole body path d' e') w in
        (declared_known at name scope d (As (MethodObject flags)) (left_none _ (names_all whole body path d') e) w' shaped.0, shaped.1, ready_all body path d' shaped.2 (place_segments name scope shaped.0 valid) e' y w)
    ready (Mutex at name level) scope d shaped valid e y w = (declared_known at name scope d (As (MutexObject level)) e w shaped.0, shaped.1)
    ready (Event at name) scope d shaped valid e y w = declared_known at name scope d (As EventObject) e w shaped
    ready (Container' kind at name body) scope d shaped valid e y w =
        let path = declared_path name scope in
        let d' = with_declared path (As (ContainerObject kind)) d in
        let e' = right_none (declared_errors whole at name scope d) _ e in
        let w' = within_then d' (declare_all body path d') whole.all (within_all whole body path d' e') w in
        (declared_known at name scope d (As (ContainerObject kind)) (left_none _ (names_all whole body path d') e) w' shaped.0, shaped.1, ready_all body path d' shaped.2 (place_segments name scope shaped.0 valid) e' y w)
    ready (Scope here at name body) scope d shaped valid e y w =
        let inner = scope_path d name scope in
        let e0 = left_none (use_errors whole at name scope ++ scope_errors whole here at name scope d) (names_all whole body inner d) e in
        let f = found false at name scope shaped.0 valid (left_none _ (scope_errors whole here at name scope d) e0) in
        let den : denoted (is_named whole.all) name scope ≡ Some f.path = sym (same_denoted name scope) ∙ f.denotes in
        let es : unless (is_same_path f.path inner) (Missing at name) ++ unless (is_container (final known f.path)) (NoContainer here name) ≡ [] =
        ap (λ o. choose o [] (λ path. unless (is_same_path path inner) (Missing at name) ++ unless (is_container (final known path)) (NoContainer here name))) (sym den) ∙ right_none (use_errors whole at name scope) _ e0 in
        let is : f.path ≡ inner = is_same_path-true f.path inner (holds (is_same_path f.path inner) (Missing at name) (left_none _ (unless (is_container (final known f.path)) (NoContainer here name)) es)) in
        let y' : types_all whole body f.path ≡ [] = ap (λ o. types_all whole body (choose o [] (λ path. path))) (sym den) ∙ y in
        let at_path : AreReady (Unit {0}) known (spelled_all shorten also has says body f.path) f.path =
        ready_all body f.path d shaped.1 f.segments (ap (λ p. names_all whole body p d) is ∙ right_none (use_errors whole at name scope ++ scope_errors whole here at name scope d) _ e) y' (subst (λ p. Within (declare_all body p d) whole.all) (sym is) w) in
        (f.path, f.spells, subst (λ p. AreReady (Unit {0}) known (spelled_all shorten also has says body p) f.path) (sym (ap (λ o. choose o [] (λ path. path)) f.denotes)) at_path)
    ready (If test body) scope d shaped valid e y w =
        (same_expression shorten also has says test scope ∙ shaped.0, ready_value test scope d shaped.0 shaped.1 valid (left_none _ (names_all whole body scope d) e) (left_none _ (types_all whole body scope) y), ready_all body scope d shaped.2 valid (right_none (names whole test scope d) _ e) (right_none (types whole test scope) _ y) w)
    ready (ElseIf test body) scope d shaped valid e y w =
        (tt, same_expression shorten also has says test scope ∙ shaped.0, ready_value test scope d shaped.0 shaped.1 valid (left_none _ (names_all whole body scope d) e) (left_none _ (types_all whole body scope) y), ready_all body scope d shaped.2 valid (right_none (names whole test scope d) _ e) (right_none (types whole test scope) _ y) w)
    ready (Else body) scope d shaped valid e y w = ready_all body scope d shaped valid e y w
    ready (While test body) scope d shaped valid e y w =
        (same_expression shorten also has says test scope ∙ shaped.0, ready_value test scope d shaped.0 shaped.1 valid (left_none _ (names_all whole body scope d) e) (left_none _ (types_all whole body scope) y), ready_all body scope d shaped.2 valid (right_none (names whole test scope d) _ e) (right_none (types whole test scope) _ y) w)
    ready Break scope d shaped valid e y w = tt
    ready Continue scope d shaped valid e y w = tt
    ready (OperationRegion at name space args) scope d shaped valid e y w =
        (declared_known at name scope d (As (RegionObject space 0 0)) (left_none _ (names_all whole args scope d) e) w shaped.0, shaped.1, ready_operands Anything region_letters args scope d shaped.2 valid (right_none (declared_errors whole at name scope d) _ e) y)
    ready (Field here from region flags items) scope d shaped valid e y w =
        let units = ready_units items scope d 0 shaped.2 valid (right_none (use_errors whole from region scope) _ e) w in
        (is_found from region scope shaped.0 valid (left_none _ (items_errors whole items scope d) e), shaped.1, ready_items items scope 0 shaped.2 units, units)
    ready (IndexField here from index to register flags items) scope d shaped valid e y w =
        let e' = right_none (use_errors whole from index scope) _ e in
        let units = ready_units items scope d 0 shaped.3 valid (right_none (use_errors whole to register scope) _ e') w in
        (is_found from index scope shaped.0 valid (left_none _ (use_errors whole to register scope ++ items_errors whole items scope d) e), is_found to register scope shaped.1 valid (left_none _ (items_errors whole items scope d) e'), shaped.2, ready_items items scope 0 shaped.3 units, units)
    ready (BankField here from region to bank value flags items) scope d shaped valid e y w =
        let e' = right_none (use_errors whole from region scope) _ e in
        let e'' = right_none (use_errors whole to bank scope) _ e' in
        let y' = right_none (asked_types whole AUnit to bank scope) (types whole value scope) (right_none (asked_types whole (ARegion here) from region scope) _ y) in
        let units = ready_units items scope d 0 shaped.5 valid (right_none (names whole value scope d) _ e'') w in (
          is_found from region scope shaped.0 valid (left_none _ (use_errors whole to bank scope ++ (names whole value scope d ++ items_errors whole items scope d)) e),
          is_found to bank scope shaped.1 valid (left_none _ (names whole value scope d ++ items_errors whole items scope d) e'),
          same_expression shorten also has says value scope
              ∙ shaped.2,
          ready_value value scope d shaped.2 shaped.3 valid (left_none _ (items_errors whole items scope d) e'') y',
          shaped.4,
          ready_items items scope 0 shaped.5 units,
          units,
        )
    ready (CreateField form args at name) scope d shaped valid e y w =
        (ready_operands Anything (field_letters form) args scope d shaped.0 valid (left_none _ (declared_errors whole at name scope d) e) y, declared_known at name scope d as_buffer_field (right_none (names_all whole args scope d) _ e) w shaped.1)
    ready (Item item) scope d shaped valid e y w = absurd shaped
    ready (Fill bytes) scope d shaped valid e y w = absurd shaped
    ready (Operated op args) scope d shaped valid e y w = absurd shaped.0
    ready (Assigned target value) scope d shaped valid e y w = absurd shaped.0
    ready (AssignedBy op target value) scope d shaped valid e y w = absurd shaped.0
    ready (Switch value cases) scope d shaped valid e y w = absurd shaped.0
    ready (Case value body) scope d shaped valid e y w = absurd shaped
    ready (Default body) scope d shaped valid e y w = absurd shaped
    ready (For start test step body) scope d shaped valid e y w = absurd shaped.0
    ready (Print place format args) scope d shaped valid e y w = absurd shaped.0
    ready Misshapen scope d shaped valid e y w = absurd shaped

    pub ready_all : (ts : Trees) (scope : AbsolutePath) (d : Declarations) → AreShaped ts → AreSegments scope → names_all whole ts scope d ≡ [] → types_all whole ts scope ≡ [] → Within (declare_all ts scope d) whole.all → AreReady (Unit {0}) known (spelled_all shorten also has says ts scope) scope
    ready_all no_trees scope d shaped valid e y w = tt
    ready_all (tree t ts) scope d shaped valid e y w =
        let e' = right_none (names whole t scope d) (names_all whole ts scope (declare t scope d)) e in
        (ready t scope d shaped.0 valid (left_none _ (names_all whole ts scope (declare t scope d)) e) (left_none _ (types_all whole ts scope) y) (within_then (declare t scope d) (declare_all ts scope (declare t scope d)) whole.all (within_all whole ts scope (declare t scope d) e') w), ready_all ts scope (declare t scope d) shaped.2 valid e' (right_none (types whole t scope) _ y) w)
