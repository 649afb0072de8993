-- What a block mentions without the terms that declare its descriptors.
use Rattle.std.proofs.Common.{◌≡◌, Bool, true, false, List, [], ◌∷◌, ◌++◌, Option, Some, None, refl, sym, ap, ◌∙◌, subst, append_assoc, arith}
use Rattle.std.specs.Prelude.{if◌then◌else◌, is_some}
use Rattle.acpi_values.specs.Paths.{AbsolutePath, is_same_path}
use Rattle.acpi_state.proofs.Lookups.{is_same_path-true}
use Rattle.acpi_state.specs.Objects.{MethodObject, ContainerObject, RegionObject, DataObject, MutexObject, EventObject}
use Rattle.acpi_state.specs.FieldActs.{region_letters, field_letters}
use Rattle.acpi_state.specs.Outcomes.{choose}
use Rattle.asl_tree.specs.declared.path.Path.{Path}
use Rattle.asl_tree.specs.Names.{declared_path, denoted, search_path, first_of}
use Rattle.asl_tree.specs.Tree.{At, Tree, Return, Name, Alias, External, Method, Mutex, Event, Container', Scope, Fill, Trees, no_trees, tree, OperationRegion, Field, IndexField, BankField, CreateField, If, ElseIf, Else, While, For, Print, Switch, Case, Default}
use Rattle.asl_meaning.specs.Declarations.{Declared, As, AliasOf, Declarations, is_named, scope_path, with_declared, declare, as_buffer_field, nothing_declared}
use Rattle.acpi_names.specs.Errors.{NameError, Missing, NoContainer, Anything, AnObject, ARegion, AUnit, unless, Whole, use_errors, declared_errors, is_container, final, step_errors}
use Rattle.acpi_names.specs.Mentions.{Mention, Used', Declares, Outside, Opens, after, after_all, all_errors, mention_errors, opening_errors, is_spot, mentions, mentions_all, operand_mentions, item_mentions, term_mentions, block_mentions}
use Rattle.acpi_names.proofs.Mentions.{after_term, quiet}
use Rattle.unused_names.specs.Unused.{TwinUse, TwinDeclares, TwinOpens, Drops, NoMentions, Dropped, Stayed, is_gone, Spares, AreSpared}
use Rattle.unused_names.specs.Left.{declares_descriptor, left_term, left_terms, Marks, AllMarks}
use Rattle.unused_names.proofs.Less.{Less, less_after, less_stayed, named_less}
use Rattle.unused_names.proofs.Finds.{same_denoted}
use Rattle.unused_names.proofs.Errors.{left_none, right_none}
use Rattle.unused_names.proofs.Pieces.{drops_same, drops_both, Outer, outer_after, value_stays, values_stay, operands_stay, units_stay}

-- what is declared before a term, with and without descriptors
pub record Before (gone : AbsolutePath → Bool) (d d' : Declarations) : Type 0 where
  pub less : Less gone d d'
  pub outer : Outer gone d

less_same : (gone : AbsolutePath → Bool) (d e d' e' : Declarations) → d ≡ e → d' ≡ e' → Less gone d d' → Less gone e e'
less_same gone d e d' e' h k less = subst (λ x. Less gone e x) k (subst (λ x. Less gone x d') h less)

outer_same : (gone : AbsolutePath → Bool) (d e : Declarations) → d ≡ e → Outer gone d → Outer gone e
outer_same gone d e h outer = subst (λ x. Outer gone x) h outer

module _ (gone : AbsolutePath → Bool) (w : Whole) where
  abbrev has : AbsolutePath → Bool
  has = is_named w.all

  errors_append : (a b : List Mention) (d : Declarations) → all_errors w (a ++ b) d ≡ all_errors w a d ++ all_errors w b (after_all a d)
  errors_append [] b d = refl
  errors_append (m ∷ a) b d =
      ap (λ es. mention_errors w m d ++ es) (errors_append a b (after m d)) ∙ sym (append_assoc (mention_errors w m d) (all_errors w a (after m d)) (all_errors w b (after_all a (after m d))))

  pub errors_left : (a b : List Mention) (d : Declarations) → all_errors w (a ++ b) d ≡ [] → all_errors w a d ≡ []
  errors_left a b d h = left_none (all_errors w a d) (all_errors w b (after_all a d)) (sym (errors_append a b d) ∙ h)

  pub errors_right : (a b : List Mention) (d e : Declarations) → after_all a d ≡ e → all_errors w (a ++ b) d ≡ [] → all_errors w b e ≡ []
  errors_right a b d e same h = ap (all_errors w b) (sym same) ∙ right_none (all_errors w a d) (all_errors w b (after_all a d)) (sym (errors_append a b d) ∙ h)

  spared_left : (a b : List Mention) → AreSpared gone has (a ++ b) → AreSpared gone has a
  spared_left [] b h = tt
  spared_left (m ∷ a) b h = (h.0, spared_left a b h.1)

  spared_right : (a b : List Mention) → AreSpared gone has (a ++ b) → AreSpared gone has b
  spared_right [] b h = h
  spared_right (m ∷ a) b h = spared_right a b h.1

  -- the path of a Scope that opens where it stands what it opens over the whole block
  same_first : (q inner : AbsolutePath) (e : NameError) → unless (is_same_path q inner) e ≡ [] → q ≡ inner
  same_first q inner e h = by_same (is_same_path q inner) refl h
    where
      by_same : (b : Bool) → is_same_path q inner ≡ b → unless b e ≡ [] → q ≡ inner
      by_same true k h = is_same_path-true q inner k
      by_same false k h = absurd cc

  denoted_there : (here at : At) (name : Path) (scope inner : AbsolutePath) → Spares gone has name scope → mention_errors w (Opens here at name scope inner) nothing_declared ≡ [] → gone inner ≡ false
  denoted_there here at name scope inner spares h = by_path (denoted has name scope) refl spares (right_none (step_errors at name scope) _ (left_none (use_errors w at name scope) _ h)) (right_none (use_errors w at name scope) _ h)
    where
      by_path : (o : Option AbsolutePath) → denoted has name scope ≡ o → is_gone gone has o ≡ false → unless (is_some (denoted has name scope)) (Missing at name) ≡ [] → opening_errors w here at name scope inner ≡ [] → gone inner ≡ false
      by_path None e k m h = absurd (let x = sym (ap (λ o. unless (is_some o) (Missing at name)) e) ∙ m in grind arith)
      by_path (Some q) e k m h =
          let told = sym (ap (λ o. choose o [] (λ path. unless (is_same_path path inner) (Missing at name) ++ unless (is_container (final w.known path)) (NoContainer here name))) e) ∙ h in
          ap gone (sym (same_first q inner (Missing at name) (left_none (unless (is_same_path q inner) (Missing at name)) _ told))) ∙ k

  scope_same : (name : Path) (scope : AbsolutePath) (d d' : Declarations) → Before gone d d' → gone (scope_path d name scope) ≡ false → scope_path d' name scope ≡ scope_path d name scope
  scope_same name scope d d' before h =
      ap (λ o. choose o (choose (first_of (search_path name scope)) [] (λ path. path)) (λ path. path))
      (same_denoted gone (is_named d) (is_named d') (λ p. named_less gone d d' before.less p (before.outer p)) name scope (by_path (denoted (is_named d) name scope) refl))
    where
      by_path : (o : Option AbsolutePath) → denoted (is_named d) name scope ≡ o → is_gone gone (is_named d) o ≡ false
      by_path None e = refl
      by_path (Some q) e = ap gone (sym (ap (λ o. choose o (choose (first_of (search_path name scope)) [] (λ path. path)) (λ path. path)) e)) ∙ h

  in_new : (path : AbsolutePath) (as' : Declared) (d d' : Declarations) → gone path ≡ false → Before gone d d' → Before gone (with_declared path as' d) (with_declared path as' d')
  in_new path as' d d' h before = record { less = less_stayed gone path as' d d' h before.less; outer = before.outer }

  -- behind a term
  behind : (t t' : Tree) (scope : AbsolutePath) (d d' : Declarations) → Before gone d d' → Drops gone (term_mentions t scope d) (term_mentions t' scope d') → Before gone (declare t scope d) (declare t' scope d')
  behind t t' scope d d' before drops = record {
    less = less_same gone (after_all (term_mentions t scope d) d) (declare t scope d) (after_all (term_mentions t' scope d') d') (declare t' scope d') (after_term t scope d) (after_term t' scope d') (less_after gone drops d d' before.less);
    outer = outer_same gone (after_all (term_mentions t scope d) d) (declare t scope d) (after_term t scope d) (outer_after gone drops d before.outer);
  }

  behind_dropped : (t : Tree) (scope : AbsolutePath) (d d' : Declarations) → Before gone d d' → Drops gone (term_mentions t scope d) [] → Before gone (declare t scope d) d'
  behind_dropped t scope d d' before drops = record {
    less = less_same gone (after_all (term_mentions t scope d) d) (declare t scope d) d' d' (after_term t scope d) refl (less_after gone drops d d' before.less);
    outer = outer_same gone (after_all (term_mentions t scope d) d) (declare t scope d) (after_term t scope d) (outer_after gone drops d before.outer);
  }

  value : (t : Tree) (scope : AbsolutePath) → Drops gone (mentions true t scope) (mentions true t scope)
  value t scope = drops_same gone (mentions true t scope) (value_stays gone true t scope)

  -- a term that declares a descriptor has no other mention
  gone_term : (t : Tree) (scope : AbsolutePath) (d : Declarations) → declares_descriptor t ≡ true → Marks gone t scope d → Drops gone (term_mentions t scope d) []
  gone_term (Name at name (Fill bytes)) scope d e h = Dropped at name (As DataObject) scope h NoMentions
  gone_term (Name at name _) scope d e h = absurd cc
  gone_term _ scope d e h = absurd cc

  -- a test or a value, and terms
  with_body : (v : Tree) (body : Trees) (scope : AbsolutePath) (d d' : Declarations) → (AreSpared gone has (block_mentions body scope d) → all_errors w (block_mentions body scope d) d ≡ [] → Drops gone (block_mentions body scope d) (block_mentions (left_terms body) scope d')) → AreSpared gone has (mentions true v scope ++ block_mentions body scope d)
      → all_errors w (mentions true v scope ++ block_mentions body scope d) d ≡ [] → Drops gone (mentions true v scope ++ block_mentions body scope d) (mentions true v scope ++ block_mentions (left_terms body) scope d')
  with_body v body scope d d' go spared h =
      drops_both gone (value v scope) (go (spared_right (mentions true v scope) (block_mentions body scope d) spared) (errors_right (mentions true v scope) (block_mentions body scope d) d d (quiet true v scope d) h))

  next : (t : Tree) (ts : Trees) (scope : AbsolutePath) (d d' : Declarations) (b : Bool) → declares_descriptor t ≡ b → Before gone d d' → (declares_descriptor t ≡ false → Drops gone (term_mentions t scope d) (term_mentions (left_term t) scope d')) → (declares_descriptor t ≡ true → Drops gone (term_mentions t scope d) [])
      → ((d'' : Declarations) → Before gone (declare t scope d) d'' → Drops gone (block_mentions ts scope (declare t scope d)) (block_mentions (left_terms ts) scope d'')) → Drops gone (term_mentions t scope d ++ block_mentions ts scope (declare t scope d)) (block_mentions (if b then left_terms ts else tree (left_term t) (left_terms ts)) scope d')
  next t ts scope d d' true e before stays drops go = drops_both gone (drops e) (go d' (behind_dropped t scope d d' before (drops e)))
  next t ts scope d d' false e before stays drops go = drops_both gone (stays e) (go (declare (left_term t) scope d') (behind t (left_term t) scope d d' before (stays e)))

  mutual
    term : (t : Tree) (scope : AbsolutePath) (d d' : Declarations) → Before gone d d' → declares_descriptor t ≡ false → Marks gone t scope d → AreSpared gone has (term_mentions t scope d) → all_errors w (term_mentions t scope d) d ≡ [] → Drops gone (term_mentions t scope d) (term_mentions (left_term t) scope d')
    term (Return v) scope d d' before e marks spared h = value v scope
    term (Name at name v) scope d d' before e marks spared h = Stayed (TwinDeclares at at name (As DataObject) scope) (marks ∙ e) (value v scope)
    term (Alias from source at name) scope d d' before e marks spared h = drops_same gone (Used' AnObject from source scope ∷ Declares at name (AliasOf source scope) scope ∷ []) (tt, (marks, tt))
    term (External here at name type parameters) scope d d' before e marks spared h = drops_same gone (Outside here at name (record { type = type; parameters = parameters }) scope ∷ []) (marks, tt)
    term (Method at name flags body) scope d d' before e marks spared h =
        let path : AbsolutePath = declared_path name scope in
        Stayed (TwinDeclares at at name (As (MethodObject flags)) scope) marks.0
        (block body path (with_declared path (As (MethodObject flags)) d) (with_declared path (As (MethodObject flags)) d') (in_new path (As (MethodObject flags)) d d' marks.0 before) marks.1 spared.1 (right_none (declared_errors w at name scope d) _ h))
    term (Mutex at name level) scope d d' before e marks spared h = drops_same gone (Declares at name (As (MutexObject level)) scope ∷ []) (marks, tt)
    term (Event at name) scope d d' before e marks spared h = drops_same gone (Declares at name (As EventObject) scope ∷ []) (marks, tt)
    term (Container' kind at name body) scope d d' before e marks spared h =
        let path : AbsolutePath = declared_path name scope in
        Stayed (TwinDeclares at at name (As (ContainerObject kind)) scope) marks.0
        (block body path (with_declared path (As (ContainerObject kind)) d) (with_declared path (As (ContainerObject kind)) d') (in_new path (As (ContainerObject kind)) d d' marks.0 before) marks.1 spared.1 (right_none (declared_errors w at name scope d) _ h))
    term (Scope here at name body) scope d d' before e marks spared h =
        let inner : AbsolutePath = scope_path d name scope in
        let opens = left_none (mention_errors w (Opens here at name scope inner) d) _ h in
        subst (λ r. Drops gone (Opens here at name scope inner ∷ block_mentions body inner d) (Opens here at name scope r ∷ block_mentions (left_terms body) r d'))
        (sym (scope_same name scope d d' before (denoted_there here at name scope inner spared.0 opens)))
        (Stayed (TwinOpens here here at at name scope inner) tt (block body inner d d' before marks spared.1 (right_none (mention_errors w (Opens here at name scope inner) d) _ h)))
    term (If v body) scope d d' before e marks spared h = with_body v body scope d d' (block body scope d d' before marks) spared h
    term (ElseIf v body) scope d d' before e marks spared h = with_body v body scope d d' (block body scope d d' before marks) spared h
    term (Else body) scope d d' before e marks spared h = block body scope d d' before marks spared h
    term (While v body) scope d d' before e marks spared h = with_body v body scope d d' (block body scope d d' before marks) spared h
    term (For start test step body) scope d d' before e marks spared h =
        let last = mentions true step scope ++ block_mentions body scope d in
        let later = mentions true test scope ++ last in
        let near = spared_right (mentions true start scope) later spared in
        let behind = errors_right (mentions true start scope) later d d (quiet true start scope d) h in
        drops_both gone (value start scope) (drops_both gone (value test scope)
        (with_body step body scope d d' (block body scope d d' before marks) (spared_right (mentions true test scope) last near) (errors_right (mentions true test scope) last d d (quiet true test scope d) behind)))
    term (Print place format args) scope d d' before e marks spared h =
        drops_both gone (drops_same gone (mentions (is_spot place) place scope) (value_stays gone (is_spot place) place scope)) (drops_same gone (mentions_all true args scope) (values_stay gone true args scope))
    term (Switch v cases) scope d d' before e marks spared h = with_body v cases scope d d' (block cases scope d d' before marks) spared h
    term (Case v body) scope d d' before e marks spared h = with_body v body scope d d' (block body scope d d' before marks) spared h
    term (Default body) scope d d' before e marks spared h = block body scope d d' before marks spared h
    term (OperationRegion at name space args) scope d d' before e marks spared h =
        Stayed (TwinDeclares at at name (As (RegionObject space 0 0)) scope) marks (drops_same gone (operand_mentions true Anything region_letters args scope) (operands_stay gone true Anything region_letters args scope))
    term (Field here from region flags items) scope d d' before e marks spared h =
        Stayed (TwinUse (ARegion here) from from region scope) tt (drops_same gone (item_mentions items scope) (units_stay gone items scope marks))
    term (IndexField here from index to register flags items) scope d d' before e marks spared h =
        Stayed (TwinUse AUnit from from index scope) tt (Stayed (TwinUse AUnit to to register scope) tt (drops_same gone (item_mentions items scope) (units_stay gone items scope marks)))
    term (BankField here from region to bank v flags items) scope d d' before e marks spared h =
        Stayed (TwinUse (ARegion here) from from region scope) tt (Stayed (TwinUse AUnit to to bank scope) tt (drops_both gone (value v scope) (drops_same gone (item_mentions items scope) (units_stay gone items scope marks))))
    term (CreateField form args at name) scope d d' before e marks spared h =
        drops_both gone (drops_same gone (operand_mentions true Anything (field_letters form) args scope) (operands_stay gone true Anything (field_letters form) args scope)) (drops_same gone (Declares at name as_buffer_field scope ∷ []) (marks, tt))
    term t scope d d' before e marks spared h = value t scope

    pub block : (ts : Trees) (scope : AbsolutePath) (d d' : Declarations) → Before gone d d' → AllMarks gone ts scope d → AreSpared gone has (block_mentions ts scope d) → all_errors w (block_mentions ts scope d) d ≡ [] → Drops gone (block_mentions ts scope d) (block_mentions (left_terms ts) scope d')
    block no_trees scope d d' before marks spared h = NoMentions
    block (tree t ts) scope d d' before marks spared h =
        let first : List Mention = term_mentions t scope d in
        let rest : List Mention = block_mentions ts scope (declare t scope d) in
        next t ts scope d d' (declares_descriptor t) refl before
        (λ e. term t scope d d' before e marks.0 (spared_left first rest spared) (errors_left first rest d h))
        (λ e. gone_term t scope d e marks.0)
        (λ d'' before'. block ts scope (declare t scope d) d'' before' marks.1 (spared_right first rest spared) (errors_right first rest d (declare t scope d) (after_term t scope d) h))
