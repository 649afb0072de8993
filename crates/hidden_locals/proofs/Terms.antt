-- A term that names shown Locals alone does the same where the others are hidden.
use Rattle.std.specs.Prelude.{◌||◌, ◌++◌}
use Rattle.std.proofs.Common.{◌≡◌, ℕ, Bool, false, List, [], ◌∷◌, Option, Some, None, subst}
use Rattle.acpi_values.specs.declared.width.Width.{Width}
use Rattle.acpi_values.specs.declared.operator.Plain.{Plain}
use Rattle.acpi_values.specs.declared.operator.DataOp.TheVariants as DataOp
use Rattle.acpi_values.specs.declared.fault.Fault.TheVariants.{WrongType}
use Rattle.acpi_values.specs.Paths.{AbsolutePath}
use Rattle.acpi_values.specs.Values as V
use Rattle.acpi_values.specs.Values.{Value, Data, Elements, no_elements, element}
use Rattle.acpi_values.specs.Operators.{Letter, row_of}
use Rattle.acpi_values.specs.Integers.{wrapped}
use Rattle.acpi_state.specs.Objects.{DataObject, MethodObject, ContainerObject, MutexObject, EventObject, AliasObject}
use Rattle.acpi_state.specs.FieldUnits.{InRegion, InBank, BehindIndex}
use Rattle.acpi_state.specs.Outcomes.{Flow, Normal, Gives, NoValue, Unfinished, Broken, Run, done, stop, fault, then_run, act, value_of}
use Rattle.acpi_state.specs.Outcomes as O
use Rattle.acpi_state.specs.Actions.{computed, write_named}
use Rattle.acpi_state.specs.Activations.{keep_body}
use Rattle.acpi_state.specs.Stores.{Spot, Nowhere, DebugObject, At, read, store}
use Rattle.acpi_state.specs.Acts.{Operand, OfValue, OfSpot}
use Rattle.acpi_state.specs.FieldActs.{region_letters, field_letters}
use Rattle.acpi_state.specs.Forms.{buffer_of, package_of, cond_ref_of}
use Rattle.asl_meaning.specs.FieldTerms.{first_unit}
use Rattle.acpi_state.specs.Loops.{is_true}
use Rattle.asl_tree.specs.Formats.{cut}
use Rattle.asl_tree.specs.Literals.{literal_number}
use Rattle.asl_tree.specs.Names.{Known, declared_path}
use Rattle.asl_tree.specs.Symbols.{compound_operator}
use Rattle.asl_tree.specs.Tree.{Tree, Integer, Constant, String, InSlot, Debug, Omitted, Raw, Use, Call, Apply, Buffer, Package, VarPackage, CondRefOf, Return, Name, Alias, External, Method, Mutex, Event, Container', Scope, Fill, Misshapen}
use Rattle.asl_tree.specs.Tree.{Trees, no_trees, tree, OperationRegion, Field, IndexField, BankField, CreateField, If, ElseIf, Else, While, For, Print, Switch, Case, Default, Break, Continue, Item, Operated, Assigned, AssignedBy}
use Rattle.asl_meaning.specs.Meaning as S
use Rattle.asl_meaning.specs.Meaning.{spot_form, assign_with, target_operator, leave_switch, unless_omitted, then_step}
use Rattle.hidden_locals.specs.Worlds.{World, Clear, AreClear, ClearAll, ClearSpot, ClearOperands, ClearFlow, Later}
use Rattle.hidden_locals.specs.Blind.{GivenOk}
use Rattle.hidden_locals.specs.Runs.{Reach}
use Rattle.hidden_locals.specs.Programs.{CallAlike}
use Rattle.hidden_locals.specs.Terms.{AreShown, UsesShown, UseShown}
use Rattle.hidden_locals.proofs.Places.{blind_computed, blind_write_named}
use Rattle.hidden_locals.proofs.Stores.{blind_read, blind_store}
use Rattle.hidden_locals.proofs.Forms.{blind_cond_ref, clear_package, clear_buffer, ClearIfSpot}
use Rattle.hidden_locals.proofs.Worlds.{same_world, later_then, here_later, clear_later, are_clear_later, place_later, spot_later, operand_later, operands_later, all_later}
use Rattle.hidden_locals.proofs.Runs.{Any, from_done, from_fault, from_then, from_if, from_act}
use Rattle.hidden_locals.proofs.Calls.{from_create, from_keep, from_given}
use Rattle.hidden_locals.proofs.Parts as P
use Rattle.hidden_locals.proofs.Parts.{Same, SlotShown}

pub are_shown_later : (shown : ℕ → Bool) (w w' : World) → Later w w' → AreShown shown w → AreShown shown w'
are_shown_later shown w w' later h = λ i e. here_later w w' i later (h i e)

module _ (convert : Trees → Trees) (IsKept : Trees → Type 0) (reach : Reach) (Unchanged : Trees → Type 0) (unchanged : (body : Trees) → Unchanged body → IsKept body × (convert body ≡ body)) (shown : ℕ → Bool) (width : Width) (known : Known) (turns : ℕ) (call call' : AbsolutePath → List Value → Run Trees Flow) (calls : CallAlike convert IsKept call call') where
  abbrev R : Tree → AbsolutePath → Bool → Run Trees Flow
  R = S.run width known turns call

  abbrev R' : Tree → AbsolutePath → Bool → Run Trees Flow
  R' = S.run width known turns call'

  abbrev D : (w : World) {A : Type 0} → (World → A → Type 0) → Run Trees A → Run Trees A → Type 0
  D = Same convert IsKept reach

  abbrev Uses : Tree → Type 0
  Uses = UsesShown Unchanged shown

  abbrev Use' : Trees → Type 0
  Use' = UseShown Unchanged shown

  -- how a run goes on whose result is no more asked for
  then_flow : (w : World) {A : Type 0} {P : World → A → Type 0} {m m' : Run Trees A} {k k' : A → Run Trees Flow} → D w P m m' → ((w' : World) → Later w w' → (a : A) → P w' a → D w' ClearFlow (k a) (k' a)) → D w ClearFlow (then_run m k) (then_run m' k')
  then_flow w {k' = k'} h g = from_then convert IsKept reach w ClearFlow (λ f. f) k' h g

  normal : (w : World) → D w ClearFlow (done (Normal false)) (done (Normal false))
  normal w = P.same_flow convert IsKept reach w (Normal false) (λ w'. tt)

  given : (w : World) (v : Value) → Clear w v → D w ClearFlow (done (Gives v)) (done (Gives v))
  given w v h = from_done convert IsKept reach w ClearFlow (λ f. f) (Gives v) (λ w' later. clear_later w w' later.shown v h)

  -- what is computed is the value
  made : (w : World) (r : _) → ((w' : World) → Later w w' → GivenOk (Clear w') r) → D w ClearFlow (then_run (act (computed r)) (λ v. done (Gives v))) (then_run (act (computed r)) (λ v. done (Gives v)))
  made w r h = from_given convert IsKept reach w (computed r) (λ w' later. blind_computed w' (Clear w') r (h w' later))

  slot_of_term : (t : Tree) (w : World) → AreShown shown w → Uses t → SlotShown convert IsKept reach width known w t
  slot_of_term (InSlot slot) w f h = P.slot_shown convert IsKept reach w shown f slot h
  slot_of_term _ w f h = tt

  spot_here : (w : World) (p : Spot) → ClearSpot w p → D w ClearSpot (done p) (done p)
  spot_here w p h = from_done convert IsKept reach w ClearSpot (λ p. p) p (λ w' later. spot_later w w' later.shown p h)

  -- Store of a value to the place
  stored : (w : World) {value value' : Run Trees Value} {spot spot' : Run Trees Spot} → D w Clear value value' → ((w' : World) → Later w w' → D w' ClearSpot spot spot') → D w ClearFlow (S.store_with width value spot) (S.store_with width value' spot')
  stored w hv hs =
      P.from_plain convert IsKept reach w width (Plain.Data DataOp.Store)
      (from_then convert IsKept reach w ClearOperands (λ os. os) _ hv (λ w' later v p. from_then convert IsKept reach w' ClearOperands (λ os. os) _ (hs w' later) (λ u after q r. from_done convert IsKept reach u ClearOperands (λ os. os) (OfValue v ∷ OfSpot q ∷ [])
      (λ x last. (clear_later w' x (later_then w' u x after last).shown v p, (spot_later u x last.shown q r, tt))))))
      (λ w' later rs p. P.same_any convert IsKept reach w' tt)

  assigned : (w : World) (o : Option Plain) {ops ops' : List Letter → Run Trees (List Operand)} {value value' : Run Trees Value} {spot spot' : Run Trees Spot} → ((letters : List Letter) → D w ClearOperands (ops letters) (ops' letters)) → D w Clear value value' → ((w' : World) → Later w w' → D w' ClearSpot spot spot') →
      D w ClearFlow (assign_with width o ops value spot) (assign_with width o ops' value' spot')
  assigned w (Some op) ho hv hs = P.from_operate convert IsKept reach w width op (ho (row_of op).operands) hs
  assigned w None ho hv hs = stored w hv hs

  if_spot_later : (w w' : World) → Later w w' → (o : Option Spot) → ClearIfSpot w o → ClearIfSpot w' o
  if_spot_later w w' later None h = tt
  if_spot_later w w' later (Some p) h = spot_later w w' later.shown p h

  kept : (w : World) (path : AbsolutePath) (body : Trees) → Unchanged body → D w Any (keep_body path body) (keep_body path body)
  kept w path body h = let k = unchanged body h in subst (λ b. D w Any (keep_body path body) (keep_body path b)) k.1 (from_keep convert IsKept reach w path body k.0)

  leave : (w : World) (f : Flow) → ClearFlow w f → D w ClearFlow (leave_switch f) (leave_switch f)
  leave w O.Continue h = P.same_flow convert IsKept reach w O.Continue (λ w'. tt)
  leave w (O.Return v) h = from_done convert IsKept reach w ClearFlow (λ f. f) (O.Return v) (λ w' later. clear_later w w' later.shown v h)
  leave w (Normal d) h = normal w
  leave w (Gives v) h = normal w
  leave w NoValue h = normal w
  leave w O.Break h = normal w

  -- a term that may be left out
  unless : (w : World) (t : Tree) {m m' : Run Trees Flow} → D w ClearFlow m m' → D w ClearFlow (unless_omitted t m) (unless_omitted t m')
  unless w Omitted h = normal w
  unless w t h = h

  stepped : (w : World) (f : Flow) → ClearFlow w f → {m m' : Run Trees Flow} → D w ClearFlow m m' → D w ClearFlow (then_step f m) (then_step f m')
  stepped w O.Break c h = P.same_flow convert IsKept reach w O.Break (λ u. tt)
  stepped w (O.Return v) c h = from_done convert IsKept reach w ClearFlow (λ f. f) (O.Return v) (λ w' later. clear_later w w' later.shown v c)
  stepped w (Normal d) c h = h
  stepped w (Gives v) c h = h
  stepped w NoValue c h = h
  stepped w O.Continue c h = h

  mutual
    pub runs : (t : Tree) → Uses t → (w : World) → AreShown shown w → (scope : AbsolutePath) (due : Bool) → D w ClearFlow (R t scope due) (R' t scope due)
    runs (Integer number) h w f scope due = given w (Data (V.Integer (wrapped width number))) tt
    runs (Constant literal) h w f scope due = given w (Data (V.Integer (literal_number width literal))) tt
    runs (String text) h w f scope due = given w (Data (V.String text)) tt
    runs (InSlot slot) h w f scope due =
        then_flow w (P.from_slot convert IsKept reach w slot (P.slot_shown convert IsKept reach w shown f slot h))
        (λ w' later place p. from_given convert IsKept reach w' (read width place) (λ u after. blind_read u width place (place_later w' u after.shown place p)))
    runs Debug h w f scope due = from_fault convert IsKept reach w ClearFlow (λ f. f) WrongType
    runs Omitted h w f scope due = P.same_broken convert IsKept reach w ClearFlow
    runs (Raw size number) h w f scope due = P.same_broken convert IsKept reach w ClearFlow
    runs (Use at name) h w f scope due = then_flow w (P.from_found convert IsKept reach w known name scope) (λ w' later e p. P.from_use convert IsKept reach width call call' calls w' e.0 e.1 [] tt)
    runs (Call at name args) h w f scope due =
        then_flow w (P.from_found convert IsKept reach w known name scope)
        (λ w' later e p. then_flow w' (values_of args h w' (are_shown_later shown w w' later f) scope) (λ u after vs q. P.from_written convert IsKept reach width call call' calls u e.0 e.1 vs q))
    runs (Apply op args targets) h w f scope due =
        P.from_plain convert IsKept reach w width op (operands_of (row_of op).operands args h.0 w f scope) (λ w' later rs p. stores targets h.1 w' (are_shown_later shown w w' later f) rs p scope)
    runs (Operated op args) h w f scope due = P.from_operate convert IsKept reach w width op (operands_of (row_of op).operands args h w f scope) (λ w' later. spot_here w' Nowhere tt)
    runs (Assigned target value) h w f scope due =
        assigned w (target_operator value) (λ letters. inner_of letters value h.1 w f scope) (P.from_valued convert IsKept reach w (runs value h.1 w f scope false)) (λ w' later. spots target h.0 w' (are_shown_later shown w w' later f) scope)
    runs (AssignedBy op target value) h w f scope due =
        P.from_operate convert IsKept reach w width (compound_operator op)
        (from_then convert IsKept reach w ClearOperands (λ os. os) _ (P.from_valued convert IsKept reach w (runs target h.0 w f scope false))
        (λ w' later v p. from_then convert IsKept reach w' ClearOperands (λ os. os) _ (P.from_valued convert IsKept reach w' (runs value h.1 w' (are_shown_later shown w w' later f) scope false))
        (λ u after x q. from_done convert IsKept reach u ClearOperands (λ os. os) (OfValue v ∷ OfValue x ∷ []) (λ z last. (clear_later w' z (later_then w' u z after last).shown v p, (clear_later u z last.shown x q, tt))))))
        (λ w' later. spots target h.0 w' (are_shown_later shown w w' later f) scope)
    runs (Buffer size bytes) h w f scope due = then_flow w (P.from_size convert IsKept reach w width known (runs size h w f scope false)) (λ w' later n p. made w' (buffer_of n bytes) (λ u after. clear_buffer u n bytes))
    runs (Package count items) h w f scope due = then_flow w (elements_of items h w f scope) (λ w' later es p. made w' (package_of count es) (λ u after. clear_package u count es (are_clear_later w' u after.shown es p)))
    runs (VarPackage count items) h w f scope due =
        then_flow w (P.from_size convert IsKept reach w width known (runs count h.0 w f scope false))
        (λ w' later n p. then_flow w' (elements_of items h.1 w' (are_shown_later shown w w' later f) scope) (λ u after es q. made u (package_of n es) (λ x last. clear_package x n es (are_clear_later u x last.shown es q))))
    runs (CondRefOf place target) h w f scope due =
        then_flow w (P.from_cond convert IsKept reach width known w place scope (spots place h.0 w f scope))
        (λ w' later o p. then_flow w' (spots target h.1 w' (are_shown_later shown w w' later f) scope)
        (λ u after t q. from_given convert IsKept reach u (cond_ref_of width o t) (λ x last. blind_cond_ref x width o t (if_spot_later w' x (later_then w' u x after last) o p) (spot_later u x last.shown t q))))
    runs (Return value) h w f scope due = then_flow w (P.from_valued convert IsKept reach w (runs value h w f scope false)) (λ w' later v p. from_done convert IsKept reach w' ClearFlow (λ f. f) (O.Return v) (λ u after. clear_later w' u after.shown v p))
    runs (Name at name value) h w f scope due =
        then_flow w (P.from_valued convert IsKept reach w (runs value h w f scope false))
        (λ w' later v p. then_flow w' (from_create convert IsKept reach w' (declared_path name scope) DataObject (λ u after. tt))
        (λ u after x q. then_flow u (from_act convert IsKept reach u Any (write_named (declared_path name scope) v) (λ z last. blind_write_named z (declared_path name scope) v (clear_later w' z (later_then w' u z after last).shown v p))) (λ z last y r. normal z)))
    runs (Alias from source at name) h w f scope due = then_flow w (P.from_found convert IsKept reach w known source scope) (λ w' later e p. P.from_created convert IsKept reach w' (declared_path name scope) (AliasObject e.0) (λ u. tt))
    runs (External here at name type parameters) h w f scope due = normal w
    runs (Method at name flags body) h w f scope due =
        then_flow w (from_create convert IsKept reach w (declared_path name scope) (MethodObject flags) (λ u after. tt))
        (λ w' later u p. then_flow w' (kept w' (declared_path name scope) body h) (λ z last y r. normal z))
    runs (Mutex at name level) h w f scope due = P.from_created convert IsKept reach w (declared_path name scope) (MutexObject level) (λ u. tt)
    runs (Event at name) h w f scope due = P.from_created convert IsKept reach w (declared_path name scope) EventObject (λ u. tt)
    runs (Container' kind at name body) h w f scope due =
        then_flow w (from_create convert IsKept reach w (declared_path name scope) (ContainerObject kind) (λ u after. tt)) (λ w' later u p. lists body h w' (are_shown_later shown w w' later f) (declared_path name scope) false)
    runs (Scope here at name body) h w f scope due = then_flow w (P.from_find convert IsKept reach w known name scope) (λ w' later path p. lists body h w' (are_shown_later shown w w' later f) path false)
    runs (If test body) h w f scope due = P.from_branch convert IsKept reach w width known (runs test h.0 w f scope false) (λ w' later. lists body h.1 w' (are_shown_later shown w w' later f) scope false)
    runs (ElseIf test body) h w f scope due =
        from_if convert IsKept reach w ClearFlow (λ f. f) due (P.from_branch convert IsKept reach w width known (runs test h.0 w f scope false) (λ w' later. lists body h.1 w' (are_shown_later shown w w' later f) scope false)) (normal w)
    runs (Else body) h w f scope due = from_if convert IsKept reach w ClearFlow (λ f. f) due (lists body h w f scope false) (normal w)
    runs (While test body) h w f scope due =
        P.from_while convert IsKept reach w width known turns (λ w' later. runs test h.0 w' (are_shown_later shown w w' later f) scope false) (λ w' later. lists body h.1 w' (are_shown_later shown w w' later f) scope false)
    runs (For start test step body) h w f scope due =
        then_flow w (unless w start (runs start h.0 w f scope false))
        (λ w' later g p. P.from_loop convert IsKept reach w' turns _ _ _ _
        (λ u after. from_then convert IsKept reach u Any (λ b. b) _ (P.from_size convert IsKept reach u width known (runs test h.1 u (are_shown_later shown w u (later_then w w' u later after) f) scope false)) (λ x last n q. P.same_any convert IsKept reach x (is_true n, tt)))
        (λ u after. then_flow u (lists body h.3 u (are_shown_later shown w u (later_then w w' u later after) f) scope false)
        (λ x last g q. stepped x g q (unless x step (runs step h.2 x (are_shown_later shown w x (later_then w u x (later_then w w' u later after) last) f) scope false)))))
    runs (Print place format args) h w f scope due =
        then_flow w (filled_of (cut format).1 args h.1 w f scope)
        (λ w' later rest p. then_flow w' (spots place h.0 w' (are_shown_later shown w w' later f) scope)
        (λ u after q k. then_flow u (from_act convert IsKept reach u Any (store width q (Data (V.String ((cut format).0 ++ rest)))) (λ x last. blind_store x width q (Data (V.String ((cut format).0 ++ rest))) (spot_later u x last.shown q k) tt)) (λ x last y r. normal x)))
    runs (Switch value cases) h w f scope due =
        then_flow w (P.from_valued convert IsKept reach w (runs value h.0 w f scope false))
        (λ w' later v p. then_flow w' (cases_of cases h.1 w' (are_shown_later shown w w' later f) v p scope (λ u after. default_of cases h.1 u (are_shown_later shown w u (later_then w w' u later after) f) scope)) (λ u after g q. leave u g q))
    runs (Case value body) h w f scope due = P.same_broken convert IsKept reach w ClearFlow
    runs (Default body) h w f scope due = P.same_broken convert IsKept reach w ClearFlow
    runs Break h w f scope due = P.same_flow convert IsKept reach w O.Break (λ u. tt)
    runs Continue h w f scope due = P.same_flow convert IsKept reach w O.Continue (λ u. tt)
    runs (OperationRegion at name space args) h w f scope due =
        then_flow w (operands_of region_letters args h w f scope) (λ w' later os p. P.from_region convert IsKept reach w' width (declared_path name scope) space os p)
    runs (Field here from region flags items) h w f scope due = then_flow w (P.from_region_at convert IsKept reach w known region scope) (λ w' later r p. P.from_units convert IsKept reach w' known (InRegion r) scope (first_unit flags) items)
    runs (IndexField here from index to register flags items) h w f scope due =
        then_flow w (P.from_register_at convert IsKept reach w known index scope)
        (λ w' later i p. then_flow w' (P.from_register_at convert IsKept reach w' known register scope) (λ u after r q. P.from_units convert IsKept reach u known (BehindIndex i r) scope (first_unit flags) items))
    runs (BankField here from region to bank value flags items) h w f scope due =
        then_flow w (P.from_region_at convert IsKept reach w known region scope)
        (λ w' later r p. then_flow w' (P.from_register_at convert IsKept reach w' known bank scope)
        (λ u after b q. then_flow u (P.from_size convert IsKept reach u width known (runs value h u (are_shown_later shown w u (later_then w w' u later after) f) scope false)) (λ z last n s. P.from_units convert IsKept reach z known (InBank r b n) scope (first_unit flags) items)))
    runs (CreateField form args at name) h w f scope due =
        then_flow w (operands_of (field_letters form) args h w f scope) (λ w' later os p. P.from_buffer_field convert IsKept reach w' width form (declared_path name scope) os p)
    runs (Item item) h w f scope due = P.same_broken convert IsKept reach w ClearFlow
    runs (Fill bytes) h w f scope due = P.same_broken convert IsKept reach w ClearFlow
    runs Misshapen h w f scope due = P.same_broken convert IsKept reach w ClearFlow

    pub spots : (t : Tree) → Uses t → (w : World) → AreShown shown w → (scope : AbsolutePath) → D w ClearSpot (S.spot width known turns call t scope) (S.spot width known turns call' t scope)
    spots Omitted h w f scope = spot_here w Nowhere tt
    spots Debug h w f scope = spot_here w DebugObject tt
    spots (InSlot slot) h w f scope =
        from_then convert IsKept reach w ClearSpot (λ p. p) _ (P.from_slot convert IsKept reach w slot (P.slot_shown convert IsKept reach w shown f slot h)) (λ w' later place p. spot_here w' (At place) p)
    spots (Use at name) h w f scope = from_then convert IsKept reach w ClearSpot (λ p. p) _ (P.from_found convert IsKept reach w known name scope) (λ w' later e p. spot_here w' (At (V.Named e.0)) tt)
    spots (Apply op args targets) h w f scope =
        P.from_spot_form convert IsKept reach w width known (spot_form op)
        (P.from_plain convert IsKept reach w width op (operands_of (row_of op).operands args h.0 w f scope) (λ w' later rs p. stores targets h.1 w' (are_shown_later shown w w' later f) rs p scope)) (firsts args h.0 w f scope)
    spots (Operated op args) h w f scope =
        P.from_spot_form convert IsKept reach w width known (spot_form op) (P.from_operate convert IsKept reach w width op (operands_of (row_of op).operands args h w f scope) (λ w' later. spot_here w' Nowhere tt)) (firsts args h w f scope)
    spots _ h w f scope = P.same_broken convert IsKept reach w ClearSpot

    inner_of : (letters : List Letter) (t : Tree) → Uses t → (w : World) → AreShown shown w → (scope : AbsolutePath) → D w ClearOperands (S.inner_operands width known turns call letters t scope) (S.inner_operands width known turns call' letters t scope)
    inner_of letters (Operated op args) h w f scope = operands_of letters args h w f scope
    inner_of letters _ h w f scope = P.same_broken convert IsKept reach w ClearOperands

    -- arguments as texts
    filled_of : (texts : List (List ℕ)) (ts : Trees) → Use' ts → (w : World) → AreShown shown w → (scope : AbsolutePath) → D w Any (S.filled width known turns call texts ts scope) (S.filled width known turns call' texts ts scope)
    filled_of [] no_trees h w f scope = P.same_any convert IsKept reach w []
    filled_of [] (tree t ts) h w f scope = P.same_broken convert IsKept reach w Any
    filled_of (text ∷ texts) no_trees h w f scope = P.same_broken convert IsKept reach w Any
    filled_of (text ∷ texts) (tree t ts) h w f scope =
        from_then convert IsKept reach w Any (λ all. all) _ (P.from_text convert IsKept reach w width known (runs t h.0 w f scope false))
        (λ w' later first p. from_then convert IsKept reach w' Any (λ all. all) _ (filled_of texts ts h.1 w' (are_shown_later shown w w' later f) scope) (λ u after rest q. P.same_any convert IsKept reach u (first ++ (text ++ rest))))

    hits_of : (t : Tree) → Uses t → (w : World) → AreShown shown w → (v : Value) → Clear w v → (scope : AbsolutePath) {alone alone' : Run Trees Bool} → D w Any alone alone' → D w Any (S.hits width known turns call t alone v scope) (S.hits width known turns call' t alone' v scope)
    hits_of (Package count members) h w f v p scope a = hits_any_of members h w f v p scope
    hits_of (VarPackage count members) h w f v p scope a = hits_any_of members h.1 w f v p scope
    hits_of _ h w f v p scope a = a

    hits_any_of : (ts : Trees) → Use' ts → (w : World) → AreShown shown w → (v : Value) → Clear w v → (scope : AbsolutePath) → D w Any (S.hits_any width known turns call ts v scope) (S.hits_any width known turns call' ts v scope)
    hits_any_of no_trees h w f v p scope = P.same_any convert IsKept reach w false
    hits_any_of (tree t ts) h w f v p scope =
        from_then convert IsKept reach w Any (λ b. b) _ (P.from_equals convert IsKept reach w width known v p (P.from_valued convert IsKept reach w (runs t h.0 w f scope false)))
        (λ w' later first q. from_then convert IsKept reach w' Any (λ b. b) _ (hits_any_of ts h.1 w' (are_shown_later shown w w' later f) v (clear_later w w' later.shown v p) scope) (λ u after others r. P.same_any convert IsKept reach u (first || others)))

    cases_of : (ts : Trees) → Use' ts → (w : World) → AreShown shown w → (v : Value) → Clear w v → (scope : AbsolutePath) {other other' : Run Trees Flow} → ((w' : World) → Later w w' → D w' ClearFlow other other') → D w ClearFlow (S.run_cases width known turns call ts v scope other) (S.run_cases width known turns call' ts v scope other')
    cases_of no_trees h w f v p scope o = o w (same_world w)
    cases_of (tree (Case value body) ts) h w f v p scope o =
        then_flow w (hits_of value h.0.0 w f v p scope (P.from_equals convert IsKept reach w width known v p (P.from_valued convert IsKept reach w (runs value h.0.0 w f scope false))))
        (λ w' later hit q. from_if convert IsKept reach w' ClearFlow (λ f. f) hit (lists body h.0.1 w' (are_shown_later shown w w' later f) scope false) (cases_of ts h.1 w' (are_shown_later shown w w' later f) v (clear_later w w' later.shown v p) scope (λ u after. o u (later_then w w' u later after))))
    cases_of (tree t ts) h w f v p scope o = cases_of ts h.1 w f v p scope o

    default_of : (ts : Trees) → Use' ts → (w : World) → AreShown shown w → (scope : AbsolutePath) → D w ClearFlow (S.run_default width known turns call ts scope) (S.run_default width known turns call' ts scope)
    default_of no_trees h w f scope = normal w
    default_of (tree (Default body) ts) h w f scope = lists body h.0 w f scope false
    default_of (tree t ts) h w f scope = default_of ts h.1 w f scope

    operands_of : (letters : List Letter) (ts : Trees) → Use' ts → (w : World) → AreShown shown w → (scope : AbsolutePath) → D w ClearOperands (S.operands width known turns call letters ts scope) (S.operands width known turns call' letters ts scope)
    operands_of [] no_trees h w f scope = from_done convert IsKept reach w ClearOperands (λ os. os) [] (λ u after. tt)
    operands_of [] (tree t ts) h w f scope = P.same_broken convert IsKept reach w ClearOperands
    operands_of (letter ∷ letters) no_trees h w f scope = P.same_broken convert IsKept reach w ClearOperands
    operands_of (letter ∷ letters) (tree t ts) h w f scope =
        from_then convert IsKept reach w ClearOperands (λ os. os) _
        (P.from_letter convert IsKept reach width known w letter t scope (slot_of_term t w f h.0) (λ w' later. runs t h.0 w' (are_shown_later shown w w' later f) scope false) (spots t h.0 w f scope))
        (λ w' later o p. from_then convert IsKept reach w' ClearOperands (λ os. os) _ (operands_of letters ts h.1 w' (are_shown_later shown w w' later f) scope)
        (λ u after os q. from_done convert IsKept reach u ClearOperands (λ os. os) (o ∷ os) (λ x last. (operand_later w' x (later_then w' u x after last).shown o p, operands_later u x last.shown os q))))

    stores : (ts : Trees) → Use' ts → (w : World) → AreShown shown w → (rs : List Value) → ClearAll w rs → (scope : AbsolutePath) → D w Any (S.store_all width known turns call ts rs scope) (S.store_all width known turns call' ts rs scope)
    stores no_trees h w f rs p scope = P.same_any convert IsKept reach w tt
    stores (tree t ts) h w f [] p scope = from_fault convert IsKept reach w Any (λ u. u) WrongType
    stores (tree t ts) h w f (r ∷ rs) p scope =
        from_then convert IsKept reach w Any (λ u. u) _ (spots t h.0 w f scope)
        (λ w' later q k. from_then convert IsKept reach w' Any (λ u. u) _ (from_act convert IsKept reach w' Any (store width q r) (λ u after. blind_store u width q r (spot_later w' u after.shown q k) (clear_later w u (later_then w w' u later after).shown r p.0)))
        (λ u after x y. stores ts h.1 u (are_shown_later shown w u (later_then w w' u later after) f) rs (all_later w u (later_then w w' u later after).shown rs p.1) scope))

    firsts : (ts : Trees) → Use' ts → (w : World) → AreShown shown w → (scope : AbsolutePath) → D w Clear (S.first_value width known turns call ts scope) (S.first_value width known turns call' ts scope)
    firsts no_trees h w f scope = P.same_broken convert IsKept reach w Clear
    firsts (tree t ts) h w f scope = P.from_valued convert IsKept reach w (runs t h.0 w f scope false)

    values_of : (ts : Trees) → Use' ts → (w : World) → AreShown shown w → (scope : AbsolutePath) → D w ClearAll (S.values width known turns call ts scope) (S.values width known turns call' ts scope)
    values_of no_trees h w f scope = from_done convert IsKept reach w ClearAll (λ vs. vs) [] (λ u after. tt)
    values_of (tree t ts) h w f scope =
        from_then convert IsKept reach w ClearAll (λ vs. vs) _ (P.from_valued convert IsKept reach w (runs t h.0 w f scope false))
        (λ w' later v p. from_then convert IsKept reach w' ClearAll (λ vs. vs) _ (values_of ts h.1 w' (are_shown_later shown w w' later f) scope)
        (λ u after vs q. from_done convert IsKept reach u ClearAll (λ vs. vs) (v ∷ vs) (λ x last. (clear_later w' x (later_then w' u x after last).shown v p, all_later u x last.shown vs q))))

    elements_of : (ts : Trees) → Use' ts → (w : World) → AreShown shown w → (scope : AbsolutePath) → D w AreClear (S.elements width known turns call ts scope) (S.elements width known turns call' ts scope)
    elements_of no_trees h w f scope = from_done convert IsKept reach w AreClear (λ es. es) no_elements (λ u after. tt)
    elements_of (tree t ts) h w f scope =
        from_then convert IsKept reach w AreClear (λ es. es) _ (P.from_element convert IsKept reach width known w t scope (runs t h.0 w f scope false))
        (λ w' later v p. from_then convert IsKept reach w' AreClear (λ es. es) _ (elements_of ts h.1 w' (are_shown_later shown w w' later f) scope)
        (λ u after es q. from_done convert IsKept reach u AreClear (λ es. es) (element v es) (λ x last. (clear_later w' x (later_then w' u x after last).shown v p, are_clear_later u x last.shown es q))))

    pub lists : (ts : Trees) → Use' ts → (w : World) → AreShown shown w → (scope : AbsolutePath) (due : Bool) → D w ClearFlow (S.run_all width known turns call ts scope due) (S.run_all width known turns call' ts scope due)
    lists no_trees h w f scope due = normal w
    lists (tree t ts) h w f scope due = P.from_first convert IsKept reach w (runs t h.0 w f scope due) (λ w' later d. lists ts h.1 w' (are_shown_later shown w w' later f) scope d)
