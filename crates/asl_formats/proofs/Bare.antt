-- What terms do has nothing to do with where their names stand.
use Rattle.std.proofs.Common.{◌≡◌, ℕ, Bool, true, false, List, [], ◌∷◌, Option, Some, refl, sym, ap, ◌∙◌}
use Rattle.std.proofs.Math.Path.{fun_ext}
use Rattle.std.specs.Prelude.{if◌then◌else◌}
use Rattle.acpi_values.specs.declared.width.Width.{Width}
use Rattle.acpi_values.specs.Operators.{Letter, Valued, Kept, Placed, Used, row_of}
use Rattle.acpi_values.specs.Operators as L
use Rattle.acpi_values.specs.Paths.{AbsolutePath}
use Rattle.acpi_values.specs.Values.{Value, Elements, Place, element}
use Rattle.acpi_state.specs.Outcomes.{Flow, Normal, Gives, done, then_run, act, value_of, on_flow}
use Rattle.acpi_state.specs.Loops.{is_true, loop}
use Rattle.acpi_state.specs.Actions.{computed}
use Rattle.acpi_state.specs.Acts.{Operand, OfKept}
use Rattle.acpi_state.specs.Stores.{Spot, Nowhere, store}
use Rattle.acpi_state.specs.Forms.{buffer_of, package_of, cond_ref_of}
use Rattle.acpi_state.specs.Uses.{call_written}
use Rattle.asl_tree.specs.Names.{Known}
use Rattle.asl_tree.specs.Symbols.{compound_operator}
use Rattle.asl_tree.specs.Tree.{Tree, Raw, Use, Call, Apply, Operated, Assigned, AssignedBy, Buffer, Package, VarPackage, CondRefOf, If, ElseIf, Else, While, Switch, Case, Default, Trees, no_trees, tree}
use Rattle.asl_meaning.specs.Meaning as S
use Rattle.asl_meaning.specs.Meaning.{SourceRun, leave_switch, target_operator, two_values, spot_form, call_method}
use Rattle.asl_prints.specs.Nodes.{DoTheSame}
use Rattle.asl_formats.specs.Bare.{bare, bare_all}
use Rattle.asl_prints.proofs.Runs.{then_same}

target_bare : (t : Tree) → target_operator (bare t) ≡ target_operator t
target_bare (Operated op args) = refl
target_bare t = refl

raw_bare : (width : Width) (known : Known) (t : Tree) → S.raw_by width known (bare t) ≡ S.raw_by width known t
raw_bare width known (Raw size number) = refl
raw_bare width known t = refl

module _ (width : Width) (known : Known) where
  used_bare : (t : Tree) (scope : AbsolutePath) → S.used_by width known (bare t) scope ≡ S.used_by width known t scope
  used_bare (Use at name) scope = refl
  used_bare t scope = refl

  place_bare : (t : Tree) (scope : AbsolutePath) → S.place_by width known (bare t) scope ≡ S.place_by width known t scope
  place_bare (Use at name) scope = refl
  place_bare (Call at name args) scope = refl
  place_bare t scope = refl

  operand_bare : (letter : Letter) (t : Tree) (m m' : SourceRun Flow) (spot spot' : SourceRun Spot) (scope : AbsolutePath) → m' ≡ m → spot' ≡ spot → S.operand_by width known letter (bare t) m' spot' scope ≡ S.operand_by width known letter t m spot scope
  operand_bare Valued t m m' spot spot' scope e f = ap (λ m. S.operand_by width known Valued t m spot scope) e
  operand_bare Kept t m m' spot spot' scope e f =
      ap (λ m. S.operand_by width known Kept (bare t) m spot' scope) e ∙ ap (λ (p : SourceRun (Option Place)). then_run p (λ place. then_run (then_run m value_of) (λ v. done (OfKept place v)))) (place_bare t scope)
  operand_bare Placed t m m' spot spot' scope e f = ap (λ spot. S.operand_by width known Placed t m spot scope) f
  operand_bare Used t m m' spot spot' scope e f = used_bare t scope
  operand_bare (L.Raw size) t m m' spot spot' scope e f = raw_bare width known t

  cond_bare : (t : Tree) (spot spot' : SourceRun Spot) (scope : AbsolutePath) → spot' ≡ spot → S.cond_by width known (bare t) spot' scope ≡ S.cond_by width known t spot scope
  cond_bare (Use at name) spot spot' scope e = refl
  cond_bare t spot spot' scope e = ap (λ spot. then_run spot (λ p. done (Some p))) e

  element_bare : (t : Tree) (m m' : SourceRun Flow) (scope : AbsolutePath) → m' ≡ m → S.element_by width known (bare t) m' scope ≡ S.element_by width known t m scope
  element_bare (Use at name) m m' scope e = refl
  element_bare t m m' scope e = ap (λ m. then_run m value_of) e

  module _ (turns : ℕ) (call : AbsolutePath → List Value → SourceRun Flow) where
    abbrev R : Tree → AbsolutePath → Bool → SourceRun Flow
    R = S.run width known turns call

    abbrev A : Trees → AbsolutePath → Bool → SourceRun Flow
    A = S.run_all width known turns call

    abbrev P : Tree → AbsolutePath → SourceRun Spot
    P = S.spot width known turns call

    abbrev Os : List Letter → Trees → AbsolutePath → SourceRun (List Operand)
    Os = S.operands width known turns call

    abbrev Cs : Trees → Value → AbsolutePath → SourceRun Flow → SourceRun Flow
    Cs = S.run_cases width known turns call

    mutual
      run_bare : (t : Tree) (scope : AbsolutePath) (due : Bool) → R (bare t) scope due ≡ R t scope due
      run_bare (Use at name) scope due = refl
      run_bare (Call at name args) scope due =
          ap (λ (m : SourceRun (List Value)). then_run (S.found known name scope) (λ e. then_run m (λ vs. call_written width call e.0 e.1 vs))) (values_bare args scope)
      run_bare (Apply op args targets) scope due =
          ap (λ os. S.apply_with width op os (λ rs. S.store_all width known turns call (bare_all targets) rs scope)) (operands_bare (row_of op).operands args scope)
          ∙ ap (λ into. S.apply_with width op (Os (row_of op).operands args scope) into) (fun_ext (λ rs. store_bare targets rs scope))
      run_bare (Operated op args) scope due = ap (λ os. S.operate width op os (done Nowhere)) (fun_ext (λ letters. operands_bare letters args scope))
      run_bare (Assigned target value) scope due =
          ap (λ o. S.assign_with width o (λ letters. S.inner_operands width known turns call letters (bare value) scope) (then_run (R (bare value) scope false) value_of) (P (bare target) scope)) (target_bare value)
          ∙ ap (λ os. S.assign_with width (target_operator value) os (then_run (R (bare value) scope false) value_of) (P (bare target) scope)) (fun_ext (λ letters. inner_bare letters value scope))
          ∙ ap (λ m. S.assign_with width (target_operator value) (λ letters. S.inner_operands width known turns call letters value scope) (then_run m value_of) (P (bare target) scope)) (run_bare value scope false)
          ∙ ap (λ p. S.assign_with width (target_operator value) (λ letters. S.inner_operands width known turns call letters value scope) (then_run (R value scope false) value_of) p) (spot_bare target scope)
      run_bare (AssignedBy op target value) scope due =
          ap (λ m. S.operate width (compound_operator op) (λ letters. two_values (then_run m value_of) (then_run (R (bare value) scope false) value_of)) (P (bare target) scope)) (run_bare target scope false)
          ∙ ap (λ m. S.operate width (compound_operator op) (λ letters. two_values (then_run (R target scope false) value_of) (then_run m value_of)) (P (bare target) scope)) (run_bare value scope false)
          ∙ ap (λ p. S.operate width (compound_operator op) (λ letters. two_values (then_run (R target scope false) value_of) (then_run (R value scope false) value_of)) p) (spot_bare target scope)
      run_bare (Buffer size bytes) scope due =
          ap (λ m. then_run (S.size_by width known m) (λ n. then_run (act (computed (buffer_of n bytes))) (λ v. done (Gives v)))) (run_bare size scope false)
      run_bare (Package count items) scope due =
          ap (λ (m : SourceRun Elements). then_run m (λ es. then_run (act (computed (package_of count es))) (λ v. done (Gives v)))) (elements_bare items scope)
      run_bare (VarPackage count items) scope due =
          ap (λ m. then_run (S.size_by width known m) (λ n. then_run (S.elements width known turns call (bare_all items) scope) (λ es. then_run (act (computed (package_of n es))) (λ v. done (Gives v))))) (run_bare count scope false)
          ∙ ap (λ (es : SourceRun Elements). then_run (S.size_by width known (R count scope false)) (λ n. then_run es (λ es. then_run (act (computed (package_of n es))) (λ v. done (Gives v))))) (elements_bare items scope)
      run_bare (CondRefOf place target) scope due =
          ap (λ (o : SourceRun (Option Spot)). then_run o (λ o. then_run (P (bare target) scope) (λ t. then_run (act (cond_ref_of width o t)) (λ v. done (Gives v))))) (cond_bare place (P place scope) (P (bare place) scope) scope (spot_bare place scope))
          ∙ ap (λ p. then_run (S.cond_by width known place (P place scope) scope) (λ o. then_run p (λ t. then_run (act (cond_ref_of width o t)) (λ v. done (Gives v))))) (spot_bare target scope)
      run_bare (If test body) scope due =
          ap (λ m. then_run (S.size_by width known (R test scope false)) (λ n. if is_true n then m else done (Normal true))) (all_bare body scope false)
      run_bare (ElseIf test body) scope due =
          ap (λ m. if due then then_run (S.size_by width known (R test scope false)) (λ n. if is_true n then m else done (Normal true)) else done (Normal false)) (all_bare body scope false)
      run_bare (Else body) scope due = ap (λ m. if due then m else done (Normal false)) (all_bare body scope false)
      run_bare (While test body) scope due =
          ap (λ m. loop {X = Unit {0}} turns (then_run (S.size_by width known (R test scope false)) (λ n. done (is_true n, tt))) (λ u. m)) (all_bare body scope false)
      run_bare (Switch value cases) scope due =
          then_same (then_run (R value scope false) value_of)
          (λ v. ap (λ m. then_run (Cs (bare_all cases) v scope m) leave_switch) (default_bare cases scope) ∙ ap (λ m. then_run m leave_switch) (cases_bare cases v scope (S.run_default width known turns call cases scope)))
      run_bare t scope due = refl

      spot_bare : (t : Tree) (scope : AbsolutePath) → P (bare t) scope ≡ P t scope
      spot_bare (Apply op args targets) scope =
          ap (λ m. S.spot_by width known (spot_form op) m (S.first_value width known turns call (bare_all args) scope))
          (ap (λ os. S.apply_with width op os (λ rs. S.store_all width known turns call (bare_all targets) rs scope)) (operands_bare (row_of op).operands args scope)
          ∙ ap (λ into. S.apply_with width op (Os (row_of op).operands args scope) into) (fun_ext (λ rs. store_bare targets rs scope)))
          ∙ ap (λ m. S.spot_by width known (spot_form op) (R (Apply op args targets) scope false) m) (first_bare args scope)
      spot_bare (Operated op args) scope =
          ap (λ m. S.spot_by width known (spot_form op) m (S.first_value width known turns call (bare_all args) scope))
          (ap (λ os. S.operate width op os (done Nowhere)) (fun_ext (λ letters. operands_bare letters args scope)))
          ∙ ap (λ m. S.spot_by width known (spot_form op) (R (Operated op args) scope false) m) (first_bare args scope)
      spot_bare t scope = refl

      inner_bare : (letters : List Letter) (t : Tree) (scope : AbsolutePath) → S.inner_operands width known turns call letters (bare t) scope ≡ S.inner_operands width known turns call letters t scope
      inner_bare letters (Operated op args) scope = operands_bare letters args scope
      inner_bare letters t scope = refl

      operands_bare : (letters : List Letter) (ts : Trees) (scope : AbsolutePath) → Os letters (bare_all ts) scope ≡ Os letters ts scope
      operands_bare [] no_trees scope = refl
      operands_bare [] (tree t ts) scope = refl
      operands_bare (letter ∷ letters) no_trees scope = refl
      operands_bare (letter ∷ letters) (tree t ts) scope =
          ap (λ (m : SourceRun Operand). then_run m (λ o. then_run (Os letters (bare_all ts) scope) (λ os. done (o ∷ os))))
          (operand_bare letter t (R t scope false) (R (bare t) scope false) (P t scope) (P (bare t) scope) scope (run_bare t scope false) (spot_bare t scope))
          ∙ ap (λ (m : SourceRun (List Operand)). then_run (S.operand_by width known letter t (R t scope false) (P t scope) scope) (λ o. then_run m (λ os. done (o ∷ os)))) (operands_bare letters ts scope)

      store_bare : (ts : Trees) (vs : List Value) (scope : AbsolutePath) → S.store_all width known turns call (bare_all ts) vs scope ≡ S.store_all width known turns call ts vs scope
      store_bare no_trees vs scope = refl
      store_bare (tree t ts) [] scope = refl
      store_bare (tree t ts) (v ∷ vs) scope =
          ap (λ p. then_run p (λ p. then_run (act (store width p v)) (λ u. S.store_all width known turns call (bare_all ts) vs scope))) (spot_bare t scope)
          ∙ ap (λ m. then_run (P t scope) (λ p. then_run (act (store width p v)) (λ u. m))) (store_bare ts vs scope)

      first_bare : (ts : Trees) (scope : AbsolutePath) → S.first_value width known turns call (bare_all ts) scope ≡ S.first_value width known turns call ts scope
      first_bare no_trees scope = refl
      first_bare (tree t ts) scope = ap (λ m. then_run m value_of) (run_bare t scope false)

      values_bare : (ts : Trees) (scope : AbsolutePath) → S.values width known turns call (bare_all ts) scope ≡ S.values width known turns call ts scope
      values_bare no_trees scope = refl
      values_bare (tree t ts) scope =
          ap (λ m. then_run (then_run m value_of) (λ v. then_run (S.values width known turns call (bare_all ts) scope) (λ vs. done (v ∷ vs)))) (run_bare t scope false)
          ∙ ap (λ (m : SourceRun (List Value)). then_run (then_run (R t scope false) value_of) (λ v. then_run m (λ vs. done (v ∷ vs)))) (values_bare ts scope)

      elements_bare : (ts : Trees) (scope : AbsolutePath) → S.elements width known turns call (bare_all ts) scope ≡ S.elements width known turns call ts scope
      elements_bare no_trees scope = refl
      elements_bare (tree t ts) scope =
          ap (λ (m : SourceRun Value). then_run m (λ v. then_run (S.elements width known turns call (bare_all ts) scope) (λ vs. done (element v vs)))) (element_bare t (R t scope false) (R (bare t) scope false) scope (run_bare t scope false))
          ∙ ap (λ (m : SourceRun Elements). then_run (S.element_by width known t (R t scope false) scope) (λ v. then_run m (λ vs. done (element v vs)))) (elements_bare ts scope)

      cases_bare : (ts : Trees) (v : Value) (scope : AbsolutePath) (otherwise : SourceRun Flow) → Cs (bare_all ts) v scope otherwise ≡ Cs ts v scope otherwise
      cases_bare no_trees v scope otherwise = refl
      cases_bare (tree (Case value body) cases) v scope otherwise =
          then_same (S.hits width known turns call value (S.equals width known v (then_run (R value scope false) value_of)) v scope)
          (λ hit. ap (λ m. if hit then m else Cs (bare_all cases) v scope otherwise) (all_bare body scope false) ∙ ap (λ m. if hit then A body scope false else m) (cases_bare cases v scope otherwise))
      cases_bare (tree t cases) v scope otherwise = cases_bare cases v scope otherwise

      default_bare : (ts : Trees) (scope : AbsolutePath) → S.run_default width known turns call (bare_all ts) scope ≡ S.run_default width known turns call ts scope
      default_bare no_trees scope = refl
      default_bare (tree (Default body) cases) scope = all_bare body scope false
      default_bare (tree t cases) scope = default_bare cases scope

      pub all_bare : (ts : Trees) (scope : AbsolutePath) (due : Bool) → A (bare_all ts) scope due ≡ A ts scope due
      all_bare no_trees scope due = refl
      all_bare (tree t ts) scope due =
          ap (λ m. then_run m (λ flow. on_flow flow (A (bare_all ts) scope))) (run_bare t scope due)
          ∙ ap (λ (m : Bool → SourceRun Flow). then_run (R t scope due) (λ flow. on_flow flow m)) (fun_ext (λ due. all_bare ts scope due))

-- terms that are the same but for where their names stand do the same
pub bare_does : (terms made others : Trees) → bare_all made ≡ bare_all others → DoTheSame terms others → DoTheSame terms made
bare_does terms made others e h width known turns depth scope due s =
    ap (λ m. m s) (sym (all_bare width known turns (call_method width known turns depth) made scope due)
    ∙ ap (λ ts. S.run_all width known turns (call_method width known turns depth) ts scope due) e
    ∙ all_bare width known turns (call_method width known turns depth) others scope due)
    ∙ h width known turns depth scope due s
