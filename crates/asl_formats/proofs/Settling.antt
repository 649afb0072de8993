-- Terms that end as expressions do, and the terms of two lists.
use Rattle.std.proofs.Common.{◌≡◌, ℕ, zero, suc, Bool, true, false, List, [], ◌∷◌, Option, Some, None, refl, arith, sym, ◌∙◌}
use Rattle.std.specs.Prelude.{if◌then◌else◌, nat_eq, ◌&&◌, length}
use Rattle.acpi_values.specs.declared.width.Width.{Width}
use Rattle.acpi_values.specs.declared.operator.Plain.{Plain}
use Rattle.acpi_values.specs.declared.operator.DataOp.TheVariants as DataOp
use Rattle.acpi_values.specs.Operators.{Letter, row_of}
use Rattle.acpi_values.specs.Paths.{AbsolutePath}
use Rattle.acpi_values.specs.Values.{Value}
use Rattle.acpi_state.specs.State.{State}
use Rattle.acpi_state.specs.Objects.{Object, MethodObject, ExternalObject, ExternalMethod, ExternalData, ExternalOther, operand_count, is_method}
use Rattle.acpi_state.specs.Objects
use Rattle.acpi_state.specs.Outcomes.{Flow, Normal, Gives, NoValue, Stop, Result, Done, Stopped, Run, done, stop, next, then_run, act, value_of, on_flow}
use Rattle.acpi_state.specs.Outcomes as O
use Rattle.acpi_state.specs.Actions.{computed, ask}
use Rattle.acpi_state.specs.Acts.{Operand, OfValue, OfSpot, act_of, last_of}
use Rattle.acpi_state.specs.Stores.{Spot, Nowhere, read}
use Rattle.acpi_state.specs.Activations.{body_at, enter, result_of, activation}
use Rattle.acpi_state.specs.Forms.{buffer_of, package_of, slot_here, object_value, cond_ref_of}
use Rattle.acpi_state.specs.Uses.{use_object}
use Rattle.asl_tree.specs.Names.{Known}
use Rattle.asl_tree.specs.Symbols.{compound_operator}
use Rattle.asl_tree.specs.Tree.{Tree, Integer, Constant, String, InSlot, Debug, Omitted, Use, Call, Apply, Operated, Assigned, AssignedBy, Buffer, Package, VarPackage, CondRefOf, Trees, no_trees, tree}
use Rattle.asl_meaning.specs.Meaning as S
use Rattle.asl_meaning.specs.Meaning.{SourceRun, store_last, two_values, call_method, target_operator}
use Rattle.asl_prints.specs.Forms.{followed, is_expression}
use Rattle.asl_prints.proofs.Runs.{then_assoc, then_same}

-- how expressions end
abbrev pub Settles : Result Flow → Type 0
Settles (Done (Normal due)) = Unit {0}
Settles (Done (Gives v)) = Unit {0}
Settles (Done NoValue) = Unit {0}
Settles (Done _) = ⊥
Settles (Stopped x) = Unit {0}

-- a run that ends so
pub record Settled (m : Run Trees Flow) : Type 0 where
  pub by : (s : State Trees) → Settles (m s).result

settled_done : (f : Flow) → Settles (Done f) → Settled (done f)
settled_done f h = record { by = λ s. h }

settled_stop : (x : Stop) → Settled (stop x)
settled_stop x = record { by = λ s. tt }

settled_then : {A : Type 0} (m : Run Trees A) {k : A → Run Trees Flow} → ((a : A) → Settled (k a)) → Settled (then_run m k)
settled_then {A} m {k = k} h = record { by = λ s. by_result (m s).result (m s).state }
  where
    by_result : (r : Result A) (t : State Trees) → Settles (next r t k).result
    by_result (Done a) t = (h a).by t
    by_result (Stopped x) t = tt

settled_given : (m : Run Trees Value) → Settled (then_run m (λ v. done (Gives v)))
settled_given m = settled_then m (λ v. settled_done (Gives v) tt)

last_settles : (vs : List Value) → Settles (Done (last_of vs))
last_settles [] = tt
last_settles (v ∷ []) = tt
last_settles (v ∷ w ∷ vs) = last_settles (w ∷ vs)

settled_if : (b : Bool) {m n : Run Trees Flow} → Settled m → Settled n → Settled (if b then m else n)
settled_if true h g = h
settled_if false h g = g

-- a call ends as an expression does
settled_activation : (args : List Value) (m : Run Trees Flow) → Settled (activation args m)
settled_activation args m = record { by = λ s. result (m (enter args s)).result }
  where
    result : (r : Result Flow) → Settles (result_of r)
    result (Done (O.Return v)) = tt
    result (Done _) = tt
    result (Stopped x) = tt

pub settled_call : (width : Width) (known : Known) (turns depth : ℕ) (path : AbsolutePath) (args : List Value) → Settled (call_method width known turns depth path args)
settled_call width known turns zero path args = settled_stop O.Unfinished
settled_call width known turns (suc depth) path args = settled_then (body_at path) (λ body. settled_activation args (S.run_all width known turns (call_method width known turns depth) body path false))

module _ (width : Width) (known : Known) (turns : ℕ) (call : AbsolutePath → List Value → SourceRun Flow) where
  abbrev pub R : Tree → AbsolutePath → Bool → SourceRun Flow
  R = S.run width known turns call

  abbrev pub L : Trees → AbsolutePath → Bool → SourceRun Flow
  L = S.run_all width known turns call

  abbrev V : Tree → AbsolutePath → SourceRun Value
  V t scope = then_run (R t scope false) value_of

  abbrev N : Tree → AbsolutePath → SourceRun ℕ
  N t scope = S.size_by width known (R t scope false)

  abbrev P : Tree → AbsolutePath → SourceRun Spot
  P t scope = S.spot width known turns call t scope

  -- an expression asks for no Else before it
  pub undue : (t : Tree) → is_expression t ≡ true → (scope : AbsolutePath) (due : Bool) → R t scope due ≡ R t scope false
  undue (Integer number) h scope due = refl
  undue (Constant literal) h scope due = refl
  undue (String text) h scope due = refl
  undue (InSlot slot) h scope due = refl
  undue Debug h scope due = refl
  undue Omitted h scope due = refl
  undue (Use at name) h scope due = refl
  undue (Call at name args) h scope due = refl
  undue (Apply op args targets) h scope due = refl
  undue (Operated op args) h scope due = refl
  undue (Assigned target value) h scope due = refl
  undue (AssignedBy op target value) h scope due = refl
  undue (Buffer size bytes) h scope due = refl
  undue (Package count elements) h scope due = refl
  undue (VarPackage count elements) h scope due = refl
  undue (CondRefOf place target) h scope due = refl
  undue _ h scope due = absurd (grind arith)

  -- the terms of two lists, one after the other
  pub followed_runs : (a b : Trees) (scope : AbsolutePath) → ((due : Bool) → L b scope due ≡ L b scope false) → (due : Bool) → L (followed a b) scope due ≡ then_run (L a scope due) (λ f. on_flow f (L b scope))
  followed_runs no_trees b scope h due = h due
  followed_runs (tree t ts) b scope h due =
      then_same (R t scope due) (λ f. by_flow (λ d. followed_runs ts b scope h d) f)
      ∙ sym (then_assoc (R t scope due) (λ f. on_flow f (L ts scope)) (λ f. on_flow f (L b scope)))
    where
      by_flow : ((d : Bool) → L (followed ts b) scope d ≡ then_run (L ts scope d) (λ f. on_flow f (L b scope))) → (f : Flow) → on_flow f (L (followed ts b) scope) ≡ then_run (on_flow f (L ts scope)) (λ f. on_flow f (L b scope))
      by_flow go (Normal d) = go d
      by_flow go (Gives v) = go false
      by_flow go NoValue = go false
      by_flow go _ = refl

  module _ (calls : (path : AbsolutePath) (args : List Value) → Settled (call path args)) where
    settled_use : (path : AbsolutePath) (object : Object) (args : List Value) → Settled (use_object width call path object args)
    settled_use path (MethodObject flags) args = calls path args
    settled_use path (ExternalObject (ExternalMethod arity)) args = settled_given (act (ask (Objects.Call path args)))
    settled_use path (ExternalObject (ExternalData type)) args = settled_given (act (object_value width path (ExternalObject (ExternalData type))))
    settled_use path (ExternalObject (ExternalOther type)) args = settled_given (act (object_value width path (ExternalObject (ExternalOther type))))
    settled_use path object args = settled_given (act (object_value width path object))

    settled_plain : (op : Plain) (ops : Run Trees (List Operand)) (into : List Value → Run Trees (Unit {0})) → Settled (S.apply_with width op ops into)
    settled_plain op ops into = settled_then ops (λ os. settled_then (act (act_of op width os)) (λ rs. settled_then (into rs) (λ u. settled_done (last_of rs) (last_settles rs))))

    settled_operate : (op : Plain) (ops : Run Trees (List Operand)) (spot : Run Trees Spot) → Settled (S.apply_with width op ops (store_last width (row_of op).targets spot))
    settled_operate op ops spot = settled_plain op ops (store_last width (row_of op).targets spot)

    settled_assigned : (o : Option Plain) (ops : List Letter → Run Trees (List Operand)) (value : Run Trees Value) (spot : Run Trees Spot) → Settled (S.assign_with width o ops value spot)
    settled_assigned (Some op) ops value spot = settled_operate op (ops (row_of op).operands) spot
    settled_assigned None ops value spot = settled_plain (Plain.Data DataOp.Store) (then_run value (λ v. then_run spot (λ p. done (OfValue v ∷ OfSpot p ∷ [])))) (λ rs. done tt)

    -- an expression ends with a value or without one
    pub settled : (t : Tree) → is_expression t ≡ true → (scope : AbsolutePath) (due : Bool) → Settled (R t scope due)
    settled (Integer number) h scope due = settled_done (Gives _) tt
    settled (Constant literal) h scope due = settled_done (Gives _) tt
    settled (String text) h scope due = settled_done (Gives _) tt
    settled (InSlot slot) h scope due = settled_then (act (slot_here slot)) (λ place. settled_given (act (read width place)))
    settled Debug h scope due = settled_stop _
    settled Omitted h scope due = settled_stop O.Broken
    settled (Use at name) h scope due = settled_then (S.found known name scope) (λ e. settled_use e.0 e.1 [])
    settled (Call at name args) h scope due = settled_then (S.found known name scope) (λ e. settled_then (S.values width known turns call args scope) (λ vs. settled_if (is_method e.1 && nat_eq (operand_count e.1) (length vs)) (settled_use e.0 e.1 vs) (settled_stop _)))
    settled (Apply op args targets) h scope due = settled_plain op (S.operands width known turns call (row_of op).operands args scope) (λ rs. S.store_all width known turns call targets rs scope)
    settled (Operated op args) h scope due = settled_operate op (S.operands width known turns call (row_of op).operands args scope) (done Nowhere)
    settled (Assigned target value) h scope due = settled_assigned (target_operator value) (λ letters. S.inner_operands width known turns call letters value scope) (V value scope) (P target scope)
    settled (AssignedBy op target value) h scope due = settled_operate (compound_operator op) (two_values (V target scope) (V value scope)) (P target scope)
    settled (Buffer size bytes) h scope due = settled_then (N size scope) (λ n. settled_given (act (computed (buffer_of n bytes))))
    settled (Package count elements) h scope due = settled_then (S.elements width known turns call elements scope) (λ es. settled_given (act (computed (package_of count es))))
    settled (VarPackage count elements) h scope due = settled_then (N count scope) (λ n. settled_then (S.elements width known turns call elements scope) (λ es. settled_given (act (computed (package_of n es)))))
    settled (CondRefOf place target) h scope due = settled_then (S.cond_by width known place (P place scope) scope) (λ o. settled_then (P target scope) (λ t. settled_given (act (cond_ref_of width o t))))
    settled _ h scope due = absurd (grind arith)
