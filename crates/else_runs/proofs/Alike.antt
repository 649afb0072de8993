-- Runs that do the same where bodies of methods are kept as they are and where they are kept changed, in whatever way.
use Rattle.std.proofs.Common.{◌≡◌, ℕ, zero, suc, Bool, true, false, List, [], ◌∷◌, length, Option, Some, None, refl, sym, ap, ◌∙◌}
use Rattle.std.specs.Prelude.{if◌then◌else◌, nat_eq, ◌&&◌}
use Rattle.acpi_values.specs.declared.width.Width.{Width}
use Rattle.acpi_values.specs.declared.fault.Fault.TheVariants.{WrongType}
use Rattle.acpi_values.specs.Paths.{AbsolutePath, is_same_path}
use Rattle.acpi_values.specs.Values.{Value}
use Rattle.acpi_state.specs.Objects.{Object, MethodObject, ExternalObject, ExternalMethod, ExternalData, ExternalOther, BufferFieldObject, RegionObject, Names, Call, lookup, arity_of, operand_count, is_method}
use Rattle.acpi_state.specs.State.{State}
use Rattle.acpi_state.specs.Outcomes.{Flow, Normal, Gives, NoValue, Break, Continue, Return, Stop, Unfinished, Broken, Result, Done, Stopped, Outcome, Action, done, stop, fault, next, then_run, act, choose, value_of, on_flow}
use Rattle.acpi_state.specs.Activations.{scope_object, create_in, create, keep_body, body_at, enter, leave, result_of, activation}
use Rattle.acpi_state.specs.Actions.{ask}
use Rattle.acpi_state.specs.Acts.{Operand}
use Rattle.acpi_state.specs.BufferFields.{keep_own}
use Rattle.acpi_state.specs.FieldActs.{region_extent, make_region, FieldForm, new_field, make_buffer_field}
use Rattle.acpi_state.specs.Finds.{existing, reached}
use Rattle.acpi_state.specs.Forms.{object_value}
use Rattle.acpi_state.specs.Loops.{after_turn, loop}
use Rattle.acpi_state.specs.Uses.{use_object, call_written}
use Rattle.acpi_state.specs.Sessions.{Report, report, Request, call_external, call_object, answer_request, unless_unfinished, reports, session}
use Rattle.asl_tree.specs.Tree.{Trees}
use Rattle.asl_meaning.specs.Meaning.{SourceRun}

abbrev pub changed_bodies : (Trees → Trees) → List (AbsolutePath × Trees) → List (AbsolutePath × Trees)
changed_bodies change [] = []
changed_bodies change (entry ∷ entries) = (entry.0, change entry.1) ∷ changed_bodies change entries

-- the same state with bodies changed
abbrev pub changed_state : (Trees → Trees) → State Trees → State Trees
changed_state change s = record { names = s.names; created = s.created; begun = s.begun; store = s.store; bodies = changed_bodies change s.bodies }

abbrev pub changed_outcome : (Trees → Trees) → {A : Type 0} → Outcome Trees A → Outcome Trees A
changed_outcome change o = record { result = o.result; state = changed_state change o.state }

-- the second run does from a state with bodies changed what the first does from the state
pub record Alike (change : Trees → Trees) {A : Type 0} (m m' : SourceRun A) : Type 0 where
  pub by : (s : State Trees) → m' (changed_state change s) ≡ changed_outcome change (m s)

abbrev changed_body : (Trees → Trees) → Option Trees → Option Trees
changed_body change None = None
changed_body change (Some body) = Some (change body)

changed_lookup : (change : Trees → Trees) (bodies : List (AbsolutePath × Trees)) (path : AbsolutePath) → lookup (changed_bodies change bodies) path ≡ changed_body change (lookup bodies path)
changed_lookup change [] path = refl
changed_lookup change (entry ∷ entries) path = by_same (is_same_path entry.0 path) (changed_lookup change entries path)
  where
    by_same : (c : Bool) → lookup (changed_bodies change entries) path ≡ changed_body change (lookup entries path) → (if c then Some (change entry.1) else lookup (changed_bodies change entries) path) ≡ changed_body change (if c then Some entry.1 else lookup entries path)
    by_same true h = refl
    by_same false h = h

module _ {change : Trees → Trees} where
  pub alike_done : {A : Type 0} (a : A) → Alike change (done a) (done a)
  alike_done a = record { by = λ s. refl }

  pub alike_stop : {A : Type 0} (x : Stop) → Alike change {A = A} (stop x) (stop x)
  alike_stop x = record { by = λ s. refl }

  pub alike_fault : {A : Type 0} (f : _) → Alike change {A = A} (fault f) (fault f)
  alike_fault f = record { by = λ s. refl }

  pub alike_then : {A C : Type 0} {m m' : SourceRun A} {k k' : A → SourceRun C} → Alike change m m' → ((a : A) → Alike change (k a) (k' a)) → Alike change (then_run m k) (then_run m' k')
  alike_then {A} {m = m} {m' = m'} {k = k} {k' = k'} hm hk = record { by = λ s. ap (λ (o : Outcome Trees A). next o.result o.state k') (hm.by s) ∙ by_result (m s).result (m s).state }
    where
      by_result : (r : Result A) (t : State Trees) → next r (changed_state change t) k' ≡ changed_outcome change (next r t k)
      by_result (Done a) t = (hk a).by t
      by_result (Stopped x) t = refl

  -- an equal run on the right
  pub alike_to : {A : Type 0} {m m' m'' : SourceRun A} → m' ≡ m'' → Alike change m m'' → Alike change m m'
  alike_to {m = m} e h = record { by = λ s. ap (λ m. m (changed_state change s)) e ∙ h.by s }

  pub alike_act : {A : Type 0} (a : Action A) → Alike change (act a) (act a)
  alike_act a = record { by = λ s. refl }

  -- what is seen of the names alone
  pub alike_existing : {A : Type 0} (f : Names → Option A) → Alike change (λ s. existing (f s.names) s) (λ s. existing (f s.names) s)
  alike_existing {A} f = record { by = λ s. by_option (f s.names) s }
    where
      by_option : (o : Option A) (s : State Trees) → existing o (changed_state change s) ≡ changed_outcome change (existing o s)
      by_option None s = refl
      by_option (Some a) s = refl

  pub alike_look : {A : Type 0} (f : Names → A) → Alike change (λ s. done (f s.names) s) (λ s. done (f s.names) s)
  alike_look f = record { by = λ s. refl }

  pub alike_if : {A : Type 0} (c : Bool) {m m' n n' : SourceRun A} → Alike change m m' → Alike change n n' → Alike change (if c then m else n) (if c then m' else n')
  alike_if true h k = h
  alike_if false h k = k

  pub alike_value : (f : Flow) → Alike change (value_of f) (value_of f)
  alike_value (Gives v) = alike_done v
  alike_value NoValue = alike_stop _
  alike_value (Normal due) = alike_stop Broken
  alike_value Break = alike_stop Broken
  alike_value Continue = alike_stop Broken
  alike_value (Return v) = alike_stop Broken

  pub alike_valued : {m m' : SourceRun Flow} → Alike change m m' → Alike change (then_run m value_of) (then_run m' value_of)
  alike_valued h = alike_then h alike_value

  pub alike_on_flow : (f : Flow) {go go' : Bool → SourceRun Flow} → ((d : Bool) → Alike change (go d) (go' d)) → Alike change (on_flow f go) (on_flow f go')
  alike_on_flow (Normal due) h = h due
  alike_on_flow (Gives v) h = h false
  alike_on_flow NoValue h = h false
  alike_on_flow Break h = alike_done Break
  alike_on_flow Continue h = alike_done Continue
  alike_on_flow (Return v) h = alike_done (Return v)

  alike_after : (f : Flow) {m m' : SourceRun Flow} → Alike change m m' → Alike change (after_turn f m) (after_turn f m')
  alike_after Break h = alike_done (Normal false)
  alike_after (Return v) h = alike_done (Return v)
  alike_after (Normal due) h = h
  alike_after (Gives v) h = h
  alike_after NoValue h = h
  alike_after Continue h = h

  pub alike_loop : {X : Type 0} (n : ℕ) {test test' : SourceRun (Bool × X)} {body body' : X → SourceRun Flow} → Alike change test test' → ((x : X) → Alike change (body x) (body' x)) → Alike change (loop n test body) (loop n test' body')
  alike_loop zero ht hb = alike_then ht (λ r. alike_if r.0 (alike_stop Unfinished) (alike_done (Normal false)))
  alike_loop (suc n) ht hb = alike_then ht (λ r. alike_if r.0 (alike_then (hb r.1) (λ f. alike_after f (alike_loop n ht hb))) (alike_done (Normal false)))

  pub alike_create : (path : AbsolutePath) (object : Object) → Alike change (create path object) (create path object)
  alike_create [] object = alike_fault _
  alike_create (seg ∷ scope) object = record { by = λ s. by_scope s (scope_object s.names scope) (lookup s.names (seg ∷ scope)) }
    where
      by_scope : (s : State Trees) (o : Option (Unit {0})) (old : Option Object) → create_in o old (seg ∷ scope) object (changed_state change s) ≡ changed_outcome change (create_in o old (seg ∷ scope) object s)
      by_scope s None old = refl
      by_scope s (Some u) (Some other) = refl
      by_scope s (Some u) None = refl

  pub alike_keep : (path : AbsolutePath) (body : Trees) → Alike change (keep_body path body) (keep_body path (change body))
  alike_keep path body = record { by = λ s. refl }

  -- a run of the body that is kept at a path
  pub alike_body : {k k' : Trees → SourceRun Flow} → ((body : Trees) → Alike change (k body) (k' (change body))) → (path : AbsolutePath) → Alike change (then_run (body_at path) k) (then_run (body_at path) k')
  alike_body {k = k} {k' = k'} h path =
      record { by = λ s. ap (λ o. then_run (λ t. choose o (fault WrongType t) (λ body. done body t)) k' (changed_state change s)) (changed_lookup change s.bodies path) ∙ by_body s (lookup s.bodies path) }
    where
      by_body : (s : State Trees) (o : Option Trees) →
          then_run (λ t. choose (changed_body change o) (fault WrongType t) (λ body. done body t)) k' (changed_state change s) ≡ changed_outcome change (then_run (λ t. choose o (fault WrongType t) (λ body. done body t)) k s)
      by_body s None = refl
      by_body s (Some body) = (h body).by s

  pub alike_activation : (args : List Value) {m m' : SourceRun Flow} → Alike change m m' → Alike change (activation args m) (activation args m')
  alike_activation args h = record { by = λ s. ap (λ (o : Outcome Trees Flow). record { result = result_of o.result; state = leave o.state }) (h.by (enter args s)) }

  pub alike_external : (path : AbsolutePath) (args : List Value) → Alike change (call_external path args) (call_external path args)
  alike_external path args = alike_then (alike_act (ask (Call path args))) (λ v. alike_done (Gives v))

  module _ (width : Width) where
    alike_object : (path : AbsolutePath) (object : Object) → Alike change (then_run (act (object_value width path object)) (λ v. done (Gives v))) (then_run (act (object_value width path object)) (λ v. done (Gives v)))
    alike_object path object = alike_then (alike_act (object_value width path object)) (λ v. alike_done (Gives v))

    pub alike_use : (call : AbsolutePath → List Value → SourceRun Flow) → ((path : AbsolutePath) (args : List Value) → Alike change (call path args) (call path args)) → (path : AbsolutePath) (object : Object) (args : List Value) → Alike change (use_object width call path object args) (use_object width call path object args)
    alike_use call calls path (MethodObject flags) args = calls path args
    alike_use call calls path (ExternalObject (ExternalMethod arity)) args = alike_external path args
    alike_use call calls path object args = alike_object path object

    pub alike_written : (call : AbsolutePath → List Value → SourceRun Flow) → ((path : AbsolutePath) (args : List Value) → Alike change (call path args) (call path args)) → (path : AbsolutePath) (object : Object) (args : List Value) → Alike change (call_written width call path object args) (call_written width call path object args)
    alike_written call calls path object args = alike_if (is_method object && nat_eq (operand_count object) (length args)) (alike_use call calls path object args) (alike_fault WrongType)

    pub alike_region : (path : AbsolutePath) (space : ℕ) (os : List Operand) → Alike change (make_region width path space os) (make_region width path space os)
    alike_region path space os =
        alike_then (alike_act (region_extent width os)) (λ e. alike_then (alike_create path (RegionObject space e.0 e.1)) (λ u. alike_done (Normal false)))

    pub alike_buffer_field : (form : FieldForm) (path : AbsolutePath) (os : List Operand) → Alike change (make_buffer_field width form path os) (make_buffer_field width form path os)
    alike_buffer_field form path os =
        alike_then (alike_act (new_field width form os)) (λ made. alike_then (alike_create path (BufferFieldObject made.0)) (λ u. alike_then (alike_act (keep_own path made.0.source made.1)) (λ u. alike_done (Normal false))))

  -- sessions whose loads and calls are alike
  module _ (call : AbsolutePath → List Value → SourceRun Flow) (calls : (path : AbsolutePath) (args : List Value) → Alike change (call path args) (call path args)) where
    alike_call_object : (o : Option (AbsolutePath × Object)) (args : List Value) → Alike change (call_object o call args) (call_object o call args)
    alike_call_object None args = alike_fault _
    alike_call_object (Some (path, MethodObject flags)) args = alike_if (nat_eq (arity_of flags) (length args)) (calls path args) (alike_fault _)
    alike_call_object (Some (path, ExternalObject (ExternalMethod arity))) args = alike_if (nat_eq arity (length args)) (alike_external path args) (alike_fault _)
    alike_call_object (Some (path, ExternalObject (ExternalData type))) args = alike_fault _
    alike_call_object (Some (path, ExternalObject (ExternalOther type))) args = alike_fault _
    alike_call_object (Some (path, _)) args = alike_fault _

    abbrev entry : List Request → Outcome Trees Flow → List Report
    entry requests o = report o.result o.state ∷ unless_unfinished o.result (reports call requests o.state)

    same_reports : (requests : List Request) (s : State Trees) → reports call requests (changed_state change s) ≡ reports call requests s
    same_reports [] s = refl
    same_reports (request ∷ requests) s =
        let o = answer_request call request s in
        ap (entry requests) ((alike_call_object (reached s.names request.path) request.args).by s)
        ∙ ap (λ rs. report o.result o.state ∷ unless_unfinished o.result rs) (same_reports requests o.state)

    pub same_session : (load load' : SourceRun Flow) → Alike change load load' → (start : State Trees) → changed_state change start ≡ start → (requests : List Request) → session load' call start requests ≡ session load call start requests
    same_session load load' h start e requests =
        let o = load start in
        ap (entry requests) (ap load' (sym e) ∙ h.by start) ∙ ap (λ rs. report o.result o.state ∷ unless_unfinished o.result rs) (same_reports requests o.state)
