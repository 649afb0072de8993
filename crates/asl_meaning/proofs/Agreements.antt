-- Two readings of one state, in which the bodies of methods are kept in two ways, and the actions that runs on
-- both share.
use Rattle.std.proofs.Common.{◌≡◌, ℕ, zero, suc, Bool, true, false, List, [], ◌∷◌, Option, Some, None, refl, sym, ap, ◌∙◌, subst, arith}
use Rattle.std.specs.Prelude.{if◌then◌else◌, is_some}
use Rattle.acpi_values.specs.Paths.{AbsolutePath, is_same_path}
use Rattle.acpi_values.specs.declared.width.Width.{Width}
use Rattle.acpi_values.specs.declared.fault.Fault.{Fault}
use Rattle.acpi_values.specs.declared.fault.Fault.TheVariants.{WrongType}
use Rattle.acpi_values.specs.Values.{Value}
use Rattle.acpi_state.specs.Objects.{Object, MethodObject, AliasObject, ExternalObject, ExternalMethod, ExternalData, ExternalOther, Names, Call, as_declared, operand_count, is_method, lookup, without, without_all, RegionObject, BufferFieldObject}
use Rattle.acpi_state.specs.Loops.{after_turn, loop}
use Rattle.acpi_state.specs.Actions.{ask}
use Rattle.acpi_state.specs.Forms.{object_value}
use Rattle.acpi_state.specs.Finds.{object_at, past_alias, reached, existing}
use Rattle.acpi_state.specs.Sessions.{call_external}
use Rattle.acpi_state.specs.Uses.{use_object}
use Rattle.acpi_state.specs.FieldUnits.{BufferField}
use Rattle.acpi_state.specs.BufferFields.{keep_own}
use Rattle.acpi_state.specs.Acts.{Operand}
use Rattle.acpi_state.specs.FieldActs.{region_extent, make_region, FieldForm, new_field, make_buffer_field}
use Rattle.acpi_state.specs.State.{Store, State}
use Rattle.acpi_state.specs.Outcomes.{Faulted, Flow, Normal, Gives, Break, Return, Result, Done, Stopped, map_result, Outcome, Run, Step, Steps, Fails, Waits, step_result, Action, done, fault, then_run, act, choose, value_of, on_flow, Unfinished}
use Rattle.acpi_state.specs.Activations.{scope_object, create_in, create, keep_body, body_at, enter, leave, innermost, result_of, activation}
use Rattle.acpi_state.proofs.Lookups.{is_same_path-true}
use Rattle.acpi_state.proofs.Readings.{Any, Ends, EndsExpression, Joint, Same, same_done, same_stop, same_then, same_so, same_value, same_on_flow}
use Rattle.asl_tree.specs.Tree.{Trees}
use Rattle.asl_tree.specs.Names.{NameKind, Is, AliasTo, Known, is_known, kind_at, end_by, end_of}
pub use Rattle.asl_meaning.specs.Starts.{LeadsTo, IsKnownAs, AreNamed, AreKnownAs}
use Rattle.asl_meaning.proofs.Searches.{AreKnown}

-- how many operands an object has is said by its declaration
pub declared_count : (object : Object) → operand_count (as_declared object) ≡ operand_count object
declared_count (ExternalObject (ExternalMethod arity)) = refl
declared_count (ExternalObject (ExternalData type)) = refl
declared_count (ExternalObject (ExternalOther type)) = refl
declared_count _ = refl

pub declared_method : (object : Object) → is_method (as_declared object) ≡ is_method object
declared_method (ExternalObject (ExternalMethod arity)) = refl
declared_method (ExternalObject (ExternalData type)) = refl
declared_method (ExternalObject (ExternalOther type)) = refl
declared_method _ = refl

-- if there is one, it has the property
abbrev pub Has : {A : Type 0} → (A → Type 0) → Option A → Type 0
Has P None = Unit {0}
Has P (Some a) = P a

-- where a path ends after some aliases
pub record Reached (known : Known) (path : AbsolutePath) (found : AbsolutePath × Object) : Type 0 where
  pub steps : ℕ
  pub ends : end_of known steps path ≡ Some (found.0, as_declared found.1)

abbrev second_or : Object → Option (AbsolutePath × Object) → Object
second_or object None = object
second_or object (Some found) = found.1

abbrev first_or : AbsolutePath → Option (AbsolutePath × Object) → AbsolutePath
first_or path None = path
first_or path (Some found) = found.0

abbrev object_or : Object → Option NameKind → Object
object_or object (Some (Is other)) = other
object_or object _ = object

module _ (P : AbsolutePath → Object → Type 0) where
  pub named_without : (path : AbsolutePath) (names : Names) → AreNamed P names → AreNamed P (without path names)
  named_without path [] h = tt
  named_without path (entry ∷ entries) h = by_same (is_same_path entry.0 path) (named_without path entries h.1)
    where
      by_same : (c : Bool) → AreNamed P (without path entries) → AreNamed P (if c then without path entries else entry ∷ without path entries)
      by_same true rest = rest
      by_same false rest = (h.0, rest)

  pub named_without_all : (paths : List AbsolutePath) (names : Names) → AreNamed P names → AreNamed P (without_all paths names)
  named_without_all [] names h = h
  named_without_all (path ∷ paths) names h = named_without path (without_all paths names) (named_without_all paths names h)

module _ (known : Known) where
  lookup_known : (names : Names) (path : AbsolutePath) → AreKnownAs known names → Has (IsKnownAs known path) (lookup names path)
  lookup_known [] path h = tt
  lookup_known (entry ∷ entries) path h = by_same (is_same_path entry.0 path) refl (lookup_known entries path h.1)
    where
      by_same : (c : Bool) → is_same_path entry.0 path ≡ c → Has (IsKnownAs known path) (lookup entries path) → Has (IsKnownAs known path) (if c then Some entry.1 else lookup entries path)
      by_same true e rest = subst (λ p. IsKnownAs known p entry.1) (is_same_path-true entry.0 path e) h.0
      by_same false e rest = rest

  -- what stands at a path is known as such
  pub object_known : (names : Names) (path : AbsolutePath) → AreKnownAs known names → Has (IsKnownAs known path) (object_at names path)
  object_known names [] h = refl
  object_known names (seg ∷ scope) h = lookup_known names (seg ∷ scope) h

  is_there : (path : AbsolutePath) (object : Object) → IsKnownAs known path object → is_known known path ≡ true
  is_there path (AliasObject target) h = ap is_some h.kind
  is_there path _ h = ap is_some h

  pub all_known : (names : Names) → AreKnownAs known names → AreKnown (is_known known) names
  all_known names h = record { by = λ path object there. is_there path object (subst (Has (IsKnownAs known path)) there (object_known names path h)) }

  -- a path ends at an object that is no alias
  pub end_is : (n : ℕ) (path target : AbsolutePath) (object : Object) → end_of known n path ≡ Some (target, object) → kind_at known target ≡ Some (Is object)
  end_is zero path target object e = absurd (grind arith)
  end_is (suc n) path target object e = by_kind (kind_at known path) refl e (λ source. end_is n source target object)
    where
      by_kind : (o : Option NameKind) → kind_at known path ≡ o → end_by o path (end_of known n) ≡ Some (target, object) → ((source : AbsolutePath) → end_of known n source ≡ Some (target, object) → kind_at known target ≡ Some (Is object)) → kind_at known target ≡ Some (Is object)
      by_kind None h e go = absurd (grind arith)
      by_kind (Some (Is other)) h e go =
          ap (kind_at known) (sym (ap (first_or path) e)) ∙ h ∙ ap (λ o. Some (Is o)) (ap (second_or other) e)
      by_kind (Some (AliasTo None)) h e go = absurd (grind arith)
      by_kind (Some (AliasTo (Some source))) h e go = go source e

  no_alias : (path : AbsolutePath) (object : Object) (source : Option AbsolutePath) → kind_at known path ≡ Some (Is object) → kind_at known path ≡ Some (AliasTo source) → ⊥
  no_alias path object source h g = let x = sym h ∙ g in grind arith

  end_here : (path : AbsolutePath) (object : Object) → kind_at known path ≡ Some (Is (as_declared object)) → Reached known path (path, object)
  end_here path object h = record { steps = 1; ends = ap (λ k. end_by k path (end_of known 0)) h }

  -- what a path leads to now is where it ends
  pub reaches : (names : Names) (path : AbsolutePath) → AreKnownAs known names → Has (Reached known path) (reached names path)
  reaches names path h = by_object (object_at names path) (object_known names path h)
    where
      at_target : (target : AbsolutePath) → LeadsTo known path target → (o : Option Object) → Has (IsKnownAs known target) o → Has (Reached known path) (choose o None (λ object. Some (target, object)))
      at_target target leads None k = tt
      at_target target leads (Some (AliasObject further)) k = absurd (no_alias target leads.object k.source (end_is leads.steps path target leads.object leads.ends) k.kind)
      at_target target leads (Some object) k =
          record { steps = leads.steps; ends = leads.ends ∙ ap (λ o. Some (target, object_or leads.object o)) (sym (end_is leads.steps path target leads.object leads.ends) ∙ k) }

      by_object : (o : Option Object) → Has (IsKnownAs known path) o → Has (Reached known path) (choose o None (past_alias names path))
      by_object None k = tt
      by_object (Some (AliasObject target)) k = at_target target k (object_at names target) (object_known names target h)
      by_object (Some object) k = end_here path object k

-- what holds of what stands at a path, how the other side keeps a body, and what holds of a body that is kept
pub record Reading (B : Type 0) : Type 1 where
  pub IsNamed : AbsolutePath → Object → Type 0
  pub convert : AbsolutePath → Trees → B
  pub Kept : AbsolutePath → Trees → Type 0

module _ {B : Type 0} (r : Reading B) where
  abbrev pub right_bodies : List (AbsolutePath × Trees) → List (AbsolutePath × B)
  right_bodies [] = []
  right_bodies (entry ∷ entries) = (entry.0, r.convert entry.0 entry.1) ∷ right_bodies entries

  -- the same state with the bodies of methods as the other side keeps them
  abbrev pub right_state : State Trees → State B
  right_state s = record { names = s.names; created = s.created; begun = s.begun; store = s.store; bodies = right_bodies s.bodies }

  abbrev pub AreKept : List (AbsolutePath × Trees) → Type 0
  AreKept [] = Unit {0}
  AreKept (entry ∷ entries) = r.Kept entry.0 entry.1 × AreKept entries

  -- what always holds: all that stands somewhere is known as such, and all bodies that are kept are ready
  pub record IsFine (s : State Trees) : Type 0 where
    pub names : AreNamed r.IsNamed s.names
    pub bodies : AreKept s.bodies

  -- two runs do the same, and the result has the property
  abbrev pub Agree : {A C : Type 0} → (A → Type 0) → (A → C) → Run Trees A → Run B C → Type 0
  Agree P c m m' = Same (λ j. j) right_state IsFine P c m m'

  pub agree_done : {A C : Type 0} (P : A → Type 0) (c : A → C) (a : A) → P a → Agree P c (done a) (done (c a))
  agree_done P c a p = same_done (λ j. j) right_state IsFine P c a p

  pub agree_fault : {A C : Type 0} (P : A → Type 0) (c : A → C) (f : Fault) → Agree P c (fault f) (fault f)
  agree_fault P c f = same_stop (λ j. j) right_state IsFine P c _ tt

  pub agree_then : {A C D E : Type 0} {P : A → Type 0} {c : A → C} (Q : D → Type 0) (d : D → E) {m : Run Trees A} {m' : Run B C} {k : A → Run Trees D} (k' : C → Run B E) → Agree P c m m' → ((a : A) → P a → Agree Q d (k a) (k' (c a))) → Agree Q d (then_run m k) (then_run m' k')
  agree_then {P = P} {c = c} Q d {m = m} {m' = m'} {k = k} k' hm hk = same_then (λ j. j) right_state IsFine P c Q d m m' k k' hm hk

  pub agree_to : {A C : Type 0} {P : A → Type 0} {c : A → C} {m : Run Trees A} {m' m'' : Run B C} → m' ≡ m'' → Agree P c m m'' → Agree P c m m'
  agree_to {P = P} {c = c} {m = m} e h = subst (λ x. Agree P c m x) (sym e) h

  pub agree_to_left : {A C : Type 0} {P : A → Type 0} {c : A → C} {m m'' : Run Trees A} {m' : Run B C} → m ≡ m'' → Agree P c m'' m' → Agree P c m m'
  agree_to_left {P = P} {c = c} {m' = m'} e h = subst (λ x. Agree P c x m') (sym e) h

  pub agree_any : {A C : Type 0} {P : A → Type 0} {c : A → C} {m : Run Trees A} {m' : Run B C} → Agree P c m m' → Agree Any c m m'
  agree_any {P = P} {c = c} {m = m} {m' = m'} h = same_so (λ j. j) right_state IsFine P Any c m m' (λ a p. tt) h

  pub agree_so : {A C : Type 0} {P : A → Type 0} (Q : A → Type 0) {c : A → C} {m : Run Trees A} {m' : Run B C} → ((a : A) → P a → Q a) → Agree P c m m' → Agree Q c m m'
  agree_so {P = P} Q {c = c} {m = m} {m' = m'} f h = same_so (λ j. j) right_state IsFine P Q c m m' f h

  pub agree_value : (f : Flow) → EndsExpression f → Agree Any (λ x. x) (value_of f) (value_of f)
  agree_value f h = same_value (λ j. j) right_state IsFine f h

  pub agree_on_flow : (f : Flow) (go : Bool → Run Trees Flow) (go' : Bool → Run B Flow) → ((d : Bool) → Agree Any (λ x. x) (go d) (go' d)) → Agree Any (λ x. x) (on_flow f go) (on_flow f go')
  agree_on_flow f go go' h = same_on_flow (λ j. j) right_state IsFine f go go' h

  -- an action
  pub agree_act : {A : Type 0} (a : Action A) → Agree Any (λ x. x) (act a) (act a)
  agree_act {A} a = record { same = record { by = λ j fine. by_step j fine (a j.names j.store).0 (a j.names j.store).1 } }
    where
      by_step : (j : State Trees) → IsFine j → (r : Step A) (store : Store) → Joint (λ j. j) right_state IsFine (λ a s. Any a × IsFine s) (λ x. x) (record { result = step_result r; state = record j { store = store } }) (record { result = step_result r; state = record (right_state j) { store = store } })
      by_step j fine (Steps a) store = record { result = Done a; end = _; holds = (tt, record { names = fine.names; bodies = fine.bodies }); left_is = refl; right_is = refl }
      by_step j fine (Fails f) store = record { result = Stopped (Faulted f); end = _; holds = (tt, record { names = fine.names; bodies = fine.bodies }); left_is = refl; right_is = refl }
      by_step j fine Waits store = record { result = Stopped _; end = _; holds = (tt, record { names = fine.names; bodies = fine.bodies }); left_is = refl; right_is = refl }

  -- an action whose result is the term's value
  pub agree_given : (a : Action Value) → Agree EndsExpression (λ f. f) (then_run (act a) (λ v. done (Gives v))) (then_run (act a) (λ v. done (Gives v)))
  agree_given a = agree_then EndsExpression (λ f. f) _ (agree_act a) (λ v any. agree_done EndsExpression (λ f. f) (Gives v) tt)

  agree_create_in : (o : Option (Unit {0})) (old : Option Object) (path : AbsolutePath) (object : Object) → r.IsNamed path object → Agree Any (λ x. x) (create_in o old path object) (create_in o old path object)
  agree_create_in None old path object is = agree_fault Any (λ x. x) _
  agree_create_in (Some u) (Some other) path object is = agree_fault Any (λ x. x) _
  agree_create_in (Some u) None path object is = record { same = record { by = λ j fine. record { result = Done tt; end = _; holds = (tt, record { names = (is, fine.names); bodies = fine.bodies }); left_is = refl; right_is = refl } } }

  pub agree_create : (path : AbsolutePath) (object : Object) → r.IsNamed path object → Agree Any (λ x. x) (create path object) (create path object)
  agree_create [] object is = agree_fault Any (λ x. x) _
  agree_create (seg ∷ scope) object is = record { same = record { by = λ j fine. (agree_create_in (scope_object j.names scope) (lookup j.names (seg ∷ scope)) (seg ∷ scope) object is).same.by j fine } }

  pub agree_keep : (path : AbsolutePath) (body : Trees) → r.Kept path body → Agree Any (λ x. x) (keep_body path body) (keep_body path (r.convert path body))
  agree_keep path body kept = record { same = record { by = λ j fine. record { result = Done tt; end = _; holds = (tt, record { names = fine.names; bodies = (kept, fine.bodies) }); left_is = refl; right_is = refl } } }

  kept_body : (entries : List (AbsolutePath × Trees)) (path : AbsolutePath) → AreKept entries → (lookup (right_bodies entries) path ≡ choose (lookup entries path) None (λ body. Some (r.convert path body))) × Has (r.Kept path) (lookup entries path)
  kept_body [] path h = (refl, tt)
  kept_body (entry ∷ entries) path h = by_head (is_same_path entry.0 path) refl (kept_body entries path h.1)
    where
      Now : Option Trees → Option B → Type 0
      Now o o' = (o' ≡ choose o None (λ body. Some (r.convert path body))) × Has (r.Kept path) o

      by_head : (c : Bool) → is_same_path entry.0 path ≡ c → Now (lookup entries path) (lookup (right_bodies entries) path) → Now (if c then Some entry.1 else lookup entries path) (if c then Some (r.convert entry.0 entry.1) else lookup (right_bodies entries) path)
      by_head true e found =
          let same = is_same_path-true entry.0 path e in (ap (λ p. Some (r.convert p entry.1)) same, subst (λ p. r.Kept p entry.1) same h.0)
      by_head false e found = found

  pub agree_body : (path : AbsolutePath) → Agree (r.Kept path) (r.convert path) (body_at path) (body_at path)
  agree_body path = record { same = record { by = λ j fine. let h = kept_body j.bodies path fine.bodies in by_found j fine (lookup j.bodies path) (lookup (right_bodies j.bodies) path) h.0 h.1 } }
    where
      by_found : (j : State Trees) → IsFine j → (o : Option Trees) (o' : Option B) → o' ≡ choose o None (λ body. Some (r.convert path body)) → Has (r.Kept path) o → Joint (λ j. j) right_state IsFine (λ body s. r.Kept path body × IsFine s) (r.convert path) (choose o (fault WrongType j) (λ body. done body j)) (choose o' (fault WrongType (right_state j)) (λ body. done body (right_state j)))
      by_found j fine None o' e h = record { result = Stopped _; end = j; holds = (tt, fine); left_is = refl; right_is = ap (λ o. choose o (fault WrongType (right_state j)) (λ body. done body (right_state j))) e }
      by_found j fine (Some body) o' e h = record { result = Done body; end = j; holds = (h, fine); left_is = refl; right_is = ap (λ o. choose o (fault WrongType (right_state j)) (λ body. done body (right_state j))) e }

  -- a look at the objects alone
  pub agree_existing : {A : Type 0} (P : A → Type 0) (f g : Names → Option A) → ((names : Names) → AreNamed r.IsNamed names → (f names ≡ g names) × Has P (f names)) → Agree P (λ a. a) (λ s. existing (f s.names) s) (λ s. existing (g s.names) s)
  agree_existing {A} P f g all = record { same = record { by = λ j fine. let h = all j.names fine.names in by_found j fine (f j.names) (g j.names) h.0 h.1 } }
    where
      by_found : (j : State Trees) → IsFine j → (o o' : Option A) → o ≡ o' → Has P o → Joint (λ j. j) right_state IsFine (λ a s. P a × IsFine s) (λ a. a) (existing o j) (existing o' (right_state j))
      by_found j fine None o' e h = record { result = Stopped _; end = j; holds = (tt, fine); left_is = refl; right_is = ap (λ o. existing o (right_state j)) (sym e) }
      by_found j fine (Some a) o' e h = record { result = Done a; end = j; holds = (h, fine); left_is = refl; right_is = ap (λ o. existing o (right_state j)) (sym e) }

  -- the same look on both sides, at what may not be there
  pub agree_look : {A : Type 0} (P : A → Type 0) (f g : Names → A) → ((names : Names) → AreNamed r.IsNamed names → (f names ≡ g names) × P (f names)) → Agree P (λ a. a) (λ s. done (f s.names) s) (λ s. done (g s.names) s)
  agree_look P f g all =
      record { same = record { by = λ j fine. let h = all j.names fine.names in record { result = Done (f j.names); end = j; holds = (h.1, fine); left_is = refl; right_is = ap (λ a. done a (right_state j)) (sym h.0) } } }

  pub agree_external : (path : AbsolutePath) (args : List Value) → Agree EndsExpression (λ f. f) (call_external path args) (call_external path args)
  agree_external path args = agree_given (ask (Call path args))

  -- what a name leads to is used in the same way
  pub agree_use : (width : Width) (call : AbsolutePath → List Value → Run Trees Flow) (call' : AbsolutePath → List Value → Run B Flow) → ((path : AbsolutePath) (args : List Value) → Agree EndsExpression (λ f. f) (call path args) (call' path args)) → (path : AbsolutePath) (object : Object) (args : List Value)
      → Agree EndsExpression (λ f. f) (use_object width call path object args) (use_object width call' path object args)
  agree_use width call call' calls path (MethodObject flags) args = calls path args
  agree_use width call call' calls path (ExternalObject (ExternalMethod arity)) args = agree_external path args
  agree_use width call call' calls path (ExternalObject (ExternalData type)) args = agree_given (object_value width path (ExternalObject (ExternalData type)))
  agree_use width call call' calls path (ExternalObject (ExternalOther type)) args = agree_given (object_value width path (ExternalObject (ExternalOther type)))
  agree_use width call call' calls path object args = agree_given (object_value width path object)

  -- a region, and a buffer field, of which only what is declared must be known
  pub agree_region : (width : Width) (path : AbsolutePath) (space : ℕ) (os : List Operand) → ((offset size : ℕ) → r.IsNamed path (RegionObject space offset size)) → Agree Any (λ f. f) (make_region width path space os) (make_region width path space os)
  agree_region width path space os named =
      agree_then Any (λ f. f) _ (agree_act (region_extent width os))
      (λ e any. agree_then Any (λ f. f) (λ u. done (Normal false)) (agree_create path (RegionObject space e.0 e.1) (named e.0 e.1)) (λ u any. agree_done Any (λ f. f) (Normal false) tt))

  pub agree_buffer_field : (width : Width) (form : FieldForm) (path : AbsolutePath) (os : List Operand) → ((field : BufferField) → r.IsNamed path (BufferFieldObject field)) → Agree Any (λ f. f) (make_buffer_field width form path os) (make_buffer_field width form path os)
  agree_buffer_field width form path os named =
      agree_then Any (λ f. f) _ (agree_act (new_field width form os))
      (λ made any. agree_then Any (λ f. f) _ (agree_create path (BufferFieldObject made.0) (named made.0))
      (λ u any. agree_then Any (λ f. f) (λ u. done (Normal false)) (agree_act (keep_own path made.0.source made.1)) (λ u any. agree_done Any (λ f. f) (Normal false) tt)))

  agree_after_turn : (f : Flow) (m : Run Trees Flow) (m' : Run B Flow) → Agree Any (λ f. f) m m' → Agree Any (λ f. f) (after_turn f m) (after_turn f m')
  agree_after_turn Break m m' h = agree_done Any (λ f. f) (Normal false) tt
  agree_after_turn (Return v) m m' h = agree_done Any (λ f. f) (Return v) tt
  agree_after_turn _ m m' h = h

  pub agree_if : {A C : Type 0} (P : A → Type 0) (c : A → C) (b : Bool) {m n : Run Trees A} {m' n' : Run B C} → Agree P c m m' → Agree P c n n' → Agree P c (if b then m else n) (if b then m' else n')
  agree_if P c true h k = h
  agree_if P c false h k = k

  -- a loop whose test leaves what its body begins with
  pub agree_loop : {X X' : Type 0} (c : X → X') (n : ℕ) (test : Run Trees (Bool × X)) (test' : Run B (Bool × X')) (body : X → Run Trees Flow) (body' : X' → Run B Flow) → Agree Any (λ b. (b.0, c b.1)) test test' → ((x : X) → Agree Any (λ f. f) (body x) (body' (c x))) → Agree Any (λ f. f) (loop n test body) (loop n test' body')
  agree_loop c zero test test' body body' ht hb =
      agree_then Any (λ f. f) _ ht (λ b any. agree_if Any (λ f. f) b.0 (same_stop (λ j. j) right_state IsFine Any (λ f. f) Unfinished tt) (agree_done Any (λ f. f) (Normal false) tt))
  agree_loop c (suc n) test test' body body' ht hb =
      agree_then Any (λ f. f) _ ht
      (λ b any. agree_if Any (λ f. f) b.0 (agree_then Any (λ f. f) _ (hb b.1) (λ f any. agree_after_turn f _ _ (agree_loop c n test test' body body' ht hb))) (agree_done Any (λ f. f) (Normal false) tt))

  same_result : (result : Result Flow) → result_of (map_result (λ f. f) result) ≡ map_result (λ f. f) (result_of result)
  same_result (Done (Return v)) = refl
  same_result (Done _) = refl
  same_result (Stopped x) = refl

  abbrev EndsFine : {A : Type 0} → (A → Type 0) → Result A → State Trees → Type 0
  EndsFine P result s = Ends (λ j. j) right_state IsFine (λ a t. P a × IsFine t) result s

  left : (s : State Trees) → IsFine s → IsFine (leave s)
  left s h = record { names = named_without_all r.IsNamed (innermost s.created) s.names h.names; bodies = h.bodies }

  ends : (result : Result Flow) (s : State Trees) → EndsFine Any result s → EndsFine EndsExpression (result_of result) (leave s)
  ends (Done (Return v)) s h = (tt, left s h.1)
  ends (Done _) s h = (tt, left s h.1)
  ends (Stopped x) s h = (h.0, left s h.1)

  pub agree_activation : (args : List Value) (m : Run Trees Flow) (m' : Run B Flow) → Agree Any (λ f. f) m m' → Agree EndsExpression (λ f. f) (activation args m) (activation args m')
  agree_activation args m m' h = record { same = record { by = all } }
    where
      all : (j : State Trees) → IsFine j → Joint (λ j. j) right_state IsFine (λ f s. EndsExpression f × IsFine s) (λ f. f) (activation args m j) (activation args m' (right_state j))
      all j fine =
          let g = h.same.by (enter args j) (record { names = fine.names; bodies = fine.bodies }) in
          record {
            result = result_of g.result;
            end = leave g.end;
            holds = ends g.result g.end g.holds;
            left_is = ap (λ (o : Outcome Trees Flow). record { result = result_of o.result; state = leave o.state }) g.left_is;
            right_is = ap (λ (o : Outcome B Flow). record { result = result_of o.result; state = leave o.state }) g.right_is ∙ ap (λ result. record { result = result; state = right_state (leave g.end) }) (same_result g.result);
          }
