-- One step of the walk, and runs made of runs that agree.
use Rattle.std.proofs.Common.{◌≡◌, ℕ, suc, ◌+◌, ◌≤◌, ◌<◌, ◌^◌, Bool, true, false, List, [], ◌∷◌, ◌++◌, length, Some, None, refl, ap, ◌∙◌, subst, arith, sym}
use Rattle.std.specs.Prelude.{nat_eq, ◌&&◌, if◌then◌else◌}
use Rattle.std.proofs.lemmas.Bool.Decides.{nat_tests}
use Rattle.acpi_values.specs.declared.width.Width.{Width}
use Rattle.acpi_values.specs.declared.operator.Plain.{Plain}
use Rattle.acpi_values.specs.declared.fault.Fault.TheVariants.{WrongType}
use Rattle.acpi_values.specs.Paths.{AbsolutePath}
use Rattle.acpi_values.specs.Values as V
use Rattle.acpi_values.specs.Values.{Value, Data, Place, Named}
use Rattle.acpi_values.specs.Operators.{Letter}
use Rattle.acpi_values.specs.Integers.{wrapped}
use Rattle.acpi_state.specs.Objects.{Object, as_declared, operand_count}
use Rattle.acpi_state.specs.Outcomes.{Flow, Gives, Broken, done, stop, then_run, act, choose, value_of, on_flow, Run, fault}
use Rattle.acpi_state.specs.Acts.{Operand, number_of, act_of, last_of}
use Rattle.acpi_state.specs.Forms.{spot_in, slot_here}
use Rattle.acpi_state.specs.Uses.{use_object, call_written}
use Rattle.acpi_state.proofs.Readings.{Any, EndsExpression}
use Rattle.asl_tree.specs.declared.path.Path.{Path}
use Rattle.asl_meaning.specs.Meaning as S
use Rattle.asl_meaning.specs.Meaning.{SourceRun, SpotForm, OfResult, OfInside, NoSpot, apply_with}
use Rattle.aml_code.specs.Fronts.{package_front, name_front, begins_name, IsName, IsUsedName}
use Rattle.aml_meaning.specs.Codes.{Code, code_bytes, code_front, slot_front}
use Rattle.aml_code.specs.Encoding.{name_bytes, packed}
use Rattle.aml_meaning.specs.ByteMeaning as B
use Rattle.aml_meaning.specs.ByteMeaning.{ByteRun, Walk, with_front, followed_by}
use Rattle.aml_code.proofs.FrontReads.{package_reads, name_reads, name_begins}
use Rattle.aml_meaning.proofs.CodeReads.{IsTermCode, no_integer, code_reads}
use Rattle.aml_meaning.specs.Codes.{IsCode}
use Rattle.aml_sessions.specs.Ready.{Takes, TakesNone, SpotReady}
use Rattle.aml_sessions.proofs.Heads.{name_no_integer, NoPlace}
use Rattle.asl_meaning.proofs.Agreements.{Agree, agree_done, agree_then, agree_to, agree_to_left, agree_value, agree_act, agree_use, declared_count, declared_method}
use Rattle.aml_sessions.proofs.Bodies.{Setting, as_bytes, agree_followed}

-- how a term ends that is an expression, or any other
abbrev pub EndsAs : Bool → Flow → Type 0
EndsAs true f = EndsExpression f
EndsAs false f = Unit {0}

pub as_expression : (b : Bool) (f : Flow) → b ≡ true → EndsAs b f → EndsExpression f
as_expression b f e h = subst (λ b. EndsAs b f) e h

pub as_any : (b : Bool) (f : Flow) → EndsExpression f → EndsAs b f
as_any true f h = h
as_any false f h = tt

pub last_ends : (rs : List Value) → EndsExpression (last_of rs)
last_ends [] = tt
last_ends (v ∷ []) = tt
last_ends (v ∷ w ∷ rs) = last_ends (w ∷ rs)

-- a package at the front
pub package_step : {C : Type 0} (content rest : List ℕ) (go : List ℕ → List ℕ → ByteRun C) → length content + 4 < 2 ^ 28 → with_front (package_front (packed content ++ rest)) go ≡ go content rest
package_step content rest go fits = ap (λ o. with_front o go) (package_reads content fits rest)

-- a name at the front
pub name_step : {C : Type 0} (name : Path) (rest : List ℕ) (go : Path → List ℕ → ByteRun C) → IsName name → with_front (name_front (name_bytes name ++ rest)) go ≡ go name rest
name_step name rest go valid = ap (λ o. with_front o go) (name_reads name valid rest)

-- a name, where either a name or an opcode is looked for
pub lead_step : {C : Type 0} (name : Path) (rest : List ℕ) (go : Path → List ℕ → ByteRun C) (other : ByteRun C) → IsUsedName name → (if begins_name (name_bytes name ++ rest) then with_front (name_front (name_bytes name ++ rest)) go else other) ≡ go name rest
lead_step name rest go other used =
    ap (λ b. if b then with_front (name_front (name_bytes name ++ rest)) go else other) (name_begins name used rest) ∙ name_step name rest go used.is_name

-- an opcode, where either is looked for
pub opcode_step : {C : Type 0} (code : Code) (rest : List ℕ) (named : ByteRun C) (go : Code → List ℕ → ByteRun C) → IsCode code → (if begins_name (code_bytes code ++ rest) then named else with_front (code_front (code_bytes code ++ rest)) go) ≡ go code rest
opcode_step code rest named go own =
    let r = code_reads code own rest in
    ap (λ b. if b then named else with_front (code_front (code_bytes code ++ rest)) go) r.no_name ∙ ap (λ o. with_front o go) r.code_is

-- the operand of a letter that asks for the place too
pub no_place_step : (bytes : List ℕ) (scope : AbsolutePath) → NoPlace bytes → B.place_at bytes scope ≡ done None
no_place_step bytes scope none =
    ap (λ b. if b then with_front (name_front bytes) (B.place_of_name scope) else choose (slot_front bytes) (done None) (λ slot. then_run (act (slot_here slot)) (λ place. done (Some place)))) none.no_name
    ∙ ap (λ o. choose o (done None) (λ slot. then_run (act (slot_here slot)) (λ place. done (Some place)))) none.no_slot

pub list_step : (w : Walk) (n : ℕ) (bytes : List ℕ) (scope : AbsolutePath) (due : Bool) → 1 ≤ length bytes → B.walk_all w (suc n) bytes scope due ≡ then_run (w bytes scope due) (λ r. on_flow r.0 (B.walk_all w n r.1 scope))
list_step w n [] scope due some = absurd (omega arith)
list_step w n (byte ∷ bytes) scope due some = refl

pub element_step : (width : Width) (w : Walk) (n : ℕ) (bytes : List ℕ) (scope : AbsolutePath) → 1 ≤ length bytes → B.elements width w (suc n) bytes scope ≡ then_run (B.element_at width w bytes scope) (λ r. then_run (B.elements width w n r.1 scope) (λ vs. done (V.element r.0 vs)))
element_step width w n [] scope some = absurd (omega arith)
element_step width w n (byte ∷ bytes) scope some = refl

module _ (width : Width) (turns : ℕ) (call : AbsolutePath → List Value → ByteRun Flow) where
  -- an opcode at the front of a term
  pub code_step : (n : ℕ) (code : Code) (rest : List ℕ) (scope : AbsolutePath) (due : Bool) → IsTermCode code → IsCode code → B.walk width turns call (suc n) (code_bytes code ++ rest) scope due ≡ B.term_of_code width turns call (B.walk width turns call n) due scope code rest
  code_step n code rest scope due term own =
      ap (λ o. choose o (B.other_term width turns call (B.walk width turns call n) due scope (code_bytes code ++ rest)) (λ r. done (Gives (Data (V.Integer (wrapped width r.0))), r.1))) (no_integer width code term rest)
      ∙ opcode_step code rest _ (B.term_of_code width turns call (B.walk width turns call n) due scope) own

  -- a name at the front of a term
  pub use_step : (n : ℕ) (name : Path) (rest : List ℕ) (scope : AbsolutePath) (due : Bool) → IsUsedName name → B.walk width turns call (suc n) (name_bytes name ++ rest) scope due ≡ B.use_name width turns call (B.walk width turns call n) scope name rest
  use_step n name rest scope due used =
      ap (λ o. choose o (B.other_term width turns call (B.walk width turns call n) due scope (name_bytes name ++ rest)) (λ r. done (Gives (Data (V.Integer (wrapped width r.0))), r.1))) (name_no_integer width (name_bytes name ++ rest) (name_begins name used rest))
      ∙ lead_step name rest (B.use_name width turns call (B.walk width turns call n) scope) _ used

module _ (given : Setting) where
  -- a value that is used
  pub agree_operand : (b : Bool) (m : SourceRun Flow) (w : Walk) (bytes rest : List ℕ) (scope : AbsolutePath) → b ≡ true → Agree (as_bytes given) (EndsAs b) (λ f. (f, rest)) m (w bytes scope false) → Agree (as_bytes given) Any (λ v. (v, rest)) (then_run m value_of) (B.operand w bytes scope)
  agree_operand b m w bytes rest scope e h =
      agree_then (as_bytes given) Any (λ v. (v, rest)) _ h (λ f ends. agree_followed given rest (agree_value (as_bytes given) f (as_expression b f e ends)))

  -- a value that is a number
  pub agree_size : (m : SourceRun Flow) (w : Walk) (bytes rest : List ℕ) (scope : AbsolutePath) → Agree (as_bytes given) Any (λ v. (v, rest)) (then_run m value_of) (B.operand w bytes scope) → Agree (as_bytes given) Any (λ n. (n, rest)) (S.size_by given.width given.known m) (B.size_of given.width w bytes scope)
  agree_size m w bytes rest scope h =
      agree_then (as_bytes given) Any (λ n. (n, rest)) _ h (λ v any. agree_followed given rest (agree_act (as_bytes given) (number_of given.width v)))

  -- a plain operator, whatever it does
  pub agree_plain : (op : Plain) (ops : SourceRun (List Operand)) (into : List Value → SourceRun (Unit {0})) (w : Walk) (letters : List Letter) (k : ℕ) (bytes after rest : List ℕ) (scope : AbsolutePath) →
      Agree (as_bytes given) Any (λ os. (os, after)) ops (B.operands w letters bytes scope) → ((rs : List Value) → Agree (as_bytes given) Any (λ u. rest) (into rs) (B.store_all given.width w k rs after scope)) →
      Agree (as_bytes given) EndsExpression (λ f. (f, rest)) (apply_with given.width op ops into) (B.plain_term given.width w letters k op bytes scope)
  agree_plain op ops into w letters k bytes after rest scope ho ht =
      agree_then (as_bytes given) EndsExpression (λ f. (f, rest)) _ ho
      (λ os any. agree_then (as_bytes given) EndsExpression (λ f. (f, rest)) _ (agree_act (as_bytes given) (act_of op given.width os))
      (λ rs any. agree_then (as_bytes given) EndsExpression (λ f. (f, rest)) _ (ht rs)
      (λ u any. agree_done (as_bytes given) EndsExpression (λ f. (f, rest)) (last_of rs) (last_ends rs))))

  -- an operator that stands for a place
  pub agree_spot_form : (form : SpotForm) (R I : Type 0) (result : SourceRun Flow) (inside : SourceRun Value) (w : Walk) (bytes after rest : List ℕ) (scope : AbsolutePath) → SpotReady form R I →
      (R → Agree (as_bytes given) EndsExpression (λ f. (f, rest)) result (w bytes scope false)) → (I → Agree (as_bytes given) Any (λ v. (v, rest)) inside (B.operand w after scope)) →
      Agree (as_bytes given) Any (λ p. (p, rest)) (S.spot_by given.width given.known form result inside) (choose (B.spot_bytes form bytes after) (stop Broken) (B.spot_operand w scope))
  agree_spot_form OfResult R I result inside w bytes after rest scope ready hr hi =
      agree_then (as_bytes given) Any (λ p. (p, rest)) _ (agree_operand true result w bytes rest scope refl (hr ready)) (λ v any. agree_followed given rest (agree_act (as_bytes given) (spot_in v)))
  agree_spot_form OfInside R I result inside w bytes after rest scope ready hr hi =
      agree_then (as_bytes given) Any (λ p. (p, rest)) _ (hi ready) (λ v any. agree_followed given rest (agree_act (as_bytes given) (spot_in v)))
  agree_spot_form NoSpot R I result inside w bytes after rest scope ready hr hi = absurd ready

-- a call that is written with as many arguments as the method takes
written_is : {B : Type 0} (width : Width) (call : AbsolutePath → List Value → Run B Flow) (path : AbsolutePath) (object : Object) (vs : List Value) (n : ℕ) → Takes n object → length vs ≡ n → call_written width call path object vs ≡ use_object width call path object vs
written_is {B} width call path object vs n takes size =
    let e : operand_count object ≡ length vs = takes.1 ∙ sym size in
    let same : nat_eq (operand_count object) (length vs) ≡ true = grind (arith, nat_tests, e) in
    ap (λ b. if b && nat_eq (operand_count object) (length vs) then use_object {B = B} width call path object vs else fault WrongType) takes.0
    ∙ ap (λ b. if b then use_object {B = B} width call path object vs else fault WrongType) same

module _ (given : Setting) (call : AbsolutePath → List Value → SourceRun Flow) (call' : AbsolutePath → List Value → ByteRun Flow) (calls : (path : AbsolutePath) (args : List Value) → Agree (as_bytes given) EndsExpression (λ f. f) (call path args) (call' path args)) where
  -- what is found takes no operands
  pub agree_use_found : (e : AbsolutePath × Object) (w : Walk) (rest : List ℕ) (scope : AbsolutePath) → TakesNone (as_declared e.1) → Agree (as_bytes given) EndsExpression (λ f. (f, rest)) (use_object given.width call e.0 e.1 []) (then_run (B.values w (operand_count e.1) rest scope) (λ r. followed_by r.1 (use_object given.width call' e.0 e.1 r.0)))
  agree_use_found e w rest scope none =
      agree_to (as_bytes given) (ap (λ k. then_run (B.values w k rest scope) (λ r. followed_by r.1 (use_object given.width call' e.0 e.1 r.0))) (sym (declared_count e.1) ∙ none))
      (agree_followed given rest (agree_use (as_bytes given) given.width call call' calls e.0 e.1 []))

  -- what is found is a method of as many arguments as are written
  pub agree_call_found : (e : AbsolutePath × Object) (n : ℕ) (args : SourceRun (List Value)) (w : Walk) (bytes rest : List ℕ) (scope : AbsolutePath) → Takes n (as_declared e.1) → Agree (as_bytes given) (λ vs. length vs ≡ n) (λ vs. (vs, rest)) args (B.values w n bytes scope) →
      Agree (as_bytes given) EndsExpression (λ f. (f, rest)) (then_run args (λ vs. call_written given.width call e.0 e.1 vs)) (then_run (B.values w (operand_count e.1) bytes scope) (λ r. followed_by r.1 (use_object given.width call' e.0 e.1 r.0)))
  agree_call_found e n args w bytes rest scope takes h =
      let takes' : Takes n e.1 = (sym (declared_method e.1) ∙ takes.0, sym (declared_count e.1) ∙ takes.1) in
      agree_to (as_bytes given) (ap (λ k. then_run (B.values w k bytes scope) (λ r. followed_by r.1 (use_object given.width call' e.0 e.1 r.0))) takes'.1)
      (agree_then (as_bytes given) EndsExpression (λ f. (f, rest)) _ h
      (λ vs size. agree_to_left (as_bytes given) (written_is given.width call e.0 e.1 vs n takes' size)
      (agree_followed given rest (agree_use (as_bytes given) given.width call call' calls e.0 e.1 vs))))
