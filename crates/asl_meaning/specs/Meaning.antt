-- What a program means (ACPI Specification 6.4, 19): terms are taken from its tree, and names from what the program
-- declares.
use Rattle.std.specs.Prelude.{ℕ, zero, suc, Bool, false, List, [], ◌∷◌, ◌++◌, Option, Some, None, if◌then◌else◌, true, ◌||◌}
use Rattle.acpi_values.specs.declared.width.Width.{Width}
use Rattle.acpi_values.specs.declared.operator.Plain.{Plain}
use Rattle.acpi_values.specs.declared.operator.IntOp.TheVariants as IntOp
use Rattle.acpi_values.specs.declared.operator.DataOp.TheVariants as DataOp
use Rattle.acpi_values.specs.declared.fault.Fault.TheVariants.{WrongType}
use Rattle.acpi_values.specs.Paths.{AbsolutePath}
use Rattle.acpi_values.specs.Values as V
use Rattle.acpi_values.specs.Values.{Value, Data, Reference, Elements, no_elements, element, Place, Named}
use Rattle.acpi_values.specs.Operators.{Letter, Valued, Kept, Placed, Used, Row, row_of}
use Rattle.acpi_values.specs.Operators as L
use Rattle.acpi_values.specs.Conversions.{to_string}
use Rattle.acpi_values.specs.Integers.{wrapped}
use Rattle.acpi_state.specs.Objects.{Object, DataObject, MethodObject, ContainerObject, MutexObject, EventObject, AliasObject}
use Rattle.acpi_state.specs.Outcomes.{Flow, Normal, Gives, Stop, Unfinished, Broken, Run, done, stop, fault, then_run, act, choose}
use Rattle.acpi_state.specs.Outcomes.{value_of, on_flow}
use Rattle.acpi_state.specs.Outcomes as O
use Rattle.acpi_state.specs.Loops.{is_true, loop}
use Rattle.acpi_state.specs.Actions.{give, and_then, computed, write_named}
use Rattle.acpi_state.specs.Activations.{create, keep_body, body_at, activation}
use Rattle.acpi_state.specs.Finds.{first_there, reached, existing, reach}
use Rattle.acpi_state.specs.Stores.{Spot, Nowhere, DebugObject, At, read, store}
use Rattle.acpi_state.specs.Acts.{Operand, OfValue, OfKept, OfSpot, OfNumber, data_of, number_of, act_of, last_of}
use Rattle.acpi_state.specs.Forms.{buffer_of, package_of, slot_here, if_data, spot_in, cond_ref_of}
use Rattle.acpi_state.specs.Uses.{use_object, call_written}
use Rattle.asl_tree.specs.declared.path.Path.{Path}
use Rattle.acpi_state.specs.FieldUnits.{FieldUnit, InRegion, InBank, BehindIndex}
use Rattle.acpi_state.specs.Registers.{register_of}
use Rattle.acpi_state.specs.FieldActs.{region_letters, make_region, field_letters, make_buffer_field}
use Rattle.asl_meaning.specs.FieldTerms.{first_unit, create_units}
use Rattle.asl_tree.specs.Formats.{cut}
use Rattle.asl_tree.specs.Literals.{literal_number}
use Rattle.asl_tree.specs.Names.{Known, is_known, declared_path, denoted, element_path}
use Rattle.asl_tree.specs.Symbols.{compound_operator, takes_target}
use Rattle.asl_tree.specs.Tree.{Tree, Integer, Constant, String, InSlot, Debug, Omitted, Raw, Use, Call, Apply, Buffer, Package}
use Rattle.asl_tree.specs.Tree.{VarPackage, CondRefOf, Return, Name, Alias, External, Method, Mutex, Event, Container', Scope, Fill}
use Rattle.asl_tree.specs.Tree.{Misshapen, Trees, no_trees, tree, OperationRegion, Field, IndexField, BankField, CreateField, If, ElseIf}
use Rattle.asl_tree.specs.Tree.{Else, While, Break, Continue, Item, Operated, Assigned, AssignedBy, Switch, Case, Default, For, Print}

-- a run that keeps the bodies of methods as trees
abbrev pub SourceRun : Type 0 → Type 0
SourceRun = Run Trees

-- how an operator stands where a place is asked for: its result is a Reference to it, or its operand's value is
pub data SpotForm : Type 0 where
  OfResult OfInside NoSpot : SpotForm

abbrev pub spot_form : Plain → SpotForm
spot_form (Plain.Data DataOp.Index) = OfResult
spot_form (Plain.Data DataOp.DerefOf) = OfInside
spot_form _ = NoSpot

-- a plain operator: its operands, what it does, and then its targets
abbrev pub apply_with : {B : Type 0} → Width → Plain → Run B (List Operand) → (List Value → Run B (Unit {0})) → Run B Flow
apply_with width op operands targets =
    then_run operands (λ os. then_run (act (act_of op width os)) (λ rs. then_run (targets rs) (λ u. done (last_of rs))))

-- the last of an operator's results goes to a place, where it has a target; those before go nowhere
abbrev pub store_last : {B : Type 0} → Width → ℕ → Run B Spot → List Value → Run B (Unit {0})
store_last width zero spot rs = done tt
store_last width (suc n) spot [] = fault WrongType
store_last width (suc zero) spot (v ∷ rs) = then_run spot (λ p. act (store width p v))
store_last width (suc (suc n)) spot (v ∷ rs) = store_last width (suc n) spot rs

-- an operator whose last result goes to a place
abbrev pub operate : {B : Type 0} → Width → Plain → (List Letter → Run B (List Operand)) → Run B Spot → Run B Flow
operate width op operands spot = apply_with width op (operands (row_of op).operands) (store_last width (row_of op).targets spot)

-- two values as operands
abbrev pub two_values : {B : Type 0} → Run B Value → Run B Value → Run B (List Operand)
two_values first second = then_run first (λ v. then_run second (λ w. done (OfValue v ∷ OfValue w ∷ [])))

-- Store of a value
abbrev pub store_with : {B : Type 0} → Width → Run B Value → Run B Spot → Run B Flow
store_with width value spot =
    apply_with width (Plain.Data DataOp.Store) (then_run value (λ v. then_run spot (λ p. done (OfValue v ∷ OfSpot p ∷ [])))) (λ rs. done tt)

-- `X = E`, where E may be an operator that is given the target X
abbrev pub assign_with : {B : Type 0} → Width → Option Plain → (List Letter → Run B (List Operand)) → Run B Value → Run B Spot → Run B Flow
assign_with width (Some op) operands value spot = operate width op operands spot
assign_with width None operands value spot = store_with width value spot

-- the operator that is given the target
abbrev pub target_operator : Tree → Option Plain
target_operator (Operated op args) = if takes_target op then Some op else None
target_operator _ = None

-- after what a Switch runs; a Break leaves the Switch alone
abbrev pub leave_switch : {B : Type 0} → Flow → Run B Flow
leave_switch O.Continue = done O.Continue
leave_switch (O.Return v) = done (O.Return v)
leave_switch _ = done (Normal false)

-- a term that may be left out
abbrev pub unless_omitted : {B : Type 0} → Tree → Run B Flow → Run B Flow
unless_omitted Omitted m = done (Normal false)
unless_omitted t m = m

-- after the body of a For: a Continue goes to the step, and a Break skips it
abbrev pub then_step : {B : Type 0} → Flow → Run B Flow → Run B Flow
then_step O.Break step = done O.Break
then_step (O.Return v) step = done (O.Return v)
then_step _ step = step

module _ (known : Known) where
  -- the path that a name denotes, where it is there now
  abbrev pub find : Path → AbsolutePath → SourceRun AbsolutePath
  find name scope s = existing (choose (denoted (is_known known) name scope) None (λ path. first_there s.names (path ∷ []))) s

  -- what it leads to
  abbrev pub found : Path → AbsolutePath → SourceRun (AbsolutePath × Object)
  found name scope = then_run (find name scope) reach

  -- the same, of a name that may lead nowhere
  abbrev pub sought : Path → AbsolutePath → SourceRun (Option (AbsolutePath × Object))
  sought name scope s =
      done (choose (choose (denoted (is_known known) name scope) None (λ path. first_there s.names (path ∷ []))) None (reached s.names)) s

  -- the path of the region, or of what a connection's name leads to, and the register
  abbrev pub region_at : Path → AbsolutePath → SourceRun AbsolutePath
  region_at name scope = then_run (found name scope) (λ e. done e.0)

  abbrev pub register_at : Path → AbsolutePath → SourceRun FieldUnit
  register_at name scope = then_run (found name scope) (λ e. act (register_of e))

module _ (width : Width) (known : Known) where
  abbrev pub spot_by : SpotForm → SourceRun Flow → SourceRun Value → SourceRun Spot
  spot_by OfResult result inside = then_run (then_run result value_of) (λ v. act (spot_in v))
  spot_by OfInside result inside = then_run inside (λ v. act (spot_in v))
  spot_by NoSpot result inside = stop Broken

  abbrev pub place_of_name : Path → AbsolutePath → SourceRun (Option Place)
  place_of_name name scope = then_run (found known name scope) (λ e. done (if_data e.1 (Some (Named e.0)) None))

  -- the place of an expression's data, where it is a name of data, a Local or an Arg
  abbrev pub place_by : Tree → AbsolutePath → SourceRun (Option Place)
  place_by (InSlot slot) scope = then_run (act (slot_here slot)) (λ place. done (Some place))
  place_by (Use at name) scope = place_of_name name scope
  place_by (Call at name args) scope = place_of_name name scope
  place_by t scope = done None

  abbrev pub used_by : Tree → AbsolutePath → SourceRun Operand
  used_by (Use at name) scope = then_run (found known name scope) (λ e. done (OfSpot (At (Named e.0))))
  used_by t scope = stop Broken

  abbrev pub raw_by : Tree → SourceRun Operand
  raw_by (Raw size number) = done (OfNumber number)
  raw_by t = stop Broken

  -- an operand as its letter asks
  abbrev pub operand_by : Letter → Tree → SourceRun Flow → SourceRun Spot → AbsolutePath → SourceRun Operand
  operand_by Valued t m spot scope = then_run (then_run m value_of) (λ v. done (OfValue v))
  operand_by Kept t m spot scope = then_run (place_by t scope) (λ place. then_run (then_run m value_of) (λ v. done (OfKept place v)))
  operand_by Placed t m spot scope = then_run spot (λ p. done (OfSpot p))
  operand_by Used t m spot scope = used_by t scope
  operand_by (L.Raw size) t m spot scope = raw_by t

  abbrev pub cond_by : Tree → SourceRun Spot → AbsolutePath → SourceRun (Option Spot)
  cond_by (Use at name) spot scope = then_run (sought known name scope) (λ o. done (choose o None (λ e. Some (At (Named e.0)))))
  cond_by t spot scope = then_run spot (λ p. done (Some p))

  -- a value as a number
  abbrev pub size_by : SourceRun Flow → SourceRun ℕ
  size_by m = then_run (then_run m value_of) (λ v. act (number_of width v))

  -- whether a value is equal to another by LEqual
  abbrev pub equals : Value → SourceRun Value → SourceRun Bool
  equals v other =
      then_run (size_by (apply_with width (Plain.Number IntOp.LEqual) (two_values (done v) other) (λ rs. done tt))) (λ n. done (is_true n))

  -- a value as a text
  abbrev pub text_by : SourceRun Flow → SourceRun (List ℕ)
  text_by m = then_run (then_run m value_of) (λ v. act (and_then (data_of width v) (λ datum. give (to_string width datum))))

  abbrev pub element_by : Tree → SourceRun Flow → AbsolutePath → SourceRun Value
  element_by (Use at name) m scope = done (Reference (Named (element_path (is_known known) name scope)))
  element_by t m scope = then_run m value_of

  module _ (turns : ℕ) (call : AbsolutePath → List Value → SourceRun Flow) where
    abbrev mutual
      -- what a term does in a scope; `due` says whether an Else or an ElseIf is to run, for no branch before it ran
      pub run : Tree → AbsolutePath → Bool → SourceRun Flow
      run (Integer number) scope due = done (Gives (Data (V.Integer (wrapped width number))))
      run (Constant literal) scope due = done (Gives (Data (V.Integer (literal_number width literal))))
      run (String text) scope due = done (Gives (Data (V.String text)))
      run (InSlot slot) scope due = then_run (act (slot_here slot)) (λ place. then_run (act (read width place)) (λ v. done (Gives v)))
      run Debug scope due = fault WrongType
      run Omitted scope due = stop Broken
      run (Raw size number) scope due = stop Broken
      run (Use at name) scope due = then_run (found known name scope) (λ e. use_object width call e.0 e.1 [])
      run (Call at name args) scope due =
          then_run (found known name scope) (λ e. then_run (values args scope) (λ vs. call_written width call e.0 e.1 vs))
      run (Apply op args targets) scope due =
          apply_with width op (operands (row_of op).operands args scope) (λ rs. store_all targets rs scope)
      run (Operated op args) scope due = operate width op (λ letters. operands letters args scope) (done Nowhere)
      run (Assigned target value) scope due =
          assign_with width (target_operator value) (λ letters. inner_operands letters value scope)
          (then_run (run value scope false) value_of) (spot target scope)
      run (AssignedBy op target value) scope due =
          operate width (compound_operator op)
          (λ letters. two_values (then_run (run target scope false) value_of) (then_run (run value scope false) value_of))
          (spot target scope)
      run (Buffer size bytes) scope due =
          then_run (size_by (run size scope false)) (λ n. then_run (act (computed (buffer_of n bytes))) (λ v. done (Gives v)))
      run (Package count items) scope due =
          then_run (elements items scope) (λ es. then_run (act (computed (package_of count es))) (λ v. done (Gives v)))
      run (VarPackage count items) scope due =
          then_run (size_by (run count scope false))
          (λ n. then_run (elements items scope) (λ es. then_run (act (computed (package_of n es))) (λ v. done (Gives v))))
      run (CondRefOf place target) scope due =
          then_run (cond_by place (spot place scope) scope)
          (λ o. then_run (spot target scope) (λ t. then_run (act (cond_ref_of width o t)) (λ v. done (Gives v))))
      run (Return value) scope due = then_run (then_run (run value scope false) value_of) (λ v. done (O.Return v))
      run (Name at name value) scope due =
          then_run (then_run (run value scope false) value_of)
          (λ v. then_run (create (declared_path name scope) DataObject)
          (λ u. then_run (act (write_named (declared_path name scope) v)) (λ u. done (Normal false))))
      run (Alias from source at name) scope due =
          then_run (found known source scope)
          (λ e. then_run (create (declared_path name scope) (AliasObject e.0)) (λ u. done (Normal false)))
      run (External here at name type parameters) scope due = done (Normal false)
      run (Method at name flags body) scope due =
          then_run (create (declared_path name scope) (MethodObject flags))
          (λ u. then_run (keep_body (declared_path name scope) body) (λ u. done (Normal false)))
      run (Mutex at name level) scope due = then_run (create (declared_path name scope) (MutexObject level)) (λ u. done (Normal false))
      run (Event at name) scope due = then_run (create (declared_path name scope) EventObject) (λ u. done (Normal false))
      run (Container' kind at name body) scope due =
          then_run (create (declared_path name scope) (ContainerObject kind)) (λ u. run_all body (declared_path name scope) false)
      run (Scope here at name body) scope due = then_run (find known name scope) (λ path. run_all body path false)
      run (If test body) scope due =
          then_run (size_by (run test scope false)) (λ n. if is_true n then run_all body scope false else done (Normal true))
      run (ElseIf test body) scope due =
          if due then then_run (size_by (run test scope false)) (λ n. if is_true n then run_all body scope false else done (Normal true))
          else done (Normal false)
      run (Else body) scope due = if due then run_all body scope false else done (Normal false)
      run (While test body) scope due =
          loop {X = Unit {0}} turns (then_run (size_by (run test scope false)) (λ n. done (is_true n, tt))) (λ u. run_all body scope false)
      run (For start test step body) scope due =
          then_run (unless_omitted start (run start scope false)) (λ f.
          loop {X = Unit {0}} turns (then_run (size_by (run test scope false)) (λ n. done (is_true n, tt)))
          (λ u. then_run (run_all body scope false) (λ f. then_step f (unless_omitted step (run step scope false)))))
      run (Print place format args) scope due =
          then_run (filled (cut format).1 args scope) (λ rest. then_run (spot place scope) (λ p.
          then_run (act (store width p (Data (V.String ((cut format).0 ++ rest))))) (λ u. done (Normal false))))
      run (Switch value cases) scope due =
          then_run (then_run (run value scope false) value_of)
          (λ v. then_run (run_cases cases v scope (run_default cases scope)) leave_switch)
      run (Case value body) scope due = stop Broken
      run (Default body) scope due = stop Broken
      run Break scope due = done O.Break
      run Continue scope due = done O.Continue
      run (OperationRegion at name space args) scope due =
          then_run (operands region_letters args scope) (λ os. make_region width (declared_path name scope) space os)
      run (Field here from region flags items) scope due =
          then_run (region_at known region scope)
          (λ r. create_units (λ name. region_at known name scope) (InRegion r) scope (first_unit flags) items)
      run (IndexField here from index to register flags items) scope due =
          then_run (register_at known index scope)
          (λ i. then_run (register_at known register scope)
          (λ r. create_units (λ name. region_at known name scope) (BehindIndex i r) scope (first_unit flags) items))
      run (BankField here from region to bank value flags items) scope due =
          then_run (region_at known region scope) (λ r. then_run (register_at known bank scope) (λ b.
          then_run (size_by (run value scope false))
          (λ n. create_units (λ name. region_at known name scope) (InBank r b n) scope (first_unit flags) items)))
      run (CreateField form args at name) scope due =
          then_run (operands (field_letters form) args scope) (λ os. make_buffer_field width form (declared_path name scope) os)
      run (Item item) scope due = stop Broken
      run (Fill bytes) scope due = stop Broken
      run Misshapen scope due = stop Broken

      -- the place that a term stands for
      pub spot : Tree → AbsolutePath → SourceRun Spot
      spot Omitted scope = done Nowhere
      spot Debug scope = done DebugObject
      spot (InSlot slot) scope = then_run (act (slot_here slot)) (λ place. done (At place))
      spot (Use at name) scope = then_run (found known name scope) (λ e. done (At (Named e.0)))
      spot (Apply op args targets) scope =
          spot_by (spot_form op) (apply_with width op (operands (row_of op).operands args scope) (λ rs. store_all targets rs scope))
          (first_value args scope)
      spot (Operated op args) scope =
          spot_by (spot_form op) (operate width op (λ letters. operands letters args scope) (done Nowhere)) (first_value args scope)
      spot _ scope = stop Broken

      -- the operands of a symbolic operator
      pub inner_operands : List Letter → Tree → AbsolutePath → SourceRun (List Operand)
      inner_operands letters (Operated op args) scope = operands letters args scope
      inner_operands letters _ scope = stop Broken

      pub operands : List Letter → Trees → AbsolutePath → SourceRun (List Operand)
      operands [] no_trees scope = done []
      operands (letter ∷ letters) (tree t ts) scope =
          then_run (operand_by letter t (run t scope false) (spot t scope) scope)
          (λ o. then_run (operands letters ts scope) (λ os. done (o ∷ os)))
      operands _ _ scope = stop Broken

      -- whether a value is that of a Case, which `alone` compares; of a Package all members are compared instead, also
      -- behind one that is equal
      pub hits : Tree → SourceRun Bool → Value → AbsolutePath → SourceRun Bool
      hits (Package count members) alone v scope = hits_any members v scope
      hits (VarPackage count members) alone v scope = hits_any members v scope
      hits _ alone v scope = alone

      pub hits_any : Trees → Value → AbsolutePath → SourceRun Bool
      hits_any no_trees v scope = done false
      hits_any (tree t ts) v scope =
          then_run (equals v (then_run (run t scope false) value_of))
          (λ first. then_run (hits_any ts v scope) (λ others. done (first || others)))

      -- the first Case of a value, or else another run
      pub run_cases : Trees → Value → AbsolutePath → SourceRun Flow → SourceRun Flow
      run_cases no_trees v scope otherwise = otherwise
      run_cases (tree (Case value body) cases) v scope otherwise =
          then_run (hits value (equals v (then_run (run value scope false) value_of)) v scope)
          (λ hit. if hit then run_all body scope false else run_cases cases v scope otherwise)
      run_cases (tree _ cases) v scope otherwise = run_cases cases v scope otherwise

      -- the Default, wherever it stands among the Cases
      pub run_default : Trees → AbsolutePath → SourceRun Flow
      run_default no_trees scope = done (Normal false)
      run_default (tree (Default body) cases) scope = run_all body scope false
      run_default (tree _ cases) scope = run_default cases scope

      -- each target in order takes its result
      pub store_all : Trees → List Value → AbsolutePath → SourceRun (Unit {0})
      store_all no_trees vs scope = done tt
      store_all (tree t ts) [] scope = fault WrongType
      store_all (tree t ts) (v ∷ vs) scope = then_run (spot t scope) (λ p. then_run (act (store width p v)) (λ u. store_all ts vs scope))

      pub first_value : Trees → AbsolutePath → SourceRun Value
      first_value no_trees scope = stop Broken
      first_value (tree t ts) scope = then_run (run t scope false) value_of

      -- arguments as texts, each with the text of a format behind it
      pub filled : List (List ℕ) → Trees → AbsolutePath → SourceRun (List ℕ)
      filled [] no_trees scope = done []
      filled (text ∷ texts) (tree t ts) scope =
          then_run (text_by (run t scope false)) (λ first. then_run (filled texts ts scope) (λ rest. done (first ++ (text ++ rest))))
      filled _ _ scope = stop Broken

      -- the values of arguments
      pub values : Trees → AbsolutePath → SourceRun (List Value)
      values no_trees scope = done []
      values (tree t ts) scope = then_run (then_run (run t scope false) value_of) (λ v. then_run (values ts scope) (λ vs. done (v ∷ vs)))

      -- the elements of a Package
      pub elements : Trees → AbsolutePath → SourceRun Elements
      elements no_trees scope = done no_elements
      elements (tree t ts) scope = then_run (element_by t (run t scope false) scope)
          (λ v. then_run (elements ts scope) (λ vs. done (element v vs)))

      -- the terms of a list, until one leaves it
      pub run_all : Trees → AbsolutePath → Bool → SourceRun Flow
      run_all no_trees scope due = done (Normal false)
      run_all (tree term terms) scope due = then_run (run term scope due) (λ flow. on_flow flow (run_all terms scope))

module _ (width : Width) (known : Known) (turns : ℕ) where
  -- a call of the method at a path, where calls may nest so many deep, this one counted
  abbrev pub call_method : ℕ → AbsolutePath → List Value → SourceRun Flow
  call_method zero path args = stop Unfinished
  call_method (suc depth) path args =
      then_run (body_at path) (λ body. activation args (run_all width known turns (call_method depth) body path false))
