-- A formed program with what stands for its Printf, Fprintf and For is formed, and none of them is left in it.
use Rattle.std.proofs.Common.{◌≡◌, ℕ, Bool, true, false, List, [], ◌∷◌, refl, sym, ap, ◌∙◌, subst}
use Rattle.std.specs.Prelude.{if◌then◌else◌, ◌&&◌, not}
use Rattle.acpi_values.specs.Operators.{Letter}
use Rattle.acpi_state.specs.FieldActs.{region_letters, field_letters}
use Rattle.asl_tree.specs.FieldItems.{FieldItem}
use Rattle.asl_tree.specs.Formats.{cut}
use Rattle.asl_tree.specs.Tree.{Tree, Integer, Constant, String, InSlot, Debug, Omitted, Raw, Use, Call, Apply, Buffer, Package, VarPackage, CondRefOf, Return, Name, Alias, External, Method, Mutex, Event, Container', Scope, Fill, Misshapen}
use Rattle.asl_tree.specs.Tree.{Operated, Assigned, AssignedBy, Trees, no_trees, tree, count, OperationRegion, Field, IndexField, BankField, CreateField, UnitName, If, ElseIf, Else, While, For, Print, Break, Continue, Item, Switch, Case, Default}
use Rattle.acpi_names.specs.Terms.{is_value, are_values, is_term, are_terms}
use Rattle.acpi_names.proofs.Mentions.{first_true, second_true}
use Rattle.aml_sessions.specs.Ready.{is_expression, IsText}
use Rattle.named_sessions.specs.Shaped.{StartsNoElse, IsFollowed, IsCaseValue, IsFormed, IsFormedSpot, EffectShaped, AreFormedOperands, AreFormedValues, AreFormed, AreFormedCases}
use Rattle.named_sessions.proofs.Terms.{formed_terms}
use Rattle.asl_prints.specs.Forms.{followed, concatenated, with_text, with_arguments, print_tree, optional, stepped, stepped_all, while_tree, for_trees, is_steppable, is_filled, have_far_continue, spread, formed, formed_args, formed_all}
use Rattle.asl_prints.specs.Forms as forms
use Rattle.asl_formats.proofs.Sources.{steppable_same}
use Rattle.form_shapes.specs.Near.{IsNear, AreNear}
use Rattle.form_shapes.proofs.Values.{value_same, args_same}
use Rattle.form_shapes.proofs.Kept.{value_kept, spot_kept, operands_kept, values_kept}
use Rattle.form_shapes.proofs.Texts.{AreTexts, texts_cut, values_filled}

-- ---- what a list starts with

starts_more : (ts us : Trees) → StartsNoElse ts → StartsNoElse us → StartsNoElse (followed ts us)
starts_more no_trees us h k = k
starts_more (tree (Else body) ts) us h k = absurd h
starts_more (tree (ElseIf test body) ts) us h k = absurd h
starts_more (tree t ts) us h k = tt

follows_more : (t : Tree) (ts us : Trees) → IsFollowed t ts → StartsNoElse us → IsFollowed t (followed ts us)
follows_more (Switch value cases) ts us h k = starts_more ts us h k
follows_more _ ts us h k = tt

starts_optional : (t : Tree) → forms.is_expression t ≡ true → StartsNoElse (optional t)
starts_optional Omitted e = tt
starts_optional (Else body) e = absurd cc
starts_optional (ElseIf test body) e = absurd cc
starts_optional t e = tt

starts_stepped : (steps ts : Trees) → StartsNoElse steps → StartsNoElse ts → StartsNoElse (stepped_all steps ts)
starts_stepped steps no_trees k h = tt
starts_stepped steps (tree Continue ts) k h = starts_more steps (tree Continue (stepped_all steps ts)) k tt
starts_stepped steps (tree (Else body) ts) k h = absurd h
starts_stepped steps (tree (ElseIf test body) ts) k h = absurd h
starts_stepped steps (tree t ts) k h = tt

starts_loop : (ts : Trees) (test : Tree) (body rest : Trees) → StartsNoElse ts → StartsNoElse (followed (followed ts (tree (While test body) no_trees)) rest)
starts_loop no_trees test body rest h = tt
starts_loop (tree (Else terms) ts) test body rest h = absurd h
starts_loop (tree (ElseIf other terms) ts) test body rest h = absurd h
starts_loop (tree t ts) test body rest h = tt

follows_loop : (t : Tree) (ts : Trees) (test : Tree) (body rest : Trees) → IsFollowed t ts → IsFollowed t (followed (followed ts (tree (While test body) no_trees)) rest)
follows_loop (Switch value cases) ts test body rest h = starts_loop ts test body rest h
follows_loop _ ts test body rest h = tt

-- what stands for a term begins with no Else where the term does not
starts_spread : (t : Tree) (rest others : Trees) → StartsNoElse (tree t others) → StartsNoElse (spread (formed t) rest)
starts_spread (For start test step body) rest others h = by (is_steppable (formed start) (formed step) (formed_all body)) refl
  where
    by : (c : Bool) → is_steppable (formed start) (formed step) (formed_all body) ≡ c
        → StartsNoElse (if c then followed (for_trees (formed start) (formed test) (formed step) (formed_all body)) rest else tree (For (formed start) (formed test) (formed step) (formed_all body)) rest)
    by true e =
        starts_loop (optional (formed start)) (formed test) (followed (stepped_all (optional (formed step)) (formed_all body)) (optional (formed step))) rest
        (starts_optional (formed start) (first_true (forms.is_expression (formed start)) (forms.is_expression (formed step) && not (have_far_continue (formed_all body))) e))
    by false e = tt
starts_spread (Print place format args) rest others h = by (is_filled format (formed_args args))
  where
    by : (c : Bool) → StartsNoElse (if c then tree (print_tree (formed place) format (formed_args args)) rest else tree (Print (formed place) format (formed_args args)) rest)
    by true = tt
    by false = tt
starts_spread (Else body) rest others h = absurd h
starts_spread (ElseIf test body) rest others h = absurd h
starts_spread t rest others h = tt

starts_formed : (ts : Trees) → StartsNoElse ts → StartsNoElse (formed_all ts)
starts_formed no_trees h = tt
starts_formed (tree t ts) h = starts_spread t (formed_all ts) ts h

-- ---- expressions

-- an expression of the bytes is one of the source
source_expression : (t : Tree) → is_expression t ≡ true → forms.is_expression t ≡ true
source_expression (Integer number) e = refl
source_expression (Constant literal) e = refl
source_expression (String text) e = refl
source_expression (InSlot slot) e = refl
source_expression Debug e = refl
source_expression (Use at name) e = refl
source_expression (Call at name args) e = refl
source_expression (Apply op args targets) e = refl
source_expression (Operated op args) e = refl
source_expression (Assigned target value) e = refl
source_expression (AssignedBy op target value) e = refl
source_expression (Buffer size bytes) e = refl
source_expression (Package n elements) e = refl
source_expression (VarPackage size elements) e = refl
source_expression (CondRefOf place target) e = refl
source_expression _ e = absurd cc

-- no Else follows one, so that it may stand before any terms
abbrev IsQuiet : Tree → Type 0
IsQuiet t = StartsNoElse (tree t no_trees)

value_quiet : (t : Tree) → is_expression t ≡ true → IsQuiet t
value_quiet (Else body) e = absurd cc
value_quiet (ElseIf test body) e = absurd cc
value_quiet t e = tt

value_follows : (t : Tree) (ts : Trees) → is_expression t ≡ true → IsFollowed t ts
value_follows (Switch value cases) ts e = absurd cc
value_follows t ts e = tt

-- a For whose step may stand before its Continues
pub fits_loop : (a b c : Bool) → a ≡ true → b ≡ true → c ≡ false → (a && (b && not c)) ≡ true
fits_loop true true false e f g = refl
fits_loop true true true e f g = absurd cc
fits_loop true false c e f g = absurd cc
fits_loop false b c e f g = absurd cc

module _ (Listed : List (FieldItem UnitName) → Type 0) (Symbols Switches : Type 0) where
  abbrev Source : Tree → Type 0
  Source = IsFormed (Unit {0}) Listed Symbols Switches

  abbrev Made : Tree → Type 0
  Made = IsFormed ⊥ Listed Symbols Switches

  abbrev AreMade : Trees → Type 0
  AreMade = AreFormed ⊥ Listed Symbols Switches

  abbrev Value : Tree → Type 0
  Value t = (is_expression t ≡ true) × Made t

  pub effect_expression : (t : Tree) → EffectShaped t (Source t) → forms.is_expression t ≡ true
  effect_expression Omitted h = refl
  effect_expression t h = source_expression t h.0

  value_made : (t : Tree) → is_value t ≡ true → (is_expression t ≡ true) × Source t → Value (formed t)
  value_made t e h = subst Value (sym (value_same t e)) (h.0, value_kept (Unit {0}) ⊥ Listed Symbols Switches Switches t h.0 h.1)

  operands_made : (letters : List Letter) (args : Trees) → are_values args ≡ true → AreFormedOperands (Unit {0}) Listed Symbols Switches letters args → AreFormedOperands ⊥ Listed Symbols Switches letters (formed_args args)
  operands_made letters args e h = subst (AreFormedOperands ⊥ Listed Symbols Switches letters) (sym (args_same args e)) (operands_kept (Unit {0}) ⊥ Listed Symbols Switches Switches letters args h)

  -- a start or a step, as terms before others
  effect_kept : (t : Tree) → EffectShaped t (Source t) → AreMade (optional t)
  effect_kept Omitted h = tt
  effect_kept t h = (value_kept (Unit {0}) ⊥ Listed Symbols Switches Switches t h.0 h.1, value_follows t no_trees h.0, tt)

  effect_made : (t : Tree) → is_value t ≡ true → EffectShaped t (Source t) → AreMade (optional (formed t))
  effect_made t e h = subst (λ u. AreMade (optional u)) (sym (value_same t e)) (effect_kept t h)

  -- ---- lists

  followed_made : (ts us : Trees) → AreMade ts → StartsNoElse us → AreMade us → AreMade (followed ts us)
  followed_made no_trees us h s k = k
  followed_made (tree t ts) us h s k = (h.0, follows_more t ts us h.1 s, followed_made ts us h.2 s k)

  -- terms with steps before each Continue
  module _ (steps : Trees) (made : AreMade steps) (starts : StartsNoElse steps) where
    mutual
      step_made : (t : Tree) → Made t → Made (stepped steps t)
      step_made (If test body) h = (h.0, h.1, steps_made body h.2)
      step_made (ElseIf test body) h = (h.0, h.1, steps_made body h.2)
      step_made (Else body) h = steps_made body h
      step_made (Switch value cases) h = (h.0, h.1, h.2, case_steps_made cases h.3)
      step_made (Case value body) h = absurd h
      step_made (Default body) h = absurd h
      step_made t h = h

      steps_made : (ts : Trees) → AreMade ts → AreMade (stepped_all steps ts)
      steps_made no_trees h = tt
      steps_made (tree Continue ts) h = followed_made steps (tree Continue (stepped_all steps ts)) made tt (tt, tt, steps_made ts h.2)
      steps_made (tree (Switch value cases) ts) h = (step_made (Switch value cases) h.0, starts_stepped steps ts starts h.1, steps_made ts h.2)
      steps_made (tree t ts) h = (step_made t h.0, tt, steps_made ts h.2)

      case_steps_made : (ts : Trees) → AreFormedCases ⊥ Listed Symbols Switches ts → AreFormedCases ⊥ Listed Symbols Switches (stepped_all steps ts)
      case_steps_made no_trees h = tt
      case_steps_made (tree (Case value body) cases) h = (h.0, steps_made body h.1, case_steps_made cases h.2)
      case_steps_made (tree (Default body) no_trees) h = steps_made body h
      case_steps_made (tree (Default body) (tree t ts)) h = absurd h
      case_steps_made (tree _ cases) h = absurd h

  -- ---- a For

  loop_made : (start test step : Tree) (body rest : Trees) → forms.is_expression start ≡ true → forms.is_expression step ≡ true → AreMade (optional start) → Value test → AreMade (optional step) → AreMade body → AreMade rest
      → AreMade (followed (for_trees start test step body) rest)
  loop_made start test step body rest e f begins value steps inside behind =
      let quiet : StartsNoElse (optional step) = starts_optional step f in
      let turn : AreMade (followed (stepped_all (optional step) body) (optional step))
      = followed_made (stepped_all (optional step) body) (optional step) (steps_made (optional step) steps quiet body inside) quiet steps in
      put (optional start) begins (value.0, value.1, turn)
    where
      turns : Trees
      turns = followed (stepped_all (optional step) body) (optional step)

      put : (ts : Trees) → AreMade ts → Made (While test turns) → AreMade (followed (followed ts (tree (While test turns) no_trees)) rest)
      put no_trees h k = (k, tt, behind)
      put (tree t ts) h k = (h.0, follows_loop t ts test turns rest h.1, put ts h.2 k)

  -- ---- what prints

  joined_made : (a b : Tree) → Value a → Value b → Value (concatenated a b)
  joined_made a b h k = (refl, (tt, (h, (k, tt)), refl, (tt, tt)))

  text_made : (t : Tree) (text : List ℕ) → Value t → IsText text → Value (with_text t text)
  text_made t [] h k = h
  text_made t (c ∷ text) h k = joined_made t (String (c ∷ text)) h (refl, k)

  arguments_made : (t : Tree) (texts : List (List ℕ)) (args : Trees) → Value t → AreTexts texts → AreFormedValues ⊥ Listed Symbols Switches args → Value (with_arguments t texts args)
  arguments_made t [] args h k l = h
  arguments_made t (text ∷ texts) no_trees h k l = h
  arguments_made t (text ∷ texts) (tree arg args) h k l = arguments_made (with_text (concatenated t arg) text) texts args (text_made (concatenated t arg) text (joined_made t arg h (l.0, l.1)) k.0) k.1 l.2

  print_made : (place : Tree) (format : List ℕ) (args : Trees) → IsFormedSpot ⊥ Listed Symbols Switches place → IsText format → AreFormedValues ⊥ Listed Symbols Switches args → Made (print_tree place format args)
  print_made place format args s h k =
      let texts = texts_cut format h in
      (tt, (arguments_made (String (cut format).0) (cut format).1 args (refl, texts.0) texts.1 k, (s, tt)), refl, tt)

  -- ---- programs

  abbrev IsNoForm : Tree → Type 0
  IsNoForm (For start test step body) = ⊥
  IsNoForm (Print place format args) = ⊥
  IsNoForm t = Unit {0}

  for_spread : (start test step : Tree) (body rest : Trees) → Source (For start test step body) → is_term (For start test step body) ≡ true → have_far_continue body ≡ false → AreMade (formed_all body) → AreMade rest → AreMade (spread (formed (For start test step body)) rest)
  for_spread start test step body rest h e near inside r =
      let others = second_true (is_value start) (is_value test && (is_value step && are_terms body)) e in
      let last = second_true (is_value test) (is_value step && are_terms body) others in
      let fit : is_steppable (formed start) (formed step) (formed_all body) ≡ true
      = steppable_same start step body ∙ fits_loop (forms.is_expression start) (forms.is_expression step) (have_far_continue body) (effect_expression start h.1) (effect_expression step h.4) near in
      let begin : is_value start ≡ true = first_true (is_value start) (is_value test && (is_value step && are_terms body)) e in
      let end : is_value step ≡ true = first_true (is_value step) (are_terms body) last in
      subst (λ c. AreMade (if c then followed (for_trees (formed start) (formed test) (formed step) (formed_all body)) rest else tree (For (formed start) (formed test) (formed step) (formed_all body)) rest)) (sym fit)
      (loop_made (formed start) (formed test) (formed step) (formed_all body) rest
      (ap forms.is_expression (value_same start begin) ∙ effect_expression start h.1) (ap forms.is_expression (value_same step end) ∙ effect_expression step h.4)
      (effect_made start begin h.1) (value_made test (first_true (is_value test) (is_value step && are_terms body) others) (h.2, h.3)) (effect_made step end h.4)
      inside r)

  print_spread : (place : Tree) (format : List ℕ) (args rest : Trees) → Source (Print place format args) → (is_value place && are_values args) ≡ true → AreMade rest → AreMade (spread (formed (Print place format args)) rest)
  print_spread place format args rest h e r =
      let there : formed place ≡ place = value_same place (first_true (is_value place) (are_values args) e) in
      let same : formed_args args ≡ args = args_same args (second_true (is_value place) (are_values args) e) in
      let fit : is_filled format args ≡ true = values_filled (Unit {0}) Listed Symbols Switches format args h.3 h.4 in
      let made : Made (print_tree place format args) = print_made place format args (spot_kept (Unit {0}) ⊥ Listed Symbols Switches Switches place h.1) h.2 (values_kept (Unit {0}) ⊥ Listed Symbols Switches Switches args h.3) in
      subst (λ t. AreMade (spread (Print t format (formed_args args)) rest)) (sym there)
      (subst (λ ts. AreMade (spread (Print place format ts) rest)) (sym same)
      (subst (λ c. AreMade (if c then tree (print_tree place format args) rest else tree (Print place format args) rest)) (sym fit) (made, tt, r)))

  mutual
    term_made : (t : Tree) → IsNoForm t → Source t → is_term t ≡ true → IsNear t → Made (formed t)
    term_made (Return value) other h e n = value_made value e h
    term_made (Name at name value) other h e n = let v = value_made value e (h.1, h.2) in (h.0, v.0, v.1)
    term_made (Alias from source at name) other h e n = h
    term_made (External here at name type parameters) other h e n = h
    term_made (Method at name flags body) other h e n = (h.0, h.1, all_made body h.2 e n)
    term_made (Mutex at name level) other h e n = h
    term_made (Event at name) other h e n = h
    term_made (Container' kind at name body) other h e n = (h.0, h.1, all_made body h.2 e n)
    term_made (Scope here at name body) other h e n = (h.0, all_made body h.1 e n)
    term_made (If test body) other h e n =
        let v = value_made test (first_true (is_value test) (are_terms body) e) (h.0, h.1) in (v.0, v.1, all_made body h.2 (second_true (is_value test) (are_terms body) e) n)
    term_made (ElseIf test body) other h e n =
        let v = value_made test (first_true (is_value test) (are_terms body) e) (h.0, h.1) in (v.0, v.1, all_made body h.2 (second_true (is_value test) (are_terms body) e) n)
    term_made (Else body) other h e n = all_made body h e n
    term_made (While test body) other h e n =
        let v = value_made test (first_true (is_value test) (are_terms body) e) (h.0, h.1) in (v.0, v.1, all_made body h.2 (second_true (is_value test) (are_terms body) e) n)
    term_made (For start test step body) other h e n = absurd other
    term_made (Print place format args) other h e n = absurd other
    term_made Break other h e n = tt
    term_made Continue other h e n = tt
    term_made (OperationRegion at name space args) other h e n = (h.0, h.1, operands_made region_letters args e h.2)
    term_made (Field here from region flags items) other h e n = h
    term_made (IndexField here from index to register flags items) other h e n = h
    term_made (BankField here from region to bank value flags items) other h e n = let v = value_made value e (h.2, h.3) in (h.0, h.1, v.0, v.1, h.4, h.5)
    term_made (CreateField form args at name) other h e n = (operands_made (field_letters form) args e h.0, h.1)
    term_made Omitted other h e n = absurd h
    term_made (Raw size number) other h e n = absurd h
    term_made (Item item) other h e n = absurd h
    term_made (Fill bytes) other h e n = absurd h
    term_made Misshapen other h e n = absurd h
    term_made (Case value body) other h e n = absurd h
    term_made (Default body) other h e n = absurd h
    term_made (Switch value cases) other h e n =
        let v = value_made value (first_true (is_value value) (are_terms cases) e) (h.1, h.2) in (h.0, v.0, v.1, cases_made cases h.3 (second_true (is_value value) (are_terms cases) e) n)
    term_made (Integer number) other h e n = tt
    term_made (Constant literal) other h e n = tt
    term_made (String text) other h e n = h
    term_made (InSlot slot) other h e n = h
    term_made Debug other h e n = tt
    term_made (Use at name) other h e n = h
    term_made (Call at name args) other h e n = (value_made (Call at name args) e (refl, h)).1
    term_made (Apply op args targets) other h e n = (value_made (Apply op args targets) e (refl, h)).1
    term_made (Buffer size bytes) other h e n = (value_made (Buffer size bytes) e (refl, h)).1
    term_made (Package count elements) other h e n = (value_made (Package count elements) e (refl, h)).1
    term_made (VarPackage size elements) other h e n = (value_made (VarPackage size elements) e (refl, h)).1
    term_made (CondRefOf place target) other h e n = (value_made (CondRefOf place target) e (refl, h)).1
    term_made (Operated op args) other h e n = (value_made (Operated op args) e (refl, h)).1
    term_made (Assigned target value) other h e n = (value_made (Assigned target value) e (refl, h)).1
    term_made (AssignedBy op target value) other h e n = (value_made (AssignedBy op target value) e (refl, h)).1

    cases_made : (ts : Trees) → AreFormedCases (Unit {0}) Listed Symbols Switches ts → are_terms ts ≡ true → AreNear ts → AreFormedCases ⊥ Listed Symbols Switches (formed_all ts)
    cases_made no_trees h e n = tt
    cases_made (tree (Case value body) cases) h e n =
        let first = first_true (is_value value && are_terms body) (are_terms cases) e in
        (subst IsCaseValue (sym (value_same value (first_true (is_value value) (are_terms body) first))) h.0, all_made body h.1 (second_true (is_value value) (are_terms body) first) n.0, cases_made cases h.2 (second_true (is_value value && are_terms body) (are_terms cases) e) n.1)
    cases_made (tree (Default body) no_trees) h e n = all_made body h (first_true (are_terms body) true e) n.0
    cases_made (tree (Default body) (tree t ts)) h e n = absurd h
    cases_made (tree _ cases) h e n = absurd h

    pub all_made : (ts : Trees) → AreFormed (Unit {0}) Listed Symbols Switches ts → are_terms ts ≡ true → AreNear ts → AreFormed ⊥ Listed Symbols Switches (formed_all ts)
    all_made no_trees h e n = tt
    all_made (tree (For start test step body) ts) h e n =
        let first = first_true (is_term (For start test step body)) (are_terms ts) e in
        let others = second_true (is_value start) (is_value test && (is_value step && are_terms body)) first in
        let inside = second_true (is_value step) (are_terms body) (second_true (is_value test) (is_value step && are_terms body) others) in
        for_spread start test step body (formed_all ts) h.0 first n.0.0 (all_made body h.0.5 inside n.0.1) (all_made ts h.2 (second_true (is_term (For start test step body)) (are_terms ts) e) n.1)
    all_made (tree (Print place format args) ts) h e n = print_spread place format args (formed_all ts) h.0 (first_true (is_value place && are_values args) (are_terms ts) e) (all_made ts h.2 (second_true (is_value place && are_values args) (are_terms ts) e) n.1)
    all_made (tree (Switch value cases) ts) h e n =
        let first = first_true (is_value value && are_terms cases) (are_terms ts) e in
        (term_made (Switch value cases) tt h.0 first n.0, starts_formed ts h.1, all_made ts h.2 (second_true (is_value value && are_terms cases) (are_terms ts) e) n.1)
    all_made (tree t ts) h e n = (term_made t tt h.0 (first_true (is_term t) (are_terms ts) e) n.0, tt, all_made ts h.2 (second_true (is_term t) (are_terms ts) e) n.1)

-- a formed program, in which each step may stand before the Continues of its For
pub forms_formed : (Listed : List (FieldItem UnitName) → Type 0) (Symbols Switches : Type 0) (program : Trees) → AreFormed (Unit {0}) Listed Symbols Switches program → AreNear program → AreFormed ⊥ Listed Symbols Switches (formed_all program)
forms_formed Listed Symbols Switches program h n = all_made Listed Symbols Switches program h (formed_terms (Unit {0}) Listed Symbols Switches program h) n
