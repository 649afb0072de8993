-- What is told of the mentions of a program is told of it with what stands for its Printf, Fprintf and For.
use Rattle.std.proofs.Common.{◌≡◌, ℕ, Bool, true, false, List, [], ◌∷◌, ◌++◌, refl, sym, ap, ◌∙◌, arith}
use Rattle.std.specs.Prelude.{if◌then◌else◌, ◌&&◌, ◌||◌}
use Rattle.acpi_values.specs.Paths.{AbsolutePath}
use Rattle.acpi_state.specs.Objects.{MethodObject, ContainerObject}
use Rattle.asl_tree.specs.Formats.{cut}
use Rattle.asl_tree.specs.Names.{declared_path}
use Rattle.asl_tree.specs.Tree.{Tree, String, Omitted, Return, Name, Alias, External, Method, Mutex, Event, Container', Scope, If, ElseIf, Else, While, For, Print, Switch, Case, Default, Continue, OperationRegion, Field, IndexField, BankField, CreateField, Trees, no_trees, tree}
use Rattle.asl_meaning.specs.Declarations.{As, Declarations, nothing_declared, scope_path, with_declared, declare, declare_all}
use Rattle.acpi_names.specs.Mentions.{Mention, Declares, Opens, is_spot, mentions, mentions_all, term_mentions, block_mentions}
use Rattle.acpi_names.specs.Terms.{is_value, are_values, is_term, are_terms}
use Rattle.acpi_names.proofs.MentionErrors.{undeclared}
use Rattle.acpi_names.proofs.Mentions.{right_nil, first_true, second_true, after_term}
use Rattle.asl_prints.specs.Forms.{followed, concatenated, with_text, with_arguments, print_tree, are_given, are_filled, is_filled, optional, stepped, stepped_all, for_trees, is_steppable, spread, formed, formed_args, formed_all}
use Rattle.asl_formats.proofs.Declared.{followed_declares, formed_declares}
use Rattle.form_shapes.proofs.Values.{value_same, args_same}
use Rattle.form_shapes.proofs.Light.{either, either_third, Telling, told, told_append, told_both, told_value, told_values, heard, heard_all, light}

-- ---- one or another

either_none : (a : Bool) → (a || false) ≡ a
either_none true = refl
either_none false = refl

-- what is told anyway may be told before
told_before : (x a b : Bool) → (a || x) ≡ (b || x) → ((x || a) || x) ≡ (b || x)
told_before true true true e = refl
told_before true true false e = refl
told_before true false true e = refl
told_before true false false e = refl
told_before false a b e = e

told_within : (x a b b' : Bool) → (b || x) ≡ (b' || x) → ((a || b) || x) ≡ ((a || b') || x)
told_within x true b b' e = refl
told_within x false b b' e = e

told_each : (x a a' b b' : Bool) → (a || x) ≡ (a' || x) → (b || x) ≡ (b' || x) → ((a || b) || x) ≡ ((a' || b') || x)
told_each true true true b b' e f = refl
told_each true true false true b' e f = f
told_each true true false false b' e f = f
told_each true false true true b' e f = refl
told_each true false true false b' e f = refl
told_each true false false b b' e f = f
told_each false true true b b' e f = refl
told_each false true false b b' e f = absurd cc
told_each false false true b b' e f = absurd cc
told_each false false false b b' e f = f

-- a start, and a turn whose body has the step behind it
loop_order : (a b c e r : Bool) → ((a || ((b || (e || c)) || false)) || r) ≡ ((a || (b || (c || e))) || r)
loop_order true b c e r = refl
loop_order false true c e r = refl
loop_order false false true true r = refl
loop_order false false true false r = refl
loop_order false false false true r = refl
loop_order false false false false r = refl

either_turned : (a b : Bool) → (a || b) ≡ (b || a)
either_turned true true = refl
either_turned true false = refl
either_turned false true = refl
either_turned false false = refl

module _ (telling : Telling) where
  -- what is told of a term, and of terms
  abbrev pub term_told : Tree → AbsolutePath → Declarations → Bool
  term_told t scope d = told telling (term_mentions t scope d) d

  abbrev pub terms_told : Trees → AbsolutePath → Declarations → Bool
  terms_told ts scope d = told telling (block_mentions ts scope d) d

  first_told : (t : Tree) (ts : Trees) (scope : AbsolutePath) (d : Declarations) → terms_told (tree t ts) scope d ≡ (term_told t scope d || terms_told ts scope (declare t scope d))
  first_told t ts scope d =
      told_append telling (term_mentions t scope d) (block_mentions ts scope (declare t scope d)) d
      ∙ ap (λ e. term_told t scope d || told telling (block_mentions ts scope (declare t scope d)) e) (after_term t scope d)

  followed_told : (ts us : Trees) (scope : AbsolutePath) (d : Declarations) → terms_told (followed ts us) scope d ≡ (terms_told ts scope d || terms_told us scope (declare_all ts scope d))
  followed_told no_trees us scope d = refl
  followed_told (tree t ts) us scope d =
      first_told t (followed ts us) scope d ∙ ap (λ c. term_told t scope d || c) (followed_told ts us scope (declare t scope d))
      ∙ either_third (term_told t scope d) (terms_told ts scope (declare t scope d)) (terms_told us scope (declare_all ts scope (declare t scope d)))
      ∙ ap (λ c. c || terms_told us scope (declare_all ts scope (declare t scope d))) (sym (first_told t ts scope d))

  -- a value before a body
  value_told : (value : Tree) (body : Trees) (scope : AbsolutePath) (d : Declarations)
      → told telling (mentions true value scope ++ block_mentions body scope d) d ≡ (heard telling true value scope || terms_told body scope d)
  value_told value body scope d = told_both telling (mentions true value scope) (block_mentions body scope d) (light true value scope) d

  -- an expression as a term
  value_mentions : (t : Tree) → is_value t ≡ true → (scope : AbsolutePath) (d : Declarations) → term_mentions t scope d ≡ mentions true t scope
  value_mentions (Return value) e scope d = absurd (grind arith)
  value_mentions (Name at name value) e scope d = absurd (grind arith)
  value_mentions (Alias from source at name) e scope d = absurd (grind arith)
  value_mentions (External here at name type parameters) e scope d = absurd (grind arith)
  value_mentions (Method at name flags body) e scope d = absurd (grind arith)
  value_mentions (Mutex at name level) e scope d = absurd (grind arith)
  value_mentions (Event at name) e scope d = absurd (grind arith)
  value_mentions (Container' kind at name body) e scope d = absurd (grind arith)
  value_mentions (Scope here at name body) e scope d = absurd (grind arith)
  value_mentions (If test body) e scope d = absurd (grind arith)
  value_mentions (ElseIf test body) e scope d = absurd (grind arith)
  value_mentions (Else body) e scope d = absurd (grind arith)
  value_mentions (While test body) e scope d = absurd (grind arith)
  value_mentions (For start test step body) e scope d = absurd (grind arith)
  value_mentions (Print place format args) e scope d = absurd (grind arith)
  value_mentions (Switch value cases) e scope d = absurd (grind arith)
  value_mentions (Case value body) e scope d = absurd (grind arith)
  value_mentions (Default body) e scope d = absurd (grind arith)
  value_mentions (OperationRegion at name space args) e scope d = absurd (grind arith)
  value_mentions (Field here from region flags items) e scope d = absurd (grind arith)
  value_mentions (IndexField here from index to register flags items) e scope d = absurd (grind arith)
  value_mentions (BankField here from region to bank value flags items) e scope d = absurd (grind arith)
  value_mentions (CreateField form args at name) e scope d = absurd (grind arith)
  value_mentions t e scope d = refl

  alone_told : (t : Tree) → is_value t ≡ true → (scope : AbsolutePath) (d : Declarations) → terms_told (tree t no_trees) scope d ≡ heard telling true t scope
  alone_told t e scope d =
      first_told t no_trees scope d ∙ either_none (term_told t scope d) ∙ ap (λ ms. told telling ms d) (value_mentions t e scope d) ∙ told_value telling true t scope d

  optional_told : (t : Tree) → is_value t ≡ true → (scope : AbsolutePath) (d : Declarations) → terms_told (optional t) scope d ≡ heard telling true t scope
  optional_told Omitted e scope d = refl
  optional_told t e scope d = alone_told t e scope d

  optional_silent : (t : Tree) → is_value t ≡ true → (scope : AbsolutePath) (d : Declarations) → declare_all (optional t) scope d ≡ d
  optional_silent Omitted e scope d = refl
  optional_silent t e scope d = undeclared t e scope d

  -- ---- steps before each Continue, of which something is told or not wherever they stand

  module _ (steps : Trees) (scope : AbsolutePath) (x : Bool) (says : (d : Declarations) → terms_told steps scope d ≡ x) (silent : (d : Declarations) → declare_all steps scope d ≡ d) where
    mutual
      step_declares : (t : Tree) (d : Declarations) → declare (stepped steps t) scope d ≡ declare t scope d
      step_declares (If test body) d = steps_declare body d
      step_declares (ElseIf test body) d = steps_declare body d
      step_declares (Else body) d = steps_declare body d
      step_declares (Switch value cases) d = steps_declare cases d
      step_declares (Case value body) d = steps_declare body d
      step_declares (Default body) d = steps_declare body d
      step_declares t d = refl

      steps_declare : (ts : Trees) (d : Declarations) → declare_all (stepped_all steps ts) scope d ≡ declare_all ts scope d
      steps_declare no_trees d = refl
      steps_declare (tree Continue ts) d = followed_declares steps (tree Continue (stepped_all steps ts)) scope d ∙ ap (declare_all (stepped_all steps ts) scope) (silent d) ∙ steps_declare ts d
      steps_declare (tree t ts) d = ap (declare_all (stepped_all steps ts) scope) (step_declares t d) ∙ steps_declare ts (declare t scope d)

    body_told : (value : Tree) (body body' : Trees) (d : Declarations) → (terms_told body' scope d || x) ≡ (terms_told body scope d || x)
        → (told telling (mentions true value scope ++ block_mentions body' scope d) d || x) ≡ (told telling (mentions true value scope ++ block_mentions body scope d) d || x)
    body_told value body body' d h =
        ap (λ c. c || x) (value_told value body' scope d) ∙ told_within x (heard telling true value scope) (terms_told body' scope d) (terms_told body scope d) h
        ∙ sym (ap (λ c. c || x) (value_told value body scope d))

    mutual
      step_told : (t : Tree) (d : Declarations) → (term_told (stepped steps t) scope d || x) ≡ (term_told t scope d || x)
      step_told (If test body) d = body_told test body (stepped_all steps body) d (steps_told body d)
      step_told (ElseIf test body) d = body_told test body (stepped_all steps body) d (steps_told body d)
      step_told (Else body) d = steps_told body d
      step_told (Switch value cases) d = body_told value cases (stepped_all steps cases) d (steps_told cases d)
      step_told (Case value body) d = body_told value body (stepped_all steps body) d (steps_told body d)
      step_told (Default body) d = steps_told body d
      step_told t d = refl

      steps_told : (ts : Trees) (d : Declarations) → (terms_told (stepped_all steps ts) scope d || x) ≡ (terms_told ts scope d || x)
      steps_told no_trees d = refl
      steps_told (tree Continue ts) d =
          let behind : Trees = tree Continue (stepped_all steps ts) in
          ap (λ c. c || x) (followed_told steps behind scope d ∙ either (terms_told steps scope d) x (terms_told behind scope (declare_all steps scope d)) (terms_told (stepped_all steps ts) scope d) (says d) (ap (terms_told behind scope) (silent d)))
          ∙ told_before x (terms_told (stepped_all steps ts) scope d) (terms_told ts scope d) (steps_told ts d)
      steps_told (tree t ts) d =
          ap (λ c. c || x) (first_told (stepped steps t) (stepped_all steps ts) scope d ∙ ap (λ e. term_told (stepped steps t) scope d || terms_told (stepped_all steps ts) scope e) (step_declares t d))
          ∙ told_each x (term_told (stepped steps t) scope d) (term_told t scope d) (terms_told (stepped_all steps ts) scope (declare t scope d)) (terms_told ts scope (declare t scope d)) (step_told t d) (steps_told ts (declare t scope d))
          ∙ sym (ap (λ c. c || x) (first_told t ts scope d))

  -- ---- a For

  for_told : (start test step : Tree) (body : Trees) (scope : AbsolutePath) (d : Declarations)
      → term_told (For start test step body) scope d ≡ (heard telling true start scope || (heard telling true test scope || (heard telling true step scope || terms_told body scope d)))
  for_told start test step body scope d =
      let last : List Mention = mentions true step scope ++ block_mentions body scope d in
      told_both telling (mentions true start scope) (mentions true test scope ++ last) (light true start scope) d
      ∙ ap (λ c. heard telling true start scope || c) (told_both telling (mentions true test scope) last (light true test scope) d ∙ ap (λ c. heard telling true test scope || c) (value_told step body scope d))

  loop_told : (start test step : Tree) (body rest : Trees) → is_value start ≡ true → is_value step ≡ true → (scope : AbsolutePath) (d : Declarations)
      → terms_told (followed (for_trees start test step body) rest) scope d ≡ (term_told (For start test step body) scope d || terms_told rest scope (declare_all body scope d))
  loop_told start test step body rest e f scope d =
      followed_told (for_trees start test step body) rest scope d
      ∙ either (terms_told (for_trees start test step body) scope d) (begins || ((tests || (inside || ends)) || false)) (terms_told rest scope (declare_all (for_trees start test step body) scope d)) (terms_told rest scope (declare_all body scope d)) whole
      (ap (terms_told rest scope) declares)
      ∙ loop_order begins tests ends inside (terms_told rest scope (declare_all body scope d))
      ∙ sym (ap (λ c. c || terms_told rest scope (declare_all body scope d)) (for_told start test step body scope d))
    where
      begins : Bool
      begins = heard telling true start scope

      tests : Bool
      tests = heard telling true test scope

      ends : Bool
      ends = heard telling true step scope

      inside : Bool
      inside = terms_told body scope d

      front : Trees
      front = stepped_all (optional step) body

      turns : Trees
      turns = followed front (optional step)

      says : (c : Declarations) → terms_told (optional step) scope c ≡ ends
      says c = optional_told step f scope c

      silent : (c : Declarations) → declare_all (optional step) scope c ≡ c
      silent c = optional_silent step f scope c

      turn : terms_told turns scope d ≡ (inside || ends)
      turn =
          followed_told front (optional step) scope d ∙ ap (λ c. terms_told front scope d || c) (says (declare_all front scope d)) ∙ steps_told (optional step) scope ends says silent body d

      loop : terms_told (tree (While test turns) no_trees) scope (declare_all (optional start) scope d) ≡ ((tests || (inside || ends)) || false)
      loop =
          ap (terms_told (tree (While test turns) no_trees) scope) (optional_silent start e scope d) ∙ first_told (While test turns) no_trees scope d
          ∙ ap (λ c. c || false) (value_told test turns scope d ∙ ap (λ c. tests || c) turn)

      whole : terms_told (for_trees start test step body) scope d ≡ (begins || ((tests || (inside || ends)) || false))
      whole =
          followed_told (optional start) (tree (While test turns) no_trees) scope d
          ∙ either (terms_told (optional start) scope d) begins (terms_told (tree (While test turns) no_trees) scope (declare_all (optional start) scope d)) ((tests || (inside || ends)) || false) (optional_told start e scope d) loop

      declares : declare_all (for_trees start test step body) scope d ≡ declare_all body scope d
      declares =
          followed_declares (optional start) (tree (While test turns) no_trees) scope d ∙ ap (declare_all turns scope) (optional_silent start e scope d) ∙ followed_declares front (optional step) scope d
          ∙ silent (declare_all front scope d) ∙ steps_declare (optional step) scope ends says silent body d

  -- ---- what prints

  -- two operands that are values, of which the second may be a place
  pair_told : (asked : Bool) (a b : Tree) (scope : AbsolutePath) (d : Declarations) → told telling ((mentions true a scope ++ (mentions asked b scope ++ [])) ++ []) d ≡ (heard telling true a scope || heard telling asked b scope)
  pair_told asked a b scope d =
      ap (λ ms. told telling ms d) (right_nil (mentions true a scope ++ (mentions asked b scope ++ [])) ∙ ap (λ ms. mentions true a scope ++ ms) (right_nil (mentions asked b scope)))
      ∙ told_both telling (mentions true a scope) (mentions asked b scope) (light true a scope) d ∙ ap (λ c. heard telling true a scope || c) (told_value telling asked b scope d)

  joined_heard : (a b : Tree) (scope : AbsolutePath) → heard telling true (concatenated a b) scope ≡ (heard telling true a scope || heard telling true b scope)
  joined_heard a b scope = pair_told true a b scope nothing_declared

  text_heard : (t : Tree) (text : List ℕ) (scope : AbsolutePath) → heard telling true (with_text t text) scope ≡ heard telling true t scope
  text_heard t [] scope = refl
  text_heard t (c ∷ text) scope = joined_heard t (String (c ∷ text)) scope ∙ either_none (heard telling true t scope)

  arguments_heard : (t : Tree) (texts : List (List ℕ)) (args : Trees) → are_filled texts args ≡ true → (scope : AbsolutePath) → heard telling true (with_arguments t texts args) scope ≡ (heard telling true t scope || heard_all telling true args scope)
  arguments_heard t [] no_trees e scope = sym (either_none (heard telling true t scope))
  arguments_heard t [] (tree arg args) e scope = absurd cc
  arguments_heard t (text ∷ texts) no_trees e scope = absurd cc
  arguments_heard t (text ∷ texts) (tree arg args) e scope =
      let joined = concatenated t arg in
      arguments_heard (with_text joined text) texts args e scope ∙ ap (λ c. c || heard_all telling true args scope) (text_heard joined text scope ∙ joined_heard t arg scope)
      ∙ sym (either_third (heard telling true t scope) (heard telling true arg scope) (heard_all telling true args scope))
      ∙ sym (ap (λ c. heard telling true t scope || c) (told_both telling (mentions true arg scope) (mentions_all true args scope) (light true arg scope) nothing_declared))

  print_told : (place : Tree) (format : List ℕ) (args : Trees) → is_filled format args ≡ true → (scope : AbsolutePath) (d : Declarations) → term_told (print_tree place format args) scope d ≡ term_told (Print place format args) scope d
  print_told place format args e scope d =
      pair_told (is_spot place) (with_arguments (String (cut format).0) (cut format).1 args) place scope d
      ∙ ap (λ c. c || heard telling (is_spot place) place scope) (arguments_heard (String (cut format).0) (cut format).1 args (second_true (are_given args) (are_filled (cut format).1 args) e) scope)
      ∙ either_turned (heard_all telling true args scope) (heard telling (is_spot place) place scope)
      ∙ sym (value_first ∙ ap (λ c. heard telling (is_spot place) place scope || c) (told_values telling true args scope d))
    where
      value_first : term_told (Print place format args) scope d ≡ (heard telling (is_spot place) place scope || told telling (mentions_all true args scope) d)
      value_first = told_both telling (mentions (is_spot place) place scope) (mentions_all true args scope) (light (is_spot place) place scope) d

  -- ---- a term before others

  abbrev HasSteps : Tree → Type 0
  HasSteps (For start test step body) = (is_value start ≡ true) × (is_value step ≡ true)
  HasSteps t = Unit {0}

  spread_told : (t : Tree) (rest : Trees) → HasSteps t → (scope : AbsolutePath) (d : Declarations) → terms_told (spread t rest) scope d ≡ (term_told t scope d || terms_told rest scope (declare t scope d))
  spread_told (For start test step body) rest h scope d = by (is_steppable start step body)
    where
      by : (c : Bool) → terms_told (if c then followed (for_trees start test step body) rest else tree (For start test step body) rest) scope d ≡ (term_told (For start test step body) scope d || terms_told rest scope (declare_all body scope d))
      by true = loop_told start test step body rest h.0 h.1 scope d
      by false = first_told (For start test step body) rest scope d
  spread_told (Print place format args) rest h scope d = by (is_filled format args) refl
    where
      by : (c : Bool) → is_filled format args ≡ c → terms_told (if c then tree (print_tree place format args) rest else tree (Print place format args) rest) scope d ≡ (term_told (Print place format args) scope d || terms_told rest scope d)
      by true e = first_told (print_tree place format args) rest scope d ∙ ap (λ c. c || terms_told rest scope d) (print_told place format args e scope d)
      by false e = first_told (Print place format args) rest scope d
  spread_told t rest h scope d = first_told t rest scope d

  -- ---- programs

  steps_kept : (t : Tree) → is_term t ≡ true → HasSteps (formed t)
  steps_kept (For start test step body) e =
      let others = second_true (is_value start) (is_value test && (is_value step && are_terms body)) e in
      let last = second_true (is_value test) (is_value step && are_terms body) others in
      let begin : is_value start ≡ true = first_true (is_value start) (is_value test && (is_value step && are_terms body)) e in
      let end : is_value step ≡ true = first_true (is_value step) (are_terms body) last in
      (ap is_value (value_same start begin) ∙ begin, ap is_value (value_same step end) ∙ end)
  steps_kept t e = tt

  -- a value before a body that is told alike
  with_value : (value : Tree) (body : Trees) → is_value value ≡ true → (scope : AbsolutePath) (d : Declarations) → terms_told (formed_all body) scope d ≡ terms_told body scope d
      → told telling (mentions true (formed value) scope ++ block_mentions (formed_all body) scope d) d ≡ told telling (mentions true value scope ++ block_mentions body scope d) d
  with_value value body e scope d h =
      value_told (formed value) (formed_all body) scope d ∙ either (heard telling true (formed value) scope) (heard telling true value scope) (terms_told (formed_all body) scope d) (terms_told body scope d) (ap (λ t. heard telling true t scope) (value_same value e)) h
      ∙ sym (value_told value body scope d)

  mutual
    kept_told : (t : Tree) → is_term t ≡ true → (scope : AbsolutePath) (d : Declarations) → term_told (formed t) scope d ≡ term_told t scope d
    kept_told (Return value) e scope d = ap (λ v. term_told (Return v) scope d) (value_same value e)
    kept_told (Name at name value) e scope d = ap (λ v. term_told (Name at name v) scope d) (value_same value e)
    kept_told (Alias from source at name) e scope d = refl
    kept_told (External here at name type parameters) e scope d = refl
    kept_told (Method at name flags body) e scope d =
        ap (λ c. telling.of (Declares at name (As (MethodObject flags)) scope) d || c) (all_told body e (declared_path name scope) (with_declared (declared_path name scope) (As (MethodObject flags)) d))
    kept_told (Mutex at name level) e scope d = refl
    kept_told (Event at name) e scope d = refl
    kept_told (Container' kind at name body) e scope d =
        ap (λ c. telling.of (Declares at name (As (ContainerObject kind)) scope) d || c) (all_told body e (declared_path name scope) (with_declared (declared_path name scope) (As (ContainerObject kind)) d))
    kept_told (Scope here at name body) e scope d = ap (λ c. telling.of (Opens here at name scope (scope_path d name scope)) d || c) (all_told body e (scope_path d name scope) d)
    kept_told (If test body) e scope d = with_value test body (first_true (is_value test) (are_terms body) e) scope d (all_told body (second_true (is_value test) (are_terms body) e) scope d)
    kept_told (ElseIf test body) e scope d = with_value test body (first_true (is_value test) (are_terms body) e) scope d (all_told body (second_true (is_value test) (are_terms body) e) scope d)
    kept_told (Else body) e scope d = all_told body e scope d
    kept_told (While test body) e scope d = with_value test body (first_true (is_value test) (are_terms body) e) scope d (all_told body (second_true (is_value test) (are_terms body) e) scope d)
    kept_told (For start test step body) e scope d =
        let others = second_true (is_value start) (is_value test && (is_value step && are_terms body)) e in
        let last = second_true (is_value test) (is_value step && are_terms body) others in
        ap (λ t. term_told (For t (formed test) (formed step) (formed_all body)) scope d) (value_same start (first_true (is_value start) (is_value test && (is_value step && are_terms body)) e))
        ∙ ap (λ t. term_told (For start t (formed step) (formed_all body)) scope d) (value_same test (first_true (is_value test) (is_value step && are_terms body) others))
        ∙ ap (λ t. term_told (For start test t (formed_all body)) scope d) (value_same step (first_true (is_value step) (are_terms body) last))
        ∙ for_told start test step (formed_all body) scope d
        ∙ ap (λ c. heard telling true start scope || (heard telling true test scope || (heard telling true step scope || c))) (all_told body (second_true (is_value step) (are_terms body) last) scope d)
        ∙ sym (for_told start test step body scope d)
    kept_told (Print place format args) e scope d =
        ap (λ t. term_told (Print t format (formed_args args)) scope d) (value_same place (first_true (is_value place) (are_values args) e))
        ∙ ap (λ ts. term_told (Print place format ts) scope d) (args_same args (second_true (is_value place) (are_values args) e))
    kept_told (Switch value cases) e scope d = with_value value cases (first_true (is_value value) (are_terms cases) e) scope d (all_told cases (second_true (is_value value) (are_terms cases) e) scope d)
    kept_told (Case value body) e scope d = with_value value body (first_true (is_value value) (are_terms body) e) scope d (all_told body (second_true (is_value value) (are_terms body) e) scope d)
    kept_told (Default body) e scope d = all_told body e scope d
    kept_told (OperationRegion at name space args) e scope d = ap (λ ts. term_told (OperationRegion at name space ts) scope d) (args_same args e)
    kept_told (Field here from region flags items) e scope d = refl
    kept_told (IndexField here from index to register flags items) e scope d = refl
    kept_told (BankField here from region to bank value flags items) e scope d = ap (λ v. term_told (BankField here from region to bank v flags items) scope d) (value_same value e)
    kept_told (CreateField form args at name) e scope d = ap (λ ts. term_told (CreateField form ts at name) scope d) (args_same args e)
    kept_told t e scope d = ap (λ u. term_told u scope d) (value_same t e)

    pub all_told : (ts : Trees) → are_terms ts ≡ true → (scope : AbsolutePath) (d : Declarations) → told telling (block_mentions (formed_all ts) scope d) d ≡ told telling (block_mentions ts scope d) d
    all_told no_trees e scope d = refl
    all_told (tree t ts) e scope d =
        let first = first_true (is_term t) (are_terms ts) e in
        spread_told (formed t) (formed_all ts) (steps_kept t first) scope d
        ∙ either (term_told (formed t) scope d) (term_told t scope d) (terms_told (formed_all ts) scope (declare (formed t) scope d)) (terms_told ts scope (declare t scope d)) (kept_told t first scope d)
        (ap (terms_told (formed_all ts) scope) (formed_declares t scope d) ∙ all_told ts (second_true (is_term t) (are_terms ts) e) scope (declare t scope d))
        ∙ sym (first_told t ts scope d)
