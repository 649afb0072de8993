-- What stands in braces one after another: no Else stands directly behind a Switch, and no Default behind another.
use Rattle.std.proofs.Common.{◌≡◌, ◌⊎◌, inl, inr, ℕ, Bool, true, false, List, [], ◌∷◌, Option, Some, None, refl, sym, ap, ◌∙◌, subst}
use Rattle.std.specs.Prelude.{nat_le, ◌||◌, if◌then◌else◌}
use Rattle.acpi_state.specs.Outcomes.{choose}
use Rattle.iasl_messages.specs.declared.place.Place.{Place}
use Rattle.acpi_values.specs.declared.operator.IntOp.{IntOp}
use Rattle.acpi_values.specs.declared.operator.Plain.{Plain}
use Rattle.acpi_values.specs.declared.width.Width.{Width}
use Rattle.acpi_values.specs.Operators.{row_of}
use Rattle.asl_tree.specs.declared.path.Path.{Path}
use Rattle.asl_tree.specs.declared.term.Op.{Op}
use Rattle.asl_tree.specs.declared.term.Control.{Control}
use Rattle.asl_tree.specs.declared.term.Declaration.{Declaration}
use Rattle.asl_tree.specs.declared.term.Special.{Special}
use Rattle.asl_tree.specs.declared.term.Symbolic.{Symbolic}
use Rattle.asl_tree.specs.FieldItems.{FieldItem}
use Rattle.asl_tree.specs.Tree.{At, Tree, Integer, String, Omitted, Use, Package, VarPackage, Field, IndexField, BankField, Else, ElseIf, Switch, Misshapen, UnitName, Trees, no_trees, tree, count}
use Rattle.asl_tree.specs.View.{form, apply_of, fits, operands_as, operated, symbol_of as symbol_tree, buffer, body_bytes, counted, packaged, items_in}
use Rattle.named_sessions.specs.Shaped.{StartsNoElse, IsFollowed}
use Rattle.resource_layout.specs.declared.descriptor.Descriptor.{Descriptor}
use Rattle.asl_words.specs.declared.operator.Slot.{Slot}
use Rattle.asl_words.specs.declared.operator.Slot.TheVariants as slot
use Rattle.asl_words.specs.declared.operator.Body.TheVariants as braces
use Rattle.asl_words.specs.declared.operator.Known.{Known}
use Rattle.asl_words.specs.declared.operator.Known.TheVariants as known
use Rattle.asl_words.specs.declared.operator.TextMacro.{TextMacro}
use Rattle.word_meanings.specs.declared.meaning.Meaning.{Meaning}
use Rattle.word_meanings.specs.declared.meaning.Meaning.TheVariants as is
use Rattle.word_meanings.specs.declared.meaning.Reading.TheVariants as read
use Rattle.asl_words.specs.declared.operator.FieldWord.{FieldWord}
use Rattle.asl_words.specs.Operators.{parameters_of, parameters_as, body_as, role_of, element_parameters, macro_parameters}
use Rattle.asl_words.specs.Resources.{descriptor_parameters, descriptor_body}
use Rattle.word_meanings.specs.Meanings.{meaning_of, item_fault, may_be, may_stand, is_of_kind, is_branch_role, is_default, reading_of, run_behind, takes_known, unless_wrong, unfit}
use Rattle.asl_words.specs.Paths.{path_of}
use Rattle.asl_syntax.specs.Written as piece
use Rattle.asl_syntax.specs.Written.{Written, Writtens, item, apply, listed, comma, semicolon, empty, none, more}
use Rattle.asl_syntax.specs.declared.raw.Infix.{Infix}
use Rattle.asl_shape.specs.declared.around.Around.{Around}
use Rattle.term_plans.specs.Plans.{Plan, a_form, a_name, a_call, omitted, Plans, no_plans, plan}
use Rattle.asl_terms.specs.Symbols.{symbol_of}
use Rattle.asl_terms.specs.Terms as shapes
use Rattle.asl_terms.specs.Terms.{Shaped, fine, refused, after, checked, place_of, is_given, inside_of, is_default_op}
use Rattle.term_plans.specs.Places.{nowhere}
use Rattle.asl_terms.specs.Terms.{is_default_plan, settled, arranged}
use Rattle.asl_shape.specs.Shapes.{is_empty, is_separator, has_arguments, skipped, run_after, default_after}
use Rattle.asl_terms.specs.Terms.{known_plan, path_shape}
use Rattle.asl_shape.specs.Shapes.{form_shape, call_shape, read_shape, item_shape, element_shape, macro_shape, template_shape}
use Rattle.asl_shape.specs.Shapes.{descriptor_shape, is_number_list, bare, call_args, arguments, arguments_in, contents, terms, within}
use Rattle.asl_numbers.specs.Numbers.{numbered, numbered_all}
use Rattle.program_shapes.proofs.Fits.{Formed, FormedTerms}
use Rattle.program_shapes.proofs.Plans.{PlanAs, PlansAs, none_as, more_as, form_as, omitted_as}
use Rattle.program_shapes.proofs.Branches.{IsBranchBehind, AreBranches}
use Rattle.program_shapes.proofs.Words.{both_true}
use Rattle.program_shapes.proofs.Parts.{none_in, item_fit}

-- ---- trees that are no Else

abbrev NoElse : Tree → Type 0
NoElse (Else body) = ⊥
NoElse (ElseIf test body) = ⊥
NoElse _ = Unit {0}

starts_so : (t : Tree) (ts : Trees) → NoElse t → StartsNoElse (tree t ts)
starts_so (Else body) ts h = absurd h
starts_so (ElseIf test body) ts h = absurd h
starts_so _ ts h = tt

listed_so : (o : Option (List (FieldItem UnitName))) (made : List (FieldItem UnitName) → Tree) → ((items : List (FieldItem UnitName)) → NoElse (made items)) → NoElse (choose o Misshapen made)
listed_so None made h = tt
listed_so (Some items) made h = h items

apply_so : (op : Plain) (args : Trees) → NoElse (apply_of op args)
apply_so (Plain.Number IntOp.LNotEqual) args = tt
apply_so (Plain.Number IntOp.LLessEqual) args = tt
apply_so (Plain.Number IntOp.LGreaterEqual) args = tt
apply_so op args = tt

buffer_so : (size : Tree) (bytes : List ℕ) → NoElse (buffer size bytes)
buffer_so Omitted bytes = tt
buffer_so size bytes = tt

counted_so : (n : ℕ) (elements : Trees) → NoElse (counted n elements)
counted_so n elements = by (nat_le n 255)
  where
    by : (b : Bool) → NoElse (if b then Package n elements else VarPackage (Integer n) elements)
    by true = tt
    by false = tt

packaged_so : (size : Tree) (elements : Trees) → NoElse (packaged size elements)
packaged_so Omitted elements = counted_so (count elements) elements
packaged_so (Integer n) elements = counted_so n elements
packaged_so size elements = tt

operated_so : (op : Plain) (args : Trees) → NoElse (operated op args)
operated_so (Plain.Number IntOp.LNotEqual) args = tt
operated_so (Plain.Number IntOp.LLessEqual) args = tt
operated_so (Plain.Number IntOp.LGreaterEqual) args = tt
operated_so op args = tt

symbol_so : (op : Plain) (args : Trees) → NoElse (symbol_tree op args)
symbol_so op args = by (fits (row_of op).operands args)
  where
    by : (b : Bool) → NoElse (if b then operated op (operands_as (row_of op).operands args) else Misshapen)
    by true = operated_so op (operands_as (row_of op).operands args)
    by false = tt

-- directly behind anything but an If or an ElseIf no Else may stand
form_so : (here : At) (inside : Bool) (op : Op) (args body : Trees) → may_stand (slot.Term None) inside (role_of op) ≡ true → NoElse (form here op args body)
form_so here inside (Op.Declaration Declaration.Name) (tree (Use at name) (tree value no_trees)) no_trees e = tt
form_so here inside (Op.Declaration Declaration.Alias) (tree (Use from source) (tree (Use at name) no_trees)) no_trees e = tt
form_so here inside (Op.Declaration Declaration.External) (tree (Use at name) (tree (Integer type) no_trees)) no_trees e = tt
form_so here inside (Op.Declaration Declaration.External) (tree (Use at name) (tree (Integer type) (tree (Integer count) no_trees))) no_trees e = tt
form_so here inside (Op.Declaration Declaration.Method) (tree (Use at name) (tree (Integer arity) no_trees)) body e = tt
form_so here inside (Op.Declaration Declaration.Mutex) (tree (Use at name) (tree (Integer level) no_trees)) no_trees e = tt
form_so here inside (Op.Declaration Declaration.Event) (tree (Use at name) no_trees) no_trees e = tt
form_so here inside (Op.Declaration Declaration.Device) (tree (Use at name) no_trees) body e = tt
form_so here inside (Op.Declaration Declaration.ThermalZone) (tree (Use at name) no_trees) body e = tt
form_so here inside (Op.Declaration Declaration.PowerResource) (tree (Use at name) (tree (Integer level) (tree (Integer order) no_trees))) body e = tt
form_so here inside (Op.Declaration Declaration.Processor) (tree (Use at name) (tree (Integer number) (tree (Integer address) (tree (Integer size) no_trees)))) body e = tt
form_so here inside (Op.Declaration Declaration.Scope) (tree (Use at name) no_trees) body e = tt
form_so here inside (Op.Declaration Declaration.OperationRegion) (tree (Use at name) (tree (Integer space) (tree offset (tree size no_trees)))) no_trees e = tt
form_so here inside (Op.Declaration Declaration.Field) (tree (Use from region) (tree (Integer flags) no_trees)) body e = listed_so (items_in body) (λ items. Field here from region flags items) (λ items. tt)
form_so here inside (Op.Declaration Declaration.IndexField) (tree (Use from index) (tree (Use to register) (tree (Integer flags) no_trees))) body e = listed_so (items_in body) (λ items. IndexField here from index to register flags items) (λ items. tt)
form_so here inside (Op.Declaration Declaration.BankField) (tree (Use from region) (tree (Use to bank) (tree value (tree (Integer flags) no_trees)))) body e = listed_so (items_in body) (λ items. BankField here from region to bank value flags items) (λ items. tt)
form_so here inside (Op.Declaration Declaration.CreateField) (tree source (tree index (tree bits (tree (Use at name) no_trees)))) no_trees e = tt
form_so here inside (Op.Declaration Declaration.CreateBitField) (tree source (tree index (tree (Use at name) no_trees))) no_trees e = tt
form_so here inside (Op.Declaration Declaration.CreateByteField) (tree source (tree index (tree (Use at name) no_trees))) no_trees e = tt
form_so here inside (Op.Declaration Declaration.CreateWordField) (tree source (tree index (tree (Use at name) no_trees))) no_trees e = tt
form_so here inside (Op.Declaration Declaration.CreateDWordField) (tree source (tree index (tree (Use at name) no_trees))) no_trees e = tt
form_so here inside (Op.Declaration Declaration.CreateQWordField) (tree source (tree index (tree (Use at name) no_trees))) no_trees e = tt
form_so here inside (Op.Control Control.Return) (tree value no_trees) no_trees e = tt
form_so here inside (Op.Control Control.If) (tree test no_trees) body e = tt
form_so here inside (Op.Control Control.While) (tree test no_trees) body e = tt
form_so here inside (Op.Control Control.For) (tree start (tree test (tree step no_trees))) body e = tt
form_so here inside (Op.Control Control.Printf) (tree (String format) args) no_trees e = tt
form_so here inside (Op.Control Control.Fprintf) (tree place (tree (String format) args)) no_trees e = tt
form_so here inside (Op.Control Control.Switch) (tree value no_trees) cases e = tt
form_so here inside (Op.Control Control.Case) (tree value no_trees) body e = tt
form_so here inside (Op.Control Control.Default) no_trees body e = tt
form_so here inside (Op.Control Control.Break) no_trees no_trees e = tt
form_so here inside (Op.Control Control.Continue) no_trees no_trees e = tt
form_so here inside (Op.Literal literal) no_trees no_trees e = tt
form_so here inside (Op.Plain op) args no_trees e = apply_so op args
form_so here inside (Op.Special Special.CondRefOf) (tree place (tree target no_trees)) no_trees e = tt
form_so here inside (Op.Special Special.Buffer) (tree size no_trees) body e = buffer_so size (body_bytes body)
form_so here inside (Op.Special Special.Package) (tree size no_trees) body e = packaged_so size body
form_so here inside (Op.Symbolic (Symbolic.Operator op)) args no_trees e = symbol_so op args
form_so here inside (Op.Symbolic Symbolic.Assign) (tree target (tree value no_trees)) no_trees e = tt
form_so here inside (Op.Symbolic (Symbolic.AssignBy op)) (tree target (tree value no_trees)) no_trees e = tt
form_so here inside (Op.Control Control.Else) args body e = absurd cc
form_so here inside (Op.Control Control.ElseIf) args body e = absurd cc
form_so here inside _ _ _ e = tt

abbrev is_form : Plan → Bool
is_form (a_form op args body) = true
is_form _ = false

leaf_so : (p : Plan) → is_form p ≡ false → PlanAs NoElse p
unfolding numbered
leaf_so (a_form op args body) e = absurd cc
leaf_so _ e = λ at next. tt

form_plan_so : (inside : Bool) (op : Op) (args body : Plans) → may_stand (slot.Term None) inside (role_of op) ≡ true → PlanAs NoElse (a_form op args body)
form_plan_so inside op args body m = form_as NoElse op args body (λ here m' n. form_so here inside op (numbered_all m' args) (numbered_all n body) m)

-- ---- a term that is directly behind none

symbol_stands : (o : Infix) (inside : Bool) → may_stand (slot.Term None) inside (role_of (symbol_of o)) ≡ true
symbol_stands Infix.Index inside = refl
symbol_stands _ inside = refl

path_so : (place : Place) (o : Option Path) → PlanAs NoElse (path_shape place o).made
path_so place None = leaf_so omitted refl
path_so place (Some path) = leaf_so (a_name path) refl

call_so : (place : Place) (o : Option Path) (args : Shaped Plans) → PlanAs NoElse (call_shape place o args).made
call_so place None args = leaf_so omitted refl
call_so place (Some path) args = leaf_so (a_call path args.made) refl

known_so : (s : Slot) (place : Place) (text : List ℕ) (k : Known) (calls : Shaped Plans) (element : FieldWord → Shaped Plan) (expanded : TextMacro → Shaped Plan) (template : Shaped Plan) (described : Descriptor → Shaped Plan) (form : Op → Shaped Plan)
    → PlanAs NoElse (read_shape s place text (read.Known k) calls element expanded template described form).made
known_so s place text (known.Word kind n) calls element expanded template described form = leaf_so (known_plan s (known.Word kind n)) refl
known_so s place text (known.Local i) calls element expanded template described form = leaf_so (known_plan s (known.Local i)) refl
known_so s place text (known.Arg i) calls element expanded template described form = leaf_so (known_plan s (known.Arg i)) refl
known_so s place text known.Debug calls element expanded template described form = leaf_so (known_plan s known.Debug) refl
known_so s place text (known.Element w) calls element expanded template described form = leaf_so (known_plan s (known.Element w)) refl
known_so s place text (known.Macro m) calls element expanded template described form = leaf_so (known_plan s (known.Macro m)) refl
known_so s place text known.Template calls element expanded template described form = leaf_so (known_plan s known.Template) refl
known_so s place text (known.Descriptor d) calls element expanded template described form = leaf_so (known_plan s (known.Descriptor d)) refl
known_so s place text known.LeftOut calls element expanded template described form = leaf_so (known_plan s known.LeftOut) refl

read_so : (place : Place) (text : List ℕ) (inside : Bool) (m : Meaning) (called : Bool) (calls : Shaped Plans) (element : FieldWord → Shaped Plan) (expanded : TextMacro → Shaped Plan) (template : Shaped Plan) (described : Descriptor → Shaped Plan) (form : Op → Shaped Plan) → may_be (slot.Term None) inside m ≡ true
    → ((op : Op) → may_stand (slot.Term None) inside (role_of op) ≡ true → PlanAs NoElse (form op).made)
    → PlanAs NoElse (read_shape (slot.Term None) place text (reading_of (slot.Term None) m called) calls element expanded template described form).made
read_so place text inside (is.Operator op) called calls element expanded template described form m h = h op (both_true (is_of_kind (slot.Term None) (is.Operator op)) (may_stand (slot.Term None) inside (role_of op)) m).1
read_so place text inside (is.Known k) called calls element expanded template described form m h = by (takes_known (slot.Term None) k)
  where
    by : (b : Bool) → PlanAs NoElse (read_shape (slot.Term None) place text (unless_wrong b (read.Known k)) calls element expanded template described form).made
    by true = known_so (slot.Term None) place text k calls element expanded template described form
    by false = leaf_so omitted refl
read_so place text inside is.Name true calls element expanded template described form m h = call_so place (path_of text) calls
read_so place text inside is.Name false calls element expanded template described form m h = path_so place (path_of text)
read_so place text inside is.Path true calls element expanded template described form m h = call_so place (path_of text) calls
read_so place text inside is.Path false calls element expanded template described form m h = path_so place (path_of text)
read_so place text inside (is.Element w) called calls element expanded template described form m h = leaf_so omitted refl
read_so place text inside (is.Macro x) called calls element expanded template described form m h = leaf_so omitted refl
read_so place text inside is.Template called calls element expanded template described form m h = leaf_so omitted refl
read_so place text inside (is.Descriptor d) called calls element expanded template described form m h = leaf_so omitted refl
read_so place text inside is.Unknown called calls element expanded template described form m h = leaf_so omitted refl

-- a term has nothing to evaluate
checked_term : (P : Plan → Type 0) (width : Width) (run : Option ℕ) (place : Place) (shape : Shaped Plan) → P shape.made → P (checked width (slot.Term run) place shape).made
checked_term P width run place shape h = by shape.faults
  where
    by : (fs : List _) → P (after fs shape (fine shape.made)).made
    by [] = h
    by (m ∷ ms) = h

term_so : (inside : Around) (w : Written) → is_separator w ≡ false → (bare (slot.Term None) inside w).faults ≡ [] → PlanAs NoElse (bare (slot.Term None) inside w).made
term_so inside (piece.number at n) sep e = leaf_so omitted refl
term_so inside (piece.text at bytes) sep e = leaf_so omitted refl
term_so inside (listed at ws) sep e = leaf_so omitted refl
term_so inside (apply at o ws) sep e =
    let args : Shaped Plans = arguments_in (parameters_of (symbol_of o)) at inside ws in
    form_plan_so inside.method (symbol_of o) (settled inside.width (symbol_of o) at args.made) (arranged (symbol_of o) no_plans) (symbol_stands o inside.method)
term_so inside (item at w args body) sep e =
    let s : Slot = slot.Term None in
    let m : Meaning = meaning_of w (is_given body) in
    let form : Op → Shaped Plan = λ o. form_shape inside.width o at (arguments (parameters_as o s) at inside args) (contents (body_as o s) (within o inside) at body) in
    let element : FieldWord → Shaped Plan = λ e. element_shape e (arguments (element_parameters e) at inside args) in
    let expanded : TextMacro → Shaped Plan = λ x. macro_shape (arguments (macro_parameters x) at inside args) in
    let template : Shaped Plan = template_shape at (contents (braces.Descriptors false) inside at body) in
    let described : Descriptor → Shaped Plan = λ d. descriptor_shape d at (is_number_list (descriptor_body d) body) (arguments (descriptor_parameters d) at inside args) (contents (descriptor_body d) inside at body) in
    item_fit (PlanAs NoElse) s inside.method m (has_arguments m (inside_of args)) (is_given body) at (read_shape s at w (reading_of s m (is_given args)) (call_args inside args) element expanded template described form)
    (λ may has f. read_so at w inside.method m (is_given args) (call_args inside args) element expanded template described form may
    (λ op stands. form_plan_so inside.method op (settled inside.width op at (arguments (parameters_as op s) at inside args).made) (arranged op (contents (body_as op s) (within op inside) at body).made) stands)) e
term_so inside comma sep e = absurd cc
term_so inside semicolon sep e = absurd cc
term_so inside empty sep e = leaf_so omitted refl

checked_faults : (width : Width) (s : Slot) (place : Place) (shape : Shaped Plan) → (checked width s place shape).faults ≡ [] → shape.faults ≡ []
checked_faults width s place shape e = by shape.faults refl e
  where
    by : (fs : List _) → shape.faults ≡ fs → (after fs shape (shapes.evaluated width s place shape.made)).faults ≡ [] → shape.faults ≡ []
    by [] f e = f
    by (m ∷ ms) f e = e

-- terms directly behind none begin with no Else
starts_fit : (inside : Around) (ws : Writtens) → (terms inside None ws).faults ≡ [] → PlansAs StartsNoElse (terms inside None ws).made
starts_fit inside none e = none_as StartsNoElse tt
starts_fit inside (more comma ws) e = starts_fit inside ws e
starts_fit inside (more semicolon ws) e = starts_fit inside ws e
starts_fit inside (more w ws) e =
    let at : Place = place_of nowhere w in
    let first : Shaped Plan = checked inside.width (slot.Term None) at (bare (slot.Term None) inside w) in
    let rest : Shaped Plans = terms inside (run_after None w) ws in
    let f : (bare (slot.Term None) inside w).faults ≡ [] = checked_faults inside.width (slot.Term None) at (bare (slot.Term None) inside w) (none_in first.faults rest.faults e).0 in
    more_as StartsNoElse (λ ts. Unit {0}) NoElse at first.made rest.made (λ t ts h k. starts_so t ts h) (checked_term (PlanAs NoElse) inside.width None at (bare (slot.Term None) inside w) (term_so inside w refl f)) (λ m. tt)

-- ---- terms that are no Switch

abbrev NoSwitch : Tree → Type 0
NoSwitch (Switch value cases) = ⊥
NoSwitch _ = Unit {0}

followed_by : (t : Tree) (ts : Trees) → StartsNoElse ts → IsFollowed t ts
followed_by (Switch value cases) ts h = h
followed_by _ ts h = tt

never_switched : (t : Tree) (ts : Trees) → NoSwitch t → IsFollowed t ts
never_switched (Switch value cases) ts h = absurd h
never_switched _ ts h = tt

if_form : (here : At) (args body : Trees) → NoSwitch (form here (Op.Control Control.If) args body)
if_form here no_trees body = tt
if_form here (tree t no_trees) body = tt
if_form here (tree t (tree u us)) body = tt

else_if_form : (here : At) (args body : Trees) → NoSwitch (form here (Op.Control Control.ElseIf) args body)
else_if_form here no_trees body = tt
else_if_form here (tree t no_trees) body = tt
else_if_form here (tree t (tree u us)) body = tt

-- behind a Switch no If goes on
turn : (place : Place) (text : List ℕ) (run : Option ℕ) (m : Meaning) (called : Bool) (calls : Shaped Plans) (element : FieldWord → Shaped Plan) (expanded : TextMacro → Shaped Plan) (template : Shaped Plan) (described : Descriptor → Shaped Plan) (form : Op → Shaped Plan) (args body : Op → Plans)
    → ((op : Op) → (form op).made ≡ a_form op (args op) (body op))
    → PlanAs NoSwitch (read_shape (slot.Term run) place text (reading_of (slot.Term run) m called) calls element expanded template described form).made ⊎ (run_behind run m ≡ None)
turn place text run (is.Operator (Op.Control Control.If)) called calls element expanded template described form args body h =
    inl (subst (PlanAs NoSwitch) (sym (h (Op.Control Control.If))) (form_as NoSwitch (Op.Control Control.If) (args (Op.Control Control.If)) (body (Op.Control Control.If)) (λ at m n. if_form at (numbered_all m (args (Op.Control Control.If))) (numbered_all n (body (Op.Control Control.If))))))
turn place text run (is.Operator (Op.Control Control.ElseIf)) called calls element expanded template described form args body h =
    inl (subst (PlanAs NoSwitch) (sym (h (Op.Control Control.ElseIf))) (form_as NoSwitch (Op.Control Control.ElseIf) (args (Op.Control Control.ElseIf)) (body (Op.Control Control.ElseIf)) (λ at m n. else_if_form at (numbered_all m (args (Op.Control Control.ElseIf))) (numbered_all n (body (Op.Control Control.ElseIf))))))
turn place text run (is.Operator (Op.Control _)) called calls element expanded template described form args body h = inr refl
turn place text run (is.Operator _) called calls element expanded template described form args body h = inr refl
turn place text run _ called calls element expanded template described form args body h = inr refl

left_out_so : (place : Place) (fault : Option ℕ) (shape : Shaped Plan) → PlanAs NoSwitch shape.made → PlanAs NoSwitch (item_shape place fault shape).made
left_out_so place None shape h = h
left_out_so place (Some number) shape h = omitted_as NoSwitch tt

term_turn : (inside : Around) (run : Option ℕ) (w : Written) → is_separator w ≡ false → PlanAs NoSwitch (bare (slot.Term run) inside w).made ⊎ (run_after run w ≡ None)
term_turn inside run (item at w args body) sep =
    let s : Slot = slot.Term run in
    let m : Meaning = meaning_of w (is_given body) in
    let form : Op → Shaped Plan = λ o. form_shape inside.width o at (arguments (parameters_as o s) at inside args) (contents (body_as o s) (within o inside) at body) in
    let element : FieldWord → Shaped Plan = λ e. element_shape e (arguments (element_parameters e) at inside args) in
    let expanded : TextMacro → Shaped Plan = λ x. macro_shape (arguments (macro_parameters x) at inside args) in
    let template : Shaped Plan = template_shape at (contents (braces.Descriptors false) inside at body) in
    let described : Descriptor → Shaped Plan = λ d. descriptor_shape d at (is_number_list (descriptor_body d) body) (arguments (descriptor_parameters d) at inside args) (contents (descriptor_body d) inside at body) in
    by (item_fault s inside.method m (has_arguments m (inside_of args)) (is_given body)) (read_shape s at w (reading_of s m (is_given args)) (call_args inside args) element expanded template described form)
    (turn at w run m (is_given args) (call_args inside args) element expanded template described form (λ op. settled inside.width op at (arguments (parameters_as op s) at inside args).made) (λ op. arranged op (contents (body_as op s) (within op inside) at body).made) (λ op. refl))
  where
    by : (fault : Option ℕ) (shape : Shaped Plan) → PlanAs NoSwitch shape.made ⊎ (run_behind run (meaning_of w (is_given body)) ≡ None) → PlanAs NoSwitch (item_shape at fault shape).made ⊎ (run_behind run (meaning_of w (is_given body)) ≡ None)
    by fault shape (inl h) = inl (left_out_so at fault shape h)
    by fault shape (inr e) = inr e
term_turn inside run comma sep = absurd cc
term_turn inside run semicolon sep = absurd cc
term_turn inside run _ sep = inr refl

one_more : (inside : Around) (run : Option ℕ) (ws : Writtens) (at : Place) (p : Plan) → PlanAs Formed p → PlansAs FormedTerms (terms inside run ws).made → (terms inside run ws).faults ≡ [] → PlanAs NoSwitch p ⊎ (run ≡ None)
    → PlansAs FormedTerms (plan at p (terms inside run ws).made)
one_more inside run ws at p h k e (inl never) =
    more_as FormedTerms FormedTerms (λ t. Formed t × NoSwitch t) at p (terms inside run ws).made (λ t ts a b. (a.0, never_switched t ts a.1, b)) (λ here n. (h here n, never here n)) k
one_more inside run ws at p h k e (inr stop) =
    let starts : PlansAs StartsNoElse (terms inside run ws).made = subst (λ r. (terms inside r ws).faults ≡ [] → PlansAs StartsNoElse (terms inside r ws).made) (sym stop) (starts_fit inside ws) e in
    more_as FormedTerms (λ ts. FormedTerms ts × StartsNoElse ts) Formed at p (terms inside run ws).made (λ t ts a b. (a, followed_by t ts b.1, b.0)) h (λ n. (k n, starts n))

checked_turn : (inside : Around) (run : Option ℕ) (w : Written) → PlanAs NoSwitch (bare (slot.Term run) inside w).made ⊎ (run_after run w ≡ None)
    → PlanAs NoSwitch (checked inside.width (slot.Term run) (place_of nowhere w) (bare (slot.Term run) inside w)).made ⊎ (run_after run w ≡ None)
checked_turn inside run w (inl h) = inl (checked_term (PlanAs NoSwitch) inside.width run (place_of nowhere w) (bare (slot.Term run) inside w) h)
checked_turn inside run w (inr e) = inr e

-- one more term before those that fit
pub terms_more : (inside : Around) (run : Option ℕ) (w : Written) (ws : Writtens)
    → (is_separator w ≡ false → (checked inside.width (slot.Term run) (place_of nowhere w) (bare (slot.Term run) inside w)).faults ≡ [] → PlanAs Formed (checked inside.width (slot.Term run) (place_of nowhere w) (bare (slot.Term run) inside w)).made)
    → ((terms inside (run_after run w) ws).faults ≡ [] → PlansAs FormedTerms (terms inside (run_after run w) ws).made) → (terms inside run (more w ws)).faults ≡ [] → PlansAs FormedTerms (terms inside run (more w ws)).made
terms_more inside run w ws h k e = by (is_separator w) refl e
  where
    by : (b : Bool) → is_separator w ≡ b → (skipped b (place_of nowhere w) (checked inside.width (slot.Term run) (place_of nowhere w) (bare (slot.Term run) inside w)) (terms inside (run_after run w) ws)).faults ≡ []
        → PlansAs FormedTerms (skipped b (place_of nowhere w) (checked inside.width (slot.Term run) (place_of nowhere w) (bare (slot.Term run) inside w)) (terms inside (run_after run w) ws)).made
    by true sep e = k e
    by false sep e =
        let first : Shaped Plan = checked inside.width (slot.Term run) (place_of nowhere w) (bare (slot.Term run) inside w) in
        let f = none_in first.faults (terms inside (run_after run w) ws).faults e in
        one_more inside (run_after run w) ws (place_of nowhere w) first.made (h sep f.0) (k f.1) f.1 (checked_turn inside run w (term_turn inside run w sep))

-- ---- the members of a Switch

same_default : (op : Op) → is_default_op op ≡ is_default (is.Operator op)
same_default (Op.Control Control.Default) = refl
same_default (Op.Control _) = refl
same_default _ = refl

branch_read : (defaulted : Bool) (place : Place) (text : List ℕ) (m : Meaning) (called : Bool) (calls : Shaped Plans) (element : FieldWord → Shaped Plan) (expanded : TextMacro → Shaped Plan) (template : Shaped Plan) (described : Descriptor → Shaped Plan) (form : Op → Shaped Plan)
    → ((op : Op) → is_default_plan (form op).made ≡ is_default_op op)
    → (read_shape (slot.Branch defaulted) place text (reading_of (slot.Branch defaulted) m called) calls element expanded template described form).faults ≡ []
    → is_default_plan (read_shape (slot.Branch defaulted) place text (reading_of (slot.Branch defaulted) m called) calls element expanded template described form).made ≡ is_default m
branch_read defaulted place text (is.Operator op) called calls element expanded template described form h e = by (is_branch_role (role_of op)) e
  where
    by : (b : Bool) → (read_shape (slot.Branch defaulted) place text (unless_wrong b (read.Form op)) calls element expanded template described form).faults ≡ []
        → is_default_plan (read_shape (slot.Branch defaulted) place text (unless_wrong b (read.Form op)) calls element expanded template described form).made ≡ is_default (is.Operator op)
    by true e = h op ∙ same_default op
    by false e = absurd cc
branch_read defaulted place text (is.Known (known.Word kind n)) called calls element expanded template described form h e = absurd cc
branch_read defaulted place text (is.Known known.Debug) called calls element expanded template described form h e = absurd cc
branch_read defaulted place text (is.Known (known.Local i)) called calls element expanded template described form h e = absurd cc
branch_read defaulted place text (is.Known _) called calls element expanded template described form h e = absurd cc
branch_read defaulted place text is.Name true calls element expanded template described form h e = absurd cc
branch_read defaulted place text is.Name false calls element expanded template described form h e = absurd cc
branch_read defaulted place text is.Path true calls element expanded template described form h e = absurd cc
branch_read defaulted place text is.Path false calls element expanded template described form h e = absurd cc
branch_read defaulted place text _ called calls element expanded template described form h e = absurd cc

-- whether what is written is a Default
abbrev is_written_default : Written → Bool
is_written_default (item at w args body) = is_default (meaning_of w (is_given body))
is_written_default _ = false

no_symbol : (o : Infix) (shape : Shaped Plan) (number : ℕ) (at : Place) → (if is_branch_role (role_of (symbol_of o)) then shape else refused number at).faults ≡ [] → ⊥
no_symbol Infix.Index shape number at e = absurd cc
no_symbol _ shape number at e = absurd cc

branch_kind : (inside : Around) (defaulted : Bool) (w : Written) → is_separator w ≡ false → is_empty w ≡ false → (bare (slot.Branch defaulted) inside w).faults ≡ [] → is_default_plan (bare (slot.Branch defaulted) inside w).made ≡ is_written_default w
branch_kind inside defaulted (piece.number at n) sep emp e = absurd cc
branch_kind inside defaulted (piece.text at bytes) sep emp e = absurd cc
branch_kind inside defaulted (listed at ws) sep emp e = absurd cc
branch_kind inside defaulted (apply at o ws) sep emp e =
    absurd (no_symbol o (form_shape inside.width (symbol_of o) at (arguments_in (parameters_of (symbol_of o)) at inside ws) (fine no_plans)) (unfit (slot.Branch defaulted)) at e)
branch_kind inside defaulted (item at w args body) sep emp e =
    let s : Slot = slot.Branch defaulted in
    let m : Meaning = meaning_of w (is_given body) in
    let form : Op → Shaped Plan = λ o. form_shape inside.width o at (arguments (parameters_as o s) at inside args) (contents (body_as o s) (within o inside) at body) in
    let element : FieldWord → Shaped Plan = λ e. element_shape e (arguments (element_parameters e) at inside args) in
    let expanded : TextMacro → Shaped Plan = λ x. macro_shape (arguments (macro_parameters x) at inside args) in
    let template : Shaped Plan = template_shape at (contents (braces.Descriptors false) inside at body) in
    let described : Descriptor → Shaped Plan = λ d. descriptor_shape d at (is_number_list (descriptor_body d) body) (arguments (descriptor_parameters d) at inside args) (contents (descriptor_body d) inside at body) in
    item_fit (λ p. is_default_plan p ≡ is_default m) s inside.method m (has_arguments m (inside_of args)) (is_given body) at (read_shape s at w (reading_of s m (is_given args)) (call_args inside args) element expanded template described form)
    (λ may has f. branch_read defaulted at w m (is_given args) (call_args inside args) element expanded template described form (λ op. refl) f) e
branch_kind inside defaulted comma sep emp e = absurd cc
branch_kind inside defaulted semicolon sep emp e = absurd cc
branch_kind inside defaulted empty sep emp e = absurd cc

checked_kind : (width : Width) (defaulted : Bool) (place : Place) (shape : Shaped Plan) (b : Bool) → (shape.faults ≡ [] → is_default_plan shape.made ≡ b) → (checked width (slot.Branch defaulted) place shape).faults ≡ [] → is_default_plan (checked width (slot.Branch defaulted) place shape).made ≡ b
checked_kind width defaulted place shape b h e = by shape.faults refl e
  where
    by : (fs : List _) → shape.faults ≡ fs → (after fs shape (fine shape.made)).faults ≡ [] → is_default_plan (after fs shape (fine shape.made)).made ≡ b
    by [] f e = h f
    by (m ∷ ms) f e = absurd cc

turned : (defaulted : Bool) (w : Written) → is_separator w ≡ false → default_after defaulted w ≡ (defaulted || is_written_default w)
turned defaulted (item at w args body) sep = refl
turned true _ sep = refl
turned false _ sep = refl

unturned : (defaulted : Bool) (w : Written) → is_separator w ≡ true → default_after defaulted w ≡ defaulted
unturned defaulted comma sep = refl
unturned defaulted semicolon sep = refl
unturned defaulted _ sep = absurd cc

-- one more member before those that fit
pub branches_fit : (inside : Around) (defaulted : Bool) (w : Written) (rest : Shaped Plans) → is_empty w ≡ false
    → (is_separator w ≡ false → (checked inside.width (slot.Branch defaulted) (place_of nowhere w) (bare (slot.Branch defaulted) inside w)).faults ≡ [] → IsBranchBehind defaulted (checked inside.width (slot.Branch defaulted) (place_of nowhere w) (bare (slot.Branch defaulted) inside w)).made)
    → (rest.faults ≡ [] → AreBranches (default_after defaulted w) rest.made)
    → (skipped (is_separator w) (place_of nowhere w) (checked inside.width (slot.Branch defaulted) (place_of nowhere w) (bare (slot.Branch defaulted) inside w)) rest).faults ≡ []
    → AreBranches defaulted (skipped (is_separator w) (place_of nowhere w) (checked inside.width (slot.Branch defaulted) (place_of nowhere w) (bare (slot.Branch defaulted) inside w)) rest).made
branches_fit inside defaulted w rest emp h k e = by (is_separator w) refl e
  where
    by : (b : Bool) → is_separator w ≡ b → (skipped b (place_of nowhere w) (checked inside.width (slot.Branch defaulted) (place_of nowhere w) (bare (slot.Branch defaulted) inside w)) rest).faults ≡ []
        → AreBranches defaulted (skipped b (place_of nowhere w) (checked inside.width (slot.Branch defaulted) (place_of nowhere w) (bare (slot.Branch defaulted) inside w)) rest).made
    by true sep e = subst (λ d. AreBranches d rest.made) (unturned defaulted w sep) (k e)
    by false sep e =
        let first : Shaped Plan = checked inside.width (slot.Branch defaulted) (place_of nowhere w) (bare (slot.Branch defaulted) inside w) in
        let f = none_in first.faults rest.faults e in
        let kind : is_default_plan first.made ≡ is_written_default w = checked_kind inside.width defaulted (place_of nowhere w) (bare (slot.Branch defaulted) inside w) (is_written_default w) (λ g. branch_kind inside defaulted w sep emp g) f.0 in
        (h sep f.0, subst (λ d. AreBranches d rest.made) (turned defaulted w sep ∙ ap (λ d. defaulted || d) (sym kind)) (k f.1))
