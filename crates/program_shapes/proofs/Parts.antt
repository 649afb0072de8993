-- The parts of a source, without those inside them.
use Rattle.std.proofs.Common.{◌≡◌, ℕ, zero, suc, ◌≤◌, Bool, true, false, List, [], ◌∷◌, ◌++◌, Option, Some, None, refl, sym, subst, arith}
use Rattle.std.specs.Prelude.{nat_le, nat_eq, not, ◌&&◌, if◌then◌else◌}
use Rattle.std.specs.Option.{IfSome}
use Rattle.std.proofs.lemmas.Grind.{common_steps}
use Rattle.iasl_messages.specs.declared.place.Place.{Place}
use Rattle.acpi_state.specs.Outcomes.{choose}
use Rattle.iasl_messages.specs.declared.message.Message.{Message}
use Rattle.acpi_values.specs.Integers.{wrapped}
use Rattle.acpi_values.specs.declared.width.Width.TheVariants.{W64}
use Rattle.acpi_values.specs.declared.operator.Plain.{Plain}
use Rattle.acpi_values.specs.declared.operator.DataOp.{DataOp}
use Rattle.acpi_values.specs.declared.operator.EventOp.{EventOp}
use Rattle.asl_tree.specs.declared.path.Path.{Path}
use Rattle.asl_tree.specs.declared.term.Op.{Op}
use Rattle.asl_tree.specs.declared.term.Control.{Control}
use Rattle.asl_tree.specs.declared.term.Declaration.{Declaration}
use Rattle.asl_tree.specs.declared.term.Special.TheVariants as Special
use Rattle.asl_tree.specs.declared.term.Symbolic.{Symbolic}
use Rattle.asl_tree.specs.declared.term.Compound.{Compound}
use Rattle.asl_tree.specs.Tree.{At, Tree, Integer, String, Omitted, Fill, Package, VarPackage, Trees, no_trees, tree, count}
use Rattle.asl_tree.specs.View.{form, counted}
use Rattle.aml_code.specs.Fronts.{IsUsedName}
use Rattle.aml_sessions.specs.Ready.{is_expression, IsText}
use Rattle.resource_layout.specs.declared.descriptor.Descriptor.{Descriptor}
use Rattle.named_sessions.specs.Shaped.{IsNumber, IsCaseMember, AreCaseMembers}
use Rattle.asl_words.specs.declared.operator.Slot.{Slot}
use Rattle.asl_words.specs.declared.operator.Slot.TheVariants as slot
use Rattle.asl_words.specs.declared.operator.StringForm.{StringForm}
use Rattle.asl_words.specs.declared.operator.StringForm.TheVariants as texts
use Rattle.asl_words.specs.declared.operator.TextMacro.{TextMacro}
use Rattle.asl_words.specs.declared.operator.Role.{Role}
use Rattle.asl_words.specs.declared.operator.Role.TheVariants as role
use Rattle.asl_words.specs.declared.operator.Known.{Known}
use Rattle.asl_words.specs.declared.operator.Known.TheVariants as known
use Rattle.word_meanings.specs.declared.meaning.Meaning.{Meaning}
use Rattle.word_meanings.specs.declared.meaning.Meaning.TheVariants as is
use Rattle.word_meanings.specs.declared.meaning.Reading.TheVariants as read
use Rattle.asl_words.specs.declared.operator.FieldWord.{FieldWord}
use Rattle.asl_words.specs.Paths.{path_of}
use Rattle.asl_words.specs.Operators.{parameters_of, parameters_as, constant_size, body_of, body_as, role_of, plain_role, data_role, event_role, optional, place, target, expression}
use Rattle.asl_syntax.specs.Written.{Writtens}
use Rattle.acpi_values.specs.declared.width.Width.{Width}
use Rattle.term_plans.specs.Plans.{Plan, an_integer, a_text, a_form, Plans, no_plans, how_many}
use Rattle.asl_terms.specs.Terms.{Shaped, fine, refused, unformed, format_faults, number_shape, text_shape, string_shape, listed_shape}
use Rattle.asl_terms.specs.Terms.{types_shape, are_all_types, known_plan, path_shape, settled, package_settled, arranged}
use Rattle.asl_shape.specs.Shapes.{call_shape, form_shape, symbol_shape, item_shape, read_shape}
use Rattle.word_meanings.specs.Meanings.{takes_role, takes_known, takes_expression, takes_path, takes_segment, is_value, is_place, item_fault, reading_of, name_reading, unless_wrong, may_be, is_unknown, wants_braces, is_same, takes_field_word, takes_macro, takes_resource, unfit, default_before, takes_branch, is_branch_role, is_of_kind, may_stand}
use Rattle.asl_words.specs.Texts.{has_form, is_all_text, is_text_byte}
use Rattle.asl_terms.specs.Terms as shapes
use Rattle.program_shapes.proofs.Fits.{IsThere, Fits, IsAtMost, IsElement, IsAttribute, IsConnected, IsFill, Formed, FormedValues}
use Rattle.program_shapes.proofs.Plains.{plain_made, symbol_made, index_spot, deref_spot, symbol_spot}
use Rattle.program_shapes.proofs.Forms.{one_of, Two, two, two_of, case_buffer_made, case_package_made, IsPackageOf}
use Rattle.program_shapes.proofs.Operators.{SettledFit, BodyFit, Made, form_made}
use Rattle.program_shapes.proofs.Words.{IsSpelled, IsRightKnown, IsRightMeaning, both_true}
use Rattle.asl_numbers.specs.Numbers.{numbered, numbered_all}
use Rattle.program_shapes.proofs.Plans.{PlanAs, PlansAs, PlansFit, ArgumentsFit, none_missing, integer_as, text_as, local_as, arg_as, debug_as, name_as, call_as, form_as, count_as, fits_as}
use Rattle.program_shapes.proofs.Branches.{IsBranchBehind, ContentsFit, cases_arranged}
use Rattle.program_shapes.proofs.Settled.{settled_fit, package_fit}
use Rattle.program_shapes.proofs.Evaluated.{IsLooseMember, IsLooseValue, Loosely}
use Rattle.program_shapes.proofs.Macros.{macro_fit}

pub none_in : (a b : List Message) → a ++ b ≡ [] → (a ≡ []) × (b ≡ [])
none_in [] b e = (refl, e)
none_in (m ∷ ms) b e = absurd cc

-- a part that is refused, or is good
pub good_of : (P : Plan → Type 0) (t : Bool) (number : ℕ) (at : Place) (shape : Shaped Plan) → (t ≡ true → shape.faults ≡ [] → P shape.made) → (if t then shape else refused number at).faults ≡ []
    → P (if t then shape else refused number at).made
good_of P true number at shape h e = h refl e
good_of P false number at shape h e = absurd cc

-- ---- leaves

pub number_fit : (s : Slot) (at : Place) (n : ℕ) → (number_shape s at n).faults ≡ [] → Loosely s (number_shape s at n).made
number_fit slot.Expression at n e = integer_as (Fits slot.Expression) (wrapped W64 n) (refl, tt)
number_fit (slot.Constant least most) at n e = integer_as (Fits slot.Expression) (wrapped W64 n) (refl, tt)
number_fit slot.Measure at n e = integer_as (Fits slot.Expression) (wrapped W64 n) (refl, tt)
number_fit slot.Element at n e = integer_as (Fits slot.Expression) (wrapped W64 n) (refl, tt)
number_fit slot.CaseValue at n e = tt
number_fit slot.CaseMember at n e = tt
number_fit _ at n e = absurd cc

text_byte : (b : ℕ) → is_text_byte b ≡ true → nat_eq b 0 ≡ false
text_byte zero e = absurd cc
text_byte (suc b) e = grind (arith, common_steps)

all_text : (bytes : List ℕ) → is_all_text bytes ≡ true → IsText bytes
all_text [] e = tt
all_text (b ∷ bytes) e = let p = both_true (is_text_byte b) (is_all_text bytes) e in (text_byte b p.0, all_text bytes p.1)

pub string_fit : (P : Tree → Type 0) (f : StringForm) (at : Place) (bytes : List ℕ) → (IsText bytes → P (String bytes)) → (string_shape f at bytes).faults ≡ [] → PlanAs P (string_shape f at bytes).made
string_fit P f at bytes h e =
    good_of (PlanAs P) (has_form f bytes && is_all_text bytes) (unformed f) at (fine (a_text bytes)) (λ t f. text_as P bytes (h (all_text bytes (both_true (has_form _ bytes) (is_all_text bytes) t).1))) e

compared_text : (P : Plan → Type 0) (at : Place) (bytes : List ℕ) → (IsText bytes → P (a_text bytes)) → (string_shape texts.Any at bytes).faults ≡ [] → P (string_shape texts.Any at bytes).made
compared_text P at bytes h e = good_of P (has_form texts.Any bytes && is_all_text bytes) 6024 at (fine (a_text bytes)) (λ t f. h (all_text bytes (both_true (has_form texts.Any bytes) (is_all_text bytes) t).1)) e

pub text_fit : (s : Slot) (at : Place) (bytes : List ℕ) → (text_shape s at bytes).faults ≡ [] → Loosely s (text_shape s at bytes).made
text_fit slot.Expression at bytes e = string_fit (Fits slot.Expression) texts.Any at bytes (λ h. (refl, h)) e
text_fit slot.Element at bytes e = string_fit (Fits slot.Expression) texts.Any at bytes (λ h. (refl, h)) e
text_fit slot.CaseValue at bytes e = compared_text IsLooseValue at bytes (λ h. h) e
text_fit slot.CaseMember at bytes e = compared_text IsLooseMember at bytes (λ h. h) e
text_fit (slot.String f) at bytes e = string_fit (Fits (slot.String f)) f at bytes (λ h. h) e
text_fit (slot.MacroText m) at bytes e = macro_fit m at bytes e
text_fit _ at bytes e = absurd cc

pub listed_fit : (s : Slot) (at : Place) (ws : Writtens) → (listed_shape s at ws).faults ≡ [] → Loosely s (listed_shape s at ws).made
listed_fit (slot.Types most) at ws e =
    good_of (PlanAs IsNumber) (are_all_types ws) 6022 at (if nat_le (shapes.count ws) most then fine (an_integer (shapes.count ws)) else refused 6024 at)
    (λ t f. good_of (PlanAs IsNumber) (nat_le (shapes.count ws) most) 6024 at (fine (an_integer (shapes.count ws))) (λ t f. integer_as IsNumber (shapes.count ws) tt) f) e
listed_fit _ at ws e = absurd cc

-- ---- names and words

pub path_fit : (s : Slot) (at : Place) (o : Option Path) → IfSome o IsUsedName → takes_segment s ≡ true → (path_shape at o).faults ≡ [] → Loosely s (path_shape at o).made
path_fit s at None h t e = absurd cc
path_fit slot.Expression at (Some path) h t e = name_as (Fits slot.Expression) path (λ at. (refl, h))
path_fit (slot.Constant least most) at (Some path) h t e = name_as (Fits slot.Expression) path (λ at. (refl, h))
path_fit slot.Measure at (Some path) h t e = name_as (Fits slot.Expression) path (λ at. (refl, h))
path_fit slot.Element at (Some path) h t e = name_as (Fits slot.Expression) path (λ at. (refl, h))
path_fit slot.CaseValue at (Some path) h t e = tt
path_fit slot.CaseMember at (Some path) h t e = tt
path_fit slot.Effect at (Some path) h t e = name_as (Fits slot.Effect) path (λ at. (refl, h))
path_fit slot.Place at (Some path) h t e = name_as (Fits slot.Place) path (λ at. (h, refl))
path_fit slot.Named at (Some path) h t e = name_as (Fits slot.Named) path (λ at. (h, refl))
path_fit slot.Declared at (Some path) h t e = name_as (Fits slot.Declared) path (λ at. h.is_name)
path_fit slot.External at (Some path) h t e = name_as (Fits slot.External) path (λ at. h.is_name)
path_fit slot.Used at (Some path) h t e = name_as (Fits slot.Used) path (λ at. h)
path_fit slot.FieldElement at (Some path) h t e = name_as (Fits slot.FieldElement) path (λ at. h)
path_fit slot.Connected at (Some path) h t e = name_as (Fits slot.Connected) path (λ at. h)
path_fit slot.DescriptorName at (Some path) h t e = name_as (Fits slot.DescriptorName) path (λ at. h)
path_fit (slot.Term run) at (Some path) h t e = name_as Formed path (λ at. h)
path_fit _ at (Some path) h t e = absurd cc

pub call_fit : (s : Slot) (at : Place) (o : Option Path) (args : Shaped Plans) → IfSome o IsUsedName → takes_expression s ≡ true → (args.faults ≡ [] → PlansAs FormedValues args.made) → (call_shape at o args).faults ≡ []
    → Loosely s (call_shape at o args).made
call_fit s at None args h t k e = absurd cc
call_fit slot.Expression at (Some path) args h t k e = call_as (Fits slot.Expression) path args.made (λ at m. (refl, (h, k e m)))
call_fit (slot.Constant least most) at (Some path) args h t k e = call_as (Fits slot.Expression) path args.made (λ at m. (refl, (h, k e m)))
call_fit slot.Measure at (Some path) args h t k e = call_as (Fits slot.Expression) path args.made (λ at m. (refl, (h, k e m)))
call_fit slot.Element at (Some path) args h t k e = call_as (Fits slot.Expression) path args.made (λ at m. (refl, (h, k e m)))
call_fit slot.CaseValue at (Some path) args h t k e = tt
call_fit slot.CaseMember at (Some path) args h t k e = tt
call_fit slot.Effect at (Some path) args h t k e = call_as (Fits slot.Effect) path args.made (λ at m. (refl, (h, k e m)))
call_fit (slot.Term run) at (Some path) args h t k e = call_as Formed path args.made (λ at m. (h, k e m))
call_fit _ at (Some path) args h t k e = absurd cc

pub known_fit : (s : Slot) (k : Known) → IsRightKnown k → takes_known s k ≡ true → Loosely s (known_plan s k)
known_fit (slot.Word asked) (known.Word kind n) h t = integer_as (IsAtMost 255) n h
known_fit (slot.WordBelow asked limit) (known.Word kind n) h t = integer_as (IsAtMost 255) n h
known_fit (slot.Types most) (known.Word kind n) h t = integer_as IsNumber 1 tt
known_fit _ (known.Word kind n) h t = absurd cc
known_fit slot.Expression (known.Local i) h t = local_as (Fits slot.Expression) i (refl, h)
known_fit (slot.Constant least most) (known.Local i) h t = local_as (Fits slot.Expression) i (refl, h)
known_fit slot.Measure (known.Local i) h t = local_as (Fits slot.Expression) i (refl, h)
known_fit slot.Element (known.Local i) h t = local_as (Fits slot.Expression) i (refl, h)
known_fit slot.CaseValue (known.Local i) h t = tt
known_fit slot.CaseMember (known.Local i) h t = tt
known_fit slot.Effect (known.Local i) h t = local_as (Fits slot.Effect) i (refl, h)
known_fit slot.Place (known.Local i) h t = local_as (Fits slot.Place) i (h, refl)
known_fit slot.Named (known.Local i) h t = local_as (Fits slot.Named) i (h, refl)
known_fit (slot.Term run) (known.Local i) h t = local_as Formed i h
known_fit _ (known.Local i) h t = absurd cc
known_fit slot.Expression (known.Arg i) h t = arg_as (Fits slot.Expression) i (refl, h)
known_fit (slot.Constant least most) (known.Arg i) h t = arg_as (Fits slot.Expression) i (refl, h)
known_fit slot.Measure (known.Arg i) h t = arg_as (Fits slot.Expression) i (refl, h)
known_fit slot.Element (known.Arg i) h t = arg_as (Fits slot.Expression) i (refl, h)
known_fit slot.CaseValue (known.Arg i) h t = tt
known_fit slot.CaseMember (known.Arg i) h t = tt
known_fit slot.Effect (known.Arg i) h t = arg_as (Fits slot.Effect) i (refl, h)
known_fit slot.Place (known.Arg i) h t = arg_as (Fits slot.Place) i (h, refl)
known_fit slot.Named (known.Arg i) h t = arg_as (Fits slot.Named) i (h, refl)
known_fit (slot.Term run) (known.Arg i) h t = arg_as Formed i h
known_fit _ (known.Arg i) h t = absurd cc
known_fit slot.Expression known.Debug h t = debug_as (Fits slot.Expression) (refl, tt)
known_fit (slot.Constant least most) known.Debug h t = debug_as (Fits slot.Expression) (refl, tt)
known_fit slot.Measure known.Debug h t = debug_as (Fits slot.Expression) (refl, tt)
known_fit slot.Element known.Debug h t = debug_as (Fits slot.Expression) (refl, tt)
known_fit slot.CaseValue known.Debug h t = tt
known_fit slot.CaseMember known.Debug h t = tt
known_fit slot.Effect known.Debug h t = debug_as (Fits slot.Effect) (refl, tt)
known_fit slot.Place known.Debug h t = debug_as (Fits slot.Place) (tt, refl)
known_fit (slot.Term run) known.Debug h t = debug_as Formed tt
known_fit _ known.Debug h t = absurd cc
known_fit _ known.LeftOut h t = absurd cc
known_fit _ (known.Element w) h t = absurd cc
known_fit _ (known.Macro m) h t = absurd cc
known_fit _ known.Template h t = absurd cc
known_fit _ (known.Descriptor d) h t = absurd cc

-- ---- forms

-- what an operator's role says of its tree
pub record OpFits (op : Op) (t : Tree) : Type 0 where
  pub value : is_value (role_of op) ≡ true → is_expression t ≡ true
  pub spot : is_place (role_of op) ≡ true → IsThere t
  pub shaped : Made op t

event_spot : (op : EventOp) → is_place (event_role op) ≡ true → ⊥
event_spot EventOp.Acquire e = absurd cc
event_spot EventOp.Wait e = absurd cc
event_spot EventOp.Timer e = absurd cc
event_spot EventOp.Revision e = absurd cc
event_spot _ e = absurd cc

declaration_spot : (op : Declaration) → is_place (role_of (Op.Declaration op)) ≡ true → ⊥
declaration_spot Declaration.Method e = absurd cc
declaration_spot _ e = absurd cc

control_spot : (op : Control) → is_place (role_of (Op.Control op)) ≡ true → ⊥
control_spot Control.Return e = absurd cc
control_spot _ e = absurd cc

declaration_value : (op : Declaration) → is_value (role_of (Op.Declaration op)) ≡ true → ⊥
declaration_value Declaration.Method e = absurd cc
declaration_value _ e = absurd cc

control_value : (op : Control) → is_value (role_of (Op.Control op)) ≡ true → ⊥
control_value Control.Return e = absurd cc
control_value _ e = absurd cc

spot_made : (at : At) (op : Op) (ts body : Trees) → IsSpelled op → SettledFit op ts → BodyFit (body_of op) body → is_place (role_of op) ≡ true → IsThere (form at op ts body)
unfolding parameters_of
spot_made at (Op.Plain (Plain.Data DataOp.Index)) ts body i h b e = subst (λ body. IsThere (form at (Op.Plain (Plain.Data DataOp.Index)) ts body)) (sym b) (index_spot ts h)
spot_made at (Op.Plain (Plain.Data DataOp.DerefOf)) ts body i h b e = subst (λ body. IsThere (form at (Op.Plain (Plain.Data DataOp.DerefOf)) ts body)) (sym b) (deref_spot ts h)
spot_made at (Op.Plain (Plain.Event op)) ts body i h b e = absurd (event_spot op e)
spot_made at (Op.Plain (Plain.Number op)) ts body i h b e = absurd cc
spot_made at (Op.Symbolic (Symbolic.Operator (Plain.Data DataOp.Index))) ts body i h b e = subst (λ body. IsThere (form at (Op.Symbolic (Symbolic.Operator (Plain.Data DataOp.Index))) ts body)) (sym b) (symbol_spot ts h)
spot_made at (Op.Symbolic (Symbolic.Operator (Plain.Data DataOp.DerefOf))) ts body i h b e = absurd i
spot_made at (Op.Symbolic (Symbolic.Operator (Plain.Event op))) ts body i h b e = absurd (event_spot op e)
spot_made at (Op.Symbolic (Symbolic.Operator (Plain.Number op))) ts body i h b e = absurd cc
spot_made at (Op.Declaration op) ts body i h b e = absurd (declaration_spot op e)
spot_made at (Op.Control op) ts body i h b e = absurd (control_spot op e)
spot_made at _ ts body i h b e = absurd cc

buffer_value : (at : At) (ts body : Trees) → Formed (form at (Op.Special Special.Buffer) ts body) → is_expression (form at (Op.Special Special.Buffer) ts body) ≡ true
buffer_value at no_trees body h = absurd h
buffer_value at (tree Omitted no_trees) body h = refl
buffer_value at (tree _ no_trees) body h = refl
buffer_value at (tree t (tree u us)) body h = absurd h

counted_value : (n : ℕ) (bs : Trees) → is_expression (counted n bs) ≡ true
counted_value n bs = by (nat_le n 255)
  where
    by : (b : Bool) → is_expression (if b then Package n bs else VarPackage (Integer n) bs) ≡ true
    by true = refl
    by false = refl

package_value : (at : At) (ts body : Trees) → Formed (form at (Op.Special Special.Package) ts body) → is_expression (form at (Op.Special Special.Package) ts body) ≡ true
package_value at no_trees body h = absurd h
package_value at (tree Omitted no_trees) body h = counted_value (count body) body
package_value at (tree (Integer n) no_trees) body h = counted_value n body
package_value at (tree _ no_trees) body h = refl
package_value at (tree t (tree u us)) body h = absurd h

condition_value : (at : At) (ts : Trees) → Two place target ts → is_expression (form at (Op.Special Special.CondRefOf) ts no_trees) ≡ true
condition_value at _ (two t u h i) = refl

literal_value : (at : At) (l : _) (ts body : Trees) → Formed (form at (Op.Literal l) ts body) → is_expression (form at (Op.Literal l) ts body) ≡ true
literal_value at l no_trees no_trees h = refl
literal_value at l no_trees (tree t ts) h = absurd h
literal_value at l (tree t ts) bs h = absurd h

assign_value : (at : At) (ts : Trees) → Two place expression ts → is_expression (form at (Op.Symbolic Symbolic.Assign) ts no_trees) ≡ true
assign_value at _ (two t u h i) = refl

assign_by_value : (at : At) (op : Compound) (ts : Trees) → Two place expression ts → is_expression (form at (Op.Symbolic (Symbolic.AssignBy op)) ts no_trees) ≡ true
assign_by_value at op _ (two t u h i) = refl

value_made : (at : At) (op : Op) (ts body : Trees) → IsSpelled op → SettledFit op ts → BodyFit (body_of op) body → is_value (role_of op) ≡ true → is_expression (form at op ts body) ≡ true
unfolding parameters_of
value_made at (Op.Plain op) ts body i h b e = subst (λ body. is_expression (form at (Op.Plain op) ts body) ≡ true) (sym b) (plain_made op ts h).0
value_made at (Op.Literal l) ts body i h b e = literal_value at l ts body (form_made at (Op.Literal l) ts body i h b)
value_made at (Op.Special Special.CondRefOf) ts body i h b e = subst (λ body. is_expression (form at (Op.Special Special.CondRefOf) ts body) ≡ true) (sym b) (condition_value at ts (two_of place target ts h))
value_made at (Op.Special Special.Buffer) ts body i h b e = buffer_value at ts body (form_made at (Op.Special Special.Buffer) ts body i h b)
value_made at (Op.Special Special.Package) ts body i h b e = package_value at ts body (form_made at (Op.Special Special.Package) ts body i h b)
value_made at (Op.Symbolic (Symbolic.Operator op)) ts body i h b e = subst (λ body. is_expression (form at (Op.Symbolic (Symbolic.Operator op)) ts body) ≡ true) (sym b) (symbol_made op ts h).0
value_made at (Op.Symbolic Symbolic.Assign) ts body i h b e = subst (λ body. is_expression (form at (Op.Symbolic Symbolic.Assign) ts body) ≡ true) (sym b) (assign_value at ts (two_of place expression ts h))
value_made at (Op.Symbolic (Symbolic.AssignBy op)) ts body i h b e =
    subst (λ body. is_expression (form at (Op.Symbolic (Symbolic.AssignBy op)) ts body) ≡ true) (sym b) (assign_by_value at op ts (two_of place expression ts h))
value_made at (Op.Declaration op) ts body i h b e = absurd (declaration_value op e)
value_made at (Op.Control op) ts body i h b e = absurd (control_value op e)

pub form_fit : (width : Width) (op : Op) (at : Place) (gs bs : Shaped Plans) → IsSpelled op → (gs.faults ≡ [] → ArgumentsFit (parameters_of op) gs.made) → (bs.faults ≡ [] → PlansAs (BodyFit (body_of op)) (arranged op bs.made)) → (form_shape width op at gs bs).faults ≡ []
    → PlanAs (OpFits op) (form_shape width op at gs bs).made
form_fit width op at gs bs i h k e =
    let rest = none_in (gs.faults ++ format_faults op at gs.made) bs.faults e in
    let first = none_in gs.faults (format_faults op at gs.made) rest.0 in
    form_as (OpFits op) op (settled width op at gs.made) (arranged op bs.made)
    (λ here m n. made here (numbered_all m (settled width op at gs.made)) (numbered_all n (arranged op bs.made)) (settled_fit width op at gs.made first.1 (h first.0) m) (k rest.1 n))
  where
    made : (here : At) (ts body : Trees) → SettledFit op ts → BodyFit (body_of op) body → OpFits op (form here op ts body)
    made here ts body a b = record { value = value_made here op ts body i a b; spot = spot_made here op ts body i a b; shaped = form_made here op ts body i a b }

-- what stands for no branch of a Switch is formed
formed_of : (op : Op) (t : Tree) → is_branch_role (role_of op) ≡ false → Made op t → Formed t
formed_of (Op.Control Control.Case) t e h = absurd cc
formed_of (Op.Control Control.Default) t e h = absurd cc
formed_of (Op.Control _) t e h = h
formed_of _ t e h = h

value_role : (r : Role) → is_value r ≡ true → is_branch_role r ≡ false
value_role role.Expression e = refl
value_role role.Place e = refl
value_role _ e = absurd cc

value_fit : (op : Op) (t : Tree) → is_value (role_of op) ≡ true → OpFits op t → Fits slot.Expression t
value_fit op t e h = (h.value e, formed_of op t (value_role (role_of op) e) h.shaped)

-- where a form is read as what a Case compares with
abbrev is_compared : Slot → Bool
is_compared slot.CaseValue = true
is_compared slot.CaseMember = true
is_compared _ = false

role_fit : (s : Slot) (op : Op) → is_compared s ≡ false → takes_branch s ≡ false → is_branch_role (role_of op) ≡ false → takes_role s (role_of op) ≡ true → (p : Plan) → PlanAs (OpFits op) p → Loosely s p
role_fit slot.Expression op c b r e p h = λ at n. value_fit op (numbered at n p) e (h at n)
role_fit (slot.Constant least most) op c b r e p h = λ at n. value_fit op (numbered at n p) e (h at n)
role_fit slot.Measure op c b r e p h = λ at n. value_fit op (numbered at n p) e (h at n)
role_fit slot.Element op c b r e p h = λ at n. value_fit op (numbered at n p) e (h at n)
role_fit slot.Effect op c b r e p h = λ at n. value_fit op (numbered at n p) e (h at n)
role_fit slot.Place op c b r e p h = λ at n. (h at n).spot e
role_fit (slot.Term run) op c b r e p h = λ at n. formed_of op (numbered at n p) r (h at n).shaped
role_fit _ op c b r e p h = absurd cc

-- ---- forms that a Case compares with

-- anywhere else their arguments and their braces are as ever
parameters_same : (op : Op) (s : Slot) → is_compared s ≡ false → parameters_as op s ≡ parameters_of op
parameters_same (Op.Special Special.Buffer) slot.CaseValue e = absurd cc
parameters_same (Op.Special Special.Buffer) slot.CaseMember e = absurd cc
parameters_same (Op.Special Special.Buffer) _ e = refl
parameters_same (Op.Special Special.Package) slot.CaseValue e = absurd cc
parameters_same (Op.Special Special.Package) _ e = refl
parameters_same _ s e = refl

body_same : (op : Op) (s : Slot) → is_compared s ≡ false → body_as op s ≡ body_of op
body_same (Op.Special Special.Package) slot.CaseValue e = absurd cc
body_same (Op.Special Special.Package) _ e = refl
body_same _ s e = refl

buffer_form : (width : Width) (at : Place) (ps bs : Plans) → PlansFit constant_size ps → PlanAs IsCaseMember (a_form (Op.Special Special.Buffer) (settled width (Op.Special Special.Buffer) at ps) bs)
buffer_form width at ps bs h =
    form_as IsCaseMember (Op.Special Special.Buffer) ps bs (λ here m n. case_buffer_made here (numbered_all m ps) (numbered_all n bs) (one_of (optional slot.Measure) (numbered_all m ps) (fits_as constant_size ps h m)))

package_form : (width : Width) (at : Place) (ps bs : Plans) → PlansFit constant_size ps → PlansAs AreCaseMembers bs → PlanAs (IsPackageOf (how_many bs)) (a_form (Op.Special Special.Package) (settled width (Op.Special Special.Package) at ps) bs)
package_form width at ps bs h k =
    form_as (IsPackageOf (how_many bs)) (Op.Special Special.Package) (package_settled width at ps) bs
    (λ here m n. subst (λ many. IsPackageOf many (form here (Op.Special Special.Package) (numbered_all m (package_settled width at ps)) (numbered_all n bs))) (count_as bs n)
    (case_package_made here (numbered_all m (package_settled width at ps)) (numbered_all n bs) (one_of (optional slot.Measure) (numbered_all m (package_settled width at ps)) (package_fit slot.Measure few width at ps h m)) (k n)))
  where
    few : (n : ℕ) → n ≤ 255 → Fits slot.Measure (Integer n)
    few n le = omega (arith, le)

-- any other form has to be a constant
value_form : (op : Op) (width : Width) (at : Place) (gs bs : Shaped Plans) → (gs.faults ≡ [] → ArgumentsFit (parameters_as op slot.CaseValue) gs.made) → (bs.faults ≡ [] → ContentsFit (body_as op slot.CaseValue) bs.made)
    → (form_shape width op at gs bs).faults ≡ [] → IsLooseValue (form_shape width op at gs bs).made
value_form (Op.Special Special.Buffer) width at gs bs h k e = buffer_form width at gs.made bs.made (none_missing constant_size gs.made refl (h (none_in gs.faults [] (none_in (gs.faults ++ []) bs.faults e).0).0))
value_form (Op.Special Special.Package) width at gs bs h k e = package_form width at gs.made bs.made (none_missing constant_size gs.made refl (h (none_in gs.faults [] (none_in (gs.faults ++ []) bs.faults e).0).0)) (k (none_in (gs.faults ++ []) bs.faults e).1)
value_form _ width at gs bs h k e = tt

member_form : (op : Op) (width : Width) (at : Place) (gs bs : Shaped Plans) → (gs.faults ≡ [] → ArgumentsFit (parameters_as op slot.CaseMember) gs.made) → (form_shape width op at gs bs).faults ≡ [] → IsLooseMember (form_shape width op at gs bs).made
member_form (Op.Special Special.Buffer) width at gs bs h e = buffer_form width at gs.made bs.made (none_missing constant_size gs.made refl (h (none_in gs.faults [] (none_in (gs.faults ++ []) bs.faults e).0).0))
member_form _ width at gs bs h e = tt

-- ---- forms in the braces of a Switch

data_branch : (op : DataOp) → is_branch_role (data_role op) ≡ true → ⊥
data_branch DataOp.Index e = absurd cc
data_branch _ e = absurd cc

event_branch : (op : EventOp) → is_branch_role (event_role op) ≡ true → ⊥
event_branch EventOp.Acquire e = absurd cc
event_branch _ e = absurd cc

plain_branch : (op : Plain) → is_branch_role (plain_role op) ≡ true → ⊥
plain_branch (Plain.Number op) e = absurd cc
plain_branch (Plain.Data op) e = data_branch op e
plain_branch (Plain.Event op) e = event_branch op e

declaration_branch : (op : Declaration) → is_branch_role (role_of (Op.Declaration op)) ≡ true → ⊥
declaration_branch Declaration.Method e = absurd cc
declaration_branch _ e = absurd cc

symbol_branch : (op : Symbolic) → is_branch_role (role_of (Op.Symbolic op)) ≡ true → ⊥
symbol_branch (Symbolic.Operator op) e = plain_branch op e
symbol_branch _ e = absurd cc

-- a Default stands behind no other
branch_form : (defaulted inside : Bool) (op : Op) → may_stand (slot.Branch defaulted) inside (role_of op) ≡ true → is_branch_role (role_of op) ≡ true → (args body : Plans) → PlanAs (OpFits op) (a_form op args body) → IsBranchBehind defaulted (a_form op args body)
branch_form defaulted inside (Op.Control Control.Case) m e args body h = ((λ at n. (h at n).shaped), (λ never. absurd cc))
branch_form defaulted inside (Op.Control Control.Default) m e args body h = ((λ at n. (h at n).shaped), (λ same. no_default defaulted m))
  where
    no_default : (b : Bool) → not b ≡ true → b ≡ false
    no_default true e = absurd cc
    no_default false e = refl
branch_form defaulted inside (Op.Control _) m e args body h = absurd cc
branch_form defaulted inside (Op.Plain op) m e args body h = absurd (plain_branch op e)
branch_form defaulted inside (Op.Literal l) m e args body h = absurd cc
branch_form defaulted inside (Op.Special op) m e args body h = absurd cc
branch_form defaulted inside (Op.Symbolic op) m e args body h = absurd (symbol_branch op e)
branch_form defaulted inside (Op.Declaration op) m e args body h = absurd (declaration_branch op e)

-- ---- a form where it stands

not_both : (b : Bool) → b ≡ false → b ≡ true → ⊥
not_both true e f = absurd cc
not_both false e f = absurd cc

-- a Case and a Default stand in a Switch alone
no_branch : (s : Slot) (inside : Bool) (r : Role) → takes_branch s ≡ false → may_stand s inside r ≡ true → is_branch_role r ≡ false
no_branch s inside role.Case b m = absurd (not_both (takes_branch s) b m)
no_branch s inside role.Default b m = absurd (by (default_before s) b m)
  where
    by : (o : Option Bool) → choose o false (λ defaulted. true) ≡ false → choose o false not ≡ true → ⊥
    by None b m = absurd cc
    by (Some defaulted) b m = absurd cc
no_branch s inside _ b m = refl

-- what stands in the braces of a form as they are ever read
body_arranged : (op : Op) (ps : Plans) → ContentsFit (body_of op) ps → PlansAs (BodyFit (body_of op)) (arranged op ps)
body_arranged (Op.Control Control.Switch) ps h = cases_arranged ps h
body_arranged (Op.Control _) ps h = h
body_arranged (Op.Special Special.Buffer) ps h = h
body_arranged (Op.Special _) ps h = h
body_arranged (Op.Declaration Declaration.Method) ps h = h
body_arranged (Op.Declaration _) ps h = h
body_arranged _ ps h = h

usual_form : (s : Slot) (width : Width) (op : Op) (at : Place) (gs bs : Shaped Plans) → is_compared s ≡ false → IsSpelled op → (gs.faults ≡ [] → ArgumentsFit (parameters_as op s) gs.made) → (bs.faults ≡ [] → ContentsFit (body_as op s) bs.made)
    → (form_shape width op at gs bs).faults ≡ [] → PlanAs (OpFits op) (form_shape width op at gs bs).made
usual_form s width op at gs bs c i h k e =
    form_fit width op at gs bs i (λ f. subst (λ qs. ArgumentsFit qs gs.made) (parameters_same op s c) (h f)) (λ f. body_arranged op bs.made (subst (λ b. ContentsFit b bs.made) (body_same op s c) (k f))) e

pub form_in : (s : Slot) (inside : Bool) (width : Width) (op : Op) (at : Place) (gs bs : Shaped Plans) → IsSpelled op → may_be s inside (is.Operator op) ≡ true → takes_role s (role_of op) ≡ true
    → (gs.faults ≡ [] → ArgumentsFit (parameters_as op s) gs.made) → (bs.faults ≡ [] → ContentsFit (body_as op s) bs.made) → (form_shape width op at gs bs).faults ≡ [] → Loosely s (form_shape width op at gs bs).made
form_in slot.CaseValue inside width op at gs bs i m t h k e = value_form op width at gs bs h k e
form_in slot.CaseMember inside width op at gs bs i m t h k e = member_form op width at gs bs h e
form_in (slot.Branch defaulted) inside width op at gs bs i m t h k e =
    branch_form defaulted inside op (both_true (is_of_kind (slot.Branch defaulted) (is.Operator op)) (may_stand (slot.Branch defaulted) inside (role_of op)) m).1 t (settled width op at gs.made) (arranged op bs.made)
    (usual_form (slot.Branch defaulted) width op at gs bs refl i h k e)
form_in s inside width op at gs bs i m t h k e =
    role_fit s op refl refl (no_branch s inside (role_of op) refl (both_true (is_of_kind s (is.Operator op)) (may_stand s inside (role_of op)) m).1) t (form_shape width op at gs bs).made (usual_form s width op at gs bs refl i h k e)

abbrev pub IsSymbolic : Op → Type 0
IsSymbolic (Op.Symbolic symbol) = Unit {0}
IsSymbolic _ = ⊥

symbol_in : (s : Slot) (op : Op) → IsSymbolic op → is_branch_role (role_of op) ≡ false → takes_role s (role_of op) ≡ true → (args body : Plans) → PlanAs (OpFits op) (a_form op args body) → Loosely s (a_form op args body)
symbol_in slot.CaseValue (Op.Symbolic symbol) i r e args body h = tt
symbol_in slot.CaseValue _ i r e args body h = absurd i
symbol_in slot.CaseMember (Op.Symbolic symbol) i r e args body h = tt
symbol_in slot.CaseMember _ i r e args body h = absurd i
symbol_in (slot.Branch defaulted) op i r e args body h = absurd (not_both (is_branch_role (role_of op)) r e)
symbol_in s op i r e args body h = role_fit s op refl refl r e (a_form op args body) h

-- what is written with a symbol, where it stands
pub symbol_fit : (width : Width) (s : Slot) (at : Place) (op : Op) (gs : Shaped Plans) → IsSpelled op → IsSymbolic op → is_branch_role (role_of op) ≡ false → PlansAs (BodyFit (body_of op)) (arranged op no_plans) → (gs.faults ≡ [] → ArgumentsFit (parameters_of op) gs.made)
    → (symbol_shape width s at op gs).faults ≡ [] → Loosely s (symbol_shape width s at op gs).made
symbol_fit width s at op gs i c r b h e = by (takes_role s (role_of op)) refl e
  where
    by : (t : Bool) → takes_role s (role_of op) ≡ t → (if t then form_shape width op at gs (fine no_plans) else refused (unfit s) at).faults ≡ [] → Loosely s (if t then form_shape width op at gs (fine no_plans) else refused (unfit s) at).made
    by true t e = symbol_in s op c r t (settled width op at gs.made) (arranged op no_plans) (form_fit width op at gs (fine no_plans) i h (λ f. b) e)
    by false t e = absurd cc

-- ---- names as they are read

abbrev pub has_call : Meaning → Bool
has_call is.Name = true
has_call is.Path = true
has_call _ = false

-- where a path may stand, a single segment may stand too
segment_path : (s : Slot) → takes_path s ≡ true → takes_segment s ≡ true
segment_path slot.DescriptorName e = refl
segment_path s e = e

named_fit : (s : Slot) (at : Place) (text : List ℕ) (fits called : Bool) → (fits ≡ true → takes_segment s ≡ true) → (calls : Shaped Plans) (element : FieldWord → Shaped Plan) (expanded : TextMacro → Shaped Plan) (template : Shaped Plan) (described : Descriptor → Shaped Plan) (form : Op → Shaped Plan) → IfSome (path_of text) IsUsedName → (calls.faults ≡ [] → PlansAs FormedValues calls.made)
    → (read_shape s at text (name_reading s fits called) calls element expanded template described form).faults ≡ [] → Loosely s (read_shape s at text (name_reading s fits called) calls element expanded template described form).made
named_fit s at text fits true whole calls element expanded template described form path h e = by (takes_expression s) refl e
  where
    by : (b : Bool) → takes_expression s ≡ b → (read_shape s at text (unless_wrong b read.Call) calls element expanded template described form).faults ≡ [] → Loosely s (read_shape s at text (unless_wrong b read.Call) calls element expanded template described form).made
    by true t e = call_fit s at (path_of text) calls path t h e
    by false t e = absurd cc
named_fit s at text fits false whole calls element expanded template described form path h e = by fits refl e
  where
    by : (b : Bool) → fits ≡ b → (read_shape s at text (unless_wrong b read.Path) calls element expanded template described form).faults ≡ [] → Loosely s (read_shape s at text (unless_wrong b read.Path) calls element expanded template described form).made
    by true t e = path_fit s at (path_of text) path (whole t) e
    by false t e = absurd cc

-- ---- an item as it is read

-- what a word of a field's list comes to: an element, or an attribute
abbrev pub WordFits : FieldWord → Tree → Type 0
WordFits FieldWord.AttribBytes t = IsAttribute t
WordFits _ t = IsElement t

-- it stands in the list, or in an access
begun : (s : Slot) (w : FieldWord) (p : Plan) → takes_field_word s w ≡ true → PlanAs (WordFits w) p → Loosely s p
begun slot.WholeElement FieldWord.Offset p e h = h
begun slot.WholeElement FieldWord.AccessAs p e h = h
begun slot.WholeElement FieldWord.Connection p e h = h
begun slot.WholeElement FieldWord.AttribBytes p e h = absurd cc
begun slot.Attribute FieldWord.Offset p e h = absurd cc
begun slot.Attribute FieldWord.AccessAs p e h = absurd cc
begun slot.Attribute FieldWord.Connection p e h = absurd cc
begun slot.Attribute FieldWord.AttribBytes p e h = h
begun _ w p e h = absurd cc

-- a macro or a template stands where an expression does
evaluated_macro : (s : Slot) (p : Plan) → takes_macro s ≡ true → PlanAs (Fits slot.Expression) p → Loosely s p
evaluated_macro slot.Expression p t h = h
evaluated_macro slot.Element p t h = h
evaluated_macro _ p t h = absurd cc

fill_connected : (t : Tree) → IsFill t → IsConnected t
fill_connected (Fill bytes) h = tt
fill_connected _ h = absurd h

-- a descriptor stands in a template, or is what units are connected to
in_template : (s : Slot) (d : Descriptor) (p : Plan) → takes_resource s d ≡ true → PlanAs IsFill p → Loosely s p
in_template (slot.Descriptor chosen) d p t h = h
in_template slot.Connected d p t h = λ at next. fill_connected (numbered at next p) (h at next)
in_template _ d p t h = absurd cc

pub read_fit : (s : Slot) (at : Place) (text : List ℕ) (m : Meaning) (called : Bool) (calls : Shaped Plans) (element : FieldWord → Shaped Plan) (expanded : TextMacro → Shaped Plan) (template : Shaped Plan) (described : Descriptor → Shaped Plan) (form : Op → Shaped Plan) → IsRightMeaning m → IfSome (path_of text) IsUsedName
    → (has_call m ≡ true → calls.faults ≡ [] → PlansAs FormedValues calls.made)
    → ((op : Op) → m ≡ is.Operator op → takes_role s (role_of op) ≡ true → (form op).faults ≡ [] → Loosely s (form op).made)
    → ((w : FieldWord) → m ≡ is.Element w → (element w).faults ≡ [] → PlanAs (WordFits w) (element w).made)
    → ((x : TextMacro) → m ≡ is.Macro x → (expanded x).faults ≡ [] → PlanAs (Fits slot.Expression) (expanded x).made)
    → (m ≡ is.Template → template.faults ≡ [] → PlanAs (Fits slot.Expression) template.made)
    → ((d : Descriptor) → m ≡ is.Descriptor d → (described d).faults ≡ [] → PlanAs IsFill (described d).made)
    → (read_shape s at text (reading_of s m called) calls element expanded template described form).faults ≡ []
    → Loosely s (read_shape s at text (reading_of s m called) calls element expanded template described form).made
read_fit s at text (is.Operator op) called calls element expanded template described form right path h k o g v w e = by (takes_role s (role_of op)) refl e
  where
    by : (b : Bool) → takes_role s (role_of op) ≡ b → (read_shape s at text (unless_wrong b (read.Form op)) calls element expanded template described form).faults ≡ [] → Loosely s (read_shape s at text (unless_wrong b (read.Form op)) calls element expanded template described form).made
    by true t e = k op refl t e
    by false t e = absurd cc
read_fit s at text (is.Known known) called calls element expanded template described form right path h k o g v w e = by (takes_known s known) refl e
  where
    by : (b : Bool) → takes_known s known ≡ b → (read_shape s at text (unless_wrong b (read.Known known)) calls element expanded template described form).faults ≡ [] → Loosely s (read_shape s at text (unless_wrong b (read.Known known)) calls element expanded template described form).made
    by true t e = known_fit s known right t
    by false t e = absurd cc
read_fit s at text is.Name called calls element expanded template described form right path h k o g v w e = named_fit s at text (takes_segment s) called (λ t. t) calls element expanded template described form path (h refl) e
read_fit s at text is.Path called calls element expanded template described form right path h k o g v w e = named_fit s at text (takes_path s) called (segment_path s) calls element expanded template described form path (h refl) e
read_fit s at text (is.Element x) called calls element expanded template described form right path h k o g v w e = by (takes_field_word s x) refl e
  where
    by : (b : Bool) → takes_field_word s x ≡ b → (read_shape s at text (unless_wrong b (read.Element x)) calls element expanded template described form).faults ≡ []
        → Loosely s (read_shape s at text (unless_wrong b (read.Element x)) calls element expanded template described form).made
    by true t e = begun s x (element x).made t (o x refl e)
    by false t e = absurd cc
read_fit s at text (is.Macro x) called calls element expanded template described form right path h k o g v w e = by (takes_macro s) refl e
  where
    by : (b : Bool) → takes_macro s ≡ b → (read_shape s at text (unless_wrong b (read.Macro x)) calls element expanded template described form).faults ≡ [] → Loosely s (read_shape s at text (unless_wrong b (read.Macro x)) calls element expanded template described form).made
    by true t e = evaluated_macro s (expanded x).made t (g x refl e)
    by false t e = absurd cc
read_fit s at text is.Template called calls element expanded template described form right path h k o g v w e = by (takes_macro s) refl e
  where
    by : (b : Bool) → takes_macro s ≡ b → (read_shape s at text (unless_wrong b read.Template) calls element expanded template described form).faults ≡ [] → Loosely s (read_shape s at text (unless_wrong b read.Template) calls element expanded template described form).made
    by true t e = evaluated_macro s template.made t (v refl e)
    by false t e = absurd cc
read_fit s at text (is.Descriptor d) called calls element expanded template described form right path h k o g v w e = by (takes_resource s d) refl e
  where
    by : (b : Bool) → takes_resource s d ≡ b → (read_shape s at text (unless_wrong b (read.Descriptor d)) calls element expanded template described form).faults ≡ [] → Loosely s (read_shape s at text (unless_wrong b (read.Descriptor d)) calls element expanded template described form).made
    by true t e = in_template s d (described d).made t (w d refl e)
    by false t e = absurd cc
read_fit s at text is.Unknown called calls element expanded template described form right path h k o g v w e = absurd cc

pub item_fit : (P : Plan → Type 0) (s : Slot) (inside : Bool) (m : Meaning) (has has_body : Bool) (at : Place) (shape : Shaped Plan) → (may_be s inside m ≡ true → has ≡ true → shape.faults ≡ [] → P shape.made)
    → (item_shape at (item_fault s inside m has has_body) shape).faults ≡ [] → P (item_shape at (item_fault s inside m has has_body) shape).made
item_fit P s inside m has has_body at shape h e = by (is_unknown m) (may_be s inside m) has (is_same (wants_braces m) has_body) h e
  where
    by : (a b c d : Bool) → (b ≡ true → c ≡ true → shape.faults ≡ [] → P shape.made)
        → (item_shape at (if a then Some 6020 else (if not b then Some 6025 else (if not c then Some 6021 else (if not d then Some 6023 else None)))) shape).faults ≡ []
        → P (item_shape at (if a then Some 6020 else (if not b then Some 6025 else (if not c then Some 6021 else (if not d then Some 6023 else None)))) shape).made
    by true b c d h e = absurd cc
    by false false c d h e = absurd cc
    by false true false d h e = absurd cc
    by false true true false h e = absurd cc
    by false true true true h e = h refl refl e
