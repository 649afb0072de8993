-- An argument that has to be a constant stands as one.
use Rattle.std.proofs.Common.{◌≡◌, ℕ, suc, ◌≤◌, Bool, true, false, List, [], ◌∷◌, Ok, Err, refl, subst}
use Rattle.std.specs.Prelude.{nat_le, ◌&&◌, if◌then◌else◌, Result}
use Rattle.std.proofs.lemmas.Bool.{leb-true}
use Rattle.iasl_messages.specs.declared.place.Place.{Place}
use Rattle.asl_tree.specs.declared.constant.NoConstant.{NoConstant}
use Rattle.asl_tree.specs.declared.term.Op.{Op}
use Rattle.asl_tree.specs.declared.term.Literal.{Literal}
use Rattle.asl_tree.specs.declared.term.Special.TheVariants as Special
use Rattle.asl_tree.specs.Tree.{At, Tree, Integer, Constant, String, Omitted, Use, Buffer, Package, VarPackage, Trees, no_trees, tree, count}
use Rattle.asl_tree.specs.View.{form, counted}
use Rattle.aml_sessions.specs.Ready.{is_expression, is_constant, IsText}
use Rattle.named_sessions.specs.Shaped.{IsCaseMember, IsCaseValue}
use Rattle.asl_words.specs.declared.operator.Slot.{Slot}
use Rattle.asl_words.specs.declared.operator.Slot.TheVariants as slot
use Rattle.acpi_values.specs.declared.width.Width.TheVariants.{W64}
use Rattle.acpi_values.specs.declared.width.Width.{Width}
use Rattle.term_plans.specs.Plans.{Plan, an_integer, a_text, a_word, omitted, a_name, a_form, Plans, no_plans, plan, is_omitted, how_many, constant_of}
use Rattle.asl_terms.specs.Terms.{Shaped, fine, refused, valued, is_member, is_element, is_case_package, case_member, case_value}
use Rattle.term_plans.specs.Places.{nowhere}
use Rattle.asl_terms.specs.Terms.{evaluated, after, checked}
use Rattle.program_shapes.proofs.Fits.{Fits, IsAtMost}
use Rattle.program_shapes.proofs.Forms.{IsPackageOf}
use Rattle.asl_numbers.specs.Numbers.{numbered, numbered_all}
use Rattle.program_shapes.proofs.Plans.{PlanAs, integer_as, text_as, word_as, name_as, form_as}
use Rattle.program_shapes.proofs.Branches.{IsBranchBehind, branch_as}
use Rattle.program_shapes.proofs.Settled.{literal_as}

-- how a part is read before it is evaluated
abbrev pub loose : Slot → Slot
loose (slot.Constant least most) = slot.Expression
loose slot.Measure = slot.Expression
loose slot.Element = slot.Expression
loose s = s

-- what a Case compares with, before it is evaluated: one that is no constant is none
abbrev pub IsLooseMember : Plan → Type 0
IsLooseMember (a_text bytes) = IsText bytes
IsLooseMember (a_form (Op.Special Special.Buffer) args body) = PlanAs IsCaseMember (a_form (Op.Special Special.Buffer) args body)
IsLooseMember _ = Unit {0}

abbrev pub IsLooseValue : Plan → Type 0
IsLooseValue (a_text bytes) = IsText bytes
IsLooseValue (a_form (Op.Special Special.Buffer) args body) = PlanAs IsCaseMember (a_form (Op.Special Special.Buffer) args body)
IsLooseValue (a_form (Op.Special Special.Package) args body) = PlanAs (IsPackageOf (how_many body)) (a_form (Op.Special Special.Package) args body)
IsLooseValue _ = Unit {0}

-- what stands in a slot, before it is evaluated
abbrev pub Loosely : Slot → Plan → Type 0
Loosely (slot.Branch defaulted) p = IsBranchBehind defaulted p
Loosely slot.CaseValue p = IsLooseValue p
Loosely slot.CaseMember p = IsLooseMember p
Loosely s p = PlanAs (Fits (loose s)) p

here : At
here = record { id = 0; place = nowhere }

valued_fit : (P : Tree → Type 0) (least most : ℕ) (place : Place) (r : Result ℕ NoConstant) → ((n : ℕ) → n ≤ most → P (Integer n)) → (valued least most place r).faults ≡ [] → PlanAs P (valued least most place r).made
valued_fit P least most place (Err NoConstant.Fault) h e = absurd cc
valued_fit P least most place (Err NoConstant.Form) h e = absurd cc
valued_fit P least most place (Ok n) h e = by (nat_le least n) (nat_le n most) refl e
  where
    by : (a b : Bool) → nat_le n most ≡ b → (if a && b then fine (an_integer n) else refused 6024 place).faults ≡ [] → PlanAs P (if a && b then fine (an_integer n) else refused 6024 place).made
    by true true k e = integer_as P n (h n (leb-true n most k))
    by true false k e = absurd cc
    by false b k e = absurd cc

is_left_out : (p : Plan) → is_omitted p ≡ true → p ≡ omitted
is_left_out omitted e = refl
is_left_out _ e = absurd cc

-- what is left out is no expression
never : (p : Plan) → is_omitted p ≡ true → PlanAs (Fits slot.Expression) p → ⊥
unfolding numbered
never p e h = none (subst (PlanAs (Fits slot.Expression)) (is_left_out p e) h here 0).0
  where
    none : false ≡ true → ⊥
    none e = absurd cc

constant_fit : (width : Width) (least most : ℕ) (place : Place) (p : Plan) → PlanAs (Fits slot.Expression) p → (if is_omitted p then fine p else valued least most place (constant_of width p)).faults ≡ []
    → PlanAs (IsAtMost most) (if is_omitted p then fine p else valued least most place (constant_of width p)).made
constant_fit width least most place p h e = by (is_omitted p) refl e
  where
    by : (b : Bool) → is_omitted p ≡ b → (if b then fine p else valued least most place (constant_of width p)).faults ≡ [] → PlanAs (IsAtMost most) (if b then fine p else valued least most place (constant_of width p)).made
    by true o e = absurd (never p o h)
    by false o e = valued_fit (IsAtMost most) least most place (constant_of width p) (λ n le. le) e

-- ---- members of a Package

element_of : (t : Tree) → is_constant t ≡ true → Fits slot.Expression t → Fits slot.Element t
element_of (Use at name) e h = absurd cc
element_of _ e h = (e, h.1)

abbrev ConstantIfValue : Tree → Type 0
ConstantIfValue t = is_expression t ≡ true → is_constant t ≡ true

literal_constant : (at : At) (l : Literal) (ts bs : Trees) → ConstantIfValue (form at (Op.Literal l) ts bs)
literal_constant at l no_trees no_trees = λ e. refl
literal_constant at l no_trees (tree t ts) = λ e. absurd cc
literal_constant at l (tree t ts) bs = λ e. absurd cc

buffer_constant : (at : At) (ts bs : Trees) → ConstantIfValue (form at (Op.Special Special.Buffer) ts bs)
buffer_constant at no_trees bs = λ e. absurd cc
buffer_constant at (tree Omitted no_trees) bs = λ e. refl
buffer_constant at (tree _ no_trees) bs = λ e. refl
buffer_constant at (tree t (tree u us)) bs = λ e. absurd cc

counted_constant : (n : ℕ) (bs : Trees) → is_constant (counted n bs) ≡ true
counted_constant n bs = by (nat_le n 255)
  where
    by : (b : Bool) → is_constant (if b then Package n bs else VarPackage (Integer n) bs) ≡ true
    by true = refl
    by false = refl

package_constant : (at : At) (ts bs : Trees) → ConstantIfValue (form at (Op.Special Special.Package) ts bs)
package_constant at no_trees bs = λ e. absurd cc
package_constant at (tree Omitted no_trees) bs = λ e. counted_constant (count bs) bs
package_constant at (tree (Integer n) no_trees) bs = λ e. counted_constant n bs
package_constant at (tree _ no_trees) bs = λ e. refl
package_constant at (tree t (tree u us)) bs = λ e. absurd cc

form_member : (op : Op) (ps bs : Plans) → ((at : At) (ts us : Trees) → ConstantIfValue (form at op ts us)) → PlanAs (Fits slot.Expression) (a_form op ps bs) → PlanAs (Fits slot.Element) (a_form op ps bs)
form_member op ps bs k h = λ at n. element_of (numbered at n (a_form op ps bs)) (form_as ConstantIfValue op ps bs (λ at m n. k at (numbered_all m ps) (numbered_all n bs)) at n (h at n).0) (h at n)

member_fit : (p : Plan) → is_member p ≡ true → PlanAs (Fits slot.Expression) p → PlanAs (Fits slot.Element) p
unfolding numbered
member_fit (a_text bytes) e h = text_as (Fits slot.Element) bytes (refl, (h here 0).1)
member_fit (a_word word) e h = word_as (Fits slot.Element) word (refl, (h here 0).1)
member_fit (a_name path) e h = name_as (Fits slot.Element) path (λ at. (h at 0).1)
member_fit (a_form (Op.Literal l) ps bs) e h = form_member (Op.Literal l) ps bs (λ at ts us. literal_constant at l ts us) h
member_fit (a_form (Op.Special Special.Buffer) ps bs) e h = form_member (Op.Special Special.Buffer) ps bs buffer_constant h
member_fit (a_form (Op.Special Special.Package) ps bs) e h = form_member (Op.Special Special.Package) ps bs package_constant h
member_fit _ e h = absurd cc

element_fit : (width : Width) (place : Place) (p : Plan) → PlanAs (Fits slot.Expression) p → (evaluated width slot.Element place p).faults ≡ [] → PlanAs (Fits slot.Element) (evaluated width slot.Element place p).made
element_fit width place p h e = by (is_member p) refl e
  where
    by : (b : Bool) → is_member p ≡ b → (if b then fine p else valued 0 18446744073709551615 place (constant_of width p)).faults ≡ []
        → PlanAs (Fits slot.Element) (if b then fine p else valued 0 18446744073709551615 place (constant_of width p)).made
    by true m e = member_fit p m h
    by false m e = valued_fit (Fits slot.Element) 0 18446744073709551615 place (constant_of width p) (λ n le. (refl, tt)) e

begun_fit : (width : Width) (place : Place) (p : Plan) → PlanAs (Fits slot.FieldElement) p → (evaluated width slot.FieldElement place p).faults ≡ [] → PlanAs (Fits slot.FieldElement) (evaluated width slot.FieldElement place p).made
begun_fit width place p h e = by (is_element p) e
  where
    by : (b : Bool) → (if b then fine p else refused 6022 place).faults ≡ [] → PlanAs (Fits slot.FieldElement) (if b then fine p else refused 6022 place).made
    by true e = h
    by false e = absurd cc

-- ---- what a Case compares with

case_member_fit : (width : Width) (place : Place) (p : Plan) → IsLooseMember p → (case_member width place p).faults ≡ [] → PlanAs IsCaseMember (case_member width place p).made
case_member_fit width place (a_text bytes) h e = text_as IsCaseMember bytes h
case_member_fit width place (a_form (Op.Special Special.Buffer) args body) h e = h
case_member_fit width place (a_form (Op.Literal literal) no_plans no_plans) h e = literal_as IsCaseMember (Op.Literal literal) (λ at. tt)
case_member_fit width place p h e = valued_fit IsCaseMember 0 18446744073709551615 place (constant_of width p) (λ n le. tt) e

member_value : (t : Tree) → IsCaseMember t → IsCaseValue t
member_value (Integer n) h = h
member_value (Constant literal) h = h
member_value (String text) h = h
member_value (Buffer size bytes) h = h
member_value _ h = absurd h

no_number : (n : ℕ) → 0 ≡ suc n → ⊥
no_number n e = absurd cc

-- a Package of at least one member
some_members : (many : ℕ) (t : Tree) → IsPackageOf (suc many) t → IsCaseValue t
some_members many (Package n no_trees) h = absurd (no_number many h.1)
some_members many (Package n (tree t ts)) h = h.0
some_members many (VarPackage size no_trees) h = absurd (no_number many h.2)
some_members many (VarPackage size (tree t ts)) h = (h.0, h.1)
some_members many _ h = absurd h

package_value : (place : Place) (args body : Plans) → PlanAs (IsPackageOf (how_many body)) (a_form (Op.Special Special.Package) args body)
    → (if is_case_package (how_many body) then fine (a_form (Op.Special Special.Package) args body) else refused 6024 place).faults ≡ []
    → PlanAs IsCaseValue (if is_case_package (how_many body) then fine (a_form (Op.Special Special.Package) args body) else refused 6024 place).made
package_value place args no_plans h e = absurd cc
package_value place args (plan at q qs) h e = by (is_case_package (suc (how_many qs))) e
  where
    by : (b : Bool) → (if b then fine (a_form (Op.Special Special.Package) args (plan at q qs)) else refused 6024 place).faults ≡ []
        → PlanAs IsCaseValue (if b then fine (a_form (Op.Special Special.Package) args (plan at q qs)) else refused 6024 place).made
    by true e = λ here next. some_members (how_many qs) (numbered here next (a_form (Op.Special Special.Package) args (plan at q qs))) (h here next)
    by false e = absurd cc

case_value_fit : (width : Width) (place : Place) (p : Plan) → IsLooseValue p → (case_value width place p).faults ≡ [] → PlanAs IsCaseValue (case_value width place p).made
case_value_fit width place (a_text bytes) h e = text_as IsCaseValue bytes h
case_value_fit width place (a_form (Op.Special Special.Buffer) args body) h e = λ at next. member_value (numbered at next (a_form (Op.Special Special.Buffer) args body)) (h at next)
case_value_fit width place (a_form (Op.Special Special.Package) args body) h e = package_value place args body h e
case_value_fit width place (a_form (Op.Literal literal) no_plans no_plans) h e = literal_as IsCaseValue (Op.Literal literal) (λ at. tt)
case_value_fit width place p h e = valued_fit IsCaseValue 0 18446744073709551615 place (constant_of width p) (λ n le. tt) e

pub evaluated_fit : (width : Width) (s : Slot) (place : Place) (p : Plan) → Loosely s p → (evaluated width s place p).faults ≡ [] → PlanAs (Fits s) (evaluated width s place p).made
evaluated_fit width (slot.Constant least most) place p h e = constant_fit W64 least most place p h e
evaluated_fit width slot.Measure place p h e = constant_fit width 0 18446744073709551615 place p h e
evaluated_fit width slot.Element place p h e = element_fit width place p h e
evaluated_fit width slot.FieldElement place p h e = begun_fit width place p h e
evaluated_fit width (slot.Branch defaulted) place p h e = branch_as defaulted p h
evaluated_fit width slot.CaseValue place p h e = case_value_fit width place p h e
evaluated_fit width slot.CaseMember place p h e = case_member_fit width place p h e
evaluated_fit width _ place p h e = h

pub checked_fit : (width : Width) (s : Slot) (place : Place) (shape : Shaped Plan) → (shape.faults ≡ [] → Loosely s shape.made) → (checked width s place shape).faults ≡ [] → PlanAs (Fits s) (checked width s place shape).made
checked_fit width s place shape h e = by shape.faults refl e
  where
    by : (fs : List _) → shape.faults ≡ fs → (after fs shape (evaluated width s place shape.made)).faults ≡ [] → PlanAs (Fits s) (after fs shape (evaluated width s place shape.made)).made
    by [] f e = evaluated_fit width s place shape.made (h f) e
    by (m ∷ ms) f e = absurd cc

-- a member of a Switch has nothing to evaluate
pub checked_branch : (width : Width) (defaulted : Bool) (place : Place) (shape : Shaped Plan) → (shape.faults ≡ [] → IsBranchBehind defaulted shape.made) → (checked width (slot.Branch defaulted) place shape).faults ≡ []
    → IsBranchBehind defaulted (checked width (slot.Branch defaulted) place shape).made
checked_branch width defaulted place shape h e = by shape.faults refl e
  where
    by : (fs : List _) → shape.faults ≡ fs → (after fs shape (fine shape.made)).faults ≡ [] → IsBranchBehind defaulted (after fs shape (fine shape.made)).made
    by [] f e = h f
    by (m ∷ ms) f e = absurd cc
