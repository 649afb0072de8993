-- A part of a source, one layer at a time.
use Rattle.std.proofs.Common.{◌≡◌, OnOk, Result, ℕ, zero, suc, ◌+◌, ◌*◌, ◌<◌, slice_get, ◌≤◌, length, get_or, drop, drop-cons, add-one}
use Rattle.std.proofs.Common.{arith, List, [], ◌∷◌, ◌++◌, append_assoc, append-nil, refl, ap, ◌∙◌, sym, subst, Option, Some, None, Bool}
use Rattle.std.proofs.Common.{true, false, length-append}
use Rattle.std.proofs.lemmas.List.{drop_all}
use Rattle.std.proofs.lemmas.Result.{on_ok_weaker}
use Rattle.iasl_messages.specs.declared.place.Place.{Place}
use Rattle.iasl_messages.specs.declared.message.Message.{Message}
use Rattle.acpi_values.specs.declared.width.Width.{Width}
use Rattle.asl_syntax.specs.declared.raw.Infix.{Infix}
use Rattle.asl_syntax.specs.declared.raw.Raw.{Raw}
use Rattle.asl_syntax.specs.declared.raw.Raw.TheVariants as raw
use Rattle.asl_tree.specs.declared.term.Op.{Op}
use Rattle.asl_tree.specs.declared.term.Op.TheVariants as op
use Rattle.asl_tree.specs.declared.term.Special.{Special}
use Rattle.asl_tree.specs.declared.term.Node.{Node}
use Rattle.asl_words.specs.Paths.{path_of}
use Rattle.asl_shape.specs.declared.around.Around.{Around}
use Rattle.term_plans.specs.Plans.{plans_of, Plan, omitted, Plans, no_plans, join, last_plan, with_last}
use Rattle.term_plans.proofs.Plans.{plan_form, plan_call}
use Rattle.asl_words.specs.declared.operator.Known.{Known}
use Rattle.asl_words.specs.declared.operator.Parameter.{Parameter}
use Rattle.asl_words.specs.declared.operator.Slot.{Slot}
use Rattle.asl_words.specs.declared.operator.TextMacro.{TextMacro}
use Rattle.asl_words.specs.declared.operator.Slot.TheVariants as slot
use Rattle.asl_words.specs.declared.operator.Body.{Body}
use Rattle.asl_words.specs.declared.operator.Body.TheVariants as braces
use Rattle.word_meanings.specs.declared.meaning.Reading.TheVariants as read
use Rattle.asl_syntax.specs.Written.{writtens, written, written_in}
use Rattle.asl_syntax.specs.Sizes.{size, sizes, size_at, sizes_at, size_in_at}
use Rattle.asl_syntax.specs.Falls.{size_item, size_apply, size_none, size_some}
use Rattle.asl_words.specs.declared.operator.FieldWord.{FieldWord}
use Rattle.asl_words.specs.Operators.{parameters_of, body_of, parameters_as, body_as, element_parameters, macro_parameters}
use Rattle.asl_shape.specs.Shapes
use Rattle.asl_terms.specs.Symbols.{symbol_of}
use Rattle.asl_terms.specs.Terms.{Shaped, fine, refused, is_given, inside_of, after, checked, evaluated, number_shape, text_shape}
use Rattle.asl_shape.specs.Shapes.{template_shape, descriptor_shape, has_arguments, form_shape, symbol_shape, read_shape, item_shape}
use Rattle.term_plans.specs.Plans.{one_plan}
use Rattle.asl_terms.specs.Terms.{path_shape, known_plan, missing}
use Rattle.term_plans.specs.Places.{nowhere}
use Rattle.asl_shape.specs.Shapes.{call_shape, within, joined, list_shape, skipped, bare, call_args, element_shape, macro_shape, begin}
use Rattle.word_meanings.specs.Meanings.{item_fault, meaning_of, reading_of, slot_as, unfit}
use Rattle.asl_words.specs.Resources.{descriptor_parameters, descriptor_body}
use Rattle.resource_layout.specs.declared.descriptor.Descriptor.{Descriptor}
use Rattle.asl_terms.specs.AtRaw.{inside_at, listed_at, place_at}
use Rattle.asl_shape.specs.AtRaw.{has_arguments_at, template_at, descriptor_at, is_number_list_at, bare_at, shape_at, is_separator_at, run_after_at}
use Rattle.asl_shape.specs.AtRaw.{operands_at, call_at, arguments_at, arguments_in_at, contents_at, members_at}
use Rattle.asl_terms.specs.AtRaw.{is_some}
use Rattle.asl_shape.specs.AtRaw.{terms_at, member_at, argument_at, form_at, read_at, one_at, is_listed_at, byte_slot_at, item_at}
use Rattle.asl_shape.specs.AtRaw.{meaning_at, element_at, macro_at, is_field_list_at, elements_at, cases_at, default_after_at}
use Rattle.asl_syntax.specs.Views.{written_number, written_text, written_item, written_apply, written_list, written_comma, written_semicolon, written_empty}
use Rattle.term_plans.proofs.Terms.{omitted_term}
use Rattle.asl_terms.proofs.Terms.{nothing_more}
use Rattle.asl_terms.proofs.Leaves.{place_rules}
use Rattle.asl_terms.proofs.Last.{last_join, with_join}
use Rattle.asl_terms.proofs.Bracketed.{given_some, from_item, inside_written}
use Rattle.term_plans.proofs.Lists.{join_assoc}
use Rattle.asl_terms.proofs.Joins.{from_none, nothing_behind}

-- ---- errors in order

-- none more than there were
pub none_more : (old F all : List Message) → all ≡ old ++ F → length all ≡ length old → F ≡ []
none_more old [] all e l = refl
none_more old (m ∷ ms) all e l = absurd (omega (arith, length-append old (m ∷ ms), ap length e, l))

pub some_more : (old F all : List Message) → all ≡ old ++ F → (length all ≡ length old → ⊥) → F ≡ [] → ⊥
some_more old F all e h n = h (ap length (e ∙ ap (λ xs. old ++ xs) n ∙ append-nil old))

pub checked_clean : (width : Width) (s : Slot) (place : Place) (x : Shaped Plan) → x.faults ≡ [] → checked width s place x ≡ evaluated width s place x.made
checked_clean width s place x e = ap (λ ms. after ms x (evaluated width s place x.made)) e

pub checked_faulty : (width : Width) (s : Slot) (place : Place) (x : Shaped Plan) → (x.faults ≡ [] → ⊥) → checked width s place x ≡ x
checked_faulty width s place x h = by_faults x.faults h
  where
    by_faults : (ms : List Message) → (ms ≡ [] → ⊥) → after ms x (evaluated width s place x.made) ≡ x
    by_faults [] h = absurd (h refl)
    by_faults (m ∷ ms) h = refl

-- the last of some plans is evaluated where it is read with no error

pub clean_faults : (width : Width) (s : Slot) (at place : Place) (x : Shaped Plan) (before mid : Plans) (old read all : List Message) → x.faults ≡ [] → mid ≡ join before (one_plan place x.made) → read ≡ old ++ x.faults
    → all ≡ read ++ (evaluated width s at (last_plan mid)).faults → all ≡ old ++ (checked width s at x).faults
clean_faults width s at place x before mid old read all n m r e =
    let last : last_plan mid ≡ x.made = ap last_plan m ∙ last_join before place x.made in
    e ∙ ap (λ ms. ms ++ (evaluated width s at (last_plan mid)).faults) (r ∙ ap (λ ms. old ++ ms) n ∙ append-nil old)
    ∙ ap (λ p. old ++ (evaluated width s at p).faults) last ∙ ap (λ y. old ++ y.faults) (sym (checked_clean width s at x n))

pub clean_made : (width : Width) (s : Slot) (at place : Place) (x : Shaped Plan) (before mid all : Plans) → x.faults ≡ [] → mid ≡ join before (one_plan place x.made) → all ≡ with_last (evaluated width s at (last_plan mid)).made mid
    → all ≡ join before (one_plan place (checked width s at x).made)
clean_made width s at place x before mid all n m e =
    let last : last_plan mid ≡ x.made = ap last_plan m ∙ last_join before place x.made in
    e ∙ ap (λ p. with_last (evaluated width s at p).made mid) last ∙ ap (with_last (evaluated width s at x.made).made) m
    ∙ with_join (evaluated width s at x.made).made before place x.made ∙ ap (λ y. join before (one_plan place y.made)) (sym (checked_clean width s at x n))

-- ---- one layer

pub bare_number : (s : Slot) (inside : Around) (place : Place) (n : ℕ) → bare_at s inside (raw.Number place n) ≡ number_shape s place n
unfolding bare_at
bare_number s inside place n = ap (bare s inside) (written_number place n)

pub bare_text : (s : Slot) (inside : Around) (place : Place) (bytes : List ℕ) → bare_at s inside (raw.Text place bytes) ≡ text_shape s place bytes
unfolding bare_at
bare_text s inside place bytes = ap (bare s inside) (written_text place bytes)

pub bare_apply : (s : Slot) (inside : Around) (place : Place) (op : Infix) (args : List Raw) → bare_at s inside (raw.Apply place op args) ≡ symbol_shape inside.width s place (symbol_of op) (arguments_in_at (parameters_of (symbol_of op)) place inside args)
unfolding bare_at arguments_in_at
bare_apply s inside place op args = ap (bare s inside) (written_apply place op args)

pub bare_list : (s : Slot) (inside : Around) (place : Place) (items : List Raw) → bare_at s inside (raw.List place items) ≡ listed_at s place items
unfolding bare_at listed_at
bare_list s inside place items = ap (bare s inside) (written_list place items)

pub bare_comma : (s : Slot) (inside : Around) → bare_at s inside (raw.Comma) ≡ fine omitted
unfolding bare_at
bare_comma s inside = ap (bare s inside) (written_comma)

pub bare_semicolon : (s : Slot) (inside : Around) → bare_at s inside (raw.Semicolon) ≡ fine omitted
unfolding bare_at
bare_semicolon s inside = ap (bare s inside) (written_semicolon)

pub bare_empty : (s : Slot) (inside : Around) → bare_at s inside (raw.Empty) ≡ fine omitted
unfolding bare_at
bare_empty s inside = ap (bare s inside) (written_empty)

pub bare_item : (s : Slot) (inside : Around) (place : Place) (w : List ℕ) (args body : Option (List Raw)) → bare_at s inside (raw.Item place w args body) ≡ item_at s inside place w args body
unfolding bare_at item_at has_arguments_at read_at call_at element_at macro_at template_at descriptor_at is_number_list_at form_at arguments_at contents_at
bare_item s inside place w args body =
    let form : Op → Shaped Plan = λ o. form_at s o place inside args body in
    let element : FieldWord → Shaped Plan = λ e. element_at e place inside args in
    let expanded : TextMacro → Shaped Plan = λ m. macro_at m place inside args in
    let template : Shaped Plan = template_at place inside body in
    let described : Descriptor → Shaped Plan = λ d. descriptor_at d place inside args body in
    ap (bare s inside) (written_item place w args body)
    ∙ ap (λ b. item_shape place (item_fault s inside.method (meaning_of w b) (has_arguments (meaning_of w b) (inside_of (written_in args))) b) (read_shape s place w (reading_of s (meaning_of w b) (is_given (written_in args))) (call_args inside (written_in args)) element expanded template described form)) (given_some body)
    ∙ ap (λ ws. item_shape place (item_fault s inside.method (meaning_of w (is_some body)) (has_arguments (meaning_of w (is_some body)) ws) (is_some body)) (read_shape s place w (reading_of s (meaning_of w (is_some body)) (is_given (written_in args))) (call_args inside (written_in args)) element expanded template described form)) (inside_written args)
    ∙ ap (λ b. item_shape place (item_fault s inside.method (meaning_of w (is_some body)) (has_arguments (meaning_of w (is_some body)) (writtens (inside_at args))) (is_some body)) (read_shape s place w (reading_of s (meaning_of w (is_some body)) b) (call_args inside (written_in args)) element expanded template described form)) (given_some args)

-- a node whose place and term are known
pub read_there : {T E : Type 0} (result : Result T E) (s : Slot) (inside : Around) (outer place : Place) (r : Raw) (x : Shaped Plan) (before all : Plans)
    → bare_at s inside r ≡ x → place_at outer r ≡ place → OnOk result (all ≡ join before (one_plan place x.made)) → OnOk result (all ≡ join before (one_at outer r (bare_at s inside r).made))
read_there result s inside outer place r x before all e f h =
    on_ok_weaker result (λ (k : all ≡ join before (one_plan place x.made)). k ∙ ap (λ q. join before (one_plan q x.made)) (sym f) ∙ ap (λ y. join before (one_plan (place_at outer r) y.made)) (sym e)) h

pub ruleset bare_rules = (bare_number, bare_text, bare_apply, bare_list, bare_comma, bare_semicolon, bare_empty, nothing_more, omitted_term, place_rules)

-- ---- plans in order

pub call_is : (inside : Around) (args : Option (List Raw)) → call_at inside args ≡ operands_at slot.Expression inside (inside_at args)
unfolding call_at operands_at writtens
call_is inside None = refl
call_is inside (Some raws) = refl

pub arguments_are : (qs : List Parameter) (place : Place) (inside : Around) (args : Option (List Raw)) → arguments_at qs place inside args ≡ arguments_in_at qs place inside (inside_at args)
unfolding arguments_at arguments_in_at writtens
arguments_are [] place inside None = refl
arguments_are (q ∷ qs) place inside None = refl
arguments_are qs place inside (Some raws) = refl

pub form_is : (s : Slot) (o : Op) (place : Place) (inside : Around) (args body : Option (List Raw)) → form_at s o place inside args body ≡ form_shape inside.width o place (arguments_in_at (parameters_as o s) place inside (inside_at args)) (contents_at (body_as o s) (within o inside) place body)
unfolding form_at
form_is s o place inside args body = ap (λ a. form_shape inside.width o place a (contents_at (body_as o s) (within o inside) place body)) (arguments_are (parameters_as o s) place inside args)

pub element_is : (e : FieldWord) (place : Place) (inside : Around) (args : Option (List Raw)) → element_at e place inside args ≡ element_shape e (arguments_in_at (element_parameters e) place inside (inside_at args))
unfolding element_at
element_is e place inside args = ap (element_shape e) (arguments_are (element_parameters e) place inside args)

pub macro_is : (m : TextMacro) (place : Place) (inside : Around) (args : Option (List Raw)) → macro_at m place inside args ≡ macro_shape (arguments_in_at (macro_parameters m) place inside (inside_at args))
unfolding macro_at
macro_is m place inside args = ap macro_shape (arguments_are (macro_parameters m) place inside args)

pub template_is : (place : Place) (inside : Around) (body : Option (List Raw)) → template_at place inside body ≡ template_shape place (contents_at (braces.Descriptors false) inside place body)
unfolding template_at
template_is place inside body = refl

pub descriptor_is : (d : Descriptor) (place : Place) (inside : Around) (args body : Option (List Raw)) → descriptor_at d place inside args body ≡ descriptor_shape d place (is_number_list_at (descriptor_body d) body) (arguments_in_at (descriptor_parameters d) place inside (inside_at args)) (contents_at (descriptor_body d) inside place body)
unfolding descriptor_at
descriptor_is d place inside args body = ap (λ a. descriptor_shape d place (is_number_list_at (descriptor_body d) body) a (contents_at (descriptor_body d) inside place body)) (arguments_are (descriptor_parameters d) place inside args)

-- ---- items as they are read

pub read_wrong : (s : Slot) (place : Place) (w : List ℕ) (inside : Around) (args body : Option (List Raw)) → read_at s place w read.Wrong inside args body ≡ refused (unfit s) place
unfolding read_at
read_wrong s place w inside args body = refl

pub read_path : (s : Slot) (place : Place) (w : List ℕ) (inside : Around) (args body : Option (List Raw)) → read_at s place w read.Path inside args body ≡ path_shape place (path_of w)
unfolding read_at
read_path s place w inside args body = refl

pub read_call : (s : Slot) (place : Place) (w : List ℕ) (inside : Around) (args body : Option (List Raw)) → read_at s place w read.Call inside args body ≡ call_shape place (path_of w) (call_at inside args)
unfolding read_at
read_call s place w inside args body = refl

pub read_known : (s : Slot) (place : Place) (w : List ℕ) (k : Known) (inside : Around) (args body : Option (List Raw)) → read_at s place w (read.Known k) inside args body ≡ fine (known_plan s k)
unfolding read_at
read_known s place w k inside args body = refl

pub read_form : (s : Slot) (place : Place) (w : List ℕ) (o : Op) (inside : Around) (args body : Option (List Raw)) → read_at s place w (read.Form o) inside args body ≡ form_shape inside.width o place (arguments_in_at (parameters_as o s) place inside (inside_at args)) (contents_at (body_as o s) (within o inside) place body)
unfolding read_at
read_form s place w o inside args body = form_is s o place inside args body

pub read_element : (s : Slot) (place : Place) (w : List ℕ) (e : FieldWord) (inside : Around) (args body : Option (List Raw)) → read_at s place w (read.Element e) inside args body ≡ element_at e place inside args
unfolding read_at
read_element s place w e inside args body = refl

pub read_macro : (s : Slot) (place : Place) (w : List ℕ) (m : TextMacro) (inside : Around) (args body : Option (List Raw)) → read_at s place w (read.Macro m) inside args body ≡ macro_at m place inside args
unfolding read_at
read_macro s place w m inside args body = refl

pub read_template : (s : Slot) (place : Place) (w : List ℕ) (inside : Around) (args body : Option (List Raw)) → read_at s place w read.Template inside args body ≡ template_at place inside body
unfolding read_at
read_template s place w inside args body = refl

pub read_descriptor : (s : Slot) (place : Place) (w : List ℕ) (d : Descriptor) (inside : Around) (args body : Option (List Raw)) → read_at s place w (read.Descriptor d) inside args body ≡ descriptor_at d place inside args body
unfolding read_at
read_descriptor s place w d inside args body = refl

pub ruleset read_rules = (read_wrong, read_path, read_call, read_element, read_macro, read_template, read_descriptor, read_known, read_form, nothing_more)

-- ---- lists from one of their items on

pub operand_step : (s : Slot) (inside : Around) (raws : List Raw) (i : ℕ) (d : Raw) → i < length raws → operands_at s inside (drop i raws) ≡ joined (place_at nowhere (get_or raws i d)) (shape_at s inside (get_or raws i d)) (operands_at slot.Expression inside (drop (i + 1) raws))
unfolding operands_at writtens place_at bare_at
operand_step s inside raws i d lt = ap (λ rs. Shapes.operands s inside (writtens rs)) (from_item raws i d lt)

pub operand_end : (s : Slot) (inside : Around) (raws : List Raw) (i : ℕ) → length raws ≤ i → operands_at s inside (drop i raws) ≡ fine no_plans
unfolding operands_at writtens
operand_end s inside raws i le = ap (λ rs. Shapes.operands s inside (writtens rs)) (drop_all i raws le)

pub member_step : (s : Slot) (inside : Around) (raws : List Raw) (i : ℕ) (d : Raw) → i < length raws → members_at s inside (drop i raws) ≡ skipped (is_separator_at (get_or raws i d)) (place_at nowhere (get_or raws i d)) (shape_at s inside (get_or raws i d)) (members_at s inside (drop (i + 1) raws))
unfolding members_at writtens place_at bare_at is_separator_at
member_step s inside raws i d lt = ap (λ rs. Shapes.members s inside (writtens rs)) (from_item raws i d lt)

pub member_end : (s : Slot) (inside : Around) (raws : List Raw) (i : ℕ) → length raws ≤ i → members_at s inside (drop i raws) ≡ fine no_plans
unfolding members_at writtens
member_end s inside raws i le = ap (λ rs. Shapes.members s inside (writtens rs)) (drop_all i raws le)

pub term_step : (inside : Around) (run : Option ℕ) (raws : List Raw) (i : ℕ) (d : Raw) → i < length raws → terms_at inside run (drop i raws) ≡ skipped (is_separator_at (get_or raws i d)) (place_at nowhere (get_or raws i d)) (shape_at (slot.Term run) inside (get_or raws i d)) (terms_at inside (run_after_at run (get_or raws i d)) (drop (i + 1) raws))
unfolding terms_at writtens place_at bare_at is_separator_at run_after_at
term_step inside run raws i d lt = ap (λ rs. Shapes.terms inside run (writtens rs)) (from_item raws i d lt)

pub term_end : (inside : Around) (run : Option ℕ) (raws : List Raw) (i : ℕ) → length raws ≤ i → terms_at inside run (drop i raws) ≡ fine no_plans
unfolding terms_at writtens
term_end inside run raws i le = ap (λ rs. Shapes.terms inside run (writtens rs)) (drop_all i raws le)

pub case_step : (inside : Around) (defaulted : Bool) (raws : List Raw) (i : ℕ) (d : Raw) → i < length raws → cases_at inside defaulted (drop i raws) ≡ skipped (is_separator_at (get_or raws i d)) (place_at nowhere (get_or raws i d)) (shape_at (slot.Branch defaulted) inside (get_or raws i d)) (cases_at inside (default_after_at defaulted (get_or raws i d)) (drop (i + 1) raws))
unfolding cases_at writtens place_at bare_at is_separator_at default_after_at
case_step inside defaulted raws i d lt = ap (λ rs. Shapes.cases inside defaulted (writtens rs)) (from_item raws i d lt)

pub case_end : (inside : Around) (defaulted : Bool) (raws : List Raw) (i : ℕ) → length raws ≤ i → cases_at inside defaulted (drop i raws) ≡ fine no_plans
unfolding cases_at writtens
case_end inside defaulted raws i le = ap (λ rs. Shapes.cases inside defaulted (writtens rs)) (drop_all i raws le)

pub ruleset operand_rules = (operand_step, operand_end, append_assoc, join_assoc, nothing_more, nothing_behind)

pub ruleset member_steps = (member_step, member_end, append_assoc, join_assoc, nothing_more, nothing_behind)

pub ruleset term_steps = (term_step, term_end, append_assoc, join_assoc, nothing_more, nothing_behind)

pub ruleset case_steps = (case_step, case_end, append_assoc, join_assoc, nothing_more, nothing_behind)

pub ruleset argument_rules = (append_assoc, join_assoc, nothing_more, nothing_behind)

pub ruleset call_rules = (plan_call, from_none, call_is)

pub ruleset element_rules = (from_none, element_is)

pub ruleset macro_rules = (from_none, macro_is)

pub ruleset template_rules = (from_none, template_is)

pub ruleset descriptor_rules = (from_none, descriptor_is, append_assoc)

pub ruleset form_rules = (plan_form, from_none, append_assoc)

-- ---- what stands in braces

pub contents_none : (b : Body) (inside : Around) (place : Place) → contents_at b inside place None ≡ fine no_plans
unfolding contents_at
contents_none braces.No inside place = refl
contents_none braces.Terms inside place = refl
contents_none braces.Bytes inside place = refl
contents_none braces.Elements inside place = refl
contents_none braces.FieldList inside place = refl
contents_none (braces.Numbers most) inside place = refl
contents_none (braces.Descriptors chosen) inside place = refl
contents_none braces.Cases inside place = refl
contents_none braces.CaseMembers inside place = refl

pub contents_no : (inside : Around) (place : Place) (raws : List Raw) → contents_at braces.No inside place (Some raws) ≡ fine no_plans
unfolding contents_at
contents_no inside place raws = refl

pub contents_terms : (inside : Around) (place : Place) (raws : List Raw) → contents_at braces.Terms inside place (Some raws) ≡ terms_at inside None raws
unfolding contents_at terms_at
contents_terms inside place raws = refl

pub contents_bytes : (inside : Around) (place : Place) (raws : List Raw) → contents_at braces.Bytes inside place (Some raws) ≡ list_shape place (is_listed_at true raws) (members_at (byte_slot_at raws) inside raws)
unfolding contents_at members_at is_listed_at byte_slot_at
contents_bytes inside place raws = refl

pub contents_elements : (inside : Around) (place : Place) (raws : List Raw) → contents_at braces.Elements inside place (Some raws) ≡ list_shape place (is_listed_at true raws) (members_at slot.Element inside raws)
unfolding contents_at members_at is_listed_at
contents_elements inside place raws = refl

pub contents_fields : (inside : Around) (place : Place) (raws : List Raw) → contents_at braces.FieldList inside place (Some raws) ≡ list_shape place (is_field_list_at begin raws) (elements_at begin None inside raws)
unfolding contents_at is_field_list_at elements_at
contents_fields inside place raws = refl

pub contents_numbers : (most : ℕ) (inside : Around) (place : Place) (raws : List Raw) → contents_at (braces.Numbers most) inside place (Some raws) ≡ list_shape place (is_listed_at true raws) (members_at (slot.Constant 0 most) inside raws)
unfolding contents_at members_at is_listed_at
contents_numbers most inside place raws = refl

pub contents_descriptors : (chosen : Bool) (inside : Around) (place : Place) (raws : List Raw) → contents_at (braces.Descriptors chosen) inside place (Some raws) ≡ members_at (slot.Descriptor chosen) inside raws
unfolding contents_at members_at
contents_descriptors chosen inside place raws = refl

pub contents_cases : (inside : Around) (place : Place) (raws : List Raw) → contents_at braces.Cases inside place (Some raws) ≡ cases_at inside false raws
unfolding contents_at cases_at
contents_cases inside place raws = refl

pub contents_case_members : (inside : Around) (place : Place) (raws : List Raw) → contents_at braces.CaseMembers inside place (Some raws) ≡ list_shape place (is_listed_at true raws) (members_at slot.CaseMember inside raws)
unfolding contents_at members_at is_listed_at
contents_case_members inside place raws = refl

-- ---- what is written with a symbol is read as an expression

pub expression_parameters : (o : Op) → parameters_as o slot.Expression ≡ parameters_of o
expression_parameters (op.Special Special.Buffer) = refl
expression_parameters (op.Special Special.Package) = refl
expression_parameters _ = refl

pub expression_body : (o : Op) → body_as o slot.Expression ≡ body_of o
expression_body (op.Special Special.Package) = refl
expression_body _ = refl

-- ---- sizes

pub size_inside : (raws : Option (List Raw)) → sizes_at (inside_at raws) ≡ size_in_at raws
unfolding sizes_at size_in_at writtens
size_inside None = refl
size_inside (Some raws) = refl

pub size_within : (raws : List Raw) (i : ℕ) (d : Raw) → i < length raws → size_at (get_or raws i d) ≤ sizes_at raws
unfolding sizes_at size_at writtens
size_within [] i d lt = absurd (omega (arith, lt))
size_within (r ∷ rs) zero d lt = omega arith
size_within (r ∷ rs) (suc i) d lt = omega (arith, size_within rs i d (omega (arith, lt)))

-- ---- steps of the lists

pub operand_faults : (s : Slot) (inside : Around) (raws : List Raw) (i : ℕ) (d : Raw) (old new w : List Message) → i < length raws → old ++ (operands_at s inside (drop i raws)).faults ≡ w → new ≡ old ++ (shape_at s inside (get_or raws i d)).faults → new ++ (operands_at slot.Expression inside (drop (i + 1) raws)).faults ≡ w
operand_faults s inside raws i d old new w lt e f =
    ap (λ ms. ms ++ (operands_at slot.Expression inside (drop (i + 1) raws)).faults) f
    ∙ append_assoc old (shape_at s inside (get_or raws i d)).faults (operands_at slot.Expression inside (drop (i + 1) raws)).faults
    ∙ ap (λ x. old ++ x.faults) (sym (operand_step s inside raws i d lt)) ∙ e

pub operand_made : (s : Slot) (inside : Around) (raws : List Raw) (i : ℕ) (d : Raw) (old new w : Plans) → i < length raws → join old (operands_at s inside (drop i raws)).made ≡ w → new ≡ join old (one_at nowhere (get_or raws i d) (shape_at s inside (get_or raws i d)).made) → join new (operands_at slot.Expression inside (drop (i + 1) raws)).made ≡ w
operand_made s inside raws i d old new w lt e f =
    ap (λ ms. join ms (operands_at slot.Expression inside (drop (i + 1) raws)).made) f
    ∙ join_assoc old (one_at nowhere (get_or raws i d) (shape_at s inside (get_or raws i d)).made) (operands_at slot.Expression inside (drop (i + 1) raws)).made
    ∙ ap (λ x. join old x.made) (sym (operand_step s inside raws i d lt)) ∙ e

pub ruleset operand_all = (operand_faults, operand_made, operand_end, nothing_more, nothing_behind, size_within)

pub ruleset size_rules = (size_item, size_apply, size_inside, size_none, size_some, size_within)

pub ruleset symbol_rules = (contents_none, nothing_more, expression_parameters, expression_body)

pub ruleset content_rules = (append_assoc, nothing_more, nothing_behind, contents_none, contents_no, contents_terms, contents_bytes, contents_elements, contents_fields, contents_numbers, contents_descriptors, contents_cases, contents_case_members, size_some)

-- ---- steps of the other lists

parted : (t : Bool) (place : Place) (x : Shaped Plan) (rest : Shaped Plans) → (skipped t place x (fine no_plans)).faults ++ rest.faults ≡ (skipped t place x rest).faults
parted true place x rest = refl
parted false place x rest = ap (λ ms. ms ++ rest.faults) (append-nil x.faults)

parted_made : (t : Bool) (place : Place) (x : Shaped Plan) (rest : Shaped Plans) → join (skipped t place x (fine no_plans)).made rest.made ≡ (skipped t place x rest).made
parted_made true place x rest = refl
parted_made false place x rest = refl

pub member_skip : (s : Slot) (inside : Around) (r : Raw) → is_separator_at r ≡ true → member_at s inside r ≡ fine no_plans
unfolding member_at
member_skip s inside r e = ap (λ t. skipped t (place_at nowhere r) (shape_at s inside r) (fine no_plans)) e

pub member_faults : (s : Slot) (inside : Around) (r : Raw) → is_separator_at r ≡ false → (member_at s inside r).faults ≡ (shape_at s inside r).faults
unfolding member_at
member_faults s inside r e = ap (λ t. (skipped t (place_at nowhere r) (shape_at s inside r) (fine no_plans)).faults) e ∙ append-nil (shape_at s inside r).faults

pub member_made : (s : Slot) (inside : Around) (r : Raw) → is_separator_at r ≡ false → (member_at s inside r).made ≡ one_at nowhere r (shape_at s inside r).made
unfolding member_at
member_made s inside r e = ap (λ t. (skipped t (place_at nowhere r) (shape_at s inside r) (fine no_plans)).made) e

pub ruleset one_member_rules = (member_skip, member_faults, member_made, nothing_more, nothing_behind)

pub list_faults : (s : Slot) (inside : Around) (raws : List Raw) (i : ℕ) (d : Raw) (old new w : List Message) → i < length raws → old ++ (members_at s inside (drop i raws)).faults ≡ w → new ≡ old ++ (member_at s inside (get_or raws i d)).faults → new ++ (members_at s inside (drop (i + 1) raws)).faults ≡ w
unfolding member_at
list_faults s inside raws i d old new w lt e f =
    let r = get_or raws i d in
    let rest = members_at s inside (drop (i + 1) raws) in
    ap (λ ms. ms ++ rest.faults) f ∙ append_assoc old (member_at s inside r).faults rest.faults
    ∙ ap (λ ms. old ++ ms) (parted (is_separator_at r) (place_at nowhere r) (shape_at s inside r) rest) ∙ ap (λ x. old ++ x.faults) (sym (member_step s inside raws i d lt)) ∙ e

pub list_made : (s : Slot) (inside : Around) (raws : List Raw) (i : ℕ) (d : Raw) (old new w : Plans) → i < length raws → join old (members_at s inside (drop i raws)).made ≡ w → new ≡ join old (member_at s inside (get_or raws i d)).made → join new (members_at s inside (drop (i + 1) raws)).made ≡ w
unfolding member_at
list_made s inside raws i d old new w lt e f =
    let r = get_or raws i d in
    let rest = members_at s inside (drop (i + 1) raws) in
    ap (λ ms. join ms rest.made) f ∙ join_assoc old (member_at s inside r).made rest.made
    ∙ ap (λ ms. join old ms) (parted_made (is_separator_at r) (place_at nowhere r) (shape_at s inside r) rest) ∙ ap (λ x. join old x.made) (sym (member_step s inside raws i d lt)) ∙ e

pub run_faults : (inside : Around) (run : Option ℕ) (raws : List Raw) (i : ℕ) (d : Raw) (old new w : List Message) → i < length raws → old ++ (terms_at inside run (drop i raws)).faults ≡ w → new ≡ old ++ (member_at (slot.Term run) inside (get_or raws i d)).faults → new ++ (terms_at inside (run_after_at run (get_or raws i d)) (drop (i + 1) raws)).faults ≡ w
unfolding member_at
run_faults inside run raws i d old new w lt e f =
    let r = get_or raws i d in
    let rest = terms_at inside (run_after_at run r) (drop (i + 1) raws) in
    ap (λ ms. ms ++ rest.faults) f ∙ append_assoc old (member_at (slot.Term run) inside r).faults rest.faults
    ∙ ap (λ ms. old ++ ms) (parted (is_separator_at r) (place_at nowhere r) (shape_at (slot.Term run) inside r) rest) ∙ ap (λ x. old ++ x.faults) (sym (term_step inside run raws i d lt)) ∙ e

pub run_made : (inside : Around) (run : Option ℕ) (raws : List Raw) (i : ℕ) (d : Raw) (old new w : Plans) → i < length raws → join old (terms_at inside run (drop i raws)).made ≡ w → new ≡ join old (member_at (slot.Term run) inside (get_or raws i d)).made → join new (terms_at inside (run_after_at run (get_or raws i d)) (drop (i + 1) raws)).made ≡ w
unfolding member_at
run_made inside run raws i d old new w lt e f =
    let r = get_or raws i d in
    let rest = terms_at inside (run_after_at run r) (drop (i + 1) raws) in
    ap (λ ms. join ms rest.made) f ∙ join_assoc old (member_at (slot.Term run) inside r).made rest.made
    ∙ ap (λ ms. join old ms) (parted_made (is_separator_at r) (place_at nowhere r) (shape_at (slot.Term run) inside r) rest) ∙ ap (λ x. join old x.made) (sym (term_step inside run raws i d lt)) ∙ e

pub case_faults : (inside : Around) (defaulted : Bool) (raws : List Raw) (i : ℕ) (d : Raw) (old new w : List Message) → i < length raws → old ++ (cases_at inside defaulted (drop i raws)).faults ≡ w → new ≡ old ++ (member_at (slot.Branch defaulted) inside (get_or raws i d)).faults → new ++ (cases_at inside (default_after_at defaulted (get_or raws i d)) (drop (i + 1) raws)).faults ≡ w
unfolding member_at
case_faults inside defaulted raws i d old new w lt e f =
    let r = get_or raws i d in
    let rest = cases_at inside (default_after_at defaulted r) (drop (i + 1) raws) in
    ap (λ ms. ms ++ rest.faults) f ∙ append_assoc old (member_at (slot.Branch defaulted) inside r).faults rest.faults
    ∙ ap (λ ms. old ++ ms) (parted (is_separator_at r) (place_at nowhere r) (shape_at (slot.Branch defaulted) inside r) rest) ∙ ap (λ x. old ++ x.faults) (sym (case_step inside defaulted raws i d lt)) ∙ e

pub case_made : (inside : Around) (defaulted : Bool) (raws : List Raw) (i : ℕ) (d : Raw) (old new w : Plans) → i < length raws → join old (cases_at inside defaulted (drop i raws)).made ≡ w → new ≡ join old (member_at (slot.Branch defaulted) inside (get_or raws i d)).made → join new (cases_at inside (default_after_at defaulted (get_or raws i d)) (drop (i + 1) raws)).made ≡ w
unfolding member_at
case_made inside defaulted raws i d old new w lt e f =
    let r = get_or raws i d in
    let rest = cases_at inside (default_after_at defaulted r) (drop (i + 1) raws) in
    ap (λ ms. join ms rest.made) f ∙ join_assoc old (member_at (slot.Branch defaulted) inside r).made rest.made
    ∙ ap (λ ms. join old ms) (parted_made (is_separator_at r) (place_at nowhere r) (shape_at (slot.Branch defaulted) inside r) rest) ∙ ap (λ x. join old x.made) (sym (case_step inside defaulted raws i d lt)) ∙ e

-- ---- arguments, by the parameters that are left

pub argument_more : (q : Parameter) (qs : List Parameter) (place : Place) (inside : Around) (r : Raw) (rs : List Raw) → arguments_in_at (q ∷ qs) place inside (r ∷ rs) ≡ joined (place_at place r) (shape_at (slot_as q.slot (meaning_at r)) inside r) (arguments_in_at qs place inside rs)
unfolding arguments_in_at writtens place_at bare_at meaning_at
argument_more q qs place inside r rs = refl

pub argument_left : (q : Parameter) (qs : List Parameter) (place : Place) (inside : Around) → arguments_in_at (q ∷ qs) place inside [] ≡ record { faults = (arguments_in_at qs place inside []).faults; made = join (missing place q) (arguments_in_at qs place inside []).made }
unfolding arguments_in_at writtens
argument_left q [] place inside = refl
argument_left q (p ∷ qs) place inside = refl

pub argument_end : (place : Place) (inside : Around) (rs : List Raw) → arguments_in_at [] place inside rs ≡ fine no_plans
unfolding arguments_in_at writtens
argument_end place inside [] = refl
argument_end place inside (r ∷ rs) = refl

pub left_faults : (q : Parameter) (place : Place) (inside : Around) (o : Option Raw) → o ≡ None → (argument_at q place inside o).faults ≡ []
unfolding argument_at
left_faults q place inside o e = ap (λ o. (argument_at q place inside o).faults) e

pub left_made : (q : Parameter) (place : Place) (inside : Around) (o : Option Raw) → o ≡ None → (argument_at q place inside o).made ≡ missing place q
unfolding argument_at
left_made q place inside o e = ap (λ o. (argument_at q place inside o).made) e

pub argument_some_faults : (q : Parameter) (place : Place) (inside : Around) (o : Option Raw) (r : Raw) → o ≡ Some r → (argument_at q place inside o).faults ≡ (shape_at (slot_as q.slot (meaning_at r)) inside r).faults
unfolding argument_at
argument_some_faults q place inside o r e = ap (λ o. (argument_at q place inside o).faults) e ∙ append-nil (shape_at (slot_as q.slot (meaning_at r)) inside r).faults

pub argument_some_made : (q : Parameter) (place : Place) (inside : Around) (o : Option Raw) (r : Raw) → o ≡ Some r → (argument_at q place inside o).made ≡ one_at place r (shape_at (slot_as q.slot (meaning_at r)) inside r).made
unfolding argument_at
argument_some_made q place inside o r e = ap (λ o. (argument_at q place inside o).made) e

abbrev size_option : Option Raw → ℕ
size_option None = 0
size_option (Some r) = size (written r)

pub size_got : (raws : List Raw) (i : ℕ) (r : Raw) → slice_get raws i ≡ Some r → size_at r ≤ sizes_at raws
unfolding sizes_at size_at writtens
size_got [] i r e = absurd (cc)
size_got (x ∷ xs) zero r e = subst (λ o. size_option o ≤ size (written x) + sizes (writtens xs)) e (omega arith)
size_got (x ∷ xs) (suc i) r e = omega (arith, size_got xs i r e)

pub got_some : (xs : List Raw) (i : ℕ) (d : Raw) → i < length xs → slice_get xs i ≡ Some (get_or xs i d)
got_some [] i d lt = absurd (omega (arith, lt))
got_some (x ∷ xs) zero d lt = refl
got_some (x ∷ xs) (suc i) d lt = got_some xs i d (omega (arith, lt))

pub got_none : (xs : List Raw) (i : ℕ) → length xs ≤ i → slice_get xs i ≡ None
got_none [] zero le = refl
got_none [] (suc i) le = refl
got_none (x ∷ xs) zero le = absurd (omega (arith, le))
got_none (x ∷ xs) (suc i) le = got_none xs i (omega (arith, le))

pub ruleset one_argument_rules = (left_faults, left_made, argument_some_faults, argument_some_made, nothing_more, nothing_behind, size_got)

next_argument : (q : Parameter) (qs : List Parameter) (place : Place) (inside : Around) (raws : List Raw) (i : ℕ)
    → ((argument_at q place inside (slice_get raws i)).faults ++ (arguments_in_at qs place inside (drop (suc i) raws)).faults ≡ (arguments_in_at (q ∷ qs) place inside (drop i raws)).faults)
    × (join (argument_at q place inside (slice_get raws i)).made (arguments_in_at qs place inside (drop (suc i) raws)).made ≡ (arguments_in_at (q ∷ qs) place inside (drop i raws)).made)
unfolding argument_at
next_argument q qs place inside [] zero = (sym (ap (λ x. x.faults) (argument_left q qs place inside)), sym (ap (λ x. x.made) (argument_left q qs place inside)))
next_argument q qs place inside [] (suc i) = (sym (ap (λ x. x.faults) (argument_left q qs place inside)), sym (ap (λ x. x.made) (argument_left q qs place inside)))
next_argument q qs place inside (r ∷ rs) zero = (ap (λ ms. ms ++ (arguments_in_at qs place inside rs).faults) (append-nil (shape_at (slot_as q.slot (meaning_at r)) inside r).faults) ∙ sym (ap (λ x. x.faults) (argument_more q qs place inside r rs)), sym (ap (λ x. x.made) (argument_more q qs place inside r rs)))
next_argument q qs place inside (r ∷ rs) (suc i) = next_argument q qs place inside rs i

later_argument : (qs : List Parameter) (place : Place) (inside : Around) (raws : List Raw) (i : ℕ) (d : Parameter) → i < length qs
    → ((argument_at (get_or qs i d) place inside (slice_get raws i)).faults ++ (arguments_in_at (drop (i + 1) qs) place inside (drop (i + 1) raws)).faults ≡ (arguments_in_at (drop i qs) place inside (drop i raws)).faults)
    × (join (argument_at (get_or qs i d) place inside (slice_get raws i)).made (arguments_in_at (drop (i + 1) qs) place inside (drop (i + 1) raws)).made ≡ (arguments_in_at (drop i qs) place inside (drop i raws)).made)
later_argument qs place inside raws i d lt =
    let step = next_argument (get_or qs i d) (drop (suc i) qs) place inside raws i in (
      ap (λ k. (argument_at (get_or qs i d) place inside (slice_get raws i)).faults ++ (arguments_in_at (drop k qs) place inside (drop k raws)).faults) (add-one i) ∙ step.0 ∙ ap (λ xs. (arguments_in_at xs place inside (drop i raws)).faults) (sym (drop-cons qs i d lt)),
      ap (λ k. join (argument_at (get_or qs i d) place inside (slice_get raws i)).made (arguments_in_at (drop k qs) place inside (drop k raws)).made) (add-one i) ∙ step.1 ∙ ap (λ xs. (arguments_in_at xs place inside (drop i raws)).made) (sym (drop-cons qs i d lt)),
    )

pub argument_faults : (qs : List Parameter) (place : Place) (inside : Around) (raws : List Raw) (i : ℕ) (d : Parameter) (old new w : List Message) → i < length qs → old ++ (arguments_in_at (drop i qs) place inside (drop i raws)).faults ≡ w
    → new ≡ old ++ (argument_at (get_or qs i d) place inside (slice_get raws i)).faults → new ++ (arguments_in_at (drop (i + 1) qs) place inside (drop (i + 1) raws)).faults ≡ w
argument_faults qs place inside raws i d old new w lt e f =
    ap (λ ms. ms ++ (arguments_in_at (drop (i + 1) qs) place inside (drop (i + 1) raws)).faults) f
    ∙ append_assoc old (argument_at (get_or qs i d) place inside (slice_get raws i)).faults (arguments_in_at (drop (i + 1) qs) place inside (drop (i + 1) raws)).faults
    ∙ ap (λ ms. old ++ ms) (later_argument qs place inside raws i d lt).0 ∙ e

pub argument_made : (qs : List Parameter) (place : Place) (inside : Around) (raws : List Raw) (i : ℕ) (d : Parameter) (old new w : Plans) → i < length qs → join old (arguments_in_at (drop i qs) place inside (drop i raws)).made ≡ w
    → new ≡ join old (argument_at (get_or qs i d) place inside (slice_get raws i)).made → join new (arguments_in_at (drop (i + 1) qs) place inside (drop (i + 1) raws)).made ≡ w
argument_made qs place inside raws i d old new w lt e f =
    ap (λ ms. join ms (arguments_in_at (drop (i + 1) qs) place inside (drop (i + 1) raws)).made) f
    ∙ join_assoc old (argument_at (get_or qs i d) place inside (slice_get raws i)).made (arguments_in_at (drop (i + 1) qs) place inside (drop (i + 1) raws)).made
    ∙ ap (λ ms. join old ms) (later_argument qs place inside raws i d lt).1 ∙ e

pub argument_over : (qs : List Parameter) (place : Place) (inside : Around) (raws : List Raw) (i : ℕ) → length qs ≤ i → arguments_in_at (drop i qs) place inside (drop i raws) ≡ fine no_plans
argument_over qs place inside raws i le = ap (λ xs. arguments_in_at xs place inside (drop i raws)) (drop_all i qs le) ∙ argument_end place inside (drop i raws)

pub ruleset argument_all = (argument_faults, argument_made, argument_over, nothing_more, nothing_behind)

pub item_smaller : (r : Raw) (place : Place) (w : List ℕ) (args body : Option (List Raw)) → r ≡ raw.Item place w args body → 16 * (size_in_at args + size_in_at body) + 10 < 16 * size_at r
item_smaller r place w args body e = let h : size_at r ≡ suc (size_in_at args + size_in_at body) = ap size_at e ∙ size_item place w args body in omega (arith, h)

pub size_more : (r : Raw) (rs : List Raw) → sizes_at (r ∷ rs) ≡ size_at r + sizes_at rs
unfolding sizes_at size_at writtens
size_more r rs = refl

pub none_left : (all F start : List Message) → all ≡ start ++ F → start ≡ [] → length all ≡ 0 → F ≡ []
none_left [] F start e s l = sym (e ∙ ap (λ ms. ms ++ F) s)
none_left (m ∷ ms) F start e s l = absurd (omega (arith, l))

pub all_made : (nodes start : List Node) (ps : Plans) → plans_of nodes ≡ join (plans_of start) ps → start ≡ [] → plans_of nodes ≡ ps
all_made nodes start ps e s = e ∙ ap (λ ns. join (plans_of ns) ps) s ∙ from_none ps
