-- A source without errors has a shape: each part of it fits where it stands.
use Rattle.std.proofs.Common.{◌≡◌, inl, inr, ℕ, suc, ◌+◌, ◌<◌, ◌≤◌, Bool, true, false, List, [], ◌∷◌, ◌++◌, length, zero, Option, Some, None, ◌%◌, refl, sym, ap, ◌∙◌, subst, arith}
use Rattle.std.specs.Prelude.{nat_le, not, ◌||◌, if◌then◌else◌}
use Rattle.std.proofs.lemmas.List.{length-append}
use Rattle.iasl_messages.specs.declared.place.Place.{Place}
use Rattle.acpi_values.specs.Widths.{ones_of}
use Rattle.acpi_values.specs.declared.width.Width.TheVariants.{W64}
use Rattle.asl_tree.specs.declared.term.Op.{Op}
use Rattle.asl_tree.specs.declared.term.Special.TheVariants as Special
use Rattle.acpi_state.specs.Outcomes.{choose}
use Rattle.acpi_values.specs.Paths.{NameSeg}
use Rattle.asl_tree.specs.FieldItems.{FieldItem, UnitItem, SkipItem, OffsetItem, AccessItem, ConnectionItem, ToName, ToBytes}
use Rattle.aml_sessions.specs.Ready.{IsItem}
use Rattle.std.proofs.Math.Nat.{mod-lt}
use Rattle.asl_tree.specs.Names.{single_in}
use Rattle.asl_tree.specs.Tree.{Tree, Integer, String, Use, Fill, Item, UnitName as FieldName, Trees, no_trees, tree, count}
use Rattle.asl_tree.specs.View.{body_bytes, items_in, listed as bytes_listed}
use Rattle.aml_code.specs.Fronts.{IsUsedName, AreSegments, is_segment}
use Rattle.named_sessions.specs.Shaped.{AreNamed, IsNumber, IsCaseMember, AreCaseMembers}
use Rattle.resource_layout.specs.declared.descriptor.Descriptor.{Descriptor}
use Rattle.resource_layout.specs.declared.descriptor.Kind.TheVariants as resource
use Rattle.asl_words.specs.declared.operator.Parameter.{Parameter}
use Rattle.asl_words.specs.declared.operator.TextMacro.{TextMacro}
use Rattle.asl_words.specs.declared.operator.Slot.{Slot}
use Rattle.asl_words.specs.declared.operator.Slot.TheVariants as slot
use Rattle.asl_words.specs.declared.operator.StringForm.TheVariants as texts
use Rattle.asl_words.specs.declared.operator.Body.{Body}
use Rattle.asl_words.specs.declared.operator.Body.TheVariants as braces
use Rattle.word_meanings.specs.declared.meaning.Meaning.{Meaning}
use Rattle.word_meanings.specs.declared.meaning.Meaning.TheVariants as is
use Rattle.asl_words.specs.declared.operator.FieldWord.{FieldWord}
use Rattle.asl_words.specs.Operators.{parameters_of, parameters_as, body_of, body_as, role_of, element_parameters, macro_parameters}
use Rattle.asl_words.specs.Resources.{descriptor_parameters, descriptor_body}
use Rattle.asl_words.specs.declared.operator.WordKind.TheVariants as kind
use Rattle.acpi_values.specs.declared.width.Width.{Width}
use Rattle.asl_shape.specs.declared.around.Around.{Around}
use Rattle.asl_shape.specs.declared.fields.Due.{Due}
use Rattle.asl_shape.specs.declared.fields.UnitName.{UnitName}
use Rattle.asl_syntax.specs.Written as piece
use Rattle.asl_syntax.specs.Written.{Written, Writtens, WrittenGroup, item, apply, listed, comma, semicolon, empty, none, more, absent, given}
use Rattle.term_plans.specs.Plans.{Plan, omitted, a_name, a_fill, a_unit, a_skip, an_access, Plans, no_plans, plan, plan_at, join, number_of, how_many}
use Rattle.asl_terms.specs.Terms.{Shaped, fine, refused, is_given, inside_of, evaluated, checked, place_of}
use Rattle.term_plans.specs.Places.{nowhere}
use Rattle.asl_shape.specs.Shapes.{is_empty, is_separator, has_arguments, takes, none_empty, left_out, skipped, list_shape}
use Rattle.asl_shape.specs.Shapes.{is_listed, byte_slot, run_after, within, form_shape, bare, operands, call_args, arguments, arguments_in}
use Rattle.asl_shape.specs.Shapes.{contents, members}
use Rattle.asl_terms.specs.Terms.{string_shape, arranged, accessed_as, connected_to, element_plan}
use Rattle.asl_shape.specs.Shapes.{terms, read_shape, element_shape, macro_shape, template_shape, descriptor_shape, is_number_list, meaning_in}
use Rattle.asl_shape.specs.Shapes.{is_field_list, begin, field_slot, named_unit, unit_behind, of_bits, field_part, due_behind, elements}
use Rattle.asl_shape.specs.Shapes.{cases, default_after, element_place, begun}
use Rattle.word_meanings.specs.Meanings.{meaning_of, may_end, may_be, is_branch_role, reading_of, slot_as, is_word_of, is_whole, is_long_attribute}
use Rattle.asl_terms.specs.Terms as shapes
use Rattle.asl_terms.specs.Symbols.{symbol_of}
use Rattle.asl_syntax.specs.declared.raw.Infix.{Infix}
use Rattle.program_shapes.specs.Kept.{IsKept, AreArguments, EachArgument, AreMembers, EachMember}
use Rattle.program_shapes.proofs.Fits.{Fits, IsAtMost, IsElement, IsAttribute, IsConnected, FormedValues, FormedElements, FormedTerms}
use Rattle.program_shapes.proofs.Forms.{ListFit}
use Rattle.program_shapes.proofs.Operators.{BodyFit}
use Rattle.program_shapes.proofs.Words.{path_ok, meaning_ok, symbol_spelled, both_true, IsRightMeaning}
use Rattle.asl_numbers.specs.Numbers.{numbered, numbered_all}
use Rattle.program_shapes.proofs.Plans.{PlanAs, PlansAs, PlanTakes, PlansFit, ArgumentsFit, are_asked, none_missing, are_further, is_ordered, behind_ordered, asked_ordered, further_fit, none_as, more_as, count_as}
use Rattle.program_shapes.proofs.Evaluated.{Loosely, checked_fit, checked_branch}
use Rattle.program_shapes.proofs.Branches.{AreBranches, ContentsFit}
use Rattle.program_shapes.proofs.Followed.{branches_fit, terms_more}
use Rattle.program_shapes.proofs.Settled.{ordered_of, ordered_as}
use Rattle.program_shapes.proofs.Macros.{macro_made}
use Rattle.program_shapes.proofs.Macros.{template_fit, descriptor_fit}
use Rattle.program_shapes.proofs.Parts.{none_in, number_fit, text_fit, string_fit, listed_fit, WordFits, IsSymbolic, form_in, symbol_fit, read_fit, item_fit, has_call}

not_true : (b : Bool) → not b ≡ true → b ≡ false
not_true true e = absurd cc
not_true false e = refl

-- ---- arguments

omit : (b : Bool) (s : Slot) (p : Plan) → p ≡ omitted → b ≡ true → PlanTakes b s p
omit true s p o e = inr o
omit false s p o e = absurd cc

take : (b : Bool) (s : Slot) (p : Plan) → PlanAs (Fits s) p → PlanTakes b s p
take true s p h = inl h
take false s p h = h

none_left : (qs : List Parameter) (at : Place) → are_further qs ≡ true → left_out at qs ≡ no_plans
none_left [] at e = refl
none_left (q ∷ qs) at e = let p = both_true q.further (are_further qs) e in ap (λ b. join (if b then no_plans else plan at omitted no_plans) (left_out at qs)) p.0 ∙ none_left qs at p.1

left_fit : (qs : List Parameter) (at : Place) → is_ordered qs ≡ true → may_end qs ≡ true → ArgumentsFit qs (left_out at qs)
left_fit [] at o e = tt
left_fit (q ∷ qs) at o e = let p = both_true (q.omittable || q.further) (may_end qs) e in by q.further refl o p.0 (left_fit qs at (behind_ordered q qs o) p.1)
  where
    asked : (a : Bool) → (a || false) ≡ true → a ≡ true
    asked true e = refl
    asked false e = absurd cc

    by : (b : Bool) → q.further ≡ b → (if b then are_further qs else is_ordered qs) ≡ true → (q.omittable || b) ≡ true → ArgumentsFit qs (left_out at qs)
        → ArgumentsFit (q ∷ qs) (join (if b then no_plans else plan at omitted no_plans) (left_out at qs))
    by true f o e k = subst (ArgumentsFit (q ∷ qs)) (sym (none_left qs at o)) (f, further_fit qs o)
    by false f o e k = (omit q.omittable q.slot omitted refl (asked q.omittable e), k)

ends : (qs : List Parameter) → takes qs none ≡ true → may_end qs ≡ true
ends [] e = refl
ends (q ∷ qs) e = e

left : (width : Width) (s : Slot) (at : Place) → (evaluated width s at omitted).faults ≡ [] → (evaluated width s at omitted).made ≡ omitted
left width (slot.Constant least most) at e = refl
left width slot.Measure at e = refl
left width slot.Element at e = absurd cc
left width _ at e = refl

argument_fit : (b : Bool) (s : Slot) (inside : Around) (w : Written) → (is_empty w ≡ false → (bare s inside w).faults ≡ [] → Loosely s (bare s inside w).made) → (b || not (is_empty w)) ≡ true
    → (checked inside.width s (place_of nowhere w) (bare s inside w)).faults ≡ [] → PlanTakes b s (checked inside.width s (place_of nowhere w) (bare s inside w)).made
argument_fit true s inside empty h t e = omit true s (evaluated inside.width s nowhere omitted).made (left inside.width s nowhere e) refl
argument_fit false s inside empty h t e = absurd cc
argument_fit b s inside comma h t e = take b s (checked inside.width s nowhere (bare s inside comma)).made (checked_fit inside.width s nowhere (bare s inside comma) (h refl) e)
argument_fit b s inside semicolon h t e = take b s (checked inside.width s nowhere (bare s inside semicolon)).made (checked_fit inside.width s nowhere (bare s inside semicolon) (h refl) e)
argument_fit b s inside (piece.number p n) h t e = take b s (checked inside.width s p (bare s inside (piece.number p n))).made (checked_fit inside.width s p (bare s inside (piece.number p n)) (h refl) e)
argument_fit b s inside (piece.text p n) h t e = take b s (checked inside.width s p (bare s inside (piece.text p n))).made (checked_fit inside.width s p (bare s inside (piece.text p n)) (h refl) e)
argument_fit b s inside (item p w args body) h t e = take b s (checked inside.width s p (bare s inside (item p w args body))).made (checked_fit inside.width s p (bare s inside (item p w args body)) (h refl) e)
argument_fit b s inside (apply p o ws) h t e = take b s (checked inside.width s p (bare s inside (apply p o ws))).made (checked_fit inside.width s p (bare s inside (apply p o ws)) (h refl) e)
argument_fit b s inside (listed p ws) h t e = take b s (checked inside.width s p (bare s inside (listed p ws))).made (checked_fit inside.width s p (bare s inside (listed p ws)) (h refl) e)

-- ---- what stands in braces

skipped_fit : (P : Trees → Type 0) (Q : Tree → Type 0) (b : Bool) (at : Place) (first : Shaped Plan) (rest : Shaped Plans) → ((t : Tree) (ts : Trees) → Q t → P ts → P (tree t ts))
    → (b ≡ false → first.faults ≡ [] → PlanAs Q first.made) → (rest.faults ≡ [] → PlansAs P rest.made) → (skipped b at first rest).faults ≡ [] → PlansAs P (skipped b at first rest).made
skipped_fit P Q true at first rest make h k e = k e
skipped_fit P Q false at first rest make h k e = let f = none_in first.faults rest.faults e in more_as P P Q at first.made rest.made make (h refl f.0) (k f.1)

list_fit : (P : Trees → Type 0) (b : Bool) (at : Place) (all : Shaped Plans) → (all.faults ≡ [] → PlansAs P all.made) → (list_shape at b all).faults ≡ [] → PlansAs P (list_shape at b all).made
list_fit P true at all h e = h e
list_fit P false at all h e = absurd cc

skipped_few : (b : Bool) (at : Place) (first : Shaped Plan) (rest : Shaped Plans) (n : ℕ) → how_many rest.made ≤ n → how_many (skipped b at first rest).made ≤ suc n
skipped_few true at first rest n h = omega (arith, h)
skipped_few false at first rest n h = omega (arith, h)

few : (s : Slot) (inside : Around) (ws : Writtens) → how_many (members s inside ws).made ≤ shapes.count ws
few s inside none = omega arith
few s inside (more w ws) = skipped_few (is_separator w) (place_of nowhere w) (checked inside.width s (place_of nowhere w) (bare s inside w)) (members s inside ws) (shapes.count ws) (few s inside ws)

abbrev AreNumbers : Trees → Type 0
AreNumbers no_trees = Unit {0}
AreNumbers (tree t ts) = IsNumber t × AreNumbers ts

listed_count : (ts : Trees) → AreNumbers ts → length (bytes_listed ts) ≡ count ts
listed_count no_trees h = refl
listed_count (tree (Integer n) ts) h = ap suc (listed_count ts h.1)
listed_count (tree _ ts) h = absurd h.0

bytes_count : (ts : Trees) → AreNumbers ts → length (body_bytes ts) ≡ count ts
bytes_count no_trees h = refl
bytes_count (tree (Integer n) no_trees) h = refl
bytes_count (tree (Integer n) (tree t ts)) h = ap suc (listed_count (tree t ts) h.1)
bytes_count (tree _ ts) h = absurd h.0

is_number : (most : ℕ) (t : Tree) → IsAtMost most t → IsNumber t
is_number most (Integer n) h = tt
is_number most _ h = absurd h

-- bytes that are numbers
numbers_fit : (inside : Around) (ws : Writtens) → PlansAs AreNumbers (members (slot.Constant 0 255) inside ws).made → shapes.count ws ≤ ones_of W64
    → PlansAs (λ ts. length (body_bytes ts) ≤ ones_of W64) (members (slot.Constant 0 255) inside ws).made
numbers_fit inside ws h lt = λ m.
    let all : count (numbered_all m (members (slot.Constant 0 255) inside ws).made) ≡ how_many (members (slot.Constant 0 255) inside ws).made = count_as (members (slot.Constant 0 255) inside ws).made m in
    let some : how_many (members (slot.Constant 0 255) inside ws).made ≤ shapes.count ws = few (slot.Constant 0 255) inside ws in
    let same : length (body_bytes (numbered_all m (members (slot.Constant 0 255) inside ws).made)) ≡ count (numbered_all m (members (slot.Constant 0 255) inside ws).made) = bytes_count (numbered_all m (members (slot.Constant 0 255) inside ws).made) (h m) in
    omega (arith, all, some, same, lt)

abbrev IsString' : Tree → Type 0
IsString' (String bytes) = length bytes < ones_of W64
IsString' _ = ⊥

string_bytes : (t : Tree) (ts : Trees) → IsString' t → ts ≡ no_trees → length (body_bytes (tree t ts)) ≤ ones_of W64
string_bytes (String bytes) no_trees h e = longer bytes h
  where
    longer : (bytes : List ℕ) → length bytes < ones_of W64 → length (bytes ++ 0 ∷ []) ≤ ones_of W64
    longer bytes h = let l : length (bytes ++ 0 ∷ []) ≡ length bytes + 1 = length-append bytes (0 ∷ []) in omega (arith, h, l)
string_bytes (String bytes) (tree t ts) h e = absurd cc
string_bytes _ ts h e = absurd h

-- bytes that are one string
one_string : (inside : Around) (p : Place) (bytes : List ℕ) → length bytes < ones_of W64 → (members (slot.String texts.Any) inside (more (piece.text p bytes) none)).faults ≡ []
    → PlansAs (λ ts. length (body_bytes ts) ≤ ones_of W64) (members (slot.String texts.Any) inside (more (piece.text p bytes) none)).made
one_string inside p bytes lt e =
    more_as (λ ts. length (body_bytes ts) ≤ ones_of W64) (λ ts. ts ≡ no_trees) IsString' p (checked inside.width (slot.String texts.Any) p (string_shape texts.Any p bytes)).made no_plans (λ t ts h k. string_bytes t ts h k)
    (kept (none_in (checked inside.width (slot.String texts.Any) p (string_shape texts.Any p bytes)).faults [] e).0) (none_as (λ ts. ts ≡ no_trees) refl)
  where
    kept : (checked inside.width (slot.String texts.Any) p (string_shape texts.Any p bytes)).faults ≡ [] → PlanAs IsString' (checked inside.width (slot.String texts.Any) p (string_shape texts.Any p bytes)).made
    kept e = by (string_shape texts.Any p bytes) (λ f. string_fit IsString' texts.Any p bytes (λ h. lt) f) e
      where
        by : (shape : Shaped Plan) → (shape.faults ≡ [] → PlanAs IsString' shape.made) → (checked inside.width (slot.String texts.Any) p shape).faults ≡ [] → PlanAs IsString' (checked inside.width (slot.String texts.Any) p shape).made
        by shape h e = same shape.faults refl e
          where
            same : (fs : List _) → shape.faults ≡ fs → (shapes.after fs shape (fine shape.made)).faults ≡ [] → PlanAs IsString' (shapes.after fs shape (fine shape.made)).made
            same [] f e = h f
            same (m ∷ ms) f e = absurd cc

bytes_fit : (inside : Around) (ws : Writtens) → EachMember ws → shapes.count ws ≤ ones_of W64
    → ((members (slot.Constant 0 255) inside ws).faults ≡ [] → PlansAs AreNumbers (members (slot.Constant 0 255) inside ws).made)
    → (members (byte_slot ws) inside ws).faults ≡ [] → PlansAs (λ ts. length (body_bytes ts) ≤ ones_of W64) (members (byte_slot ws) inside ws).made
bytes_fit inside none k lt h e = none_as (λ ts. length (body_bytes ts) ≤ ones_of W64) (omega arith)
bytes_fit inside (more (piece.text p bytes) none) k lt h e = one_string inside p bytes k.0 e
bytes_fit inside (more w none) k lt h e = numbers_fit inside (more w none) (h e) lt
bytes_fit inside (more (piece.text p bytes) (more piece.comma none)) k lt h e = one_string inside p bytes k.0 e
bytes_fit inside (more w (more piece.comma none)) k lt h e = numbers_fit inside (more w (more piece.comma none)) (h e) lt
bytes_fit inside (more w (more v none)) k lt h e = numbers_fit inside (more w (more v none)) (h e) lt
bytes_fit inside (more w (more v (more u us))) k lt h e = numbers_fit inside (more w (more v (more u us))) (h e) lt

is_called : (m : Meaning) (ws : Writtens) → has_arguments m ws ≡ true → has_call m ≡ true → none_empty ws ≡ true
is_called is.Name ws h e = (both_true (nat_le (shapes.count ws) 7) (none_empty ws) h).1
is_called is.Path ws h e = (both_true (nat_le (shapes.count ws) 7) (none_empty ws) h).1
is_called _ ws h e = absurd cc

takes_of : (m : Meaning) (op : Op) (ws : Writtens) → m ≡ is.Operator op → has_arguments m ws ≡ true → takes (parameters_of op) ws ≡ true
takes_of m op ws e h = subst (λ m. has_arguments m ws ≡ true) e h

takes_text : (m : Meaning) (x : TextMacro) (ws : Writtens) → m ≡ is.Macro x → has_arguments m ws ≡ true → takes (macro_parameters x) ws ≡ true
takes_text m x ws e h = subst (λ m. has_arguments m ws ≡ true) e h

-- what fits in one slot fits in another
takes_as_well : (b : Bool) (s r : Slot) (p : Plan) → ((t : Tree) → Fits s t → Fits r t) → PlanTakes b s p → PlanTakes b r p
takes_as_well true s r p f (inl h) = inl (λ at next. f (numbered at next p) (h at next))
takes_as_well true s r p f (inr e) = inr e
takes_as_well false s r p f h = λ at next. f (numbered at next p) (h at next)

number_attribute : (most : ℕ) (t : Tree) → IsAtMost most t → IsAttribute t
number_attribute most (Integer n) h = tt
number_attribute most _ h = absurd h

-- an argument fits as it is asked for, however it is read
as_asked : (b : Bool) (s : Slot) (m : Meaning) (p : Plan) → PlanTakes b (slot_as s m) p → PlanTakes b s p
as_asked b slot.Space m p h = by (is_word_of kind.Space m) b h
  where
    by : (t b : Bool) → PlanTakes b (if t then slot.Word kind.Space else slot.Constant 128 255) p → PlanTakes b slot.Space p
    by true true h = h
    by true false h = h
    by false true h = h
    by false false h = h
as_asked b slot.RegisterSpace m p h = by (is_word_of kind.Space m) (is_word_of (kind.Resource resource.Space) m) b h
  where
    by : (t u b : Bool) → PlanTakes b (if t then slot.Word kind.Space else (if u then slot.Word (kind.Resource resource.Space) else slot.Constant 0 255)) p → PlanTakes b slot.RegisterSpace p
    by true u true h = h
    by true u false h = h
    by false true true h = h
    by false true false h = h
    by false false true h = h
    by false false false h = h
as_asked b (slot.WordOrByte which) m p h = by (is_word_of (kind.Resource which) m) b h
  where
    by : (t b : Bool) → PlanTakes b (if t then slot.Word (kind.Resource which) else slot.Constant 0 255) p → PlanTakes b (slot.WordOrByte which) p
    by true true h = h
    by true false h = h
    by false true h = h
    by false false h = h
as_asked b slot.AccessType m p h = takes_as_well b (slot_as slot.AccessType m) slot.AccessType p (λ t h. tt) h
as_asked b slot.Attribute m p h = by (is_long_attribute m) (is_word_of kind.Attribute m) h
  where
    by : (t u : Bool) → PlanTakes b (if t then slot.Attribute else (if u then slot.Word kind.Attribute else slot.Constant 0 255)) p → PlanTakes b slot.Attribute p
    by true u h = h
    by false true h = takes_as_well b (slot.Word kind.Attribute) slot.Attribute p (λ t h. number_attribute 255 t h) h
    by false false h = takes_as_well b (slot.Constant 0 255) slot.Attribute p (λ t h. number_attribute 255 t h) h
as_asked b slot.FieldElement m p h = by (is_whole m) b h
  where
    by : (t b : Bool) → PlanTakes b (if t then slot.WholeElement else slot.FieldElement) p → PlanTakes b slot.FieldElement p
    by true true h = h
    by true false h = h
    by false true h = h
    by false false h = h
as_asked b _ m p h = h

-- ---- the list of a field

abbrev AreListed : Trees → Type 0
AreListed ts = ListFit (items_in ts)

abbrev UnitFits : Option UnitName → Type 0
UnitFits None = Unit {0}
UnitFits (Some unit) = is_segment unit.segment ≡ true

item_listed : (t : Tree) (ts : Trees) → IsElement t → AreListed ts → AreListed (tree t ts)
item_listed (Use at name) ts h k = by (items_in ts) k
  where
    by : (o : Option (List (FieldItem FieldName))) → ListFit o → ListFit (choose o None (λ items. Some (ConnectionItem (ToName at name) ∷ items)))
    by None k = absurd k
    by (Some items) k = (h, k)
item_listed (Fill bytes) ts h k = by (items_in ts) k
  where
    by : (o : Option (List (FieldItem FieldName))) → ListFit o → ListFit (choose o None (λ items. Some (ConnectionItem (ToBytes bytes) ∷ items)))
    by None k = absurd k
    by (Some items) k = (tt, k)
item_listed (Item part) ts h k = by (items_in ts) k
  where
    both : (part : FieldItem FieldName) (items : List (FieldItem FieldName)) → AreNamed (part ∷ []) → AreNamed items → AreNamed (part ∷ items)
    both (UnitItem name bits) items h k = (h.0, k)
    both (SkipItem bits) items h k = k
    both (OffsetItem bytes) items h k = k
    both (AccessItem access attribute count) items h k = (h.0, k)
    both (ConnectionItem to) items h k = (h.0, k)

    by : (o : Option (List (FieldItem FieldName))) → ListFit o → ListFit (choose o None (λ items. Some (part ∷ items)))
    by None k = absurd k
    by (Some items) k = both part items h k
item_listed _ ts h k = absurd h

item_more : (place : Place) (p : Plan) (rest : Plans) → PlanAs IsElement p → PlansAs AreListed rest → PlansAs AreListed (plan place p rest)
item_more place p rest h k = more_as AreListed AreListed IsElement place p rest item_listed h k

unit_as : (segment : NameSeg) (bits : ℕ) → is_segment segment ≡ true → PlanAs IsElement (a_unit segment bits)
unfolding numbered
unit_as segment bits h = λ at next. (h, tt)

skip_as : (bits : ℕ) → PlanAs IsElement (a_skip bits)
unfolding numbered
skip_as bits = λ at next. tt

-- a word of a field's list comes to an element, or to an attribute
access_as : (access : ℕ) (p : Plan) → PlanTakes true slot.Attribute p → PlanAs IsElement (accessed_as (access % 256) p)
unfolding numbered
access_as access (an_access other attribute length) (inl h) =
    let bytes : IsItem 0 (AccessItem other attribute length) = h (record { id = 0; place = nowhere }) 0 in
    λ at next. ((mod-lt access (omega arith), bytes.1, bytes.2), tt)
access_as access (an_access other attribute length) (inr e) = absurd cc
access_as access p h = λ at next. ((mod-lt access (omega arith), mod-lt (number_of p) (omega arith), tt), tt)

connected_element : (t : Tree) → IsConnected t → IsElement t
connected_element (Use at name) h = h
connected_element (Fill bytes) h = tt
connected_element _ h = absurd h

connection_as : (p : Plan) → PlanAs IsConnected p → PlanAs IsElement (connected_to p)
unfolding numbered
connection_as (a_fill bytes named) h = λ at next. tt
connection_as p h = λ at next. connected_element (numbered at next p) (h at next)

element_asked : (w : FieldWord) → are_asked (element_parameters w) ≡ true
unfolding element_parameters
element_asked FieldWord.Offset = refl
element_asked FieldWord.AccessAs = refl
element_asked FieldWord.Connection = refl
element_asked FieldWord.AttribBytes = refl

macro_asked : (m : TextMacro) → are_asked (macro_parameters m) ≡ true
unfolding macro_parameters
macro_asked m = refl

element_fit : (w : FieldWord) (ps : Plans) → PlansFit (element_parameters w) ps → PlanAs (WordFits w) (element_plan w ps)
unfolding numbered element_parameters
element_fit FieldWord.Offset ps h = λ at next. tt
element_fit FieldWord.AccessAs no_plans h = absurd h
element_fit FieldWord.AccessAs (plan place p no_plans) h = absurd h.1
element_fit FieldWord.AccessAs (plan place p (plan other q rest)) h = access_as (number_of p) q h.1.0
element_fit FieldWord.Connection no_plans h = absurd h
element_fit FieldWord.Connection (plan place p rest) h = connection_as p h.0
element_fit FieldWord.AttribBytes ps h = λ at next. (omega arith, omega arith, mod-lt (number_of (plan_at ps 0)) (omega arith))

takes_word_of : (m : Meaning) (w : FieldWord) (ws : Writtens) → m ≡ is.Element w → has_arguments m ws ≡ true → takes (element_parameters w) ws ≡ true
takes_word_of m w ws e h = subst (λ m. has_arguments m ws ≡ true) e h

bits_fit : (unit : Option UnitName) (place : Place) (n : ℕ) (rest : Plans) → UnitFits unit → PlansAs AreListed rest → PlansAs AreListed (join (of_bits unit place n) rest)
bits_fit None place n rest u k = item_more place (a_skip n) rest (skip_as n) k
bits_fit (Some unit) place n rest u k = item_more unit.place (a_unit unit.segment n) rest (unit_as unit.segment n u) k

-- what begins an element, however it is read
begun_as : (m : Meaning) (p : Plan) → PlanAs (Fits (slot_as slot.FieldElement m)) p → PlanAs IsElement p
begun_as m p h = by (is_whole m) h
  where
    by : (b : Bool) → PlanAs (Fits (if b then slot.WholeElement else slot.FieldElement)) p → PlanAs IsElement p
    by true h = h
    by false h = h

part_fit : (due : Due) (unit : Option UnitName) (place : Place) (m : Meaning) (whole separator : Bool) (shape : Shaped Plan) (rest : Plans) → UnitFits unit
    → (separator ≡ false → shape.faults ≡ [] → PlanAs (Fits (field_slot due m)) shape.made) → (field_part due unit place whole separator shape).faults ≡ []
    → PlansAs AreListed rest → PlansAs AreListed (join (field_part due unit place whole separator shape).made rest)
part_fit Due.Element unit place m whole true shape rest u h e k = k
part_fit Due.Element unit place m true false shape rest u h e k = item_more place shape.made rest (begun_as m shape.made (h refl e)) k
part_fit Due.Element unit place m false false shape rest u h e k = k
part_fit Due.NameComma unit place m whole true shape rest u h e k = k
part_fit Due.NameComma unit place m whole false shape rest u h e k = k
part_fit Due.Bits unit place m whole separator shape rest u h e k = bits_fit unit place (number_of shape.made) rest u k
part_fit Due.Comma unit place m whole separator shape rest u h e k = k

single_fits : (place : Place) (root : Bool) (up : ℕ) (segs : List NameSeg) → AreSegments segs → UnitFits (choose (single_in root up segs) None (λ segment. Some (record { place = place; segment = segment })))
single_fits place false zero (seg ∷ []) h = h.0
single_fits place _ _ _ h = tt

named_fits : (place : Place) (p : Plan) → PlanAs IsElement p → UnitFits (named_unit place p)
unfolding numbered
named_fits place (a_name path) h = let used : IsUsedName path = h (record { id = 0; place = place }) 0 in single_fits place path.root path.up path.segs used.is_name.segments
named_fits place _ h = tt

begun_fits : (whole : Bool) (place : Place) (p : Plan) → PlanAs IsElement p → UnitFits (begun whole place p)
begun_fits true place p h = tt
begun_fits false place p h = named_fits place p h

next_fits : (due : Due) (unit : Option UnitName) (place : Place) (m : Meaning) (whole separator : Bool) (shape : Shaped Plan) → UnitFits unit
    → (separator ≡ false → shape.faults ≡ [] → PlanAs (Fits (field_slot due m)) shape.made)
    → (field_part due unit place whole separator shape).faults ≡ [] → UnitFits (unit_behind due unit place whole separator shape.made)
next_fits Due.Element unit place m whole true shape u h e = tt
next_fits Due.Element unit place m whole false shape u h e = begun_fits whole place shape.made (begun_as m shape.made (h refl e))
next_fits Due.NameComma unit place m whole separator shape u h e = u
next_fits Due.Bits unit place m whole separator shape u h e = tt
next_fits Due.Comma unit place m whole separator shape u h e = tt

right_of : (m : Meaning) (op : Op) → m ≡ is.Operator op → IsRightMeaning m → IsRightMeaning (is.Operator op)
right_of m op e h = subst IsRightMeaning e h

symbol_ever : (o : Infix) → IsSymbolic (symbol_of o)
symbol_ever Infix.Index = tt
symbol_ever _ = tt

symbol_role : (o : Infix) → is_branch_role (role_of (symbol_of o)) ≡ false
symbol_role Infix.Index = refl
symbol_role _ = refl

-- no braces stand behind a symbol
no_body : (o : Infix) → PlansAs (BodyFit (body_of (symbol_of o))) (arranged (symbol_of o) no_plans)
no_body Infix.Index = none_as (BodyFit braces.No) refl
no_body _ = none_as (BodyFit braces.No) refl

-- a form takes as many arguments, however it is read
takes_as : (op : Op) (s : Slot) (ws : Writtens) → takes (parameters_of op) ws ≡ true → takes (parameters_as op s) ws ≡ true
unfolding parameters_of
takes_as (Op.Special Special.Buffer) slot.CaseValue none e = refl
takes_as (Op.Special Special.Buffer) slot.CaseValue (more w ws) e = e
takes_as (Op.Special Special.Buffer) slot.CaseMember none e = refl
takes_as (Op.Special Special.Buffer) slot.CaseMember (more w ws) e = e
takes_as (Op.Special Special.Buffer) _ ws e = e
takes_as (Op.Special Special.Package) slot.CaseValue none e = refl
takes_as (Op.Special Special.Package) slot.CaseValue (more w ws) e = e
takes_as (Op.Special Special.Package) _ ws e = e
takes_as _ s ws e = e

may_of : (s : Slot) (inside : Bool) (m : Meaning) (op : Op) → m ≡ is.Operator op → may_be s inside m ≡ true → may_be s inside (is.Operator op) ≡ true
may_of s inside m op e h = subst (λ m. may_be s inside m ≡ true) e h

-- ---- the whole

mutual
  pub bare_fit : (s : Slot) (inside : Around) (w : Written) → IsKept w → is_separator w ≡ false → is_empty w ≡ false → (bare s inside w).faults ≡ [] → Loosely s (bare s inside w).made
  bare_fit s inside (piece.number at n) k sep emp e = number_fit s at n e
  bare_fit s inside (piece.text at bytes) k sep emp e = text_fit s at bytes e
  bare_fit s inside (listed at ws) k sep emp e = listed_fit s at ws e
  bare_fit s inside (apply at o ws) k sep emp e =
      symbol_fit inside.width s at (symbol_of o) (arguments_in (parameters_of (symbol_of o)) at inside ws) (symbol_spelled o) (symbol_ever o) (symbol_role o) (no_body o) (λ f. each_fit (parameters_of (symbol_of o)) at inside ws k.0 (ordered_of (symbol_of o)) k.1 f) e
  bare_fit s inside (item at w args body) k sep emp e =
      let m : Meaning = meaning_of w (is_given body) in
      let form : Op → Shaped Plan = λ o. form_shape inside.width o at (arguments (parameters_as o s) at inside args) (contents (body_as o s) (within o inside) at body) in
      let element : FieldWord → Shaped Plan = λ e. element_shape e (arguments (element_parameters e) at inside args) in
      let expanded : TextMacro → Shaped Plan = λ x. macro_shape (arguments (macro_parameters x) at inside args) in
      let template : Shaped Plan = template_shape at (contents (braces.Descriptors false) inside at body) in
      let described : Descriptor → Shaped Plan = λ d. descriptor_shape d at (is_number_list (descriptor_body d) body) (arguments (descriptor_parameters d) at inside args) (contents (descriptor_body d) inside at body) in
      item_fit (Loosely s) s inside.method m (has_arguments m (inside_of args)) (is_given body) at (read_shape s at w (reading_of s m (is_given args)) (call_args inside args) element expanded template described form)
      (λ may has f. read_fit s at w m (is_given args) (call_args inside args) element expanded template described form (meaning_ok w (is_given body)) (path_ok w)
      (λ c g. calls_fit inside args k.0 (is_called m (inside_of args) has c) g)
      (λ op is t g. form_in s inside.method inside.width op at (arguments (parameters_as op s) at inside args) (contents (body_as op s) (within op inside) at body) (right_of m op is (meaning_ok w (is_given body))) (may_of s inside.method m op is may) t
      (λ f. arguments_fit (parameters_as op s) at inside args k.0 (ordered_as op s) (takes_as op s (inside_of args) (takes_of m op (inside_of args) is has)) f)
      (λ f. contents_fit (body_as op s) (within op inside) at body k.1 f) g)
      (λ x is g. element_fit x (arguments (element_parameters x) at inside args).made (none_missing (element_parameters x) (arguments (element_parameters x) at inside args).made (element_asked x)
      (arguments_fit (element_parameters x) at inside args k.0 (asked_ordered (element_parameters x) (element_asked x)) (takes_word_of m x (inside_of args) is has) g)))
      (λ x is g. macro_made x (arguments (macro_parameters x) at inside args).made (none_missing (macro_parameters x) (arguments (macro_parameters x) at inside args).made (macro_asked x)
      (arguments_fit (macro_parameters x) at inside args k.0 (asked_ordered (macro_parameters x) (macro_asked x)) (takes_text m x (inside_of args) is has) g)))
      (λ is g. template_fit at (contents (braces.Descriptors false) inside at body).made)
      (λ d is g. descriptor_fit d (arguments (descriptor_parameters d) at inside args).made (contents (descriptor_body d) inside at body).made)
      f)
      e
  bare_fit s inside comma k sep emp e = absurd cc
  bare_fit s inside semicolon k sep emp e = absurd cc
  bare_fit s inside empty k sep emp e = absurd cc

  calls_fit : (inside : Around) (args : WrittenGroup) → AreArguments args → none_empty (inside_of args) ≡ true → (call_args inside args).faults ≡ [] → PlansAs FormedValues (call_args inside args).made
  calls_fit inside absent k t e = none_as FormedValues tt
  calls_fit inside (given ws) k t e = values_fit inside ws k t e

  values_fit : (inside : Around) (ws : Writtens) → EachArgument ws → none_empty ws ≡ true → (operands slot.Expression inside ws).faults ≡ [] → PlansAs FormedValues (operands slot.Expression inside ws).made
  values_fit inside none k t e = none_as FormedValues tt
  values_fit inside (more w ws) k t e =
      let first : Shaped Plan = checked inside.width slot.Expression (place_of nowhere w) (bare slot.Expression inside w) in
      let rest : Shaped Plans = operands slot.Expression inside ws in
      let f = none_in first.faults rest.faults e in
      let g = both_true (not (is_empty w)) (none_empty ws) t in
      more_as FormedValues FormedValues (Fits slot.Expression) (place_of nowhere w) first.made rest.made (λ t ts h i. (h.0, h.1, i))
      (checked_fit inside.width slot.Expression (place_of nowhere w) (bare slot.Expression inside w) (λ h. bare_fit slot.Expression inside w k.0 k.1 (not_true (is_empty w) g.0) h) f.0) (values_fit inside ws k.2 g.1 f.1)

  arguments_fit : (qs : List Parameter) (at : Place) (inside : Around) (args : WrittenGroup) → AreArguments args → is_ordered qs ≡ true → takes qs (inside_of args) ≡ true → (arguments qs at inside args).faults ≡ []
      → ArgumentsFit qs (arguments qs at inside args).made
  arguments_fit qs at inside absent k o t e = left_fit qs at o (ends qs t)
  arguments_fit qs at inside (given ws) k o t e = each_fit qs at inside ws k o t e

  each_fit : (qs : List Parameter) (at : Place) (inside : Around) (ws : Writtens) → EachArgument ws → is_ordered qs ≡ true → takes qs ws ≡ true → (arguments_in qs at inside ws).faults ≡ [] → ArgumentsFit qs (arguments_in qs at inside ws).made
  each_fit qs at inside none k o t e = left_fit qs at o (ends qs t)
  each_fit [] at inside (more w ws) k o t e = absurd cc
  each_fit (q ∷ qs) at inside (more w ws) k o t e =
      let s : Slot = slot_as q.slot (meaning_in w) in
      let first : Shaped Plan = checked inside.width s (place_of nowhere w) (bare s inside w) in
      let f = none_in first.faults (arguments_in qs at inside ws).faults e in
      let g = both_true (q.omittable || not (is_empty w)) (takes qs ws) t in
      (as_asked q.omittable q.slot (meaning_in w) first.made (argument_fit q.omittable s inside w (λ emp h. bare_fit s inside w k.0 k.1 emp h) g.0 f.0), each_fit qs at inside ws k.2 (behind_ordered q qs o) g.1 f.1)

  contents_fit : (b : Body) (inside : Around) (at : Place) (body : WrittenGroup) → AreMembers body → (contents b inside at body).faults ≡ [] → ContentsFit b (contents b inside at body).made
  contents_fit braces.No inside at absent k e = none_as (BodyFit braces.No) refl
  contents_fit braces.Terms inside at absent k e = none_as (BodyFit braces.Terms) tt
  contents_fit braces.Bytes inside at absent k e = none_as (BodyFit braces.Bytes) (omega arith)
  contents_fit braces.FieldList inside at absent k e = none_as AreListed tt
  contents_fit braces.Elements inside at absent k e = none_as (BodyFit braces.Elements) (tt, omega arith)
  contents_fit (braces.Numbers most) inside at absent k e = none_as (BodyFit (braces.Numbers most)) tt
  contents_fit (braces.Descriptors chosen) inside at absent k e = none_as (BodyFit (braces.Descriptors chosen)) tt
  contents_fit braces.Cases inside at absent k e = tt
  contents_fit braces.CaseMembers inside at absent k e = none_as AreCaseMembers tt
  contents_fit (braces.Numbers most) inside at (given ws) k e = λ m. tt
  contents_fit (braces.Descriptors chosen) inside at (given ws) k e = λ m. tt
  contents_fit braces.No inside at (given ws) k e = none_as (BodyFit braces.No) refl
  contents_fit braces.Terms inside at (given ws) k e = terms_fit inside None ws k.0 e
  contents_fit braces.Bytes inside at (given ws) k e = list_fit (BodyFit braces.Bytes) (is_listed true ws) at (members (byte_slot ws) inside ws) (λ f. bytes_fit inside ws k.0 k.1 (λ g. octets_fit inside ws k.0 g) f) e
  contents_fit braces.FieldList inside at (given ws) k e = list_fit AreListed (is_field_list begin ws) at (elements begin None inside ws) (λ f. parts_fit begin None inside ws tt k.0 f) e
  contents_fit braces.Elements inside at (given ws) k e =
      list_fit (BodyFit braces.Elements) (is_listed true ws) at (members slot.Element inside ws)
      (λ f. λ m. (
        elements_fit inside ws k.0 f m,
        (let all : count (numbered_all m (members slot.Element inside ws).made) ≡ how_many (members slot.Element inside ws).made = count_as (members slot.Element inside ws).made m in
            let some : how_many (members slot.Element inside ws).made ≤ shapes.count ws = few slot.Element inside ws in
            let lt : shapes.count ws ≤ ones_of W64 = k.1 in
            omega (arith, all, some, lt)),
      )) e
  contents_fit braces.Cases inside at (given ws) k e = cases_fit inside false ws k.0 e
  contents_fit braces.CaseMembers inside at (given ws) k e = list_fit AreCaseMembers (is_listed true ws) at (members slot.CaseMember inside ws) (λ f. compared_fit inside ws k.0 f) e

  parts_fit : (due : Due) (unit : Option UnitName) (inside : Around) (ws : Writtens) → UnitFits unit → EachMember ws → (elements due unit inside ws).faults ≡ [] → PlansAs AreListed (elements due unit inside ws).made
  parts_fit due unit inside none u k e = none_as AreListed tt
  parts_fit due unit inside (more w ws) u k e =
      let m : Meaning = meaning_in w in
      let s : Slot = field_slot due m in
      let at : Place = element_place w in
      let shape : Shaped Plan = checked inside.width s (place_of nowhere w) (bare s inside w) in
      let part : Shaped Plans = field_part due unit at (is_whole m) (is_separator w) shape in
      let next : Option UnitName = unit_behind due unit at (is_whole m) (is_separator w) shape.made in
      let rest : Shaped Plans = elements (due_behind due w) next inside ws in
      let f = none_in part.faults rest.faults e in
      let good : is_separator w ≡ false → shape.faults ≡ [] → PlanAs (Fits s) shape.made =
      λ sep g. checked_fit inside.width s (place_of nowhere w) (bare s inside w) (λ h. bare_fit s inside w k.0 sep k.1 h) g in
      let fits : UnitFits next = next_fits due unit at m (is_whole m) (is_separator w) shape u good f.0 in
      part_fit due unit at m (is_whole m) (is_separator w) shape rest.made u good f.0 (parts_fit (due_behind due w) next inside ws fits k.2 f.1)

  elements_fit : (inside : Around) (ws : Writtens) → EachMember ws → (members slot.Element inside ws).faults ≡ [] → PlansAs FormedElements (members slot.Element inside ws).made
  elements_fit inside none k e = none_as FormedElements tt
  elements_fit inside (more w ws) k e =
      skipped_fit FormedElements (Fits slot.Element) (is_separator w) (place_of nowhere w) (checked inside.width slot.Element (place_of nowhere w) (bare slot.Element inside w)) (members slot.Element inside ws) (λ t ts h i. (h, i))
      (λ sep f. checked_fit inside.width slot.Element (place_of nowhere w) (bare slot.Element inside w) (λ h. bare_fit slot.Element inside w k.0 sep k.1 h) f) (λ f. elements_fit inside ws k.2 f) e

  octets_fit : (inside : Around) (ws : Writtens) → EachMember ws → (members (slot.Constant 0 255) inside ws).faults ≡ [] → PlansAs AreNumbers (members (slot.Constant 0 255) inside ws).made
  octets_fit inside none k e = none_as AreNumbers tt
  octets_fit inside (more w ws) k e =
      skipped_fit AreNumbers (IsAtMost 255) (is_separator w) (place_of nowhere w) (checked inside.width (slot.Constant 0 255) (place_of nowhere w) (bare (slot.Constant 0 255) inside w)) (members (slot.Constant 0 255) inside ws)
      (λ t ts h i. (is_number 255 t h, i))
      (λ sep f. checked_fit inside.width (slot.Constant 0 255) (place_of nowhere w) (bare (slot.Constant 0 255) inside w) (λ h. bare_fit (slot.Constant 0 255) inside w k.0 sep k.1 h) f) (λ f. octets_fit inside ws k.2 f) e

  compared_fit : (inside : Around) (ws : Writtens) → EachMember ws → (members slot.CaseMember inside ws).faults ≡ [] → PlansAs AreCaseMembers (members slot.CaseMember inside ws).made
  compared_fit inside none k e = none_as AreCaseMembers tt
  compared_fit inside (more w ws) k e =
      skipped_fit AreCaseMembers IsCaseMember (is_separator w) (place_of nowhere w) (checked inside.width slot.CaseMember (place_of nowhere w) (bare slot.CaseMember inside w)) (members slot.CaseMember inside ws) (λ t ts h i. (h, i))
      (λ sep f. checked_fit inside.width slot.CaseMember (place_of nowhere w) (bare slot.CaseMember inside w) (λ h. bare_fit slot.CaseMember inside w k.0 sep k.1 h) f) (λ f. compared_fit inside ws k.2 f) e

  cases_fit : (inside : Around) (defaulted : Bool) (ws : Writtens) → EachMember ws → (cases inside defaulted ws).faults ≡ [] → AreBranches defaulted (cases inside defaulted ws).made
  cases_fit inside defaulted none k e = tt
  cases_fit inside defaulted (more w ws) k e =
      branches_fit inside defaulted w (cases inside (default_after defaulted w) ws) k.1 (λ sep f. checked_branch inside.width defaulted (place_of nowhere w) (bare (slot.Branch defaulted) inside w) (λ h. bare_fit (slot.Branch defaulted) inside w k.0 sep k.1 h) f)
      (λ f. cases_fit inside (default_after defaulted w) ws k.2 f) e

  pub terms_fit : (inside : Around) (run : Option ℕ) (ws : Writtens) → EachMember ws → (terms inside run ws).faults ≡ [] → PlansAs FormedTerms (terms inside run ws).made
  terms_fit inside run none k e = none_as FormedTerms tt
  terms_fit inside run (more w ws) k e =
      terms_more inside run w ws (λ sep f. checked_fit inside.width (slot.Term run) (place_of nowhere w) (bare (slot.Term run) inside w) (λ h. bare_fit (slot.Term run) inside w k.0 sep k.1 h) f) (λ f. terms_fit inside (run_after run w) ws k.2 f) e

-- the terms of a block
pub in_braces : (around : Around) (body : WrittenGroup) → AreMembers body → (terms around None (inside_of body)).faults ≡ [] → PlansAs FormedTerms (terms around None (inside_of body)).made
in_braces around absent k e = none_as FormedTerms tt
in_braces around (given ws) k e = terms_fit around None ws k.0 e
