-- The elements of a field's list, one at a time.
use Rattle.std.proofs.Common.{◌≡◌, ℕ, ◌+◌, ◌<◌, ◌≤◌, length, get_or, drop, List, [], ◌++◌, append_assoc, refl, ap, ◌∙◌, sym, Option, None, Bool, true, false}
use Rattle.std.proofs.lemmas.List.{drop_all}
use Rattle.iasl_messages.specs.declared.message.Message.{Message}
use Rattle.asl_syntax.specs.declared.raw.Raw.{Raw}
use Rattle.asl_words.specs.declared.operator.Slot.TheVariants as slot
use Rattle.asl_shape.specs.declared.around.Around.{Around}
use Rattle.asl_shape.specs.declared.fields.Due.{Due}
use Rattle.asl_shape.specs.declared.fields.UnitName.{UnitName}
use Rattle.asl_syntax.specs.Written.{writtens}
use Rattle.word_meanings.specs.Meanings.{slot_as, is_whole}
use Rattle.term_plans.specs.Plans.{Plan, omitted, Plans, no_plans, join, number_of}
use Rattle.asl_shape.specs.Shapes
use Rattle.asl_terms.specs.Terms.{Shaped, fine}
use Rattle.asl_shape.specs.Shapes.{begin, followed, field_part, no_comma, whole_alone, begun, of_bits, unit_behind}
use Rattle.asl_terms.specs.AtRaw.{place_at}
use Rattle.asl_shape.specs.AtRaw.{shape_at, bare_at, is_separator_at, elements_at, element_place_at, meaning_at, part_at, unit_at}
use Rattle.asl_shape.specs.AtRaw.{due_behind_at, begin_at, comma_at, bits_at}
use Rattle.asl_terms.proofs.Terms.{nothing_more}
use Rattle.asl_terms.proofs.Bracketed.{from_item}
use Rattle.term_plans.proofs.Lists.{join_assoc}
use Rattle.asl_terms.proofs.Joins.{nothing_behind}

-- ---- a member, by what is due

pub part_begin : (unit : Option UnitName) (inside : Around) (r : Raw) → part_at Due.Element unit inside r ≡ begin_at inside r
unfolding part_at begin_at
part_begin unit inside r = by (is_separator_at r)
  where
    read : Shaped Plan
    read = shape_at (slot_as slot.FieldElement (meaning_at r)) inside r

    by : (b : Bool) → field_part Due.Element unit (element_place_at r) (is_whole (meaning_at r)) b read ≡ field_part Due.Element None (element_place_at r) (is_whole (meaning_at r)) b read
    by true = refl
    by false = refl

pub part_comma : (unit : Option UnitName) (inside : Around) (r : Raw) → part_at Due.NameComma unit inside r ≡ comma_at unit r
unfolding part_at comma_at
part_comma unit inside r = by (is_separator_at r)
  where
    by : (b : Bool) → field_part Due.NameComma unit (element_place_at r) (is_whole (meaning_at r)) b (shape_at (slot_as slot.FieldElement (meaning_at r)) inside r)
        ≡ field_part Due.NameComma unit (element_place_at r) (is_whole (meaning_at r)) b (fine omitted)
    by true = refl
    by false = refl

pub part_bits : (unit : Option UnitName) (inside : Around) (r : Raw) → part_at Due.Bits unit inside r ≡ bits_at unit inside r
unfolding part_at bits_at
part_bits unit inside r = refl

pub part_none : (unit : Option UnitName) (inside : Around) (r : Raw) → part_at Due.Comma unit inside r ≡ fine no_plans
unfolding part_at
part_none unit inside r = refl

pub unit_begin : (unit : Option UnitName) (inside : Around) (r : Raw) → unit_at Due.Element unit inside r ≡ unit_at begin None inside r
unfolding unit_at
unit_begin unit inside r = by (is_separator_at r)
  where
    read : Plan
    read = (shape_at (slot_as slot.FieldElement (meaning_at r)) inside r).made

    by : (b : Bool) → unit_behind Due.Element unit (element_place_at r) (is_whole (meaning_at r)) b read ≡ unit_behind Due.Element None (element_place_at r) (is_whole (meaning_at r)) b read
    by true = refl
    by false = refl

pub unit_comma : (unit : Option UnitName) (inside : Around) (r : Raw) → unit_at Due.NameComma unit inside r ≡ unit
unfolding unit_at
unit_comma unit inside r = refl

pub unit_bits : (unit : Option UnitName) (inside : Around) (r : Raw) → unit_at Due.Bits unit inside r ≡ None
unfolding unit_at
unit_bits unit inside r = refl

pub unit_none : (unit : Option UnitName) (inside : Around) (r : Raw) → unit_at Due.Comma unit inside r ≡ None
unfolding unit_at
unit_none unit inside r = refl

pub comma_made : (unit : Option UnitName) (r : Raw) → (comma_at unit r).made ≡ no_plans
unfolding comma_at
comma_made unit r = by (is_separator_at r)
  where
    by : (b : Bool) → (field_part Due.NameComma unit (element_place_at r) (is_whole (meaning_at r)) b (fine omitted)).made ≡ no_plans
    by true = refl
    by false = refl

pub ruleset part_rules = (part_begin, part_comma, part_bits, part_none, unit_begin, unit_comma, unit_bits, unit_none, comma_made, nothing_more, nothing_behind)

-- ---- a begin

abbrev read_begin : Around → Raw → Shaped Plan
read_begin inside r = shape_at (slot_as slot.FieldElement (meaning_at r)) inside r

pub begin_skip : (inside : Around) (r : Raw) → is_separator_at r ≡ true → begin_at inside r ≡ fine no_plans
unfolding begin_at
begin_skip inside r e = ap (λ b. field_part begin None (element_place_at r) (is_whole (meaning_at r)) b (read_begin inside r)) e

pub begin_faults : (inside : Around) (r : Raw) → is_separator_at r ≡ false → (begin_at inside r).faults ≡ (shape_at (slot_as slot.FieldElement (meaning_at r)) inside r).faults
unfolding begin_at
begin_faults inside r e = ap (λ b. (field_part begin None (element_place_at r) (is_whole (meaning_at r)) b (read_begin inside r)).faults) e

pub begin_made : (inside : Around) (r : Raw) → is_separator_at r ≡ false
    → (begin_at inside r).made ≡ whole_alone (is_whole (meaning_at r)) (element_place_at r) (shape_at (slot_as slot.FieldElement (meaning_at r)) inside r).made
unfolding begin_at
begin_made inside r e = ap (λ b. (field_part begin None (element_place_at r) (is_whole (meaning_at r)) b (read_begin inside r)).made) e

pub unit_skip : (inside : Around) (r : Raw) → is_separator_at r ≡ true → unit_at begin None inside r ≡ None
unfolding unit_at
unit_skip inside r e = ap (λ b. unit_behind begin None (element_place_at r) (is_whole (meaning_at r)) b (read_begin inside r).made) e

pub unit_named : (inside : Around) (r : Raw) → is_separator_at r ≡ false
    → unit_at begin None inside r ≡ begun (is_whole (meaning_at r)) (element_place_at r) (shape_at (slot_as slot.FieldElement (meaning_at r)) inside r).made
unfolding unit_at
unit_named inside r e = ap (λ b. unit_behind begin None (element_place_at r) (is_whole (meaning_at r)) b (read_begin inside r).made) e

pub ruleset begin_rules = (begin_skip, begin_faults, begin_made, unit_skip, unit_named, nothing_more, nothing_behind)

-- ---- a comma that is missed

pub comma_skip : (unit : Option UnitName) (r : Raw) → is_separator_at r ≡ true → (comma_at unit r).faults ≡ []
unfolding comma_at
comma_skip unit r e = ap (λ b. (field_part Due.NameComma unit (element_place_at r) (is_whole (meaning_at r)) b (fine omitted)).faults) e

pub comma_missed : (unit : Option UnitName) (r : Raw) → is_separator_at r ≡ false → (comma_at unit r).faults ≡ no_comma unit
unfolding comma_at
comma_missed unit r e = ap (λ b. (field_part Due.NameComma unit (element_place_at r) (is_whole (meaning_at r)) b (fine omitted)).faults) e

pub ruleset comma_rules = (comma_skip, comma_missed, nothing_more)

-- ---- a number of bits

pub bits_faults : (unit : Option UnitName) (inside : Around) (r : Raw) → (bits_at unit inside r).faults ≡ (shape_at slot.Measure inside r).faults
unfolding bits_at
bits_faults unit inside r = refl

pub bits_made : (unit : Option UnitName) (inside : Around) (r : Raw) → (bits_at unit inside r).made ≡ of_bits unit (element_place_at r) (number_of (shape_at slot.Measure inside r).made)
unfolding bits_at
bits_made unit inside r = refl

pub ruleset bits_rules = (bits_faults, bits_made)

-- ---- the list from one of its members on

pub element_step : (due : Due) (unit : Option UnitName) (inside : Around) (raws : List Raw) (i : ℕ) (d : Raw) → i < length raws
    → elements_at due unit inside (drop i raws) ≡ followed (part_at due unit inside (get_or raws i d)) (elements_at (due_behind_at due (get_or raws i d)) (unit_at due unit inside (get_or raws i d)) inside (drop (i + 1) raws))
unfolding elements_at writtens place_at bare_at is_separator_at due_behind_at part_at unit_at element_place_at meaning_at
element_step due unit inside raws i d lt = ap (λ rs. Shapes.elements due unit inside (writtens rs)) (from_item raws i d lt)

pub element_end : (due : Due) (unit : Option UnitName) (inside : Around) (raws : List Raw) (i : ℕ) → length raws ≤ i → elements_at due unit inside (drop i raws) ≡ fine no_plans
unfolding elements_at writtens
element_end due unit inside raws i le = ap (λ rs. Shapes.elements due unit inside (writtens rs)) (drop_all i raws le)

pub element_faults : (due next : Due) (unit later : Option UnitName) (inside : Around) (raws : List Raw) (i : ℕ) (d : Raw) (old new w : List Message) → i < length raws
    → next ≡ due_behind_at due (get_or raws i d) → later ≡ unit_at due unit inside (get_or raws i d)
    → old ++ (elements_at due unit inside (drop i raws)).faults ≡ w → new ≡ old ++ (part_at due unit inside (get_or raws i d)).faults
    → new ++ (elements_at next later inside (drop (i + 1) raws)).faults ≡ w
element_faults due next unit later inside raws i d old new w lt n u e f =
    let r = get_or raws i d in
    let rest : Shaped Plans = elements_at (due_behind_at due r) (unit_at due unit inside r) inside (drop (i + 1) raws) in
    ap (λ x. new ++ (elements_at x later inside (drop (i + 1) raws)).faults) n ∙ ap (λ x. new ++ (elements_at (due_behind_at due r) x inside (drop (i + 1) raws)).faults) u
    ∙ ap (λ ms. ms ++ rest.faults) f ∙ append_assoc old (part_at due unit inside r).faults rest.faults
    ∙ ap (λ x. old ++ x.faults) (sym (element_step due unit inside raws i d lt)) ∙ e

pub element_made : (due next : Due) (unit later : Option UnitName) (inside : Around) (raws : List Raw) (i : ℕ) (d : Raw) (old new w : Plans) → i < length raws
    → next ≡ due_behind_at due (get_or raws i d) → later ≡ unit_at due unit inside (get_or raws i d)
    → join old (elements_at due unit inside (drop i raws)).made ≡ w → new ≡ join old (part_at due unit inside (get_or raws i d)).made
    → join new (elements_at next later inside (drop (i + 1) raws)).made ≡ w
element_made due next unit later inside raws i d old new w lt n u e f =
    let r = get_or raws i d in
    let rest : Shaped Plans = elements_at (due_behind_at due r) (unit_at due unit inside r) inside (drop (i + 1) raws) in
    ap (λ x. join new (elements_at x later inside (drop (i + 1) raws)).made) n ∙ ap (λ x. join new (elements_at (due_behind_at due r) x inside (drop (i + 1) raws)).made) u
    ∙ ap (λ ms. join ms rest.made) f ∙ join_assoc old (part_at due unit inside r).made rest.made
    ∙ ap (λ x. join old x.made) (sym (element_step due unit inside raws i d lt)) ∙ e

pub ruleset element_steps = (element_end, nothing_more, nothing_behind)
