-- The texts of a block's header have room in it.
use Rattle.std.proofs.Common.{◌≡◌, ℕ, ◌≤◌, Bool, true, false, List, [], ◌∷◌, length, refl, ap, ◌∙◌}
use Rattle.std.specs.Prelude.{codes, not, ◌&&◌, ◌||◌, if◌then◌else◌}
use Rattle.std.specs.Str.{bytes_eq}
use Rattle.std.proofs.lemmas.Bool.{leb-true}
use Rattle.std.proofs.lemmas.Slice.Eq.{bytes_eq-Decides}
use Rattle.iasl_messages.specs.declared.place.Place.{Place}
use Rattle.asl_tree.specs.declared.term.Op.{Op}
use Rattle.resource_layout.specs.declared.descriptor.Descriptor.{Descriptor}
use Rattle.asl_words.specs.declared.operator.Parameter.{Parameter}
use Rattle.asl_words.specs.declared.operator.Slot.{Slot}
use Rattle.asl_words.specs.declared.operator.Slot.TheVariants as slot
use Rattle.asl_words.specs.declared.operator.StringForm.{StringForm}
use Rattle.asl_words.specs.declared.operator.Known.TheVariants as known
use Rattle.asl_words.specs.declared.operator.TextMacro.{TextMacro}
use Rattle.word_meanings.specs.declared.meaning.Meaning.{Meaning}
use Rattle.word_meanings.specs.declared.meaning.Meaning.TheVariants as is
use Rattle.asl_syntax.specs.Written as piece
use Rattle.asl_syntax.specs.Written.{Written, Writtens, WrittenGroup, item, apply, listed, comma, semicolon, empty, none, more, absent, given}
use Rattle.asl_words.specs.declared.operator.FieldWord.{FieldWord}
use Rattle.asl_words.specs.Operators.{parameters_as, body_as, block_parameters, element_parameters, macro_parameters}
use Rattle.acpi_values.specs.declared.width.Width.{Width}
use Rattle.asl_shape.specs.declared.around.Around.{Around}
use Rattle.asl_words.specs.Resources.{descriptor_parameters, descriptor_body}
use Rattle.asl_words.specs.declared.operator.Body.TheVariants as braces
use Rattle.term_plans.specs.Plans.{Plan, a_text, omitted, Plans, no_plans, plan, join, text_of, plan_at}
use Rattle.asl_terms.specs.Terms.{Shaped, fine, unformed, is_given, inside_of, checked, place_of, after}
use Rattle.term_plans.specs.Places.{nowhere}
use Rattle.asl_shape.specs.Shapes.{is_empty, is_separator, has_arguments, takes, left_out, bare, call_args, arguments, arguments_in}
use Rattle.asl_shape.specs.Shapes.{contents, within, form_shape, read_shape, element_shape, macro_shape, template_shape, descriptor_shape, is_number_list}
use Rattle.asl_shape.specs.Shapes.{meaning_in}
use Rattle.word_meanings.specs.Meanings.{meaning_of, may_end, reading_of, slot_as}
use Rattle.asl_words.specs.Texts.{has_form, is_all_text, is_signature, is_oem_signature}
use Rattle.program_shapes.proofs.Plans.{are_asked, behind_asked}
use Rattle.program_shapes.proofs.Words.{both_true}
use Rattle.program_shapes.proofs.Parts.{none_in, good_of, item_fit}
use Rattle.program_shapes.specs.Kept.{AreArguments, EachArgument}

-- a text has its form, and each of its bytes may stand in a text
pub record IsTextOf (f : StringForm) (text : List ℕ) : Type 0 where
  pub form : has_form f text ≡ true
  pub bytes : is_all_text text ≡ true

-- a text that has to stand has its form
abbrev pub HasForm : Bool → Slot → Plan → Type 0
HasForm false (slot.String f) p = IsTextOf f (text_of p)
HasForm _ _ p = Unit {0}

abbrev pub HaveForms : List Parameter → Plans → Type 0
HaveForms [] no_plans = Unit {0}
HaveForms (q ∷ qs) (plan place p ps) = HasForm q.omittable q.slot p × HaveForms qs ps
HaveForms _ _ = ⊥

-- nothing but a string is read where a string is asked for
no_string : (f : StringForm) (at : Place) (word : List ℕ) (m : Meaning) (called : Bool) (calls : Shaped Plans) (element : FieldWord → Shaped Plan) (expanded : TextMacro → Shaped Plan) (template : Shaped Plan) (described : Descriptor → Shaped Plan) (form : Op → Shaped Plan)
    → (read_shape (slot.String f) at word (reading_of (slot.String f) m called) calls element expanded template described form).faults ≡ [] → ⊥
no_string f at word (is.Operator op) called calls element expanded template described form e = absurd cc
no_string f at word (is.Known (known.Word kind n)) called calls element expanded template described form e = absurd cc
no_string f at word (is.Known known.Debug) called calls element expanded template described form e = absurd cc
no_string f at word (is.Known (known.Element w)) called calls element expanded template described form e = absurd cc
no_string f at word (is.Known known.LeftOut) called calls element expanded template described form e = absurd cc
no_string f at word (is.Known (known.Local i)) called calls element expanded template described form e = absurd cc
no_string f at word (is.Known (known.Arg i)) called calls element expanded template described form e = absurd cc
no_string f at word is.Name true calls element expanded template described form e = absurd cc
no_string f at word is.Name false calls element expanded template described form e = absurd cc
no_string f at word is.Path true calls element expanded template described form e = absurd cc
no_string f at word is.Path false calls element expanded template described form e = absurd cc
no_string f at word (is.Macro m) called calls element expanded template described form e = absurd cc
no_string f at word (is.Known known.Template) called calls element expanded template described form e = absurd cc
no_string f at word (is.Known (known.Descriptor d)) called calls element expanded template described form e = absurd cc
no_string f at word is.Template called calls element expanded template described form e = absurd cc
no_string f at word (is.Descriptor d) called calls element expanded template described form e = absurd cc
no_string f at word (is.Known (known.Macro m)) called calls element expanded template described form e = absurd cc
no_string f at word (is.Element w) called calls element expanded template described form e = absurd cc
no_string f at word is.Unknown called calls element expanded template described form e = absurd cc

string_form : (f : StringForm) (inside : Around) (w : Written) → is_separator w ≡ false → is_empty w ≡ false → (bare (slot.String f) inside w).faults ≡ [] → IsTextOf f (text_of (bare (slot.String f) inside w).made)
string_form f inside (piece.text at bytes) sep emp e =
    good_of (λ p. IsTextOf f (text_of p)) (has_form f bytes && is_all_text bytes) (unformed f) at (fine (a_text bytes))
    (λ t g. let both = both_true (has_form f bytes) (is_all_text bytes) t in record { form = both.0; bytes = both.1 }) e
string_form f inside (item at w args body) sep emp e =
    let m : Meaning = meaning_of w (is_given body) in
    let form : Op → Shaped Plan = λ o. form_shape inside.width o at (arguments (parameters_as o (slot.String f)) at inside args) (contents (body_as o (slot.String f)) (within o inside) at body) in
    let element : FieldWord → Shaped Plan = λ e. element_shape e (arguments (element_parameters e) at inside args) in
    let expanded : TextMacro → Shaped Plan = λ m. macro_shape (arguments (macro_parameters m) at inside args) in
    let template : Shaped Plan = template_shape at (contents (braces.Descriptors false) inside at body) in
    let described : Descriptor → Shaped Plan = λ d. descriptor_shape d at (is_number_list (descriptor_body d) body) (arguments (descriptor_parameters d) at inside args) (contents (descriptor_body d) inside at body) in
    item_fit (λ p. IsTextOf f (text_of p)) (slot.String f) inside.method m (has_arguments m (inside_of args)) (is_given body) at (read_shape (slot.String f) at w (reading_of (slot.String f) m (is_given args)) (call_args inside args) element expanded template described form)
    (λ may has g. absurd (no_string f at w m (is_given args) (call_args inside args) element expanded template described form g)) e
string_form f inside (piece.number at n) sep emp e = absurd cc
string_form f inside (listed at ws) sep emp e = absurd cc
string_form f inside (apply at o ws) sep emp e = absurd cc
string_form f inside comma sep emp e = absurd cc
string_form f inside semicolon sep emp e = absurd cc
string_form f inside empty sep emp e = absurd cc

checked_form : (width : Width) (f : StringForm) (at : Place) (shape : Shaped Plan) → (shape.faults ≡ [] → IsTextOf f (text_of shape.made)) → (checked width (slot.String f) at shape).faults ≡ [] → IsTextOf f (text_of (checked width (slot.String f) at shape).made)
checked_form width f at shape h e = by shape.faults refl e
  where
    by : (fs : List _) → shape.faults ≡ fs → (after fs shape (fine shape.made)).faults ≡ [] → IsTextOf f (text_of (after fs shape (fine shape.made)).made)
    by [] g e = h g
    by (m ∷ ms) g e = absurd cc

not_left : (b : Bool) → (false || not b) ≡ true → b ≡ false
not_left true e = absurd cc
not_left false e = refl

argument_form : (b : Bool) (s : Slot) (inside : Around) (w : Written) → is_separator w ≡ false → (b || not (is_empty w)) ≡ true → (checked inside.width s (place_of nowhere w) (bare s inside w)).faults ≡ []
    → HasForm b s (checked inside.width s (place_of nowhere w) (bare s inside w)).made
argument_form false (slot.String f) inside w sep t e = checked_form inside.width f (place_of nowhere w) (bare (slot.String f) inside w) (λ g. string_form f inside w sep (not_left (is_empty w) t) g) e
argument_form false _ inside w sep t e = tt
argument_form true s inside w sep t e = tt

-- an argument has its form, however it is read
form_asked : (b : Bool) (s : Slot) (m : Meaning) (p : Plan) → HasForm b (slot_as s m) p → HasForm b s p
form_asked true slot.Space m p h = tt
form_asked false slot.Space m p h = tt
form_asked true slot.RegisterSpace m p h = tt
form_asked false slot.RegisterSpace m p h = tt
form_asked true (slot.WordOrByte which) m p h = tt
form_asked false (slot.WordOrByte which) m p h = tt
form_asked true slot.AccessType m p h = tt
form_asked false slot.AccessType m p h = tt
form_asked true slot.Attribute m p h = tt
form_asked false slot.Attribute m p h = tt
form_asked true slot.FieldElement m p h = tt
form_asked false slot.FieldElement m p h = tt
form_asked b _ m p h = h

left_form : (b : Bool) (s : Slot) → b ≡ true → HasForm b s omitted
left_form true s e = tt
left_form false s e = absurd cc

left_forms : (qs : List Parameter) (at : Place) → are_asked qs ≡ true → may_end qs ≡ true → HaveForms qs (left_out at qs)
left_forms [] at a e = tt
left_forms (q ∷ qs) at a e =
    let p = both_true (q.omittable || q.further) (may_end qs) e in by q.further a p.0 (left_forms qs at (behind_asked q.further (are_asked qs) a) p.1)
  where
    asked : (b : Bool) → (b || false) ≡ true → b ≡ true
    asked true e = refl
    asked false e = absurd cc

    by : (b : Bool) → (not b && are_asked qs) ≡ true → (q.omittable || b) ≡ true → HaveForms qs (left_out at qs)
        → HaveForms (q ∷ qs) (join (if b then no_plans else plan at omitted no_plans) (left_out at qs))
    by true a e k = absurd cc
    by false a e k = (left_form q.omittable q.slot (asked q.omittable e), k)

each_form : (qs : List Parameter) (at : Place) (inside : Around) (ws : Writtens) → EachArgument ws → are_asked qs ≡ true → takes qs ws ≡ true → (arguments_in qs at inside ws).faults ≡ [] → HaveForms qs (arguments_in qs at inside ws).made
each_form [] at inside none k a t e = tt
each_form (q ∷ qs) at inside none k a t e = left_forms (q ∷ qs) at a t
each_form [] at inside (more w ws) k a t e = absurd cc
each_form (q ∷ qs) at inside (more w ws) k a t e =
    let s : Slot = slot_as q.slot (meaning_in w) in
    let first : Shaped Plan = checked inside.width s (place_of nowhere w) (bare s inside w) in
    let f = none_in first.faults (arguments_in qs at inside ws).faults e in
    let g = both_true (q.omittable || not (is_empty w)) (takes qs ws) t in
    (form_asked q.omittable q.slot (meaning_in w) first.made (argument_form q.omittable s inside w k.1 g.0 f.0), each_form qs at inside ws k.2 (both_true (not q.further) (are_asked qs) a).1 g.1 f.1)

pub arguments_form : (qs : List Parameter) (at : Place) (inside : Around) (args : WrittenGroup) → AreArguments args → are_asked qs ≡ true → takes qs (inside_of args) ≡ true → (arguments qs at inside args).faults ≡ [] → HaveForms qs (arguments qs at inside args).made
arguments_form [] at inside absent k a t e = tt
arguments_form (q ∷ qs) at inside absent k a t e = left_forms (q ∷ qs) at a t
arguments_form qs at inside (given ws) k a t e = each_form qs at inside ws k a t e

-- ---- the forms of texts

four : (text word : List ℕ) → length word ≡ 4 → bytes_eq text word ≡ true → length text ≡ 4
four text word w e = ap length ((bytes_eq-Decides text word).0 e) ∙ w

oem_length : (text : List ℕ) → is_oem_signature text ≡ true → length text ≡ 4
oem_length (a ∷ b ∷ c ∷ d ∷ []) e = refl
oem_length _ e = absurd cc

signature_length : (text : List ℕ) → is_signature text ≡ true → length text ≡ 4
signature_length text e = by (bytes_eq text (codes "DSDT")) (bytes_eq text (codes "SSDT")) (bytes_eq text (codes "PSDT")) refl refl refl e
  where
    by : (a b c : Bool) → bytes_eq text (codes "DSDT") ≡ a → bytes_eq text (codes "SSDT") ≡ b → bytes_eq text (codes "PSDT") ≡ c → (a || (b || (c || is_oem_signature text))) ≡ true → length text ≡ 4
    by true b c h i j e = four text (codes "DSDT") refl h
    by false true c h i j e = four text (codes "SSDT") refl i
    by false false true h i j e = four text (codes "PSDT") refl j
    by false false false h i j e = oem_length text e

-- a header's texts
pub record HaveRoom (ps : Plans) : Type 0 where
  pub signature : length (text_of (plan_at ps 1)) ≡ 4
  pub oem_id : length (text_of (plan_at ps 3)) ≤ 6
  pub table_id : length (text_of (plan_at ps 4)) ≤ 8

pub block_asked : are_asked block_parameters ≡ true
unfolding block_parameters
block_asked = refl

pub room_of : (ps : Plans) → HaveForms block_parameters ps → HaveRoom ps
unfolding block_parameters
room_of (plan a0 p0 (plan a1 p1 (plan a2 p2 (plan a3 p3 (plan a4 p4 ps))))) h =
    record { signature = signature_length (text_of p1) h.1.0.form; oem_id = leb-true (length (text_of p3)) 6 h.1.1.1.0.form; table_id = leb-true (length (text_of p4)) 8 h.1.1.1.1.0.form }
room_of no_plans h = absurd h
room_of (plan a0 p0 no_plans) h = absurd h.1
room_of (plan a0 p0 (plan a1 p1 no_plans)) h = absurd h.1.1
room_of (plan a0 p0 (plan a1 p1 (plan a2 p2 no_plans))) h = absurd h.1.1.1
room_of (plan a0 p0 (plan a1 p1 (plan a2 p2 (plan a3 p3 no_plans)))) h = absurd h.1.1.1.1
